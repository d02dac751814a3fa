-- What bytes begin with: a message of HTTP/1.x, or why there is none. Requests and responses share these definitions, over the grammar of their heads (RFC 9112, by httparse). They speak of bytes alone, and not of the pieces in which bytes are read. The limits, and which heads are refused, are this project's own rules.
use Rattle.std.specs.Prelude.{◌≡◌, ℕ, ◌<◌, ◌≤◌, ◌⊎◌, Bool, true, false, List, [], ◌∷◌, ◌++◌, length, take, map, Option, None, Some, Result, Ok, Err, IsTrue, IsSome, IfOk, IfSome, ⊤, unwrap_or}
use Rattle.httparse.specs.Grammar.{Field}
use Rattle.httparse.specs.Spans.{name_and_value}
use Rattle.keep_wire.specs.Fields.{Pairs, is_framed, length_of}
use Rattle.keep_wire.specs.declared.message.WireError.{WireError}
use Rattle.keep_wire.specs.declared.message.WireError.TheVariants.{ReadFault, BadHead, LengthRequired, BodyTooLong, CutBody, NoMemory}
use Rattle.keep_wire.specs.declared.message.TheConstants.{HEAD_MAX, FIELDS_MAX, BODY_MAX}

-- A kind of head: which heads are valid, their bytes and fields, the bytes within which a head isn't judged yet, and whether a head has to say how long its body is.
pub record Grammar (H : Type 0) : Type 1 where
  pub valid : H → Type 0
  pub print : H → List ℕ
  pub fields : H → List Field
  pub waits : List ℕ → Type 0
  pub needs_length : H → Bool

-- the bytes are this head, and then the rest
abbrev pub Reads : {H : Type 0} → Grammar H → List ℕ → H → List ℕ → Type 0
Reads g bytes h rest = g.valid h × (bytes ≡ g.print h ++ rest)

-- the bytes don't begin with a head
abbrev pub HasNone : {H : Type 0} → Grammar H → List ℕ → Type 0
HasNone {H} g bytes = (h : H) (rest : List ℕ) → ¬ (Reads g bytes h rest)

-- the bytes don't begin with a head, whatever follows them
abbrev pub NeverHas : {H : Type 0} → Grammar H → List ℕ → Type 0
NeverHas g bytes = (more : List ℕ) → HasNone g (bytes ++ more)

-- some bytes can follow that complete a head
abbrev pub MayBecome : {H : Type 0} → Grammar H → List ℕ → Type 0
MayBecome {H} g bytes = (more : List ℕ) × (h : H) × Reads g (bytes ++ more) h []

-- the names and values of the fields
abbrev pub pairs_of : {H : Type 0} → Grammar H → H → Pairs
pairs_of g h = map name_and_value (g.fields h)

-- ---- bad heads

abbrev pub IsHopeless : {H : Type 0} → Grammar H → List ℕ → Type 0
IsHopeless g bytes = ¬ (g.waits bytes) × NeverHas g bytes

-- The bytes begin with more whole field lines than a head may have, complete or not as the head is: some prefix and an empty line make such a head.
abbrev pub HasManyFields : {H : Type 0} → Grammar H → List ℕ → Type 0
HasManyFields {H} g bytes =
    (front : List ℕ) × (rest : List ℕ) × (bytes ≡ front ++ rest)
    × (h : H) × Reads g (front ++ 10 ∷ []) h [] × (FIELDS_MAX < length (g.fields h))

-- the bytes are more than a head may have, and no head ends within that many
abbrev pub IsLongHead : {H : Type 0} → Grammar H → List ℕ → Type 0
IsLongHead g bytes = (HEAD_MAX < length bytes) × HasNone g (take HEAD_MAX bytes)

-- the bytes begin with a head that doesn't say where its body ends in the one accepted way
abbrev pub HasUnframedHead : {H : Type 0} → Grammar H → List ℕ → Type 0
HasUnframedHead {H} g bytes = (h : H) × (rest : List ℕ) × Reads g bytes h rest × (is_framed (pairs_of g h) ≡ false)

abbrev pub IsBadHead : {H : Type 0} → Grammar H → List ℕ → Type 0
IsBadHead g bytes = IsHopeless g bytes ⊎ HasManyFields g bytes ⊎ IsLongHead g bytes ⊎ HasUnframedHead g bytes

-- ---- heads

-- the bytes begin with a head that isn't bad
pub record HasHead {H : Type 0} (g : Grammar H) (bytes : List ℕ) (h : H) (rest : List ℕ) : Type 0 where
  pub reads : Reads g bytes h rest
  pub short : length (g.print h) ≤ HEAD_MAX
  pub few : length (g.fields h) ≤ FIELDS_MAX
  pub framed : is_framed (pairs_of g h) ≡ true

-- the bytes end inside a head that isn't bad so far
pub record IsCutHead {H : Type 0} (g : Grammar H) (bytes : List ℕ) : Type 0 where
  pub some : 0 < length bytes
  pub short : length bytes ≤ HEAD_MAX
  pub none : HasNone g bytes
  pub few : ¬ (HasManyFields g bytes)
  pub goes_on : g.waits bytes ⊎ MayBecome g bytes

-- ---- bodies

-- a length that may be left out is 0
abbrev pub body_length : {H : Type 0} → Grammar H → H → ℕ
body_length g h = unwrap_or (length_of (pairs_of g h)) 0

-- there is a length where one is needed
abbrev pub HasLength : {H : Type 0} → Grammar H → H → Type 0
HasLength g h = IsTrue (g.needs_length h) → IsSome (length_of (pairs_of g h))

abbrev pub IsLengthRequired : {H : Type 0} → Grammar H → List ℕ → Type 0
IsLengthRequired {H} g bytes =
    (h : H) × (rest : List ℕ) × HasHead g bytes h rest × IsTrue (g.needs_length h) × (length_of (pairs_of g h) ≡ None)

abbrev pub IsBodyTooLong : {H : Type 0} → Grammar H → List ℕ → ℕ → Type 0
IsBodyTooLong {H} g bytes n =
    (h : H) × (rest : List ℕ) × HasHead g bytes h rest × (length_of (pairs_of g h) ≡ Some n) × (BODY_MAX < n)

-- the bytes end inside the body
abbrev pub IsCutBody : {H : Type 0} → Grammar H → List ℕ → Type 0
IsCutBody {H} g bytes =
    (h : H) × (rest : List ℕ) × HasHead g bytes h rest × HasLength g h × (body_length g h ≤ BODY_MAX) × (length rest < body_length g h)

-- ---- messages

-- The bytes begin with the message that a head and a body make, and these are left.
pub record IsMessage {H M : Type 0} (g : Grammar H) (make : H → List ℕ → M) (bytes : List ℕ) (message : M) (left : List ℕ) : Type 0 where
  pub head : H
  pub body : List ℕ
  pub has : HasHead g bytes head (body ++ left)
  pub length_there : HasLength g head
  pub length_is : length body ≡ body_length g head
  pub short : length body ≤ BODY_MAX
  pub made : message ≡ make head body

-- What comes next of known bytes, and what is left then. Nothing is said where the bytes aren't known, and a read that fails or memory that is refused can come whatever the bytes are.
abbrev pub IsNext : {H M : Type 0} → Grammar H → (H → List ℕ → M) → Option (List ℕ) → Result (Option M) WireError → Option (List ℕ) → Type 0
IsNext g make None result left = ⊤
IsNext g make (Some bytes) (Ok None) left = (bytes ≡ []) × (left ≡ Some [])
IsNext g make (Some bytes) (Ok (Some m)) None = ⊥
IsNext g make (Some bytes) (Ok (Some m)) (Some left) = IsMessage g make bytes m left
IsNext g make (Some bytes) (Err BadHead) left = IsBadHead g bytes
IsNext g make (Some bytes) (Err LengthRequired) left = IsLengthRequired g bytes
IsNext g make (Some bytes) (Err (BodyTooLong n)) left = IsBodyTooLong g bytes n
IsNext g make (Some bytes) (Err CutBody) left = IsCutHead g bytes ⊎ IsCutBody g bytes
IsNext g make (Some bytes) (Err ReadFault) left = ⊤
IsNext g make (Some bytes) (Err NoMemory) left = ⊤

-- ---- at most one answer

-- whether an answer is one that the bytes decide
abbrev pub IsDecided : {M : Type 0} → Result (Option M) WireError → Type 0
IsDecided (Ok m) = ⊤
IsDecided (Err BadHead) = ⊤
IsDecided (Err LengthRequired) = ⊤
IsDecided (Err (BodyTooLong n)) = ⊤
IsDecided (Err CutBody) = ⊤
IsDecided (Err ReadFault) = ⊥
IsDecided (Err NoMemory) = ⊥

-- known bytes have at most one such answer, and after a message one rest
abbrev pub AreDetermined : {H M : Type 0} → Grammar H → (H → List ℕ → M) → Type 0
AreDetermined {H} {M} g make =
    (bytes : List ℕ) (r s : Result (Option M) WireError) (a b : Option (List ℕ)) → IsDecided r → IsDecided s
    → IsNext g make (Some bytes) r a → IsNext g make (Some bytes) s b → (r ≡ s) × IfOk r (λ o. IfSome o (λ _. a ≡ b))

-- known bytes have such an answer: that they have none can't be
abbrev pub IsSomethingNext : {H M : Type 0} → Grammar H → (H → List ℕ → M) → Type 0
IsSomethingNext {H} {M} g make =
    (bytes : List ℕ) → ¬ ((r : Result (Option M) WireError) (left : Option (List ℕ)) → IsDecided r → ¬ (IsNext g make (Some bytes) r left))
