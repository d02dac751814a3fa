-- What is seen of the bytes that were read so far. For private clauses.
use Rattle.std.specs.Prelude.{◌≡◌, ℕ, ◌+◌, ◌<◌, ◌≤◌, ◌⊎◌, ◌==◌, ◌||◌, Bool, true, false, List, [], ◌∷◌, ◌++◌, length, take, drop, map, Option, None, Some, Result, Ok, Err, IsTrue, IsSome, unwrap_or, if◌then◌else◌, ⊤}
use Rattle.std.specs.Io.KnownBytes.{prepend_known, IsAtEnd, Keeps}
use Rattle.httparse.specs.declared.spans.HeaderSpan.{HeaderSpan}
use Rattle.httparse.specs.Spans.{span_bytes, IsWithin, header_bytes}
use Rattle.keep_wire.specs.declared.fields.Only as O
use Rattle.keep_wire.specs.declared.fields.Only.TheVariants.{Absent, One, Many}
use Rattle.keep_wire.specs.declared.head.Begun.{Begun}
use Rattle.keep_wire.specs.declared.message.WireError.{WireError}
use Rattle.keep_wire.specs.declared.message.WireError.TheVariants.{ReadFault, BadHead, LengthRequired, BodyTooLong, CutBody, NoMemory}
use Rattle.keep_wire.specs.declared.message.TheConstants.{HEAD_MAX, BODY_MAX}
use Rattle.keep_wire.specs.Fields.{Pairs, is_framed, length_of}
use Rattle.keep_wire.specs.Messages.{Grammar, HasNone, NeverHas, MayBecome, pairs_of, HasManyFields, IsBadHead, HasHead, IsCutHead, body_length, HasLength, IsLengthRequired, IsBodyTooLong}

-- ---- lines

abbrev pub is_line_byte : ℕ → Bool
is_line_byte b = b == 10 || b == 13

-- the bytes from the first that ends no line
abbrev pub skip_empty : List ℕ → List ℕ
skip_empty [] = []
skip_empty (b ∷ bs) = if is_line_byte b then skip_empty bs else b ∷ bs

abbrev pub newlines : List ℕ → ℕ
newlines [] = 0
newlines (b ∷ bs) = if b == 10 then 1 + newlines bs else newlines bs

-- how many lines end after the empty lines at the front
abbrev pub lines_in : List ℕ → ℕ
lines_in bytes = newlines (skip_empty bytes)

abbrev pub lines_from : Bool → List ℕ → ℕ
lines_from begun bytes = if begun then newlines bytes else lines_in bytes

abbrev pub front_of : List ℕ → List ℕ
front_of bytes = take HEAD_MAX bytes

-- ---- fields

-- the fields that the spans cover
abbrev pub pairs_at : List ℕ → List HeaderSpan → Pairs
pairs_at bytes headers = map (header_bytes bytes) headers

abbrev pub IsOnly : List ℕ → List (List ℕ) → O.Only → Type 0
IsOnly bytes values Absent = values ≡ []
IsOnly bytes values (One s) = IsWithin (length bytes) s × (values ≡ span_bytes bytes s ∷ [])
IsOnly bytes values Many = (a : List ℕ) × (b : List ℕ) × (rest : List (List ℕ)) × (values ≡ a ∷ b ∷ rest)

-- what was found so far, where these values are still to come
abbrev pub IsOnlySoFar : List ℕ → List (List ℕ) → List (List ℕ) → O.Only → Type 0
IsOnlySoFar bytes values rest Absent = values ≡ rest
IsOnlySoFar bytes values rest (One s) = IsWithin (length bytes) s × (values ≡ span_bytes bytes s ∷ rest)
IsOnlySoFar bytes values rest Many = ⊥

-- how long the body is, by the fields, and whether they have to say it
abbrev pub IsLength : Bool → Pairs → Result ℕ WireError → Type 0
IsLength needed fs (Ok n) = (is_framed fs ≡ true) × (IsTrue needed → IsSome (length_of fs)) × (n ≡ unwrap_or (length_of fs) 0) × (n ≤ BODY_MAX)
IsLength needed fs (Err BadHead) = is_framed fs ≡ false
IsLength needed fs (Err LengthRequired) = (is_framed fs ≡ true) × IsTrue needed × (length_of fs ≡ None)
IsLength needed fs (Err (BodyTooLong n)) = (is_framed fs ≡ true) × (length_of fs ≡ Some n) × (BODY_MAX < n)
IsLength needed fs (Err CutBody) = ⊥
IsLength needed fs (Err ReadFault) = ⊥
IsLength needed fs (Err NoMemory) = ⊥

-- ---- heads

-- what a whole head of this many bytes begins, or why it is refused
abbrev pub IsBegunBy : {H M : Type 0} → Grammar H → (H → List ℕ → M) → H → ℕ → Result (Begun M) WireError → Type 0
IsBegunBy g make h n (Ok b) = (is_framed (pairs_of g h) ≡ true) × HasLength g h × (b.body ≡ body_length g h) × (b.body ≤ BODY_MAX) × (b.head ≡ n) × (b.message ≡ make h [])
IsBegunBy g make h n (Err BadHead) = is_framed (pairs_of g h) ≡ false
IsBegunBy g make h n (Err LengthRequired) = (is_framed (pairs_of g h) ≡ true) × IsTrue (g.needs_length h) × (length_of (pairs_of g h) ≡ None)
IsBegunBy g make h n (Err (BodyTooLong m)) = (is_framed (pairs_of g h) ≡ true) × (length_of (pairs_of g h) ≡ Some m) × (BODY_MAX < m)
IsBegunBy g make h n (Err CutBody) = ⊥
IsBegunBy g make h n (Err ReadFault) = ⊥
IsBegunBy g make h n (Err NoMemory) = ⊤

-- no head yet, but there may be one
pub record IsOpen {H : Type 0} (g : Grammar H) (bytes : List ℕ) : Type 0 where
  pub none : HasNone g bytes
  pub few : ¬ (HasManyFields g bytes)
  pub goes_on : g.waits bytes ⊎ MayBecome g bytes

-- the bytes begin with the head of this message, and these are left
pub record IsBegun {H M : Type 0} (g : Grammar H) (make : H → List ℕ → M) (bytes : List ℕ) (b : Begun M) (left : List ℕ) : Type 0 where
  pub head : H
  pub has : HasHead g bytes head left
  pub length_there : HasLength g head
  pub length_is : b.body ≡ body_length g head
  pub short : b.body ≤ BODY_MAX
  pub made : b.message ≡ make head []

-- what a look at all of the bytes says
abbrev pub IsLooked : {H M : Type 0} → Grammar H → (H → List ℕ → M) → List ℕ → Result (Option (Begun M)) WireError → Type 0
IsLooked g make bytes (Ok (Some b)) = (b.head ≤ length bytes) × IsBegun g make bytes b (drop b.head bytes)
IsLooked g make bytes (Ok None) = (length bytes ≤ HEAD_MAX) × IsOpen g bytes
IsLooked g make bytes (Err BadHead) = IsBadHead g bytes
IsLooked g make bytes (Err LengthRequired) = IsLengthRequired g bytes
IsLooked g make bytes (Err (BodyTooLong n)) = IsBodyTooLong g bytes n
IsLooked g make bytes (Err CutBody) = ⊥
IsLooked g make bytes (Err ReadFault) = ⊥
IsLooked g make bytes (Err NoMemory) = ⊤

-- the same at the end of the input
abbrev pub IsEnded : {H M : Type 0} → Grammar H → (H → List ℕ → M) → List ℕ → Result (Option (Begun M)) WireError → Type 0
IsEnded g make bytes (Ok (Some b)) = (b.head ≤ length bytes) × IsBegun g make bytes b (drop b.head bytes)
IsEnded g make bytes (Ok None) = length bytes ≡ 0
IsEnded g make bytes (Err BadHead) = IsBadHead g bytes
IsEnded g make bytes (Err LengthRequired) = IsLengthRequired g bytes
IsEnded g make bytes (Err (BodyTooLong n)) = IsBodyTooLong g bytes n
IsEnded g make bytes (Err CutBody) = IsCutHead g bytes
IsEnded g make bytes (Err ReadFault) = ⊥
IsEnded g make bytes (Err NoMemory) = ⊤

-- what was found of a head, and what the source has left
abbrev pub IsFound : {H M : Type 0} → Grammar H → (H → List ℕ → M) → List ℕ → Option (List ℕ) → Result (Option (Begun M)) WireError → Type 0
IsFound g make bytes left (Ok (Some b)) = (b.head ≤ length bytes) × IsBegun g make bytes b (drop b.head bytes)
IsFound g make bytes left (Ok None) = (length bytes ≡ 0) × IsAtEnd left
IsFound g make bytes left (Err BadHead) = IsBadHead g bytes
IsFound g make bytes left (Err LengthRequired) = IsLengthRequired g bytes
IsFound g make bytes left (Err (BodyTooLong n)) = IsBodyTooLong g bytes n
IsFound g make bytes left (Err CutBody) = IsCutHead g bytes × IsAtEnd left
IsFound g make bytes left (Err ReadFault) = ⊤
IsFound g make bytes left (Err NoMemory) = ⊤

-- the next message apart from its body, of known bytes
abbrev pub IsBegunNext : {H M : Type 0} → Grammar H → (H → List ℕ → M) → Option (List ℕ) → Result (Option (Begun M)) WireError → Option (List ℕ) → Type 0
IsBegunNext g make None result left = ⊤
IsBegunNext g make (Some bytes) (Ok None) left = (bytes ≡ []) × (left ≡ Some [])
IsBegunNext g make (Some bytes) (Ok (Some b)) None = ⊥
IsBegunNext g make (Some bytes) (Ok (Some b)) (Some left) = IsBegun g make bytes b left
IsBegunNext g make (Some bytes) (Err BadHead) left = IsBadHead g bytes
IsBegunNext g make (Some bytes) (Err LengthRequired) left = IsLengthRequired g bytes
IsBegunNext g make (Some bytes) (Err (BodyTooLong n)) left = IsBodyTooLong g bytes n
IsBegunNext g make (Some bytes) (Err CutBody) left = IsCutHead g bytes
IsBegunNext g make (Some bytes) (Err ReadFault) left = ⊤
IsBegunNext g make (Some bytes) (Err NoMemory) left = ⊤

-- what waits within some bytes doesn't begin to wait after them
abbrev pub NeverWaitsAgain : {H : Type 0} → Grammar H → Type 0
NeverWaitsAgain g = (p m : List ℕ) → ¬ (g.waits p) → NeverHas g p → ¬ (g.waits (p ++ m))

-- ---- reads

-- the bytes stay, unless memory was refused
abbrev pub SameBytes : {T : Type 0} → Result T WireError → List ℕ → Option (List ℕ) → List ℕ → Option (List ℕ) → Type 0
SameBytes (Err NoMemory) old old_left new new_left = ⊤
SameBytes r old old_left new new_left = Keeps (prepend_known old old_left) (prepend_known new new_left)

-- at most this many bytes were read, or the source is at its end
abbrev pub IsReadMore : ℕ → List ℕ → Option (List ℕ) → List ℕ → Option (List ℕ) → Result Bool WireError → Type 0
IsReadMore most old a new b (Ok true) = Keeps (prepend_known old a) (prepend_known new b) × (length old < length new) × (length new ≤ length old + most)
IsReadMore most old a new b (Ok false) = Keeps (prepend_known old a) (prepend_known new b) × (new ≡ old) × IsAtEnd b
IsReadMore most old a new b (Err ReadFault) = Keeps (prepend_known old a) (prepend_known new b)
IsReadMore most old a new b (Err NoMemory) = ⊤
IsReadMore most old a new b (Err BadHead) = ⊥
IsReadMore most old a new b (Err LengthRequired) = ⊥
IsReadMore most old a new b (Err (BodyTooLong n)) = ⊥
IsReadMore most old a new b (Err CutBody) = ⊥

-- a body of this many bytes is there, or the input ends before
abbrev pub IsFilled : {T : Type 0} → ℕ → List ℕ → Option (List ℕ) → Result T WireError → Type 0
IsFilled n body left (Ok x) = length body ≡ n
IsFilled n body left (Err CutBody) = (length body < n) × IsAtEnd left
IsFilled n body left (Err BadHead) = ⊥
IsFilled n body left (Err LengthRequired) = ⊥
IsFilled n body left (Err (BodyTooLong m)) = ⊥
IsFilled n body left (Err ReadFault) = ⊤
IsFilled n body left (Err NoMemory) = ⊤

-- a body of this many bytes, of known bytes
abbrev pub IsBodyNext : ℕ → Option (List ℕ) → Result (List ℕ) WireError → Option (List ℕ) → Type 0
IsBodyNext n None result left = ⊤
IsBodyNext n (Some bytes) (Ok b) None = ⊥
IsBodyNext n (Some bytes) (Ok b) (Some left) = (bytes ≡ b ++ left) × (length b ≡ n)
IsBodyNext n (Some bytes) (Err CutBody) left = length bytes < n
IsBodyNext n (Some bytes) (Err BadHead) left = ⊥
IsBodyNext n (Some bytes) (Err LengthRequired) left = ⊥
IsBodyNext n (Some bytes) (Err (BodyTooLong m)) left = ⊥
IsBodyNext n (Some bytes) (Err ReadFault) left = ⊤
IsBodyNext n (Some bytes) (Err NoMemory) left = ⊤
