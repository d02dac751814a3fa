-- A request meets no refusal exactly where it is good, and no refusal is the answer of a save.
use Rattle.std.proofs.Common.{◌≡◌, ◌⊎◌, inl, inr, ℕ, ◌+◌, Bool, true, false, ◌&&◌, List, [], ◌∷◌, refl, sym, ◌∙◌, ap, ◌↔◌, Option, Some, None}
use lib.Pointwise.{bytes_decides}
use Rattle.std.specs.Prelude.{⊤, IsTrue, IfOk, IsOk, is_some, Result, Ok, Err, option_map, nat_le, if◌then◌else◌, bytes_eq}
use Rattle.std.specs.List.{AllByRecursion}
use Rattle.std.specs.Option.{option_or}
use Rattle.std.proofs.lemmas.Bool.{and_parts, and_from, leb-true, le-leb}
use Rattle.keep_spec.specs.Config.{Configuration, token_of}
use Rattle.keep_spec.specs.Locator.{is_empty_block}
use Rattle.keep_spec.specs.Portable.{portable_text}
use Rattle.keep_spec.specs.Refusals.{bad}
use Rattle.keep_spec.specs.Sign.{verdict}
use Rattle.keep_spec.specs.Stripped.{portable_hash}
use Rattle.keep_spec.specs.declared.manifest.Refusal.{Refusal}
use Rattle.keep_spec.specs.declared.portable.Portable.{Portable}
use Rattle.keep_spec.specs.declared.token.TokenId.{TokenId}
use Rattle.keep_spec.specs.declared.unverified.Verified.{Verified}
use Rattle.keep_spec.specs.declared.unverified.Unverified.{Unverified}
use Rattle.keep_event.specs.Requests.{refused_at, bad_manifest, bad_signature, cause_of, unsigned_because, first_unsigned, locators_of, wrong_hash, bad_want, refusal_of_request}
use Rattle.keep_spec.specs.declared.memory.NoMemory.{NoMemory}
use Rattle.keep_event.specs.Table.{State, create}
use Rattle.keep_event.specs.declared.table.NewRecord.{NewRecord}
use Rattle.keep_table.specs.Contents.{Contents, IsLine}
use Rattle.keep_event.specs.declared.table.SaveRequest.{SaveRequest}
use Rattle.keep_event.specs.declared.table.TableAnswer.{TableAnswer}
use Rattle.keep_event.specs.declared.table.TableAnswer.TheVariants.{Unsigned, WrongHash, BadWant}
use Rattle.keep_collections.specs.Verdicts.{IsGood, IsSigned, IsClaimed, is_saved}

-- ---- what passes no refusal of a request isn't the answer to one

abbrev Never : (TableAnswer → Bool) → Option TableAnswer → Type 0
Never p None = ⊤
Never p (Some answer) = p answer ≡ false

-- a test that none of the refusals of a request passes
pub record PassesNone (p : TableAnswer → Bool) : Type 0 where
  pub manifest : (refusal : Refusal) → p (refused_at refusal) ≡ false
  pub unsigned : (index : ℕ) (why : Unverified) → p (Unsigned index why) ≡ false
  pub hash : (computed : Portable) → p (WrongHash computed) ≡ false
  pub want : p BadWant ≡ false

never-or : (p : TableAnswer → Bool) (a b : Option TableAnswer) → Never p a → Never p b → Never p (option_or a b)
never-or p None b m n = n
never-or p (Some answer) b m n = m

never-manifest : (p : TableAnswer → Bool) (o : Option Refusal) → PassesNone p → Never p (option_map refused_at o)
never-manifest p None n = tt
never-manifest p (Some refusal) n = n.manifest refusal

never-why : (p : TableAnswer → Bool) (index : ℕ) (o : Option Unverified) → PassesNone p → Never p (option_map (Unsigned index) o)
never-why p index None n = tt
never-why p index (Some why) n = n.unsigned index why

never-signature : (p : TableAnswer → Bool) (why : List ℕ → Option Unverified) (index : ℕ) (locators : List (List ℕ)) → PassesNone p → Never p (first_unsigned why index locators)
never-signature p why index [] n = tt
never-signature p why index (l ∷ ls) n = never-or p (option_map (Unsigned index) (why l)) (first_unsigned why (index + 1) ls) (never-why p index (why l) n) (never-signature p why (index + 1) ls n)

never-unless : (p : TableAnswer → Bool) (b : Bool) (answer : TableAnswer) → p answer ≡ false → Never p (if b then None else Some answer)
never-unless p true answer e = tt
never-unless p false answer e = e

never-hash : (p : TableAnswer → Bool) (computed : Portable) (claimed : Option (List ℕ)) → PassesNone p → Never p (wrong_hash computed claimed)
never-hash p computed None n = tt
never-hash p computed (Some claimed) n = never-unless p (bytes_eq claimed (portable_text computed)) (WrongHash computed) (n.hash computed)

never-refused : (p : TableAnswer → Bool) (c : Configuration) (reading : ℕ) (request : SaveRequest) → PassesNone p → Never p (refusal_of_request c reading request)
never-refused p c reading request n =
    never-or p (bad_manifest request.text) _ (never-manifest p (bad request.text) n)
    (never-or p (bad_signature c reading request) _ (never-signature p (unsigned_because c request.token reading) 0 (locators_of request.text) n)
    (never-or p (wrong_hash (portable_hash request.text) request.portable) (bad_want request.want) (never-hash p (portable_hash request.text) request.portable n)
    (never-unless p (nat_le 1 request.want && nat_le request.want 255) BadWant n.want)))

never-at : (p : TableAnswer → Bool) (o : Option TableAnswer) (answer : TableAnswer) → Never p o → o ≡ Some answer → p answer ≡ false
never-at p None answer n e = absurd (cc)
never-at p (Some other) answer n e = let same : other ≡ answer = cc in ap p (sym same) ∙ n

pub refusal-never : (p : TableAnswer → Bool) (c : Configuration) (reading : ℕ) (request : SaveRequest) (answer : TableAnswer) → PassesNone p → refusal_of_request c reading request ≡ Some answer → p answer ≡ false
refusal-never p c reading request answer n e = never-at p (refusal_of_request c reading request) answer (never-refused p c reading request n) e

-- ---- where there is none

or-none : {X : Type 0} (a b : Option X) → option_or a b ≡ None → (a ≡ None) × (b ≡ None)
or-none None b e = (refl, e)
or-none (Some x) b e = absurd (cc)

none-or : {X : Type 0} (a b : Option X) → a ≡ None → b ≡ None → option_or a b ≡ None
none-or None b e f = f
none-or (Some x) b e f = absurd (cc)

map-none : {X Y : Type 0} (f : X → Y) (o : Option X) → option_map f o ≡ None → o ≡ None
map-none f None e = refl
map-none f (Some x) e = absurd (cc)

none-map : {X Y : Type 0} (f : X → Y) (o : Option X) → o ≡ None → option_map f o ≡ None
none-map f None e = refl
none-map f (Some x) e = absurd (cc)

unless-none : {X : Type 0} (b : Bool) (x : X) → (if b then None else Some x) ≡ None → b ≡ true
unless-none true x e = refl
unless-none false x e = absurd (cc)

none-unless : {X : Type 0} (b : Bool) (x : X) → b ≡ true → (if b then None else Some x) ≡ None
none-unless true x e = refl
none-unless false x e = absurd (cc)

because-none : (b : Bool) (r : Result Verified Unverified) → (if b then None else cause_of r) ≡ None → IsTrue b ⊎ IsOk r
because-none true r e = inl refl
because-none false (Ok triple) e = inr refl
because-none false (Err why) e = absurd (cc)

none-because : (b : Bool) (r : Result Verified Unverified) → IsTrue b ⊎ IsOk r → (if b then None else cause_of r) ≡ None
none-because true r h = refl
none-because false (Ok triple) h = refl
none-because false (Err why) h = elim h [ inl e ↦ absurd (cc) | inr e ↦ absurd (cc) ]

all-signed : (c : Configuration) (token : List ℕ) (reading index : ℕ) (ls : List (List ℕ)) → first_unsigned (unsigned_because c token reading) index ls ≡ None → AllByRecursion (IsSigned c token reading) ls
all-signed c token reading index [] e = tt
all-signed c token reading index (l ∷ ls) e =
    let parts = or-none (option_map (Unsigned index) (unsigned_because c token reading l)) (first_unsigned (unsigned_because c token reading) (index + 1) ls) e in (
      because-none (is_empty_block l) (verdict l token c.ttl c.secret reading) (map-none (Unsigned index) (unsigned_because c token reading l) parts.0),
      all-signed c token reading (index + 1) ls parts.1,
    )

signed-all : (c : Configuration) (token : List ℕ) (reading index : ℕ) (ls : List (List ℕ)) → AllByRecursion (IsSigned c token reading) ls → first_unsigned (unsigned_because c token reading) index ls ≡ None
signed-all c token reading index [] h = refl
signed-all c token reading index (l ∷ ls) h =
    none-or (option_map (Unsigned index) (unsigned_because c token reading l)) (first_unsigned (unsigned_because c token reading) (index + 1) ls)
    (none-map (Unsigned index) (unsigned_because c token reading l) (none-because (is_empty_block l) (verdict l token c.ttl c.secret reading) h.0))
    (signed-all c token reading (index + 1) ls h.1)

hash-claimed : (computed : Portable) (claimed : Option (List ℕ)) → wrong_hash computed claimed ≡ None → IsClaimed claimed computed
hash-claimed computed None e = tt
hash-claimed computed (Some claimed) e = (bytes_decides claimed (portable_text computed)).0 (unless-none (bytes_eq claimed (portable_text computed)) (WrongHash computed) e)

claimed-hash : (computed : Portable) (claimed : Option (List ℕ)) → IsClaimed claimed computed → wrong_hash computed claimed ≡ None
claimed-hash computed None h = refl
claimed-hash computed (Some claimed) h = none-unless (bytes_eq claimed (portable_text computed)) (WrongHash computed) ((bytes_decides claimed (portable_text computed)).1 h)

-- a good request meets no refusal
pub none-refused : (c : Configuration) (reading : ℕ) (request : SaveRequest) → IsGood c reading request → refusal_of_request c reading request ≡ None
none-refused c reading request g =
    none-or (bad_manifest request.text) _ (none-map refused_at (bad request.text) g.manifest)
    (none-or (bad_signature c reading request) _ (signed-all c request.token reading 0 (locators_of request.text) g.signed)
    (none-or (wrong_hash (portable_hash request.text) request.portable) (bad_want request.want) (claimed-hash (portable_hash request.text) request.portable g.hash)
    (none-unless (nat_le 1 request.want && nat_le request.want 255) BadWant (and_from (nat_le 1 request.want) (nat_le request.want 255) (le-leb 1 request.want g.want.0) (le-leb request.want 255 g.want.1)))))

pub good-request : (c : Configuration) (reading : ℕ) (request : SaveRequest) (owner : TokenId) → token_of c request.token ≡ Some owner → refusal_of_request c reading request ≡ None → IsGood c reading request
good-request c reading request owner known e =
    let manifest = or-none (bad_manifest request.text) _ e in
    let signature = or-none (bad_signature c reading request) _ manifest.1 in
    let hash = or-none (wrong_hash (portable_hash request.text) request.portable) (bad_want request.want) signature.1 in
    let want = and_parts (nat_le 1 request.want) (nat_le request.want 255) (unless-none (nat_le 1 request.want && nat_le request.want 255) BadWant hash.1) in
    record {
      token = rw known refl;
      manifest = map-none refused_at (bad request.text) manifest.0;
      signed = all-signed c request.token reading 0 (locators_of request.text) signature.0;
      hash = hash-claimed (portable_hash request.text) request.portable hash.0;
      want = (leb-true 1 request.want want.0, leb-true request.want 255 want.1);
    }

-- a refusal is no Saved, and its request isn't good
pub refused-request : (c : Configuration) (reading : ℕ) (request : SaveRequest) (answer : TableAnswer) → refusal_of_request c reading request ≡ Some answer → IsTrue (is_saved answer) ↔ IsGood c reading request
refused-request c reading request answer e =
    let never = refusal-never is_saved c reading request answer (record { manifest = λ r. refl; unsigned = λ i w. refl; hash = λ h. refl; want = refl }) e in
    (λ saved. absurd (cc (never, saved)), λ g. (let none = none-refused c reading request g in absurd (cc (none, e))))

pub unknown-request : (c : Configuration) (reading : ℕ) (request : SaveRequest) (answer : TableAnswer) → is_saved answer ≡ false → token_of c request.token ≡ None → IsTrue (is_saved answer) ↔ IsGood c reading request
unknown-request c reading request answer never unknown =
    (λ saved. absurd (cc (never, saved)), λ g. (let known = g.token in let nothing : false ≡ true = rw (← (ap is_some unknown)) known in absurd (cc (nothing))))

-- what is created is saved
pub created-saved : (owner : TokenId) (made : NewRecord) (s : State) (old new : Contents) (r : Result TableAnswer NoMemory) → IsLine (create owner made s) old new r → IfOk r (λ answer. IsTrue (is_saved answer))
unfolding create
created-saved owner made s old new (Ok answer) line = ap is_saved line.answered
created-saved owner made s old new (Err e) line = tt
