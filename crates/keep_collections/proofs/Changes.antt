-- When an update answers Updated.
use Rattle.std.proofs.Common.{◌≡◌, ◌<◌, ℕ, Bool, true, false, refl, sym, ◌∙◌, ap, subst, arith, ◌↔◌, Option, Some, None}
use Rattle.std.specs.Prelude.{⊤, IsTrue, IfOk, Result, Ok, Err, ok_or, unwrap_or, nat_le, if◌then◌else◌}
use Rattle.std.proofs.lemmas.Bool.{leb-true, leb-false}
use Rattle.keep_spec.specs.Config.{Configuration, token_of}
use Rattle.keep_spec.specs.declared.memory.NoMemory.{NoMemory}
use Rattle.keep_spec.specs.declared.token.TokenId.{TokenId}
use Rattle.keep_event.specs.Table.{State, Reply, stays, ◌>>=◌, updatable, collection_of, is_owner, is_in_trash, versions_held, update, with_update, refusal_of}
use Rattle.keep_event.specs.Requests.{rules_of, refusal_of_request}
use Rattle.keep_event.specs.declared.table.Collection.{Collection}
use Rattle.keep_event.specs.declared.table.NewRecord.{NewRecord}
use Rattle.keep_event.specs.declared.table.SaveRequest.{SaveRequest}
use Rattle.keep_event.specs.declared.table.TableAnswer.{TableAnswer}
use Rattle.keep_event.specs.declared.table.TableAnswer.TheVariants.{NoSuch, NotOwner, InTrash, TooManyVersions}
use Rattle.keep_table.specs.Contents.{Contents, IsLine, is_updated}
use Rattle.keep_event.specs.declared.table.TableRules.{TableRules}
use Rattle.std.proofs.lemmas.Result.{IfOk-weaker}
use Rattle.keep_collections.specs.Verdicts.{IsGoodUpdate, IsUpdatable}
use Rattle.keep_collections.proofs.Saves.{good-request, none-refused, refusal-never}

-- ---- a collection that can be updated

-- what is tested of a collection that is there
abbrev outside : ℕ → Collection → Result Collection TableAnswer
outside reading x = if is_in_trash reading x then Err (InTrash (unwrap_or x.trash_at 0)) else Ok x

abbrev tested : ℕ → TokenId → Collection → Result Collection TableAnswer
tested reading token x = (if is_owner token x then Ok x else Err NotOwner) >>= outside reading

record AreParts (reading : ℕ) (token : TokenId) (y x : Collection) : Type 0 where
  same : y ≡ x
  owner : is_owner token y ≡ true
  beyond : is_in_trash reading y ≡ false

outside-parts : (t : Bool) (y x : Collection) (e : TableAnswer) → (if t then Err e else Ok y) ≡ Ok x → (t ≡ false) × (y ≡ x)
outside-parts true y x e is = absurd (cc)
outside-parts false y x e is = (refl, cc)

tested-parts : (reading : ℕ) (token : TokenId) (y x : Collection) (b : Bool) → is_owner token y ≡ b → ((if b then Ok y else Err NotOwner) >>= outside reading) ≡ Ok x → AreParts reading token y x
tested-parts reading token y x true own is =
    let parts = outside-parts (is_in_trash reading y) y x (InTrash (unwrap_or y.trash_at 0)) is in
    record { same = parts.1; owner = own; beyond = parts.0 }
tested-parts reading token y x false own is = absurd (cc)

found-parts : (reading : ℕ) (token : TokenId) (o : Option Collection) (x : Collection) → (ok_or o NoSuch >>= tested reading token) ≡ Ok x → (y : Collection) × (o ≡ Some y) × AreParts reading token y x
found-parts reading token None x is = absurd (cc)
found-parts reading token (Some y) x is = (y, refl, tested-parts reading token y x (is_owner token y) refl is)

chained : {A B C E : Type 0} (r : Result A E) (f : A → Result B E) (g : B → Result C E) → (r >>= f >>= g) ≡ (r >>= λ x. f x >>= g)
chained (Ok x) f g = refl
chained (Err e) f g = refl

updatable-is : (reading : ℕ) (token : TokenId) (number : ℕ) (s : State) → updatable reading token number s ≡ (ok_or (collection_of number s) NoSuch >>= tested reading token)
updatable-is reading token number s = chained (ok_or (collection_of number s) NoSuch) (λ x. if is_owner token x then Ok x else Err NotOwner) (outside reading)

pub updatable-parts : (c : Configuration) (reading number : ℕ) (token : TokenId) (s : State) (x : Collection) → updatable reading token number s ≡ Ok x → versions_held reading number s < c.versions → IsUpdatable c reading number token s
updatable-parts c reading number token s x is few =
    let parts = found-parts reading token (collection_of number s) x (sym (updatable-is reading token number s) ∙ is) in
    record { found = parts.0; there = parts.1; owner = parts.2.owner; outside = parts.2.beyond; room = few }

pub parts-updatable : (c : Configuration) (reading number : ℕ) (token : TokenId) (s : State) (u : IsUpdatable c reading number token s) → updatable reading token number s ≡ Ok u.found
parts-updatable c reading number token s u = updatable-is reading token number s ∙ rw (u.there, u.owner, u.outside) refl

-- ---- no refusal is Updated

abbrev NeverUpdated : Option TableAnswer → Type 0
NeverUpdated None = ⊤
NeverUpdated (Some answer) = is_updated answer ≡ false

outside-refused : (t : Bool) (y : Collection) (at : ℕ) → NeverUpdated (refusal_of {X = Collection} (if t then Err (InTrash at) else Ok y))
outside-refused true y at = refl
outside-refused false y at = tt

tested-refused : (reading : ℕ) (y : Collection) (b : Bool) → NeverUpdated (refusal_of {X = Collection} ((if b then Ok y else Err NotOwner) >>= outside reading))
tested-refused reading y true = outside-refused (is_in_trash reading y) y (unwrap_or y.trash_at 0)
tested-refused reading y false = refl

found-refused : (reading : ℕ) (token : TokenId) (o : Option Collection) → NeverUpdated (refusal_of (ok_or o NoSuch >>= tested reading token))
found-refused reading token None = refl
found-refused reading token (Some y) = tested-refused reading y (is_owner token y)

never-at : (o : Option TableAnswer) (answer : TableAnswer) → NeverUpdated o → o ≡ Some answer → is_updated answer ≡ false
never-at None answer n e = absurd (cc)
never-at (Some other) answer n e = let same : other ≡ answer = cc in ap is_updated (sym same) ∙ n

-- the token is one alone
one-token : (c : Configuration) (request : SaveRequest) (token other : TokenId) → token_of c request.token ≡ Some token → token_of c request.token ≡ Some other → other ≡ token
one-token c request token other e f = cc

pub unknown-updated : (c : Configuration) (reading number : ℕ) (request : SaveRequest) (s : State) (answer : TableAnswer) → is_updated answer ≡ false → token_of c request.token ≡ None → IsTrue (is_updated answer) ↔ IsGoodUpdate c reading number request s
unknown-updated c reading number request s answer never unknown = (λ yes. absurd (cc (never, yes)), λ g. (let known = g.known in absurd (cc (known, unknown))))

pub collection-updated : (c : Configuration) (reading number : ℕ) (request : SaveRequest) (s : State) (token : TokenId) (answer : TableAnswer) → token_of c request.token ≡ Some token →
    refusal_of (updatable reading token number s) ≡ Some answer → IsTrue (is_updated answer) ↔ IsGoodUpdate c reading number request s
collection-updated c reading number request s token answer known e =
    let never = never-at (refusal_of (updatable reading token number s)) answer (subst (λ r. NeverUpdated (refusal_of r)) (sym (updatable-is reading token number s)) (found-refused reading token (collection_of number s))) e in (
      λ yes. absurd (cc (never, yes)),
      λ g. (let same = one-token c request token g.token known g.known in
          let good = parts-updatable c reading number g.token s g.updatable in
          let none : refusal_of (updatable reading token number s) ≡ None = subst (λ t. refusal_of (updatable reading t number s) ≡ None) same (ap refusal_of good) in absurd (cc (none, e))),
    )

pub request-updated : (c : Configuration) (reading number : ℕ) (request : SaveRequest) (s : State) (answer : TableAnswer) → refusal_of_request c reading request ≡ Some answer → IsTrue (is_updated answer) ↔ IsGoodUpdate c reading number request s
request-updated c reading number request s answer e =
    let never = refusal-never is_updated c reading request answer (record { manifest = λ r. refl; unsigned = λ i w. refl; hash = λ h. refl; want = refl }) e in
    (λ yes. absurd (cc (never, yes)), λ g. (let none = none-refused c reading request g.good in absurd (cc (none, e))))

-- ---- what the table answers to a good request

none-is-ok : (r : Result Collection TableAnswer) → refusal_of r ≡ None → (x : Collection) × (r ≡ Ok x)
none-is-ok (Ok x) e = (x, refl)
none-is-ok (Err refusal) e = absurd (cc)

update-found : (rules : TableRules) (reading : ℕ) (token : TokenId) (number : ℕ) (made : NewRecord) (preserve : Bool) (s : State) (x : Collection) → updatable reading token number s ≡ Ok x →
    update rules reading token number made preserve s ≡ (if nat_le rules.versions (versions_held reading number s) then stays (TooManyVersions (versions_held reading number s)) s else with_update rules reading number made preserve s)
unfolding update
update-found rules reading token number made preserve s x e = rw e refl

full-updated : (rules : TableRules) (reading number : ℕ) (made : NewRecord) (preserve : Bool) (s : State) (b : Bool) → nat_le rules.versions (versions_held reading number s) ≡ b →
    IsTrue (is_updated (if b then stays (TooManyVersions (versions_held reading number s)) s else with_update rules reading number made preserve s).answer) ↔ (versions_held reading number s < rules.versions)
full-updated rules reading number made preserve s true e = let full = leb-true rules.versions (versions_held reading number s) e in (λ yes. absurd (cc (yes)), λ few. absurd (omega arith))
full-updated rules reading number made preserve s false e = (λ yes. leb-false rules.versions (versions_held reading number s) e, λ few. refl)

pub good-updated : (c : Configuration) (reading number : ℕ) (request : SaveRequest) (s : State) (token : TokenId) (made : NewRecord) (preserve : Bool) → token_of c request.token ≡ Some token →
    refusal_of (updatable reading token number s) ≡ None → refusal_of_request c reading request ≡ None →
    IsTrue (is_updated (update (rules_of c) reading token number made preserve s).answer) ↔ IsGoodUpdate c reading number request s
good-updated c reading number request s token made preserve known e none =
    let found = none-is-ok (updatable reading token number s) e in
    let line = update-found (rules_of c) reading token number made preserve s found.0 found.1 in
    let exact = full-updated (rules_of c) reading number made preserve s (nat_le c.versions (versions_held reading number s)) refl in (
      λ yes. record {
        good = good-request c reading request token known none;
        token = token;
        known = known;
        updatable = updatable-parts c reading number token s found.0 found.1 (exact.0 (ap (λ reply. is_updated reply.answer) (sym line) ∙ yes));
      },
      λ g. ap (λ reply. is_updated reply.answer) line ∙ exact.1 g.updatable.room,
    )

line-answer : (reply : Reply) (old new : Contents) (r : Result TableAnswer NoMemory) → IsLine reply old new r → IfOk r (λ answer. answer ≡ reply.answer)
line-answer reply old new (Ok answer) line = line.answered
line-answer reply old new (Err e) line = tt

pub line-updated : (reply : Reply) (old new : Contents) (r : Result TableAnswer NoMemory) (P : Type 0) → IsLine reply old new r → IsTrue (is_updated reply.answer) ↔ P → IfOk r (λ answer. IsTrue (is_updated answer) ↔ P)
line-updated reply old new r P line same =
    IfOk-weaker r (λ answer. answer ≡ reply.answer) (λ answer. IsTrue (is_updated answer) ↔ P) (λ answer e. subst (λ a. IsTrue (is_updated a) ↔ P) (sym e) same) (line-answer reply old new r line)
