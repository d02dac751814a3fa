-- The answer of the table's line for a query is one that is listed for it: `line`, `listed`.
use Rattle.std.proofs.Common.{◌≡◌, ◌<◌, ◌+◌, ℕ, zero, suc, Bool, true, false, ◌&&◌, if◌then◌else◌, List, [], ◌∷◌, length, take, nat_le, ◌≤◌, Option, None, Some, option_map, IfSome, IfOk, IsTrue, unwrap_or, Result, Ok, Err, ok_or, refl, sym, ap, ◌∙◌, subst, arith}
use Rattle.std.specs.Option.{option_or}
use Rattle.std.specs.Str.{bytes_eq}
use Rattle.std.proofs.lemmas.Bool.Decides.{nat_tests}
use Rattle.std.proofs.lemmas.List.{length-take}
use Rattle.keep_spec.specs.Config.{Configuration, token_of}
use Rattle.keep_spec.specs.Portable.{portable_text}
use Rattle.keep_spec.specs.Refusals.{bad}
use Rattle.keep_spec.specs.Stripped.{portable_hash}
use Rattle.keep_spec.specs.Results.{◌>>=◌}
use Rattle.std.specs.List.{find}
use Rattle.keep_spec.specs.declared.memory.NoMemory.{NoMemory}
use Rattle.keep_spec.specs.declared.token.TokenId.{TokenId}
use Rattle.keep_spec.specs.declared.unverified.Unverified.{Unverified}
use Rattle.keep_spec.specs.declared.portable.Portable.{Portable}
use Rattle.keep_spec.specs.declared.manifest.Refusal.{Refusal}
use Rattle.keep_event.specs.Table as machine
use Rattle.keep_event.specs.Table.{State, Reply, stays}
use Rattle.keep_event.specs.Requests as requests
use Rattle.keep_event.specs.Requests.{MayAskTable}
use Rattle.keep_event.specs.Answers.{IsTableAnswer, is_request_refusal, is_collection_refusal, is_update_answer, is_save_answer, is_row_answer, is_trash_set, is_restored, is_round, is_swept_answer, RisesAbove, IsRowsAnswer}
use Rattle.keep_event.specs.declared.table.TableRules.{TableRules}
use Rattle.keep_event.specs.declared.table.Collection.{Collection}
use Rattle.keep_event.specs.declared.table.Record.{Record}
use Rattle.keep_event.specs.declared.table.ScanRow.{ScanRow}
use Rattle.keep_event.specs.declared.table.SaveRequest.{SaveRequest}
use Rattle.keep_event.specs.declared.table.TableAnswer.{TableAnswer}
use Rattle.keep_event.specs.declared.table.TableAnswer.TheVariants as R
use Rattle.keep_event.specs.declared.table.TableQuery.{TableQuery}
use Rattle.keep_event.specs.declared.table.TableQuery.TheVariants as T
use Rattle.keep_table.specs.Contents as contents
use Rattle.keep_table.specs.Contents.{AreRowsAbove}
use Rattle.keep_collections.specs.Rows.{HasRows}

save-refusal : (a : TableAnswer) → IsTrue (is_request_refusal a) → IsTrue (is_save_answer a)
save-refusal (R.Round round started) h = cc h
save-refusal (R.Saved number version portable) h = cc h
save-refusal (R.Updated number version portable) h = cc h
save-refusal (R.Row number version expiry want trash_at text) h = cc h
save-refusal (R.TrashSet trash_at delete_at) h = cc h
save-refusal R.Restored h = cc h
save-refusal (R.Swept versions collections) h = cc h
save-refusal (R.Rows rows last) h = cc h
save-refusal R.UnknownToken h = refl
save-refusal R.NoSuch h = cc h
save-refusal R.NotOwner h = cc h
save-refusal (R.InTrash at) h = cc h
save-refusal (R.BadManifest at kind) h = refl
save-refusal (R.Unsigned index why) h = refl
save-refusal (R.WrongHash computed) h = refl
save-refusal R.BadWant h = refl
save-refusal (R.TooManyVersions held) h = cc h

update-refusal : (a : TableAnswer) → IsTrue (is_request_refusal a) → IsTrue (is_update_answer a)
update-refusal (R.Round round started) h = cc h
update-refusal (R.Saved number version portable) h = cc h
update-refusal (R.Updated number version portable) h = cc h
update-refusal (R.Row number version expiry want trash_at text) h = cc h
update-refusal (R.TrashSet trash_at delete_at) h = cc h
update-refusal R.Restored h = cc h
update-refusal (R.Swept versions collections) h = cc h
update-refusal (R.Rows rows last) h = cc h
update-refusal R.UnknownToken h = refl
update-refusal R.NoSuch h = cc h
update-refusal R.NotOwner h = cc h
update-refusal (R.InTrash at) h = cc h
update-refusal (R.BadManifest at kind) h = refl
update-refusal (R.Unsigned index why) h = refl
update-refusal (R.WrongHash computed) h = refl
update-refusal R.BadWant h = refl
update-refusal (R.TooManyVersions held) h = cc h

update-collection : (a : TableAnswer) → IsTrue (is_collection_refusal a) → IsTrue (is_update_answer a)
update-collection (R.Round round started) h = cc h
update-collection (R.Saved number version portable) h = cc h
update-collection (R.Updated number version portable) h = cc h
update-collection (R.Row number version expiry want trash_at text) h = cc h
update-collection (R.TrashSet trash_at delete_at) h = cc h
update-collection R.Restored h = cc h
update-collection (R.Swept versions collections) h = cc h
update-collection (R.Rows rows last) h = cc h
update-collection R.UnknownToken h = refl
update-collection R.NoSuch h = refl
update-collection R.NotOwner h = refl
update-collection (R.InTrash at) h = cc h
update-collection (R.BadManifest at kind) h = cc h
update-collection (R.Unsigned index why) h = cc h
update-collection (R.WrongHash computed) h = cc h
update-collection R.BadWant h = cc h
update-collection (R.TooManyVersions held) h = cc h

row-refusal : (a : TableAnswer) → IsTrue (is_collection_refusal a) → IsTrue (is_row_answer a)
row-refusal (R.Round round started) h = cc h
row-refusal (R.Saved number version portable) h = cc h
row-refusal (R.Updated number version portable) h = cc h
row-refusal (R.Row number version expiry want trash_at text) h = cc h
row-refusal (R.TrashSet trash_at delete_at) h = cc h
row-refusal R.Restored h = cc h
row-refusal (R.Swept versions collections) h = cc h
row-refusal (R.Rows rows last) h = cc h
row-refusal R.UnknownToken h = refl
row-refusal R.NoSuch h = refl
row-refusal R.NotOwner h = refl
row-refusal (R.InTrash at) h = cc h
row-refusal (R.BadManifest at kind) h = cc h
row-refusal (R.Unsigned index why) h = cc h
row-refusal (R.WrongHash computed) h = cc h
row-refusal R.BadWant h = cc h
row-refusal (R.TooManyVersions held) h = cc h

trash-refusal : (a : TableAnswer) → IsTrue (is_collection_refusal a) → IsTrue (is_trash_set a)
trash-refusal (R.Round round started) h = cc h
trash-refusal (R.Saved number version portable) h = cc h
trash-refusal (R.Updated number version portable) h = cc h
trash-refusal (R.Row number version expiry want trash_at text) h = cc h
trash-refusal (R.TrashSet trash_at delete_at) h = cc h
trash-refusal R.Restored h = cc h
trash-refusal (R.Swept versions collections) h = cc h
trash-refusal (R.Rows rows last) h = cc h
trash-refusal R.UnknownToken h = refl
trash-refusal R.NoSuch h = refl
trash-refusal R.NotOwner h = refl
trash-refusal (R.InTrash at) h = cc h
trash-refusal (R.BadManifest at kind) h = cc h
trash-refusal (R.Unsigned index why) h = cc h
trash-refusal (R.WrongHash computed) h = cc h
trash-refusal R.BadWant h = cc h
trash-refusal (R.TooManyVersions held) h = cc h

restore-refusal : (a : TableAnswer) → IsTrue (is_collection_refusal a) → IsTrue (is_restored a)
restore-refusal (R.Round round started) h = cc h
restore-refusal (R.Saved number version portable) h = cc h
restore-refusal (R.Updated number version portable) h = cc h
restore-refusal (R.Row number version expiry want trash_at text) h = cc h
restore-refusal (R.TrashSet trash_at delete_at) h = cc h
restore-refusal R.Restored h = cc h
restore-refusal (R.Swept versions collections) h = cc h
restore-refusal (R.Rows rows last) h = cc h
restore-refusal R.UnknownToken h = refl
restore-refusal R.NoSuch h = refl
restore-refusal R.NotOwner h = refl
restore-refusal (R.InTrash at) h = cc h
restore-refusal (R.BadManifest at kind) h = cc h
restore-refusal (R.Unsigned index why) h = cc h
restore-refusal (R.WrongHash computed) h = cc h
restore-refusal R.BadWant h = cc h
restore-refusal (R.TooManyVersions held) h = cc h

-- ---- refusals

abbrev Refuses : Option TableAnswer → Type 0
Refuses o = IfSome o (λ a. IsTrue (is_request_refusal a))

or-some : (a b : Option TableAnswer) → Refuses a → Refuses b → Refuses (option_or a b)
or-some None b p q = q
or-some (Some x) b p q = p

bad-manifest : (o : Option Refusal) → Refuses (option_map requests.refused_at o)
bad-manifest None = tt
bad-manifest (Some r) = refl

unsigned-at : (index : ℕ) (o : Option Unverified) → Refuses (option_map (R.Unsigned index) o)
unsigned-at index None = tt
unsigned-at index (Some why) = refl

first-unsigned : (why : List ℕ → Option Unverified) (index : ℕ) (ls : List (List ℕ)) → Refuses (requests.first_unsigned why index ls)
first-unsigned why index [] = tt
first-unsigned why index (l ∷ ls) = or-some (option_map (R.Unsigned index) (why l)) (requests.first_unsigned why (index + 1) ls) (unsigned-at index (why l)) (first-unsigned why (index + 1) ls)

some-if : (b : Bool) (a : TableAnswer) → IsTrue (is_request_refusal a) → Refuses (if b then None else Some a)
some-if true a h = tt
some-if false a h = h

wrong-hash : (computed : Portable) (o : Option (List ℕ)) → Refuses (requests.wrong_hash computed o)
wrong-hash computed None = tt
wrong-hash computed (Some claimed) = some-if (bytes_eq claimed (portable_text computed)) (R.WrongHash computed) refl

refusals : (c : Configuration) (reading : ℕ) (r : SaveRequest) → Refuses (requests.refusal_of_request c reading r)
refusals c reading r =
    let hash = requests.wrong_hash (portable_hash r.text) r.portable in
    let want = requests.bad_want r.want in
    or-some (requests.bad_manifest r.text) (option_or (requests.bad_signature c reading r) (option_or hash want)) (bad-manifest (bad r.text))
    (or-some (requests.bad_signature c reading r) (option_or hash want) (first-unsigned (requests.unsigned_because c r.token reading) 0 (requests.locators_of r.text))
    (or-some hash want (wrong-hash (portable_hash r.text) r.portable) (some-if (nat_le 1 r.want && nat_le r.want 255) R.BadWant refl)))

-- ---- lines

known : (P : TableAnswer → Type 0) (o : Option TokenId) (s : State) (next : TokenId → Reply) → P R.UnknownToken → ((t : TokenId) → P (next t).answer) → P (requests.by_token o s next).answer
known P None s next p q = p
known P (Some t) s next p q = q t

allowed : (P : TableAnswer → Type 0) (o : Option TableAnswer) (s : State) (reply : Reply) → IfSome o P → P reply.answer → P (requests.if_allowed o s reply).answer
allowed P None s reply p q = q
allowed P (Some a) s reply p q = p

some-map : (P Q : TableAnswer → Type 0) (o : Option TableAnswer) → ((a : TableAnswer) → P a → Q a) → IfSome o P → IfSome o Q
some-map P Q None f h = tt
some-map P Q (Some a) f h = f a h

unless : {X : Type 0} (P : TableAnswer → Type 0) (s : State) (r : Result X TableAnswer) (next : X → Reply) → ((a : TableAnswer) → r ≡ Err a → P a) → ((x : X) → r ≡ Ok x → P (next x).answer) → P (machine.unless_refused s r next).answer
unless P s (Err a) next p q = p a refl
unless P s (Ok x) next p q = q x refl

is-err : {X : Type 0} (r : Result X TableAnswer) (a b : TableAnswer) → r ≡ Err a → r ≡ Err b → a ≡ b
is-err r a b e k = cc (e, k)

-- a collection that is owned, or why not
owned-if : (b : Bool) (x : Collection) (a : TableAnswer) → (if b then Ok x else Err R.NotOwner) ≡ Err a → IsTrue (is_collection_refusal a)
owned-if true x a e = cc e
owned-if false x a e = ap is_collection_refusal (sym (is-err {X = Collection} (Err R.NotOwner) R.NotOwner a refl e))

owned-at : (token : TokenId) (o : Option Collection) (a : TableAnswer) → (ok_or o R.NoSuch >>= (λ x. if machine.is_owner token x then Ok x else Err R.NotOwner)) ≡ Err a → IsTrue (is_collection_refusal a)
owned-at token None a e = ap is_collection_refusal (sym (is-err {X = Collection} (Err R.NoSuch) R.NoSuch a refl e))
owned-at token (Some x) a e = owned-if (machine.is_owner token x) x a e

owned : (token : TokenId) (number : ℕ) (s : State) (a : TableAnswer) → machine.owned token number s ≡ Err a → IsTrue (is_collection_refusal a)
owned token number s a e = owned-at token (machine.collection_of number s) a e

refusal-of : {X : Type 0} (P : TableAnswer → Type 0) (r : Result X TableAnswer) → ((a : TableAnswer) → r ≡ Err a → P a) → IfSome (machine.refusal_of r) P
refusal-of P (Ok x) f = tt
refusal-of P (Err a) f = f a refl

trash-if : (b : Bool) (x : Collection) (at : ℕ) (a : TableAnswer) → (if b then Err (R.InTrash at) else Ok x) ≡ Err a → IsTrue (is_update_answer a)
trash-if true x at a e = ap is_update_answer (sym (is-err {X = Collection} (Err (R.InTrash at)) (R.InTrash at) a refl e))
trash-if false x at a e = cc e

updatable-at : (reading : ℕ) (r : Result Collection TableAnswer) → ((a : TableAnswer) → r ≡ Err a → IsTrue (is_collection_refusal a)) → (a : TableAnswer)
    → (r >>= (λ x. if machine.is_in_trash reading x then Err (R.InTrash (unwrap_or x.trash_at 0)) else Ok x)) ≡ Err a → IsTrue (is_update_answer a)
updatable-at reading (Err b) f a e = update-collection a (f a e)
updatable-at reading (Ok x) f a e = trash-if (machine.is_in_trash reading x) x (unwrap_or x.trash_at 0) a e

updatable : (reading : ℕ) (token : TokenId) (number : ℕ) (s : State) (a : TableAnswer) → machine.updatable reading token number s ≡ Err a → IsTrue (is_update_answer a)
updatable reading token number s a e = updatable-at reading (machine.owned token number s) (owned token number s) a e

abbrev IsUpdate : TableAnswer → Type 0
IsUpdate a = IsTrue (is_update_answer a)

update-if : (b : Bool) (x y : Reply) → IsUpdate x.answer → IsUpdate y.answer → IsUpdate (if b then x else y).answer
update-if true x y p q = p
update-if false x y p q = q

update : (c : Configuration) (reading collection : ℕ) (preserve : Bool) (r : SaveRequest) (s : State) → IsUpdate (requests.update_line c reading collection preserve r s).answer
unfolding requests.update_line machine.update
update c reading collection preserve r s = known IsUpdate (token_of c r.token) s _ refl (λ t.
    allowed IsUpdate (option_or (machine.refusal_of (machine.updatable reading t collection s)) (requests.refusal_of_request c reading r)) s _
    (either (machine.refusal_of (machine.updatable reading t collection s)) (requests.refusal_of_request c reading r)
    (refusal-of IsUpdate (machine.updatable reading t collection s) (updatable reading t collection s))
    (some-map (λ a. IsTrue (is_request_refusal a)) IsUpdate (requests.refusal_of_request c reading r) update-refusal (refusals c reading r)))
    (unless IsUpdate s (machine.updatable reading t collection s) _ (updatable reading t collection s) (λ x e. update-if (nat_le c.versions (machine.versions_held reading collection s)) _ _ refl refl)))
  where
    either : (a b : Option TableAnswer) → IfSome a IsUpdate → IfSome b IsUpdate → IfSome (option_or a b) IsUpdate
    either None b p q = q
    either (Some x) b p q = p

save : (c : Configuration) (reading : ℕ) (r : SaveRequest) (s : State) → IsTrue (is_save_answer (requests.save c reading r s).answer)
unfolding requests.save machine.create
save c reading r s = known (λ a. IsTrue (is_save_answer a)) (token_of c r.token) s _ refl (λ t.
    allowed (λ a. IsTrue (is_save_answer a)) (requests.refusal_of_request c reading r) s _
    (some-map (λ a. IsTrue (is_request_refusal a)) (λ a. IsTrue (is_save_answer a)) (requests.refusal_of_request c reading r) save-refusal (refusals c reading r)) refl)

abbrev IsRow : TableAnswer → Type 0
IsRow a = IsTrue (is_row_answer a)

row-in : (rules : TableRules) (reading : ℕ) (r : Record) (o : Result Collection TableAnswer) → ((a : TableAnswer) → o ≡ Err a → IsTrue (is_collection_refusal a)) → (x : TableAnswer)
    → ((a : Result TableAnswer TableAnswer) → (o >>= (λ y. Ok (machine.row_answer rules reading r y))) ≡ a → (a ≡ Ok x → IsRow x) × (a ≡ Err x → IsRow x))
row-in rules reading r (Err b) f x a e = (λ k. cc (e, k), λ k. row-refusal x (f x (ap Err (is-err {X = TableAnswer} (Err b) b x refl (e ∙ k)))))
row-in rules reading r (Ok y) f x a e = (λ k. ap is_row_answer (sym (is-ok (Ok (machine.row_answer rules reading r y)) (machine.row_answer rules reading r y) x refl (e ∙ k))), λ k. cc (e, k))
  where
    is-ok : (r : Result TableAnswer TableAnswer) (a b : TableAnswer) → r ≡ Ok a → r ≡ Ok b → a ≡ b
    is-ok r a b e k = cc (e, k)

row-at : (rules : TableRules) (reading : ℕ) (token : TokenId) (number : ℕ) (s : State) (o : Option Record) (x : TableAnswer) (a : Result TableAnswer TableAnswer)
    → (ok_or o R.NoSuch >>= (λ r. machine.owned token number s >>= (λ y. Ok (machine.row_answer rules reading r y)))) ≡ a → (a ≡ Ok x → IsRow x) × (a ≡ Err x → IsRow x)
row-at rules reading token number s None x a e = (λ k. cc (e, k), λ k. ap is_row_answer (sym (is-err {X = TableAnswer} (Err R.NoSuch) R.NoSuch x refl (e ∙ k))))
row-at rules reading token number s (Some r) x a e = row-in rules reading r (machine.owned token number s) (owned token number s) x a e

read : (c : Configuration) (reading : ℕ) (token : List ℕ) (number : ℕ) (version : Option ℕ) (s : State) → IsRow (requests.table_line c reading (T.Read token number version) s).answer
unfolding machine.read
read c reading token number version s = known IsRow (token_of c token) s _ refl (λ t.
    unless IsRow s (machine.row_of_version (requests.rules_of c) reading t number version s) _
    (λ a e. (row-at (requests.rules_of c) reading t number s (find (machine.is_readable number version) s.records) a _ refl).1 e)
    (λ x e. (row-at (requests.rules_of c) reading t number s (find (machine.is_readable number version) s.records) x _ refl).0 e))

set_trash : (c : Configuration) (reading : ℕ) (token : List ℕ) (number trash_at asked : ℕ) (s : State) → IsTrue (is_trash_set (requests.table_line c reading (T.SetTrash token number trash_at asked) s).answer)
unfolding machine.set_trash
set_trash c reading token number trash_at asked s = known (λ a. IsTrue (is_trash_set a)) (token_of c token) s _ refl (λ t.
    unless (λ a. IsTrue (is_trash_set a)) s (machine.owned t number s) _ (λ a e. trash-refusal a (owned t number s a e)) (λ x e. refl))

restore : (c : Configuration) (reading : ℕ) (token : List ℕ) (number : ℕ) (s : State) → IsTrue (is_restored (requests.table_line c reading (T.Restore token number) s).answer)
unfolding machine.restore
restore c reading token number s = known (λ a. IsTrue (is_restored a)) (token_of c token) s _ refl (λ t.
    unless (λ a. IsTrue (is_restored a)) s (machine.owned t number s) _ (λ a e. restore-refusal a (owned t number s a e)) (λ x e. refl))

-- ---- scans

rises : (low : ℕ) (ns : List ℕ) → contents.RisesAbove low ns → RisesAbove low ns
rises low [] h = tt
rises low (n ∷ ns) h = (h.0, rises n ns h.1)

empty-last : (limit : ℕ) (xs : List ScanRow) → 0 < limit → take limit xs ≡ [] → nat_le (length xs) limit ≡ true
empty-last limit [] lt e = grind (arith, nat_tests)
empty-last zero (x ∷ xs) lt e = absurd (omega arith)
empty-last (suc k) (x ∷ xs) lt e = cc e

taken : (limit : ℕ) (xs : List ScanRow) → length (take limit xs) ≤ limit
taken limit xs = omega (arith, length-take limit xs)

scan : (round after limit : ℕ) (s : State) → 0 < limit → AreRowsAbove after (machine.scan after limit s).answer → IsRowsAnswer after limit (machine.scan after limit s).answer
unfolding machine.scan
scan round after limit s lt h = record {
  rise = rises after _ h;
  none_left = empty-last limit (machine.rows_above after s.records) lt;
  within = taken limit (machine.rows_above after s.records);
}

round : (reading : ℕ) (s : State) → IsTrue (is_round (machine.begin_round reading s).answer)
unfolding machine.begin_round
round reading s = refl

sweep : (reading : ℕ) (s : State) → IsTrue (is_swept_answer (machine.sweep reading s).answer)
unfolding machine.sweep
sweep reading s = refl

line : (c : Configuration) (reading : ℕ) (q : TableQuery) (s : State) → MayAskTable q → HasRows q (requests.table_line c reading q s).answer → IsTableAnswer q (requests.table_line c reading q s).answer
line c reading T.BeginRound s m h = round reading s
line c reading (T.Save request) s m h = save c reading request s
line c reading (T.Update collection preserve request) s m h = update c reading collection preserve request s
line c reading (T.Read token collection version) s m h = read c reading token collection version s
line c reading (T.SetTrash token collection trash_at delete_at) s m h = set_trash c reading token collection trash_at delete_at s
line c reading (T.Restore token collection) s m h = restore c reading token collection s
line c reading T.Sweep s m h = sweep reading s
line c reading (T.Scan r after limit) s m h = scan r after limit s m h

pub listed : (c : Configuration) (reading : ℕ) (q : TableQuery) (old new : contents.Contents) (result : Result TableAnswer NoMemory)
    → MayAskTable q → contents.IsLine (requests.table_line c reading q old.state) old new result → IfOk result (HasRows q) → IfOk result (IsTableAnswer q)
listed c reading q old new (Ok a) m l h = subst (IsTableAnswer q) (sym l.answered) (line c reading q old.state m (subst (HasRows q) l.answered h))
listed c reading q old new (Err e) m l h = tt
