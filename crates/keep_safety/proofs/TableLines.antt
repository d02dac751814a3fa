-- What the table's line of each query comes to, a refusal that changes nothing or the one change: `save-cases`, `update-cases`, `trash-cases`, `restore-cases`, `read-cases`.
use Rattle.std.proofs.Common.{◌≡◌, ◌+◌, ℕ, List, [], ◌∷◌, map, Bool, true, false, refl, sym, subst, Option, None, Some, Ok, Err, option_map, inl, inr, if◌then◌else◌}
use Rattle.std.specs.Prelude.{◌⊎◌, nat_le, unwrap_or}
use Rattle.std.specs.List.{find}
use Rattle.std.specs.Option.{option_or}
use Rattle.std.specs.Str.{bytes_eq}
use Rattle.keep_spec.specs.Config.{Configuration, token_of}
use Rattle.keep_spec.specs.Refusals.{bad}
use Rattle.keep_spec.specs.Portable.{portable_text}
use Rattle.keep_spec.specs.Stripped.{portable_hash}
use Rattle.keep_spec.specs.declared.manifest.Refusal.{Refusal}
use Rattle.keep_spec.specs.declared.portable.Portable.{Portable}
use Rattle.keep_spec.specs.declared.token.TokenId.{TokenId}
use Rattle.keep_spec.specs.declared.unverified.Unverified.{Unverified}
use Rattle.keep_event.specs.Requests.{rules_of, refused_at, bad_manifest, bad_signature, wrong_hash, bad_want, first_unsigned, unsigned_because, locators_of, refusal_of_request, made_of, if_allowed, by_token, known, save, update_line}
use Rattle.keep_event.specs.Table.{State, Reply, stays, unless_refused, collection_of, is_owner, is_in_trash, owned, updatable, refusal_of, create, update, with_update, versions_held, read, is_readable, row_of_version, row_answer, set_trash, with_times, with_collections, deleted_at, restore}
use Rattle.keep_event.specs.declared.table.Record.{Record}
use Rattle.keep_event.specs.declared.table.Collection.{Collection}
use Rattle.keep_event.specs.declared.table.SaveRequest.{SaveRequest}
use Rattle.keep_event.specs.declared.table.TableAnswer.{TableAnswer}
use Rattle.keep_event.specs.declared.table.TableAnswer.TheVariants as T
use Rattle.keep_safety.proofs.Lines.{by-if}

abbrev pub is_refusal : TableAnswer → Bool
is_refusal T.UnknownToken = true
is_refusal T.NoSuch = true
is_refusal T.NotOwner = true
is_refusal (T.InTrash at) = true
is_refusal (T.BadManifest at kind) = true
is_refusal (T.Unsigned index why) = true
is_refusal (T.WrongHash computed) = true
is_refusal T.BadWant = true
is_refusal (T.TooManyVersions held) = true
is_refusal _ = false

abbrev Refuses : Option TableAnswer → Type 0
Refuses None = Unit {0}
Refuses (Some a) = is_refusal a ≡ true

-- ---- what is tested of a request refuses
or-refuses : (x y : Option TableAnswer) → Refuses x → Refuses y → Refuses (option_or x y)
or-refuses None y h k = k
or-refuses (Some a) y h k = h

manifest-refuses : (o : Option Refusal) → Refuses (option_map refused_at o)
manifest-refuses None = tt
manifest-refuses (Some r) = refl

unsigned-refuses : (index : ℕ) (o : Option Unverified) → Refuses (option_map (T.Unsigned index) o)
unsigned-refuses index None = tt
unsigned-refuses index (Some why) = refl

first-refuses : (why : List ℕ → Option Unverified) (index : ℕ) (ls : List (List ℕ)) → Refuses (first_unsigned why index ls)
first-refuses why index [] = tt
first-refuses why index (l ∷ ls) = or-refuses (option_map (T.Unsigned index) (why l)) (first_unsigned why (index + 1) ls) (unsigned-refuses index (why l)) (first-refuses why (index + 1) ls)

hash-refuses : (computed : Portable) (o : Option (List ℕ)) → Refuses (wrong_hash computed o)
hash-refuses computed None = tt
hash-refuses computed (Some claimed) = by-if Refuses (bytes_eq claimed (portable_text computed)) None (Some (T.WrongHash computed)) (λ e. tt) (λ e. refl)

want-refuses : (want : ℕ) → Refuses (bad_want want)
want-refuses want = by-if Refuses _ None (Some T.BadWant) (λ e. tt) (λ e. refl)

pub request-refuses : (c : Configuration) (reading : ℕ) (request : SaveRequest) → Refuses (refusal_of_request c reading request)
request-refuses c reading request =
    or-refuses (bad_manifest request.text) _ (manifest-refuses (bad request.text))
    (or-refuses (bad_signature c reading request) _ (first-refuses (unsigned_because c request.token reading) 0 (locators_of request.text))
    (or-refuses (wrong_hash (portable_hash request.text) request.portable) (bad_want request.want) (hash-refuses (portable_hash request.text) request.portable) (want-refuses request.want)))

-- ---- who owns a collection
abbrev pub Owns : TokenId → ℕ → State → Type 0
Owns token number s = ((x : Collection) × (owned token number s ≡ Ok x) × (collection_of number s ≡ Some x)) ⊎ ((a : TableAnswer) × (owned token number s ≡ Err a) × (is_refusal a ≡ true))

pub owns : (token : TokenId) (number : ℕ) (s : State) → Owns token number s
owns token number s = by (collection_of number s) refl
  where
    owner : (x : Collection) (b : Bool) → is_owner token x ≡ b → collection_of number s ≡ Some x → Owns token number s
    owner x true is e = inl (x, rw (e, is) refl, e)
    owner x false is e = inr (T.NotOwner, rw (e, is) refl, refl)

    by : (o : Option Collection) → collection_of number s ≡ o → Owns token number s
    by None e = inr (T.NoSuch, rw e refl, refl)
    by (Some x) e = owner x (is_owner token x) refl e

abbrev Updates : ℕ → TokenId → ℕ → State → Type 0
Updates reading token number s = ((x : Collection) × (updatable reading token number s ≡ Ok x) × (collection_of number s ≡ Some x)) ⊎ ((a : TableAnswer) × (updatable reading token number s ≡ Err a) × (is_refusal a ≡ true))

updates : (reading : ℕ) (token : TokenId) (number : ℕ) (s : State) → Updates reading token number s
updates reading token number s = by (owns token number s)
  where
    trash : (x : Collection) (b : Bool) → is_in_trash reading x ≡ b → owned token number s ≡ Ok x → collection_of number s ≡ Some x → Updates reading token number s
    trash x true is e f = inr (T.InTrash (unwrap_or x.trash_at 0), rw (e, is) refl, refl)
    trash x false is e f = inl (x, rw (e, is) refl, f)

    by : Owns token number s → Updates reading token number s
    by (inl o) = trash o.0 (is_in_trash reading o.0) refl o.1 o.2
    by (inr r) = inr (r.0, rw r.1 refl, r.2)

-- ---- the lines
module _ (c : Configuration) (reading : ℕ) (s : State) (P : Reply → Type 0) (quiet : (a : TableAnswer) → is_refusal a ≡ true → P (stays a s)) where
  token-cases : (text : List ℕ) (next : TokenId → Reply) → ((token : TokenId) → token_of c text ≡ Some token → P (next token)) → P (known c text s next)
  token-cases text next f = by (token_of c text) refl
    where
      by : (o : Option TokenId) → token_of c text ≡ o → P (by_token o s next)
      by None e = quiet T.UnknownToken refl
      by (Some token) e = f token e

  allowed-cases : (o : Option TableAnswer) (r : Reply) → Refuses o → (o ≡ None → P r) → P (if_allowed o s r)
  allowed-cases None r h f = f refl
  allowed-cases (Some a) r h f = quiet a h

  pub save-cases : (request : SaveRequest) → ((token : TokenId) → token_of c request.token ≡ Some token → refusal_of_request c reading request ≡ None → P (create token (made_of request) s)) → P (save c reading request s)
  unfolding save
  save-cases request f =
      token-cases request.token _ (λ token e. allowed-cases (refusal_of_request c reading request) (create token (made_of request) s) (request-refuses c reading request) (f token e))

  update-cases-by : (token : TokenId) (number : ℕ) (request : SaveRequest) (preserve : Bool) → Updates reading token number s → (r : Option TableAnswer) → Refuses r →
      ((x : Collection) → collection_of number s ≡ Some x → r ≡ None → P (with_update (rules_of c) reading number (made_of request) preserve s)) →
      P (if_allowed (option_or (refusal_of (updatable reading token number s)) r) s (update (rules_of c) reading token number (made_of request) preserve s))
  unfolding update
  update-cases-by token number request preserve (inr refused) r h f =
      subst (λ u. P (if_allowed (option_or (refusal_of u) r) s (unless_refused s u (λ x. if nat_le (rules_of c).versions (versions_held reading number s) then stays (T.TooManyVersions (versions_held reading number s)) s else with_update (rules_of c) reading number (made_of request) preserve s)))) (sym refused.1) (quiet refused.0 refused.2)
  update-cases-by token number request preserve (inl ok) r h f =
      subst (λ u. P (if_allowed (option_or (refusal_of u) r) s (unless_refused s u (λ x. if nat_le (rules_of c).versions (versions_held reading number s) then stays (T.TooManyVersions (versions_held reading number s)) s else with_update (rules_of c) reading number (made_of request) preserve s)))) (sym ok.1)
      (allowed-cases r _ h (λ e. by-if P (nat_le (rules_of c).versions (versions_held reading number s)) _ _ (λ many. quiet (T.TooManyVersions (versions_held reading number s)) refl) (λ few. f ok.0 ok.2 e)))

  pub update-cases : (number : ℕ) (preserve : Bool) (request : SaveRequest) →
      ((token : TokenId) (x : Collection) → token_of c request.token ≡ Some token → collection_of number s ≡ Some x → refusal_of_request c reading request ≡ None → P (with_update (rules_of c) reading number (made_of request) preserve s)) →
      P (update_line c reading number preserve request s)
  unfolding update_line
  update-cases number preserve request f =
      token-cases request.token _ (λ token e. update-cases-by token number request preserve (updates reading token number s) (refusal_of_request c reading request) (request-refuses c reading request) (λ x is none. f token x e is none))

  owned-cases : (token : TokenId) (number : ℕ) (next : Collection → Reply) → ((x : Collection) → collection_of number s ≡ Some x → P (next x)) → P (unless_refused s (owned token number s) next)
  owned-cases token number next f = by (owns token number s)
    where
      by : Owns token number s → P (unless_refused s (owned token number s) next)
      by (inl o) = subst (λ u. P (unless_refused s u next)) (sym o.1) (f o.0 o.2)
      by (inr r) = subst (λ u. P (unless_refused s u next)) (sym r.1) (quiet r.0 r.2)

  pub trash-cases : (text : List ℕ) (number trash_at asked : ℕ) →
      ((x : Collection) → collection_of number s ≡ Some x → P (record {
        answer = T.TrashSet trash_at (deleted_at (rules_of c) reading trash_at asked);
        state = with_collections (map (with_times number (Some trash_at) (Some (deleted_at (rules_of c) reading trash_at asked))) s.collections) s;
      })) → P (known c text s (λ t. set_trash (rules_of c) reading t number trash_at asked s))
  unfolding set_trash
  trash-cases text number trash_at asked f = token-cases text _ (λ token e. owned-cases token number _ f)

  pub restore-cases : (text : List ℕ) (number : ℕ) →
      ((x : Collection) → collection_of number s ≡ Some x → P (record { answer = T.Restored; state = with_collections (map (with_times number None None) s.collections) s })) →
      P (known c text s (λ t. restore t number s))
  unfolding restore
  restore-cases text number f = token-cases text _ (λ token e. owned-cases token number _ f)

  -- a read answers a record that can be read, of a collection that is there
  read-row : (token : TokenId) (number : ℕ) (version : Option ℕ) → ((r : Record) (x : Collection) → find (is_readable number version) s.records ≡ Some r → collection_of number s ≡ Some x → P (stays (row_answer (rules_of c) reading r x) s)) →
      (o : Option Record) → find (is_readable number version) s.records ≡ o → Owns token number s → P (unless_refused s (row_of_version (rules_of c) reading token number version s) (λ answer. stays answer s))
  read-row token number version f None e own = rw e (quiet T.NoSuch refl)
  read-row token number version f (Some r) e (inl o) = rw (e, o.1) (f r o.0 e o.2)
  read-row token number version f (Some r) e (inr o) = rw (e, o.1) (quiet o.0 o.2)

  pub read-cases : (text : List ℕ) (number : ℕ) (version : Option ℕ) →
      ((token : TokenId) (r : Record) (x : Collection) → token_of c text ≡ Some token → find (is_readable number version) s.records ≡ Some r → collection_of number s ≡ Some x → P (stays (row_answer (rules_of c) reading r x) s)) →
      P (known c text s (λ t. read (rules_of c) reading t number version s))
  unfolding read
  read-cases text number version f = token-cases text _ (λ token e. read-row token number version (λ r x. f token r x e) (find (is_readable number version) s.records) refl (owns token number s))
