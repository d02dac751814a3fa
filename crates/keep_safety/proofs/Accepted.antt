-- What a save or an update names was signed before, by a signature that is good at its reading: `accepted-row`; an ascending list has no other members: `in-ascending`.
use Rattle.std.proofs.Common.{◌≡◌, ◌≤◌, ◌+◌, ◌*◌, ◌^◌, ℕ, List, [], ◌∷◌, map, filter, Bool, true, false, not, refl, sym, ◌∙◌, ap, subst, Option, None, Some, IfSome, option_map, Ok, Err, inl, inr, if◌then◌else◌, Less, Equal, Greater, Ordering}
use Rattle.std.specs.Prelude.{◌⊎◌, nat_lt}
use Rattle.std.specs.Option.{option_or, option_map_or}
use Rattle.std.specs.Ordering.{nat_cmp, match_ordering}
use Rattle.std.specs.Cmp.Lexicographic.{slice_cmp}
use Rattle.std.specs.Str.{bytes_eq}
use Rattle.std.proofs.lemmas.Bool.{ltb-false}
use Rattle.keep_spec.specs.Config.{Configuration, token_of}
use Rattle.keep_spec.specs.Locator.{is_empty_block, permission, digest}
use Rattle.keep_spec.specs.Manifest.{manifest_of, named, named_in}
use Rattle.keep_spec.specs.Sign.{verdict, judged, signature_of}
use Rattle.keep_spec.specs.declared.manifest.Manifest.{Manifest}
use Rattle.keep_spec.specs.declared.manifest.Stream.{Stream}
use Rattle.keep_spec.specs.declared.permission.Permission.{Permission}
use Rattle.keep_spec.specs.declared.token.TokenId.{TokenId}
use Rattle.keep_spec.specs.declared.unverified.Unverified.{Unverified}
use Rattle.keep_spec.specs.declared.unverified.Unverified.TheVariants.{Expired, Invalid}
use Rattle.keep_event.specs.Requests.{ascending, inserted, digests_of, locators_of, locators_in, first_unsigned, unsigned_because, cause_of, refusal_of_request, made_of, table_line}
use Rattle.keep_event.specs.Table as tables
use Rattle.keep_event.specs.Table.{State, Reply, stays}
use Rattle.keep_event.specs.declared.table.SaveRequest.{SaveRequest}
use Rattle.keep_event.specs.declared.table.TableQuery.{TableQuery}
use Rattle.keep_event.specs.declared.table.TableQuery.TheVariants as TQ
use Rattle.keep_event.specs.declared.table.TableAnswer.{TableAnswer}
use Rattle.keep_event.specs.declared.table.TableAnswer.TheVariants as T
use Rattle.keep_event.specs.declared.event.Query.{Query}
use Rattle.keep_event.specs.declared.event.Query.TheVariants as Q
use Rattle.keep_event.specs.declared.event.Answer.{Answer}
use Rattle.keep_event.specs.declared.event.Answer.TheVariants as A
use Rattle.keep_spec.specs.Members.{IsIn}
use Rattle.keep_safety.specs.Past.{Past, table_after, IsAnswered}
use Rattle.keep_safety.specs.Rows.{Row, rows, rows_after, rows_made, scan_row, stays_at_update, stays_at_sweep, superseded_by, new_row}
use Rattle.keep_safety.specs.Signatures.{Signature, issued, WasIssued, WereIssued, AcceptsIssued, EventAcceptsIssued}
use Rattle.keep_order.proofs.Lists.{in-map, in-filter, in-joined, joined-in, in-either, all-at}
use Rattle.keep_safety.proofs.Made.{good-signatures}
use Rattle.keep_safety.proofs.Scans.{superseded-row}
use Rattle.keep_safety.proofs.TableLines.{is_refusal, save-cases, update-cases}
use Rattle.keep_safety.proofs.Tables.{refused-rows}

-- ---- the members of an ascending list
in-inserted-by : (h x y : List ℕ) (ys : List (List ℕ)) (o : Ordering) → IsIn h (match_ordering o (x ∷ y ∷ ys) (y ∷ ys) (y ∷ inserted x ys)) → (IsIn h (inserted x ys) → (h ≡ x) ⊎ IsIn h ys) → (h ≡ x) ⊎ IsIn h (y ∷ ys)
in-inserted-by h x y ys Less i rest = i
in-inserted-by h x y ys Equal i rest = inr i
in-inserted-by h x y ys Greater (inl e) rest = inr (inl e)
in-inserted-by h x y ys Greater (inr i) rest = behind (rest i)
  where
    behind : (h ≡ x) ⊎ IsIn h ys → (h ≡ x) ⊎ ((h ≡ y) ⊎ IsIn h ys)
    behind (inl e) = inl e
    behind (inr j) = inr (inr j)

in-inserted : (h x : List ℕ) (ys : List (List ℕ)) → IsIn h (inserted x ys) → (h ≡ x) ⊎ IsIn h ys
in-inserted h x [] i = i
in-inserted h x (y ∷ ys) i = in-inserted-by h x y ys (slice_cmp nat_cmp x y) i (in-inserted h x ys)

in-ascending-by : (h x : List ℕ) (xs : List (List ℕ)) (P : Type 0) → (P → IsIn h xs) → (h ≡ x) ⊎ P → IsIn h (x ∷ xs)
in-ascending-by h x xs P f (inl e) = inl e
in-ascending-by h x xs P f (inr i) = inr (f i)

pub in-ascending : (h : List ℕ) (xs : List (List ℕ)) → IsIn h (ascending xs) → IsIn h xs
in-ascending h [] i = i
in-ascending h (x ∷ xs) i = in-ascending-by h x xs (IsIn h (ascending xs)) (in-ascending h xs) (in-inserted h x (ascending xs) i)

-- ---- the locator of a digest that a text names
pub record Locates (h : List ℕ) (ls : List (List ℕ)) : Type 0 where
  pub locator : List ℕ
  pub member : IsIn locator ls
  pub some : is_empty_block locator ≡ false
  pub is : h ≡ digest locator

located-in : (h : List ℕ) (m : Manifest) → IsIn h (named m) → Locates h (locators_in m)
unfolding named
located-in h m i =
    let s = in-joined (λ (s : Stream). named_in s.locators) h m.streams i in
    let d = in-map digest h (filter (λ l. not (is_empty_block l)) s.from.locators) s.has in
    let l = in-filter (λ l. not (is_empty_block l)) d.from s.from.locators d.member in
    record { locator = d.from; member = joined-in (λ (s : Stream). s.locators) s.from d.from m.streams s.member l.0; some = not-empty (is_empty_block d.from) l.1; is = d.is }
  where
    not-empty : (b : Bool) → not b ≡ true → b ≡ false
    not-empty true e = cc e
    not-empty false e = refl

pub located : (h text : List ℕ) → IsIn h (digests_of text) → Locates h (locators_of text)
located h text i = by (manifest_of text) i
  where
    by : (o : Option Manifest) → IsIn h (option_map_or (λ m. ascending (named m)) o []) → Locates h (option_map_or locators_in o [])
    by None i = absurd i
    by (Some m) i = located-in h m (in-ascending h (named m) i)

-- ---- a locator for which there is no cause is good at the reading
first-none : {X : Type 0} (x y : Option X) → option_or x y ≡ None → (x ≡ None) × (y ≡ None)
first-none None y e = (refl, e)
first-none (Some a) y e = cc e

unmapped : {X Y : Type 0} (f : X → Y) (o : Option X) → option_map f o ≡ None → o ≡ None
unmapped f None e = refl
unmapped f (Some x) e = cc e

no-cause : (why : List ℕ → Option Unverified) (index : ℕ) (l : List ℕ) (ls : List (List ℕ)) → first_unsigned why index ls ≡ None → IsIn l ls → why l ≡ None
no-cause why index l [] e i = absurd i
no-cause why index l (x ∷ xs) e (inl same) = ap why same ∙ unmapped (T.Unsigned index) (why x) (first-none (option_map (T.Unsigned index) (why x)) (first_unsigned why (index + 1) xs) e).0
no-cause why index l (x ∷ xs) e (inr i) = no-cause why (index + 1) l xs (first-none (option_map (T.Unsigned index) (why x)) (first_unsigned why (index + 1) xs) e).1 i

pub record IsGood (reading : ℕ) (locator : List ℕ) : Type 0 where
  pub hint : Permission
  pub has : permission locator ≡ Some hint
  pub later : reading ≤ hint.expiry * 10 ^ 9

good-by : (reading : ℕ) (locator d token : List ℕ) (ttl : ℕ) (secret : List ℕ) (o : Option Permission) → permission locator ≡ o → cause_of (judged o d token ttl secret reading) ≡ None → IsGood reading locator
good-by reading locator d token ttl secret None is e = cc e
good-by reading locator d token ttl secret (Some p) is e = by (nat_lt (p.expiry * 1000000000) reading) refl e
  where
    by : (b : Bool) → nat_lt (p.expiry * 1000000000) reading ≡ b →
        cause_of (if b then Err (Expired p.expiry) else if bytes_eq p.signature (signature_of d token p.expiry ttl secret) then Ok (record { digest = d; expiry = p.expiry }) else Err Invalid) ≡ None → IsGood reading locator
    by true lt e = cc e
    by false ge e = record { hint = p; has = is; later = ltb-false (p.expiry * 1000000000) reading ge }

good-locator : (c : Configuration) (token : List ℕ) (reading : ℕ) (locator : List ℕ) → is_empty_block locator ≡ false → unsigned_because c token reading locator ≡ None → IsGood reading locator
good-locator c token reading locator some e = good-by reading locator (digest locator) token c.ttl c.secret (permission locator) refl (sym (ap (λ b. if b then None else cause_of (verdict locator token c.ttl c.secret reading)) some) ∙ e)

-- ---- so each digest has a signature that was issued before and is good
pub record WasSigned (c : Configuration) (past : Past) (reading : ℕ) (h : List ℕ) : Type 0 where
  pub signature : Signature
  pub issued_before : IsIn signature (issued c past)
  pub digest_is : signature.digest ≡ h
  pub later : reading ≤ signature.expiry * 10 ^ 9

module _ (c : Configuration) (past : Past) (reading : ℕ) where
  issued-by : (h locator : List ℕ) (token : TokenId) (p : Permission) → h ≡ digest locator → permission locator ≡ Some p → reading ≤ p.expiry * 10 ^ 9 →
      (o : Option TokenId) → o ≡ Some token → IfSome o (λ t. IfSome (permission locator) (λ p. IsIn (record { digest = digest locator; token = t; expiry = p.expiry }) (issued c past))) → WasSigned c past reading h
  issued-by h locator token p is has later o e w =
      let at : IfSome (Some token) (λ t. IfSome (permission locator) (λ p. IsIn (record { digest = digest locator; token = t; expiry = p.expiry }) (issued c past))) = subst (λ o. IfSome o (λ t. IfSome (permission locator) (λ p. IsIn (record { digest = digest locator; token = t; expiry = p.expiry }) (issued c past)))) e w in
      let here : IfSome (Some p) (λ p. IsIn (record { digest = digest locator; token = token; expiry = p.expiry }) (issued c past)) = subst (λ o. IfSome o (λ p. IsIn (record { digest = digest locator; token = token; expiry = p.expiry }) (issued c past))) has at in
      record { signature = record { digest = digest locator; token = token; expiry = p.expiry }; issued_before = here; digest_is = sym is; later = later }

  request-signed : (request : SaveRequest) (token : TokenId) (h : List ℕ) → token_of c request.token ≡ Some token → refusal_of_request c reading request ≡ None → WereIssued c past request → IsIn h (digests_of request.text) → WasSigned c past reading h
  request-signed request token h known none were i =
      let l = located h request.text i in
      let good = good-locator c request.token reading l.locator l.some (no-cause (unsigned_because c request.token reading) 0 l.locator (locators_of request.text) (good-signatures c reading request none) l.member) in
      let was = all-at (WasIssued c past (token_of c request.token)) l.locator (locators_of request.text) were l.member in
      issued-by h l.locator token good.hint l.is good.has good.later (token_of c request.token) known (was l.some)

  -- a row after an event is as one before it, or each digest of it was signed
  pub record IsAccepted (q : Query) (x : Row) : Type 0 where
    pub is : ((o : Row) × IsIn o (rows c past) × (scan_row x ≡ scan_row o)) ⊎ ((t : TableQuery) × (q ≡ Q.Table t) × ((h : List ℕ) → IsIn h x.made.named → WasSigned c past reading h))

  abbrev Accepts : TableQuery → Reply → Type 0
  Accepts q r = AcceptsIssued c past q r.answer → (x : Row) → IsIn x (rows_after c past reading (Q.Table q) (A.Table r.answer) (rows c past)) → IsAccepted (Q.Table q) x

  as-was : (q : Query) (x : Row) → IsIn x (rows c past) → IsAccepted q x
  as-was q x i = record { is = inl (x, i, refl) }

  quiet : (q : TableQuery) (a : TableAnswer) → is_refusal a ≡ true → Accepts q (stays a (table_after c past))
  quiet q a e accepted x i = as-was (Q.Table q) x (subst (λ v. IsIn x v) (refused-rows c past reading q a (rows c past) e) i)

  accepted-new : (q : TableQuery) (request : SaveRequest) (token : TokenId) (number version revision : ℕ) (x : Row) → token_of c request.token ≡ Some token → refusal_of_request c reading request ≡ None → WereIssued c past request → x ≡ new_row number version revision (made_of request) → IsAccepted (Q.Table q) x
  accepted-new q request token number version revision x known none were e = record { is = inr (q, refl, λ h i. request-signed request token h known none were (subst (λ (v : Row). IsIn h v.made.named) e i)) }

  accepts-line : (q : TableQuery) → Accepts q (table_line c reading q (table_after c past))
  unfolding tables.begin_round tables.scan tables.create tables.sweep
  accepts-line (TQ.Save request) = save-cases c reading (table_after c past) (Accepts (TQ.Save request)) (quiet (TQ.Save request)) request (λ token known none were x i.
      by token known none were x (in-either x (rows c past) (new_row ((table_after c past).numbers + 1) 1 (rows_made past + 1) (made_of request) ∷ []) i))
    where
      by : (token : TokenId) → token_of c request.token ≡ Some token → refusal_of_request c reading request ≡ None → WereIssued c past request → (x : Row) → IsIn x (rows c past) ⊎ IsIn x (new_row ((table_after c past).numbers + 1) 1 (rows_made past + 1) (made_of request) ∷ []) → IsAccepted (Q.Table (TQ.Save request)) x
      by token known none were x (inl i) = as-was (Q.Table (TQ.Save request)) x i
      by token known none were x (inr (inl e)) = accepted-new (TQ.Save request) request token _ _ _ x known none were e
      by token known none were x (inr (inr i)) = absurd i
  accepts-line (TQ.Update number preserve request) = update-cases c reading (table_after c past) (Accepts (TQ.Update number preserve request)) (quiet (TQ.Update number preserve request)) number preserve request (λ token y known found none were x i.
      by token known none were x (in-either x (map (superseded_by number reading preserve) (filter (stays_at_update c reading number) (rows c past))) (new_row number (tables.current_version number (table_after c past) + 1) (rows_made past + 1) (made_of request) ∷ []) i))
    where
      by : (token : TokenId) → token_of c request.token ≡ Some token → refusal_of_request c reading request ≡ None → WereIssued c past request → (x : Row) → IsIn x (map (superseded_by number reading preserve) (filter (stays_at_update c reading number) (rows c past))) ⊎ IsIn x (new_row number (tables.current_version number (table_after c past) + 1) (rows_made past + 1) (made_of request) ∷ []) → IsAccepted (Q.Table (TQ.Update number preserve request)) x
      by token known none were x (inl i) =
          let m = in-map (superseded_by number reading preserve) x (filter (stays_at_update c reading number) (rows c past)) i in
          record { is = inl (m.from, (in-filter (stays_at_update c reading number) m.from (rows c past) m.member).0, ap scan_row m.is ∙ superseded-row number reading preserve m.from) }
      by token known none were x (inr (inl e)) = accepted-new (TQ.Update number preserve request) request token _ _ _ x known none were e
      by token known none were x (inr (inr i)) = absurd i
  accepts-line TQ.Sweep = λ were x i. as-was (Q.Table TQ.Sweep) x (in-filter (stays_at_sweep c past reading) x (rows c past) i).0
  accepts-line _ = λ were x i. record { is = inl (x, i, refl) }

  pub accepted-row : (q : Query) (a : Answer) → IsAnswered c past reading q a → EventAcceptsIssued c past q a → (x : Row) → IsIn x (rows_after c past reading q a (rows c past)) → IsAccepted q x
  accepted-row (Q.Table q) (A.Table a) is = subst (λ a. AcceptsIssued c past q a → (x : Row) → IsIn x (rows_after c past reading (Q.Table q) (A.Table a) (rows c past)) → IsAccepted (Q.Table q) x) (sym is) (accepts-line q)
  accepted-row (Q.Table q) (A.Device a) is = absurd is
  accepted-row (Q.Device n q) (A.Table a) is = absurd is
  accepted-row (Q.Device n q) (A.Device a) is = λ were x i. as-was (Q.Device n q) x i
