-- The page that is asked next: `page-found` and `not-found` by the number of a prefix, `first-found` and `no-texts` for a device's first, `first-follows` and `none-follow` behind a device's last; `mapped` on what holds of an answer.
use Rattle.std.proofs.Common.{◌≡◌, ◌<◌, ◌≤◌, ◌+◌, ℕ, zero, suc, List, [], ◌∷◌, length, map, flat_map, drop, Option, None, Some, option_map, slice_get, Result, Ok, Err, IfOk, refl, sym, ◌∙◌, ap, subst, arith}
use Rattle.keep_spec.specs.Members.{numbers_from}
use Rattle.keep_event.specs.Plan.{reached}
use Rattle.keep_event.specs.declared.device.DeviceQuery.TheVariants as DQ
use Rattle.keep_event.specs.declared.table.TableQuery.TheVariants as TQ
use Rattle.keep_event.specs.declared.event.Query.{Query}
use Rattle.keep_event.specs.declared.event.Query.TheVariants as Q
use Rattle.keep_history.specs.Balance.{page_on}
use Rattle.keep_balance.specs.Gathering.{IsFirstPage, IsPageFrom}
use Rattle.keep_balance.specs.Standing.{AsksPage, pages_from}
use Rattle.keep_balance.specs.declared.task.BalanceTask.{BalanceTask}
use Rattle.keep_balance.specs.declared.task.Place.{Place}
use Rattle.keep_balance.specs.declared.task.Place.TheVariants.{Page, Scan}

pub mapped : {X E : Type 0} (P R : X → Type 0) (r : Result X E) → ((x : X) → P x → R x) → IfOk r P → IfOk r R
mapped P R (Ok x) f h = f x h
mapped P R (Err e) f h = h

-- ---- lists by number

drop-by : {X : Type 0} (xs : List X) (n : ℕ) (x : X) → slice_get xs n ≡ Some x → drop n xs ≡ x ∷ drop (suc n) xs
drop-by [] n x e = cc e
drop-by (y ∷ xs) zero x e = cc e
drop-by (y ∷ xs) (suc n) x e = drop-by xs n x e

drop-found : {X : Type 0} (xs : List X) (n : ℕ) (x : X) → slice_get xs n ≡ Some x → drop n xs ≡ x ∷ drop (n + 1) xs
drop-found xs n x e =
    let more : suc n ≡ n + 1 = omega arith in
    drop-by xs n x e ∙ ap (λ k. x ∷ drop k xs) more

drop-none : {X : Type 0} (xs : List X) (n : ℕ) → slice_get xs n ≡ None → drop n xs ≡ []
drop-none [] zero e = refl
drop-none [] (suc n) e = refl
drop-none (y ∷ xs) zero e = cc e
drop-none (y ∷ xs) (suc n) e = drop-none xs n e

no-pages : (ds : List ℕ) → flat_map (λ d. map (page_on d) []) ds ≡ []
no-pages [] = refl
no-pages (d ∷ ds) = no-pages ds

module _ (t : BalanceTask) (d next : ℕ) where
  abbrev page_asked : List ℕ → Place × Query
  page_asked text = (Page d (next + 1), Q.Device d (DQ.Page t.gather.round text))

  found : (text : List ℕ) (missing : List (ℕ × List ℕ)) → slice_get t.prefixes.items next ≡ Some text → (left : ℕ) → d + 1 + left ≡ length t.config.devices
      → missing ≡ pages_from t.prefixes.items d left (drop next t.prefixes.items)
      → AsksPage t.prefixes.items (length t.config.devices) t.gather.round t.config.scan_limit missing (Page d (next + 1)) (Q.Device d (DQ.Page t.gather.round text))
  found text missing e left all is = record {
    prefix = text;
    left = left;
    all = all;
    missing_is = is ∙ ap (pages_from t.prefixes.items d left) (drop-found t.prefixes.items next text e);
    query_is = refl;
  }

  page-by : (o : Option (List ℕ)) (asked : Place × Query) → slice_get t.prefixes.items next ≡ o → Some asked ≡ option_map page_asked o → IsPageFrom t d next asked.0 asked.1
  page-by (Some text) asked e h left all none =
      let is : page_asked text ≡ asked = cc h in
      subst (λ a. AsksPage t.prefixes.items (length t.config.devices) t.gather.round t.config.scan_limit (pages_from t.prefixes.items d left (drop next t.prefixes.items)) a.0 a.1) is (found text _ e left all refl)
  page-by None asked e h left all none = cc h

  pub page-found : (asked : Place × Query) → Some asked ≡ option_map page_asked (slice_get t.prefixes.items next) → IsPageFrom t d next asked.0 asked.1
  page-found asked h = page-by (slice_get t.prefixes.items next) asked refl h

  absent : (o : Option (List ℕ)) → None ≡ option_map page_asked o → o ≡ None
  absent None h = refl
  absent (Some text) h = cc h

  pub not-found : None ≡ option_map page_asked (slice_get t.prefixes.items next) → slice_get t.prefixes.items next ≡ None
  not-found h = absent (slice_get t.prefixes.items next) h

  pub first-follows : (after : ℕ) (place : Place) (query : Query) → slice_get t.prefixes.items next ≡ None → after ≡ d + 1 → after < length t.config.devices → IsFirstPage t after place query → IsPageFrom t d next place query
  first-follows after place query gone is below h zero all none = absurd (omega (arith, is, below, all))
  first-follows after place query gone is below h (suc left) all none =
      let all' : after + 1 + left ≡ length t.config.devices = omega (arith, is, all) in
      let these : flat_map (λ d. map (page_on d) t.prefixes.items) (numbers_from after (suc left)) ≡ pages_from t.prefixes.items d (suc left) (drop next t.prefixes.items)
      = ap (λ n. flat_map (λ d. map (page_on d) t.prefixes.items) (numbers_from n (suc left))) is ∙ sym (ap (pages_from t.prefixes.items d (suc left)) (drop-none t.prefixes.items next gone)) in
      subst (λ m. AsksPage t.prefixes.items (length t.config.devices) t.gather.round t.config.scan_limit m place query) these (h left all' none)

  pub none-follow : slice_get t.prefixes.items next ≡ None → length t.config.devices ≤ d + 1 → IsPageFrom t d next Scan (Q.Table (TQ.Scan t.gather.round (reached t.gather.scans) t.config.scan_limit))
  none-follow gone few zero all none = (ap (pages_from t.prefixes.items d 0) (drop-none t.prefixes.items next gone), ap (λ scans. Q.Table (TQ.Scan t.gather.round (reached scans) t.config.scan_limit)) none)
  none-follow gone few (suc left) all none = absurd (omega (arith, few, all))

module _ (t : BalanceTask) (d : ℕ) where
  pub first-found : (asked : Place × Query) → IsPageFrom t d 0 asked.0 asked.1 → IsFirstPage t d asked.0 asked.1
  first-found asked h = h

  pub no-texts : slice_get t.prefixes.items 0 ≡ None → IsFirstPage t d Scan (Q.Table (TQ.Scan t.gather.round (reached t.gather.scans) t.config.scan_limit))
  no-texts gone left all none = (
    ap (λ texts. flat_map (λ d. map (page_on d) texts) (numbers_from d (suc left))) (drop-none t.prefixes.items 0 gone) ∙ no-pages (numbers_from d (suc left)),
    ap (λ scans. Q.Table (TQ.Scan t.gather.round (reached scans) t.config.scan_limit)) none,
  )
