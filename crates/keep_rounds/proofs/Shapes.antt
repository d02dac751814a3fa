-- What a round has given while it is asked for in order: nothing twice, and the scans go on from one another.
use Rattle.std.proofs.Common.{◌≡◌, ◌≤◌, ◌+◌, ℕ, List, [], ◌∷◌, ◌++◌, length, map, reverse, count_by, Bool, true, false, refl, sym, ◌∙◌, ap, subst, arith}
use Rattle.std.specs.Prelude.{◌==◌, ⊤}
use Rattle.std.specs.List.{AllByRecursion}
use Rattle.keep_spec.specs.Config.{Configuration}
use Rattle.keep_event.specs.declared.lists.Entry.{Entry}
use Rattle.keep_event.specs.declared.table.ScanRow.{ScanRow}
use Rattle.keep_table.proofs.Counts.{bit, count-cons}
use Rattle.keep_spec.specs.Members.{IsIn}
use Rattle.keep_history.specs.Rounds.{Round, Given, no_round, with_started, with_cleared, with_page, with_scan, prefixes}
use Rattle.keep_event.specs.Plan.{Scan, reached}
use Rattle.keep_safety.specs.Rounds.{is_page_of, AreChained, AreWhole, IsGathered}
use Rattle.keep_order.proofs.Distinct.{numbers-distinct}
use Rattle.keep_safety.proofs.Orders.{counted-once}
use Rattle.std.proofs.lemmas.List.{reverse-append, append_assoc}
use Rattle.keep_rounds.specs.Order.{asked_of, IsOrdered}
use Rattle.keep_history.specs.Balance.{device_numbers, page_on, all_pages, to_clear, to_page}
use Rattle.keep_event.specs.Plan.{has_ended}
use Rattle.keep_history.specs.Balance.{start_of}
use Rattle.keep_rounds.proofs.Apart.{drop-next, next-in}
use Rattle.keep_rounds.proofs.Pages.{device-in, prefix-in, is_wanted, wanted-once}

-- each scan goes on from the one before it, and none but the latest is the last
abbrev pub AreLinked : List Scan → Type 0
AreLinked [] = ⊤
AreLinked (s ∷ earlier) = (s.after ≡ reached earlier) × AreChained earlier

pub record IsShaped (c : Configuration) (g : Round) : Type 0 where
  pub began : g.started ≡ start_of g.started ∷ []
  pub cleared : (d : ℕ) → count_by (λ x. x == d) g.cleared + count_by (λ x. x == d) (to_clear c g) ≡ count_by (λ x. x == d) (device_numbers c)
  pub paged : (d : ℕ) (prefix : List ℕ) → count_by (is_page_of d prefix) g.pages + count_by (is_wanted d prefix) (to_page c g) ≡ count_by (is_wanted d prefix) (all_pages c)
  pub asked : AllByRecursion (λ p. IsIn p.prefix (prefixes c.index_digits)) g.pages
  pub scanned : AreLinked g.scans
  pub ordered : IsOrdered c g

-- how far a round has come: the stage of what it asks next
abbrev pub place_of_scan : Bool → ℕ
place_of_scan true = 3
place_of_scan false = 2

abbrev pub place_of_page : List (ℕ × List ℕ) → Bool → ℕ
place_of_page [] b = place_of_scan b
place_of_page (x ∷ xs) b = 2

abbrev pub place_of : List ℕ → List (ℕ × List ℕ) → Bool → ℕ
place_of [] ps b = place_of_page ps b
place_of (d ∷ ds) ps b = 1

abbrev pub place : Configuration → Round → ℕ
place c g = place_of (to_clear c g) (to_page c g) (has_ended g.scans)

scan-place : (b : Bool) → 2 ≤ place_of_scan b
scan-place true = omega arith
scan-place false = omega arith

page-place : (ps : List (ℕ × List ℕ)) (b : Bool) → 2 ≤ place_of_page ps b
page-place [] b = scan-place b
page-place (x ∷ xs) b = omega arith

pub clear-place : (ds : List ℕ) (ps : List (ℕ × List ℕ)) (b : Bool) → 1 ≤ place_of ds ps b
clear-place [] ps b = let two = page-place ps b in omega arith
clear-place (d ∷ ds) ps b = omega arith

pub after-clears : (ds : List ℕ) (ps : List (ℕ × List ℕ)) (b : Bool) → ds ≡ [] → 2 ≤ place_of ds ps b
after-clears [] ps b e = page-place ps b
after-clears (d ∷ ds) ps b e = cc e

-- ---- the beginning
pub shaped-begun : (c : Configuration) (start : ℕ) → IsShaped c (with_started start no_round)
shaped-begun c start = record {
  began = refl;
  cleared = λ d. omega arith;
  paged = λ d prefix. omega arith;
  asked = tt;
  scanned = tt;
  ordered = record { cleared = refl; paged = refl; after_clears = λ d ds e. refl; after_pages = λ x xs e. refl };
}

none-left : {X : Type 0} {xs : List X} {y : X} {ys : List X} → xs ≡ [] → xs ≡ y ∷ ys → ⊥
none-left e f = cc (sym e ∙ f)

-- ---- what came, in its order, and what is missing
one-more : {X : Type 0} (x : X) (xs ys zs ws all : List X) → reverse xs ++ ys ≡ all → ys ≡ x ∷ zs → ws ≡ zs → reverse (x ∷ xs) ++ ws ≡ all
one-more x xs ys zs ws all e is left =
    ap (λ v. v ++ ws) (reverse-append (x ∷ []) xs) ∙ append_assoc (reverse xs) (x ∷ []) ws ∙ ap (λ v. reverse xs ++ x ∷ v) left ∙ ap (λ v. reverse xs ++ v) (sym is) ∙ e

-- ---- a device is cleared
moved : (n : ℕ) (b k m l : ℕ) → n + l ≡ m → l ≡ b + k → (b + n) + k ≡ m
moved n b k m l e f = omega arith

counted-next : (p : ℕ → Bool) (xs ys zs all : List ℕ) (d : ℕ) (n : ℕ) → count_by p xs + count_by p ys ≡ n → ys ≡ d ∷ zs → count_by p (d ∷ xs) + count_by p zs ≡ n
counted-next p xs ys zs all d n e is =
    let here = count-cons p d xs in
    let there : count_by p ys ≡ bit (p d) + count_by p zs = ap (count_by p) is ∙ count-cons p d zs in
    omega arith

pub shaped-clear : (c : Configuration) (g : Round) (d : ℕ) (ds : List ℕ) → IsShaped c g → to_clear c g ≡ d ∷ ds → IsShaped c (with_cleared d g)
shaped-clear c g d ds s is = record {
  began = s.began;
  cleared = λ x. subst (λ v. count_by (λ y. y == x) (d ∷ g.cleared) + count_by (λ y. y == x) v ≡ count_by (λ y. y == x) (device_numbers c)) (sym (drop-next (length g.cleared) (device_numbers c) d ds is))
      (counted-next (λ y. y == x) g.cleared (to_clear c g) ds (device_numbers c) d (count_by (λ y. y == x) (device_numbers c)) (s.cleared x) is);
  paged = s.paged;
  asked = s.asked;
  scanned = s.scanned;
  ordered = record {
    cleared = one-more d g.cleared (to_clear c g) ds (to_clear c (with_cleared d g)) (device_numbers c) s.ordered.cleared is (drop-next (length g.cleared) (device_numbers c) d ds is);
    paged = s.ordered.paged;
    after_clears = λ x xs e. s.ordered.after_clears d ds is;
    after_pages = s.ordered.after_pages;
  };
}

-- ---- a device gave a page
abbrev given : ℕ → List ℕ → List Entry → Given
given d prefix entries = record { device = d; prefix = prefix; entries = entries }

paged-next : (d : ℕ) (prefix : List ℕ) (xs : List Given) (ys zs : List (ℕ × List ℕ)) (k : ℕ) (q : List ℕ) (entries : List Entry) (n : ℕ) →
    count_by (is_page_of d prefix) xs + count_by (is_wanted d prefix) ys ≡ n → ys ≡ page_on k q ∷ zs →
    count_by (is_page_of d prefix) (given k q entries ∷ xs) + count_by (is_wanted d prefix) zs ≡ n
paged-next d prefix xs ys zs k q entries n e is =
    let here : count_by (is_page_of d prefix) (given k q entries ∷ xs) ≡ bit (is_wanted d prefix (page_on k q)) + count_by (is_page_of d prefix) xs = count-cons (is_page_of d prefix) (given k q entries) xs in
    let there : count_by (is_wanted d prefix) ys ≡ bit (is_wanted d prefix (page_on k q)) + count_by (is_wanted d prefix) zs = ap (count_by (is_wanted d prefix)) is ∙ count-cons (is_wanted d prefix) (page_on k q) zs in
    omega arith

pub shaped-page : (c : Configuration) (g : Round) (k : ℕ) (q : List ℕ) (xs : List (ℕ × List ℕ)) (entries : List Entry) → IsShaped c g → to_clear c g ≡ [] → to_page c g ≡ page_on k q ∷ xs →
    IsShaped c (with_page (record { device = k; prefix = q; entries = entries }) g)
shaped-page c g k q xs entries s none is = record {
  began = s.began;
  cleared = s.cleared;
  paged = λ d prefix. subst (λ v. count_by (is_page_of d prefix) (given k q entries ∷ g.pages) + count_by (is_wanted d prefix) v ≡ count_by (is_wanted d prefix) (all_pages c)) (sym (drop-next (length g.pages) (all_pages c) (page_on k q) xs is))
      (paged-next d prefix g.pages (to_page c g) xs k q entries (count_by (is_wanted d prefix) (all_pages c)) (s.paged d prefix) is);
  asked = (prefix-in c (page_on k q) (next-in (length g.pages) (all_pages c) (page_on k q) xs is), s.asked);
  scanned = s.scanned;
  ordered = record {
    cleared = s.ordered.cleared;
    paged = one-more (page_on k q) (map asked_of g.pages) (to_page c g) xs (to_page c (with_page (given k q entries) g)) (all_pages c) s.ordered.paged is (drop-next (length g.pages) (all_pages c) (page_on k q) xs is);
    after_clears = λ d ds e. absurd (none-left none e);
    after_pages = λ y ys e. s.ordered.after_pages (page_on k q) xs is;
  };
}

-- ---- the table gave rows
chained : (scans : List Scan) → AreLinked scans → has_ended scans ≡ false → AreChained scans
chained [] h e = tt
chained (s ∷ earlier) h e = (e, h.0, h.1)

pub whole : (scans : List Scan) → AreLinked scans → has_ended scans ≡ true → AreWhole scans
whole [] h e = cc e
whole (s ∷ earlier) h e = (e, h.0, h.1)

pub shaped-scan : (c : Configuration) (g : Round) (rows : List ScanRow) (last : Bool) → IsShaped c g → to_page c g ≡ [] → has_ended g.scans ≡ false →
    IsShaped c (with_scan (record { after = reached g.scans; rows = rows; last = last }) g)
shaped-scan c g rows last s none more = record {
  began = s.began;
  cleared = s.cleared;
  paged = s.paged;
  asked = s.asked;
  scanned = (refl, chained g.scans s.scanned more);
  ordered = record { cleared = s.ordered.cleared; paged = s.ordered.paged; after_clears = s.ordered.after_clears; after_pages = λ x xs e. absurd (none-left none e) };
}

-- ---- a round that has asked for all
pub counted-all : (p : ℕ → Bool) (xs ys : List ℕ) (n m : ℕ) → count_by p xs + count_by p ys ≡ n → ys ≡ [] → n ≡ m → count_by p xs ≡ m
counted-all p xs ys n m e is f = let none : count_by p ys ≡ 0 = ap (count_by p) is in omega arith

pub paged-all : (p : Given → Bool) (q : ℕ × List ℕ → Bool) (xs : List Given) (ys : List (ℕ × List ℕ)) (n m : ℕ) → count_by p xs + count_by q ys ≡ n → ys ≡ [] → n ≡ m → count_by p xs ≡ m
paged-all p q xs ys n m e is f = let none : count_by q ys ≡ 0 = ap (count_by q) is in omega arith

abbrev pub shaped-gathered : (c : Configuration) (g : Round) → IsShaped c g → to_clear c g ≡ [] → to_page c g ≡ [] → has_ended g.scans ≡ true → IsGathered c g
shaped-gathered c g s cleared paged done = record {
  start = start_of g.started;
  began = s.began;
  cleared = λ d lt. counted-all (λ x. x == d) g.cleared (to_clear c g) (count_by (λ x. x == d) (device_numbers c)) 1 (s.cleared d) cleared (counted-once d (device_numbers c) (numbers-distinct 0 (length c.devices)) (device-in c d lt));
  paged = λ d lt prefix i. paged-all (is_page_of d prefix) (is_wanted d prefix) g.pages (to_page c g) (count_by (is_wanted d prefix) (all_pages c)) 1 (s.paged d prefix) paged (wanted-once c d prefix lt i);
  asked = s.asked;
  scanned = whole g.scans s.scanned done;
}
