-- Pages and scans in the order in which they were given.
use Rattle.std.proofs.Common.{◌≡◌, List, [], ◌∷◌, ◌++◌, map, reverse, refl, sym, ap, ◌∙◌}
use Rattle.std.specs.List.{flat_map}
use Rattle.std.proofs.lemmas.List.{reverse-append, reverse-reverse, map-append}
use Rattle.std.proofs.lemmas.List.Concat.{flat_map-append}
use Rattle.std.proofs.lemmas.List.Folds.{flat_map-map}
use Rattle.keep_event.specs.Plan.{Page, Scan, gathered_rows}
use Rattle.keep_gather.specs.Shown.{page_of, scan_of}
use Rattle.keep_gather.specs.declared.given.GivenPage.{GivenPage}
use Rattle.keep_gather.specs.declared.given.GivenScan.{GivenScan}
use Rattle.keep_plan.specs.Mentions.{on_page, in_row}

pub reverse-cons : {X : Type 0} (x : X) (xs : List X) → reverse (x ∷ xs) ≡ reverse xs ++ x ∷ []
reverse-cons x xs = reverse-append (x ∷ []) xs

map-reverse : {X Y : Type 0} (f : X → Y) (xs : List X) → map f (reverse xs) ≡ reverse (map f xs)
map-reverse f [] = refl
map-reverse f (x ∷ xs) = ap (map f) (reverse-cons x xs) ∙ map-append f (reverse xs) (x ∷ []) ∙ ap (λ l. l ++ f x ∷ []) (map-reverse f xs) ∙ sym (reverse-cons (f x) (map f xs))

turned : {X Y : Type 0} (f : X → Y) (xs : List X) (ys : List Y) → map f (reverse xs) ≡ ys → map f xs ≡ reverse ys
turned f xs ys e = sym (reverse-reverse (map f xs)) ∙ ap reverse (sym (map-reverse f xs) ∙ e)

pub pages-given : (ps : List GivenPage) (pages : List Page) → map page_of (reverse ps) ≡ pages → flat_map (λ p. on_page (page_of p)) ps ≡ flat_map on_page (reverse pages)
pages-given ps pages e = sym (flat_map-map on_page page_of ps) ∙ ap (flat_map on_page) (turned page_of ps pages e)

rows-joined : (ss : List Scan) → flat_map in_row (gathered_rows ss) ≡ flat_map (λ s. flat_map in_row s.rows) ss
rows-joined [] = refl
rows-joined (s ∷ ss) = flat_map-append in_row s.rows (gathered_rows ss) ∙ ap (λ l. flat_map in_row s.rows ++ l) (rows-joined ss)

pub scans-given : (ss : List GivenScan) (scans : List Scan) → map scan_of (reverse ss) ≡ scans → flat_map (λ s. flat_map in_row (scan_of s).rows) ss ≡ flat_map in_row (gathered_rows (reverse scans))
scans-given ss scans e = sym (flat_map-map (λ (s : Scan). flat_map in_row s.rows) scan_of ss) ∙ ap (flat_map (λ (s : Scan). flat_map in_row s.rows)) (turned scan_of ss scans e) ∙ sym (rows-joined (reverse scans))
