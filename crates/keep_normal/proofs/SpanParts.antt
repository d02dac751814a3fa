-- The parts of blocks in a span: which blocks have none, and one block more.
-- Laws: `same_part`, `kept_none`, `kept_some`, `part_before`, `part_behind`, `parts_behind`, `parts_more`, `parts_skip`, `parts_turn`,
-- `parts_done`.
use Rattle.std.proofs.Common.{◌≡◌, ℕ, zero, suc, ◌+◌, ◌≤◌, ◌<◌, cond, List, [], ◌∷◌, ◌++◌, length, take, drop, get_or, refl, ap, sym, ◌∙◌, arith, add-zero, zero-add, add-one, append-nil, append_assoc}
use Rattle.std.proofs.Math.Seq.{drop-cons}
use Rattle.std.proofs.lemmas.Bool.{eq-eqb, ne_eqb}
use Rattle.std.proofs.lemmas.List.Sums.{sum_by-cons, sum_by_more}
use Rattle.keep_spec.specs.Locator.{size}
use Rattle.keep_spec.specs.Manifest.{total_size}
use Rattle.keep_normal.specs.declared.part.Part.{Part}
use Rattle.keep_normal.specs.declared.span.Span.{Span}
use Rattle.keep_normal.specs.Files.{part_in, kept, parts_in}
use Rattle.keep_normal.proofs.BlockPlaces.{at_any}

abbrev pub part_with : List ℕ → ℕ → ℕ → Part
part_with locator offset length = record { locator = locator; offset = offset; length = length }

pub same_part : (l l' : List ℕ) (o o' n n' : ℕ) → l ≡ l' → o ≡ o' → n ≡ n' → part_with l o n ≡ part_with l' o' n'
same_part l l' o o' n n' d e f = ap (λ t. part_with t o n) d ∙ ap (λ k. part_with l' k n) e ∙ ap (part_with l' o') f

pub kept_none : (p : Part) → p.length ≡ 0 → kept p ≡ []
kept_none p none = ap (λ b. cond b [] (p ∷ [])) (eq-eqb p.length 0 none)

pub kept_some : (p : Part) → 0 < p.length → kept p ≡ p ∷ []
kept_some p some = ap (λ b. cond b [] (p ∷ [])) (ne_eqb p.length 0 (λ e. omega arith))

-- a block before the span has no part in it
pub part_before : (start : ℕ) (s : Span) (locator : List ℕ) → start + size locator ≤ s.from → kept (part_in start s locator) ≡ []
part_before start s locator h = kept_none (part_in start s locator) (omega arith)

-- nor has one after it
pub part_behind : (start : ℕ) (s : Span) (locator : List ℕ) → s.to ≤ start → kept (part_in start s locator) ≡ []
part_behind start s locator h = kept_none (part_in start s locator) (omega arith)

pub parts_behind : (start : ℕ) (s : Span) (locators : List (List ℕ)) → s.to ≤ start → parts_in start s locators ≡ []
parts_behind start s [] h = refl
parts_behind start s (l ∷ ls) h = ap (λ ps. ps ++ parts_in (start + size l) s ls) (part_behind start s l h) ∙ parts_behind (start + size l) s ls (omega arith)

parts_skip-from : (i start : ℕ) (s : Span) (locators : List (List ℕ)) → start + total_size (take i locators) ≤ s.from → parts_in start s locators ≡ parts_in (start + total_size (take i locators)) s (drop i locators)
parts_skip-from zero start s locators h = ap (λ n. parts_in n s locators) (sym (add-zero start))
parts_skip-from (suc i) start s [] h = refl
parts_skip-from (suc i) start s (l ∷ ls) h =
    let total : total_size (take (suc i) (l ∷ ls)) ≡ size l + total_size (take i ls) = sum_by-cons size l (take i ls) in
    let place : start + size l + total_size (take i ls) ≡ start + total_size (take (suc i) (l ∷ ls)) = omega arith in
    ap (λ ps. ps ++ parts_in (start + size l) s ls) (part_before start s l (omega arith))
    ∙ parts_skip-from i (start + size l) s ls (omega arith)
    ∙ ap (λ n. parts_in n s (drop i ls)) place

-- the parts in the next block, and in those after it
pub parts_more : (i : ℕ) (s : Span) (locators : List (List ℕ)) → i < length locators
    → parts_in (total_size (take i locators)) s (drop i locators)
    ≡ kept (part_in (total_size (take i locators)) s (get_or locators i [])) ++ parts_in (total_size (take (i + 1) locators)) s (drop (i + 1) locators)
parts_more i s locators h =
    let start = total_size (take i locators) in
    let l = get_or locators i [] in
    ap (parts_in start s) (drop-cons locators i [] h)
    ∙ ap (λ n. kept (part_in start s l) ++ parts_in n s (drop (suc i) locators)) (sym (sum_by_more size locators i [] h))
    ∙ ap (λ n. kept (part_in start s l) ++ parts_in (total_size (take (i + 1) locators)) s (drop n locators)) (sym (add-one i))

-- blocks that begin before the span can be left out but the last of them
pub parts_skip : (i : ℕ) (s : Span) (locators : List (List ℕ)) → total_size (take i locators) ≤ s.from → parts_in (total_size (take i locators)) s (drop i locators) ≡ parts_in 0 s locators
parts_skip i s locators h = ap (λ n. parts_in n s (drop i locators)) (sym (zero-add (total_size (take i locators)))) ∙ sym (parts_skip-from i 0 s locators (omega arith))

-- one block more is done
pub parts_turn : (out new all : List Part) (i start : ℕ) (s : Span) (locators : List (List ℕ)) (l : List ℕ) → i < length locators
    → start ≡ total_size (take i locators) → l ≡ get_or locators i l → new ≡ out ++ kept (part_in start s l)
    → out ++ parts_in (total_size (take i locators)) s (drop i locators) ≡ all
    → new ++ parts_in (total_size (take (i + 1) locators)) s (drop (i + 1) locators) ≡ all
parts_turn out new all i start s locators l inside e₁ e₂ e₃ so_far =
    let rest = parts_in (total_size (take (i + 1) locators)) s (drop (i + 1) locators) in
    let same : l ≡ get_or locators i [] = e₂ ∙ at_any locators i l [] inside in
    ap (λ ps. ps ++ rest) (e₃ ∙ ap (λ n. out ++ kept (part_in n s l)) e₁ ∙ ap (λ t. out ++ kept (part_in (total_size (take i locators)) s t)) same)
    ∙ append_assoc out (kept (part_in (total_size (take i locators)) s (get_or locators i []))) rest
    ∙ ap (λ ps. out ++ ps) (sym (parts_more i s locators inside)) ∙ so_far

-- no block after has a part in the span
pub parts_done : (out all : List Part) (n : ℕ) (s : Span) (locators : List (List ℕ)) → s.to ≤ n → out ++ parts_in n s locators ≡ all → out ≡ all
parts_done out all n s locators h so_far = sym (append-nil out) ∙ ap (λ ps. out ++ ps) (sym (parts_behind n s locators h)) ∙ so_far
