-- A span cut in two has the same parts, but for one block that is cut.
-- Laws: `split`, `forward-joined`, `parts-joined`.
use Rattle.std.proofs.Common.{◌≡◌, ℕ, ◌+◌, ◌-◌, ◌≤◌, ◌<◌, max, min, Bool, true, false, eqb, leb, List, [], ◌∷◌, ◌++◌, refl, ap, sym, ◌∙◌, inl, inr, arith, append-nil, append_assoc}
use Rattle.std.specs.List.{list_all, flat_map}
use Rattle.std.specs.Str.{bytes_eq}
use Rattle.std.proofs.lemmas.Bool.{and_parts, and_from, cases_lt, leb-true, le-leb, eqb-true, eq-eqb}
use lib.Pointwise.{bytes_decides}
use Rattle.keep_spec.specs.Locator.{size, stripped}
use Rattle.keep_normal.specs.declared.part.Part.{Part}
use Rattle.keep_normal.specs.declared.span.Span.{Span}
use Rattle.keep_normal.specs.Files.{part_in, kept, parts_in, touch, both_parts, joined_parts}
use Rattle.keep_normal.specs.Joined.{joined_before, joined}
use Rattle.keep_normal.specs.Normal.{meet, both_spans}
use Rattle.keep_normal.proofs.JoinedNeighbours.{before_two, joined_after_same, one_or_two}
use Rattle.keep_normal.proofs.SpanParts.{same_part, kept_none, kept_some, parts_behind}
use Rattle.keep_normal.proofs.SoundParts.{part_joins}

-- a span that doesn't end before it begins
abbrev pub is_forward : Span → Bool
is_forward s = leb s.from s.to

-- blocks after both beginnings have the same parts
parts_same : (start : ℕ) (s t : Span) (ls : List (List ℕ)) → s.from ≤ start → t.from ≤ start → s.to ≡ t.to → parts_in start s ls ≡ parts_in start t ls
parts_same start s t [] hs ht e = refl
parts_same start s t (l ∷ ls) hs ht e =
    ap (λ p. kept p ++ parts_in (start + size l) s ls) (same_part l l (max start s.from - start) (max start t.from - start) (min (start + size l) s.to - max start s.from) (min (start + size l) t.to - max start t.from) refl (omega arith) (omega arith))
    ∙ ap (λ ps. kept (part_in start t l) ++ ps) (parts_same (start + size l) s t ls (omega arith) (omega arith) e)

-- of one block: three cases, by whether either half has no part in it

cut_first : (start : ℕ) (a b : Span) (l : List ℕ) (rest : List Part) → a.to ≡ b.from → a.from ≤ a.to → b.from ≤ b.to → a.to ≤ start + size l → (part_in start a l).length ≤ 0
    → joined_parts ((kept (part_in start a l) ++ kept (part_in start b l)) ++ rest) ≡ joined_parts (kept (part_in start (both_spans a b) l) ++ rest)
cut_first start a b l rest e fa fb h none =
    let same = same_part l l (max start b.from - start) (max start a.from - start) (min (start + size l) b.to - max start b.from) (min (start + size l) b.to - max start a.from) refl (omega arith) (omega arith) in
    ap (λ ps. joined_parts ((ps ++ kept (part_in start b l)) ++ rest)) (kept_none (part_in start a l) (omega arith))
    ∙ ap (λ p. joined_parts (kept p ++ rest)) same

cut_second : (start : ℕ) (a b : Span) (l : List ℕ) (rest : List Part) → a.to ≡ b.from → a.from ≤ a.to → b.from ≤ b.to → a.to ≤ start + size l → 0 < (part_in start a l).length → (part_in start b l).length ≤ 0
    → joined_parts ((kept (part_in start a l) ++ kept (part_in start b l)) ++ rest) ≡ joined_parts (kept (part_in start (both_spans a b) l) ++ rest)
cut_second start a b l rest e fa fb h some none =
    let same = same_part l l (max start a.from - start) (max start a.from - start) (min (start + size l) a.to - max start a.from) (min (start + size l) b.to - max start a.from) refl refl (omega arith) in
    ap (λ ps. joined_parts ((kept (part_in start a l) ++ ps) ++ rest)) (kept_none (part_in start b l) (omega arith))
    ∙ ap (λ ps. joined_parts (ps ++ rest)) (append-nil (kept (part_in start a l)))
    ∙ ap (λ p. joined_parts (kept p ++ rest)) same

cut_both : (start : ℕ) (a b : Span) (l : List ℕ) (rest : List Part) → a.to ≡ b.from → a.from ≤ a.to → b.from ≤ b.to → a.to ≤ start + size l → 0 < (part_in start a l).length → 0 < (part_in start b l).length
    → joined_parts ((kept (part_in start a l) ++ kept (part_in start b l)) ++ rest) ≡ joined_parts (kept (part_in start (both_spans a b) l) ++ rest)
cut_both start a b l rest e fa fb h some_a some_b =
    let pa = part_in start a l in
    let pb = part_in start b l in
    let whole : part_in start (both_spans a b) l ≡ both_parts pa pb =
    same_part l l (max start a.from - start) (max start a.from - start) (min (start + size l) b.to - max start a.from) (min (start + size l) a.to - max start a.from + (min (start + size l) b.to - max start b.from)) refl refl (omega arith) in
    let touching : touch pa pb ≡ true =
    and_from (bytes_eq (stripped l) (stripped l)) (eqb (max start a.from - start + (min (start + size l) a.to - max start a.from)) (max start b.from - start))
    ((bytes_decides (stripped l) (stripped l)).1 refl) (eq-eqb (max start a.from - start + (min (start + size l) a.to - max start a.from)) (max start b.from - start) (omega arith)) in
    ap (λ ps. joined_parts ((ps ++ kept pb) ++ rest)) (kept_some pa some_a)
    ∙ ap (λ ps. joined_parts (pa ∷ (ps ++ rest))) (kept_some pb some_b)
    ∙ before_two touch both_parts part_joins pa pb (joined_parts rest) touching
    ∙ ap (λ p. joined_parts (p ∷ rest)) (sym whole)
    ∙ ap (λ ps. joined_parts (ps ++ rest)) (sym (kept_some (part_in start (both_spans a b) l) (omega arith)))

kept_cut : (start : ℕ) (a b : Span) (l : List ℕ) (rest : List Part) → a.to ≡ b.from → a.from ≤ a.to → b.from ≤ b.to → a.to ≤ start + size l
    → joined_parts ((kept (part_in start a l) ++ kept (part_in start b l)) ++ rest) ≡ joined_parts (kept (part_in start (both_spans a b) l) ++ rest)
kept_cut start a b l rest e fa fb h =
    elim (cases_lt 0 (part_in start a l).length) [
      | inr none ↦ cut_first start a b l rest e fa fb h none
      | inl some ↦ elim (cases_lt 0 (part_in start b l).length) [
        | inr none ↦ cut_second start a b l rest e fa fb h some none
        | inl more ↦ cut_both start a b l rest e fa fb h some more
      ]
    ]

-- regroups what stands before others
regroup : {X : Type 0} (w x y z : List X) → (w ++ x) ++ (y ++ z) ≡ w ++ (x ++ (y ++ z))
regroup w x y z = append_assoc w x (y ++ z)

-- the cut lies in this block or before it
split_here : (start : ℕ) (a b : Span) (l : List ℕ) (ls : List (List ℕ)) (rest : List Part) → a.to ≡ b.from → a.from ≤ a.to → b.from ≤ b.to → a.to ≤ start + size l
    → joined_parts (parts_in start a (l ∷ ls) ++ (parts_in start b (l ∷ ls) ++ rest)) ≡ joined_parts (parts_in start (both_spans a b) (l ∷ ls) ++ rest)
split_here start a b l ls rest e fa fb h =
    let end = start + size l in
    let more = parts_in end b ls in
    let pa = kept (part_in start a l) in
    let pb = kept (part_in start b l) in
    let pab = kept (part_in start (both_spans a b) l) in
    let behind : parts_in end (both_spans a b) ls ≡ more = parts_same end (both_spans a b) b ls (omega arith) (omega arith) refl in
    ap (λ ps. joined_parts ((pa ++ ps) ++ ((pb ++ more) ++ rest))) (parts_behind end a ls h)
    ∙ ap (λ ps. joined_parts (ps ++ ((pb ++ more) ++ rest))) (append-nil pa)
    ∙ ap (λ ps. joined_parts (pa ++ ps)) (append_assoc pb more rest)
    ∙ ap joined_parts (sym (append_assoc pa pb (more ++ rest)))
    ∙ kept_cut start a b l (more ++ rest) e fa fb h
    ∙ ap joined_parts (sym (append_assoc pab more rest))
    ∙ ap (λ ps. joined_parts ((pab ++ ps) ++ rest)) (sym behind)

-- or after it
split_behind : (start : ℕ) (a b : Span) (l : List ℕ) (ls : List (List ℕ)) (rest : List Part) → a.to ≡ b.from → a.from ≤ a.to → b.from ≤ b.to → start + size l ≤ a.to
    → joined_parts (parts_in (start + size l) a ls ++ (parts_in (start + size l) b ls ++ rest)) ≡ joined_parts (parts_in (start + size l) (both_spans a b) ls ++ rest)
    → joined_parts (parts_in start a (l ∷ ls) ++ (parts_in start b (l ∷ ls) ++ rest)) ≡ joined_parts (parts_in start (both_spans a b) (l ∷ ls) ++ rest)
split_behind start a b l ls rest e fa fb h ih =
    let end = start + size l in
    let pa = kept (part_in start a l) in
    let more_a = parts_in end a ls in
    let more_b = parts_in end b ls in
    let more = parts_in end (both_spans a b) ls in
    let same = same_part l l (max start a.from - start) (max start a.from - start) (min (start + size l) a.to - max start a.from) (min (start + size l) b.to - max start a.from) refl refl (omega arith) in
    ap (λ ps. joined_parts ((pa ++ more_a) ++ ((ps ++ more_b) ++ rest))) (kept_none (part_in start b l) (omega arith))
    ∙ ap joined_parts (append_assoc pa more_a (more_b ++ rest))
    ∙ joined_after_same touch both_parts pa (more_a ++ (more_b ++ rest)) (more ++ rest) ih
    ∙ ap joined_parts (sym (append_assoc pa more rest))
    ∙ ap (λ p. joined_parts ((kept p ++ more) ++ rest)) same

pub split : (start : ℕ) (a b : Span) (ls : List (List ℕ)) (rest : List Part) → a.to ≡ b.from → a.from ≤ a.to → b.from ≤ b.to
    → joined_parts (parts_in start a ls ++ (parts_in start b ls ++ rest)) ≡ joined_parts (parts_in start (both_spans a b) ls ++ rest)
split start a b [] rest e fa fb = refl
split start a b (l ∷ ls) rest e fa fb =
    let ih = split (start + size l) a b ls rest e fa fb in
    elim (cases_lt a.to (start + size l)) [
      | inl here ↦ split_here start a b l ls rest e fa fb (omega arith)
      | inr behind ↦ split_behind start a b l ls rest e fa fb behind ih
    ]

-- Spans that meet, joined, have the same parts but for those that were cut.

forward_before : (s : Span) (ts : List Span) → is_forward s ≡ true → list_all is_forward ts ≡ true → list_all is_forward (joined_before meet both_spans s ts) ≡ true
forward_before s [] hs h = and_from (is_forward s) true hs refl
forward_before s (t ∷ ts) hs h = by_meet (meet s t) refl (and_parts (is_forward t) (list_all is_forward ts) h)
  where
    by_meet : (b : Bool) → meet s t ≡ b → (is_forward t ≡ true) × (list_all is_forward ts ≡ true) → list_all is_forward (one_or_two both_spans b s t ts) ≡ true
    by_meet true m parts =
        let at = eqb-true s.to t.from m in
        let fs = leb-true s.from s.to hs in
        let ft = leb-true t.from t.to parts.0 in
        and_from (is_forward (both_spans s t)) (list_all is_forward ts) (le-leb s.from t.to (omega arith)) parts.1
    by_meet false m parts = and_from (is_forward s) (list_all is_forward (t ∷ ts)) hs h

pub forward-joined : (ss : List Span) → list_all is_forward ss ≡ true → list_all is_forward (joined meet both_spans ss) ≡ true
forward-joined [] h = refl
forward-joined (s ∷ ss) h =
    let parts = and_parts (is_forward s) (list_all is_forward ss) h in
    forward_before s (joined meet both_spans ss) parts.0 (forward-joined ss parts.1)

-- the parts in several spans
abbrev pub parts_of : List (List ℕ) → List Span → List Part
parts_of ls ss = flat_map (λ s. parts_in 0 s ls) ss

before_spans : (ls : List (List ℕ)) (s : Span) (ts : List Span) → is_forward s ≡ true → list_all is_forward ts ≡ true
    → joined_parts (parts_of ls (joined_before meet both_spans s ts)) ≡ joined_parts (parts_in 0 s ls ++ parts_of ls ts)
before_spans ls s [] hs h = refl
before_spans ls s (t ∷ ts) hs h = by_meet (meet s t) refl (and_parts (is_forward t) (list_all is_forward ts) h)
  where
    by_meet : (b : Bool) → meet s t ≡ b → (is_forward t ≡ true) × (list_all is_forward ts ≡ true) → joined_parts (parts_of ls (one_or_two both_spans b s t ts)) ≡ joined_parts (parts_in 0 s ls ++ parts_of ls (t ∷ ts))
    by_meet true m parts = sym (split 0 s t ls (parts_of ls ts) (eqb-true s.to t.from m) (leb-true s.from s.to hs) (leb-true t.from t.to parts.0))
    by_meet false m parts = refl

pub parts-joined : (ls : List (List ℕ)) (ss : List Span) → list_all is_forward ss ≡ true → joined_parts (parts_of ls (joined meet both_spans ss)) ≡ joined_parts (parts_of ls ss)
parts-joined ls [] h = refl
parts-joined ls (s ∷ ss) h =
    let parts = and_parts (is_forward s) (list_all is_forward ss) h in
    before_spans ls s (joined meet both_spans ss) parts.0 (forward-joined ss parts.1)
    ∙ joined_after_same touch both_parts (parts_in 0 s ls) (parts_of ls (joined meet both_spans ss)) (parts_of ls ss) (parts-joined ls ss parts.1)
