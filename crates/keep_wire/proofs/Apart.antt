-- A head, a bad head, a cut head and no bytes exclude one another, and bytes begin with one head at most.
use Rattle.std.proofs.Common.{◌≡◌, ℕ, ◌+◌, ◌<◌, ◌≤◌, List, [], ◌∷◌, ◌++◌, length, take, drop, sym, ap, ◌∙◌, arith, inl, inr, append_assoc, append-nil, length-append}
use Rattle.std.proofs.lemmas.Bool.{cases_Bool, false≢true}
use Rattle.std.proofs.lemmas.List.{take-append-drop, length-take}
use Rattle.std.specs.List.{flat_map}
use Rattle.httparse.specs.Grammar.{print_end, print_field}
use Rattle.keep_wire.specs.Fields.{is_framed}
use Rattle.keep_wire.specs.Messages.{Grammar, Reads, pairs_of, HasManyFields, IsLongHead, IsBadHead, HasHead, IsCutHead}
use Rattle.keep_wire.specs.Looks.{is_line_byte, newlines, lines_in}
use Rattle.keep_wire.specs.Splits.{cuts}
use Rattle.keep_wire.proofs.HeadLines.{newlines-append, lines-append-le, Lined, lines-head, many-lines}
use Rattle.keep_wire.proofs.Many.{end_init, last_newline}

pub one_head : {H : Type 0} (g : Grammar H) (l : Lined g) (bytes : List ℕ) (h k : H) (r s : List ℕ) → HasHead g bytes h r → HasHead g bytes k s → (h ≡ k) × (r ≡ s)
one_head g l bytes h k r s x y = l.unique bytes h k r s x.reads y.reads

-- once a line has ended, each newline ends one
lines-append : (a b : List ℕ) → 0 < lines_in a → lines_in (a ++ b) ≡ lines_in a + newlines b
lines-append [] b some = absurd (omega (arith, some))
lines-append (x ∷ a) b some =
    elim (cases_Bool (is_line_byte x)) as (λ _. lines_in ((x ∷ a) ++ b) ≡ lines_in (x ∷ a) + newlines b) [
      | inl is_line ↦ rw is_line (lines-append a b (rw is_line at some))
      | inr is_not ↦ rw is_not (newlines-append (x ∷ a) b)
    ]

head_init : {H : Type 0} (g : Grammar H) (l : Lined g) (h : H) → (a : List ℕ) × (a ++ 10 ∷ [] ≡ g.print h)
head_init g l h =
    let init = end_init (l.start h ++ flat_map print_field (g.fields h)) (l.last h) in
    (init.0, init.1 ∙ append_assoc (l.start h) (flat_map print_field (g.fields h)) (print_end (l.last h)) ∙ ap (λ (v : List ℕ). l.start h ++ (flat_map print_field (g.fields h) ++ v)) (sym (append-nil (print_end (l.last h)))) ∙ sym (l.apart h []) ∙ append-nil (g.print h))

few_not_many : {H : Type 0} (g : Grammar H) (l : Lined g) (bytes rest : List ℕ) (h : H) → Reads g bytes h rest → length (g.fields h) ≤ 64 → HasManyFields g bytes → ⊥
few_not_many g l bytes rest h reads few (front, behind, whole, k, many_reads, many) =
    elim (cuts front behind (g.print h) rest (sym whole ∙ reads.1)) as (λ _. ⊥) [
      | inl t ↦
          let same = l.unique (front ++ 10 ∷ []) h k (t.0 ++ 10 ∷ []) [] (reads.0, ap (λ (v : List ℕ). v ++ 10 ∷ []) t.1 ∙ append_assoc (g.print h) t.0 (10 ∷ [])) many_reads in
          let count = ap (λ j. length (g.fields j)) same.0 in
          omega (arith, few, many, count)
      | inr t ↦
          let init = head_init g l h in
          let last = last_newline init.0 front t.1 t.0 (init.1 ∙ t.2) in
          let all : lines_in (g.print h ++ []) ≡ 2 + length (g.fields h) + 0 = lines-head g l h [] reads.0 in
          let begun : lines_in (front ++ 10 ∷ []) ≡ 2 + length (g.fields k) + 0 = ap lines_in many_reads.1 ∙ lines-head g l k [] many_reads.0 in
          let one = lines-append-le front (10 ∷ []) in
          let parts : lines_in (g.print h ++ []) ≡ lines_in front + newlines (t.0 ∷ t.1) = ap lines_in (append-nil (g.print h) ∙ t.2) ∙ lines-append front (t.0 ∷ t.1) (omega (arith, begun, one, many)) in
          omega (arith, few, many, last, all, begun, one, parts)
    ]

not_long : {H : Type 0} (g : Grammar H) (bytes rest : List ℕ) (h : H) → HasHead g bytes h rest → IsLongHead g bytes → ⊥
not_long g bytes rest h has long =
    elim (cuts (take 65536 bytes) (drop 65536 bytes) (g.print h) rest (take-append-drop 65536 bytes ∙ has.reads.1)) as (λ _. ⊥) [
      | inl t ↦ long.1 h t.0 (has.reads.0, t.1)
      | inr t ↦
          let short = has.short in
          let size = ap length t.2 in
          omega (arith, long.0, short, size, length-append (take 65536 bytes) (t.0 ∷ t.1), length-take 65536 bytes)
    ]

pub head_not_bad : {H : Type 0} (g : Grammar H) (l : Lined g) (bytes rest : List ℕ) (h : H) → HasHead g bytes h rest → IsBadHead g bytes → ⊥
head_not_bad g l bytes rest h has bad =
    elim bad as (λ _. ⊥) [
      | inl a ↦ a.1 [] h rest (has.reads.0, append-nil bytes ∙ has.reads.1)
      | inr b ↦ elim b as (λ _. ⊥) [
        | inl c ↦ few_not_many g l bytes rest h has.reads has.few c
        | inr d ↦ elim d as (λ _. ⊥) [
          | inl e ↦ not_long g bytes rest h has e
          | inr f ↦
              let same = l.unique bytes h f.0 rest f.1 has.reads f.2 in
              false≢true (sym f.3 ∙ ap (λ j. is_framed (pairs_of g j)) (sym same.0) ∙ has.framed)
        ]
      ]
    ]

pub head_not_cut : {H : Type 0} (g : Grammar H) (bytes rest : List ℕ) (h : H) → HasHead g bytes h rest → IsCutHead g bytes → ⊥
head_not_cut g bytes rest h has cut = cut.none h rest has.reads

pub bad_not_cut : {H : Type 0} (g : Grammar H) (bytes : List ℕ) → IsBadHead g bytes → IsCutHead g bytes → ⊥
bad_not_cut g bytes bad cut =
    elim bad as (λ _. ⊥) [
      | inl a ↦ elim cut.goes_on as (λ _. ⊥) [ inl within ↦ a.0 within | inr may ↦ a.1 may.0 may.1 [] may.2 ]
      | inr b ↦ elim b as (λ _. ⊥) [
        | inl c ↦ cut.few c
        | inr d ↦ elim d as (λ _. ⊥) [
          | inl e ↦ let short = cut.short in omega (arith, e.0, short)
          | inr f ↦ cut.none f.0 f.1 f.2
        ]
      ]
    ]

-- ---- no bytes

pub nothing_read : {H : Type 0} (g : Grammar H) (l : Lined g) (h : H) (rest : List ℕ) → Reads g [] h rest → ⊥
nothing_read g l h rest reads =
    let count : lines_in [] ≡ 2 + length (g.fields h) + newlines rest = ap lines_in reads.1 ∙ lines-head g l h rest reads.0 in
    omega (arith, count)

pub nothing_not_head : {H : Type 0} (g : Grammar H) (l : Lined g) (h : H) (rest : List ℕ) → HasHead g [] h rest → ⊥
nothing_not_head g l h rest has = nothing_read g l h rest has.reads

pub nothing_not_bad : {H : Type 0} (g : Grammar H) (l : Lined g) (h : H) → g.valid h → IsBadHead g [] → ⊥
nothing_not_bad g l h valid bad =
    elim bad as (λ _. ⊥) [
      | inl a ↦ a.1 (g.print h) h [] (valid, sym (append-nil (g.print h)))
      | inr b ↦ elim b as (λ _. ⊥) [
        | inl c ↦ let n = many-lines g l [] c in omega (arith, n)
        | inr d ↦ elim d as (λ _. ⊥) [
          | inl e ↦ omega (arith, e.0)
          | inr f ↦ nothing_read g l f.0 f.1 f.2
        ]
      ]
    ]

pub nothing_not_cut : {H : Type 0} (g : Grammar H) → IsCutHead g [] → ⊥
nothing_not_cut g cut = let some = cut.some in omega (arith, some)
