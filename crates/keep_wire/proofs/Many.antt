-- Where more than 65 lines end in what may become a head, it has too many fields.
use Rattle.std.proofs.Common.{◌≡◌, ℕ, zero, suc, ◌+◌, ◌≤◌, List, [], ◌∷◌, ◌++◌, length, take, All, refl, sym, ap, ◌∙◌, arith, inl, inr, append_assoc, append-nil, length-append, ◌⊎◌}
use Rattle.std.proofs.lemmas.List.{length-take-le}
use Rattle.std.proofs.lemmas.List.Elements.{All-head, All-tail}
use Rattle.std.specs.List.{flat_map}
use Rattle.httparse.specs.Grammar.{LineEnd, crlf, lf, print_end, Field, print_field, IsField}
use Rattle.keep_wire.specs.Messages.{Grammar, HasNone, MayBecome, HasManyFields}
use Rattle.keep_wire.specs.Looks.{newlines, lines_in}
use Rattle.keep_wire.specs.Splits.{cuts}
use Rattle.keep_wire.proofs.HeadLines.{newlines-append, newlines-field, lines-longer, Lined}

-- what ends with a newline has one in each end
pub last_newline : (a b e : List ℕ) (x : ℕ) → a ++ 10 ∷ [] ≡ b ++ x ∷ e → 1 ≤ newlines (x ∷ e)
last_newline a b e x h =
    elim (cuts a (10 ∷ []) b (x ∷ e) h) as (λ _. 1 ≤ newlines (x ∷ e)) [
      | inl t ↦ let n = newlines-append t.0 (10 ∷ []) in let k : newlines (x ∷ e) ≡ newlines (t.0 ++ 10 ∷ []) = ap newlines (sym t.2) in rw k (omega (arith, n))
      | inr t ↦ let k = ap length t.3 in absurd (omega (arith, k, length-append t.1 (x ∷ e)))
    ]

pub end_init : (front : List ℕ) (end : LineEnd) → (a : List ℕ) × (a ++ 10 ∷ [] ≡ front ++ print_end end)
end_init front lf = (front, refl)
end_init front crlf = (front ++ 13 ∷ [], append_assoc front (13 ∷ []) (10 ∷ []))

field_open : (f : Field) (b e : List ℕ) (x : ℕ) → IsField f → print_field f ≡ b ++ x ∷ e → newlines b ≡ 0
field_open f b e x ok h =
    let init = end_init (f.name ++ 58 ∷ f.raw) f.end in
    let one = newlines-field f ok in
    let last = last_newline init.0 b e x (init.1 ∙ h) in
    let all : newlines (print_field f) ≡ newlines b + newlines (x ∷ e) = ap newlines h ∙ newlines-append b (x ∷ e) in
    omega (arith, one, last, all)

end_whole : (last : LineEnd) (b more : List ℕ) → b ++ more ≡ print_end last → 1 ≤ newlines b → more ≡ []
end_whole lf [] more e some = absurd (omega arith)
end_whole lf (x ∷ []) more e some = cc
end_whole lf (x ∷ y ∷ b) more e some = absurd (cc)
end_whole crlf [] more e some = absurd (omega arith)
end_whole crlf (x ∷ []) more e some = let is : x ≡ 13 = cc in absurd (no_newline x is some)
  where
    no_newline : (x : ℕ) → x ≡ 13 → 1 ≤ newlines (x ∷ []) → ⊥
    no_newline x is some = let k : newlines (x ∷ []) ≡ 0 = ap (λ (v : ℕ). newlines (v ∷ [])) is in omega (arith, k)
end_whole crlf (x ∷ y ∷ []) more e some = cc
end_whole crlf (x ∷ y ∷ z ∷ b) more e some = absurd (cc)

abbrev pub WholeFields : List Field → List ℕ → ℕ → Type 0
WholeFields fs b n = (rest : List ℕ) × (n ≤ length fs) × (b ≡ flat_map print_field (take n fs) ++ rest)

pub first_fields : (n : ℕ) (fs : List Field) (last : LineEnd) (b more : List ℕ) → All IsField fs → b ++ more ≡ flat_map print_field fs ++ print_end last → n ≤ newlines b → WholeFields fs b n ⊎ (more ≡ [])
first_fields zero fs last b more all e le = inl (b, omega arith, refl)
first_fields (suc n) [] last b more all e le = inr (end_whole last b more e (omega arith))
first_fields (suc n) (f ∷ fs) last b more all e le =
    let ok = All-head IsField f fs all in
    elim (cuts b more (print_field f) (flat_map print_field fs ++ print_end last) (e ∙ append_assoc (print_field f) (flat_map print_field fs) (print_end last))) as (λ _. WholeFields (f ∷ fs) b (suc n) ⊎ (more ≡ [])) [
      | inl t ↦
          let count : newlines b ≡ newlines (print_field f) + newlines t.0 = ap newlines t.1 ∙ newlines-append (print_field f) t.0 in
          elim (first_fields n fs last t.0 more (All-tail IsField f fs all) t.2 (omega (arith, count, newlines-field f ok))) as (λ _. WholeFields (f ∷ fs) b (suc n) ⊎ (more ≡ [])) [
            | inl w ↦ inl (w.0, omega (arith, w.1), t.1 ∙ ap (λ (v : List ℕ). print_field f ++ v) w.2 ∙ sym (append_assoc (print_field f) (flat_map print_field (take n fs)) w.0))
            | inr w ↦ inr w
          ]
      | inr t ↦ absurd (omega (arith, field_open f b t.1 t.0 ok t.2))
    ]

pub many_here : {H : Type 0} (g : Grammar H) (l : Lined g) (bytes e rest : List ℕ) (h : H) → g.valid h → bytes ≡ l.start h ++ e → 65 ≤ length (g.fields h) → e ≡ flat_map print_field (take 65 (g.fields h)) ++ rest → HasManyFields g bytes
many_here g l bytes e rest h ok whole le fields =
    let fm = flat_map print_field (take 65 (g.fields h)) in
    let full : length (g.fields (l.first h)) ≡ 65 = ap length (l.first_fields h) ∙ length-take-le 65 (g.fields h) le in (
      l.start h ++ fm,
      rest,
      whole ∙ ap (λ (v : List ℕ). l.start h ++ v) fields ∙ sym (append_assoc (l.start h) fm rest),
      l.first h,
      (l.first_valid h ok, append_assoc (l.start h) fm (10 ∷ []) ∙ sym (l.first_print h [])),
      omega (arith, full),
    )

many-from_may : {H : Type 0} (g : Grammar H) (l : Lined g) (bytes : List ℕ) → HasNone g bytes → MayBecome g bytes → 66 ≤ lines_in bytes → HasManyFields g bytes
many-from_may g l bytes none (more, h, reads) many =
    let ok = reads.0 in
    let section : print_end (l.last h) ++ [] ≡ print_end (l.last h) = append-nil (print_end (l.last h)) in
    let apart : bytes ++ more ≡ l.start h ++ (flat_map print_field (g.fields h) ++ print_end (l.last h)) = reads.1 ∙ l.apart h [] ∙ ap (λ (v : List ℕ). l.start h ++ (flat_map print_field (g.fields h) ++ v)) section in
    elim (cuts bytes more (l.start h) (flat_map print_field (g.fields h) ++ print_end (l.last h)) apart) as (λ _. HasManyFields g bytes) [
      | inl t ↦
          let count : lines_in bytes ≡ 1 + newlines t.0 = ap lines_in t.1 ∙ l.line h t.0 ok in
          elim (first_fields 65 (g.fields h) (l.last h) t.0 more (l.fields h ok) t.2 (omega (arith, count, many))) as (λ _. HasManyFields g bytes) [
            | inl w ↦ many_here g l bytes t.0 w.0 h ok t.1 w.1 w.2
            | inr w ↦ absurd (none h [] (ok, sym (append-nil bytes) ∙ ap (λ (v : List ℕ). bytes ++ v) (sym w) ∙ reads.1))
          ]
      | inr t ↦
          let count : lines_in (l.start h ++ []) ≡ 1 + 0 = l.line h [] ok in
          let same : lines_in (l.start h ++ []) ≡ lines_in (bytes ++ t.0 ∷ t.1) = ap lines_in (append-nil (l.start h) ∙ t.2) in
          absurd (omega (arith, count, same, many, lines-longer bytes (t.0 ∷ t.1)))
    ]

pub many-from_lines : {H : Type 0} (g : Grammar H) (l : Lined g) (bytes : List ℕ) → HasNone g bytes → g.waits bytes ⊎ MayBecome g bytes → 66 ≤ lines_in bytes → HasManyFields g bytes
many-from_lines g l bytes none goes many =
    elim goes as (λ _. HasManyFields g bytes) [
      | inl within ↦ let few = l.waits bytes within in absurd (omega (arith, few, many))
      | inr may ↦ many-from_may g l bytes none may many
    ]
