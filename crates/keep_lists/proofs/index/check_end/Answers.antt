use Rattle.std.proofs.Common.{◌≡◌, ◌<◌, ℕ, List, [], ◌∷◌, length, true, false, Option, None, Some, is_some, sym, ◌∙◌, ap, refl, arith, ◌==◌}
use Rattle.std.specs.List.{position}
use Rattle.std.proofs.lemmas.Bool.{eqb-true, eqb-false}
use Rattle.keep_spec.specs.Lines.{cut}
use Rattle.keep_lists.specs.Answers.{ended_at}
use Rattle.keep_lists.proofs.Bad.{line-behind, rest-behind, none-behind}
use Rattle.keep_lists.proofs.index.check_end.Goals as goal

there : (o : Option ℕ) → is_some o ≡ true → (n : ℕ) × (o ≡ Some n)
there None e = cc e
there (Some n) e = (n, refl)

none : (o : Option ℕ) → is_some o ≡ false → o ≡ None
none None e = refl
none (Some n) e = cc e

nil : (xs : List ℕ) → length xs ≡ 0 → xs ≡ []
nil [] e = refl
nil (x ∷ xs) e = absurd (omega arith)

pub returns-then-is_some : goal.returns-then-is_some
returns-then-is_some c =
    let rest = c.args.rest.now in
    let s = there (position (λ b. b == 10) rest) (ap is_some (sym c.position_of.ensures) ∙ sym c.is_some.ensures ∙ c.if-is_some.true) in
    line-behind (10 ∷ []) rest s.0 c.args.at s.1

pub returns-then-is_empty : goal.returns-then-is_empty
returns-then-is_empty c =
    let rest = c.args.rest.now in
    let short : length rest ≡ 0 = eqb-true (length rest) 0 (sym c.is_empty.ensures ∙ c.if-is_empty.true) in
    ap (λ xs. ended_at c.args.at (cut xs)) (nil rest short) ∙ none-behind c.args.at

pub returns-else-is_empty : goal.returns-else-is_empty
returns-else-is_empty c =
    let rest = c.args.rest.now in
    let no = none (position (λ b. b == 10) rest) (ap is_some (sym c.position_of.ensures) ∙ sym c.is_some.ensures ∙ c.if-is_some.false) in
    let apart = eqb-false (length rest) 0 (sym c.is_empty.ensures ∙ c.if-is_empty.false) in
    let some : 0 < length rest = omega arith in
    rest-behind (10 ∷ []) rest c.args.at no some
