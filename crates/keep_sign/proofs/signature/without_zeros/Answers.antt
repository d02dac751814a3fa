use Rattle.std.proofs.Common.{◌≡◌, ◌≤◌, List, [], ◌∷◌, ℕ, length, refl, sym, ◌∙◌, arith}
use Rattle.keep_spec.specs.Sign.{without_zeros}
use Rattle.keep_sign.proofs.signature.without_zeros.Goals as goal

short : (xs : List ℕ) → length xs ≤ 1 → without_zeros xs ≡ xs
short [] le = refl
short (x ∷ []) le = refl
short (x ∷ y ∷ xs) le = absurd (omega arith)

pub returns-after-loop-rest : goal.returns-after-loop-rest
returns-after-loop-rest c = sym (short _ c.loop-rest-test.false) ∙ c.loop-rest.invariant
