-- Where no newline stands.
use Rattle.std.proofs.Common.{◌≢◌, ℕ, ◌≤◌, List, ◌++◌, length, arith, inl, inr, Option, Some, None, refl}
use Rattle.std.proofs.lemmas.List.{get_or_append_left}
use Rattle.std.proofs.lemmas.Bool.{cases_lt}
use Rattle.keep_base.specs.Ends.{IsPlain, IsNewlineFrom}

pub IsPlain-join : (xs : List ℕ) (a b : ℕ) → IsPlain xs 0 a → IsPlain xs a b → IsPlain xs 0 b
IsPlain-join xs a b p q k low high e = elim (cases_lt k a) as (λ _. ⊥) [ inl lt ↦ p k low lt e | inr ge ↦ q k ge high e ]

pub IsPlain-longer : (xs ys : List ℕ) (n : ℕ) → n ≤ length xs → IsPlain xs 0 n → IsPlain (xs ++ ys) 0 n
IsPlain-longer xs ys n le p k low high = rw (get_or_append_left xs ys 0 k (omega arith)) (p k low high)

-- no newline was found
pub IsPlain-from_none : (xs : List ℕ) (from : ℕ) (o : Option ℕ) → IsNewlineFrom xs from o → ((i : ℕ) → o ≢ Some i) → IsPlain xs from (length xs)
IsPlain-from_none xs from None h none = h
IsPlain-from_none xs from (Some i) h none = absurd (none i refl)
