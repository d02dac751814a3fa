-- Digests sorted, each once.
-- Laws: `dedup_ascends`, `dedup_keeps`.
use Rattle.std.proofs.Common.{ℕ, List, sym, nat_eq}
use lib.Pointwise.{pointwise, bytes_decides}
use Rattle.std.specs.Ordering.{nat_cmp}
use Rattle.std.specs.Cmp.Lexicographic.{slice_cmp}
use Rattle.std.specs.List.{dedup, Contains}
use Rattle.std.specs.List.Sorted.{IsSorted, IsStrictlySortedBy}
use Rattle.std.proofs.lemmas.Cmp.{nat_list_cmp_total, nat_list_eq_equiv}
use Rattle.std.proofs.lemmas.Map.Text.{is_eq-slice_cmp}
use Rattle.std.proofs.lemmas.List.Kept.{IsStrictlySortedBy-dedup, Contains-dedup}

pub dedup_ascends : (xs : List (List ℕ)) → IsSorted (slice_cmp nat_cmp) xs → IsStrictlySortedBy (slice_cmp nat_cmp) (dedup (pointwise nat_eq) xs)
dedup_ascends xs sorted = IsStrictlySortedBy-dedup nat_list_cmp_total (λ x y. sym (is_eq-slice_cmp x y)) xs sorted

pub dedup_keeps : (xs : List (List ℕ)) (x : List ℕ) → Contains xs x → Contains (dedup (pointwise nat_eq) xs) x
dedup_keeps xs x h = Contains-dedup nat_list_eq_equiv (λ a b e. (bytes_decides a b).0 e) xs x h
