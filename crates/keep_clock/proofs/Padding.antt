-- The zeros before a number.
use Rattle.std.proofs.Common.{◌≡◌, ◌≤◌, ℕ, List, take, replicate}
use Rattle.std.proofs.lemmas.List.{take-replicate}

abbrev zeros : ℕ → List ℕ
zeros n = replicate n 48

pub take_zeros : (count : ℕ) → count ≤ 9 → take count (zeros 9) ≡ zeros count
take_zeros count le = take-replicate count 9 48 le
