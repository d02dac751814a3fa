-- The zeros before the number in a UUID.
use Rattle.std.proofs.Common.{◌≡◌, ◌≤◌, ℕ, List, take, replicate}
use Rattle.std.proofs.lemmas.List.{take-replicate}

abbrev zeros : ℕ → List ℕ
zeros n = replicate n 48

pub take_zeros : (count : ℕ) → count ≤ 15 → take count (zeros 15) ≡ zeros count
take_zeros count le = take-replicate count 15 48 le
