-- Numbers with their weights.
use Rattle.std.specs.Prelude.{ℕ, List}
use Rattle.keep_order.specs.declared.places.Candidate.{Candidate}

abbrev pub candidate : ℕ × List ℕ → Candidate
candidate p = record { weight = record { 0 = p.1 }; number = p.0 }
