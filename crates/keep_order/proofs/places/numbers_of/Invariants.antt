use Rattle.std.proofs.Common.{◌≡◌, map, take}
use Rattle.keep_order.specs.declared.places.Candidate.{Candidate}
use Rattle.keep_order.proofs.places.numbers_of.Given as goal

abbrev pub invariant-loop-candidate : goal.invariant-loop-candidate
invariant-loop-candidate l = l.numbers.items ≡ map (λ (c : Candidate). c.number) (take l.candidate-index l.candidates)
