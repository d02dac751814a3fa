use Rattle.std.proofs.Common.{◌≡◌, map, take}
use Rattle.std.specs.List.{enumerate_from}
use Rattle.keep_order.specs.Candidates.{candidate}
use Rattle.keep_order.proofs.places.candidates.Given as goal

abbrev pub invariant-loop-place : goal.invariant-loop-place
invariant-loop-place l = l.candidates.items ≡ map candidate (enumerate_from 0 (take l.place l.weights))
