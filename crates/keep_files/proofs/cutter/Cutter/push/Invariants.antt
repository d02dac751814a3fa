use Rattle.std.proofs.Common.{◌≡◌, ◌++◌, length}
use Rattle.keep_files.specs.Pieces.{given_to, IsCut}
use Rattle.keep_files.proofs.cutter.Cutter.push.Given as goal

abbrev pub invariant-loop-rest : goal.invariant-loop-rest
invariant-loop-rest l = record {
  size : l.self.size ≡ l.initial.self.size;
  cut : IsCut l.self;
  given : given_to l.self ++ l.rest ≡ given_to l.initial.self ++ l.bytes;
}

abbrev pub decreases-loop-rest : goal.decreases-loop-rest
decreases-loop-rest l = length l.rest
