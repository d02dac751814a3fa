use Rattle.std.proofs.Common.{◌-◌, ◌<◌, ◌≤◌, length}
use Rattle.std.specs.Prelude.{slice_index_or}
use Rattle.keep_normal.specs.declared.block.Block.{Block}
use Rattle.keep_normal.proofs.block.find_block.Given as goal

abbrev pub invariant-loop-high : goal.invariant-loop-high
invariant-loop-high l = record {
  low_first : l.low < l.high;
  within : l.high ≤ length l.blocks;
  before : (d : Block) → (slice_index_or l.blocks l.low d).start ≤ l.from;
}

abbrev pub decreases-loop-high : goal.decreases-loop-high
decreases-loop-high l = l.high - l.low
