use Rattle.std.proofs.Common.{◌≡◌, ℕ, false, length}
use Rattle.std.specs.Prelude.{nat_lt}
use Rattle.keep_core.specs.Seen.{last_sweep}
use Rattle.keep_core.proofs.held.note_sweep.Given as goal

abbrev pub invariant-loop-sweeps : goal.invariant-loop-sweeps
invariant-loop-sweeps l = (t : ℕ) → nat_lt t l.reading ≡ false → last_sweep t l.sweeps.entries ≡ last_sweep t l.fn.sweeps.entries

abbrev pub decreases-loop-sweeps : goal.decreases-loop-sweeps
decreases-loop-sweeps l = length l.sweeps.entries
