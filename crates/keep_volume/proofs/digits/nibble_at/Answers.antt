use Rattle.std.proofs.Common.{arith, sym}
use Rattle.keep_volume.proofs.Nibbles.{nibble-even, nibble-odd}
use Rattle.keep_volume.proofs.digits.nibble_at.Goals as goal
use Rattle.std.specs.Prelude.{◌/◌}

pub returns-then-i-eq0 : goal.returns-then-i-eq0
returns-then-i-eq0 c = sym (nibble-even c.args.bytes.now (c.args.i / 2) c.args.i (omega arith))

pub returns-else-i-eq0 : goal.returns-else-i-eq0
returns-else-i-eq0 c = sym (nibble-odd c.args.bytes.now (c.args.i / 2) c.args.i (omega arith))
