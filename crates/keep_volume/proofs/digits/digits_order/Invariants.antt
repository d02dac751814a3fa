use Rattle.std.proofs.Common.{◌≡◌, drop}
use Rattle.keep_volume.specs.Digits.{nibbles, order_of}
use Rattle.keep_volume.proofs.digits.digits_order.Given as goal

abbrev pub invariant-loop-i : goal.invariant-loop-i
invariant-loop-i l = order_of (drop l.i (nibbles l.bytes)) (drop l.i l.prefix) ≡ order_of (nibbles l.bytes) l.prefix
