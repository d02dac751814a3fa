use Rattle.std.proofs.Common.{◌≡◌, ◌≤◌, ◌+◌, drop}
use Rattle.keep_wire.specs.Looks.{lines_from, lines_in}
use Rattle.keep_wire.proofs.lines.count_lines.Given as goal

abbrev pub invariant-loop-byte : goal.invariant-loop-byte
invariant-loop-byte l = record {
  few : l.count ≤ l.byte-index;
  told : l.count + lines_from l.begun (drop l.byte-index l.bytes) ≡ lines_in l.bytes;
}
