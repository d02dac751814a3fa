use Rattle.std.proofs.Common.{◌≡◌, ◌++◌}
use Rattle.std.specs.Slice.Iter.{chunks_rest, chunks_size}
use Rattle.hex.specs.Hex.{encode_lower}
use Rattle.keep_script.proofs.hexadecimal.push_digits.Given as goal

-- the digits so far, and those of the bytes that are left
abbrev pub invariant-loop-piece : goal.invariant-loop-piece
invariant-loop-piece l = record {
  written : l.out.items ++ encode_lower (chunks_rest l.piece-iterator) ≡ l.fn.out.items ++ encode_lower l.bytes;
  size : chunks_size l.piece-iterator ≡ 512;
}
