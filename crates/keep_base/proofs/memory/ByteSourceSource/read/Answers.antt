use Rattle.std.proofs.Common.{◌≡◌, ◌≤◌, ◌+◌, ◌-◌, take, drop, length, ap, arith, length-drop}
use Rattle.keep_base.proofs.memory.ByteSourceSource.read.Goals as goal
use Rattle.keep_base.proofs.Pieces.{read_front}

pub returns-then-count-gt0-clause-bytes : goal.returns-then-count-gt0-clause-bytes
returns-then-count-gt0-clause-bytes c =
    let s = c.args.self.now in
    let n = c.min-count.result in
    let same : (s.at + n) - s.at ≡ n = omega arith in
    let le : n ≤ length (drop s.at s.bytes) = omega (arith, length-drop s.at s.bytes, ap length c.as_slice-bytes.ensures) in
    let copied : c.copy_from_slice.new.self ≡ take n (drop s.at s.bytes) = grind (arith, c.as_slice-bytes.ensures, c.copy_from_slice.ensures.after, same) in
    (read_front s.bytes (drop n c.args.buf.now) c.copy_from_slice.new.self s.at n copied le, λ z _. absurd (omega arith))
