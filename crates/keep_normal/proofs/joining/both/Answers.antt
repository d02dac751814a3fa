use Rattle.std.proofs.Common.{arith}
use Rattle.keep_normal.proofs.SoundParts.{sound_is, touch_is}
use Rattle.keep_normal.proofs.joining.both.Goals as goal

pub overflow_add-result : goal.overflow_add-result
overflow_add-result c =
    let p = c.args.first in
    let q = c.args.second.now in
    let b = sound_is q c.requires.second in
    let t = touch_is p q c.requires.touch in
    omega (arith, b.ends, b.short, t.next)
