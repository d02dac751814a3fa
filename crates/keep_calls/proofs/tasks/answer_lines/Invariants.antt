use Rattle.std.proofs.Common.{◌≡◌, length}
use Rattle.keep_calls.proofs.tasks.answer_lines.Given as goal

-- the cluster has the configuration's devices
abbrev pub invariant-loop-line : goal.invariant-loop-line
invariant-loop-line l =
    (goal.iterator-loop-line).can_next l.line-iterator
    × (goal.iterator-loop-line).is_finite l.line-iterator
    × (length l.desk.1.0.config.devices ≡ length l.desk.0.now.devices)

abbrev pub invariant-loop-volume : goal.invariant-loop-volume
invariant-loop-volume l =
    (goal.iterator-loop-volume).can_next l.volume-iterator
    × (goal.iterator-loop-volume).is_finite l.volume-iterator
