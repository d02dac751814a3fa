use Rattle.std.proofs.Common.{false, cond, ap, ◌∙◌}
use Rattle.std.specs.BTreeSet.{contains}
use Rattle.std.specs.Ordering.{nat_cmp}
use Rattle.std.specs.Cmp.Lexicographic.{slice_cmp}
use Rattle.keep_safety.proofs.Names.{compared_as}
use Rattle.keep_core.proofs.holding.note_answer.Goals as goal

pub returns-in-Trashed : goal.returns-in-Trashed
returns-in-Trashed c = rw c.in-Trashed.is (λ h. c.remove.ensures.updates.0 h ∙ ap (λ b. cond b false (contains (slice_cmp nat_cmp) c.args.held.now h)) (compared_as c.in-Trashed.digest h))
