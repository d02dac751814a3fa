use Rattle.std.proofs.Common.{true, cond, ap, ◌∙◌}
use Rattle.std.specs.BTreeSet.{contains}
use Rattle.std.specs.Ordering.{nat_cmp}
use Rattle.std.specs.Cmp.Lexicographic.{slice_cmp}
use Rattle.keep_safety.proofs.Names.{compared_as}
use Rattle.keep_core.proofs.holding.note_named.Goals as goal

pub returns-in-Ok : goal.returns-in-Ok
returns-in-Ok c = rw c.in-Some.is (λ h. c.in-Ok.ensures.updates.0 h ∙ ap (λ b. cond b true (contains (slice_cmp nat_cmp) c.args.held.now h)) (compared_as c.in-Some.digest h))
