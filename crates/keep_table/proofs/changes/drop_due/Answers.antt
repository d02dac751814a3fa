use Rattle.std.proofs.Common.{sym, ◌∙◌}
use Rattle.keep_table.proofs.Due.{due-dropped, due-fewer, none-dropped}
use Rattle.keep_table.proofs.changes.drop_due.Goals as goal

pub loop-revision-smaller : goal.loop-revision-smaller
loop-revision-smaller c = rw c.drop_one.ensures (due-fewer c.args.reading c.args.number c.in-Some.revision c.loop-revision.records c.in-Some.ensures.due)

pub loop-revision-preserved : goal.loop-revision-preserved
loop-revision-preserved c = rw c.drop_one.ensures (due-dropped c.args.reading c.args.number c.in-Some.revision 0 c.loop-revision.records c.in-Some.ensures.rising c.in-Some.ensures.due ∙ c.loop-revision.invariant)

pub returns : goal.returns
returns c = sym (none-dropped c.args.reading c.args.number c.loop-revision.records (sym c.in_default.ensures.some)) ∙ c.loop-revision.invariant
