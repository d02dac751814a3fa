use Rattle.std.proofs.Common.{sym, ◌∙◌}
use Rattle.keep_tasks.proofs.Tables.{saved-end, updated-end}
use Rattle.keep_tasks.proofs.table.Ends.end.Goals as goal

pub returns-in-Some-clause-end : goal.returns-in-Some-clause-end
returns-in-Some-clause-end c = λ config q is token. rw (c.in-Saved.is)
    (saved-end config q c.args.self.now c.in-Some.uuid _ c.in-Saved.number c.in-Saved.version c.in-Saved.portable is (sym c.in-Some.is ∙ c.take.ensures.value) c.with_number.ensures)

pub returns-in-Some-take-clause-end : goal.returns-in-Some-take-clause-end
returns-in-Some-take-clause-end c = λ config q is token. rw (c.in-Updated.is)
    (updated-end config q c.args.self.now c.in-Some-take.uuid _ c.in-Updated.number c.in-Updated.version c.in-Updated.portable is (sym c.in-Some-take.is ∙ c.take-in-Updated.ensures.value) c.with_number-in-Updated.ensures)
