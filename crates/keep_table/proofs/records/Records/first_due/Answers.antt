use Rattle.std.proofs.Common.{sym, ◌∙◌}
use Rattle.std.specs.Map.{values_of}
use Rattle.keep_table.proofs.Due.{any-due, due-at-due, none-due}
use Rattle.keep_table.proofs.records.Records.first_due.Goals as goal

pub returns-in-Some-clause-due : goal.returns-in-Some-clause-due
returns-in-Some-clause-due c =
    rw (← c.self.view_is) (any-due c.args.number c.in-Some.field-0-0 c.in-Some.revision c.args.reading (values_of c.self.inside.rows.entries) c.in-Some.ensures.due.0
    (sym (c.self.invariant.of_kept c.args.number c.in-Some.field-0-0 c.in-Some.revision) ∙ c.in-Some.ensures.due.1))

pub returns-in-Some-clause-some : goal.returns-in-Some-clause-some
returns-in-Some-clause-some c =
    rw (← c.self.view_is) (sym (due-at-due c.args.reading c.args.number c.in-Some.revision (values_of c.self.inside.rows.entries)
    (any-due c.args.number c.in-Some.field-0-0 c.in-Some.revision c.args.reading (values_of c.self.inside.rows.entries) c.in-Some.ensures.due.0
    (sym (c.self.invariant.of_kept c.args.number c.in-Some.field-0-0 c.in-Some.revision) ∙ c.in-Some.ensures.due.1))))

pub returns-in-None-clause-some : goal.returns-in-None-clause-some
returns-in-None-clause-some c =
    rw (← c.self.view_is) (sym (none-due c.args.number c.args.reading (values_of c.self.inside.rows.entries)
    (λ t v lt. sym (c.self.invariant.of_kept c.args.number t v) ∙ c.in-None.ensures.none t v lt)))
