use Rattle.std.proofs.Common.{arith, sym, ◌∙◌, ap}
use Rattle.std.proofs.lemmas.Map.Entries.{length-values_of}
use Rattle.keep_event.specs.declared.table.Record.{Record}
use Rattle.keep_table.proofs.Keyed.{first-of-rows, first_value}
use Rattle.keep_table.proofs.records.Records.next_above.Goals as goal

pub returns-in-Some-clause-next : goal.returns-in-Some-clause-next
returns-in-Some-clause-next c =
    let steps = c.in-Some.ensures.steps in
    let between = c.range-later.ensures.between tt in
    rw (← c.self.view_is) (ap first_value (sym steps ∙ between) ∙ first-of-rows (λ (r : Record). r.revision) c.args.after c.self.inside.rows.entries c.self.invariant.by_revision)

pub returns-in-None-clause-next : goal.returns-in-None-clause-next
returns-in-None-clause-next c =
    let steps = c.in-None.ensures.steps.0 in
    let between = c.range-later.ensures.between tt in
    rw (← c.self.view_is) (ap first_value (sym steps ∙ between) ∙ first-of-rows (λ (r : Record). r.revision) c.args.after c.self.inside.rows.entries c.self.invariant.by_revision)

pub returns-in-Some-clause-few : goal.returns-in-Some-clause-few
returns-in-Some-clause-few c = let e = length-values_of c.self.inside.rows.entries in let len = c.len.ensures.len in let small = c.len.ensures.small in rw (← c.self.view_is) (omega arith)

pub returns-in-None-clause-few : goal.returns-in-None-clause-few
returns-in-None-clause-few c = let e = length-values_of c.self.inside.rows.entries in let len = c.len.ensures.len in let small = c.len.ensures.small in rw (← c.self.view_is) (omega arith)
