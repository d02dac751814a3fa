use Rattle.std.proofs.Common.{sym, ◌∙◌, ap}
use Rattle.keep_event.specs.declared.table.Collection.{Collection}
use Rattle.keep_table.proofs.Keyed.{first-of-rows, first_value}
use Rattle.keep_table.proofs.collections.Collections.next_above.Goals as goal

pub returns-in-Some : goal.returns-in-Some
returns-in-Some c =
    let steps = c.in-Some.ensures.steps in
    let between = c.range-later.ensures.between tt in
    rw (← c.self.view_is) (ap first_value (sym steps ∙ between) ∙ first-of-rows (λ (x : Collection). x.number) c.args.after c.self.inside.held.entries c.self.invariant.by_number)

pub returns-in-None : goal.returns-in-None
returns-in-None c =
    let steps = c.in-None.ensures.steps.0 in
    let between = c.range-later.ensures.between tt in
    rw (← c.self.view_is) (ap first_value (sym steps ∙ between) ∙ first-of-rows (λ (x : Collection). x.number) c.args.after c.self.inside.held.entries c.self.invariant.by_number)
