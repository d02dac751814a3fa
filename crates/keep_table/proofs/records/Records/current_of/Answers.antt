use Rattle.std.proofs.Common.{sym, ◌∙◌}
use Rattle.std.specs.Map.{values_of}
use Rattle.keep_event.specs.declared.table.Record.{Record}
use Rattle.keep_table.proofs.Keyed.{found}
use Rattle.keep_table.proofs.Triples.{last-place, no-place}
use Rattle.keep_table.proofs.records.Records.current_of.Goals as goal

pub returns-in-None-clause-found : goal.returns-in-None-clause-found
returns-in-None-clause-found c =
    rw (← c.self.view_is) (sym (no-place c.args.number (values_of c.self.inside.rows.entries) c.self.invariant.small
    (λ u v lt lt'. sym (c.self.invariant.of_each c.args.number u v) ∙ c.in-None.ensures.none u v lt lt')))

pub returns-in-Some-clause-found : goal.returns-in-Some-clause-found
returns-in-Some-clause-found c =
    let superseded = rw (← c.self.view_is) at c.requires in
    rw (c.get.ensures.value, ← c.self.view_is) (found (λ (r : Record). r.revision) c.in-Some.revision c.self.inside.rows.entries c.self.invariant.by_revision
    ∙ last-place c.args.number c.in-Some.field-0-0 c.in-Some.revision (values_of c.self.inside.rows.entries) c.self.invariant.rising c.self.invariant.small c.self.invariant.versioned superseded
    (sym (c.self.invariant.of_each c.args.number c.in-Some.field-0-0 c.in-Some.revision) ∙ c.in-Some.ensures.at)
    (λ u v lt lt' at. c.in-Some.ensures.newest u v lt lt' (c.self.invariant.of_each c.args.number u v ∙ at)))
