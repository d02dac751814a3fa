use Rattle.std.proofs.Common.{sym, ◌∙◌}
use Rattle.std.specs.Map.{values_of}
use Rattle.keep_event.specs.declared.table.Record.{Record}
use Rattle.keep_table.proofs.Keyed.{found}
use Rattle.keep_table.proofs.Triples.{version-at, no-version}
use Rattle.keep_table.proofs.records.Records.version_at.Goals as goal

pub returns-in-None-clause-found : goal.returns-in-None-clause-found
returns-in-None-clause-found c =
    rw (← c.self.view_is) (sym (no-version c.args.number c.args.version (values_of c.self.inside.rows.entries) c.self.invariant.small
    (λ v lt. sym (c.self.invariant.of_each c.args.number c.args.version v) ∙ c.in-None.ensures.none v lt)))

pub returns-in-Some-clause-found : goal.returns-in-Some-clause-found
returns-in-Some-clause-found c =
    rw (c.get.ensures.value, ← c.self.view_is) (found (λ (r : Record). r.revision) c.in-Some.revision c.self.inside.rows.entries c.self.invariant.by_revision
    ∙ version-at c.args.number c.args.version c.in-Some.revision 0 (values_of c.self.inside.rows.entries) c.self.invariant.rising c.self.invariant.versioned
    (sym (c.self.invariant.of_each c.args.number c.args.version c.in-Some.revision) ∙ c.in-Some.ensures.at))
