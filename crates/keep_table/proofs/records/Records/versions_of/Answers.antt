use Rattle.std.proofs.Common.{◌∙◌}
use Rattle.std.specs.Map.{values_of}
use Rattle.keep_table.proofs.Held.{versions-are}
use Rattle.keep_table.proofs.records.Records.versions_of.Goals as goal

pub returns : goal.returns
returns c =
    rw (← c.self.view_is, c.saturating_sub.ensures) (versions-are c.args.number c.get.result (values_of c.self.inside.rows.entries) (rw (← c.self.view_is) at c.requires) (c.get.ensures ∙ c.self.invariant.of_sizes c.args.number))
