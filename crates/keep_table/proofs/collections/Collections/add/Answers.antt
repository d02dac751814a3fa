use Rattle.std.specs.Map.{values_of}
use Rattle.keep_event.specs.declared.table.Collection.{Collection}
use Rattle.keep_table.proofs.Keyed.{added, keyed-again, values-are, rises-with}
use Rattle.keep_table.proofs.collections.Collections.add.Goals as goal

pub invariant_of-self-2 : goal.invariant_of-self-2
invariant_of-self-2 c =
    let newest = rw (← c.self.view_is) at c.requires.newest in
    let e = added (λ (x : Collection). x.number) c.args.collection c.self.inside.held.entries c.insert.new.self.entries c.self.invariant.by_number newest c.in-Ok.ensures.entries in
    let vs = values-are (λ (x : Collection). x.number) _ _ e in
    record {
      by_number = keyed-again (λ (x : Collection). x.number) _ _ e;
      rising = rw vs (rises-with (λ (x : Collection). x.number) 0 c.args.collection (values_of c.self.inside.held.entries) c.requires.positive newest c.self.invariant.rising);
    }

pub returns : goal.returns
returns c =
    let newest = rw (← c.self.view_is) at c.requires.newest in
    rw (← c.self.view_is) (values-are (λ (x : Collection). x.number) _ _ (added (λ (x : Collection). x.number) c.args.collection c.self.inside.held.entries c.insert.new.self.entries c.self.invariant.by_number newest c.in-Ok.ensures.entries))
