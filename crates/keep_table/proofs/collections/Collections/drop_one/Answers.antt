use Rattle.std.specs.Map.{values_of}
use Rattle.keep_event.specs.declared.table.Collection.{Collection}
use Rattle.keep_table.proofs.Keyed.{dropped, keyed-again, values-are, rises-without}
use Rattle.keep_table.proofs.collections.Collections.drop_one.Goals as goal

pub invariant_of-self : goal.invariant_of-self
invariant_of-self c =
    let e = dropped (λ (x : Collection). x.number) c.args.number c.self.inside.held.entries c.remove.new.self.entries c.self.invariant.by_number c.self.invariant.rising c.remove.ensures.entries in
    let vs = values-are (λ (x : Collection). x.number) _ _ e in
    record {
      by_number = keyed-again (λ (x : Collection). x.number) _ _ e;
      rising = rw vs (rises-without (λ (x : Collection). x.number) 0 _ (values_of c.self.inside.held.entries) c.self.invariant.rising);
    }

pub returns : goal.returns
returns c = rw (← c.self.view_is) (values-are (λ (x : Collection). x.number) _ _ (dropped (λ (x : Collection). x.number) c.args.number c.self.inside.held.entries c.remove.new.self.entries c.self.invariant.by_number c.self.invariant.rising c.remove.ensures.entries))
