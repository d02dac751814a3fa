use Rattle.std.proofs.Common.{rules}
use Rattle.keep_store.specs.Names.{named}
use Rattle.keep_volume.proofs.Buckets.{from-start}
use Rattle.keep_volume.proofs.name_map.NameMap.above.Goals as goal

pub returns-clause-rest : goal.returns-clause-rest
returns-clause-rest c = rw (← c.self.view_is) (from-start (named c.args.after) c.start_of.result c.min-start.result c.self.inside.buckets.items c.deref.result.now c.self.invariant c.deref.ensures.value c.start_of.ensures.value c.start_of.ensures.small (search rules))
