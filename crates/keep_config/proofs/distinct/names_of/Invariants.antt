use Rattle.std.proofs.Common.{◌≡◌, map, take}
use Rattle.keep_config.proofs.distinct.names_of.Given as goal

abbrev pub invariant-loop-item : goal.invariant-loop-item
invariant-loop-item g l = map (λ t. t.now) l.names.items ≡ map g.N.Named.name (take l.item-index l.items)
