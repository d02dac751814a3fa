use Rattle.std.proofs.Common.{◌≡◌, drop}
use Rattle.std.specs.Prelude.{◌==◌}
use Rattle.std.specs.List.{find}
use Rattle.keep_plain_table.proofs.collections.collection_of.Given as goal

abbrev pub invariant-loop-collection : goal.invariant-loop-collection
invariant-loop-collection l = find (λ x. x.number == l.number) (drop l.collection-index l.collections) ≡ find (λ x. x.number == l.number) l.collections
