use Rattle.std.proofs.Common.{◌∙◌}
use Rattle.keep_volume.proofs.Buckets.{nothing-first}
use Rattle.keep_volume.proofs.name_map.NameMap.is_empty.Goals as goal

pub returns-then-not-is_empty : goal.returns-then-not-is_empty
returns-then-not-is_empty c = (
  (λ f. cc f),
  (λ e. let none = c.is_empty.ensures.1 (nothing-first c.deref-bucket-items.result.now c.loop-bucket.bucket-index c.bucket-item.result c.loop-bucket-test.true c.bucket-item.is (c.loop-bucket.invariant ∙ e)) in cc (none, c.if-not-is_empty.true)),
)
