use Rattle.std.proofs.Common.{rules, ◌∙◌}
use Rattle.std.specs.Ordering.{is_lt, is_le}
use Rattle.std.proofs.lemmas.Fn.{always_returns_same}
use Rattle.keep_volume.specs.Digits.{nibbles, order_of}
use Rattle.keep_volume.proofs.Nibbles.{digits-rise}
use Rattle.keep_volume.proofs.Parts.{between}
use Rattle.keep_volume.proofs.name_list.NameList.within.Goals as goal

pub returns : goal.returns
returns c =
    let prefix = c.args.prefix.now in
    let es = c.self.inside.items.items in
    rw (← c.self.view_is) (c.iter.ensures.rest
    ∙ between (λ e. order_of (nibbles e.0.digest) prefix) es c.deref.result.now c.deref-2.result.now c.partition_point-start.result c.partition_point-end.result c.deref.ensures.value c.deref-2.ensures.value
    (digits-rise prefix es c.self.invariant) c.partition_point-start.ensures.bound c.partition_point-end.ensures.bound
    (c.partition_point-start.ensures.partitioned (λ e. is_lt (order_of (nibbles e.0.digest) prefix)) (always_returns_same _ _ _ (λ a r f k. search rules)))
    (c.partition_point-end.ensures.partitioned (λ e. is_le (order_of (nibbles e.0.digest) prefix)) (always_returns_same _ _ _ (λ a r f k. search rules))))
