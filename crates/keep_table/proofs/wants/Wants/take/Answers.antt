use Rattle.keep_table.proofs.Mentions.{next-counted}
use Rattle.keep_table.proofs.wants.Wants.take.Goals as goal

pub lower-requires : goal.lower-requires
lower-requires c =
    next-counted c.digest-item.result c.args.want c.loop-digest.digest-index c.args.named.now _ _ c.loop-digest-test.true c.digest-item.is (c.loop-digest.invariant c.digest-item.result c.args.want) (c.requires c.digest-item.result c.args.want)
