use Rattle.std.proofs.Common.{◌≡◌, ◌∙◌, suc, ap, arith, add-one, take, map}
use Rattle.keep_event.specs.Store.{put}
use Rattle.keep_volume.specs.Index.{total, sized_held}
use Rattle.keep_volume.proofs.Opening.{next-name, next-total}
use Rattle.keep_volume.proofs.index.sized_names.Goals as goal

pub loop-held-preserved : goal.loop-held-preserved
loop-held-preserved c =
    let names = c.args.names.now in
    let i = c.loop-held.held-index in
    let h = c.held-item.result in
    let more : c.put.new.self.entries ≡ map sized_held (take (suc i) names) = c.in_ok-put.ensures.ok ∙ ap (put h.name (sized_held h).1) c.loop-held.invariant.entries ∙ next-name names i h c.loop-held-test.true c.held-item.is c.requires in
    record {
      entries = rw add-one more;
      used = omega (arith, ap total more, ap total c.loop-held.invariant.entries, next-total names i h c.loop-held-test.true c.held-item.is);
      few = omega arith;
    }
