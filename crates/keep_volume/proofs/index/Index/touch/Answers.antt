use Rattle.std.proofs.Common.{◌∙◌, sym}
use Rattle.keep_event.specs.Store.{find, with_mtime}
use Rattle.keep_volume.proofs.Sums.{total-change}
use Rattle.keep_volume.proofs.Passes.{passed-change}
use Rattle.keep_volume.proofs.index.Index.touch.Goals as goal

pub invariant_of-self : goal.invariant_of-self
invariant_of-self c =
    let n = c.args.name.now in
    let es = c.self.inside.names.entries in
    rw c.touch.ensures.after (record {
      sum = c.self.invariant.sum ∙ sym (total-change n c.args.mtime es);
      small = c.self.invariant.small;
      passed = rw c.earlier-self-inside.ensures (passed-change c.self.inside.passed.up_to c.self.inside.passed.earliest (with_mtime c.args.mtime) n es (find n es) c.self.invariant.passed);
    })
