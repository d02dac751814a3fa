use Rattle.std.proofs.Common.{◌≡◌, ◌∙◌, ap, arith, sym}
use Rattle.keep_volume.specs.Buckets.{Bucketed}
use Rattle.keep_event.specs.declared.names.Metadata.{Metadata}
use Rattle.keep_volume.specs.Index.{total, size_at}
use Rattle.keep_volume.proofs.Sums.{total-put, size-le}
use Rattle.keep_volume.proofs.Passes.{passed-put}
use Rattle.keep_volume.proofs.index.Index.put_in_room.Goals as goal

pub invariant_of-self : goal.invariant_of-self
invariant_of-self c =
    let n = c.args.name.now in
    let es = c.self.inside.names.entries in
    let freed : c.size_at-freed.result ≡ size_at n es = c.size_at-freed.ensures.value ∙ ap (λ (v : Bucketed Metadata). size_at n v.entries) (sym c.self.view_is) in
    let used : c.self.inside.used ≡ total c.args.self.now.entries = c.self.invariant.sum ∙ ap (λ (v : Bucketed Metadata). total v.entries) c.self.view_is in
    let kept : size_at n es ≡ size_at n c.args.self.now.entries = ap (λ (v : Bucketed Metadata). size_at n v.entries) c.self.view_is in
    rw c.put_in_room.ensures (record {
      sum = omega (arith, freed, total-put n c.args.sized es, size-le n es, c.self.invariant.sum);
      small = omega (arith, freed, used, c.requires.fits, kept);
      passed = rw c.earlier-self-inside.ensures (passed-put c.self.inside.passed.up_to c.self.inside.passed.earliest n c.args.sized es c.self.invariant.passed);
    })
