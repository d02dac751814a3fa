use Rattle.std.proofs.Common.{◌≡◌, ◌∙◌, ap, arith, sym}
use Rattle.keep_volume.specs.Buckets.{Bucketed}
use Rattle.keep_event.specs.declared.names.Metadata.{Metadata}
use Rattle.keep_event.specs.Store.{without}
use Rattle.keep_store.proofs.Order.{all-without}
use Rattle.keep_volume.specs.Index.{total, size_at, Waits}
use Rattle.keep_volume.proofs.Sums.{total-without}
use Rattle.keep_volume.proofs.index.Index.remove.Goals as goal

pub invariant_of-self : goal.invariant_of-self
invariant_of-self c =
    let n = c.args.name.now in
    let es = c.self.inside.names.entries in
    let freed : c.size_at-freed.result ≡ size_at n es = c.size_at-freed.ensures.value ∙ ap (λ (v : Bucketed Metadata). size_at n v.entries) (sym c.self.view_is) in
    rw c.remove.ensures.after (record {
      sum = omega (arith, freed, total-without n es, c.self.invariant.sum);
      small = omega (arith, c.self.invariant.small);
      passed = all-without (Waits c.self.inside.passed.up_to c.self.inside.passed.earliest) n es c.self.invariant.passed;
    })

pub returns-clause-fits : goal.returns-clause-fits
returns-clause-fits c =
    let n = c.args.name.now in
    let es = c.self.inside.names.entries in
    let left : total c.remove.new.self.entries ≡ total (without n es) = ap total c.remove.ensures.after in
    let kept : size_at n es ≡ size_at n c.args.self.now.entries = ap (λ (v : Bucketed Metadata). size_at n v.entries) c.self.view_is in
    omega (arith, left, kept, total-without n es, c.self.invariant.sum, c.self.invariant.small)
