use Rattle.std.proofs.Common.{rules, sym, subst, Ok}
use Rattle.keep_plain.specs.Places.{IsCutAt}
use Rattle.keep_plain.proofs.Cuts.{cut-here}
use Rattle.keep_plain.proofs.held.place_of.Goals as goal

pub returns-in-Equal : goal.returns-in-Equal
returns-in-Equal c =
    let n = c.args.name.now in
    let es = c.args.held.now in
    let found : IsCutAt n es (Ok c.loop-entry.entry-index) = cut-here n es c.loop-entry.entry-index c.entry-item.result c.loop-entry-test.true c.entry-item.is c.loop-entry.invariant.1 (search rules) in
    subst (λ i. IsCutAt n es (Ok i)) (sym c.loop-entry.invariant.0) found
