use Rattle.std.proofs.Common.{take, sym, ap, ◌∙◌, arith}
use Rattle.std.proofs.lemmas.List.{length-take-le}
use Rattle.std.proofs.lemmas.Option.{none-some}
use Rattle.keep_spec.specs.Locator.{digest}
use Rattle.keep_spec.proofs.DigestText.{digest_of-some, digest_of_is}
use Rattle.keep_spec.proofs.LocatorText.{locator_parts}
use Rattle.keep_locator.proofs.locator.Locator.digest.Goals as goal

pub slice_bounds-read-end : goal.slice_bounds-read-end
slice_bounds-read-end c =
    let text = c.self.inside.text.now in
    let long = (locator_parts text c.self.invariant.whole).long in
    sym (length-take-le 32 text (omega (arith, long)))

pub unreachable-requires : goal.unreachable-requires
unreachable-requires c =
    let text = c.self.inside.text.now in
    none-some _ (c.in-None.ensures ∙ digest_of-some (take 32 text) (locator_parts text c.self.invariant.whole).a_digest)

pub returns-clause-value : goal.returns-clause-value
unfolding digest
returns-clause-value c = (digest_of_is (take 32 c.self.inside.text.now) c.in-Some.digest (sym c.in-Some.ensures)).1 ∙ ap digest c.self.view_is
