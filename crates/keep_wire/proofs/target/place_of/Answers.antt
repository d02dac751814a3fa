use Rattle.std.proofs.Common.{drop, sym, ◌∙◌, ap, ◌+◌}
use Rattle.std.proofs.lemmas.List.{at_drop_more, at_drop_all}
use Rattle.keep_wire.specs.declared.target.Place.{Place}
use Rattle.keep_wire.specs.Target.{place_after}
use Rattle.keep_wire.proofs.target.place_of.Goals as goal

pub loop-byte-preserved : goal.loop-byte-preserved
loop-byte-preserved c =
    let bytes = c.args.bytes.now in
    let i = c.loop-byte.byte-index in
    ap (λ (p : Place). place_after p (drop (i + 1) bytes)) c.step-place.ensures
    ∙ sym (at_drop_more (place_after c.loop-byte.place) bytes i 0 c.loop-byte-test.true) ∙ c.loop-byte.invariant

pub returns : goal.returns
returns c = sym (at_drop_all (place_after c.loop-byte.place) c.args.bytes.now c.loop-byte.byte-index c.loop-byte-test.false) ∙ c.loop-byte.invariant
