-- What jiff shows at the instant is the date of its day.
use Rattle.std.proofs.Common.{ap, ◌∙◌, arith, pos, ◌+ℤ◌, to_z, of_z}
use mir.Syntax.{w128}
use Rattle.keep_clock.specs.Dates.{civil}
use Rattle.keep_clock.proofs.Days.{date_is_at}
use Rattle.jiff_core.specs.Timestamp.{nanos_of_seconds}
use Rattle.jiff_core.proofs.SignedLemmas.{back_small}
use Rattle.keep_clock.proofs.date.date_at.Goals as goal

pub returns : goal.returns
returns c =
    let given = c.in-Ok.ensures.value ∙ ap (λ z. to_z w128 (of_z w128 z)) c.from.ensures ∙ back_small w128 (pos c.args.nanos) (omega (arith, c.ranges.nanos.fits)) in
    ap civil c.date.ensures ∙ date_is_at c.to_datetime.result c.args.nanos c.ranges.nanos.fits
    (c.to_datetime.ensures ∙ ap (λ z. z +ℤ nanos_of_seconds (pos 0)) given)
