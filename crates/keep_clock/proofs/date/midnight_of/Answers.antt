-- The instant at midnight, and that there is none only past the readings.
use Rattle.std.proofs.Common.{ap, ◌∙◌, sym, subst}
use Rattle.jiff_core.specs.Time.{time_nanos}
use Rattle.jiff_core.specs.Timestamp.{IsTimestampNanos}
use Rattle.keep_clock.proofs.Days.{midnight_nanos, no_reading}
use Rattle.keep_clock.proofs.date.midnight_of.Goals as goal

pub returns-in_default-clause-none : goal.returns-in_default-clause-none
returns-in_default-clause-none c none =
    let nanos = midnight_nanos c.args.date c.to_datetime.result c.to_datetime.ensures.date (ap time_nanos c.to_datetime.ensures.time ∙ c.midnight.ensures) c.requires in
    no_reading _ (λ within. cc (c.in_default.ensures.succeeds.1 (subst IsTimestampNanos (sym nanos) within)))
