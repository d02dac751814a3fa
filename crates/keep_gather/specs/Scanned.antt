-- How far the scans of a round have come: this project's own rule.
use Rattle.std.specs.Prelude.{List, if◌then◌else◌}
use Rattle.keep_event.specs.Plan.{Scan, has_ended, reached}
use Rattle.keep_gather.specs.declared.gather.Scanned.{Scanned}
use Rattle.keep_gather.specs.declared.gather.Scanned.TheVariants.{More, Complete}

abbrev pub scanned_by : List Scan → Scanned
scanned_by scans = if has_ended scans then Complete else More (reached scans)
