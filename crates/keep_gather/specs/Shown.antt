-- What a Gather has been given, with the latest first.
use Rattle.std.specs.Prelude.{ℕ, List, map, reverse}
use Rattle.keep_event.specs.Plan.{Page, Scan, Gathered}
use Rattle.keep_gather.specs.declared.given.GivenPage.{GivenPage}
use Rattle.keep_gather.specs.declared.given.GivenScan.{GivenScan}

abbrev pub page_of : GivenPage → Page
page_of p = record { device = p.device; entries = p.entries }

abbrev pub scan_of : GivenScan → Scan
scan_of s = record { after = s.after; rows = s.rows; last = s.last }

abbrev pub shown : ℕ → ℕ → List GivenPage → List GivenScan → Gathered
shown round started pages scans = record {
  round = round;
  started = started;
  pages = map page_of (reverse pages);
  scans = map scan_of (reverse scans);
}

-- the same with other scans
abbrev pub with_scans : List Scan → Gathered → Gathered
with_scans scans g = record { round = g.round; started = g.started; pages = g.pages; scans = scans }
