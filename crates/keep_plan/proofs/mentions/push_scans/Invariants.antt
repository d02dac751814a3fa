use Rattle.std.proofs.Common.{◌≡◌, ◌++◌, take}
use Rattle.std.specs.List.{flat_map}
use Rattle.keep_gather.specs.Shown.{scan_of}
use Rattle.keep_plan.specs.Mentions.{in_row}
use Rattle.keep_plan.proofs.mentions.push_scans.Given as goal

abbrev pub invariant-loop-scan : goal.invariant-loop-scan
invariant-loop-scan l = l.mentions.items ≡ l.initial.mentions.items ++ flat_map (λ s. flat_map in_row (scan_of s).rows) (take l.scan-index l.scans)
