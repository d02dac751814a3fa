use Rattle.std.proofs.Common.{◌≡◌, take, map}
use Rattle.std.specs.List.{filter}
use Rattle.keep_event.specs.Device.{is_paged, entry_of}
use Rattle.keep_plain.proofs.walks.page.Given as goal

abbrev pub invariant-loop-entry : goal.invariant-loop-entry
invariant-loop-entry l = l.entries.items ≡ map entry_of (filter (λ e. is_paged l.prefix e.0) (take l.entry-index l.held))
