use Rattle.std.proofs.Common.{None}
use Rattle.std.specs.List.{filter}
use Rattle.keep_event.specs.Device.{is_copy_of}
use Rattle.keep_plain.specs.Lines.{timed}
use Rattle.keep_plain.proofs.Lists.{last-map}
use Rattle.keep_plain.proofs.walks.last_copy.Goals as goal

pub loop-entry-init : goal.loop-entry-init
loop-entry-init c = last-map timed None (filter (λ e. is_copy_of c.args.digest.now e.0) c.args.held.now)
