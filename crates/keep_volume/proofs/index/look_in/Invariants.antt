use Rattle.std.proofs.Common.{◌≡◌}
use Rattle.std.specs.Slice.Iter.{iter_rest}
use Rattle.keep_event.specs.Store.{above}
use Rattle.keep_store.specs.Names.{named}
use Rattle.keep_volume.specs.Looks.{look}
use Rattle.keep_volume.proofs.index.look_in.Given as goal

abbrev pub invariant-loop-entry : goal.invariant-loop-entry
invariant-loop-entry l = look l.reading l.came (iter_rest l.entry-iterator) ≡ look l.reading l.fn.passed (above (named l.fn.after) l.names.entries)
