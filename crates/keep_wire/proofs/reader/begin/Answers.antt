use Rattle.std.proofs.Common.{Option, drop}
use Rattle.keep_wire.specs.declared.head.Begun.{Begun}
use Rattle.keep_wire.proofs.Next.{begun-from_found_err}
use Rattle.keep_wire.proofs.reader.begin.Goals as goal

pub returns-in-Err-clause-next_message : goal.returns-in-Err-clause-next_message
returns-in-Err-clause-next_message g c =
    begun-from_found_err (Option (Begun g.row.M.Denot)) g.M.Message.grammar g.met.M.Message.never_waits_again g.M.Message.make _ (drop c.find.new.start c.find.new.pending.items) _ _ _ c.in-Err.error c.in-Err.ensures.bytes c.in-Err.ensures.found
