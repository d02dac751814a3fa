use Rattle.std.proofs.Common.{List, ℕ, subst, Err}
use Rattle.keep_wire.specs.Looks.{IsLooked}
use Rattle.keep_wire.proofs.Known.{found-from_looked}
use Rattle.keep_wire.proofs.filling.fill.Goals as goal

pub returns-in-Err-look-clause-found : goal.returns-in-Err-look-clause-found
returns-in-Err-look-clause-found g c =
    found-from_looked g.M.Message.grammar g.M.Message.make c.read_more.new.pending.items _ c.in-Err-look.error (subst (λ (v : List ℕ). IsLooked g.M.Message.grammar g.M.Message.make v (Err c.in-Err-look.error)) c.deref-then-is_due.ensures.value c.in-Err-look.ensures)
