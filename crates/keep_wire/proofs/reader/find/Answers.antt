use Rattle.std.proofs.Common.{List, ℕ, subst, Err, drop, ap, ◌∙◌}
use Rattle.keep_wire.specs.Looks.{IsLooked}
use Rattle.keep_wire.proofs.Known.{found-from_looked}
use Rattle.keep_wire.proofs.reader.find.Goals as goal

pub returns-in-Err-clause-found : goal.returns-in-Err-clause-found
returns-in-Err-clause-found g c =
    let e = c.rest_of.ensures ∙ ap (drop c.args.start.now) c.deref.ensures.value in
    found-from_looked g.M.Message.grammar g.M.Message.make (drop c.args.start.now c.args.pending.now.items) _ c.in-Err.error (subst (λ (v : List ℕ). IsLooked g.M.Message.grammar g.M.Message.make v (Err c.in-Err.error)) e c.in-Err.ensures)
