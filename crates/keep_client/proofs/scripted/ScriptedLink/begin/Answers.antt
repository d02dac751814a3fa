use Rattle.std.proofs.Common.{[], ◌∷◌, ◌++◌, subst}
use Rattle.keep_client.specs.Exchanges.{IsTold}
use Rattle.keep_client.specs.Scripted.{scripted_told}
use Rattle.keep_client.proofs.scripted.ScriptedLink.begin.Goals as goal

pub returns-clause-noted : goal.returns-clause-noted
returns-clause-noted c = λ before h. subst (λ e. IsTold (before ++ e ∷ []) (scripted_told c.note.new.self)) c.begun.ensures (c.note.ensures.noted before h)
