use Rattle.std.proofs.Common.{◌∷◌, [], sym, subst, rules}
use Rattle.std.specs.Prelude.{All}
use Rattle.std.proofs.lemmas.List.Elements.{All-append, All-nil, All-cons}
use Rattle.keep_spec.specs.Times.{IsReading}
use Rattle.keep_sessions.proofs.sessions.readings_of.Goals as goal

pub loop-i-preserved : goal.loop-i-preserved
loop-i-preserved c =
    subst (All IsReading) (sym c.in_ok-push_reading.ensures)
    (All-append IsReading c.loop-i.readings.items (c.min.result ∷ []) c.loop-i.invariant (All-cons IsReading c.min.result [] (search rules) (All-nil IsReading)))
