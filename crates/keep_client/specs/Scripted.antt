-- What a link in memory tells, and what noting a call makes of it. Inner to this crate.
use Rattle.std.specs.Prelude.{◌≡◌, List, [], ◌∷◌, ◌++◌, Option, None, Some, Result, Ok, Err, if◌then◌else◌}
use Rattle.keep_client.specs.declared.link.Exchange.{Exchange}
use Rattle.keep_client.specs.declared.scripted.ScriptedLink.{ScriptedLink}
use Rattle.keep_client.specs.Exchanges.{IsTold}

abbrev pub scripted_told : ScriptedLink → Option (List Exchange)
scripted_told link = if link.is_lost then None else Some link.exchanges.items

-- an exchange was added to those that are told, or nothing is told from now on
abbrev pub Notes : {E : Type 0} → Result Exchange E → ScriptedLink → ScriptedLink → Type 0
Notes (Ok e) old new = (before : List Exchange) → IsTold before (scripted_told old) → IsTold (before ++ e ∷ []) (scripted_told new)
Notes (Err error) old new = scripted_told new ≡ None

-- the last exchange was changed
abbrev pub Changes : (Exchange → Exchange) → ScriptedLink → ScriptedLink → Type 0
Changes change old new =
    (before : List Exchange) (e : Exchange) → IsTold (before ++ e ∷ []) (scripted_told old) → IsTold (before ++ change e ∷ []) (scripted_told new)
