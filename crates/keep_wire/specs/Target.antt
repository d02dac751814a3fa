-- Where the bytes of a request line end so far. For private clauses.
use Rattle.std.specs.Prelude.{ℕ, ◌==◌, List, [], ◌∷◌, if◌then◌else◌}
use Rattle.httparse.specs.Grammar.{is_token_byte}
use Rattle.keep_wire.specs.declared.target.Place.{Place}
use Rattle.keep_wire.specs.declared.target.Place.TheVariants.{Empty, AfterReturn, Method, Target, Past}
use Rattle.keep_wire.specs.Requests.{is_target_byte}

abbrev pub place_next : Place → ℕ → Place
place_next Empty b = if b == 10 then Empty else (if b == 13 then AfterReturn else (if is_token_byte b then Method else Past))
place_next AfterReturn b = if b == 10 then Empty else Past
place_next Method b = if is_token_byte b then Method else (if b == 32 then Target else Past)
place_next Target b = if is_target_byte b then Target else Past
place_next Past b = Past

abbrev pub place_after : Place → List ℕ → Place
place_after p [] = p
place_after p (b ∷ bs) = place_after (place_next p b) bs
