-- How many members an object has.
use Rattle.std.proofs.Common.{◌≡◌, List, [], ◌∷◌, length, String, refl, arith}
use Rattle.std.specs.declared.alloc.Global.{Global}
use Rattle.serde_json.specs.View.{members_view}
use Rattle.serde_json.specs.declared.value.Value.{Value}
use Rattle.keep_spec.specs.Json.{members_length}

pub members_length_of_view : (ms : List (String Global × Value)) → members_length (members_view ms) ≡ length ms
members_length_of_view [] = refl
members_length_of_view (m ∷ ms) = let e = members_length_of_view ms in omega arith
