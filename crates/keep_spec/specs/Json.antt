-- What a text of JSON says, as `serde_json` reads it: of a name that stands twice the last counts, and whole numbers are those written without point and exponent.
use Rattle.std.specs.Prelude.{ℕ, ◌+◌, ◌==◌, ◌&&◌, List, [], ◌∷◌, Bool, true, Option, None, Some, is_some, bytes_eq, unwrap_or, option_and_then, option_map, if◌then◌else◌}
use Rattle.std.specs.List.{list_any}
use Rattle.std.specs.Option.{option_map_or}
use Rattle.std.specs.Str.{is_utf8}
use Rattle.serde_json.specs.Data.{Data, Items, no_items, item, Members, no_members, member}
use Rattle.serde_json.specs.Find.{get, as_bool, as_str, as_number, as_u64, as_array, as_object}
use Rattle.serde_json.specs.Read.{read}

-- the value of a text; a text that isn't UTF-8 has none
abbrev pub value_of : List ℕ → Option Data
value_of text = if is_utf8 text then read text else None

abbrev pub text_at : List ℕ → Data → Option (List ℕ)
text_at name d = option_and_then as_str (get name d)

abbrev pub number_at : List ℕ → Data → Option ℕ
number_at name d = option_and_then as_u64 (option_and_then as_number (get name d))

abbrev pub items_length : Items → ℕ
items_length no_items = 0
items_length (item d ds) = items_length ds + 1

abbrev pub members_length : Members → ℕ
members_length no_members = 0
members_length (member k d ms) = members_length ms + 1

-- an object of n members, each name counted once
abbrev pub has_members : ℕ → Data → Bool
has_members n d = unwrap_or (option_map (λ ms. members_length ms == n) (as_object d)) (1 == 0)

-- the value, if it passes a test
abbrev pub option_filter : {X : Type 0} → (X → Bool) → Option X → Option X
option_filter test o = option_and_then (λ x. if test x then Some x else None) o

-- the truth value at a name, or the default where the name isn't there
abbrev pub truth_or : Bool → List ℕ → Data → Option Bool
truth_or default name d = if is_some (get name d) then option_and_then as_bool (get name d) else Some default

-- what each member of a list says, where none is out of form
abbrev pub each : {X : Type 0} → (Data → Option X) → Items → Option (List X)
each read_one no_items = Some []
each read_one (item d ds) = option_and_then (λ x. option_map (λ xs. x ∷ xs) (each read_one ds)) (read_one d)

-- the list at a name
abbrev pub list_at : {X : Type 0} → (Data → Option X) → List ℕ → Data → Option (List X)
list_at read_one name d = option_and_then (each read_one) (option_and_then as_array (get name d))

abbrev pub all_among : List (List ℕ) → Members → Bool
all_among names no_members = true
all_among names (member k d ms) = list_any (bytes_eq k) names && all_among names ms

-- an object has members of these names alone
abbrev pub has_only : List (List ℕ) → Data → Bool
has_only names d = option_map_or (all_among names) (as_object d) true

abbrev pub items_have_only : List (List ℕ) → Items → Bool
items_have_only names no_items = true
items_have_only names (item d ds) = has_only names d && items_have_only names ds

-- the objects of the list at a name have members of these names alone
abbrev pub each_has_only : List (List ℕ) → List ℕ → Data → Bool
each_has_only names name d = option_map_or (items_have_only names) (option_and_then as_array (get name d)) true
