-- The bodies of requests: JSON objects with exactly the members of their kind. They are those of a script line but `open`, `at`, `do`, `token` and `collection`, which stand elsewhere in a request or have no place in one; times are instants in text.
use Rattle.std.specs.Prelude.{ℕ, List, Option, None, Some, is_some, option_and_then, option_map, if◌then◌else◌, codes, Bool, false}
use Rattle.serde_json.specs.Data.{Data}
use Rattle.serde_json.specs.Find.{get}
use Rattle.keep_spec.specs.Json.{value_of, text_at, truth_or, has_members}
use Rattle.keep_event.specs.declared.table.SaveRequest.{SaveRequest}
use Rattle.keep_history.specs.Script.{want_at, text_of_data, members_if}
use Rattle.keep_routes.specs.declared.bodies.UpdateBody.{UpdateBody}
use Rattle.keep_routes.specs.declared.bodies.Times.{Times}
use Rattle.keep_clock.specs.Instants.{instant_of}

-- `manifest`, `want`, and `portable` where it is given
abbrev pub request_of_data : List ℕ → Data → Option SaveRequest
request_of_data token d =
    option_and_then (λ text. option_and_then (λ want. option_map (λ portable.
    record { token = token; text = text; want = want; portable = portable })
    (text_of_data (get (codes "portable") d))) (want_at d)) (text_at (codes "manifest") d)

-- the request, and no other member
abbrev pub save_of_data : List ℕ → Data → Option SaveRequest
save_of_data token d =
    if has_members (members_if 2 (is_some (get (codes "portable") d))) d then request_of_data token d else None

-- the request, `preserve` where it is given, and no other member
abbrev pub update_of_data : List ℕ → Data → Option UpdateBody
update_of_data token d =
    if has_members (members_if (members_if 2 (is_some (get (codes "portable") d))) (is_some (get (codes "preserve") d))) d
    then
    option_and_then (λ preserve. option_map (λ request. record { preserve = preserve; request = request }) (request_of_data token d))
    (truth_or false (codes "preserve") d)
    else None

abbrev pub instant_at : List ℕ → Data → Option ℕ
instant_at name d = option_and_then instant_of (text_at name d)

-- `trash_at` and `delete_at`
abbrev pub times_of_data : Data → Option Times
times_of_data d =
    if has_members 2 d
    then
    option_and_then (λ trash_at. option_map (λ delete_at. record { trash_at = trash_at; delete_at = delete_at })
    (instant_at (codes "delete_at") d)) (instant_at (codes "trash_at") d)
    else None

unfoldable pub save_of : List ℕ → List ℕ → Option SaveRequest
save_of token body = option_and_then (save_of_data token) (value_of body)

unfoldable pub update_of : List ℕ → List ℕ → Option UpdateBody
update_of token body = option_and_then (update_of_data token) (value_of body)

unfoldable pub times_of : List ℕ → Option Times
times_of body = option_and_then times_of_data (value_of body)
