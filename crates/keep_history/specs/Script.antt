-- The script line of a text: a JSON object with exactly the members of its kind. The language is this project's own.
use Rattle.std.specs.Prelude.{ℕ, ⊤, ◌+◌, ◌==◌, ◌&&◌, ◌||◌, nat_lt, nat_le, List, [], ◌++◌, length, Bool, true, false, Option, None, Some, is_some, is_none, option_and_then, option_map, if◌then◌else◌, codes, Result, Ok, Err}
use Rattle.std.specs.Char.{is_ascii_alphanumeric}
use Rattle.std.specs.List.{list_all}
use Rattle.std.specs.Option.{option_or}
use Rattle.std.specs.Str.{bytes_eq}
use Rattle.hex.specs.Hex.{decode_of, encode_lower}
use Rattle.hex.specs.declared.error.FromHexError.{FromHexError}
use Rattle.serde_json.specs.Data.{Data, Items, no_items, item}
use Rattle.serde_json.specs.Find.{get, as_str, as_array, as_number, as_u64}
use Rattle.keep_spec.specs.Digest.{is_digest, bytes_of_digits}
use Rattle.keep_spec.specs.Times.{IsReading}
use Rattle.keep_spec.specs.declared.times.TheConstants.{READING_END}
use Rattle.keep_spec.specs.Json.{value_of, text_at, number_at, truth_or, has_members}
use Rattle.keep_event.specs.declared.table.SaveRequest.{SaveRequest}
use Rattle.keep_history.specs.declared.task.Command.{Command}
use Rattle.keep_history.specs.declared.task.Command.TheVariants as C
use Rattle.keep_history.specs.declared.task.Opening.{Opening}
use Rattle.keep_history.specs.declared.task.Opening.TheVariants as O
use Rattle.keep_history.specs.Tasks.{NamesWithin}
use Rattle.keep_spec.specs.Config.{Configuration}
use Rattle.keep_history.specs.Names.{Named, at_name, Seen, is_open, located, row}

-- NAMES AND READINGS
abbrev pub is_name_character : ℕ → Bool
is_name_character x = is_ascii_alphanumeric x || (x == 95) || (x == 45)

-- 1 to 64 letters, digits, `_` and `-`
abbrev pub is_task_name : List ℕ → Bool
is_task_name text = nat_le 1 (length text) && nat_le (length text) 64 && list_all is_name_character text

-- a text at a name that makes a task's name
abbrev pub name_at : List ℕ → Data → Option (List ℕ)
name_at field d = option_and_then (λ text. if is_task_name text then Some text else None) (text_at field d)

-- a reading at a name: nanoseconds since 1970, below the end of readings
abbrev pub time_at : List ℕ → Data → Option ℕ
time_at field d = option_and_then (λ n. if nat_lt n READING_END then Some n else None) (number_at field d)

-- the reading of a line
abbrev pub reading_at : Data → Option ℕ
reading_at d = time_at (codes "at") d

-- the reading that a command is done at
abbrev pub reading_of : Command → ℕ
reading_of (C.Open name reading opening) = reading
reading_of (C.Step name reading) = reading
reading_of (C.Finish name reading) = reading

-- the times of a trash are readings
abbrev pub HasTimes : Opening → Type 0
HasTimes (O.Trash token collection trash_at delete_at) = IsReading trash_at
HasTimes _ = ⊤

abbrev pub HasCommandTimes : Command → Type 0
HasCommandTimes (C.Open name reading opening) = HasTimes opening
HasCommandTimes (C.Step name reading) = ⊤
HasCommandTimes (C.Finish name reading) = ⊤

-- the server or the device that a command names is one of the configuration
abbrev pub IsCommandWithin : Configuration → Command → Type 0
IsCommandWithin c (C.Open name reading opening) = NamesWithin c opening
IsCommandWithin c (C.Step name reading) = ⊤
IsCommandWithin c (C.Finish name reading) = ⊤

-- BYTES AND REFERENCES
abbrev pub lower_case : List ℕ → Result (List ℕ) FromHexError → Option (List ℕ)
lower_case digits (Err e) = None
lower_case digits (Ok bytes) = if bytes_eq (encode_lower bytes) digits then Some bytes else None

-- the bytes of lower-case hexadecimal digits
abbrev pub bytes_of_text : List ℕ → Option (List ℕ)
bytes_of_text digits = lower_case digits (decode_of digits)

-- the number of a server of the configuration
abbrev pub server_at : Configuration → Data → Option ℕ
server_at c d = option_and_then (λ n. if nat_lt n (length c.servers) then Some n else None) (number_at (codes "server") d)

-- the number of a device of the configuration
abbrev pub device_at : Configuration → Data → Option ℕ
device_at c d = option_and_then (λ n. if nat_lt n (length c.devices) then Some n else None) (number_at (codes "device") d)

-- the locator of a task that ended Stored or Touched
abbrev pub ended_locator : Option Seen → Option (List ℕ)
ended_locator (Some (located locator)) = Some locator
ended_locator _ = None

-- an object with the one member `locator`, a name
abbrev pub locator_of_reference : Named Seen → Data → Option (List ℕ)
locator_of_reference names d =
    if has_members 1 d then option_and_then (λ name. ended_locator (at_name name names)) (text_at (codes "locator") d) else None

-- a locator is a text, or a reference to a task
abbrev pub locator_of_data : Named Seen → Data → Option (List ℕ)
locator_of_data names d = option_or (as_str d) (locator_of_reference names d)

-- KINDS
-- a digest that need not be given
abbrev pub digest_of_text : Option (List ℕ) → Option (Option (List ℕ))
digest_of_text None = None
digest_of_text (Some text) = if is_digest text then Some (Some (bytes_of_digits text)) else None

abbrev pub digest_of_data : Option Data → Option (Option (List ℕ))
digest_of_data None = Some None
digest_of_data (Some d) = digest_of_text (as_str d)

-- `n` members, and one more where an optional one is given
abbrev pub members_if : ℕ → Bool → ℕ
members_if n given = if given then n + 1 else n

-- `open`, `at`, `do`, `token`, `server`, `bytes`, and `digest` where it is given
abbrev pub put_of_data : Configuration → Data → Option Opening
put_of_data c d =
    option_and_then (λ token. option_and_then (λ server. option_and_then (λ bytes. option_and_then (λ hash.
    if has_members (members_if 6 (is_some hash)) d then Some (O.Put token server bytes hash) else None)
    (digest_of_data (get (codes "digest") d)))
    (option_and_then bytes_of_text (text_at (codes "bytes") d)))
    (server_at c d)) (text_at (codes "token") d)

-- a block asked for: a token, a server and a locator
abbrev pub BlockRequest : Type 0
BlockRequest = List ℕ × ℕ × List ℕ

-- `open`, `at`, `do`, `token`, `server` and `locator`
abbrev pub block_request_of_data : Configuration → Named Seen → Data → Option BlockRequest
block_request_of_data c names d =
    option_and_then (λ token. option_and_then (λ server. option_and_then (λ locator.
    if has_members 6 d then Some (token, server, locator) else None)
    (option_and_then (locator_of_data names) (get (codes "locator") d)))
    (server_at c d)) (text_at (codes "token") d)

abbrev pub get_of_data : Configuration → Named Seen → Data → Option Opening
get_of_data c names d = option_map (λ r. O.Get r.0 r.1 r.2) (block_request_of_data c names d)

abbrev pub touch_of_data : Configuration → Named Seen → Data → Option Opening
touch_of_data c names d = option_map (λ r. O.Touch r.0 r.1 r.2) (block_request_of_data c names d)

-- a text at a name that makes a digest
abbrev pub digest_at : List ℕ → Data → Option (List ℕ)
digest_at field d = option_and_then (λ text. if is_digest text then Some (bytes_of_digits text) else None) (text_at field d)

-- `open`, `at`, `do`, `token`, `server` and `digest`
abbrev pub untrash_of_data : Configuration → Data → Option Opening
untrash_of_data c d =
    option_and_then (λ token. option_and_then (λ server. option_and_then (λ hash.
    if has_members 6 d then Some (O.Untrash token server hash) else None)
    (digest_at (codes "digest") d))
    (server_at c d)) (text_at (codes "token") d)

-- the device of `open`, `at`, `do` and `device`
abbrev pub device_of_data : Configuration → Data → Option ℕ
device_of_data c d = option_and_then (λ device. if has_members 4 d then Some device else None) (device_at c d)

-- MANIFESTS
abbrev pub ended_text : Option Seen → Option (List ℕ)
ended_text (Some (row text)) = Some text
ended_text _ = None

-- an object with the one member `manifest`, a name: the text of a task that ended Row
abbrev pub text_of_reference : Named Seen → Data → Option (List ℕ)
text_of_reference names d =
    if has_members 1 d then option_and_then (λ name. ended_text (at_name name names)) (text_at (codes "manifest") d) else None

-- a part of a manifest is a text, the locator of a task, or the text of a task
abbrev pub part_of_data : Named Seen → Data → Option (List ℕ)
part_of_data names d = option_or (locator_of_data names d) (text_of_reference names d)

-- the parts joined
abbrev pub joined_parts : Named Seen → Items → Option (List ℕ)
joined_parts names no_items = Some []
joined_parts names (item d ds) = option_and_then (λ part. option_map (λ rest. part ++ rest) (joined_parts names ds)) (part_of_data names d)

-- a manifest is a text or a list of parts
abbrev pub manifest_of_data : Named Seen → Data → Option (List ℕ)
manifest_of_data names d = option_or (as_str d) (option_and_then (joined_parts names) (as_array d))

-- COLLECTIONS
-- a text that need not be given
abbrev pub text_of_data : Option Data → Option (Option (List ℕ))
text_of_data None = Some None
text_of_data (Some d) = option_map Some (as_str d)

-- a whole number that need not be given
abbrev pub number_of_data : Option Data → Option (Option ℕ)
number_of_data None = Some None
number_of_data (Some d) = option_map Some (option_and_then as_u64 (as_number d))

-- at most 10^18
abbrev pub want_at : Data → Option ℕ
want_at d = option_and_then (λ n. if nat_le n 1000000000000000000 then Some n else None) (number_at (codes "want") d)

-- `token`, `manifest`, `want`, and `portable` where it is given
abbrev pub request_of_data : Named Seen → Data → Option SaveRequest
request_of_data names d =
    option_and_then (λ token. option_and_then (λ text. option_and_then (λ want. option_map (λ portable.
    record { token = token; text = text; want = want; portable = portable })
    (text_of_data (get (codes "portable") d)))
    (want_at d))
    (option_and_then (manifest_of_data names) (get (codes "manifest") d)))
    (text_at (codes "token") d)

-- `open`, `at`, `do` and the request
abbrev pub save_of_data : Named Seen → Data → Option Opening
save_of_data names d =
    if has_members (members_if 6 (is_some (get (codes "portable") d))) d then option_map O.Save (request_of_data names d) else None

-- `open`, `at`, `do`, `collection`, `preserve` where it is given, and the request
abbrev pub update_of_data : Named Seen → Data → Option Opening
update_of_data names d =
    if has_members (members_if (members_if 7 (is_some (get (codes "portable") d))) (is_some (get (codes "preserve") d))) d
    then
    option_and_then (λ collection. option_and_then (λ preserve. option_map (O.Update collection preserve) (request_of_data names d))
    (truth_or false (codes "preserve") d)) (text_at (codes "collection") d)
    else None

-- `open`, `at`, `do`, `token`, `collection`, and `version` where it is given
abbrev pub read_of_data : Data → Option Opening
read_of_data d =
    if has_members (members_if 5 (is_some (get (codes "version") d))) d
    then
    option_and_then (λ token. option_and_then (λ collection. option_map (O.Read token collection)
    (number_of_data (get (codes "version") d))) (text_at (codes "collection") d)) (text_at (codes "token") d)
    else None

-- `open`, `at`, `do`, `token`, `collection`, `trash_at` and `delete_at`
abbrev pub trash_of_data : Data → Option Opening
trash_of_data d =
    if has_members 7 d
    then
    option_and_then (λ token. option_and_then (λ collection. option_and_then (λ trash_at. option_map (O.Trash token collection trash_at)
    (time_at (codes "delete_at") d)) (time_at (codes "trash_at") d)) (text_at (codes "collection") d)) (text_at (codes "token") d)
    else None

-- `open`, `at`, `do`, `token` and `collection`
abbrev pub restore_of_data : Data → Option Opening
restore_of_data d =
    if has_members 5 d
    then option_and_then (λ token. option_map (O.Restore token) (text_at (codes "collection") d)) (text_at (codes "token") d)
    else None

-- `open`, `at` and `do`
abbrev pub sweep_of_data : Data → Option Opening
sweep_of_data d = if has_members 3 d then Some O.Sweep else None

abbrev pub balance_of_data : Data → Option Opening
balance_of_data d = if has_members 3 d then Some O.Balance else None

-- the kinds that ask the table
abbrev pub table_opening_of_kind : Named Seen → List ℕ → Data → Option Opening
table_opening_of_kind names kind d =
    if bytes_eq kind (codes "save") then save_of_data names d
    else if bytes_eq kind (codes "update") then update_of_data names d
    else if bytes_eq kind (codes "read") then read_of_data d
    else if bytes_eq kind (codes "trash") then trash_of_data d
    else if bytes_eq kind (codes "restore") then restore_of_data d
    else if bytes_eq kind (codes "sweep") then sweep_of_data d
    else None

-- the kinds of rounds: a balance, and what is done on one device
abbrev pub round_opening_of_kind : Configuration → Named Seen → List ℕ → Data → Option Opening
round_opening_of_kind c names kind d =
    if bytes_eq kind (codes "balance") then balance_of_data d
    else if bytes_eq kind (codes "trash_worker") then option_map O.TrashWorker (device_of_data c d)
    else if bytes_eq kind (codes "pull_worker") then option_map O.PullWorker (device_of_data c d)
    else if bytes_eq kind (codes "empty_worker") then option_map O.EmptyWorker (device_of_data c d)
    else if bytes_eq kind (codes "restart") then option_map O.Restart (device_of_data c d)
    else table_opening_of_kind names kind d

abbrev pub opening_of_kind : Configuration → Named Seen → List ℕ → Data → Option Opening
opening_of_kind c names kind d =
    if bytes_eq kind (codes "put") then put_of_data c d
    else if bytes_eq kind (codes "get") then get_of_data c names d
    else if bytes_eq kind (codes "touch") then touch_of_data c names d
    else if bytes_eq kind (codes "untrash") then untrash_of_data c d
    else round_opening_of_kind c names kind d

-- LINES
-- a name that no line has opened
abbrev pub opens : Configuration → Named Seen → Data → Option Command
opens c names d =
    option_and_then (λ name. option_and_then (λ reading. option_and_then (λ kind.
    if is_none (at_name name names) then option_map (C.Open name reading) (opening_of_kind c names kind d) else None)
    (text_at (codes "do") d)) (reading_at d)) (name_at (codes "open") d)

abbrev pub is_of_open : Option Seen → Bool
is_of_open (Some is_open) = true
is_of_open _ = false

-- the name of an open task, and a reading: a member that names it, and `at`
abbrev pub open_named : List ℕ → Named Seen → Data → Option (List ℕ × ℕ)
open_named member names d =
    option_and_then (λ name. option_and_then (λ reading.
    if has_members 2 d && is_of_open (at_name name names) then Some (name, reading) else None)
    (reading_at d)) (name_at member d)

-- `step` and `at`
abbrev pub steps : Named Seen → Data → Option Command
steps names d = option_map (λ t. C.Step t.0 t.1) (open_named (codes "step") names d)

-- `finish` and `at`
abbrev pub finishes : Named Seen → Data → Option Command
finishes names d = option_map (λ t. C.Finish t.0 t.1) (open_named (codes "finish") names d)

-- by the one of `open`, `step` and `finish` that stands in the line
abbrev pub command_of_data : Configuration → Named Seen → Data → Option Command
command_of_data c names d =
    if is_some (get (codes "open") d) then opens c names d
    else if is_some (get (codes "step") d) then steps names d
    else finishes names d

-- the command of a line, or None where it is no script line after these names
unfoldable pub command_of : Configuration → Named Seen → List ℕ → Option Command
command_of c names text = option_and_then (command_of_data c names) (value_of text)
