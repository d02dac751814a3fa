-- Tasks: how an opening ends at once or what task it makes, and what a task asks next or how it ends, a function of the task and of the answers so far. The order of the tests is this project's rule.
use Rattle.std.specs.Prelude.{ℕ, ⊤, ◌<◌, ◌==◌, nat_lt, not, filter, List, [], ◌∷◌, ◌++◌, length, Bool, true, false, Option, None, Some, Result, Ok, Err, if◌then◌else◌, codes, option_map, unwrap_or, slice_get}
use Rattle.std.specs.List.{list_any}
use Rattle.std.specs.Option.{option_or}
use Rattle.std.specs.Str.{bytes_eq}
use Rattle.std.specs.Fmt.{decimal}
use Rattle.hex.specs.Hex.{encode_lower}
use Rattle.md5.specs.Md5.{md5}
use Rattle.keep_spec.specs.Sign.{verdict}
use Rattle.keep_spec.specs.Times.{expiry_at}
use Rattle.keep_spec.specs.SignedText.{permission_hint}
use Rattle.keep_spec.specs.Locator.{is_locator, locator_prefix_len, is_empty_block, digest, stripped}
use Rattle.keep_spec.specs.Config.{Configuration, token_of, devices_of}
use Rattle.keep_spec.specs.declared.config.Device.{Device}
use Rattle.keep_spec.specs.declared.token.TokenId.{TokenId}
use Rattle.keep_spec.specs.declared.unverified.Verified.{Verified}
use Rattle.keep_spec.specs.declared.unverified.Unverified.{Unverified}
use Rattle.keep_spec.specs.declared.unverified.Unverified.TheVariants as U
use Rattle.keep_event.specs.Collections.{collection_number, collection_uuid, signed_row}
use Rattle.keep_event.specs.declared.table.TableQuery.{TableQuery}
use Rattle.keep_event.specs.declared.table.TableQuery.TheVariants as TQ
use Rattle.keep_event.specs.declared.table.TableAnswer.{TableAnswer}
use Rattle.keep_event.specs.declared.table.TableAnswer.TheVariants as TA
use Rattle.keep_event.specs.declared.device.DeviceQuery.{DeviceQuery}
use Rattle.keep_event.specs.declared.device.DeviceQuery.TheVariants as Q
use Rattle.keep_event.specs.declared.device.DeviceAnswer.{DeviceAnswer}
use Rattle.keep_event.specs.declared.device.DeviceAnswer.TheVariants as A
use Rattle.keep_event.specs.declared.event.Query.{Query}
use Rattle.keep_event.specs.declared.event.Answer.{Answer}
use Rattle.keep_event.specs.declared.event.Answer.TheVariants as An
use Rattle.keep_history.specs.Balance.{balances}
use Rattle.keep_history.specs.Workers.{trashes, pulls, empties}
use Rattle.keep_history.specs.Next.{Answered, Next, asks, ends, ends_or}
use Rattle.keep_history.specs.declared.task.Opening.{Opening}
use Rattle.keep_history.specs.declared.task.Opening.TheVariants as Open
use Rattle.keep_history.specs.declared.task.Task.{Task}
use Rattle.keep_history.specs.declared.task.Task.TheVariants as T
use Rattle.keep_history.specs.declared.task.Outcome.{Outcome}
use Rattle.keep_history.specs.declared.task.Outcome.TheVariants as O

-- DEVICES
abbrev pub is_read_only : Configuration → ℕ → Bool
is_read_only c device = unwrap_or (option_map (λ (d : Device). d.read_only) (slice_get c.devices device)) false

-- the devices of a server that take changes, each once, in the order of its mounts
abbrev pub writable : Configuration → ℕ → List ℕ
writable c server = filter (λ d. not (is_read_only c d)) (devices_of c server)

-- SIGNED LOCATORS
-- the second of a time in nanoseconds, and the lifetime of signatures later; what passes 32 bits counts as their last number
abbrev pub expiry_of : Configuration → ℕ → ℕ
expiry_of c mtime = expiry_at c.ttl mtime

-- the locator of a block whose replica has a time
unfoldable pub signed_locator : Configuration → List ℕ → List ℕ → ℕ → List ℕ
signed_locator c token bytes mtime =
    encode_lower (md5 bytes) ++ 43 ∷ decimal (length bytes) ++ permission_hint (md5 bytes) token (expiry_of c mtime) c.ttl c.secret

abbrev pub empty_locator : List ℕ
empty_locator = codes "d41d8cd98f00b204e9800998ecf8427e+0"

-- AT OPENING
-- the server or the device that an opening names is one of the configuration
abbrev pub NamesWithin : Configuration → Opening → Type 0
NamesWithin c (Open.Put token server bytes hash) = server < length c.servers
NamesWithin c (Open.Get token server locator) = server < length c.servers
NamesWithin c (Open.Touch token server locator) = server < length c.servers
NamesWithin c (Open.Untrash token server hash) = server < length c.servers
NamesWithin c (Open.Restart device) = device < length c.devices
NamesWithin c (Open.TrashWorker device) = device < length c.devices
NamesWithin c (Open.PullWorker device) = device < length c.devices
NamesWithin c (Open.EmptyWorker device) = device < length c.devices
NamesWithin c other = ⊤

abbrev pub has_other_digest : List ℕ → Option (List ℕ) → Bool
has_other_digest bytes None = false
has_other_digest bytes (Some hash) = not (bytes_eq (md5 bytes) hash)

-- too long, another digest than the one given, no bytes, no writable device
abbrev pub put_opened : Configuration → ℕ → TokenId → List ℕ → List ℕ → Option (List ℕ) → Result Task Outcome
put_opened c server id token bytes hash =
    if nat_lt 67108864 (length bytes) then Err O.TooLong
    else if has_other_digest bytes hash then Err (O.HashMismatch (md5 bytes))
    else if length bytes == 0 then Err (O.Stored empty_locator)
    else if length (writable c server) == 0 then Err O.NoRoom
    else Ok (T.Put (writable c server) token id bytes)

-- the digest that a verdict lets a token ask for
abbrev pub by_verdict : Result Verified Unverified → Result (List ℕ) Outcome
by_verdict (Ok triple) = Ok triple.digest
by_verdict (Err U.Missing) = Err O.Forbidden
by_verdict (Err (U.Expired expiry)) = Err (O.Expired expiry)
by_verdict (Err U.Invalid) = Err O.Forbidden

-- the signature; the system token needs none
abbrev pub permitted_block : Configuration → TokenId → List ℕ → List ℕ → ℕ → Result (List ℕ) Outcome
permitted_block c id token locator reading =
    if id.number == 0 then Ok (digest locator) else by_verdict (verdict locator token c.ttl c.secret reading)

-- the digest that a locator lets a token ask for, or the end: no locator, the empty block with an end of its own, the signature
abbrev pub permitted : Configuration → TokenId → List ℕ → List ℕ → ℕ → Outcome → Result (List ℕ) Outcome
permitted c id token locator reading empty =
    if is_locator locator
    then
    if is_empty_block locator then Err empty else permitted_block c id token locator reading
    else Err (O.BadLocator (locator_prefix_len locator))

-- a task for a digest, where one may be asked for
abbrev pub with_digest : Result (List ℕ) Outcome → (List ℕ → Result Task Outcome) → Result Task Outcome
with_digest (Err outcome) make = Err outcome
with_digest (Ok hash) make = make hash

-- a task on these devices, where there are any
abbrev pub on_any : List ℕ → Task → Result Task Outcome
on_any devices task = if length devices == 0 then Err O.NotFound else Ok task

-- a device of the server is wanted last
abbrev pub get_opened : Configuration → ℕ → TokenId → List ℕ → List ℕ → ℕ → Result Task Outcome
get_opened c server id token locator reading =
    with_digest (permitted c id token locator reading (O.Bytes [])) (λ hash. on_any (devices_of c server) (T.Get (devices_of c server) hash))

-- as a get; the empty block is touched as it is, and a writable device is wanted last
abbrev pub touch_opened : Configuration → ℕ → TokenId → List ℕ → List ℕ → ℕ → Result Task Outcome
touch_opened c server id token locator reading =
    with_digest (permitted c id token locator reading (O.Touched (stripped locator)))
    (λ hash. on_any (writable c server) (T.Touch (writable c server) token id hash (stripped locator)))

-- the system token alone may bring trashed copies back
abbrev pub untrash_opened : Configuration → ℕ → TokenId → List ℕ → Result Task Outcome
untrash_opened c server id hash = if id.number == 0 then on_any (writable c server) (T.Untrash (writable c server) hash) else Err O.Forbidden

-- an unknown token comes before all else
abbrev pub with_token : Option TokenId → (TokenId → Result Task Outcome) → Result Task Outcome
with_token None make = Err O.UnknownToken
with_token (Some id) make = make id

-- COLLECTIONS
-- whether a task asks the table so: rounds ask the other queries
abbrev pub is_task_query : TableQuery → Bool
is_task_query TQ.BeginRound = false
is_task_query (TQ.Scan round after limit) = false
is_task_query query = true

abbrev pub asks_table : TableQuery → Result Task Outcome
asks_table q = Ok (T.Table q)

-- the task that an opening makes at a reading, or how it ends at once
unfoldable pub opened : Configuration → Opening → ℕ → Result Task Outcome
opened c (Open.Put token server bytes hash) reading = with_token (token_of c token) (λ id. put_opened c server id token bytes hash)
opened c (Open.Get token server locator) reading = with_token (token_of c token) (λ id. get_opened c server id token locator reading)
opened c (Open.Touch token server locator) reading = with_token (token_of c token) (λ id. touch_opened c server id token locator reading)
opened c (Open.Untrash token server hash) reading = with_token (token_of c token) (λ id. untrash_opened c server id hash)
opened c (Open.Restart device) reading = Ok (T.Restart device)
opened c (Open.Save request) reading = asks_table (TQ.Save request)
opened c (Open.Update collection preserve request) reading = asks_table (TQ.Update (collection_number c collection) preserve request)
opened c (Open.Read token collection version) reading = asks_table (TQ.Read token (collection_number c collection) version)
opened c (Open.Trash token collection trash_at delete_at) reading = asks_table (TQ.SetTrash token (collection_number c collection) trash_at delete_at)
opened c (Open.Restore token collection) reading = asks_table (TQ.Restore token (collection_number c collection))
opened c Open.Sweep reading = asks_table TQ.Sweep
opened c Open.Balance reading = Ok T.Balance
opened c (Open.TrashWorker device) reading = Ok (T.TrashWorker device)
opened c (Open.PullWorker device) reading = Ok (T.PullWorker device)
opened c (Open.EmptyWorker device) reading = Ok (T.EmptyWorker device)

-- QUERIES AND ENDS
-- A walk over devices: each in turn is asked the query, until an answer ends the task. After the last, all that they answered says how the task goes on with the answers that are left.
unfoldable pub walk : DeviceQuery → (Answer → Option Outcome) → (List Answer → List Answered → Next) → List Answer → List ℕ → List Answered → Next
walk query end after seen [] answers = after seen answers
walk query end after seen (d ∷ ds) [] = asks (Query.Device d query)
walk query end after seen (d ∷ ds) (a ∷ answers) = ends_or (end a.answer) (walk query end after (seen ++ a.answer ∷ []) ds answers)

-- the walk's end: by all that was answered in it
abbrev pub by_all : (List Answer → Outcome) → List Answer → List Answered → Next
by_all end seen answers = ends (end seen)

-- how a device's answer ends a task, if it does
abbrev pub on_device : (DeviceAnswer → Option Outcome) → Answer → Option Outcome
on_device end (An.Device answer) = end answer
on_device end (An.Table answer) = None

-- WHAT DEVICES ANSWERED
abbrev pub is_fault : Answer → Bool
is_fault (An.Device A.StoreFault) = true
is_fault _ = false

-- the other MD5 that a device found under a digest
abbrev pub found_in : Answer → Option (List ℕ)
found_in (An.Device (A.Corrupt found)) = Some found
found_in _ = None

abbrev pub is_back : Answer → Bool
is_back (An.Device (A.Back mtime)) = true
is_back _ = false

abbrev pub is_present : Answer → Bool
is_present (An.Device (A.Present mtime)) = true
is_present _ = false

-- whether a store failed
abbrev pub any_fault : List Answer → Bool
any_fault answers = list_any is_fault answers

-- the first other MD5 that was found
abbrev pub first_found : List Answer → Option (List ℕ)
first_found [] = None
first_found (a ∷ answers) = option_or (found_in a) (first_found answers)

-- how many trashed copies came back
abbrev pub copies_back : List Answer → ℕ
copies_back answers = length (filter is_back answers)

-- whether a device has a replica
abbrev pub any_present : List Answer → Bool
any_present answers = list_any is_present answers

-- PUTS
abbrev pub stored : Configuration → List ℕ → List ℕ → ℕ → Option Outcome
stored c token bytes mtime = Some (O.Stored (signed_locator c token bytes mtime))

-- how an answer to a comparison ends a put, if it does
abbrev pub compare_end : Configuration → List ℕ → List ℕ → DeviceAnswer → Option Outcome
compare_end c token bytes (A.Touched mtime) = stored c token bytes mtime
compare_end c token bytes A.Collision = Some O.Collision
compare_end c token bytes _ = None

-- how an answer to a write ends a put, if it does
abbrev pub write_end : Configuration → List ℕ → List ℕ → DeviceAnswer → Option Outcome
write_end c token bytes (A.Written mtime) = stored c token bytes mtime
write_end c token bytes A.Collision = Some O.Collision
write_end c token bytes _ = None

-- where no device took the block
abbrev pub not_written : List Answer → Outcome
not_written written = if any_fault written then O.StoreFault else O.NoRoom

-- a write on each device
abbrev pub writes : Configuration → TokenId → List ℕ → List ℕ → List ℕ → List Answer → List Answered → Next
writes c id token bytes devices compared answers =
    walk (Q.Write bytes (Some id)) (on_device (write_end c token bytes)) (by_all not_written) [] devices answers

-- a comparison on each device, then the writes
abbrev pub put_next : Configuration → TokenId → List ℕ → List ℕ → List ℕ → List Answered → Next
put_next c id token bytes devices answers =
    walk (Q.CompareTouch bytes (Some id)) (on_device (compare_end c token bytes)) (writes c id token bytes devices) [] devices answers

-- GETS, TOUCHES, UNTRASHES
abbrev pub fetch_end : DeviceAnswer → Option Outcome
fetch_end (A.Block bytes) = Some (O.Bytes bytes)
fetch_end _ = None

-- where no device has the block: the first other MD5 that was found, else a fault, if one came
abbrev pub not_fetched : List Answer → Outcome
not_fetched fetched = unwrap_or (option_map O.Corrupt (first_found fetched)) (if any_fault fetched then O.StoreFault else O.NotFound)

-- the locator of a touch: the stripped text of the one given, and a permission by the replica's time
unfoldable pub touched_locator : Configuration → List ℕ → List ℕ → List ℕ → ℕ → List ℕ
touched_locator c token hash text mtime = text ++ permission_hint hash token (expiry_of c mtime) c.ttl c.secret

abbrev pub touch_end : Configuration → List ℕ → List ℕ → List ℕ → DeviceAnswer → Option Outcome
touch_end c token hash text (A.Touched mtime) = Some (O.Touched (touched_locator c token hash text mtime))
touch_end c token hash text _ = None

-- where no device has the block
abbrev pub not_touched : List Answer → Outcome
not_touched touched = if any_fault touched then O.StoreFault else O.NotFound

-- no answer ends an untrash before every device was asked
abbrev pub no_end : DeviceAnswer → Option Outcome
no_end answer = None

-- copies that came back, else a fault, if one came, else a replica, if a device has one
abbrev pub untrashed : List Answer → Outcome
untrashed answers =
    if nat_lt 0 (copies_back answers) then O.Untrashed (copies_back answers)
    else if any_fault answers then O.StoreFault
    else if any_present answers then O.Untrashed 0
    else O.NotFound

-- THE TABLE
-- the token of a query of the table that has one
abbrev pub token_of_query : TableQuery → List ℕ
token_of_query (TQ.Read token collection version) = token
token_of_query _ = []

-- what the table refused; no other answer is listed for the query of a task beside those that the ends before it name
abbrev pub refused : TableAnswer → Outcome
refused TA.UnknownToken = O.UnknownToken
refused TA.NoSuch = O.NoSuch
refused TA.NotOwner = O.NotOwner
refused (TA.InTrash at) = O.InTrash at
refused (TA.BadManifest at kind) = O.BadManifest at kind
refused (TA.Unsigned index why) = O.Unsigned index why
refused (TA.WrongHash computed) = O.WrongHash computed
refused TA.BadWant = O.BadWant
refused (TA.TooManyVersions held) = O.TooManyVersions held
refused answer = O.NotFound

-- what was set, brought back or swept goes into the end as it was answered
abbrev pub end_as_answered : TableAnswer → Outcome
end_as_answered (TA.TrashSet trash_at delete_at) = O.TrashSet trash_at delete_at
end_as_answered TA.Restored = O.Restored
end_as_answered (TA.Swept versions collections) = O.Swept versions collections
end_as_answered answer = refused answer

-- how the table's answer ends a task
unfoldable pub table_end : Configuration → TableQuery → TableAnswer → Outcome
table_end c q (TA.Saved n version portable) = O.Saved (collection_uuid c n) version portable
table_end c q (TA.Updated n version portable) = O.Updated (collection_uuid c n) version portable
table_end c q (TA.Row n version expiry want trash_at text) = O.Row version want trash_at (signed_row c (token_of_query q) expiry text)
table_end c q answer = end_as_answered answer

-- ONE QUERY
-- one query, and the end that its answer makes
abbrev pub one : Query → (Answer → Outcome) → List Answered → Next
one query end [] = asks query
one query end (a ∷ answers) = ends (end a.answer)

abbrev pub restarted : Answer → Outcome
restarted answer = O.Restarted

-- a device's answer says nothing of what the table was asked
abbrev pub table_end_of : Configuration → TableQuery → Answer → Outcome
table_end_of c q (An.Table answer) = table_end c q answer
table_end_of c q (An.Device answer) = O.NotFound

-- THE NEXT QUERY
-- the next query of a task after these answers, or its end
unfoldable pub next : Configuration → Task → List Answered → Next
next c (T.Put devices token id block) answers = put_next c id token block devices answers
next c (T.Get devices hash) answers = walk (Q.Fetch hash) (on_device fetch_end) (by_all not_fetched) [] devices answers
next c (T.Touch devices token id hash text) answers = walk (Q.Touch hash (Some id)) (on_device (touch_end c token hash text)) (by_all not_touched) [] devices answers
next c (T.Untrash devices hash) answers = walk (Q.Untrash hash) (on_device no_end) (by_all untrashed) [] devices answers
next c (T.Restart device) answers = one (Query.Device device Q.Restart) restarted answers
next c (T.Table q) answers = one (Query.Table q) (table_end_of c q) answers
next c T.Balance answers = balances c answers
next c (T.TrashWorker device) answers = trashes device answers
next c (T.PullWorker device) answers = pulls c device answers
next c (T.EmptyWorker device) answers = empties device answers
