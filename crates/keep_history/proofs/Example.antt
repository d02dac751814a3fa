-- Balance tasks and workers on a few answers: what each asks next, and how it ends.
use Rattle.std.proofs.Common.{◌≡◌, ℕ, List, [], ◌∷◌, true, false, None, Some, Ok, refl}
use Rattle.std.specs.Prelude.{codes, length}
use Rattle.serde_json.specs.Data.{Data, Members, member, no_members, number, object, string, unsigned}
use Rattle.keep_spec.specs.Config.{Configuration}
use Rattle.keep_spec.specs.declared.config.Device.{Device}
use Rattle.keep_event.specs.declared.lists.Entry.{Entry}
use Rattle.keep_event.specs.declared.lists.Lists.{Lists}
use Rattle.keep_event.specs.declared.lists.PullItem.{PullItem}
use Rattle.keep_event.specs.declared.device.DeviceQuery.TheVariants as Q
use Rattle.keep_event.specs.declared.device.DeviceAnswer.{DeviceAnswer}
use Rattle.keep_event.specs.declared.device.DeviceAnswer.TheVariants as A
use Rattle.keep_event.specs.declared.table.ScanRow.{ScanRow}
use Rattle.keep_event.specs.declared.table.TableAnswer.{TableAnswer}
use Rattle.keep_event.specs.declared.table.TableAnswer.TheVariants as TA
use Rattle.keep_event.specs.declared.table.TableQuery.TheVariants as TQ
use Rattle.keep_event.specs.declared.event.Query.TheVariants as Query
use Rattle.keep_event.specs.declared.event.Answer.TheVariants as An
use Rattle.keep_history.specs.declared.task.Command.TheVariants as C
use Rattle.keep_history.specs.declared.task.Opening.TheVariants as Open
use Rattle.keep_history.specs.declared.task.Outcome.TheVariants as O
use Rattle.keep_history.specs.declared.task.Task.TheVariants as T
use Rattle.keep_history.specs.Balance.{balances}
use Rattle.keep_history.specs.Next.{Answered, asks, ends}
use Rattle.keep_history.specs.Rounds.{prefixes}
use Rattle.keep_history.specs.Script.{command_of_data}
use Rattle.keep_history.specs.Tasks.{next, opened}
use Rattle.keep_history.specs.Workers.{trashes, trash_next, pulls, pull_next, empties, empty_next, taking}

abbrev writable : Device
writable = record { capacity = 1000; read_only = false }

-- signatures of 100 seconds, and clocks that differ by one: what is older than 102 seconds may be trashed
abbrev with_devices : List Device → ℕ → Configuration
with_devices devices index_digits = record {
  cluster = codes "zzzzz";
  ttl = 100;
  skew = 1;
  secret = codes "s";
  system_token = codes "t";
  tokens = codes "alice" ∷ [];
  devices = devices;
  servers = [];
  mounts = [];
  versions = 1;
  trash_life = 50;
  index_digits = index_digits;
  scan_limit = 1000;
}

abbrev one_device : Configuration
one_device = with_devices (writable ∷ []) 0

abbrev two_devices : Configuration
two_devices = with_devices (writable ∷ writable ∷ []) 0

-- two digests
abbrev foo : List ℕ
foo = 1 ∷ 2 ∷ []

abbrev bar : List ℕ
bar = 1 ∷ 3 ∷ []

abbrev device_answered : ℕ → DeviceAnswer → Answered
device_answered tick answer = record { tick = tick; answer = An.Device answer }

abbrev table_answered : ℕ → TableAnswer → Answered
table_answered tick answer = record { tick = tick; answer = An.Table answer }

abbrev no_lists : Lists
no_lists = record { trash = []; pull = [] }

-- ---- a balance

abbrev entry : Entry
entry = record { digest = foo; size = 3; mtime = 1000000000000 }

abbrev begun : List Answered → List Answered
begun more = table_answered 0 (TA.Round 1 1102500000000) ∷ device_answered 1 A.Cleared ∷ more

abbrev paged : List Answered → List Answered
paged more = begun (device_answered 2 (A.Page (entry ∷ [])) ∷ more)

abbrev scanned : List Answered → List Answered
scanned more = paged (table_answered 3 (TA.Rows [] true) ∷ more)

begins : balances one_device [] ≡ asks (Query.Table TQ.BeginRound)
begins = refl

clears : balances one_device (table_answered 0 (TA.Round 1 1102500000000) ∷ []) ≡ asks (Query.Device 0 (Q.Clear 1))
clears = refl

pages : balances one_device (begun []) ≡ asks (Query.Device 0 (Q.Page 1 []))
pages = refl

scans : balances one_device (paged []) ≡ asks (Query.Table (TQ.Scan 1 0 1000))
scans = refl

-- a replica that no collection names, a little older than the grace
sends : balances one_device (scanned []) ≡ asks (Query.Device 0 (Q.Accept 1 (record { trash = record { digest = foo; size = 3; mtime = 1000000000000 } ∷ []; pull = [] })))
sends = refl

accepted : balances one_device (scanned (device_answered 4 (A.Accepted 1 0) ∷ [])) ≡ ends (O.Balanced 1 1 0 0 0)
accepted = refl

-- lists that a device refused count all the same
refused : balances one_device (scanned (device_answered 4 (A.Stale 2) ∷ [])) ≡ ends (O.Balanced 1 1 0 0 1)
refused = refl

abbrev row : ℕ → List (List ℕ) → ℕ → ScanRow
row revision digests want = record { revision = revision; digests = digests; want = want }

-- the next scan goes on after the last revision; what is wanted isn't trashed, and what nobody holds is lost
scans_on : balances one_device (paged (table_answered 3 (TA.Rows (row 4 (foo ∷ []) 1 ∷ []) false) ∷ [])) ≡ asks (Query.Table (TQ.Scan 1 4 1000))
scans_on = refl

loses : balances one_device (paged (table_answered 3 (TA.Rows (row 4 (foo ∷ []) 1 ∷ []) false) ∷ table_answered 4 (TA.Rows (row 5 (bar ∷ foo ∷ []) 2 ∷ []) true) ∷ device_answered 5 (A.Accepted 0 0) ∷ [])) ≡ ends (O.Balanced 1 0 0 1 0)
loses = refl

-- a device that keeps a later round, or whose store fails
stale_clear : balances one_device (table_answered 0 (TA.Round 1 1102500000000) ∷ device_answered 1 (A.Stale 2) ∷ []) ≡ ends (O.Stale 0 2)
stale_clear = refl

stale_page : balances one_device (begun (device_answered 2 (A.Stale 2) ∷ [])) ≡ ends (O.Stale 0 2)
stale_page = refl

failed_page : balances one_device (begun (device_answered 2 A.StoreFault ∷ [])) ≡ ends O.StoreFault
failed_page = refl

-- a page whose tick isn't above its clear's; as a refusal it is one whatever its tick
late_page : balances one_device (begun (device_answered 1 (A.Page []) ∷ [])) ≡ ends (O.Disordered 1 1)
late_page = refl

late_refusal : balances one_device (begun (device_answered 0 (A.Stale 2) ∷ [])) ≡ ends (O.Stale 0 2)
late_refusal = refl

late_rows : balances one_device (paged (table_answered 0 (TA.Rows [] true) ∷ [])) ≡ ends (O.Disordered 1 0)
late_rows = refl

-- what the machine doesn't answer to the query changes nothing
asks_again : balances one_device (table_answered 0 (TA.Round 1 1102500000000) ∷ device_answered 1 A.Absent ∷ []) ≡ asks (Query.Device 0 (Q.Clear 1))
asks_again = refl

-- ---- a balance over two devices: the second has a block that the first is to have

abbrev two_paged : List Answered → List Answered
two_paged more =
    table_answered 0 (TA.Round 1 1102500000000) ∷ device_answered 1 A.Cleared ∷ device_answered 2 A.Cleared
    ∷ device_answered 3 (A.Page []) ∷ device_answered 4 (A.Page (entry ∷ [])) ∷ table_answered 5 (TA.Rows (row 1 (foo ∷ []) 1 ∷ []) true) ∷ more

abbrev item : PullItem
item = record { digest = foo; size = 3; sources = 1 ∷ [] }

clears_all : balances two_devices (table_answered 0 (TA.Round 1 1102500000000) ∷ device_answered 1 A.Cleared ∷ []) ≡ asks (Query.Device 1 (Q.Clear 1))
clears_all = refl

sends_pull : balances two_devices (two_paged []) ≡ asks (Query.Device 0 (Q.Accept 1 (record { trash = []; pull = item ∷ [] })))
sends_pull = refl

sends_none : balances two_devices (two_paged (device_answered 6 (A.Accepted 0 1) ∷ [])) ≡ asks (Query.Device 1 (Q.Accept 1 no_lists))
sends_none = refl

accepts_all : balances two_devices (two_paged (device_answered 6 (A.Accepted 0 1) ∷ device_answered 7 (A.Accepted 0 0) ∷ [])) ≡ ends (O.Balanced 1 0 1 0 0)
accepts_all = refl

-- ---- pages by prefix

sixteen : length (prefixes 1) ≡ 16
sixteen = refl

many : length (prefixes 2) ≡ 256
many = refl

pages_on : balances (with_devices (writable ∷ []) 1) (begun (device_answered 2 (A.Page []) ∷ [])) ≡ asks (Query.Device 0 (Q.Page 1 (codes "1")))
pages_on = refl

-- ---- a trash worker

trashing : trashes 3 (device_answered 0 (A.Young foo 7) ∷ device_answered 1 (A.Skipped foo 8) ∷ device_answered 2 (A.Trashed foo 9 1) ∷ []) ≡ asks (Query.Device 3 Q.TrashNext)
trashing = refl

trashed : trashes 3 (device_answered 0 (A.Young foo 7) ∷ device_answered 1 (A.Skipped foo 8) ∷ device_answered 2 (A.Trashed foo 9 1) ∷ device_answered 3 A.Idle ∷ []) ≡ ends (O.Trashed 1)
trashed = refl

-- a read-only device takes the items from its list
trash_read_only : trashes 3 (device_answered 0 A.ReadOnly ∷ []) ≡ asks (Query.Device 3 Q.TrashNext)
trash_read_only = refl

trash_fault : trashes 3 (device_answered 0 (A.Trashed foo 9 1) ∷ device_answered 1 A.StoreFault ∷ []) ≡ ends O.StoreFault
trash_fault = refl

trash_last : trash_next 3 (record { taken = 1048575; trashed = 5; ended = None }) ≡ asks (Query.Device 3 Q.TrashNext)
trash_last = refl

trash_full : trash_next 3 (record { taken = 1048576; trashed = 5; ended = None }) ≡ ends (O.Trashed 5)
trash_full = refl

-- ---- a pull worker

-- the middle one isn't a device of the configuration
abbrev from_three : PullItem
from_three = record { digest = foo; size = 3; sources = 1 ∷ 7 ∷ 0 ∷ [] }

fetches : pulls two_devices 0 (device_answered 0 (A.Pull from_three) ∷ []) ≡ asks (Query.Device 1 (Q.Fetch foo))
fetches = refl

-- the first source doesn't have it
fetches_on : pulls two_devices 0 (device_answered 0 (A.Pull from_three) ∷ device_answered 1 A.Absent ∷ []) ≡ asks (Query.Device 0 (Q.Fetch foo))
fetches_on = refl

writes : pulls two_devices 0 (device_answered 0 (A.Pull from_three) ∷ device_answered 1 A.Absent ∷ device_answered 2 (A.Block (codes "foo")) ∷ []) ≡ asks (Query.Device 0 (Q.Write (codes "foo") None))
writes = refl

pulled : pulls two_devices 0 (device_answered 0 (A.Pull from_three) ∷ device_answered 1 A.StoreFault ∷ device_answered 2 (A.Block (codes "foo")) ∷ device_answered 3 (A.Written 9) ∷ device_answered 4 A.Idle ∷ []) ≡ ends (O.Pulled 1 0)
pulled = refl

-- no source has it, no source is one of the configuration, or it isn't written
abbrev nowhere : PullItem
nowhere = record { digest = foo; size = 3; sources = 7 ∷ [] }

not_pulled : pulls two_devices 0 (device_answered 0 (A.Pull item) ∷ device_answered 1 A.StoreFault ∷ device_answered 2 (A.Pull nowhere) ∷ device_answered 3 (A.Pull item) ∷ device_answered 4 (A.Block (codes "foo")) ∷ device_answered 5 A.StoreFault ∷ device_answered 6 A.Idle ∷ []) ≡ ends (O.Pulled 0 3)
not_pulled = refl

pull_full : pull_next 0 (record { phase = taking; done = 1048575; failed = 1; ended = None }) ≡ ends (O.Pulled 1048575 1)
pull_full = refl

-- ---- an empty worker

emptying : empties 1 (device_answered 0 (A.Emptied foo 9) ∷ []) ≡ asks (Query.Device 1 Q.EmptyNext)
emptying = refl

emptied : empties 1 (device_answered 0 (A.Emptied foo 9) ∷ device_answered 1 (A.Emptied bar 9) ∷ device_answered 2 A.Idle ∷ []) ≡ ends (O.Emptied 2)
emptied = refl

empty_read_only : empties 1 (device_answered 0 A.ReadOnly ∷ []) ≡ ends O.ReadOnly
empty_read_only = refl

empty_fault : empties 1 (device_answered 0 (A.Emptied foo 9) ∷ device_answered 1 A.StoreFault ∷ []) ≡ ends O.StoreFault
empty_fault = refl

empty_full : empty_next 1 (record { removed = 1048576; ended = None }) ≡ ends (O.Emptied 1048576)
empty_full = refl

-- ---- tasks and lines

next_of_balance : next one_device T.Balance (scanned (device_answered 4 (A.Accepted 1 0) ∷ [])) ≡ ends (O.Balanced 1 1 0 0 0)
unfolding next
next_of_balance = refl

next_of_trash_worker : next two_devices (T.TrashWorker 1) [] ≡ asks (Query.Device 1 Q.TrashNext)
unfolding next
next_of_trash_worker = refl

next_of_pull_worker : next two_devices (T.PullWorker 1) [] ≡ asks (Query.Device 1 Q.PullNext)
unfolding next
next_of_pull_worker = refl

next_of_empty_worker : next two_devices (T.EmptyWorker 1) [] ≡ asks (Query.Device 1 Q.EmptyNext)
unfolding next
next_of_empty_worker = refl

opens : opened two_devices (Open.EmptyWorker 1) 9 ≡ Ok (T.EmptyWorker 1)
unfolding opened
opens = refl

-- members ascend by their names
abbrev bare : List ℕ → Members → Data
bare kind others = object (member (codes "at") (number (unsigned 9)) (put_all others (member (codes "do") (string kind) (member (codes "open") (string (codes "b")) no_members))))
  where
    put_all : Members → Members → Members
    put_all no_members rest = rest
    put_all (member name d more) rest = member name d (put_all more rest)

abbrev on : ℕ → Members
on device = member (codes "device") (number (unsigned device)) no_members

balance_line : command_of_data two_devices [] (bare (codes "balance") no_members) ≡ Some (C.Open (codes "b") 9 Open.Balance)
balance_line = refl

-- a balance names no device
no_balance_line : command_of_data two_devices [] (bare (codes "balance") (on 1)) ≡ None
no_balance_line = refl

trash_line : command_of_data two_devices [] (bare (codes "trash_worker") (on 0)) ≡ Some (C.Open (codes "b") 9 (Open.TrashWorker 0))
trash_line = refl

pull_line : command_of_data two_devices [] (bare (codes "pull_worker") (on 1)) ≡ Some (C.Open (codes "b") 9 (Open.PullWorker 1))
pull_line = refl

empty_line : command_of_data two_devices [] (bare (codes "empty_worker") (on 1)) ≡ Some (C.Open (codes "b") 9 (Open.EmptyWorker 1))
empty_line = refl

-- a worker names a device of the configuration
no_empty_line : command_of_data two_devices [] (bare (codes "empty_worker") (on 2)) ≡ None
no_empty_line = refl
