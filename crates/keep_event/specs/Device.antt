-- The device machine: a reply to each query, over plain lists. `reading` is the clock's, in nanoseconds since 1970. This is the project's own rule.
-- A reply is the answer and the state afterwards; cases are tried in order, and what isn't said to change stays.
use Rattle.std.specs.Prelude.{ℕ, ◌+◌, ◌-◌, max, ◌==◌, nat_lt, List, [], ◌∷◌, map, filter, length, sum_by, Bool, true, false, ◌&&◌, if◌then◌else◌, Option, None, Some, is_some, is_none, unwrap_or, take}
use Rattle.std.specs.Str.{bytes_eq}
use Rattle.std.specs.List.{find, last_or}
use Rattle.hex.specs.Hex.{encode_lower}
use Rattle.md5.specs.Md5.{md5}
use Rattle.keep_spec.specs.Times.{grace, nanos}
use Rattle.keep_event.specs.Store as store
use Rattle.keep_event.specs.declared.names.Name.{Name}
use Rattle.keep_event.specs.declared.names.Stored.{Stored}
use Rattle.keep_event.specs.declared.lists.Entry.{Entry}
use Rattle.keep_event.specs.declared.lists.TrashItem.{TrashItem}
use Rattle.keep_event.specs.declared.lists.PullItem.{PullItem}
use Rattle.keep_event.specs.declared.lists.Lists.{Lists}
use Rattle.keep_event.specs.declared.device.DeviceRules.{DeviceRules}
use Rattle.keep_event.specs.declared.device.DeviceAnswer.{DeviceAnswer}
use Rattle.keep_event.specs.declared.device.DeviceQuery.{DeviceQuery}
use Rattle.keep_event.specs.declared.device.DeviceQuery.TheVariants as queries
use Rattle.keep_event.specs.declared.device.DeviceAnswer.TheVariants.{ReadOnly, Absent, Touched, Written, Collision, Corrupt, Full, Block, Stale, Cleared, Accepted, Page, Idle, Gone, Skipped, Young, Trashed, Pull, Present, NoTrash, Back, Emptied, Restarted}

-- replicas and trashed copies in one ascending list, the round, and the two lists
pub record State : Type 0 where
  pub held : List (Name × Stored)
  pub round : ℕ
  pub trash : List TrashItem
  pub pull : List PullItem

-- before anything was asked
abbrev pub initial : State
initial = record { held = []; round = 0; trash = []; pull = [] }

pub record Reply : Type 0 where
  pub answer : DeviceAnswer
  pub state : State

abbrev pub stays : DeviceAnswer → State → Reply
stays answer s = record { answer = answer; state = s }

abbrev pub with_held : List (Name × Stored) → State → State
with_held es s = record { held = es; round = s.round; trash = s.trash; pull = s.pull }

abbrev pub with_trash : List TrashItem → State → State
with_trash items s = record { held = s.held; round = s.round; trash = items; pull = s.pull }

abbrev pub replica : List ℕ → Name
replica digest = record { digest = digest; deadline = None }

abbrev pub copy : List ℕ → ℕ → Name
copy digest deadline = record { digest = digest; deadline = Some deadline }

abbrev pub replica_of : List ℕ → State → Option Stored
replica_of digest s = store.find (replica digest) s.held

abbrev pub used : List (Name × Stored) → ℕ
used es = sum_by (λ e. length e.1.bytes) es

-- on a read-only device the answer is ReadOnly and nothing changes
abbrev pub writable : DeviceRules → State → Reply → Reply
writable rules s reply = if rules.read_only then stays ReadOnly s else reply

-- the replica's time becomes the greater of its own and the reading
abbrev pub renewed : List ℕ → ℕ → Stored → (ℕ → DeviceAnswer) → State → Reply
renewed digest reading r answer s = record {
  answer = answer (max r.mtime reading);
  state = with_held (store.put (replica digest) (store.with_time (max r.mtime reading) r) s.held) s;
}

-- the answer at a replica that holds other bytes than the block
abbrev pub other_answer : List ℕ → List ℕ → DeviceAnswer
other_answer bytes held = if bytes_eq (md5 held) (md5 bytes) then Collision else Corrupt (md5 held)

-- COMPARE AND TOUCH
abbrev pub compared : List ℕ → ℕ → State → Option Stored → Reply
compared bytes reading s None = stays Absent s
compared bytes reading s (Some r) =
    if bytes_eq r.bytes bytes then renewed (md5 bytes) reading r Touched s else stays (other_answer bytes r.bytes) s

unfoldable pub compare_touch : DeviceRules → List ℕ → ℕ → State → Reply
compare_touch rules bytes reading s = writable rules s (compared bytes reading s (replica_of (md5 bytes) s))

-- WRITE
-- the bytes that a replica takes
abbrev pub taken_by : Option Stored → ℕ
taken_by None = 0
taken_by (Some r) = length r.bytes

abbrev pub placed : DeviceRules → List ℕ → ℕ → State → Reply
placed rules bytes mtime s =
    if nat_lt rules.capacity (used s.held - taken_by (replica_of (md5 bytes) s) + length bytes) then stays (Full (used s.held) rules.capacity) s
    else record { answer = Written mtime; state = with_held (store.put (replica (md5 bytes)) (store.stored mtime bytes) s.held) s }

abbrev pub written : DeviceRules → List ℕ → ℕ → State → Option Stored → Reply
written rules bytes reading s None = placed rules bytes reading s
written rules bytes reading s (Some r) =
    if bytes_eq r.bytes bytes then renewed (md5 bytes) reading r Written s
    else if bytes_eq (md5 r.bytes) (md5 bytes) then stays Collision s
    else placed rules bytes (max r.mtime reading) s

unfoldable pub write : DeviceRules → List ℕ → ℕ → State → Reply
write rules bytes reading s = writable rules s (written rules bytes reading s (replica_of (md5 bytes) s))

-- FETCH
abbrev pub fetched : List ℕ → State → Option Stored → Reply
fetched digest s None = stays Absent s
fetched digest s (Some r) = if bytes_eq (md5 r.bytes) digest then stays (Block r.bytes) s else stays (Corrupt (md5 r.bytes)) s

unfoldable pub fetch : List ℕ → State → Reply
fetch digest s = fetched digest s (replica_of digest s)

-- TOUCH
abbrev pub touched : List ℕ → ℕ → State → Option Stored → Reply
touched digest reading s None = stays Absent s
touched digest reading s (Some r) = renewed digest reading r Touched s

unfoldable pub touch : DeviceRules → List ℕ → ℕ → State → Reply
touch rules digest reading s = writable rules s (touched digest reading s (replica_of digest s))

-- CLEAR, ACCEPT, PAGE
unfoldable pub clear : ℕ → State → Reply
clear round s =
    if nat_lt round s.round then stays (Stale s.round) s
    else record { answer = Cleared; state = record { held = s.held; round = round; trash = []; pull = [] } }

unfoldable pub accept : ℕ → Lists → State → Reply
accept round lists s =
    if round == s.round
    then record { answer = Accepted (length lists.trash) (length lists.pull); state = record { held = s.held; round = s.round; trash = lists.trash; pull = lists.pull } }
    else stays (Stale s.round) s

-- a page has the replicas whose hexadecimal digits begin with the prefix
abbrev pub entry_of : Name × Stored → Entry
entry_of e = record { digest = e.0.digest; mtime = e.1.mtime; size = length e.1.bytes }

abbrev pub begins : List ℕ → List ℕ → Bool
begins prefix digest = bytes_eq (take (length prefix) (encode_lower digest)) prefix

abbrev pub is_paged : List ℕ → Name → Bool
is_paged prefix n = begins prefix n.digest && is_none n.deadline

unfoldable pub page : List ℕ → ℕ → State → Reply
page prefix round s =
    if round == s.round then stays (Page (map entry_of (filter (λ e. is_paged prefix e.0) s.held))) s
    else stays (Stale s.round) s

-- TRASH
abbrev pub trashed : DeviceRules → TrashItem → ℕ → State → Option Stored → Reply
trashed rules item reading s None = stays (Gone item.digest) s
trashed rules item reading s (Some r) =
    if r.mtime == item.mtime
    then
    if nat_lt (r.mtime + grace rules.ttl rules.skew) reading
    then record {
      answer = Trashed item.digest (reading + nanos rules.trash_life) s.round;
      state = with_held (store.rename (replica item.digest) (copy item.digest (reading + nanos rules.trash_life)) r.mtime s.held (replica_of item.digest s)) s;
    }
    else stays (Young item.digest r.mtime) s
    else stays (Skipped item.digest r.mtime) s

unfoldable pub trash_item : DeviceRules → TrashItem → ℕ → State → Reply
trash_item rules item reading s = writable rules s (trashed rules item reading s (replica_of item.digest s))

-- the item is taken from the list
abbrev pub taken : List TrashItem → Reply → Reply
taken rest reply = record { answer = reply.answer; state = with_trash rest reply.state }

abbrev pub trash_first : DeviceRules → ℕ → State → List TrashItem → Reply
trash_first rules reading s [] = stays Idle s
trash_first rules reading s (item ∷ rest) = taken rest (trash_item rules item reading s)

unfoldable pub trash_next : DeviceRules → ℕ → State → Reply
trash_next rules reading s = trash_first rules reading s s.trash

-- PULL
abbrev pub pull_first : State → List PullItem → Reply
pull_first s [] = stays Idle s
pull_first s (item ∷ rest) = record { answer = Pull item; state = record { held = s.held; round = s.round; trash = s.trash; pull = rest } }

unfoldable pub pull_next : State → Reply
pull_next s = pull_first s s.pull

-- UNTRASH
abbrev pub is_copy_of : List ℕ → Name → Bool
is_copy_of digest n = bytes_eq n.digest digest && is_some n.deadline

-- the copy with the greatest deadline, which is the last in the order of names
abbrev pub last_copy : List ℕ → List (Name × Stored) → Option (Name × Stored)
last_copy digest es = last_or None (filter (λ e. is_copy_of digest e.0) es)

-- the copy gets the replica's name
abbrev pub back : List ℕ → ℕ → State → Option (Name × Stored) → Reply
back digest reading s None = stays NoTrash s
back digest reading s (Some e) = record {
  answer = Back (max e.1.mtime reading);
  state = with_held (store.rename e.0 (replica digest) (max e.1.mtime reading) s.held (store.find e.0 s.held)) s;
}

abbrev pub brought_back : List ℕ → ℕ → State → Option Stored → Reply
brought_back digest reading s None = back digest reading s (last_copy digest s.held)
brought_back digest reading s (Some r) = stays (Present r.mtime) s

unfoldable pub untrash : DeviceRules → List ℕ → ℕ → State → Reply
untrash rules digest reading s = writable rules s (brought_back digest reading s (replica_of digest s))

-- EMPTY
abbrev pub is_due_at : ℕ → Option ℕ → Bool
is_due_at reading None = false
is_due_at reading (Some deadline) = nat_lt deadline reading

abbrev pub is_due : ℕ → Name × Stored → Bool
is_due reading e = is_due_at reading e.0.deadline

abbrev pub emptied : State → Option (Name × Stored) → Reply
emptied s None = stays Idle s
emptied s (Some e) = record { answer = Emptied e.0.digest (unwrap_or e.0.deadline 0); state = with_held (store.without e.0 s.held) s }

unfoldable pub empty_next : DeviceRules → ℕ → State → Reply
empty_next rules reading s = writable rules s (emptied s (find (is_due reading) s.held))

-- RESTART
unfoldable pub restart : State → Reply
restart s = record { answer = Restarted; state = record { held = s.held; round = s.round; trash = []; pull = [] } }

-- ---- the line of a query; a token has no part in it
abbrev pub step : DeviceRules → ℕ → DeviceQuery → State → Reply
step rules reading (queries.CompareTouch block token) s = compare_touch rules block reading s
step rules reading (queries.Write block token) s = write rules block reading s
step rules reading (queries.Fetch digest) s = fetch digest s
step rules reading (queries.Touch digest token) s = touch rules digest reading s
step rules reading (queries.Clear round) s = clear round s
step rules reading (queries.Accept round lists) s = accept round lists s
step rules reading (queries.Page round prefix) s = page prefix round s
step rules reading queries.TrashNext s = trash_next rules reading s
step rules reading queries.PullNext s = pull_next s
step rules reading (queries.Untrash digest) s = untrash rules digest reading s
step rules reading queries.EmptyNext s = empty_next rules reading s
step rules reading queries.Restart s = restart s

-- whether a query may be answered StoreFault
abbrev pub may_fault : DeviceQuery → Bool
may_fault (queries.CompareTouch block token) = true
may_fault (queries.Write block token) = true
may_fault (queries.Fetch digest) = true
may_fault (queries.Touch digest token) = true
may_fault (queries.Clear round) = true
may_fault (queries.Accept round lists) = false
may_fault (queries.Page round prefix) = true
may_fault queries.TrashNext = true
may_fault queries.PullNext = false
may_fault (queries.Untrash digest) = true
may_fault queries.EmptyNext = true
may_fault queries.Restart = false
