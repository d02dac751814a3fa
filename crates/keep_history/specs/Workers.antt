-- The workers of a device, which work its lists and its trash off: where each stands after its answers, what it asks next there, and how it ends. This is the project's own rule.
use Rattle.std.specs.Prelude.{ℕ, ◌+◌, nat_lt, List, [], ◌∷◌, length, filter, Option, None, Some, if◌then◌else◌}
use Rattle.keep_spec.specs.Config.{Configuration}
use Rattle.keep_event.specs.declared.device.DeviceQuery.TheVariants as Q
use Rattle.keep_event.specs.declared.device.DeviceAnswer.{DeviceAnswer}
use Rattle.keep_event.specs.declared.device.DeviceAnswer.TheVariants as A
use Rattle.keep_event.specs.declared.event.Query.{Query}
use Rattle.keep_event.specs.declared.event.Answer.{Answer}
use Rattle.keep_event.specs.declared.event.Answer.TheVariants as An
use Rattle.keep_history.specs.Next.{Answered, Next, asks, ends, ends_or, goes_on}
use Rattle.keep_history.specs.declared.task.Outcome.{Outcome}
use Rattle.keep_history.specs.declared.task.Outcome.TheVariants as O

-- a worker ends at the latest after so many items: 2^20
abbrev pub items_max : ℕ
items_max = 1048576

-- asked again below that number of items, else ended
abbrev pub below_max : ℕ → Query → Outcome → Next
below_max items query outcome = if nat_lt items items_max then asks query else ends outcome

-- What a device's answer makes of where a worker stands. What the table answers changes nothing, nor does an answer that the machine doesn't list where none is named; the same is asked again.
abbrev pub by_device : {S : Type 0} → (DeviceAnswer → S → S) → Answer → S → S
by_device after (An.Device answer) s = after answer s
by_device after (An.Table answer) s = s

-- ---- trash

-- how many items were taken from the trash list, how many of them were trashed, and the end, where an answer was one
pub record Trashing : Type 0 where
  pub taken : ℕ
  pub trashed : ℕ
  pub ended : Option Outcome

abbrev pub new_trashing : Trashing
new_trashing = record { taken = 0; trashed = 0; ended = None }

abbrev pub trashing_ends : Outcome → Trashing → Trashing
trashing_ends outcome s = record { taken = s.taken; trashed = s.trashed; ended = Some outcome }

-- an item was taken, and none or one replica trashed
abbrev pub item_taken : ℕ → Trashing → Trashing
item_taken replicas s = record { taken = s.taken + 1; trashed = s.trashed + replicas; ended = None }

abbrev pub trash_next : ℕ → Trashing → Next
trash_next device s = ends_or s.ended (below_max s.taken (Query.Device device Q.TrashNext) (O.Trashed s.trashed))

-- a read-only device takes the item from the list all the same
abbrev pub trash_answered : DeviceAnswer → Trashing → Trashing
trash_answered A.Idle s = trashing_ends (O.Trashed s.trashed) s
trash_answered A.StoreFault s = trashing_ends O.StoreFault s
trash_answered (A.Trashed digest deadline round) s = item_taken 1 s
trash_answered (A.Young digest mtime) s = item_taken 0 s
trash_answered (A.Skipped digest mtime) s = item_taken 0 s
trash_answered (A.Gone digest) s = item_taken 0 s
trash_answered A.ReadOnly s = item_taken 0 s
trash_answered _ s = s

abbrev pub trash_after : Query → Answered → Trashing → Trashing
trash_after q a s = by_device trash_answered a.answer s

-- what a trash worker asks next after these answers, or how it ends
abbrev pub trashes : ℕ → List Answered → Next
trashes device answers = goes_on (trash_next device) trash_after new_trashing answers

-- ---- pulls

-- A pull worker takes an item; or it fetches the block of a digest from a source, and has other sources left; or it writes the bytes that it fetched.
pub data Phase : Type 0 where
  taking : Phase
  fetching : List ℕ → ℕ → List ℕ → Phase
  writing : List ℕ → Phase

-- the phase, how many items were dealt with, by whether their block was written, and the end, where an answer was one
pub record Pulling : Type 0 where
  pub phase : Phase
  pub done : ℕ
  pub failed : ℕ
  pub ended : Option Outcome

abbrev pub new_pulling : Pulling
new_pulling = record { phase = taking; done = 0; failed = 0; ended = None }

abbrev pub in_phase : Phase → Pulling → Pulling
in_phase phase s = record { phase = phase; done = s.done; failed = s.failed; ended = None }

abbrev pub item_done : Pulling → Pulling
item_done s = record { phase = taking; done = s.done + 1; failed = s.failed; ended = None }

abbrev pub item_failed : Pulling → Pulling
item_failed s = record { phase = taking; done = s.done; failed = s.failed + 1; ended = None }

-- the block is fetched from the first of these sources; without one the item has failed
abbrev pub fetch_from : List ℕ → List ℕ → Pulling → Pulling
fetch_from hash [] s = item_failed s
fetch_from hash (d ∷ ds) s = in_phase (fetching hash d ds) s

-- a block of at most 67,108,864 bytes is written; another isn't taken
abbrev pub block_fetched : List ℕ → List ℕ → List ℕ → Pulling → Pulling
block_fetched hash sources bytes s = if nat_lt 67108864 (length bytes) then fetch_from hash sources s else in_phase (writing bytes) s

abbrev pub phase_next : ℕ → Phase → Pulling → Next
phase_next device taking s = below_max (s.done + s.failed) (Query.Device device Q.PullNext) (O.Pulled s.done s.failed)
phase_next device (fetching hash source sources) s = asks (Query.Device source (Q.Fetch hash))
phase_next device (writing bytes) s = asks (Query.Device device (Q.Write bytes None))

abbrev pub pull_next : ℕ → Pulling → Next
pull_next device s = ends_or s.ended (phase_next device s.phase s)

-- the sources of an item that the configuration has, as they stand in it
abbrev pub sources_in : Configuration → List ℕ → List ℕ
sources_in c sources = filter (λ d. nat_lt d (length c.devices)) sources

abbrev pub taking_answered : Configuration → DeviceAnswer → Pulling → Pulling
taking_answered c (A.Pull item) s = fetch_from item.digest (sources_in c item.sources) s
taking_answered c A.Idle s = record { phase = taking; done = s.done; failed = s.failed; ended = Some (O.Pulled s.done s.failed) }
taking_answered c _ s = s

-- whatever a source answers in place of the block, the next one is asked
abbrev pub fetching_answered : List ℕ → List ℕ → DeviceAnswer → Pulling → Pulling
fetching_answered hash sources (A.Block bytes) s = block_fetched hash sources bytes s
fetching_answered hash sources _ s = fetch_from hash sources s

-- whatever comes in place of Written, the item has failed
abbrev pub writing_answered : DeviceAnswer → Pulling → Pulling
writing_answered (A.Written mtime) s = item_done s
writing_answered _ s = item_failed s

abbrev pub pull_answered : Configuration → Phase → DeviceAnswer → Pulling → Pulling
pull_answered c taking answer s = taking_answered c answer s
pull_answered c (fetching hash source sources) answer s = fetching_answered hash sources answer s
pull_answered c (writing bytes) answer s = writing_answered answer s

abbrev pub pull_after : Configuration → Query → Answered → Pulling → Pulling
pull_after c q a s = by_device (pull_answered c s.phase) a.answer s

-- what a pull worker asks next after these answers, or how it ends
abbrev pub pulls : Configuration → ℕ → List Answered → Next
pulls c device answers = goes_on (pull_next device) (pull_after c) new_pulling answers

-- ---- trashed copies

-- how many trashed copies were removed, and the end, where an answer was one
pub record Emptying : Type 0 where
  pub removed : ℕ
  pub ended : Option Outcome

abbrev pub new_emptying : Emptying
new_emptying = record { removed = 0; ended = None }

abbrev pub emptying_ends : Outcome → Emptying → Emptying
emptying_ends outcome s = record { removed = s.removed; ended = Some outcome }

abbrev pub empty_next : ℕ → Emptying → Next
empty_next device s = ends_or s.ended (below_max s.removed (Query.Device device Q.EmptyNext) (O.Emptied s.removed))

abbrev pub empty_answered : DeviceAnswer → Emptying → Emptying
empty_answered (A.Emptied digest deadline) s = record { removed = s.removed + 1; ended = None }
empty_answered A.Idle s = emptying_ends (O.Emptied s.removed) s
empty_answered A.StoreFault s = emptying_ends O.StoreFault s
empty_answered A.ReadOnly s = emptying_ends O.ReadOnly s
empty_answered _ s = s

abbrev pub empty_after : Query → Answered → Emptying → Emptying
empty_after q a s = by_device empty_answered a.answer s

-- what an empty worker asks next after these answers, or how it ends
abbrev pub empties : ℕ → List Answered → Next
empties device answers = goes_on (empty_next device) empty_after new_emptying answers
