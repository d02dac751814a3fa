-- The tasks of a run ask devices of the configuration: `asks-there`.
use Rattle.std.proofs.Common.{◌≡◌, ◌<◌, ℕ, Bool, true, false, List, [], ◌∷◌, ◌++◌, length, Option, None, Some, refl, subst, cond}
use Rattle.std.specs.Prelude.{⊤, ◌+◌, nat_lt, if◌then◌else◌}
use Rattle.std.specs.List.{AllByRecursion}
use Rattle.std.proofs.lemmas.Bool.{ltb-true}
use Rattle.keep_spec.specs.Config.{Configuration}
use Rattle.keep_event.specs.declared.device.DeviceAnswer.{DeviceAnswer}
use Rattle.keep_event.specs.declared.device.DeviceAnswer.TheVariants as A
use Rattle.keep_event.specs.declared.device.DeviceQuery.{DeviceQuery}
use Rattle.keep_event.specs.declared.device.DeviceQuery.TheVariants as Q
use Rattle.keep_event.specs.declared.event.Answer.{Answer}
use Rattle.keep_event.specs.declared.event.Answer.TheVariants as An
use Rattle.keep_event.specs.declared.event.Query.{Query}
use Rattle.keep_history.specs.declared.task.Outcome.{Outcome}
use Rattle.keep_history.specs.declared.task.Task.{Task}
use Rattle.keep_history.specs.declared.task.Task.TheVariants as T
use Rattle.keep_history.specs.Balance.{Balancing, balance_after, balance_next, new_balance}
use Rattle.keep_history.specs.Next.{Answered, Next, asks, ends, ends_or, stands_after}
use Rattle.keep_history.specs.Tasks.{by_all, compare_end, fetch_end, is_task_query, next, no_end, not_fetched, not_touched, not_written, on_device, touch_end, untrashed, walk, write_end, writes}
use Rattle.keep_history.specs.Workers.{Phase, Pulling, fetch_from, fetching, fetching_answered, in_phase, items_max, new_pulling, phase_next, pull_after, pull_answered, pull_next, sources_in, taking, taking_answered, writing, writing_answered}
use Rattle.keep_history.proofs.Going.{stands-keep}
use Rattle.keep_history.proofs.Rounds.{NextHas, empty-asks, trash-asks}
use Rattle.keep_rounds.proofs.Asked.{asked-next}
use Rattle.keep_rounds.proofs.Finish.{IsThere, asked-there}

module _ (c : Configuration) where
  abbrev pub AllThere : List ℕ → Type 0
  AllThere ds = AllByRecursion (λ d. d < length c.devices) ds

  -- the devices of a task are there; a task of the table asks nothing of rounds
  abbrev pub TaskThere : Task → Type 0
  TaskThere (T.Put devices token id block) = AllThere devices
  TaskThere (T.Get devices hash) = AllThere devices
  TaskThere (T.Touch devices token id hash text) = AllThere devices
  TaskThere (T.Untrash devices hash) = AllThere devices
  TaskThere (T.Restart device) = device < length c.devices
  TaskThere (T.Table q) = is_task_query q ≡ true
  TaskThere T.Balance = ⊤
  TaskThere (T.TrashWorker device) = device < length c.devices
  TaskThere (T.PullWorker device) = device < length c.devices
  TaskThere (T.EmptyWorker device) = device < length c.devices

  abbrev There : Next → Type 0
  There nx = NextHas (IsThere c) nx

  there-or : (o : Option Outcome) (nx : Next) → There nx → There (ends_or o nx)
  there-or None nx h = h
  there-or (Some o) nx h = tt

  walk-there : (q : DeviceQuery) (end : Answer → Option Outcome) (after : List Answer → List Answered → Next) → ((seen : List Answer) (answers : List Answered) → There (after seen answers))
      → (seen : List Answer) (ds : List ℕ) (answers : List Answered) → AllThere ds → There (walk q end after seen ds answers)
  unfolding walk
  walk-there q end after k seen [] answers h = k seen answers
  walk-there q end after k seen (d ∷ ds) [] h = h.0
  walk-there q end after k seen (d ∷ ds) (a ∷ answers) h = there-or (end a.answer) _ (walk-there q end after k (seen ++ a.answer ∷ []) ds answers h.1)

  -- ---- a pull worker
  abbrev PhaseThere : Phase → Type 0
  PhaseThere (fetching hash source sources) = (source < length c.devices) × AllThere sources
  PhaseThere _ = ⊤

  from-there : (hash sources : List ℕ) (s : Pulling) → AllThere sources → PhaseThere (fetch_from hash sources s).phase
  from-there hash [] s h = tt
  from-there hash (d ∷ ds) s h = h

  sources-there : (sources : List ℕ) → AllThere (sources_in c sources)
  sources-there [] = tt
  sources-there (d ∷ ds) = by (nat_lt d (length c.devices)) refl (sources-there ds)
    where
      by : (b : Bool) → nat_lt d (length c.devices) ≡ b → AllThere (sources_in c ds) → AllThere (cond b (d ∷ sources_in c ds) (sources_in c ds))
      by true e h = (ltb-true d (length c.devices) e, h)
      by false e h = h

  taken-there : (answer : DeviceAnswer) (s : Pulling) → PhaseThere s.phase → PhaseThere (taking_answered c answer s).phase
  taken-there (A.Pull item) s h = from-there item.digest (sources_in c item.sources) s (sources-there item.sources)
  taken-there A.Idle s h = tt
  taken-there _ s h = h

  fetched-by : (long : Bool) (hash sources bytes : List ℕ) (s : Pulling) → AllThere sources → PhaseThere (if long then fetch_from hash sources s else in_phase (writing bytes) s).phase
  fetched-by true hash sources bytes s h = from-there hash sources s h
  fetched-by false hash sources bytes s h = tt

  fetched-there : (hash sources : List ℕ) (answer : DeviceAnswer) (s : Pulling) → AllThere sources → PhaseThere (fetching_answered hash sources answer s).phase
  fetched-there hash sources (A.Block bytes) s h = fetched-by (nat_lt 67108864 (length bytes)) hash sources bytes s h
  fetched-there hash sources _ s h = from-there hash sources s h

  written-there : (answer : DeviceAnswer) (s : Pulling) → PhaseThere (writing_answered answer s).phase
  written-there (A.Written mtime) s = tt
  written-there _ s = tt

  answered-there : (phase : Phase) (answer : DeviceAnswer) (s : Pulling) → PhaseThere phase → PhaseThere s.phase → PhaseThere (pull_answered c phase answer s).phase
  answered-there taking answer s p h = taken-there answer s h
  answered-there (fetching hash source sources) answer s p h = fetched-there hash sources answer s p.1
  answered-there (writing bytes) answer s p h = written-there answer s

  pull-keeps : (q : Query) (a : Answered) (s : Pulling) → PhaseThere s.phase → PhaseThere (pull_after c q a s).phase
  pull-keeps q a s h = by a.answer
    where
      by : (answer : Answer) → PhaseThere (pull_after c q (record { tick = a.tick; answer = answer }) s).phase
      by (An.Device answer) = answered-there s.phase answer s h h
      by (An.Table answer) = h

  below-there : (b : Bool) (q : Query) (outcome : Outcome) → IsThere c q → There (if b then asks q else ends outcome)
  below-there true q outcome h = h
  below-there false q outcome h = tt

  phase-there : (device : ℕ) (phase : Phase) (s : Pulling) → device < length c.devices → PhaseThere phase → There (phase_next device phase s)
  phase-there device taking s d h = below-there (nat_lt (s.done + s.failed) items_max) _ _ d
  phase-there device (fetching hash source sources) s d h = h.0
  phase-there device (writing bytes) s d h = d

  -- ---- a balance
  balance-there : (s : Balancing) (nx : Next) → balance_next c s ≡ nx → There nx
  balance-there s (ends outcome) e = tt
  balance-there s (asks q) e = asked-there c s.number s.round s.refusals q (asked-next c s.round s.refusals q s.ended s.number e)

  next-there : (t : Task) (answers : List Answered) → TaskThere t → There (next c t answers)
  unfolding next
  next-there (T.Put devices token id block) answers h =
      walk-there (Q.CompareTouch block (Some id)) (on_device (compare_end c token block)) (writes c id token block devices)
      (λ seen rest. walk-there (Q.Write block (Some id)) (on_device (write_end c token block)) (by_all not_written) (λ s r. tt) [] devices rest h) [] devices answers h
  next-there (T.Get devices hash) answers h = walk-there (Q.Fetch hash) (on_device fetch_end) (by_all not_fetched) (λ s r. tt) [] devices answers h
  next-there (T.Touch devices token id hash text) answers h = walk-there (Q.Touch hash (Some id)) (on_device (touch_end c token hash text)) (by_all not_touched) (λ s r. tt) [] devices answers h
  next-there (T.Untrash devices hash) answers h = walk-there (Q.Untrash hash) (on_device no_end) (by_all untrashed) (λ s r. tt) [] devices answers h
  next-there (T.Restart device) [] h = h
  next-there (T.Restart device) (a ∷ answers) h = tt
  next-there (T.Table q) [] h = tt
  next-there (T.Table q) (a ∷ answers) h = tt
  next-there T.Balance answers h = balance-there (stands_after (balance_next c) balance_after new_balance answers) _ refl
  next-there (T.TrashWorker device) answers h = trash-asks (IsThere c) device answers h
  next-there (T.PullWorker device) answers h =
      let s = stands_after (pull_next device) (pull_after c) new_pulling answers in
      there-or s.ended (phase_next device s.phase s) (phase-there device s.phase s h (stands-keep (λ (s : Pulling). PhaseThere s.phase) (pull_next device) (pull_after c) pull-keeps new_pulling answers tt))
  next-there (T.EmptyWorker device) answers h = empty-asks (IsThere c) device answers h

  pub asks-there : (t : Task) (answers : List Answered) (q : Query) → TaskThere t → next c t answers ≡ asks q → IsThere c q
  asks-there t answers q h e = subst There e (next-there t answers h)
