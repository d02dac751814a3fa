-- What balance tasks and workers ask: `balance-asks`, `trash-asks`, `empty-asks`; and `pull-asks`, by what the blocks have that a pull worker fetched.
use Rattle.std.proofs.Common.{ℕ, Bool, true, false, List, [], ◌∷◌, length, Option, None, Some}
use Rattle.std.specs.Prelude.{⊤, ◌+◌, nat_lt, if◌then◌else◌}
use Rattle.std.specs.List.{AllByRecursion}
use Rattle.keep_spec.specs.Config.{Configuration}
use Rattle.keep_event.specs.Plan.{has_ended}
use Rattle.keep_event.specs.declared.device.DeviceAnswer.{DeviceAnswer}
use Rattle.keep_event.specs.declared.device.DeviceAnswer.TheVariants as A
use Rattle.keep_event.specs.declared.device.DeviceQuery.TheVariants as Q
use Rattle.keep_event.specs.declared.event.Answer.{Answer}
use Rattle.keep_event.specs.declared.event.Answer.TheVariants as An
use Rattle.keep_event.specs.declared.event.Query.{Query}
use Rattle.keep_event.specs.declared.lists.Lists.{Lists}
use Rattle.keep_event.specs.declared.table.TableQuery.TheVariants as TQ
use Rattle.keep_history.specs.declared.task.Outcome.{Outcome}
use Rattle.keep_history.specs.Balance.{Balancing, accept_next, balance_after, balance_next, balances, clear_next, new_balance, page_next, round_next, scan_next, to_accept, to_clear, to_page}
use Rattle.keep_history.specs.Next.{Answered, Next, asks, ends, ends_or, moved, stands_after}
use Rattle.keep_history.specs.Rounds.{Round}
use Rattle.keep_history.specs.Workers.{Emptying, Phase, Pulling, Trashing, empties, empty_after, empty_next, fetch_from, fetching, fetching_answered, in_phase, items_max, new_emptying, new_pulling, new_trashing, phase_next, pull_after, pull_answered, pull_next, pulls, sources_in, taking, taking_answered, trash_after, trash_next, trashes, writing, writing_answered}

module _ (P : Query → Type 0) where
  -- what is asked has P
  abbrev pub NextHas : Next → Type 0
  NextHas (asks q) = P q
  NextHas (ends outcome) = ⊤

  has-or : (o : Option Outcome) (nx : Next) → NextHas nx → NextHas (ends_or o nx)
  has-or None nx h = h
  has-or (Some outcome) nx h = tt

  -- ---- a balance

  module _ (c : Configuration) (begins : P (Query.Table TQ.BeginRound)) (clears : (d n : ℕ) → P (Query.Device d (Q.Clear n))) (pages : (d n : ℕ) (prefix : List ℕ) → P (Query.Device d (Q.Page n prefix)))
      (scans : (n after limit : ℕ) → P (Query.Table (TQ.Scan n after limit))) (accepts : (d n : ℕ) (lists : Lists) → P (Query.Device d (Q.Accept n lists))) where
    module _ (n : ℕ) (g : Round) (refusals : List Bool) where
      accept-has : (ds : List ℕ) → NextHas (accept_next c n g refusals ds)
      accept-has [] = tt
      accept-has (d ∷ ds) = accepts d n _

      scan-has : (ended : Bool) → NextHas (scan_next c n g refusals ended)
      scan-has true = accept-has (to_accept c refusals)
      scan-has false = scans n _ c.scan_limit

      page-has : (xs : List (ℕ × List ℕ)) → NextHas (page_next c n g refusals xs)
      page-has [] = scan-has (has_ended g.scans)
      page-has (x ∷ xs) = pages x.0 n x.1

      clear-has : (ds : List ℕ) → NextHas (clear_next c n g refusals ds)
      clear-has [] = page-has (to_page c g)
      clear-has (d ∷ ds) = clears d n

    round-has : (number : Option ℕ) (g : Round) (refusals : List Bool) → NextHas (round_next c number g refusals)
    round-has None g refusals = begins
    round-has (Some n) g refusals = clear-has n g refusals (to_clear c g)

    pub balance-has : (s : Balancing) → NextHas (balance_next c s)
    balance-has s = has-or s.ended _ (round-has s.number s.round s.refusals)

    pub balance-asks : (answers : List Answered) → NextHas (balances c answers)
    balance-asks answers = balance-has (stands_after (balance_next c) balance_after new_balance answers)

  -- ---- workers

  below-has : (b : Bool) (q : Query) (outcome : Outcome) → P q → NextHas (if b then asks q else ends outcome)
  below-has true q outcome h = h
  below-has false q outcome h = tt

  module _ (device : ℕ) where
    trash-has : (s : Trashing) → P (Query.Device device Q.TrashNext) → NextHas (trash_next device s)
    trash-has s h = has-or s.ended _ (below-has (nat_lt s.taken items_max) _ _ h)

    pub trash-asks : (answers : List Answered) → P (Query.Device device Q.TrashNext) → NextHas (trashes device answers)
    trash-asks answers h = trash-has (stands_after (trash_next device) trash_after new_trashing answers) h

    empty-has : (s : Emptying) → P (Query.Device device Q.EmptyNext) → NextHas (empty_next device s)
    empty-has s h = has-or s.ended _ (below-has (nat_lt s.removed items_max) _ _ h)

    pub empty-asks : (answers : List Answered) → P (Query.Device device Q.EmptyNext) → NextHas (empties device answers)
    empty-asks answers h = empty-has (stands_after (empty_next device) empty_after new_emptying answers) h

-- ---- what was fetched is written

module _ (R : List ℕ → Type 0) where
  -- the bytes of an answer have R
  abbrev pub BlockHas : Answer → Type 0
  BlockHas (An.Device (A.Block bytes)) = R bytes
  BlockHas _ = ⊤

  abbrev PhaseHas : Phase → Type 0
  PhaseHas (writing bytes) = R bytes
  PhaseHas _ = ⊤

  module _ (c : Configuration) (s : Pulling) where
    from-has : (hash sources : List ℕ) → PhaseHas (fetch_from hash sources s).phase
    from-has hash [] = tt
    from-has hash (d ∷ ds) = tt

    fetched-by : (long : Bool) (hash sources bytes : List ℕ) → R bytes → PhaseHas (if long then fetch_from hash sources s else in_phase (writing bytes) s).phase
    fetched-by true hash sources bytes r = from-has hash sources
    fetched-by false hash sources bytes r = r

    taking-has : (answer : DeviceAnswer) → PhaseHas s.phase → PhaseHas (taking_answered c answer s).phase
    taking-has (A.Pull item) h = from-has item.digest (sources_in c item.sources)
    taking-has A.Idle h = tt
    taking-has _ h = h

    fetching-has : (hash sources : List ℕ) (answer : DeviceAnswer) → BlockHas (An.Device answer) → PhaseHas (fetching_answered hash sources answer s).phase
    fetching-has hash sources (A.Block bytes) r = fetched-by (nat_lt 67108864 (length bytes)) hash sources bytes r
    fetching-has hash sources _ r = from-has hash sources

    writing-has : (answer : DeviceAnswer) → PhaseHas (writing_answered answer s).phase
    writing-has (A.Written mtime) = tt
    writing-has _ = tt

    answered-has : (phase : Phase) (answer : DeviceAnswer) → BlockHas (An.Device answer) → PhaseHas s.phase → PhaseHas (pull_answered c phase answer s).phase
    answered-has taking answer r h = taking-has answer h
    answered-has (fetching hash source sources) answer r h = fetching-has hash sources answer r
    answered-has (writing bytes) answer r h = writing-has answer

    by-answer : (q : Query) (tick : ℕ) (answer : Answer) → BlockHas answer → PhaseHas s.phase → PhaseHas (pull_after c q (record { tick = tick; answer = answer }) s).phase
    by-answer q tick (An.Device answer) r h = answered-has s.phase answer r h
    by-answer q tick (An.Table answer) r h = h

    moved-has : (a : Answered) (nx : Next) → BlockHas a.answer → PhaseHas s.phase → PhaseHas (moved (pull_after c) a nx s).phase
    moved-has a (asks q) r h = by-answer q a.tick a.answer r h
    moved-has a (ends outcome) r h = h

  stands-has : (c : Configuration) (device : ℕ) (s : Pulling) (answers : List Answered) → AllByRecursion (λ a. BlockHas a.answer) answers → PhaseHas s.phase → PhaseHas (stands_after (pull_next device) (pull_after c) s answers).phase
  stands-has c device s [] r h = h
  stands-has c device s (a ∷ answers) r h = stands-has c device (moved (pull_after c) a (pull_next device s) s) answers r.1 (moved-has c s a (pull_next device s) r.0 h)

  module _ (P : Query → Type 0) (device : ℕ) (takes : P (Query.Device device Q.PullNext)) (fetches : (d : ℕ) (hash : List ℕ) → P (Query.Device d (Q.Fetch hash))) (writes : (bytes : List ℕ) → R bytes → P (Query.Device device (Q.Write bytes None))) where
    phase-has : (phase : Phase) (s : Pulling) → PhaseHas phase → NextHas P (phase_next device phase s)
    phase-has taking s h = below-has P (nat_lt (s.done + s.failed) items_max) _ _ takes
    phase-has (fetching hash source sources) s h = fetches source hash
    phase-has (writing bytes) s h = writes bytes h

    -- a pull worker that was answered blocks with R asks what has P
    pub pull-asks : (c : Configuration) (answers : List Answered) → AllByRecursion (λ a. BlockHas a.answer) answers → NextHas P (pulls c device answers)
    pull-asks c answers r =
        let s = stands_after (pull_next device) (pull_after c) new_pulling answers in
        has-or P s.ended (phase_next device s.phase s) (phase-has s.phase s (stands-has c device new_pulling answers r tt))
