-- The balance task: where it stands after its answers, what it asks next there, and how it ends. This is the project's own rule, after Arvados' keep-balance.
-- Each phase has a list of all that it asks, and asks the first that is still missing: the round's number; a clear of each device; a page of each device and each prefix; scans up to the last; and that each device takes its lists.
use Rattle.std.specs.Prelude.{ℕ, max, nat_lt, List, [], ◌∷◌, length, map, flat_map, drop, count_by, sum_by, Bool, true, false, Option, None, Some, if◌then◌else◌}
use Rattle.keep_spec.specs.Config.{Configuration}
use Rattle.keep_spec.specs.Members.{numbers_from}
use Rattle.keep_spec.specs.Times.{threshold}
use Rattle.keep_event.specs.Plan.{Gathered, planned, planned_lists, lost, reached, has_ended}
use Rattle.keep_event.specs.declared.device.DeviceQuery.TheVariants as DQ
use Rattle.keep_event.specs.declared.device.DeviceAnswer.{DeviceAnswer}
use Rattle.keep_event.specs.declared.device.DeviceAnswer.TheVariants as D
use Rattle.keep_event.specs.declared.table.TableQuery.TheVariants as TQ
use Rattle.keep_event.specs.declared.table.TableAnswer.TheVariants as T
use Rattle.keep_event.specs.declared.event.Query.{Query}
use Rattle.keep_event.specs.declared.event.Query.TheVariants as Q
use Rattle.keep_event.specs.declared.event.Answer.{Answer}
use Rattle.keep_event.specs.declared.event.Answer.TheVariants as A
use Rattle.keep_history.specs.Next.{Answered, Next, asks, ends, ends_or, goes_on}
use Rattle.keep_history.specs.Rounds.{Round, no_round, gave, gathered, prefixes}
use Rattle.keep_history.specs.declared.task.Outcome.{Outcome}
use Rattle.keep_history.specs.declared.task.Outcome.TheVariants as O

-- where a balance task stands: its round's number, once it has one; what the round was given; the greatest tick of its clears, 0 before the first; for each device that has answered its lists, the latest first, whether it refused them; and the end, where an answer was one
pub record Balancing : Type 0 where
  pub number : Option ℕ
  pub round : Round
  pub cleared_at : ℕ
  pub refusals : List Bool
  pub ended : Option Outcome

abbrev pub new_balance : Balancing
new_balance = record { number = None; round = no_round; cleared_at = 0; refusals = []; ended = None }

-- ---- what is missing

abbrev pub device_numbers : Configuration → List ℕ
device_numbers c = numbers_from 0 (length c.devices)

abbrev pub page_on : ℕ → List ℕ → ℕ × List ℕ
page_on d prefix = (d, prefix)

-- device by device, prefix by prefix
abbrev pub all_pages : Configuration → List (ℕ × List ℕ)
all_pages c = flat_map (λ d. map (page_on d) (prefixes c.index_digits)) (device_numbers c)

abbrev pub to_clear : Configuration → Round → List ℕ
to_clear c g = drop (length g.cleared) (device_numbers c)

abbrev pub to_page : Configuration → Round → List (ℕ × List ℕ)
to_page c g = drop (length g.pages) (all_pages c)

abbrev pub to_accept : Configuration → List Bool → List ℕ
to_accept c refusals = drop (length refusals) (device_numbers c)

-- ---- the plan

abbrev pub start_of : List ℕ → ℕ
start_of [] = 0
start_of (started ∷ more) = started

-- what the plan is computed from: all pages and rows, and the reading at which the round began
abbrev pub all_gathered : ℕ → Round → Gathered
all_gathered number g = gathered number (start_of g.started) g

-- the numbers of trash items and pull items are those of all lists, also of those that a device refused
abbrev pub balanced : Configuration → ℕ → Round → List Bool → Outcome
balanced c number g refusals = O.Balanced number
    (sum_by (λ lists. length lists.trash) (planned_lists c (all_gathered number g)))
    (sum_by (λ lists. length lists.pull) (planned_lists c (all_gathered number g)))
    (length (lost c (all_gathered number g)))
    (count_by (λ refused. refused) refusals)

-- ---- the first that is missing

module _ (c : Configuration) (number : ℕ) (g : Round) (refusals : List Bool) where
  abbrev pub accept_next : List ℕ → Next
  accept_next [] = ends (balanced c number g refusals)
  accept_next (d ∷ ds) = asks (Q.Device d (DQ.Accept number (planned c (all_gathered number g) (threshold c.ttl c.skew (start_of g.started)) d)))

  -- each scan goes on after the last revision that was given
  abbrev pub scan_next : Bool → Next
  scan_next true = accept_next (to_accept c refusals)
  scan_next false = asks (Q.Table (TQ.Scan number (reached g.scans) c.scan_limit))

  abbrev pub page_next : List (ℕ × List ℕ) → Next
  page_next [] = scan_next (has_ended g.scans)
  page_next (x ∷ xs) = asks (Q.Device x.0 (DQ.Page number x.1))

  abbrev pub clear_next : List ℕ → Next
  clear_next [] = page_next (to_page c g)
  clear_next (d ∷ ds) = asks (Q.Device d (DQ.Clear number))

abbrev pub round_next : Configuration → Option ℕ → Round → List Bool → Next
round_next c None g refusals = asks (Q.Table TQ.BeginRound)
round_next c (Some number) g refusals = clear_next c number g refusals (to_clear c g)

abbrev pub balance_next : Configuration → Balancing → Next
balance_next c s = ends_or s.ended (round_next c s.number s.round s.refusals)

-- ---- what an answer makes of it; one that the machines don't list for the query changes nothing, and the same is asked again

abbrev pub number_after : Query → Answer → Option ℕ → Option ℕ
number_after (Q.Table TQ.BeginRound) (A.Table (T.Round round started)) before = Some round
number_after _ _ before = before

abbrev pub round_after : Option ℕ → Query → Answer → Round → Round
round_after None q a g = g
round_after (Some number) q a g = gave number q a g

abbrev pub cleared_after : ℕ → Query → Answer → ℕ → ℕ
cleared_after tick (Q.Device d (DQ.Clear round)) (A.Device D.Cleared) before = max before tick
cleared_after tick _ _ before = before

abbrev pub refusals_after : Query → Answer → List Bool → List Bool
refusals_after (Q.Device d (DQ.Accept round lists)) (A.Device (D.Accepted trash pull)) before = false ∷ before
refusals_after (Q.Device d (DQ.Accept round lists)) (A.Device (D.Stale held)) before = true ∷ before
refusals_after _ _ before = before

-- a page, or rows, must come after the last clear
abbrev pub disordered : ℕ → ℕ → Option Outcome
disordered earlier later = if nat_lt earlier later then None else Some (O.Disordered earlier later)

-- a device keeps another round, or its store failed
abbrev pub round_refused : ℕ → DeviceAnswer → Option Outcome
round_refused d (D.Stale held) = Some (O.Stale d held)
round_refused d D.StoreFault = Some O.StoreFault
round_refused d _ = None

abbrev pub page_end : ℕ → ℕ → ℕ → DeviceAnswer → Option Outcome
page_end cleared_at tick d (D.Page entries) = disordered cleared_at tick
page_end cleared_at tick d answer = round_refused d answer

-- how an answer ends the task, if it does
abbrev pub balance_end : ℕ → ℕ → Query → Answer → Option Outcome
balance_end cleared_at tick (Q.Device d (DQ.Clear round)) (A.Device answer) = round_refused d answer
balance_end cleared_at tick (Q.Device d (DQ.Page round prefix)) (A.Device answer) = page_end cleared_at tick d answer
balance_end cleared_at tick (Q.Table (TQ.Scan round after limit)) (A.Table (T.Rows rows last)) = disordered cleared_at tick
balance_end cleared_at tick _ _ = None

abbrev pub balance_after : Query → Answered → Balancing → Balancing
balance_after q a s = record {
  number = number_after q a.answer s.number;
  round = round_after (number_after q a.answer s.number) q a.answer s.round;
  cleared_at = cleared_after a.tick q a.answer s.cleared_at;
  refusals = refusals_after q a.answer s.refusals;
  ended = balance_end s.cleared_at a.tick q a.answer;
}

-- ---- the task

-- what a balance task asks next after these answers, or how it ends
abbrev pub balances : Configuration → List Answered → Next
balances c answers = goes_on (balance_next c) balance_after new_balance answers
