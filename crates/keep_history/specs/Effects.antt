-- What script lines do: the events that they make, what these leave, and the text that is printed. This is the project's own rule.
use Rattle.std.specs.Prelude.{ℕ, zero, suc, ◌+◌, ◌==◌, List, [], ◌∷◌, ◌++◌, length, Bool, true, false, Option, None, Some, Result, Ok, Err, if◌then◌else◌, option_and_then, option_map}
use Rattle.std.specs.List.{list_any}
use Rattle.keep_spec.specs.Config.{Configuration}
use Rattle.keep_event.specs.World.{World, asked}
use Rattle.keep_event.specs.declared.event.Event.{Event}
use Rattle.keep_event.specs.declared.event.Query.{Query}
use Rattle.keep_event.specs.declared.event.Query.TheVariants as Q
use Rattle.keep_event.specs.declared.event.Answer.{Answer}
use Rattle.keep_event.specs.declared.event.Answer.TheVariants as An
use Rattle.keep_history.specs.declared.task.Command.{Command}
use Rattle.keep_history.specs.declared.task.Command.TheVariants as C
use Rattle.keep_history.specs.declared.task.Task.{Task}
use Rattle.keep_history.specs.declared.task.TaskState.{TaskState}
use Rattle.keep_history.specs.declared.task.TaskState.TheVariants as S
use Rattle.keep_history.specs.declared.task.Outcome.{Outcome}
use Rattle.keep_history.specs.declared.task.Outcome.TheVariants as O
use Rattle.keep_history.specs.Next.{Answered, Next, asks, ends}
use Rattle.keep_history.specs.Tasks.{next, opened}
use Rattle.keep_history.specs.Names.{Named, at_name, with_name, seen_names}
use Rattle.keep_history.specs.Script.{command_of}
use Rattle.keep_history.specs.Printed.{event_line, table_event_line, end_line}

-- a task that asks: the number of its opening among all openings, from 0, and what it was answered so far, in order
pub record Standing : Type 0 where
  pub task : Task
  pub actor : ℕ
  pub answers : List Answered

-- what stands between two lines: how many events there were, the cluster, and the names
pub record Scene : Type 0 where
  pub count : ℕ
  pub world : World
  pub names : Named (TaskState Standing)

-- an event, and what it left
pub record Made : Type 0 where
  pub event : Event
  pub left : World

-- how a task ended
pub record Ending : Type 0 where
  pub task : Task
  pub outcome : Outcome

-- what a line does: its events, the scene after them, the printed text, the task that it ended after an event, and whether it asked for an event more than there may be
pub record Effect : Type 0 where
  pub made : List Made
  pub scene : Scene
  pub text : List ℕ
  pub ended : Option Ending
  pub spent : Bool

-- ---- events

-- the most events of a run: 2^40
abbrev pub events_max : ℕ
events_max = 1099511627776

-- whether the event of a number is one of those at which a store failed
abbrev pub is_failed : List ℕ → ℕ → Bool
is_failed failed n = list_any (λ k. k == n) failed

-- the event of a number: the world's line for the query, or the fault of a store
abbrev pub event_of : List ℕ → ℕ → ℕ → ℕ → Query → World → Made
event_of failed reading actor n query w =
    let reply = asked (is_failed failed n) reading query w in
    record { event = record { tick = n; reading = reading; actor = actor; query = query; answer = reply.answer }; left = reply.world }

-- the answer of an event, as a task is given it
abbrev pub answered_by : Event → Answered
answered_by e = record { tick = e.tick; answer = e.answer }

abbrev pub with_answer : Standing → Event → Standing
with_answer s e = record { task = s.task; actor = s.actor; answers = s.answers ++ answered_by e ∷ [] }

-- ---- a task, query after query

-- what asking a task did: its events, what they left, the task as it stands, its end, if it ended, and whether there was no event left for it
pub record Asked : Type 0 where
  pub made : List Made
  pub world : World
  pub standing : Standing
  pub outcome : Option Outcome
  pub spent : Bool

abbrev pub after_made : Made → Asked → Asked
after_made m rest = record { made = m ∷ rest.made; world = rest.world; standing = rest.standing; outcome = rest.outcome; spent = rest.spent }

-- A task is asked up to so many times, at one reading, or until it ends; its events are numbered from `n` on.
unfoldable pub asked_on : ℕ → Configuration → List ℕ → ℕ → ℕ → World → Standing → Next → Asked
asked_on turns c failed reading n w s (ends outcome) = record { made = []; world = w; standing = s; outcome = Some outcome; spent = false }
asked_on zero c failed reading n w s (asks query) = record { made = []; world = w; standing = s; outcome = None; spent = false }
asked_on (suc turns) c failed reading n w s (asks query) =
    if n == events_max then record { made = []; world = w; standing = s; outcome = None; spent = true }
    else (let m = event_of failed reading s.actor n query w in
    let after = with_answer s m.event in
    after_made m (asked_on turns c failed reading (n + 1) m.left after (next c after.task after.answers)))

-- a step asks once
abbrev pub step_turns : ℕ
step_turns = 1

-- A finish asks until its task ends or no event is left for it: a task asks as often as it needs, and a turn more than there may be events is never the last.
abbrev pub finish_turns : ℕ
finish_turns = 1099511627777

-- ---- lines

-- what becomes of a name when its task ends
abbrev pub state_after : {T : Type 0} → Outcome → TaskState T
state_after (O.Stored locator) = S.Located locator
state_after (O.Touched locator) = S.Located locator
state_after (O.Row version want trash_at text) = S.Row text
state_after _ = S.Ended

abbrev pub state_of : Standing → Option Outcome → TaskState Standing
state_of s None = S.Open s
state_of s (Some outcome) = state_after outcome

-- one line for each event
abbrev pub line_of : List ℕ → Query → Answer → List ℕ
line_of name (Q.Device device query) (An.Device answer) = event_line name device answer
line_of name (Q.Table query) (An.Device answer) = event_line name 0 answer
line_of name query (An.Table answer) = table_event_line name answer

abbrev pub event_lines : List ℕ → List Made → List ℕ
event_lines name [] = []
event_lines name (m ∷ ms) = line_of name m.event.query m.event.answer ++ event_lines name ms

abbrev pub line_of_end : List ℕ → Option Outcome → List ℕ
line_of_end name None = []
line_of_end name (Some outcome) = end_line name outcome

-- a scene whose names have one more, or another state of one
abbrev pub with_state : List ℕ → TaskState Standing → Scene → Scene
with_state name state scene = record { count = scene.count; world = scene.world; names = with_name name state scene.names }

abbrev pub no_event : Scene → List ℕ → Effect
no_event scene text = record { made = []; scene = scene; text = text; ended = None; spent = false }

-- an opening ends at once, with a line of text, or makes a task, with none; neither makes an event
abbrev pub open_effect : Scene → List ℕ → Result Task Outcome → Effect
open_effect scene name (Err outcome) = no_event (with_state name (state_after outcome) scene) (end_line name outcome)
open_effect scene name (Ok task) = no_event (with_state name (S.Open (record { task = task; actor = length scene.names; answers = [] })) scene) []

-- a task was asked: its events, then its end
abbrev pub asked_effect : Scene → List ℕ → Asked → Effect
asked_effect scene name a = record {
  made = a.made;
  scene = record { count = scene.count + length a.made; world = a.world; names = with_name name (state_of a.standing a.outcome) scene.names };
  text = event_lines name a.made ++ line_of_end name a.outcome;
  ended = option_map (λ outcome. record { task = a.standing.task; outcome = outcome }) a.outcome;
  spent = a.spent;
}

abbrev pub asked_in : ℕ → Configuration → List ℕ → ℕ → Scene → Standing → Asked
asked_in turns c failed reading scene s = asked_on turns c failed reading scene.count scene.world s (next c s.task s.answers)

-- a name is asked where its task is open
abbrev pub asking_effect : ℕ → Configuration → List ℕ → Scene → List ℕ → ℕ → Option (TaskState Standing) → Option Effect
asking_effect turns c failed scene name reading (Some (S.Open s)) = Some (asked_effect scene name (asked_in turns c failed reading scene s))
asking_effect turns c failed scene name reading _ = None

-- what a command does, where it can be done
unfoldable pub effect_of_command : Configuration → List ℕ → Scene → Command → Option Effect
effect_of_command c failed scene (C.Open name reading opening) = Some (open_effect scene name (opened c opening reading))
effect_of_command c failed scene (C.Step name reading) = asking_effect step_turns c failed scene name reading (at_name name scene.names)
effect_of_command c failed scene (C.Finish name reading) = asking_effect finish_turns c failed scene name reading (at_name name scene.names)

-- the command of a line in a scene
abbrev pub command_in : Configuration → Scene → List ℕ → Option Command
command_in c scene text = command_of c (seen_names scene.names) text

-- what a line does, or None where it is no script line in this scene; an empty line does nothing
abbrev pub effect_of_line : Configuration → List ℕ → Scene → List ℕ → Option Effect
effect_of_line c failed scene [] = Some (no_event scene [])
effect_of_line c failed scene (x ∷ xs) = option_and_then (effect_of_command c failed scene) (command_in c scene (x ∷ xs))
