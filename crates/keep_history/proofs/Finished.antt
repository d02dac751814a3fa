-- A finish ends its task, unless no event is left: `told-finishes`. It has a turn more than there may be events, and the events of a run are counted from 0.
use Rattle.std.proofs.Common.{◌≡◌, ◌≤◌, ℕ, List, [], ◌∷◌, Option, None, Some, IfSome, Result, Ok, Err, refl, arith, option_and_then}
use Rattle.std.specs.Prelude.{⊤, MatchOption, option_map}
use Rattle.keep_spec.specs.Config.{Configuration}
use Rattle.keep_spec.specs.Lines.{cut, text_of}
use Rattle.keep_history.specs.declared.task.Command.{Command}
use Rattle.keep_history.specs.declared.task.Command.TheVariants as C
use Rattle.keep_history.specs.declared.task.Outcome.{Outcome}
use Rattle.keep_history.specs.declared.task.Task.{Task}
use Rattle.keep_history.specs.declared.task.TaskState.{TaskState}
use Rattle.keep_history.specs.declared.task.TaskState.TheVariants as S
use Rattle.keep_history.specs.Effects.{Asked, Effect, Ending, Scene, Standing, asked_effect, asked_in, asking_effect, command_in, effect_of_command, effect_of_line, events_max, finish_turns, open_effect, state_after, step_turns}
use Rattle.keep_history.specs.Ended.{Begun, begun_of}
use Rattle.keep_history.specs.Finished.{Finishes, FinishesEndTasks, IsSpent, LinesFinish}
use Rattle.keep_history.specs.Names.{at_name}
use Rattle.keep_history.specs.Run.{at_start}
use Rattle.keep_history.specs.Tasks.{next, opened}
use Rattle.keep_history.specs.Whole.{command_at}
use Rattle.keep_history.proofs.Asking.{IsUsedUp, asked-ends, asked-within}
use Rattle.keep_history.proofs.Follows.{at-same}
use Rattle.keep_history.proofs.Lines.{both-some, some-more}

module _ (c : Configuration) (failed : List ℕ) where
  -- ---- events

  -- there are no more than there may be
  abbrev IsWithin : Scene → Type 0
  IsWithin scene = scene.count ≤ events_max

  opened-within : (scene : Scene) (name : List ℕ) (r : Result Task Outcome) → IsWithin scene → IsWithin (open_effect scene name r).scene
  opened-within scene name (Ok task) le = le
  opened-within scene name (Err outcome) le = le

  asking-within : (turns reading : ℕ) (scene : Scene) (name : List ℕ) (st : Option (TaskState Standing)) → IsWithin scene → IfSome (asking_effect turns c failed scene name reading st) (λ e. IsWithin e.scene)
  asking-within turns reading scene name (Some (S.Open s)) le = asked-within c failed turns reading scene.count scene.world s (next c s.task s.answers) le
  asking-within turns reading scene name _ le = tt

  command-within : (scene : Scene) (command : Command) → IsWithin scene → IfSome (effect_of_command c failed scene command) (λ e. IsWithin e.scene)
  unfolding effect_of_command
  command-within scene (C.Open name reading opening) le = opened-within scene name (opened c opening reading) le
  command-within scene (C.Step name reading) le = asking-within step_turns reading scene name (at_name name scene.names) le
  command-within scene (C.Finish name reading) le = asking-within finish_turns reading scene name (at_name name scene.names) le

  given-within : (scene : Scene) (o : Option Command) → IsWithin scene → IfSome (option_and_then (effect_of_command c failed scene) o) (λ e. IsWithin e.scene)
  given-within scene None le = tt
  given-within scene (Some command) le = command-within scene command le

  line-within : (scene : Scene) (text : List ℕ) → IsWithin scene → IfSome (effect_of_line c failed scene text) (λ e. IsWithin e.scene)
  line-within scene [] le = le
  line-within scene (x ∷ xs) le = given-within scene (command_in c scene (x ∷ xs)) le

  -- ---- a finish

  ended-name : (scene : Scene) (name : List ℕ) (a : Asked) (o : Option Outcome) → a.outcome ≡ o → MatchOption o (IsUsedUp c failed scene.count a) (λ outcome. ⊤)
      → MatchOption {T = Ending} (option_map (λ outcome. record { task = a.standing.task; outcome = outcome }) o) (IsSpent (asked_effect scene name a)) (λ ending. at_name name (asked_effect scene name a).scene.names ≡ Some (state_after ending.outcome))
  ended-name scene name a None e h = record { spent = h.spent; made_all = h.made_all }
  ended-name scene name a (Some outcome) e h = rw e (at-same name (state_after outcome) scene.names)

  finished : (scene : Scene) (name : List ℕ) (reading : ℕ) (st : Option (TaskState Standing)) → IsWithin scene → IfSome (asking_effect finish_turns c failed scene name reading st) (Finishes (Some (C.Finish name reading)))
  finished scene name reading (Some (S.Open s)) le =
      let a = asked_in finish_turns c failed reading scene s in
      ended-name scene name a a.outcome refl
      (asked-ends c failed finish_turns reading scene.count scene.world s (next c s.task s.answers) le (omega arith))
  finished scene name reading _ le = tt

  nothing-finished : (command : Command) (o : Option Effect) → ((e : Effect) → Finishes (Some command) e) → IfSome o (Finishes (Some command))
  nothing-finished command None f = tt
  nothing-finished command (Some e) f = f e

  command-finishes : (scene : Scene) (command : Command) → IsWithin scene → IfSome (effect_of_command c failed scene command) (Finishes (Some command))
  unfolding effect_of_command
  command-finishes scene (C.Open name reading opening) le = tt
  command-finishes scene (C.Step name reading) le = nothing-finished (C.Step name reading) (effect_of_command c failed scene (C.Step name reading)) (λ e. tt)
  command-finishes scene (C.Finish name reading) le = finished scene name reading (at_name name scene.names) le

  given-finishes : (scene : Scene) (o : Option Command) → IsWithin scene → IfSome (option_and_then (effect_of_command c failed scene) o) (Finishes o)
  given-finishes scene None le = tt
  given-finishes scene (Some command) le = command-finishes scene command le

  line-finishes : (scene : Scene) (text : List ℕ) → IsWithin scene → IfSome (effect_of_line c failed scene text) (Finishes (command_at c scene text))
  line-finishes scene [] le = tt
  line-finishes scene (x ∷ xs) le = given-finishes scene (command_in c scene (x ∷ xs)) le

  lines-finish : (scene : Scene) (pieces : List (List ℕ)) → IsWithin scene → LinesFinish c failed scene pieces
  lines-finish scene [] le = tt
  lines-finish scene (piece ∷ rest) le =
      some-more _ _ (effect_of_line c failed scene (text_of piece)) (λ e both. (both.1, lines-finish e.scene rest both.0))
      (both-some _ _ (effect_of_line c failed scene (text_of piece)) (line-within scene (text_of piece) le) (line-finishes scene (text_of piece) le))

finish-begun : (failed : List ℕ) (o : Option Begun) → IfSome o (λ (b : Begun). LinesFinish b.config failed (at_start b.config).scene b.rest)
finish-begun failed None = tt
finish-begun failed (Some b) = lines-finish b.config failed (at_start b.config).scene b.rest (omega arith)

pub told-finishes : (stores : ℕ) (told : Option (List ℕ)) → IfSome told (λ bytes. (failed : List ℕ) → FinishesEndTasks stores failed bytes)
told-finishes stores None = tt
told-finishes stores (Some bytes) = λ failed. finish-begun failed (begun_of stores (cut bytes))
