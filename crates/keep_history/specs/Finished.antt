-- What a finish line leaves: a task that has ended, unless no event was left for it. This is the project's own rule.
use Rattle.std.specs.Prelude.{◌≡◌, ⊤, ℕ, List, [], ◌∷◌, true, Option, Some, MatchOption, IfSome}
use Rattle.keep_spec.specs.Config.{Configuration}
use Rattle.keep_spec.specs.Lines.{cut, text_of}
use Rattle.keep_history.specs.declared.task.Command.{Command}
use Rattle.keep_history.specs.declared.task.Command.TheVariants as C
use Rattle.keep_history.specs.Effects.{Scene, Effect, effect_of_line, events_max, state_after}
use Rattle.keep_history.specs.Ended.{Begun, begun_of}
use Rattle.keep_history.specs.Names.{at_name}
use Rattle.keep_history.specs.Run.{at_start}
use Rattle.keep_history.specs.Whole.{command_at}

-- there was no event left: 2^40 were made
pub record IsSpent (e : Effect) : Type 0 where
  pub spent : e.spent ≡ true
  pub made_all : e.scene.count ≡ events_max

-- a finish line ends the task of its name, and what has become of the name is what the end leaves; where it ends none, there was no event left
abbrev pub Finishes : Option Command → Effect → Type 0
Finishes (Some (C.Finish name reading)) e = MatchOption e.ended (IsSpent e) (λ ending. at_name name e.scene.names ≡ Some (state_after ending.outcome))
Finishes _ e = ⊤

-- so each finish line from a scene on
abbrev pub LinesFinish : Configuration → List ℕ → Scene → List (List ℕ) → Type 0
LinesFinish c failed scene [] = ⊤
LinesFinish c failed scene (piece ∷ rest) =
    IfSome (effect_of_line c failed scene (text_of piece)) (λ e. Finishes (command_at c scene (text_of piece)) e × LinesFinish c failed e.scene rest)

-- In the run of an input over so many empty stores each finish line ends its task, unless no event is left for it.
abbrev pub FinishesEndTasks : ℕ → List ℕ → List ℕ → Type 0
FinishesEndTasks stores failed bytes = IfSome (begun_of stores (cut bytes)) (λ (b : Begun). LinesFinish b.config failed (at_start b.config).scene b.rest)
