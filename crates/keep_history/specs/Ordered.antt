-- Ticks of a run rise, so no balance of it meets a page or rows that aren't later than its clears. This is the project's own rule.
use Rattle.std.specs.Prelude.{⊤, ℕ, List, [], ◌∷◌, IfSome}
use Rattle.keep_spec.specs.Config.{Configuration}
use Rattle.keep_spec.specs.Lines.{cut, text_of}
use Rattle.keep_history.specs.declared.task.Outcome.{Outcome}
use Rattle.keep_history.specs.declared.task.Outcome.TheVariants as O
use Rattle.keep_history.specs.Effects.{Scene, effect_of_line}
use Rattle.keep_history.specs.Ended.{Begun, begun_of}
use Rattle.keep_history.specs.Run.{at_start}

-- any end but that of ticks out of order
abbrev pub IsOrdered : Outcome → Type 0
IsOrdered (O.Disordered earlier later) = ⊥
IsOrdered other = ⊤

-- so each task that a line ends, from a scene on
abbrev pub LinesAreOrdered : Configuration → List ℕ → Scene → List (List ℕ) → Type 0
LinesAreOrdered c failed scene [] = ⊤
LinesAreOrdered c failed scene (piece ∷ rest) =
    IfSome (effect_of_line c failed scene (text_of piece)) (λ e. IfSome e.ended (λ ending. IsOrdered ending.outcome) × LinesAreOrdered c failed e.scene rest)

-- In the run of an input over so many empty stores no task ends Disordered, whatever tasks run between one another.
abbrev pub RunsAreOrdered : ℕ → List ℕ → List ℕ → Type 0
RunsAreOrdered stores failed bytes = IfSome (begun_of stores (cut bytes)) (λ (b : Begun). LinesAreOrdered b.config failed (at_start b.config).scene b.rest)
