-- Which saves of a script are made: each that is good when the table is asked, and no other.
use Rattle.std.specs.Prelude.{⊤, ◌↔◌, ℕ, List, [], ◌∷◌, Option, None, Some, IfSome}
use Rattle.keep_spec.specs.Config.{Configuration}
use Rattle.keep_spec.specs.Lines.{cut, text_of}
use Rattle.keep_event.specs.declared.event.Query.{Query}
use Rattle.keep_event.specs.declared.event.Query.TheVariants as Q
use Rattle.keep_event.specs.declared.table.SaveRequest.{SaveRequest}
use Rattle.keep_event.specs.declared.table.TableQuery.TheVariants as TQ
use Rattle.keep_collections.specs.Verdicts.{IsGood}
use Rattle.keep_history.specs.declared.task.Outcome.{Outcome}
use Rattle.keep_history.specs.declared.task.Outcome.TheVariants as O
use Rattle.keep_history.specs.Effects.{Scene, Made, Ending, effect_of_line}
use Rattle.keep_history.specs.Ended.{Begun, begun_of}
use Rattle.keep_history.specs.Run.{at_start}

-- the request that a query asks the table to save, if it does
abbrev pub request_in : Query → Option SaveRequest
request_in (Q.Table (TQ.Save request)) = Some request
request_in _ = None

abbrev pub IsSaved : Outcome → Type 0
IsSaved (O.Saved uuid version portable) = ⊤
IsSaved other = ⊥

abbrev pub EndsSaved : Option Ending → Type 0
EndsSaved None = ⊥
EndsSaved (Some ending) = IsSaved ending.outcome

-- a save that the table is asked for ends Saved exactly where its request is good at the event's reading
abbrev pub IsExact : Configuration → Made → Option Ending → Type 0
IsExact c m ended = IfSome (request_in m.event.query) (λ request. EndsSaved ended ↔ IsGood c m.event.reading request)

-- so at each of a line's events
abbrev pub AreExact : Configuration → List Made → Option Ending → Type 0
AreExact c [] ended = ⊤
AreExact c (m ∷ ms) ended = IsExact c m ended × AreExact c ms ended

-- so at each line from a scene on
abbrev pub LinesSave : Configuration → List ℕ → Scene → List (List ℕ) → Type 0
LinesSave c failed scene [] = ⊤
LinesSave c failed scene (piece ∷ rest) =
    IfSome (effect_of_line c failed scene (text_of piece)) (λ e. AreExact c e.made e.ended × LinesSave c failed e.scene rest)

-- In the run of an input over so many empty stores each save that the table is asked for ends Saved exactly where it is good then.
abbrev pub GoodSavesAreMade : ℕ → List ℕ → List ℕ → Type 0
GoodSavesAreMade stores failed bytes = IfSome (begun_of stores (cut bytes)) (λ (b : Begun). LinesSave b.config failed (at_start b.config).scene b.rest)
