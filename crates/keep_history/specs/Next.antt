-- What a task does next, and what it is answered. This is the project's own rule.
use Rattle.std.specs.Prelude.{◌≡◌, ℕ, List, [], ◌∷◌, ◌++◌, Option, None, Some}
use Rattle.keep_event.specs.declared.event.Query.{Query}
use Rattle.keep_event.specs.declared.event.Answer.{Answer}
use Rattle.keep_history.specs.declared.task.Outcome.{Outcome}

-- an answer that a task was given, with the number of its event
pub record Answered : Type 0 where
  pub tick : ℕ
  pub answer : Answer

-- a task asks, or has ended
pub data Next : Type 0 where
  asks : Query → Next
  ends : Outcome → Next

abbrev pub ends_or : Option Outcome → Next → Next
ends_or None next = next
ends_or (Some o) next = ends o

-- ---- a task of which a small state is known: what it asks next, and what each answer makes of it

-- an answer to the query that was asked moves the task on; nothing comes after an end
abbrev pub moved : {S : Type 0} → (Query → Answered → S → S) → Answered → Next → S → S
moved after a (asks q) s = after q a s
moved after a (ends outcome) s = s

-- where a task stands after answers, the earliest first, where it stood at `s` before them
abbrev pub stands_after : {S : Type 0} → (S → Next) → (Query → Answered → S → S) → S → List Answered → S
stands_after next after s [] = s
stands_after next after s (a ∷ answers) = stands_after next after (moved after a (next s) s) answers

-- what it asks next there, or how it has ended
abbrev pub goes_on : {S : Type 0} → (S → Next) → (Query → Answered → S → S) → S → List Answered → Next
goes_on next after s answers = next (stands_after next after s answers)

-- a task that goes by `by` stands at `s` after its answers: whatever it is answered then, it goes on from there
abbrev pub GoesFrom : {S : Type 0} → (S → Next) → (Query → Answered → S → S) → S → (List Answered → Next) → List Answered → Type 0
GoesFrom next after s by answers = (more : List Answered) → by (answers ++ more) ≡ goes_on next after s more
