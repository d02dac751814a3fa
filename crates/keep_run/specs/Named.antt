-- Names beside other names: the same ones, and what became of each is in a relation. For private clauses.
use Rattle.std.specs.Prelude.{◌≡◌, ⊤, [], ◌∷◌, Option, None, Some}
use Rattle.keep_history.specs.declared.task.TaskState.{TaskState}
use Rattle.keep_history.specs.declared.task.TaskState.TheVariants as S
use Rattle.keep_history.specs.Names.{Named}

-- the same became of both, where open tasks are in the relation
abbrev pub SameState : {T U : Type 0} → (T → U → Type 0) → TaskState T → TaskState U → Type 0
SameState R (S.Open t) (S.Open u) = R t u
SameState R (S.Located a) (S.Located b) = a ≡ b
SameState R (S.Row a) (S.Row b) = a ≡ b
SameState R S.Ended S.Ended = ⊤
SameState R _ _ = ⊥

abbrev pub SameLookup : {T U : Type 0} → (T → U → Type 0) → Option (TaskState T) → Option (TaskState U) → Type 0
SameLookup R None None = ⊤
SameLookup R (Some a) (Some b) = SameState R a b
SameLookup R _ _ = ⊥

abbrev pub SameNames : {T U : Type 0} → (T → U → Type 0) → Named (TaskState T) → Named (TaskState U) → Type 0
SameNames R [] [] = ⊤
SameNames R (a ∷ ps) (b ∷ qs) = (a.0 ≡ b.0) × (SameState R a.1 b.1 × SameNames R ps qs)
SameNames R _ _ = ⊥

-- the task that is open, if one is
abbrev pub open_task_of : {T : Type 0} → Option (TaskState T) → Option T
open_task_of None = None
open_task_of (Some (S.Open t)) = Some t
open_task_of (Some (S.Located locator)) = None
open_task_of (Some (S.Row text)) = None
open_task_of (Some S.Ended) = None
