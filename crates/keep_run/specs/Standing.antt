-- Tasks and names of a run beside those that its rule has. For private clauses.
use Rattle.std.specs.Prelude.{◌≡◌, ⊤, ℕ, false}
use Rattle.std.specs.List.{AllByRecursion}
use Rattle.keep_spec.specs.Config.{Configuration}
use Rattle.keep_history.specs.declared.task.TaskState.{TaskState}
use Rattle.keep_history.specs.declared.task.TaskState.TheVariants as S
use Rattle.keep_history.specs.Effects.{Standing}
use Rattle.keep_history.specs.Names.{Named}
use Rattle.keep_history.specs.Tasks.{next}
use Rattle.keep_running.specs.Running.{stands, has_ended, may_ask}
use Rattle.keep_run.specs.Named.{SameNames}
use Rattle.keep_run.specs.declared.asking.Open.{Open}

-- an open task has not ended, and asks no other than so many devices
pub record IsAskable (devices : ℕ) (open_task : Open) : Type 0 where
  pub not_ended : has_ended open_task.task ≡ false
  pub devices_are : may_ask open_task.task devices

abbrev pub IsAskableState : ℕ → TaskState Open → Type 0
IsAskableState devices (S.Open t) = IsAskable devices t
IsAskableState devices _ = ⊤

abbrev pub AreAskable : ℕ → Named (TaskState Open) → Type 0
AreAskable devices names = AllByRecursion (λ n. IsAskableState devices n.1) names

-- it is where the task of the rule is after its answers
pub record IsStanding (config : Configuration) (open_task : Open) (s : Standing) : Type 0 where
  pub actor : s.actor ≡ open_task.actor
  pub stands_there : stands open_task.task (next config s.task) s.answers

-- the names are those of the rule, and what became of each is
abbrev pub AreStates : Configuration → Named (TaskState Open) → Named (TaskState Standing) → Type 0
AreStates config names standing = SameNames (IsStanding config) names standing
