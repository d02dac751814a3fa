-- What the queries of a task did, where all stores tell. For private clauses.
use Rattle.std.specs.Prelude.{◌≡◌, ◌+◌, ◌++◌, ℕ, List, length, take, Option, None, Some, Bool, true, false}
use Rattle.keep_spec.specs.Config.{Configuration}
use Rattle.keep_event.specs.World.{World}
use Rattle.keep_event.specs.declared.event.Query.{Query}
use Rattle.keep_event.specs.declared.event.Query.TheVariants as Q
use Rattle.keep_event.specs.declared.event.Answer.{Answer}
use Rattle.keep_event.specs.declared.event.Answer.TheVariants as An
use Rattle.keep_cluster.specs.Cluster.{View, world_of, stamp_of, faults_at}
use Rattle.keep_history.specs.declared.task.Outcome.{Outcome}
use Rattle.keep_history.specs.Effects.{Made, Asked, Standing, asked_on, event_lines}
use Rattle.keep_history.specs.Ended.{left_after}
use Rattle.keep_history.specs.Printed.{event_line, table_event_line}
use Rattle.keep_history.specs.Tasks.{next}
use Rattle.keep_steps.specs.Steps.{PortView}
use Rattle.keep_run.specs.Faults.{Agrees, AreNumbered, Rise}
use Rattle.keep_run.specs.Standing.{IsStanding}
use Rattle.keep_run.specs.Turns.{after_all}
use Rattle.keep_run.specs.declared.asking.Open.{Open}
use Rattle.keep_run.specs.declared.asking.Turned.{Turned}
use Rattle.keep_run.specs.declared.asking.Turned.TheVariants as T

-- the device that a query's line names; 0 for the table
abbrev pub device_of : Query → ℕ
device_of (Q.Device device query) = device
device_of (Q.Table query) = 0

abbrev pub line_at : List ℕ → ℕ → Answer → List ℕ
line_at name device (An.Device answer) = event_line name device answer
line_at name device (An.Table answer) = table_event_line name answer

-- how asking stopped, as the rule says it
abbrev pub outcome_of : Turned → Option Outcome
outcome_of (T.Ended outcome) = Some outcome
outcome_of T.Asks = None
outcome_of T.Spent = None

abbrev pub is_spent : Turned → Bool
is_spent (T.Ended outcome) = false
is_spent T.Asks = false
is_spent T.Spent = true

-- a cluster as a port that a task asks
abbrev pub port_view : View → PortView
port_view v = record {
  told = None;
  world = world_of v;
  stamp = Some (stamp_of v);
  faults = 0;
  spent = v.spent;
  store_faults = faults_at v.devices;
  devices = length v.config.devices;
  fault_plan = None;
}

-- a task that stands so is asked
abbrev pub asking : ℕ → Configuration → View → World → Standing → List ℕ → Asked
asking turns config v w s failed = asked_on turns config failed v.reading v.made w s (next config s.task s.answers)

-- what was asked: with any list of failed events that has just those of these events, f is this
pub record HasAsked (config : Configuration) (old new : View) (w : World) (open_task : Open) (name out_before out : List ℕ) (turned : Turned) (f : List ℕ → Asked) : Type 0 where
  pub asked : Asked
  pub is : (others : List ℕ) → Agrees others asked.made → f others ≡ asked
  pub numbered : AreNumbered old.made asked.made
  pub rise : Rise asked.made (faults_at old.devices) (faults_at new.devices)
  pub world_is : world_of new ≡ Some asked.world
  pub left_is : asked.world ≡ left_after w asked.made
  pub count_is : new.made ≡ old.made + length asked.made
  pub outcome_is : asked.outcome ≡ outcome_of turned
  pub spent_is : asked.spent ≡ is_spent turned
  pub standing : asked.outcome ≡ None → IsStanding config open_task asked.standing
  pub out_is : out ≡ out_before ++ event_lines name asked.made

-- the first events of f were made
pub record PartAsked (w : World) (old new : View) (f : List ℕ → Asked) : Type 0 where
  pub made : List Made
  pub is : (others : List ℕ) → Agrees others made → take (length made) (f others).made ≡ made
  pub numbered : AreNumbered old.made made
  pub rise : Rise made (faults_at old.devices) (faults_at new.devices)
  pub world_is : world_of new ≡ Some (left_after w made)

-- so many turns of a task were done
abbrev pub DoesTurns : ℕ → View → View → Open → Open → List ℕ → List ℕ → List ℕ → Turned → Type 0
DoesTurns turns old new open_old open_new name out_before out turned = (config : Configuration) → (w : World) → (s : Standing) → world_of old ≡ Some w → IsStanding config open_old s →
    HasAsked config old new w open_new name out_before out turned (asking turns config old w s)

-- the first of them were
abbrev pub StopsTurns : ℕ → View → View → Open → Type 0
StopsTurns turns old new open_old = (config : Configuration) → (w : World) → (s : Standing) → world_of old ≡ Some w → IsStanding config open_old s →
    PartAsked w old new (asking turns config old w s)

-- the turns of a task so far, all of which it asked on after
pub record Turning (config : Configuration) (old now : View) (open_now : Open) (w : World) (s : Standing) (turns : ℕ) (name out_before out : List ℕ) : Type 0 where
  pub made : List Made
  pub world : World
  pub standing : Standing
  pub is : (others : List ℕ) → Agrees others made → (more : ℕ) →
      asking (turns + more) config old w s others ≡ after_all made (asked_on more config others old.reading (old.made + length made) world standing (next config standing.task standing.answers))
  pub numbered : AreNumbered old.made made
  pub rise : Rise made (faults_at old.devices) (faults_at now.devices)
  pub world_is : world_of now ≡ Some world
  pub left_is : world ≡ left_after w made
  pub count_is : now.made ≡ old.made + length made
  pub stands_there : IsStanding config open_now standing
  pub out_is : out ≡ out_before ++ event_lines name made
