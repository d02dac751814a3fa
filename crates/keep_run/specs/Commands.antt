-- What a command or a line did, where all stores tell; of the text that was written, where the sink tells. For private clauses.
use Rattle.std.specs.Prelude.{◌≡◌, ◌⊎◌, ◌+◌, ◌++◌, List, [], ℕ, length, take, Option, None, Some, Bool, true, false, Result, Ok, Err}
use Rattle.keep_spec.specs.Config.{Configuration}
use Rattle.keep_spec.specs.declared.status.Status.{Status}
use Rattle.keep_spec.specs.declared.status.Status.TheVariants as St
use Rattle.std.specs.Io.KnownBytes.{Appends, Keeps}
use Rattle.keep_base.specs.Sources.{AppendsPrefix}
use Rattle.keep_cluster.specs.Cluster.{View, world_of, faults_at}
use Rattle.keep_history.specs.declared.task.Command.{Command}
use Rattle.keep_history.specs.declared.task.TaskState.{TaskState}
use Rattle.keep_history.specs.declared.task.TaskState.TheVariants as S
use Rattle.keep_history.specs.Effects.{Made, Effect, Scene, effect_of_command, effect_of_line, asking_effect, state_after}
use Rattle.keep_history.specs.Ended.{left_after}
use Rattle.keep_run.specs.Faults.{Agrees, AreNumbered, Rise}
use Rattle.keep_run.specs.Scenes.{IsSceneOf}
use Rattle.keep_history.specs.Names.{at_name}
use Rattle.keep_history.specs.Printed.{end_line}
use Rattle.keep_running.specs.declared.running.AnyTask.{AnyTask}
use Rattle.keep_steps.specs.declared.steps.Opened.{Opened}
use Rattle.keep_steps.specs.declared.steps.Opened.TheVariants as P
use Rattle.keep_run.specs.declared.asking.Open.{Open}
use Rattle.keep_run.specs.declared.asking.Turned.{Turned}
use Rattle.keep_run.specs.declared.asking.Turned.TheVariants as T
use Rattle.keep_run.specs.declared.stage.Stage.{Stage}
use Rattle.keep_run.specs.declared.stage.Done.{Done}
use Rattle.keep_run.specs.declared.stage.Done.TheVariants as D

-- the whole was done: with any list of failed events that has just those of its events, f is this
pub record HasEffect {S : Type 0} (config : Configuration) (scene : Scene) (old new : Stage S) (f : List ℕ → Option Effect) : Type 0 where
  pub effect : Effect
  pub is : (others : List ℕ) → Agrees others effect.made → f others ≡ Some effect
  pub numbered : AreNumbered scene.count effect.made
  pub count_is : effect.scene.count ≡ scene.count + length effect.made
  pub rise : Rise effect.made (faults_at old.cluster.devices) (faults_at new.cluster.devices)
  pub scene_is : IsSceneOf config new effect.scene

-- it was done, and its text appended
pub record HasPrinted {S : Type 0} (config : Configuration) (scene : Scene) (old new : Stage S) (out_before out : List ℕ) (spent : Bool) (f : List ℕ → Option Effect) : Type 0 where
  pub done : HasEffect config scene old new f
  pub spent_is : done.effect.spent ≡ spent
  pub out_is : out ≡ out_before ++ done.effect.text

-- it can't be done, and nothing was
pub record IsRefused (scene : Scene) (new : View) (f : List ℕ → Option Effect) : Type 0 where
  pub none : (failed : List ℕ) → f failed ≡ None
  pub stays : world_of new ≡ Some scene.world

-- its first events were made
pub record PartDone (scene : Scene) (old new : View) (f : List ℕ → Option Effect) : Type 0 where
  pub made : List Made
  pub is : (others : List ℕ) → Agrees others made → (e : Effect) × ((f others ≡ Some e) × (take (length made) e.made ≡ made))
  pub numbered : AreNumbered scene.count made
  pub rise : Rise made (faults_at old.devices) (faults_at new.devices)
  pub world_is : world_of new ≡ Some (left_after scene.world made)

-- nothing was done, or its first events were made
abbrev pub IsStopped : Scene → View → View → (List ℕ → Option Effect) → Type 0
IsStopped scene old new f = (world_of new ≡ Some scene.world) ⊎ PartDone scene old new f

abbrev pub done_by : {S : Type 0} → Configuration → Scene → Stage S → Stage S → List ℕ → List ℕ → Done → (List ℕ → Option Effect) → Type 0
done_by config scene old new out_before out D.Whole f = HasPrinted config scene old new out_before out false f
done_by config scene old new out_before out D.Spent f = HasPrinted config scene old new out_before out true f
done_by config scene old new out_before out D.Refused f = IsRefused scene new.cluster f

-- what a command did, by its answer
abbrev pub IsCommandDone : {S : Type 0} → Configuration → Command → Stage S → Stage S → List ℕ → List ℕ → Done → Type 0
IsCommandDone config command old new out_before out done = (scene : Scene) → IsSceneOf config old scene →
    done_by config scene old new out_before out done (λ failed. effect_of_command config failed scene command)

-- what a command did where memory was refused
abbrev pub IsCommandStopped : {S : Type 0} → Configuration → Command → Stage S → Stage S → Type 0
IsCommandStopped config command old new = (scene : Scene) → IsSceneOf config old scene → IsStopped scene old.cluster new.cluster (λ failed. effect_of_command config failed scene command)

-- the text of a line was written, or a beginning of it
abbrev pub IsWritten : Bool → Option (List ℕ) → Option (List ℕ) → List ℕ → Result (Unit {0}) Status → Type 0
IsWritten spent before written text (Ok done) = (spent ≡ false) × Appends before written text
IsWritten spent before written text (Err St.PortFault) = (spent ≡ true) × Appends before written text
IsWritten spent before written text (Err St.WriteFault) = AppendsPrefix before written text
IsWritten spent before written text (Err other) = ⊥

-- what a line did, by its answer; the sink, where it tells, held so much before and this after
abbrev pub line_done_by : {S : Type 0} → Configuration → ℕ → Scene → Stage S → Stage S → Option (List ℕ) → Option (List ℕ) → Result (Unit {0}) Status → (List ℕ → Option Effect) → Type 0
line_done_by config number scene old new before written (Ok done) f =
    (d : HasEffect config scene old new f) × ((d.effect.spent ≡ false) × Appends before written d.effect.text)
line_done_by config number scene old new before written (Err (St.BadLine n)) f = (n ≡ number) × (IsRefused scene new.cluster f × Keeps before written)
line_done_by config number scene old new before written (Err St.PortFault) f =
    (d : HasEffect config scene old new f) × ((d.effect.spent ≡ true) × Appends before written d.effect.text)
line_done_by config number scene old new before written (Err St.WriteFault) f =
    (d : HasEffect config scene old new f) × AppendsPrefix before written d.effect.text
line_done_by config number scene old new before written (Err St.NoMemory) f = IsStopped scene old.cluster new.cluster f × Keeps before written
line_done_by config number scene old new before written (Err other) f = ⊥

abbrev pub IsLineDone : {S : Type 0} → Configuration → ℕ → List ℕ → Stage S → Stage S → Option (List ℕ) → Option (List ℕ) → Result (Unit {0}) Status → Type 0
IsLineDone config number text old new before written result = (scene : Scene) → IsSceneOf config old scene →
    line_done_by config number scene old new before written result (λ failed. effect_of_line config failed scene text)

-- what asking a name up to so many times did, by its answer, and where memory was refused
abbrev pub IsAskingDone : {S : Type 0} → ℕ → Configuration → List ℕ → ℕ → Stage S → Stage S → List ℕ → List ℕ → Done → Type 0
IsAskingDone turns config name reading old new out_before out done = (scene : Scene) → IsSceneOf config old scene →
    done_by config scene old new out_before out done (λ failed. asking_effect turns config failed scene name reading (at_name name scene.names))

abbrev pub IsAskingStopped : {S : Type 0} → ℕ → Configuration → List ℕ → ℕ → Stage S → Stage S → Type 0
IsAskingStopped turns config name reading old new = (scene : Scene) → IsSceneOf config old scene →
    IsStopped scene old.cluster new.cluster (λ failed. asking_effect turns config failed scene name reading (at_name name scene.names))

-- what becomes of a name by an opening, and the line of its end
abbrev pub state_opened : ℕ → Opened AnyTask → TaskState Open
state_opened actor (P.Task t) = S.Open (record { task = t; actor = actor })
state_opened actor (P.Ended outcome) = state_after outcome

abbrev pub text_opened : List ℕ → Opened AnyTask → List ℕ
text_opened name (P.Task t) = []
text_opened name (P.Ended outcome) = end_line name outcome

-- what becomes of a name whose task was asked
abbrev pub state_put : {T : Type 0} → T → Turned → TaskState T
state_put open_task (T.Ended outcome) = state_after outcome
state_put open_task T.Asks = S.Open open_task
state_put open_task T.Spent = S.Open open_task

abbrev pub done_of : Turned → Done
done_of (T.Ended outcome) = D.Whole
done_of T.Asks = D.Whole
done_of T.Spent = D.Spent
