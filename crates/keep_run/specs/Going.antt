-- The lines of a run that are done so far. For private clauses and invariants.
use Rattle.std.specs.Prelude.{◌≡◌, ◌+◌, ℕ, List, length, Option, Some, Result, Ok, Err, ⊤}
use Rattle.std.specs.Io.KnownBytes.{Appends}
use Rattle.keep_spec.specs.Lines.{cut}
use Rattle.keep_spec.specs.Config.{Configuration}
use Rattle.keep_spec.specs.declared.status.Status.{Status}
use Rattle.keep_spec.specs.declared.status.Status.TheVariants.{BadLine, WriteFault, ReadFault, NoMemory, LineTooLong, InputTooLong, PortFault}
use Rattle.keep_base.specs.declared.lines.LineError.{LineError}
use Rattle.keep_base.specs.declared.lines.LineError.TheVariants as E
use Rattle.keep_cluster.specs.Cluster.{faults_at}
use Rattle.keep_history.specs.Ended.{AreRead, place_at}
use Rattle.keep_history.specs.Run.{Progress, run_lines}
use Rattle.keep_run.specs.Faults.{Agrees, AreNumbered, Rise}
use Rattle.keep_run.specs.Runs.{Beginning, lines_run, lines_place}
use Rattle.keep_run.specs.Scenes.{IsSceneOf}
use Rattle.keep_run.specs.declared.stage.Stage.{Stage}

-- lines from a beginning on are done, from one stage to another, and these bytes are to come
pub record Going {S : Type 0} (config : Configuration) (b : Beginning) (taken number : ℕ) (left : Option (List ℕ)) (old new : Stage S) (before written : Option (List ℕ)) : Type 0 where
  pub lines : ℕ
  pub rest : List ℕ
  pub sofar : Progress
  pub left_is : left ≡ Some rest
  pub scene_is : IsSceneOf config new sofar.scene
  pub written_is : Appends before written sofar.text
  pub numbered : AreNumbered 0 sofar.made
  pub count_is : sofar.scene.count ≡ length sofar.made
  pub rise : Rise sofar.made (faults_at old.cluster.devices) (faults_at new.cluster.devices)
  pub are_read : AreRead b.bytes rest lines
  pub pieces : length (cut b.bytes) ≡ lines + length (cut rest)
  pub goes : (others : List ℕ) → Agrees others sofar.made → lines_run config b others ≡ run_lines config others taken number sofar (cut rest)
  pub comes : (others : List ℕ) → Agrees others sofar.made → lines_place config b others lines ≡ Some (place_at taken sofar (cut rest))

abbrev pub status_of_line : LineError → Status
status_of_line E.ReadFault = ReadFault
status_of_line (E.LineTooLong n) = LineTooLong n
status_of_line E.InputTooLong = InputTooLong
status_of_line E.NoMemory = NoMemory

-- a line ends a run by BadLine, by a fault of the sink, where there was no event left, or where memory was refused
abbrev pub IsOfLine : Result (Unit {0}) Status → Type 0
IsOfLine (Ok done) = ⊤
IsOfLine (Err (BadLine n)) = ⊤
IsOfLine (Err PortFault) = ⊤
IsOfLine (Err WriteFault) = ⊤
IsOfLine (Err NoMemory) = ⊤
IsOfLine (Err other) = ⊥
