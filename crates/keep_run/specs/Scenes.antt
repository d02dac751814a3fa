-- What contracts see of a run between two lines: the scene that it shows, what it keeps to, its room, and by how much a line lets it grow. For private clauses.
use Rattle.std.specs.Prelude.{◌≡◌, ◌≤◌, ◌<◌, ◌+◌, ◌^◌, [], length, Some}
use Rattle.keep_spec.specs.Config.{Configuration}
use Rattle.keep_cluster.specs.Cluster.{world_of}
use Rattle.keep_history.specs.Effects.{Scene}
use Rattle.keep_run.specs.Standing.{AreAskable, AreStates}
use Rattle.keep_run.specs.declared.stage.Stage.{Stage}

-- a stage shows this scene, where all stores tell
pub record IsSceneOf {S : Type 0} (config : Configuration) (stage : Stage S) (scene : Scene) : Type 0 where
  pub count : scene.count ≡ stage.cluster.made
  pub world : world_of stage.cluster ≡ Some scene.world
  pub names : AreStates config stage.names.entries scene.names

-- what a stage keeps to under its configuration: it has as many devices, and its open tasks may be asked
pub record IsStageOf {S : Type 0} (config : Configuration) (stage : Stage S) : Type 0 where
  pub devices : length stage.cluster.config.devices ≡ length config.devices
  pub askable : AreAskable (length config.devices) stage.names.entries

-- nothing was done yet
pub record IsFresh {S : Type 0} (config : Configuration) (stage : Stage S) : Type 0 where
  pub config_is : stage.cluster.config ≡ config
  pub made : stage.cluster.made ≡ 0
  pub names : stage.names.entries ≡ []

-- there are fewer names than actors
abbrev pub HasRoom : {S : Type 0} → Stage S → Type 0
HasRoom stage = length stage.names.entries < 2 ^ 32

-- a line adds two names at most
abbrev pub GrowsByLine : {S : Type 0} → Stage S → Stage S → Type 0
GrowsByLine old new = length new.names.entries ≤ length old.names.entries + 2
