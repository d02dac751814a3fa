-- What holds of every task that stands open, and of the world, is kept by a line, where it is kept by openings and by asking: `line-keeps`; and what a line does has what asking has: `line-gives`.
use Rattle.std.proofs.Common.{◌≡◌, ℕ, List, [], ◌∷◌, Option, None, Some, IfSome, Result, Ok, Err, refl, option_and_then}
use Rattle.std.specs.Prelude.{⊤, length}
use Rattle.keep_spec.specs.Config.{Configuration}
use Rattle.keep_event.specs.World.{World}
use Rattle.keep_history.specs.declared.task.Command.{Command}
use Rattle.keep_history.specs.declared.task.Command.TheVariants as C
use Rattle.keep_history.specs.declared.task.Outcome.{Outcome}
use Rattle.keep_history.specs.declared.task.Task.{Task}
use Rattle.keep_history.specs.declared.task.TaskState.{TaskState}
use Rattle.keep_history.specs.declared.task.TaskState.TheVariants as S
use Rattle.keep_history.specs.Effects.{Standing, Scene, Effect, Asked, asked_in, asked_effect, asking_effect, open_effect, effect_of_command, effect_of_line, command_in, step_turns, finish_turns, state_after, state_of}
use Rattle.keep_history.specs.Names.{at_name}
use Rattle.keep_history.specs.Tasks.{opened}
use Rattle.keep_history.proofs.Names.{AllNames, after-end, named, looked-up}
use Rattle.keep_history.proofs.Openings.{IsMade, OkHas, opened-has}

-- a task that stands open before any answer
abbrev pub fresh : Task → ℕ → Standing
fresh task actor = record { task = task; actor = actor; answers = [] }

module _ (c : Configuration) (failed : List ℕ) (W : World → Type 0) (P : Standing → Type 0) (L : Scene → Effect → Type 0) where
  abbrev pub StateHas : TaskState Standing → Type 0
  StateHas (S.Open s) = P s
  StateHas _ = ⊤

  pub record SceneHas (scene : Scene) : Type 0 where
    pub world : W scene.world
    pub names : AllNames StateHas scene.names

  -- what an opening makes may stand open
  abbrev pub Begins : Task → Type 0
  Begins task = (actor : ℕ) → P (fresh task actor)

  abbrev pub CommandHas : Command → Type 0
  CommandHas (C.Open name reading opening) = IsMade Begins c opening
  CommandHas (C.Step name reading) = ⊤
  CommandHas (C.Finish name reading) = ⊤

  abbrev pub GoesOn : Option Outcome → Standing → Type 0
  GoesOn None s = P s
  GoesOn (Some outcome) s = ⊤

  -- what asking a task leaves
  pub record AskedHas (scene : Scene) (name : List ℕ) (a : Asked) : Type 0 where
    pub world : W a.world
    pub standing : GoesOn a.outcome a.standing
    pub line : L scene (asked_effect scene name a)

  abbrev pub EffectHas : Option Effect → Type 0
  EffectHas o = IfSome o (λ e. SceneHas e.scene)

  module _ (asking : (turns reading : ℕ) (scene : Scene) (name : List ℕ) (s : Standing) → W scene.world → P s → AskedHas scene name (asked_in turns c failed reading scene s)) where
    after-has : (o : Outcome) → StateHas (state_after o)
    after-has o = after-end StateHas (λ locator. tt) (λ text. tt) tt o

    opened-scene : (scene : Scene) (name : List ℕ) (r : Result Task Outcome) → OkHas Begins r → SceneHas scene → SceneHas (open_effect scene name r).scene
    opened-scene scene name (Ok task) p h = record { world = h.world; names = named StateHas name (S.Open (fresh task (length scene.names))) scene.names (p (length scene.names)) h.names }
    opened-scene scene name (Err outcome) p h = record { world = h.world; names = named StateHas name (state_after outcome) scene.names (after-has outcome) h.names }

    state-has : (s : Standing) (o : Option Outcome) → GoesOn o s → StateHas (state_of s o)
    state-has s None h = h
    state-has s (Some outcome) h = after-has outcome

    asked-scene : (turns reading : ℕ) (scene : Scene) (name : List ℕ) (st : Option (TaskState Standing)) → IfSome st StateHas → SceneHas scene → EffectHas (asking_effect turns c failed scene name reading st)
    asked-scene turns reading scene name (Some (S.Open s)) p h =
        let a = asked_in turns c failed reading scene s in
        let k = asking turns reading scene name s h.world p in
        record { world = k.world; names = named StateHas name (state_of a.standing a.outcome) scene.names (state-has a.standing a.outcome k.standing) h.names }
    asked-scene turns reading scene name _ p h = tt

    done-scene : (scene : Scene) (command : Command) → CommandHas command → SceneHas scene → EffectHas (effect_of_command c failed scene command)
    unfolding effect_of_command
    done-scene scene (C.Open name reading opening) p h = opened-scene scene name (opened c opening reading) (opened-has Begins c opening reading p) h
    done-scene scene (C.Step name reading) p h = asked-scene step_turns reading scene name (at_name name scene.names) (looked-up StateHas name scene.names h.names) h
    done-scene scene (C.Finish name reading) p h = asked-scene finish_turns reading scene name (at_name name scene.names) (looked-up StateHas name scene.names h.names) h

    given-scene : (scene : Scene) (o : Option Command) → IfSome o CommandHas → SceneHas scene → EffectHas (option_and_then (effect_of_command c failed scene) o)
    given-scene scene None p h = tt
    given-scene scene (Some command) p h = done-scene scene command p h

    pub line-keeps : (scene : Scene) (text : List ℕ) → IfSome (command_in c scene text) CommandHas → SceneHas scene → EffectHas (effect_of_line c failed scene text)
    line-keeps scene [] p h = h
    line-keeps scene (x ∷ xs) p h = given-scene scene (command_in c scene (x ∷ xs)) p h

    module _ (quiet : (scene : Scene) (e : Effect) → e.made ≡ [] → e.ended ≡ None → L scene e) where
      opened-line : (scene : Scene) (name : List ℕ) (r : Result Task Outcome) → L scene (open_effect scene name r)
      opened-line scene name (Ok task) = quiet scene _ refl refl
      opened-line scene name (Err outcome) = quiet scene _ refl refl

      asked-line : (turns reading : ℕ) (scene : Scene) (name : List ℕ) (st : Option (TaskState Standing)) → IfSome st StateHas → SceneHas scene → IfSome (asking_effect turns c failed scene name reading st) (L scene)
      asked-line turns reading scene name (Some (S.Open s)) p h =
          let k = asking turns reading scene name s h.world p in
          k.line
      asked-line turns reading scene name _ p h = tt

      done-line : (scene : Scene) (command : Command) → SceneHas scene → IfSome (effect_of_command c failed scene command) (L scene)
      unfolding effect_of_command
      done-line scene (C.Open name reading opening) h = opened-line scene name (opened c opening reading)
      done-line scene (C.Step name reading) h = asked-line step_turns reading scene name (at_name name scene.names) (looked-up StateHas name scene.names h.names) h
      done-line scene (C.Finish name reading) h = asked-line finish_turns reading scene name (at_name name scene.names) (looked-up StateHas name scene.names h.names) h

      given-line : (scene : Scene) (o : Option Command) → SceneHas scene → IfSome (option_and_then (effect_of_command c failed scene) o) (L scene)
      given-line scene None h = tt
      given-line scene (Some command) h = done-line scene command h

      pub line-gives : (scene : Scene) (text : List ℕ) → SceneHas scene → IfSome (effect_of_line c failed scene text) (L scene)
      line-gives scene [] h = quiet scene _ refl refl
      line-gives scene (x ∷ xs) h = given-line scene (command_in c scene (x ∷ xs)) h

pub both-some : {X : Type 0} (A B : X → Type 0) (o : Option X) → IfSome o A → IfSome o B → IfSome o (λ x. A x × B x)
both-some A B None a b = tt
both-some A B (Some x) a b = (a, b)

pub some-more : {X : Type 0} (A B : X → Type 0) (o : Option X) → ((x : X) → A x → B x) → IfSome o A → IfSome o B
some-more A B None f a = tt
some-more A B (Some x) f a = f x a
