-- What a command does, in the words of its effect: `does-open` for an opening; `does-ask`, `asked-part`, `stops-ask` and `refuses-ask` for a name that is asked; `step-if`, `step-unless`, `finish-if` and `finish-unless`; `done-put`. Open tasks may be asked: `found-askable`, `opened-askable` and `put-askable`.
use Rattle.std.proofs.Common.{◌≡◌, ℕ, ◌+◌, false, List, [], ◌++◌, length, Option, None, Some, IfSome, Result, Ok, Err, IfOk, OnErr, refl, sym, ◌∙◌, ap, subst, arith, append_assoc}
use Rattle.std.proofs.lemmas.List.{take_all}
use Rattle.keep_spec.specs.Config.{Configuration}
use Rattle.keep_spec.specs.declared.memory.NoMemory.{NoMemory}
use Rattle.keep_cluster.specs.Cluster.{View, world_of, faults_at}
use Rattle.keep_history.specs.declared.task.Command.TheVariants as C
use Rattle.keep_history.specs.declared.task.Opening.{Opening}
use Rattle.keep_history.specs.declared.task.Outcome.{Outcome}
use Rattle.keep_history.specs.declared.task.Task.{Task}
use Rattle.keep_history.specs.declared.task.TaskState.{TaskState}
use Rattle.keep_history.specs.declared.task.TaskState.TheVariants as S
use Rattle.keep_history.specs.Effects.{Scene, Effect, Made, Asked, Standing, open_effect, asked_effect, asked_in, asked_on, asking_effect, effect_of_command, state_of, state_after, event_lines, line_of_end, step_turns, finish_turns}
use Rattle.keep_history.specs.Names.{at_name, with_name}
use Rattle.keep_history.specs.Tasks.{opened, next}
use Rattle.keep_running.specs.Running.{stands, has_ended, may_ask}
use Rattle.keep_steps.specs.Steps.{IsOpened, IsReady}
use Rattle.keep_running.specs.declared.running.AnyTask.{AnyTask}
use Rattle.keep_steps.specs.declared.steps.Opened.{Opened}
use Rattle.keep_steps.specs.declared.steps.Opened.TheVariants as P
use Rattle.keep_run.specs.Asked.{HasAsked, DoesTurns, StopsTurns, asking, outcome_of, is_spent}
use Rattle.keep_run.specs.Commands.{HasPrinted, IsRefused, PartDone, done_by, IsCommandDone, IsCommandStopped, IsAskingDone, IsAskingStopped, state_opened, text_opened, state_put, done_of}
use Rattle.keep_run.specs.Faults.{Agrees, AreNumbered, Rise}
use Rattle.keep_run.specs.Named.{SameState, SameLookup, SameNames, open_task_of}
use Rattle.keep_run.specs.Scenes.{IsSceneOf}
use Rattle.keep_run.specs.Standing.{IsAskable, IsAskableState, IsStanding}
use Rattle.keep_run.specs.declared.asking.Open.{Open}
use Rattle.keep_run.specs.declared.asking.Turned.{Turned}
use Rattle.keep_run.specs.declared.asking.Turned.TheVariants as T
use Rattle.keep_run.specs.declared.stage.Done.{Done}
use Rattle.keep_run.specs.declared.stage.Stage.{Stage}
use Rattle.keep_run.proofs.Faults.{rise-none}
use Rattle.keep_run.proofs.Names.{after-end, same-after, same-length, same-lookup, same-with}

-- ---- tasks that may be asked

module _ (devices : ℕ) where
  pub found-askable : (o : Option (TaskState Open)) (t : Open) → IfSome o (IsAskableState devices) → open_task_of o ≡ Some t → IsAskable devices t
  found-askable None t p e = absurd cc
  found-askable (Some (S.Open u)) t p e = subst (IsAskable devices) (same e) p
    where
      same : Some u ≡ Some t → u ≡ t
      same e = cc
  found-askable (Some (S.Located locator)) t p e = absurd cc
  found-askable (Some (S.Row text)) t p e = absurd cc
  found-askable (Some S.Ended) t p e = absurd cc

  after-askable : (o : Outcome) → IsAskableState devices (state_after o)
  after-askable o = after-end (IsAskableState devices) (λ locator. tt) (λ text. tt) tt o

  pub put-askable : (turned : Turned) (t : Open) → (outcome_of turned ≡ None → IsAskable devices t) → IsAskableState devices (state_put t turned)
  put-askable (T.Ended outcome) t h = after-askable outcome
  put-askable T.Asks t h = h refl
  put-askable T.Spent t h = h refl

abbrev pub Ready : Configuration → AnyTask → Task → Type 0
Ready config t task = IsReady (has_ended t) (stands t) (may_ask t) config task

pub opened-askable : (config : Configuration) (r : Result Task Outcome) (o : Opened AnyTask) (actor : ℕ) → IsOpened r o (Ready config) → IsAskableState (length config.devices) (state_opened actor o)
opened-askable config (Ok task) (P.Task t) actor h = record { not_ended = h.0; devices_are = h.1.1 }
opened-askable config (Err outcome) (P.Ended ended) actor h = after-askable (length config.devices) ended
opened-askable config (Ok task) (P.Ended ended) actor h = absurd h
opened-askable config (Err outcome) (P.Task t) actor h = absurd h

-- ---- names that were looked up

module _ {T U : Type 0} (R : T → U → Type 0) where
  found-by : (t : T) (x : Option (TaskState T)) (y : Option (TaskState U)) → SameLookup R x y → open_task_of x ≡ Some t → (u : U) × ((y ≡ Some (S.Open u)) × R t u)
  found-by t (Some (S.Open v)) (Some (S.Open u)) h e = (u, (refl, subst (λ z. R z u) (same e) h))
    where
      same : Some v ≡ Some t → v ≡ t
      same e = cc
  found-by t (Some (S.Open v)) (Some (S.Located a)) h e = absurd h
  found-by t (Some (S.Open v)) (Some (S.Row a)) h e = absurd h
  found-by t (Some (S.Open v)) (Some S.Ended) h e = absurd h
  found-by t (Some (S.Open v)) None h e = absurd h
  found-by t (Some (S.Located a)) y h e = absurd cc
  found-by t (Some (S.Row a)) y h e = absurd cc
  found-by t (Some S.Ended) y h e = absurd cc
  found-by t None y h e = absurd cc

none-asks : {T : Type 0} (R : T → Standing → Type 0) (turns : ℕ) (c : Configuration) (failed : List ℕ) (scene : Scene) (name : List ℕ) (reading : ℕ) (x : Option (TaskState T)) (y : Option (TaskState Standing)) → SameLookup R x y → open_task_of x ≡ None → asking_effect turns c failed scene name reading y ≡ None
none-asks R turns c failed scene name reading (Some (S.Open v)) y h e = absurd cc
none-asks R turns c failed scene name reading (Some (S.Located a)) (Some (S.Open u)) h e = absurd h
none-asks R turns c failed scene name reading (Some (S.Row a)) (Some (S.Open u)) h e = absurd h
none-asks R turns c failed scene name reading (Some S.Ended) (Some (S.Open u)) h e = absurd h
none-asks R turns c failed scene name reading None (Some y) h e = absurd h
none-asks R turns c failed scene name reading x (Some (S.Located a)) h e = refl
none-asks R turns c failed scene name reading x (Some (S.Row a)) h e = refl
none-asks R turns c failed scene name reading x (Some S.Ended) h e = refl
none-asks R turns c failed scene name reading x None h e = refl

module _ {X : Type 0} (config : Configuration) (old new : Stage X) (scene : Scene) (sc : IsSceneOf config old scene) where
  -- ---- openings

  abbrev opens : List ℕ → ℕ → Opening → List ℕ → Option Effect
  opens name reading opening failed = effect_of_command config failed scene (C.Open name reading opening)

  effect-open : (name : List ℕ) (reading : ℕ) (opening : Opening) (others : List ℕ) → opens name reading opening others ≡ Some (open_effect scene name (opened config opening reading))
  unfolding effect_of_command
  effect-open name reading opening others = refl

  same-rise : new.cluster ≡ old.cluster → Rise [] (faults_at old.cluster.devices) (faults_at new.cluster.devices)
  same-rise same = rise-none _ _ (λ device. omega (arith, ap (λ (v : View). faults_at v.devices device) same))

  set-scene : (name : List ℕ) (x : TaskState Open) (y : TaskState Standing) → SameState (IsStanding config) x y → new.cluster ≡ old.cluster → new.names.entries ≡ with_name name x old.names.entries → IsSceneOf config new (record { count = scene.count; world = scene.world; names = with_name name y scene.names })
  set-scene name x y rel same set = record {
    count = sc.count ∙ ap (λ (v : View). v.made) (sym same);
    world = ap world_of same ∙ sc.world;
    names = subst (λ ns. SameNames (IsStanding config) ns (with_name name y scene.names)) (sym set) (same-with (IsStanding config) name x y rel old.names.entries scene.names sc.names);
  }

  opens-by : (name : List ℕ) (reading : ℕ) (opening : Opening) (r : Result Task Outcome) (o : Opened AnyTask) (actor : ℕ) (out_before out : List ℕ) → opened config opening reading ≡ r → IsOpened r o (Ready config) → actor ≡ length old.names.entries → new.cluster ≡ old.cluster → new.names.entries ≡ with_name name (state_opened actor o) old.names.entries → out ≡ out_before ++ text_opened name o → HasPrinted config scene old new out_before out false (opens name reading opening)
  opens-by name reading opening (Ok task) (P.Task t) actor out_before out is h a same set e = record {
    done = record {
      effect = open_effect scene name (Ok task);
      is = λ others agree. effect-open name reading opening others ∙ ap (λ v. Some (open_effect scene name v)) is;
      numbered = tt;
      count_is = plus-none scene.count;
      rise = same-rise same;
      scene_is = set-scene name (S.Open (record { task = t; actor = actor })) (S.Open (record { task = task; actor = length scene.names; answers = [] })) (record {
        actor = sym (same-length (IsStanding config) old.names.entries scene.names sc.names) ∙ sym a;
        stands_there = h.1.0;
      }) same set;
    };
    spent_is = refl;
    out_is = e;
  }
    where
      plus-none : (n : ℕ) → n ≡ n + 0
      plus-none n = omega arith
  opens-by name reading opening (Err outcome) (P.Ended ended) actor out_before out is h a same set e = record {
    done = record {
      effect = open_effect scene name (Err outcome);
      is = λ others agree. effect-open name reading opening others ∙ ap (λ v. Some (open_effect scene name v)) is;
      numbered = tt;
      count_is = plus-none scene.count;
      rise = same-rise same;
      scene_is = set-scene name (state_after outcome) (state_after outcome) (same-after (IsStanding config) outcome) same (set ∙ ap (λ v. with_name name (state_after v) old.names.entries) h);
    };
    spent_is = refl;
    out_is = e ∙ ap (λ v. out_before ++ text_opened name (P.Ended v)) h;
  }
    where
      plus-none : (n : ℕ) → n ≡ n + 0
      plus-none n = omega arith
  opens-by name reading opening (Ok task) (P.Ended ended) actor out_before out is h a same set e = absurd h
  opens-by name reading opening (Err outcome) (P.Task t) actor out_before out is h a same set e = absurd h

  pub does-open : (name : List ℕ) (reading : ℕ) (opening : Opening) (o : Opened AnyTask) (actor : ℕ) (out_before out : List ℕ) → IsOpened (opened config opening reading) o (Ready config) → actor ≡ length old.names.entries → new.cluster ≡ old.cluster → new.names.entries ≡ with_name name (state_opened actor o) old.names.entries → out ≡ out_before ++ text_opened name o → HasPrinted config scene old new out_before out false (opens name reading opening)
  does-open name reading opening o actor out_before out h a same set e = opens-by name reading opening (opened config opening reading) o actor out_before out refl h a same set e

  -- ---- names that are asked

  module _ (turns : ℕ) (name : List ℕ) (reading : ℕ) where
    abbrev asks_name : List ℕ → Option Effect
    asks_name failed = asking_effect turns config failed scene name reading (at_name name scene.names)

    lookup : SameLookup (IsStanding config) (at_name name old.names.entries) (at_name name scene.names)
    lookup = same-lookup (IsStanding config) name old.names.entries scene.names sc.names

    pub refuses-ask : open_task_of (at_name name old.names.entries) ≡ None → world_of new.cluster ≡ world_of old.cluster → IsRefused scene new.cluster asks_name
    refuses-ask none same = record {
      none = λ failed. none-asks (IsStanding config) turns config failed scene name reading (at_name name old.names.entries) (at_name name scene.names) lookup none;
      stays = same ∙ sc.world;
    }

    module _ (mid : View) (e : mid ≡ record old.cluster { reading = reading }) (open_old : Open) (there : open_task_of (at_name name old.names.entries) ≡ Some open_old) where
      found : (s : Standing) × ((at_name name scene.names ≡ Some (S.Open s)) × IsStanding config open_old s)
      found = found-by (IsStanding config) open_old (at_name name old.names.entries) (at_name name scene.names) lookup there

      abbrev standing : Standing
      standing = found.0

      told : world_of mid ≡ Some scene.world
      told = ap world_of e ∙ sc.world

      made-is : scene.count ≡ mid.made
      made-is = sc.count ∙ ap (λ (v : View). v.made) (sym e)

      faults-are : (made : List Made) (now : ℕ → ℕ) → Rise made (faults_at mid.devices) now → Rise made (faults_at old.cluster.devices) now
      faults-are made now h = subst (λ (v : View). Rise made (faults_at v.devices) now) e h

      numbered-are : (made : List Made) → AreNumbered mid.made made → AreNumbered scene.count made
      numbered-are made h = subst (λ n. AreNumbered n made) (sym made-is) h

      asked-same : (others : List ℕ) → asked_in turns config others reading scene standing ≡ asking turns config mid scene.world standing others
      asked-same others =
          ap (λ r. asked_on turns config others r scene.count scene.world standing (next config standing.task standing.answers)) (ap (λ (v : View). v.reading) (sym e))
          ∙ ap (λ n. asked_on turns config others mid.reading n scene.world standing (next config standing.task standing.answers)) made-is

      effect-is : (others : List ℕ) → asks_name others ≡ Some (asked_effect scene name (asking turns config mid scene.world standing others))
      effect-is others = ap (asking_effect turns config others scene name reading) found.1.0 ∙ ap (λ a. Some (asked_effect scene name a)) (asked-same others)

      pub stops-ask : StopsTurns turns mid new.cluster open_old → PartDone scene old.cluster new.cluster asks_name
      stops-ask stops =
          let p = stops config scene.world standing told found.1.1 in
          record {
            made = p.made;
            is = λ others agree. (asked_effect scene name (asking turns config mid scene.world standing others), (effect-is others, p.is others agree));
            numbered = numbered-are p.made p.numbered;
            rise = faults-are p.made _ p.rise;
            world_is = p.world_is;
          }

      module _ (open_new : Open) (turned : Turned) (out_before out1 : List ℕ) (does : DoesTurns turns mid new.cluster open_old open_new name out_before out1 turned) where
        h : HasAsked config mid new.cluster scene.world open_new name out_before out1 turned (asking turns config mid scene.world standing)
        h = does config scene.world standing told found.1.1

        abbrev a : Asked
        a = h.asked

        effect-asked : (others : List ℕ) → Agrees others a.made → asks_name others ≡ Some (asked_effect scene name a)
        effect-asked others agree = effect-is others ∙ ap (λ v. Some (asked_effect scene name v)) (h.is others agree)

        -- all of it was asked, and so its first events were
        pub asked-part : PartDone scene old.cluster new.cluster asks_name
        asked-part = record {
          made = a.made;
          is = λ others agree. (asked_effect scene name a, (effect-asked others agree, take_all (length a.made) a.made (omega arith)));
          numbered = numbered-are a.made h.numbered;
          rise = faults-are a.made _ h.rise;
          world_is = h.world_is ∙ ap Some h.left_is;
        }

        put-same : (t : Turned) → a.outcome ≡ outcome_of t → SameState (IsStanding config) (state_put open_new t) (state_of a.standing a.outcome)
        put-same (T.Ended o) is = subst (λ x. SameState (IsStanding config) (state_after o) (state_of a.standing x)) (sym is) (same-after (IsStanding config) o)
        put-same T.Asks is = subst (λ x. SameState (IsStanding config) (S.Open open_new) (state_of a.standing x)) (sym is) (h.standing is)
        put-same T.Spent is = subst (λ x. SameState (IsStanding config) (S.Open open_new) (state_of a.standing x)) (sym is) (h.standing is)

        pub does-ask : (out : List ℕ) → new.names.entries ≡ with_name name (state_put open_new turned) old.names.entries → out ≡ out1 ++ line_of_end name (outcome_of turned) → HasPrinted config scene old new out_before out (is_spent turned) asks_name
        does-ask out set printed = record {
          done = record {
            effect = asked_effect scene name a;
            is = effect-asked;
            numbered = numbered-are a.made h.numbered;
            count_is = refl;
            rise = faults-are a.made _ h.rise;
            scene_is = record {
              count = ap (λ n. n + length a.made) made-is ∙ sym h.count_is;
              world = h.world_is;
              names = subst (λ ns. SameNames (IsStanding config) ns (with_name name (state_of a.standing a.outcome) scene.names)) (sym set)
                  (same-with (IsStanding config) name (state_put open_new turned) (state_of a.standing a.outcome) (put-same turned h.outcome_is) old.names.entries scene.names sc.names);
            };
          };
          spent_is = h.spent_is;
          out_is = printed ∙ ap (λ v. v ++ line_of_end name (outcome_of turned)) h.out_is ∙ append_assoc out_before (event_lines name a.made) (line_of_end name (outcome_of turned)) ∙ ap (λ o. out_before ++ (event_lines name a.made ++ line_of_end name o)) (sym h.outcome_is);
        }

  -- a command that was done, by how its turns stopped
  pub done-put : (turned : Turned) (out_before out : List ℕ) (f : List ℕ → Option Effect) → HasPrinted config scene old new out_before out (is_spent turned) f → done_by config scene old new out_before out (done_of turned) f
  done-put (T.Ended outcome) out_before out f h = h
  done-put T.Asks out_before out f h = h
  done-put T.Spent out_before out f h = h

-- ---- commands

module _ {X : Type 0} (config : Configuration) (old new : Stage X) (name : List ℕ) (reading : ℕ) where
  pub step-done : (out_before out : List ℕ) (done : Done) → IsAskingDone step_turns config name reading old new out_before out done → IsCommandDone config (C.Step name reading) old new out_before out done
  unfolding effect_of_command
  step-done out_before out done h = h

  pub step-stopped : IsAskingStopped step_turns config name reading old new → IsCommandStopped config (C.Step name reading) old new
  unfolding effect_of_command
  step-stopped h = h

  pub finish-done : (out_before out : List ℕ) (done : Done) → IsAskingDone finish_turns config name reading old new out_before out done → IsCommandDone config (C.Finish name reading) old new out_before out done
  unfolding effect_of_command
  finish-done out_before out done h = h

  pub finish-stopped : IsAskingStopped finish_turns config name reading old new → IsCommandStopped config (C.Finish name reading) old new
  unfolding effect_of_command
  finish-stopped h = h

  pub step-if : (out_before out : List ℕ) (r : Result Done NoMemory) → IfOk r (IsAskingDone step_turns config name reading old new out_before out) → IfOk r (IsCommandDone config (C.Step name reading) old new out_before out)
  step-if out_before out (Ok d) h = step-done out_before out d h
  step-if out_before out (Err e) h = tt

  pub step-unless : (r : Result Done NoMemory) → OnErr r (IsAskingStopped step_turns config name reading old new) → OnErr r (IsCommandStopped config (C.Step name reading) old new)
  step-unless (Ok d) h = tt
  step-unless (Err e) h = step-stopped h

  pub finish-if : (out_before out : List ℕ) (r : Result Done NoMemory) → IfOk r (IsAskingDone finish_turns config name reading old new out_before out) → IfOk r (IsCommandDone config (C.Finish name reading) old new out_before out)
  finish-if out_before out (Ok d) h = finish-done out_before out d h
  finish-if out_before out (Err e) h = tt

  pub finish-unless : (r : Result Done NoMemory) → OnErr r (IsAskingStopped finish_turns config name reading old new) → OnErr r (IsCommandStopped config (C.Finish name reading) old new)
  finish-unless (Ok d) h = tt
  finish-unless (Err e) h = finish-stopped h
