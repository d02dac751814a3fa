-- What a line does, from what its command does: `empty-told`, `bad-told` and `memory-told` before there is a command; `written-told`, `stopped-told` and `refused-told` after it.
use Rattle.std.proofs.Common.{◌≡◌, ◌≢◌, ℕ, ◌+◌, Bool, true, false, List, [], ◌∷◌, ◌++◌, length, Option, None, Some, Ok, Err, Result, inl, inr, refl, sym, ◌∙◌, ap, subst, arith}
use Rattle.std.specs.Prelude.{option_and_then}
use Rattle.std.proofs.KnownBytes.{Appends-nil, Keeps-refl}
use Rattle.std.specs.Io.KnownBytes.{Appends}
use Rattle.keep_base.specs.Sources.{AppendsPrefix}
use Rattle.keep_spec.specs.Config.{Configuration}
use Rattle.keep_spec.specs.declared.status.Status.{Status}
use Rattle.keep_spec.specs.declared.status.Status.TheVariants as St
use Rattle.keep_history.specs.declared.task.Command.{Command}
use Rattle.keep_history.specs.Effects.{Scene, Effect, command_in, effect_of_command, effect_of_line, no_event}
use Rattle.keep_history.specs.Names.{seen_names}
use Rattle.keep_history.specs.Script.{command_of}
use Rattle.keep_run.specs.Commands.{HasEffect, HasPrinted, PartDone, IsStopped, IsWritten, IsCommandDone, IsCommandStopped, IsLineDone, line_done_by}
use Rattle.keep_run.specs.Scenes.{IsSceneOf}
use Rattle.keep_run.specs.Standing.{IsStanding}
use Rattle.keep_run.specs.declared.stage.Done.TheVariants as D
use Rattle.keep_run.specs.declared.stage.Stage.{Stage}
use Rattle.keep_run.proofs.Faults.{rise-none}
use Rattle.keep_run.proofs.Names.{same-seen}

pub not_empty : (text : List ℕ) → length text ≢ 0 → text ≢ []
not_empty text ne e = ne (ap length e)

pub is_empty : (text : List ℕ) → length text ≡ 0 → text ≡ []
is_empty [] e = refl
is_empty (x ∷ xs) e = absurd (omega arith)

effect-empty : (config : Configuration) (failed : List ℕ) (scene : Scene) (text : List ℕ) → text ≡ [] → effect_of_line config failed scene text ≡ Some (no_event scene [])
effect-empty config failed scene text e = rw e refl

effect-of : (config : Configuration) (failed : List ℕ) (scene : Scene) (text : List ℕ) (o : Option Command) → text ≢ [] → command_in config scene text ≡ o → effect_of_line config failed scene text ≡ option_and_then (effect_of_command config failed scene) o
effect-of config failed scene [] o ne e = absurd (ne refl)
effect-of config failed scene (x ∷ xs) o ne e = ap (option_and_then (effect_of_command config failed scene)) e

module _ (config : Configuration) (line : ℕ) (text : List ℕ) {S : Type 0} (old : Stage S) where
  abbrev f : Scene → List ℕ → Option Effect
  f scene failed = effect_of_line config failed scene text

  -- a scene reads the line as the stage does
  reads : (scene : Scene) (o : Option Command) → IsSceneOf config old scene → command_of config (seen_names old.names.entries) text ≡ o → command_in config scene text ≡ o
  reads scene o sc e = ap (λ names. command_of config names text) (sym (same-seen (IsStanding config) old.names.entries scene.names sc.names)) ∙ e

  same-made : (n : ℕ) → n ≡ n + 0
  same-made n = omega arith

  pub empty-told : (written : Option (List ℕ)) → text ≡ [] → IsLineDone config line text old old written written (Ok tt)
  empty-told written e scene sc = (
    record {
      effect = no_event scene [];
      is = λ others agree. effect-empty config others scene text e;
      numbered = tt;
      count_is = same-made scene.count;
      rise = rise-none _ _ (λ device. omega arith);
      scene_is = sc;
    },
    (refl, Appends-nil written),
  )

  pub bad-told : (n : ℕ) (written : Option (List ℕ)) → n ≡ line → text ≢ [] → command_of config (seen_names old.names.entries) text ≡ None → IsLineDone config line text old old written written (Err (St.BadLine n))
  bad-told n written number some e scene sc =
      (number, (record { none = λ failed. effect-of config failed scene text None some (reads scene None sc e); stays = sc.world }, Keeps-refl written))

  pub memory-told : (written : Option (List ℕ)) → IsLineDone config line text old old written written (Err St.NoMemory)
  memory-told written scene sc = (inl sc.world, Keeps-refl written)

  module _ (new : Stage S) (command : Command) (some : text ≢ []) (e : command_of config (seen_names old.names.entries) text ≡ Some command) where
    abbrev does : Scene → List ℕ → Option Effect
    does scene failed = effect_of_command config failed scene command

    same : (scene : Scene) → IsSceneOf config old scene → (failed : List ℕ) → f scene failed ≡ does scene failed
    same scene sc failed = effect-of config failed scene text (Some command) some (reads scene (Some command) sc e)

    line-effect : (scene : Scene) → IsSceneOf config old scene → HasEffect config scene old new (does scene) → HasEffect config scene old new (f scene)
    line-effect scene sc d = record {
      effect = d.effect;
      is = λ others agree. same scene sc others ∙ d.is others agree;
      numbered = d.numbered;
      count_is = d.count_is;
      rise = d.rise;
      scene_is = d.scene_is;
    }

    written-by : (spent : Bool) (scene : Scene) (before written : Option (List ℕ)) (out_before out : List ℕ) (r : Result (Unit {0}) Status) → IsSceneOf config old scene → out_before ≡ [] → HasPrinted config scene old new out_before out spent (does scene) → IsWritten spent before written out r → line_done_by config line scene old new before written r (f scene)
    unfolding line-effect
    written-by spent scene before written out_before out (Ok done) sc nil h (not_spent, a) =
        (line-effect scene sc h.done, (h.spent_is ∙ not_spent, subst (Appends before written) (h.out_is ∙ ap (λ v. v ++ h.done.effect.text) nil) a))
    written-by spent scene before written out_before out (Err St.PortFault) sc nil h (is_spent, a) =
        (line-effect scene sc h.done, (h.spent_is ∙ is_spent, subst (Appends before written) (h.out_is ∙ ap (λ v. v ++ h.done.effect.text) nil) a))
    written-by spent scene before written out_before out (Err St.WriteFault) sc nil h a =
        (line-effect scene sc h.done, subst (AppendsPrefix before written) (h.out_is ∙ ap (λ v. v ++ h.done.effect.text) nil) a)
    written-by spent scene before written out_before out (Err other) sc nil h a = absurd a

    -- the text was written, or a beginning of it
    pub whole-told : (before written : Option (List ℕ)) (out_before out bytes : List ℕ) (r : Result (Unit {0}) Status) → out_before ≡ [] → bytes ≡ out → IsCommandDone config command old new out_before out D.Whole → IsWritten false before written bytes r → IsLineDone config line text old new before written r
    whole-told before written out_before out bytes r nil same_bytes d w scene sc =
        written-by false scene before written out_before out r sc nil (d scene sc) (subst (λ v. IsWritten false before written v r) same_bytes w)

    pub spent-told : (before written : Option (List ℕ)) (out_before out bytes : List ℕ) (r : Result (Unit {0}) Status) → out_before ≡ [] → bytes ≡ out → IsCommandDone config command old new out_before out D.Spent → IsWritten true before written bytes r → IsLineDone config line text old new before written r
    spent-told before written out_before out bytes r nil same_bytes d w scene sc =
        written-by true scene before written out_before out r sc nil (d scene sc) (subst (λ v. IsWritten true before written v r) same_bytes w)

    pub refused-told : (n : ℕ) (written : Option (List ℕ)) (out_before out : List ℕ) → n ≡ line → IsCommandDone config command old new out_before out D.Refused → IsLineDone config line text old new written written (Err (St.BadLine n))
    refused-told n written out_before out number d scene sc =
        let r = d scene sc in
        (number, (record { none = λ failed. same scene sc failed ∙ r.none failed; stays = r.stays }, Keeps-refl written))

    part-line : (scene : Scene) → IsSceneOf config old scene → PartDone scene old.cluster new.cluster (does scene) → PartDone scene old.cluster new.cluster (f scene)
    part-line scene sc p = record {
      made = p.made;
      is = λ others agree. let q = p.is others agree in (q.0, (same scene sc others ∙ q.1.0, q.1.1));
      numbered = p.numbered;
      rise = p.rise;
      world_is = p.world_is;
    }

    pub stopped-told : (written : Option (List ℕ)) → IsCommandStopped config command old new → IsLineDone config line text old new written written (Err St.NoMemory)
    stopped-told written d scene sc = (by (d scene sc), Keeps-refl written)
      where
        by : IsStopped scene old.cluster new.cluster (does scene) → IsStopped scene old.cluster new.cluster (f scene)
        by (inl stays) = inl stays
        by (inr p) = inr (part-line scene sc p)
