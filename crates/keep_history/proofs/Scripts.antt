-- How the run of a whole script ends: `script-done` by itself, `ends-whole` however it was stopped.
use Rattle.std.proofs.Common.{◌≡◌, ℕ, ◌+◌, Bool, true, false, List, [], ◌∷◌, length, Option, None, Some, refl, ◌∙◌, ap}
use Rattle.std.specs.Prelude.{IsSomeAnd, if◌then◌else◌, take}
use Rattle.keep_spec.specs.Config.{Configuration}
use Rattle.keep_spec.specs.Lines.{Verdict, fits, line_too_long, input_too_long, cut, text_of}
use Rattle.keep_spec.specs.declared.status.Status.{Status}
use Rattle.keep_spec.specs.declared.status.Status.TheVariants as St
use Rattle.keep_history.specs.Effects.{Effect, effect_of_line}
use Rattle.keep_history.specs.Ended.{Begun, HowEnded, Work, begun_of, begun_by, effect_within}
use Rattle.keep_history.specs.Run.{End, Kept, Progress, and_then, at_start, by_verdict, config_for, ended_by, first_filled, run_from, run_lines, run_of, run_opened, run_pieces, verdict_on}
use Rattle.keep_history.specs.Whole.{AreScriptLines, EndsWhole, IsScript}
use Rattle.keep_spec.specs.declared.config.Field.{Field}
use Rattle.std.proofs.Common.{Result, Ok, Err}

-- a run is done, with something
abbrev pub IsDone : End → Type 0
IsDone end = (p : Progress) × (end ≡ ended_by St.Done p)

lines-done : (c : Configuration) (failed : List ℕ) (taken number : ℕ) (sofar : Progress) (pieces : List (List ℕ)) → AreScriptLines c failed taken sofar pieces → IsDone (run_lines c failed taken number sofar pieces)
unfolding run_lines
lines-done c failed taken number sofar [] h = (sofar, refl)
lines-done c failed taken number sofar (piece ∷ rest) h =
    by (λ e k. lines-done c failed (taken + length piece) (number + 1) (and_then sofar e) rest k) (verdict_on taken piece) (effect_of_line c failed sofar.scene (text_of piece)) h
  where
    go : Progress → End
    go after = run_lines c failed (taken + length piece) (number + 1) after rest

    unless : (e : Effect) (spent : Bool) → spent ≡ false → IsDone (go (and_then sofar e)) → IsDone (if spent then ended_by St.PortFault (and_then sofar e) else go (and_then sofar e))
    unless e true s d = absurd (no s)
      where
        no : true ≡ false → ⊥
        no s = cc
    unless e false s d = d

    by : ((e : Effect) → AreScriptLines c failed (taken + length piece) (and_then sofar e) rest → IsDone (go (and_then sofar e))) → (v : Verdict) (o : Option Effect) → IsSomeAnd (effect_within v o) (λ e. (e.spent ≡ false) × AreScriptLines c failed (taken + length piece) (and_then sofar e) rest) → IsDone (by_verdict v (number + 1) sofar o go)
    by ih fits None k = absurd k
    by ih fits (Some e) k = unless e e.spent k.0 (ih e k.1)
    by ih line_too_long o k = absurd k
    by ih input_too_long o k = absurd k

pub script-done : (failed : List ℕ) (starts : List Kept) (bytes : List ℕ) → IsScript failed starts bytes → IsDone (run_of failed starts bytes)
unfolding run_of
script-done failed starts bytes s = by (cut bytes) s.begins
  where
    none : {x : Begun} → None ≡ Some x → ⊥
    none e = cc

    from : (taken : ℕ) (rest : List (List ℕ)) (v : Verdict) (r : Result Configuration Field) → begun_by taken rest v r ≡ Some s.begun → IsDone (run_from v r failed taken starts rest)
    from taken rest fits (Ok c) e = opened taken rest c (same e)
      where
        same : {x y : Begun} → Some x ≡ Some y → x ≡ y
        same e = cc

        opened : (taken : ℕ) (rest : List (List ℕ)) (c : Configuration) → record { config = c; taken = taken; rest = rest } ≡ s.begun → IsDone (run_opened c failed taken (first_filled (take (length c.devices) starts)) rest)
        opened taken rest c e = rw (ap (λ (b : Begun). b.config) e, ap (λ (b : Begun). b.taken) e, ap (λ (b : Begun). b.rest) e, s.empty) (lines-done s.begun.config failed s.begun.taken 1 (at_start s.begun.config) s.begun.rest s.lines)
    from taken rest fits (Err field) e = absurd (none e)
    from taken rest line_too_long r e = absurd (none e)
    from taken rest input_too_long r e = absurd (none e)

    by : (pieces : List (List ℕ)) → begun_of (length starts) pieces ≡ Some s.begun → IsDone (run_pieces failed starts pieces)
    by [] e = absurd (none e)
    by (piece ∷ rest) e = from (length piece) rest (verdict_on 0 piece) (config_for (length starts) (text_of piece)) e

pub ends-whole : (status : Status) (failed : List ℕ) (starts : List Kept) (bytes : List ℕ) (unread : Option (List ℕ)) (work : Work) → IsScript failed starts bytes → HowEnded status failed starts bytes unread work → EndsWhole status
ends-whole St.Done failed starts bytes unread work s h = tt
ends-whole St.NoMemory failed starts bytes unread work s h = tt
ends-whole St.ReadFault failed starts bytes unread work s h = tt
ends-whole St.WriteFault failed starts bytes unread work s h = tt
ends-whole (St.StoreFault device) failed starts bytes unread work s h = tt
ends-whole (St.BadConfig field) failed starts bytes unread work s h = absurd (other h.0 (script-done failed starts bytes s))
  where
    other : St.BadConfig field ≡ (run_of failed starts bytes).status → IsDone (run_of failed starts bytes) → ⊥
    other e d = let f : St.BadConfig field ≡ St.Done = e ∙ ap (λ (x : End). x.status) d.1 in cc
ends-whole (St.BadLine n) failed starts bytes unread work s h = absurd (other h.0 (script-done failed starts bytes s))
  where
    other : St.BadLine n ≡ (run_of failed starts bytes).status → IsDone (run_of failed starts bytes) → ⊥
    other e d = let f : St.BadLine n ≡ St.Done = e ∙ ap (λ (x : End). x.status) d.1 in cc
ends-whole (St.LineTooLong n) failed starts bytes unread work s h = absurd (other h.0 (script-done failed starts bytes s))
  where
    other : St.LineTooLong n ≡ (run_of failed starts bytes).status → IsDone (run_of failed starts bytes) → ⊥
    other e d = let f : St.LineTooLong n ≡ St.Done = e ∙ ap (λ (x : End). x.status) d.1 in cc
ends-whole St.InputTooLong failed starts bytes unread work s h = absurd (other h.0 (script-done failed starts bytes s))
  where
    other : St.InputTooLong ≡ (run_of failed starts bytes).status → IsDone (run_of failed starts bytes) → ⊥
    other e d = let f : St.InputTooLong ≡ St.Done = e ∙ ap (λ (x : End). x.status) d.1 in cc
ends-whole (St.NotEmpty device) failed starts bytes unread work s h = absurd (other h.0 (script-done failed starts bytes s))
  where
    other : St.NotEmpty device ≡ (run_of failed starts bytes).status → IsDone (run_of failed starts bytes) → ⊥
    other e d = let f : St.NotEmpty device ≡ St.Done = e ∙ ap (λ (x : End). x.status) d.1 in cc
ends-whole St.PortFault failed starts bytes unread work s h = absurd (other h.0 (script-done failed starts bytes s))
  where
    other : St.PortFault ≡ (run_of failed starts bytes).status → IsDone (run_of failed starts bytes) → ⊥
    other e d = let f : St.PortFault ≡ St.Done = e ∙ ap (λ (x : End). x.status) d.1 in cc
ends-whole _ failed starts bytes unread work s h = absurd h
