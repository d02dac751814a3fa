-- The run of lines, one after another: `run-end`, `run-step`, `run-spent`, `run-bad`, `run-long` and `run-large` for what comes next; `place-more` for the place after one line more; `piece-effect`.
use Rattle.std.proofs.Common.{◌≡◌, ℕ, zero, suc, ◌+◌, Bool, true, false, List, [], ◌∷◌, length, Option, None, Some, refl, sym, ◌∙◌, ap, subst}
use Rattle.std.specs.Prelude.{option_and_then, if◌then◌else◌}
use Rattle.keep_spec.specs.Config.{Configuration}
use Rattle.keep_spec.specs.Lines.{text_of, Verdict, fits, line_too_long, input_too_long}
use Rattle.keep_spec.specs.declared.status.Status.TheVariants as St
use Rattle.keep_history.specs.Effects.{Effect, effect_of_line}
use Rattle.keep_history.specs.Ended.{Place, place_at, place_after, effect_of_piece, effect_within, with_line}
use Rattle.keep_history.specs.Run.{Progress, End, ended_by, and_then, verdict_on, run_lines, by_verdict}

module _ (c : Configuration) (failed : List ℕ) where
  pub run-end : (taken number : ℕ) (sofar : Progress) → run_lines c failed taken number sofar [] ≡ ended_by St.Done sofar
  unfolding run_lines
  run-end taken number sofar = refl

  abbrev runs : ℕ → ℕ → Progress → List (List ℕ) → End
  runs taken number sofar pieces = run_lines c failed taken number sofar pieces

  -- the next piece, by its verdict and its effect
  run-by : (taken number : ℕ) (sofar : Progress) (piece : List ℕ) (rest : List (List ℕ)) (v : Verdict) (o : Option Effect) → verdict_on taken piece ≡ v → effect_of_line c failed sofar.scene (text_of piece) ≡ o → runs taken number sofar (piece ∷ rest) ≡ by_verdict v (number + 1) sofar o (λ after. runs (taken + length piece) (number + 1) after rest)
  unfolding run_lines
  run-by taken number sofar piece rest v o e f =
      ap (λ x. by_verdict x (number + 1) sofar (effect_of_line c failed sofar.scene (text_of piece)) (λ after. runs (taken + length piece) (number + 1) after rest)) e
      ∙ ap (λ x. by_verdict v (number + 1) sofar x (λ after. runs (taken + length piece) (number + 1) after rest)) f

  module _ (taken number : ℕ) (sofar : Progress) (piece : List ℕ) (rest : List (List ℕ)) where
    abbrev next_run : Progress → End
    next_run after = runs (taken + length piece) (number + 1) after rest

    abbrev after_spent : Effect → Bool → End
    after_spent e spent = if spent then ended_by St.PortFault (and_then sofar e) else next_run (and_then sofar e)

    pub run-step : (e : Effect) → verdict_on taken piece ≡ fits → effect_of_line c failed sofar.scene (text_of piece) ≡ Some e → e.spent ≡ false → runs taken number sofar (piece ∷ rest) ≡ next_run (and_then sofar e)
    run-step e v f s = run-by taken number sofar piece rest fits (Some e) v f ∙ ap (after_spent e) s

    pub run-spent : (e : Effect) → verdict_on taken piece ≡ fits → effect_of_line c failed sofar.scene (text_of piece) ≡ Some e → e.spent ≡ true → runs taken number sofar (piece ∷ rest) ≡ ended_by St.PortFault (and_then sofar e)
    run-spent e v f s = run-by taken number sofar piece rest fits (Some e) v f ∙ ap (after_spent e) s

    pub run-bad : verdict_on taken piece ≡ fits → effect_of_line c failed sofar.scene (text_of piece) ≡ None → runs taken number sofar (piece ∷ rest) ≡ ended_by (St.BadLine (number + 1)) sofar
    run-bad v f = run-by taken number sofar piece rest fits None v f

    pub run-long : verdict_on taken piece ≡ line_too_long → runs taken number sofar (piece ∷ rest) ≡ ended_by (St.LineTooLong (number + 1)) sofar
    run-long v = run-by taken number sofar piece rest line_too_long _ v refl

    pub run-large : verdict_on taken piece ≡ input_too_long → runs taken number sofar (piece ∷ rest) ≡ ended_by St.InputTooLong sofar
    run-large v = run-by taken number sofar piece rest input_too_long _ v refl

  pub piece-effect : (taken : ℕ) (sofar : Progress) (piece : List ℕ) (o : Option Effect) → verdict_on taken piece ≡ fits → effect_of_line c failed sofar.scene (text_of piece) ≡ o → effect_of_piece c failed taken sofar piece ≡ o
  piece-effect taken sofar piece o v f = ap (λ x. effect_within x (effect_of_line c failed sofar.scene (text_of piece))) v ∙ f

  -- ---- places

  pub place-start : (taken : ℕ) (sofar : Progress) (pieces : List (List ℕ)) → place_after c failed 0 taken sofar pieces ≡ Some (place_at taken sofar pieces)
  unfolding place_after
  place-start taken sofar pieces = refl

  abbrev Follows : ℕ → Progress → List ℕ → List (List ℕ) → Effect → (Option Place → Option Place → Type 0)
  Follows taken sofar piece rest e here more = here ≡ Some (place_at taken sofar (piece ∷ rest)) → more ≡ Some (place_at (taken + length piece) (and_then sofar e) rest)

  same : (a b : Place) → Some a ≡ Some b → a ≡ b
  same a b e = cc

  one-more : (e : Effect) (taken0 : ℕ) (sofar0 : Progress) (piece : List ℕ) (rest : List (List ℕ)) → effect_of_piece c failed taken0 sofar0 piece ≡ Some e → e.spent ≡ false → place_after c failed 1 taken0 sofar0 (piece ∷ rest) ≡ Some (place_at (taken0 + length piece) (and_then sofar0 e) rest)
  unfolding place_after
  one-more e taken0 sofar0 piece rest f s =
      ap (λ o. option_and_then (λ after. Some (place_at (taken0 + length piece) after rest)) (option_and_then (with_line sofar0) o)) f
      ∙ ap (λ b. option_and_then (λ after. Some (place_at (taken0 + length piece) after rest)) (if b then None else Some (and_then sofar0 e))) s

  module _ (taken : ℕ) (sofar : Progress) (piece : List ℕ) (rest : List (List ℕ)) (e : Effect) (f : effect_of_piece c failed taken sofar piece ≡ Some e) (s : e.spent ≡ false) where
    first-more : (at : Place) → at ≡ place_at taken sofar (piece ∷ rest) → place_after c failed 1 at.taken at.sofar at.rest ≡ Some (place_at (taken + length piece) (and_then sofar e) rest)
    first-more at is = subst (λ (p : Place). place_after c failed 1 p.taken p.sofar p.rest ≡ Some (place_at (taken + length piece) (and_then sofar e) rest)) (sym is) (one-more e taken sofar piece rest f s)

    pub place-more : (lines taken0 : ℕ) (sofar0 : Progress) (pieces : List (List ℕ)) → Follows taken sofar piece rest e (place_after c failed lines taken0 sofar0 pieces) (place_after c failed (suc lines) taken0 sofar0 pieces)
    unfolding place_after
    place-more zero taken0 sofar0 pieces = λ here. first-more (place_at taken0 sofar0 pieces) (same _ _ here)
    place-more (suc n) taken0 sofar0 [] = λ here. absurd (none here)
      where
        none : None ≡ Some (place_at taken sofar (piece ∷ rest)) → ⊥
        none g = cc
    place-more (suc n) taken0 sofar0 (p ∷ ps) = by (option_and_then (with_line sofar0) (effect_of_piece c failed taken0 sofar0 p)) (λ after. place-more n (taken0 + length p) after ps)
      where
        by : (o : Option Progress) → ((after : Progress) → Follows taken sofar piece rest e (place_after c failed n (taken0 + length p) after ps) (place_after c failed (suc n) (taken0 + length p) after ps)) → Follows taken sofar piece rest e (option_and_then (λ after. place_after c failed n (taken0 + length p) after ps) o) (option_and_then (λ after. place_after c failed (suc n) (taken0 + length p) after ps) o)
        by None more = λ here. absurd (none here)
          where
            none : None ≡ Some (place_at taken sofar (piece ∷ rest)) → ⊥
            none g = cc
        by (Some after) more = more after
