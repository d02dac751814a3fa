-- The text of a row that isn't a manifest isn't signed.
use Rattle.std.proofs.Common.{◌≡◌, ℕ, List, Option, None, Some, is_some, false, refl, sym, ◌∙◌, ap}
use Rattle.keep_spec.specs.Config.{Configuration}
use Rattle.keep_spec.specs.Manifest.{manifest_of}
use Rattle.keep_spec.specs.Refusals.{bad}
use Rattle.keep_spec.specs.declared.manifest.Manifest.{Manifest}
use Rattle.keep_spec.specs.declared.manifest.Refusal.{Refusal}
use Rattle.keep_manifest.proofs.Agreement.{refused_or_read}
use Rattle.keep_event.specs.Collections.{signed_row}

not-read : (text : List ℕ) (f : Refusal) → bad text ≡ Some f → is_some (manifest_of text) ≡ false
not-read text f e = by (manifest_of text) refl
  where
    by : (o : Option Manifest) → manifest_of text ≡ o → is_some (manifest_of text) ≡ false
    by None k = ap is_some k
    by (Some m) k = absurd (never (sym e ∙ (refused_or_read text).1 (ap is_some k)))
      where
        never : Some f ≡ None → ⊥
        never k = cc

pub signed-stays : (c : Configuration) (token : List ℕ) (expiry : ℕ) (text : List ℕ) (f : Refusal) → bad text ≡ Some f → signed_row c token (Some expiry) text ≡ text
unfolding signed_row
signed-stays c token expiry text f e = rw (not-read text f e) refl
