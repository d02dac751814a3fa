use Rattle.std.proofs.Common.{◌≡◌, ℕ, List, Bool, true, false, refl, sym}
use Rattle.std.specs.Str.{IsUtf8, is_utf8}
use Rattle.std.proofs.lemmas.Str.{IsUtf8-from_is_utf8, is_utf8-from_IsUtf8}
use Rattle.keep_routes.proofs.responses.is_text.Goals as goal

pub returns-in-Ok : goal.returns-in-Ok
returns-in-Ok c = sym (is_utf8-from_IsUtf8 _ c.in-Ok.ensures.cases.1)

not-text : (bytes : List ℕ) → (IsUtf8 bytes → ⊥) → false ≡ is_utf8 bytes
not-text bytes never = by (is_utf8 bytes) (IsUtf8-from_is_utf8 bytes)
  where
    by : (b : Bool) → (b ≡ true → IsUtf8 bytes) → false ≡ b
    by true then = absurd (never (then refl))
    by false then = refl

pub returns-in-Err : goal.returns-in-Err
returns-in-Err c = not-text _ c.in-Err.ensures.cases.0
