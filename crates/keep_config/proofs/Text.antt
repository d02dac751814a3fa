-- Bytes that are no UTF-8.
use Rattle.std.proofs.Common.{◌≡◌, false, List, ℕ, inl, inr}
use Rattle.std.specs.Str.{is_utf8, IsUtf8}
use Rattle.std.proofs.lemmas.Bool.{cases_Bool}
use Rattle.std.proofs.lemmas.Str.{IsUtf8-from_is_utf8}

pub not_utf8 : (bs : List ℕ) → ¬ (IsUtf8 bs) → is_utf8 bs ≡ false
not_utf8 bs no-text = elim (cases_Bool (is_utf8 bs)) as (λ _. is_utf8 bs ≡ false) [ inl e ↦ absurd (no-text (IsUtf8-from_is_utf8 bs e)) | inr e ↦ e ]
