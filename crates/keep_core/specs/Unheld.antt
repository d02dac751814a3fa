-- The devices that hold a digest, and the least protected digest that none of them holds.
use Rattle.std.specs.Prelude.{◌≡◌, ◌⊎◌, ℕ, false, List, length, filter, not, Bool, Option}
use Rattle.std.specs.List.{find, list_any}
use Rattle.std.specs.declared.cmp.Ordering.TheVariants.{Less}
use Rattle.std.specs.Ordering.{nat_cmp}
use Rattle.std.specs.Cmp.Lexicographic.{slice_cmp}
use Rattle.keep_spec.specs.Config.{Configuration}
use Rattle.keep_event.specs.Requests.{ascending}
use Rattle.keep_safety.specs.Holds.{holds}
use Rattle.keep_spec.specs.Members.{IsIn, numbers_from}
use Rattle.keep_safety.specs.Past.{Past}
use Rattle.keep_safety.specs.Safe.{protected}

-- ascending
abbrev pub holders : Configuration → Past → List ℕ → List ℕ
holders c past h = filter (λ d. holds d h past) (numbers_from 0 (length c.devices))

abbrev pub is_held : Configuration → Past → List ℕ → Bool
is_held c past h = list_any (λ d. holds d h past) (numbers_from 0 (length c.devices))

-- ascending, each once
abbrev pub protected_digests : Configuration → Past → List (List ℕ)
protected_digests c past = ascending (protected c past)

abbrev pub unheld : Configuration → Past → Option (List ℕ)
unheld c past = find (λ h. not (is_held c past h)) (protected_digests c past)

-- protected, held nowhere, and the least such
pub record IsLeastUnheld (c : Configuration) (past : Past) (h : List ℕ) : Type 0 where
  pub is_protected : IsIn h (protected c past)
  pub nowhere : is_held c past h ≡ false
  pub least : (g : List ℕ) → IsIn g (protected c past) → is_held c past g ≡ false → (g ≡ h) ⊎ (slice_cmp nat_cmp h g ≡ Less)
