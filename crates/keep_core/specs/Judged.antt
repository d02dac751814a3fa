-- What `safe_at` says of a past: it is safe, or the least protected digest that no device holds.
use Rattle.std.specs.Prelude.{◌≡◌, ⊤, ℕ, List, not, Bool, Option, None, Some, Result, Ok, Err}
use Rattle.std.specs.List.{list_any}
use Rattle.keep_spec.specs.Config.{Configuration}
use Rattle.keep_spec.specs.Members.{numbers_from}
use Rattle.keep_safety.specs.Holds.{holds}
use Rattle.keep_safety.specs.Past.{Past}
use Rattle.keep_safety.specs.Safe.{IsSafe}
use Rattle.keep_core.specs.Unheld.{IsLeastUnheld}
use Rattle.keep_core.specs.declared.judging.Unsafe.{Unsafe}
use Rattle.keep_core.specs.declared.judging.Unsafe.TheVariants.{Unheld, NoMemory}

-- Ok exactly where the past is safe, Unheld exactly with the least protected digest that is held nowhere; want of memory says nothing
abbrev pub IsJudged : {X : Type 0} → Configuration → Past → Result X Unsafe → Type 0
IsJudged c past (Ok x) = IsSafe c past
IsJudged c past (Err (Unheld digest)) = (IsSafe c past → ⊥) × IsLeastUnheld c past digest
IsJudged c past (Err NoMemory) = ⊤

-- ---- for private clauses

abbrev pub is_first : {X : Type 0} → Option (List ℕ) → Result X Unsafe → Type 0
is_first found (Ok x) = found ≡ None
is_first found (Err (Unheld digest)) = found ≡ Some digest
is_first found (Err NoMemory) = ⊥

-- none of the first n devices holds it
abbrev pub lacks : Past → ℕ → List ℕ → Bool
lacks past n h = not (list_any (λ d. holds d h past) (numbers_from 0 n))
