-- The total size of locators, one after another.
use Rattle.std.proofs.Common.{ℕ, ◌+◌, cond, List, Option, Some, None}
use Rattle.std.specs.List.{list_all}
use Rattle.keep_spec.specs.Locator.{is_locator}
use Rattle.keep_spec.specs.Manifest.{total_size}

-- the total of these with n before them, or no_parts where one isn't a locator
abbrev pub with_total : ℕ → List (List ℕ) → Option ℕ
with_total n ls = cond (list_all is_locator ls) (Some (n + total_size ls)) None
