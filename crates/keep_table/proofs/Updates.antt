-- What becomes of the record that an update supersedes.
use Rattle.std.proofs.Common.{◌≡◌, ℕ, Bool, true, false, refl}
use Rattle.keep_event.specs.Table.{is_current, kept_until}
use Rattle.keep_event.specs.declared.table.TableRules.{TableRules}

-- it isn't current any longer
pub kept-not-current : (rules : TableRules) (reading : ℕ) (preserve : Bool) → is_current (kept_until rules reading preserve) ≡ false
kept-not-current rules reading true = refl
kept-not-current rules reading false = refl
