use Rattle.std.proofs.Common.{sym, refl}
use Rattle.std.proofs.lemmas.Str.{is_utf8-from_IsUtf8}
use Rattle.keep_config.proofs.json.value_of.Goals as goal
use Rattle.keep_config.proofs.Text.{not_utf8}

pub returns-in_default : goal.returns-in_default
returns-in_default c = rw (not_utf8 _ c.in_default.ensures.cases.0) refl

pub returns-in-Ok-from_str : goal.returns-in-Ok-from_str
returns-in-Ok-from_str c = rw (is_utf8-from_IsUtf8 _ c.in-Ok.ensures.cases.1, ← c.in-Ok.ensures.cases.0) (sym c.in-Ok-from_str.ensures.ok)
