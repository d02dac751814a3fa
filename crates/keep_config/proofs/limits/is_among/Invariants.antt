use Rattle.std.proofs.Common.{◌≡◌, drop, bytes_eq}
use Rattle.std.specs.List.{list_any}
use Rattle.keep_config.proofs.limits.is_among.Given as goal

-- the tokens that are left decide
abbrev pub invariant-loop-token : goal.invariant-loop-token
invariant-loop-token l = list_any (bytes_eq l.text) (drop l.token-index l.tokens) ≡ list_any (bytes_eq l.text) l.tokens
