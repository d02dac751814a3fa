use Rattle.std.proofs.Common.{◌≡◌, ◌+◌, drop, bytes_eq}
use Rattle.std.specs.List.{position_from}
use Rattle.keep_config.proofs.config.Config.token.Given as goal

-- the tokens that are left decide
abbrev pub invariant-loop-i : goal.invariant-loop-i
invariant-loop-i l = position_from (bytes_eq l.text) (l.i + 1) (drop l.i l.token-items) ≡ position_from (bytes_eq l.text) 1 l.token-items
