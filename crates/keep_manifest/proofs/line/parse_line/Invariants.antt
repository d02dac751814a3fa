use Rattle.std.proofs.Common.{◌≡◌, ◌+◌, ◌-◌, ◌≤◌}
use Rattle.keep_manifest.specs.Parsing.{tokens_at, no_parts}
use Rattle.keep_manifest.specs.Builder.{parts_of}
use Rattle.keep_manifest.specs.Tokens.{tokens_of}
use Rattle.keep_manifest.proofs.LineTokens.{left}
use Rattle.keep_manifest.proofs.line.parse_line.Given as goal

-- what the tokens that are left add is what all tokens say
abbrev pub invariant-loop-rest : goal.invariant-loop-rest
invariant-loop-rest l =
    (left l.rest ≤ l.end + 1)
    × (tokens_at (l.end + 1 - left l.rest) (tokens_of l.rest) (parts_of l.builder) ≡ tokens_at (l.end + 1 - left l.initial.rest) (tokens_of l.initial.rest) no_parts)

abbrev pub decreases-loop-rest : goal.decreases-loop-rest
decreases-loop-rest l = left l.rest
