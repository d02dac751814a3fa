use Rattle.std.proofs.Common.{◌≡◌, ◌-◌, ◌≤◌, length}
use Rattle.keep_manifest.specs.Parsing.{pieces_at}
use Rattle.keep_manifest.specs.Tokens.{lines_of}
use Rattle.keep_manifest.proofs.TextLines.{with_front}
use Rattle.keep_manifest.proofs.parsing.parse_streams.Given as goal

-- the streams so far, with those of the rest, are those of the text
abbrev pub invariant-loop-line : goal.invariant-loop-line
invariant-loop-line l =
    (length l.rest ≤ length l.text)
    × (with_front l.streams.items (pieces_at (length l.text - length l.rest) (lines_of l.rest)) ≡ pieces_at 0 (lines_of l.text))

abbrev pub decreases-loop-line : goal.decreases-loop-line
decreases-loop-line l = length l.rest
