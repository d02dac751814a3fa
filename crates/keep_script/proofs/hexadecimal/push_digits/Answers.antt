use Rattle.std.proofs.Common.{◌∙◌}
use Rattle.keep_script.proofs.Pieces.{none_left, piece_written}
use Rattle.keep_script.proofs.hexadecimal.push_digits.Goals as goal

pub loop-piece-preserved : goal.loop-piece-preserved
loop-piece-preserved c = record {
  written = piece_written _ _ _ _ _ _ c.in_ok-push_piece.ensures c.in-Some.ensures.steps.1.0 c.loop-piece.invariant.written;
  size = c.in-Some.ensures.steps.0 ∙ c.loop-piece.invariant.size;
}

pub returns : goal.returns
returns c = none_left _ _ _ c.loop-piece.invariant.written c.in-None.ensures.steps.1.0
