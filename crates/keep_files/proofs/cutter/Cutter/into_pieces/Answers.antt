use Rattle.std.proofs.Common.{◌++◌, ◌∙◌, ap, sym, arith}
use Rattle.keep_files.proofs.CutPieces.{cut_whole, cut_short}
use Rattle.keep_files.proofs.cutter.Cutter.into_pieces.Goals as goal

pub returns : goal.returns
returns c =
    let s = c.args.self in
    c.in_ok-with_last.ensures ∙ sym (cut_whole s.size s.pieces.items s.begun.items (omega (arith, c.requires.less)) c.requires.full ∙ ap (λ ps. s.pieces.items ++ ps) (cut_short s.size s.begun.items c.requires.less))
