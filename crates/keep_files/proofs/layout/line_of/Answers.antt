use Rattle.std.proofs.Common.{◌∙◌, ap, arith, leb, length}
use Rattle.std.specs.List.{list_all}
use Rattle.std.proofs.lemmas.Bool.{leb-true, le-leb}
use Rattle.keep_locator.proofs.Lists.{list_all-weaker}
use Rattle.keep_files.proofs.CutPieces.{cut-sizes}
use Rattle.keep_files.proofs.layout.line_of.Goals as goal

pub add_all-requires-clause-sizes : goal.add_all-requires-clause-sizes
add_all-requires-clause-sizes c =
    ap (list_all (λ p. leb (length p) 67108864)) c.in_ok-pieces.ensures
    ∙ list_all-weaker (λ p. leb (length p) c.args.size) (λ p. leb (length p) 67108864)
    (λ p h. let le = leb-true (length p) c.args.size h in le-leb (length p) 67108864 (omega (arith, le, c.requires.bound))) _ (cut-sizes c.args.size _)
