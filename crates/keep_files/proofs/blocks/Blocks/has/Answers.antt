use Rattle.std.proofs.Common.{◌∙◌, sym, ap, arith}
use Rattle.std.specs.Str.{bytes_eq}
use Rattle.std.proofs.lemmas.List.Folds.{list_any_at}
use Rattle.keep_files.proofs.blocks.Blocks.has.Goals as goal

pub returns-then-eq : goal.returns-then-eq
returns-then-eq c =
    let bs = c.args.self.now.blocks.items in
    let block = c.args.block.now in
    let found = c.bytes-2.ensures.value ∙ c.index.ensures in
    c.if-eq.true ∙ sym (list_any_at (bytes_eq block) bs c.args.place c.index.result.now (omega (arith, c.requires))
    (ap (bytes_eq block) (sym found) ∙ ap (λ b. bytes_eq b c.bytes-2.result.now) (sym c.bytes.ensures.value) ∙ sym c.eq.ensures ∙ c.if-eq.true))
