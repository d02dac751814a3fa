use Rattle.std.proofs.Common.{◌∙◌, ℕ, List, ap, sym, subst, Ok, Err, arith}
use Rattle.std.specs.BTreeMap.{get}
use Rattle.std.proofs.lemmas.Result.{err_from_is_err_and}
use Rattle.keep_normal.specs.Grouped.{byte_order}
use Rattle.keep_files.specs.Stored.{Unpacks, bytes_of}
use Rattle.keep_files.proofs.ReadOn.{bytes-more, bytes-fail, bytes-done, passed_on}
use Rattle.keep_files.proofs.unpacking.bytes_of.Goals as goal

pub returns-in_err-part_bytes : goal.returns-in_err-part_bytes
returns-in_err-part_bytes c =
    let stored = λ (d : List ℕ). get byte_order c.args.blocks.now d in
    let all = bytes_of stored c.args.parts.now in
    let p = err_from_is_err_and c.from_residual-in_err-part_bytes.result c.from_residual-in_err-part_bytes.ensures.1 in
    subst (λ (r : _). Unpacks r all) (sym (p.1 ∙ ap Err p.2))
    (passed_on c.in_err-part_bytes.field-0.0 _ all c.in_err-part_bytes.ensures (λ e read. bytes-fail stored c.args.parts.now c.loop-part.part-index _ all c.loop-part.bytes.items e (omega (arith, c.loop-part-test.true)) c.part-item.is c.loop-part.invariant read))

pub loop-part-preserved : goal.loop-part-preserved
loop-part-preserved c =
    let stored = λ (d : List ℕ). get byte_order c.args.blocks.now d in
    let all = bytes_of stored c.args.parts.now in
    bytes-more stored c.args.parts.now c.loop-part.part-index _ all c.loop-part.bytes.items _ _ (omega (arith, c.loop-part-test.true)) c.part-item.is c.loop-part.invariant c.in_ok-part_bytes.ensures c.in_ok-extend_from_slice.ensures.items

pub returns : goal.returns
returns c =
    let stored = λ (d : List ℕ). get byte_order c.args.blocks.now d in
    bytes-done stored c.args.parts.now c.loop-part.part-index _ c.loop-part.bytes.items (omega (arith, c.loop-part-test.false)) c.loop-part.invariant ∙ ap (λ b. Ok b) (sym c.of.ensures)
