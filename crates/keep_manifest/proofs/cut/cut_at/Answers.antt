use Rattle.std.proofs.Common.{◌≡◌, ◌+◌, ◌-◌, suc, take, drop, length, refl, ◌∙◌, ap, sym, Some, add-one, arith}
use Rattle.std.proofs.lemmas.Slice.{between_to_end}
use Rattle.keep_manifest.proofs.SplitText.{cut_at_found, cut_at_none}
use Rattle.keep_manifest.proofs.cut.cut_at.Goals as goal

pub returns-then-b-byte : goal.returns-then-b-byte
returns-then-b-byte c =
    let text = c.args.text.now in
    let i = c.loop-i.i in
    let behind : drop (i + 1) text ≡ drop (suc i) text = rw add-one refl in
    let rest : take (length text - (i + 1)) (drop (i + 1) text) ≡ drop (i + 1) text = between_to_end text (i + 1) (length text) (omega arith) in
    sym (cut_at_found c.args.byte text i (omega arith) c.loop-i.invariant c.if-b-byte.true ∙ ap (λ xs. Some (take i text, xs)) (sym (rest ∙ behind)))

pub returns : goal.returns
returns c = sym (cut_at_none c.args.byte c.args.text.now (λ k h. c.loop-i.invariant k (omega arith)))
