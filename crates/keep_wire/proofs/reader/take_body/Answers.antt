use Rattle.std.proofs.Common.{◌≡◌, take, drop, min, ap, sym, ◌∙◌, subst, List, ℕ, length-drop}
use Rattle.std.proofs.lemmas.List.{drop-drop}
use Rattle.std.specs.Io.KnownBytes.{Keeps, prepend_known}
use Rattle.keep_wire.proofs.Body.{body-given}
use Rattle.keep_wire.proofs.reader.take_body.Goals as goal

pub returns-in-Ok-fill_body-clause-next_message : goal.returns-in-Ok-fill_body-clause-next_message
returns-in-Ok-fill_body-clause-next_message g c =
    let p = drop c.args.start.now c.args.pending.now in
    let there = c.min-there.result in
    let first : c.in-Ok.body.items ≡ take there p = c.in-Ok.ensures ∙ c.part_of.ensures in
    rw (← drop-drop there c.args.start.now c.args.pending.now) (body-given c.args.size there p c.fill_body.new.body.items c.of.result _ _ (c.min-there.ensures ∙ ap (λ (n : ℕ). min c.args.size n) (sym (length-drop c.args.start.now c.args.pending.now))) (subst (λ (v : List ℕ). Keeps (prepend_known v (g.R.Source.left c.args.source.now)) (prepend_known c.fill_body.new.body.items (g.R.Source.left c.fill_body.new.source))) first c.in-Ok-fill_body.ensures.bytes) c.in-Ok-fill_body.ensures.filled c.of.ensures)
