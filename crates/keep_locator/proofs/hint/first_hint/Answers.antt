use Rattle.std.proofs.Common.{◌∷◌, take, sym, ap, ◌∙◌, arith}
use Rattle.keep_spec.specs.Locator.{cut_before_plus}
use Rattle.keep_locator.proofs.GrammarStates.{cut-first, cut-none}
use Rattle.keep_locator.proofs.hint.first_hint.Goals as goal

pub returns-then-text-eq0-clause-hints : goal.returns-then-text-eq0-clause-hints
returns-then-text-eq0-clause-hints c = cut-none c.args.text.now c.if-text-eq0.true

pub returns-clause-hints : goal.returns-clause-hints
returns-clause-hints c =
    let parts = c.split_at.result in
    cut-first c.args.text.now c.hint_len.result (omega arith) c.hint_len.ensures.place
    ∙ sym (ap (λ x. x ∷ cut_before_plus parts.1.now) c.split_at.ensures.front ∙ ap (λ x. take c.hint_len.result c.args.text.now ∷ cut_before_plus x) c.split_at.ensures.back)
