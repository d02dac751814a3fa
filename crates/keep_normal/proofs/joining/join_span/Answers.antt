use Rattle.std.proofs.Common.{true, false, [], ◌∷◌, ◌∙◌, sym, append_assoc, ap, ◌++◌, rules}
use Rattle.keep_normal.specs.Normal.{meet, both_spans}
use Rattle.keep_normal.proofs.JoinedNeighbours.{after_two}
use Rattle.keep_normal.proofs.joining.join_span.Goals as goal

pub returns-then-last-span : goal.returns-then-last-span
returns-then-last-span c =
    c.in_ok-push-2.ensures.items
    ∙ sym (after_two meet both_spans c.args.spans.now.items c.pop.new.self.items c.in-Some.last c.args.span true c.in-Some.ensures.items (search rules))

pub returns : goal.returns
returns c =
    c.in_ok-push-4.ensures.items ∙ ap (λ ss. ss ++ c.args.span ∷ []) c.in_ok-push-3.ensures.items
    ∙ append_assoc c.pop.new.self.items (c.in-Some.last ∷ []) (c.args.span ∷ [])
    ∙ sym (after_two meet both_spans c.args.spans.now.items c.pop.new.self.items c.in-Some.last c.args.span false c.in-Some.ensures.items (search rules))
