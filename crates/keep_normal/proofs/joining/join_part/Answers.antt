use Rattle.std.proofs.Common.{true, false, [], ◌∷◌, ◌∙◌, sym, append_assoc, ap, ◌++◌}
use Rattle.keep_normal.specs.Files.{touch, both_parts}
use Rattle.keep_normal.specs.Sound.{are_sound}
use Rattle.keep_normal.proofs.JoinedNeighbours.{after_two}
use Rattle.keep_normal.proofs.SoundParts.{after_sound}
use Rattle.keep_normal.proofs.joining.join_part.Goals as goal

pub returns-then-touch-clause-joined : goal.returns-then-touch-clause-joined
returns-then-touch-clause-joined c =
    c.in_ok-push-2.ensures.items ∙ ap (λ p. c.pop.new.self.items ++ p ∷ []) c.both.ensures
    ∙ sym (after_two touch both_parts c.args.parts.now.items c.pop.new.self.items c.in-Some.last c.args.part true c.in-Some.ensures.items (sym c.touch.ensures ∙ c.if-touch.true))

pub returns-then-touch-clause-sound : goal.returns-then-touch-clause-sound
returns-then-touch-clause-sound c =
    ap are_sound (returns-then-touch-clause-joined c) ∙ after_sound c.args.parts.now.items c.args.part c.requires.before c.requires.part

pub returns-clause-joined : goal.returns-clause-joined
returns-clause-joined c =
    c.in_ok-push-4.ensures.items ∙ ap (λ ps. ps ++ c.args.part ∷ []) c.in_ok-push-3.ensures.items
    ∙ append_assoc c.pop.new.self.items (c.in-Some.last ∷ []) (c.args.part ∷ [])
    ∙ sym (after_two touch both_parts c.args.parts.now.items c.pop.new.self.items c.in-Some.last c.args.part false c.in-Some.ensures.items (sym c.touch.ensures ∙ c.if-touch.false))
