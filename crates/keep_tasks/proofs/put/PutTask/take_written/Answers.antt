use Rattle.std.proofs.Common.{sym, ◌∙◌}
use Rattle.keep_tasks.specs.Kinds.{given}
use Rattle.keep_tasks.proofs.Taking.{none_when, none_by, written-ends, written-moves, written-over}
use Rattle.keep_tasks.proofs.put.PutTask.take_written.Goals as goal

pub returns-in-Some-clause-taken : goal.returns-in-Some-clause-taken
returns-in-Some-clause-taken c = λ tick next answers h.
    written-ends _ _ _ next answers h (given tick c.args.answer.now) _ (none_by _ c.requires.writing) (sym (c.in-Some.ensures.end h.config h.token h.bytes h.locator_is))

pub returns-then-advance-clause-taken : goal.returns-then-advance-clause-taken
returns-then-advance-clause-taken c = λ tick next answers h.
    let none = none_when _ c.in_default.not-Some in
    written-moves _ _ _ next answers h (given tick c.args.answer.now) _ _ (none_by _ c.requires.writing) (c.write_end.ensures.kept none)
    (sym (c.write_end.ensures.end h.config h.token h.bytes h.locator_is) ∙ none) (c.advance.ensures.moved c.if-advance.true)

pub returns-then-advance-clause-may_ask : goal.returns-then-advance-clause-may_ask
returns-then-advance-clause-may_ask c = λ n h. (c.advance.ensures.below n h.0, h.1)

pub returns-clause-taken : goal.returns-clause-taken
returns-clause-taken c = λ tick next answers h.
    let none = none_when _ c.in_default.not-Some in
    written-over _ _ _ next answers h (given tick c.args.answer.now) _ _ (none_by _ c.requires.writing)
    (sym (c.write_end.ensures.end h.config h.token h.bytes h.locator_is) ∙ none) (c.advance.ensures.over c.if-advance.false) c.not_written.ensures

pub returns-clause-may_ask : goal.returns-clause-may_ask
returns-clause-may_ask c = λ n h. (c.advance.ensures.below n h.0, h.1)
