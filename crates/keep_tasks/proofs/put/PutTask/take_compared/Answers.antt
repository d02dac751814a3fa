use Rattle.std.proofs.Common.{sym, ◌∙◌}
use Rattle.keep_tasks.specs.Kinds.{given}
use Rattle.keep_tasks.proofs.Taking.{none_when, some_when, compared-ends, compared-moves, compared-over}
use Rattle.keep_tasks.proofs.put.PutTask.take_compared.Goals as goal

pub returns-in-Some-clause-taken : goal.returns-in-Some-clause-taken
returns-in-Some-clause-taken c = λ tick next answers h.
    let some = some_when _ c.requires.comparing in
    compared-ends _ _ _ next answers h (given tick c.args.answer.now) some.0 _ some.1 (sym (c.in-Some.ensures.end h.config h.token h.bytes h.locator_is))

pub returns-then-advance-clause-taken : goal.returns-then-advance-clause-taken
returns-then-advance-clause-taken c = λ tick next answers h.
    let none = none_when _ c.in_default.not-Some in
    let some = some_when _ c.requires.comparing in
    compared-moves _ _ _ next answers h (given tick c.args.answer.now) some.0 _ _ some.1 (c.compare_end.ensures.kept none)
    (sym (c.compare_end.ensures.end h.config h.token h.bytes h.locator_is) ∙ none) (c.advance.ensures.moved c.if-advance.true)

pub returns-then-advance-clause-may_ask : goal.returns-then-advance-clause-may_ask
returns-then-advance-clause-may_ask c = λ n h. (c.advance.ensures.below n h.0, h.1)

pub returns-clause-taken : goal.returns-clause-taken
returns-clause-taken c = λ tick next answers h.
    let none = none_when _ c.in_default.not-Some in
    let some = some_when _ c.requires.comparing in
    compared-over _ _ _ next answers h (given tick c.args.answer.now) some.0 _ _ _ _ _ some.1 (c.begin_writes.ensures.locator ∙ c.compare_end.ensures.kept none)
    (sym (c.compare_end.ensures.end h.config h.token h.bytes h.locator_is) ∙ none) (c.advance.ensures.over c.if-advance.false) c.begin_writes.ensures.begins

pub returns-clause-may_ask : goal.returns-clause-may_ask
returns-clause-may_ask c = λ n h. c.begin_writes.ensures.may_ask n (c.advance.ensures.below n h.0, h.1)
