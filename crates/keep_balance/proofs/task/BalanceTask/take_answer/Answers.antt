use Rattle.std.proofs.lemmas.Result.{IfOk-weaker}
use Rattle.keep_balance.specs.Gathering.{TakesCleared, TakesPaged}
use Rattle.keep_balance.proofs.Moves.{begun, cleared, paged}
use Rattle.keep_balance.proofs.task.BalanceTask.take_answer.Goals as goal

pub returns-in-Begin-clause-taken : goal.returns-in-Begin-clause-taken
returns-in-Begin-clause-taken c = λ s shows. begun c.args.self.now c.take_begun.new.self s c.args.tick shows c.in-Begin.is c.args.answer.now c.take_begun.ensures.taken

pub returns-in-Clear-clause-taken : goal.returns-in-Clear-clause-taken
returns-in-Clear-clause-taken c =
    IfOk-weaker c.take_cleared.result (TakesCleared c.in-Clear.device c.args.tick c.args.answer.now c.args.self.now c.take_cleared.new.self) _
    (λ end h s shows. cleared c.args.self.now c.take_cleared.new.self c.in-Clear.device s c.args.tick shows c.in-Clear.is c.args.answer.now end h)
    c.take_cleared.ensures.taken

pub returns-in-Page-clause-taken : goal.returns-in-Page-clause-taken
returns-in-Page-clause-taken c =
    IfOk-weaker c.take_paged.result (TakesPaged c.in-Page.device c.in-Page.next c.args.tick c.args.answer.now c.args.self.now c.take_paged.new.self) _
    (λ end h s shows. paged c.args.self.now c.take_paged.new.self c.in-Page.device c.in-Page.next s c.args.tick shows c.in-Page.is c.args.answer.now end h)
    c.take_paged.ensures.taken

pub returns-in-Accept-clause-taken : goal.returns-in-Accept-clause-taken
returns-in-Accept-clause-taken c = λ s shows. c.take_of_device.ensures.taken c.args.tick s shows c.in-Accept.is
