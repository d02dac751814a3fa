use Rattle.std.proofs.Common.{sym, subst}
use Rattle.keep_workers.specs.Pulls.{PullMoves, pulling}
use Rattle.keep_workers.proofs.Pulls.{not-written}
use Rattle.keep_workers.proofs.pull.PullWorker.take_written.Goals as goal

pub returns-in-Written-clause-moved : goal.returns-in-Written-clause-moved
returns-in-Written-clause-moved c = rw c.in-Written.is c.item_done.ensures.moved

pub returns-in_default : goal.returns-in_default
returns-in_default c = record {
  moved = λ phase few. subst (λ s. PullMoves s c.item_failed.new.self c.item_failed.result) (sym (not-written c.args.answer.now (pulling phase c.args.self.now) c.in_default.not-Written)) (c.item_failed.ensures.moved phase few);
  stays = c.item_failed.ensures.stays;
  askable = c.item_failed.ensures.askable;
}
