use Rattle.std.proofs.Common.{◌∙◌, subst, sym}
use Rattle.keep_workers.specs.Pulls.{PullMoves, pulling}
use Rattle.keep_workers.proofs.Pulls.{not-a-block}
use Rattle.keep_workers.proofs.pull.PullWorker.take_fetched.Goals as goal

pub returns-in-None-clause-moved : goal.returns-in-None-clause-moved
returns-in-None-clause-moved c = λ phase few.
    subst (λ s. PullMoves s c.fetch_next.new.self c.fetch_next.result)
    (sym (not-a-block c.args.answer.now c.args.digest c.args.self.now.sources.items (pulling phase c.args.self.now) (sym c.in_ok-block.ensures ∙ c.in-None.is)))
    (c.fetch_next.ensures.moved phase few)
