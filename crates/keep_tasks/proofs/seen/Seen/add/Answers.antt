use Rattle.keep_tasks.proofs.Answers.{seen-more}
use Rattle.keep_tasks.proofs.seen.Seen.add.Goals as goal

pub returns : goal.returns
returns c = λ answers few is.
    seen-more answers c.args.answer.now c.args.self.now _ few is c.or_fault-self.ensures c.or_found-self.ensures c.count_back-self.ensures c.or_present-self.ensures
