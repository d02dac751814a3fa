use Rattle.std.proofs.Common.{◌≡◌, arith, subst, sym}
use Rattle.keep_event.specs.declared.device.DeviceQuery.TheVariants as Q
use Rattle.keep_event.specs.declared.event.Query.TheVariants as Query
use Rattle.keep_workers.specs.Pulls.{PullMayAsk, PullMoves, pulling}
use Rattle.keep_workers.proofs.Pulls.{is-writing}
use Rattle.keep_workers.proofs.pull.PullWorker.take_of_device.Goals.{in_default-via-in-Device+in_default, in_default-via-in_default}
use Rattle.keep_workers.proofs.pull.PullWorker.take_of_device.Goals as goal

pub returns-in-Device-default-Write-clause-moved : goal.returns-in-Device-default-Write-clause-moved
returns-in-Device-default-Write-clause-moved c = λ config phase few at devices.
    let asked : c.args.self.now.query ≡ Query.Device c.in-Device-default-Write.field-0 (Q.Write c.in-Device-default-Write.field-1-0 c.in-Device-default-Write.field-1-1) = grind arith in
    subst (λ s. PullMoves s c.take_written.new.self c.take_written.result)
    (sym (is-writing c.args.self.now phase _ _ _ asked at config c.args.answer.now (pulling phase c.args.self.now)))
    (c.take_written.ensures.moved phase few)

pub returns-in_default-clause-askable : goal.returns-in_default-clause-askable
returns-in_default-clause-askable c = λ devices h.
    c.take_item.ensures.askable devices (elim c.in_default.branch [
      | in_default-via-in-Device+in_default b ↦ subst (λ w. PullMayAsk w devices) (sym b.self-is) h
      | in_default-via-in_default b ↦ subst (λ w. PullMayAsk w devices) (sym b.self-is) h
    ])
