use Rattle.keep_steps.proofs.Opens.{of-kind}
use Rattle.keep_running.proofs.Openings.{is-of-client}
use Rattle.keep_running.specs.declared.running.AnyTask.TheVariants as A
use Rattle.keep_running.proofs.running.open_any.Goals as goal

pub open_task-requires : goal.open_task-requires
open_task-requires c = record { kind = is-of-client _ c.in_default.not-Balance c.in_default.not-TrashWorker c.in_default.not-PullWorker c.in_default.not-EmptyWorker; within = c.requires.within; times = c.requires.times }

pub returns-in_ok-opened-in-Balance : goal.returns-in_ok-opened-in-Balance
returns-in_ok-opened-in-Balance c = record { opened = rw c.in-Balance.is (of-kind A.Balance _ _ _ _ _ (c.map.ensures A.Balance (λ task any made. made)) (c.in_ok-opened-in-Balance.ensures.opened c.args.reading) (λ t task ready. ready)) }

pub returns-in-TrashWorker : goal.returns-in-TrashWorker
returns-in-TrashWorker c = record { opened = rw c.in-TrashWorker.is (of-kind A.TrashWorker _ _ _ _ _ (c.map-in-TrashWorker.ensures A.TrashWorker (λ task any made. made)) (c.open-in-TrashWorker.ensures.opened c.args.reading) (λ t task ready. ready)) }

pub returns-in-PullWorker : goal.returns-in-PullWorker
returns-in-PullWorker c = record { opened = rw c.in-PullWorker.is (of-kind A.PullWorker _ _ _ _ _ (c.map-in-PullWorker.ensures A.PullWorker (λ task any made. made)) (c.open-in-PullWorker.ensures.opened c.args.reading) (λ t task ready. ready)) }

pub returns-in-EmptyWorker : goal.returns-in-EmptyWorker
returns-in-EmptyWorker c = record { opened = rw c.in-EmptyWorker.is (of-kind A.EmptyWorker _ _ _ _ _ (c.map-in-EmptyWorker.ensures A.EmptyWorker (λ task any made. made)) (c.open-in-EmptyWorker.ensures.opened c.args.reading) (λ t task ready. ready)) }

pub returns-in_ok-opened-in_default : goal.returns-in_ok-opened-in_default
returns-in_ok-opened-in_default c = record { opened = of-kind A.Client _ _ _ _ _ (c.map-in_default.ensures A.Client (λ task any made. made)) c.in_ok-opened-in_default.ensures.opened (λ t task ready. ready) }
