use Rattle.keep_history.specs.declared.task.Task.{Task}
use Rattle.keep_history.specs.Tasks.{asks_table}
use Rattle.keep_tasks.specs.Running.{has_ended, stands, may_ask}
use Rattle.keep_steps.specs.Steps.{IsReady}
use Rattle.keep_tasks.specs.declared.running.Running.{Running}
use Rattle.keep_steps.proofs.Opens.{of-kind}
use Rattle.keep_tasks.specs.declared.running.Running.TheVariants as R
use Rattle.keep_tasks.proofs.running.open_task.Goals as goal

pub returns-in_ok-opened-in-Put : goal.returns-in_ok-opened-in-Put
returns-in_ok-opened-in-Put c = record { opened = rw c.in-Put.is (of-kind R.Put _ _ _ _ _ (c.map.ensures R.Put (λ task running made. made)) (c.in_ok-opened-in-Put.ensures.opened c.args.reading) (λ t task ready. ready)) }

pub returns-in_ok-opened-in-Get : goal.returns-in_ok-opened-in-Get
returns-in_ok-opened-in-Get c = record { opened = rw c.in-Get.is (of-kind R.Get _ _ _ _ _ (c.map-in-Get.ensures R.Get (λ task running made. made)) (rw (c.as_slice-token.ensures, c.as_slice-locator.ensures) at c.in_ok-opened-in-Get.ensures.opened) (λ t task ready. ready)) }

pub returns-in_ok-opened-in-Touch : goal.returns-in_ok-opened-in-Touch
returns-in_ok-opened-in-Touch c = record { opened = rw c.in-Touch.is (of-kind R.Touch _ _ _ _ _ (c.map-in-Touch.ensures R.Touch (λ task running made. made)) (rw c.as_slice-locator-in-Touch.ensures at c.in_ok-opened-in-Touch.ensures.opened) (λ t task ready. ready)) }

pub returns-in_ok-opened-in-Untrash : goal.returns-in_ok-opened-in-Untrash
returns-in_ok-opened-in-Untrash c = record { opened = rw c.in-Untrash.is (of-kind R.Untrash _ _ _ _ _ (c.map-in-Untrash.ensures R.Untrash (λ task running made. made)) (rw c.as_slice.ensures at c.in_ok-opened-in-Untrash.ensures.opened c.args.reading) (λ t task ready. ready)) }

pub returns-in-Restart : goal.returns-in-Restart
returns-in-Restart c = record { opened = rw c.in-Restart.is (of-kind R.Restart _ _ _ _ _ (c.map-in-Restart.ensures R.Restart (λ task running made. made)) (c.open-in-Restart.ensures.opened c.args.reading) (λ t task ready. ready)) }

pub returns-in_ok-opened-in_default : goal.returns-in_ok-opened-in_default
returns-in_ok-opened-in_default c = record {
  opened =
      let Known : Running → Task → Type 0 = λ t task. IsReady (has_ended t) (stands t) (may_ask t) c.args.config.now task in
      let h = c.in_ok-opened-in_default.ensures.opened in
      rw (c.table_query.ensures.opened c.args.reading)
      (of-kind R.Table _ Known (asks_table c.table_query.result) _ _ (c.map-in_default.ensures R.Table (λ task running made. made)) h (λ t task ready. ready));
}
