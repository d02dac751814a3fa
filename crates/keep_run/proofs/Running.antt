-- A task that stands somewhere asks its query there: `any-asks`.
use Rattle.std.proofs.Common.{◌≡◌, List, [], Some, sym, ◌∙◌, ap}
use Rattle.std.proofs.lemmas.List.{append-nil}
use Rattle.keep_balance.proofs.Shown.{round-asks}
use Rattle.keep_event.specs.declared.device.DeviceQuery.TheVariants as Q
use Rattle.keep_history.specs.Next.{Answered, Next, asks}
use Rattle.keep_history.specs.Tasks.{on_device, by_all, fetch_end, touch_end, no_end, not_fetched, not_touched, untrashed}
use Rattle.keep_running.specs.Running.{query_of, stands}
use Rattle.keep_running.specs.declared.running.AnyTask.{AnyTask}
use Rattle.keep_running.specs.declared.running.AnyTask.TheVariants as T
use Rattle.keep_tasks.specs.Running as client
use Rattle.keep_tasks.specs.declared.running.Running.{Running}
use Rattle.keep_tasks.specs.declared.running.Running.TheVariants as R
use Rattle.keep_tasks.proofs.Taking.{put-asks}
use Rattle.keep_tasks.proofs.Walking.{walk-asks}
use Rattle.keep_workers.proofs.Empties.{empty-asks}
use Rattle.keep_workers.proofs.Pulls.{pull-asks}
use Rattle.keep_workers.proofs.Trashes.{trash-asks}

client-asks : (t : Running) (next : List Answered → Next) (answers : List Answered) → client.stands t next answers → next answers ≡ asks (client.query_of t)
client-asks (R.Put t) next answers h = put-asks t.walk t.locator t.writes next answers h
client-asks (R.Get t) next answers h = walk-asks (Q.Fetch h.digest) (on_device fetch_end) (by_all not_fetched) t.walk next answers h.walks
client-asks (R.Touch t) next answers h = walk-asks (Q.Touch h.digest (Some h.id)) (on_device (touch_end h.config h.token h.digest h.text)) (by_all not_touched) t.walk next answers h.walks
client-asks (R.Untrash t) next answers h = walk-asks (Q.Untrash h.digest) (on_device no_end) (by_all untrashed) t.walk next answers h.walks
client-asks (R.Restart t) next answers h = ap next (sym (append-nil answers)) ∙ h.goes []
client-asks (R.Table t) next answers h = ap next (sym (append-nil answers)) ∙ h.goes []

pub any-asks : (t : AnyTask) (next : List Answered → Next) (answers : List Answered) → stands t next answers → next answers ≡ asks (query_of t)
any-asks (T.Client t) next answers h = client-asks t next answers h
any-asks (T.Balance t) next answers h = round-asks t next answers h
any-asks (T.TrashWorker w) next answers h = trash-asks w next answers h
any-asks (T.PullWorker w) next answers h = pull-asks w next answers h
any-asks (T.EmptyWorker w) next answers h = empty-asks w next answers h
