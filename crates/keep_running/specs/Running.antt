-- A task of any kind, by the meanings of its kind. For private clauses.
use Rattle.std.specs.Prelude.{ℕ, List, Bool, true, false}
use Rattle.keep_balance.specs.Gathering.{BalanceMayAsk, is_sure}
use Rattle.keep_balance.specs.Standing.{Stands}
use Rattle.keep_event.specs.Port.{MayAsk}
use Rattle.keep_event.specs.declared.event.Query.{Query}
use Rattle.keep_history.specs.Next.{Answered, Next}
use Rattle.keep_tasks.specs.Running as client
use Rattle.keep_workers.specs.Empties.{IsEmptying}
use Rattle.keep_workers.specs.Pulls.{IsPulling, PullMayAsk, is_write}
use Rattle.keep_workers.specs.Trashes.{IsTrashing}
use Rattle.keep_running.specs.declared.running.AnyTask.{AnyTask}
use Rattle.keep_running.specs.declared.running.AnyTask.TheVariants as T

abbrev pub query_of : AnyTask → Query
query_of (T.Client t) = client.query_of t
query_of (T.Balance t) = t.query
query_of (T.TrashWorker w) = w.query
query_of (T.PullWorker w) = w.query
query_of (T.EmptyWorker w) = w.query

abbrev pub has_ended : AnyTask → Bool
has_ended (T.Client t) = client.has_ended t
has_ended (T.Balance t) = t.ended
has_ended (T.TrashWorker w) = w.ended
has_ended (T.PullWorker w) = w.ended
has_ended (T.EmptyWorker w) = w.ended

abbrev pub stands : AnyTask → (List Answered → Next) → List Answered → Type 0
stands (T.Client t) = client.stands t
stands (T.Balance t) = Stands t
stands (T.TrashWorker w) = IsTrashing w
stands (T.PullWorker w) = IsPulling w
stands (T.EmptyWorker w) = IsEmptying w

abbrev pub may_ask : AnyTask → ℕ → Type 0
may_ask (T.Client t) n = client.may_ask t n
may_ask (T.Balance t) n = BalanceMayAsk t n
may_ask (T.TrashWorker w) n = MayAsk n w.query
may_ask (T.PullWorker w) n = PullMayAsk w n
may_ask (T.EmptyWorker w) n = MayAsk n w.query

abbrev pub sure : AnyTask → Bool
sure (T.Client t) = client.sure t
sure (T.Balance t) = is_sure t.place
sure (T.TrashWorker w) = true
sure (T.PullWorker w) = is_write w.query
sure (T.EmptyWorker w) = true
