-- A task of any kind, by the meanings of its kind. For private clauses.
use Rattle.std.specs.Prelude.{ℕ, List, Bool, true, false, not}
use Rattle.keep_event.specs.Port.{MayAsk}
use Rattle.keep_event.specs.declared.event.Query.{Query}
use Rattle.keep_history.specs.Next.{Answered, Next}
use Rattle.keep_tasks.specs.Kinds.{IsPut, ArePut, IsGet, IsTouch, IsUntrash, IsRestart}
use Rattle.keep_tasks.specs.Tables.{IsTable, is_read}
use Rattle.keep_tasks.specs.Walks.{AreBelow}
use Rattle.keep_tasks.specs.declared.running.Running.{Running}
use Rattle.keep_tasks.specs.declared.running.Running.TheVariants as R

abbrev pub query_of : Running → Query
query_of (R.Put t) = t.walk.query
query_of (R.Get t) = t.walk.query
query_of (R.Touch t) = t.walk.query
query_of (R.Untrash t) = t.walk.query
query_of (R.Restart t) = t.query
query_of (R.Table t) = t.query

abbrev pub has_ended : Running → Bool
has_ended (R.Put t) = t.ended
has_ended (R.Get t) = t.ended
has_ended (R.Touch t) = t.ended
has_ended (R.Untrash t) = t.ended
has_ended (R.Restart t) = t.ended
has_ended (R.Table t) = t.ended

abbrev pub stands : Running → (List Answered → Next) → List Answered → Type 0
stands (R.Put t) = IsPut t.walk t.locator t.writes
stands (R.Get t) = IsGet t.walk
stands (R.Touch t) = IsTouch t.walk t.locator
stands (R.Untrash t) = IsUntrash t.walk
stands (R.Restart t) = IsRestart t.query
stands (R.Table t) = IsTable t.query t.ends

abbrev pub may_ask : Running → ℕ → Type 0
may_ask (R.Put t) n = ArePut n t.walk t.writes
may_ask (R.Get t) n = AreBelow n t.walk
may_ask (R.Touch t) n = AreBelow n t.walk
may_ask (R.Untrash t) n = AreBelow n t.walk
may_ask (R.Restart t) n = MayAsk n t.query
may_ask (R.Table t) n = MayAsk n t.query

abbrev pub sure : Running → Bool
sure (R.Put t) = true
sure (R.Get t) = false
sure (R.Touch t) = true
sure (R.Untrash t) = true
sure (R.Restart t) = true
sure (R.Table t) = not (is_read t.query)
