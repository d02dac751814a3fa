-- What an empty worker asks, `empty-asks`; where an answer takes it, `empty-taken`; how it begins, `empty-opens` and `empty-begins`.
use Rattle.std.proofs.Common.{◌≡◌, ◌<◌, ℕ, List, [], ◌∷◌, ◌++◌, Option, None, Some, Ok, refl, sym, ◌∙◌, ap, arith}
use Rattle.keep_spec.specs.Config.{Configuration}
use Rattle.keep_event.specs.declared.device.DeviceQuery.TheVariants as Q
use Rattle.keep_event.specs.declared.event.Query.{Query}
use Rattle.keep_history.specs.declared.task.Opening.TheVariants as Open
use Rattle.keep_history.specs.declared.task.Outcome.{Outcome}
use Rattle.keep_history.specs.declared.task.Outcome.TheVariants as O
use Rattle.keep_history.specs.declared.task.Task.TheVariants as T
use Rattle.keep_history.specs.Next.{Answered, Next, asks}
use Rattle.keep_history.specs.Tasks.{next, opened}
use Rattle.keep_history.specs.Workers.{by_device, empty_after, empty_answered, empty_next, items_max}
use Rattle.keep_history.proofs.Going.{goes-asks}
use Rattle.keep_steps.specs.Steps.{IsTaken}
use Rattle.keep_workers.specs.Empties.{EmptyMoves, IsEmptying, emptying, with_removed}
use Rattle.keep_workers.specs.declared.empty.EmptyWorker.{EmptyWorker}
use Rattle.keep_workers.proofs.Moving.{asks-below, ends-there, stands-there}

asks-next : (device removed : ℕ) → removed < items_max → empty_next device (with_removed removed) ≡ asks (Query.Device device Q.EmptyNext)
asks-next device removed few = asks-below removed (Query.Device device Q.EmptyNext) (O.Emptied removed) few

pub empty-asks : (w : EmptyWorker) (by : List Answered → Next) (answers : List Answered) → IsEmptying w by answers → by answers ≡ asks w.query
empty-asks w by answers h =
    goes-asks (empty_next h.device) empty_after (emptying w) by answers h.goes ∙ asks-next h.device w.removed h.few ∙ ap asks (sym h.query_is)

pub empty-taken : (w new : EmptyWorker) (a : Answered) (end : Option Outcome) → new.query ≡ w.query → (w.removed < items_max → EmptyMoves (by_device empty_answered a.answer (emptying w)) new end)
    → (by : List Answered → Next) (answers : List Answered) → IsEmptying w by answers → IsTaken by (answers ++ a ∷ []) end (IsEmptying new by)
empty-taken w new a (Some outcome) same moves by answers h =
    ends-there (empty_next h.device) empty_after (emptying w) by answers h.goes (Query.Device h.device Q.EmptyNext) (asks-next h.device w.removed h.few) a outcome (moves h.few h.device)
empty-taken w new a None same moves by answers h = record {
  device = h.device;
  query_is = same ∙ h.query_is;
  few = (moves h.few).1;
  goes = stands-there (empty_next h.device) empty_after (emptying w) by answers h.goes (Query.Device h.device Q.EmptyNext) (asks-next h.device w.removed h.few) a (emptying new) (moves h.few).0;
}

pub empty-opens : (c : Configuration) (device reading : ℕ) → opened c (Open.EmptyWorker device) reading ≡ Ok (T.EmptyWorker device)
unfolding opened
empty-opens c device reading = refl

pub empty-begins : (c : Configuration) (device : ℕ) (w : EmptyWorker) → w.query ≡ Query.Device device Q.EmptyNext → w.removed ≡ 0 → IsEmptying w (next c (T.EmptyWorker device)) []
unfolding next
empty-begins c device w asked none = record {
  device = device;
  query_is = asked;
  few = rw none (omega arith);
  goes = rw none (λ more. refl);
}
