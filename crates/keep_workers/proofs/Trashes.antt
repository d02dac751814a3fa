-- What a trash worker asks, `trash-asks`; where an answer takes it, `trash-taken`; an item without a replica, `none-trashed`; how it begins, `trash-opens` and `trash-begins`.
use Rattle.std.proofs.Common.{◌≡◌, ◌<◌, ◌≤◌, ◌+◌, ℕ, List, [], ◌∷◌, ◌++◌, Option, None, Some, Ok, refl, sym, ◌∙◌, ap, subst, arith}
use Rattle.keep_spec.specs.Config.{Configuration}
use Rattle.keep_event.specs.declared.device.DeviceQuery.TheVariants as Q
use Rattle.keep_event.specs.declared.event.Query.{Query}
use Rattle.keep_history.specs.declared.task.Opening.TheVariants as Open
use Rattle.keep_history.specs.declared.task.Outcome.{Outcome}
use Rattle.keep_history.specs.declared.task.Outcome.TheVariants as O
use Rattle.keep_history.specs.declared.task.Task.TheVariants as T
use Rattle.keep_history.specs.Next.{Answered, Next, asks}
use Rattle.keep_history.specs.Tasks.{next, opened}
use Rattle.keep_history.specs.Workers.{by_device, trash_after, trash_answered, trash_next, item_taken, items_max}
use Rattle.keep_history.proofs.Going.{goes-asks}
use Rattle.keep_steps.specs.Steps.{IsTaken}
use Rattle.keep_workers.specs.Trashes.{IsTrashing, IsTrashingFew, TrashMoves, after_items, trashing}
use Rattle.keep_workers.specs.declared.trash.TrashWorker.{TrashWorker}
use Rattle.keep_workers.proofs.Moving.{asks-below, ends-there, stands-there}

asks-next : (device taken trashed : ℕ) → taken < items_max → trash_next device (after_items taken trashed) ≡ asks (Query.Device device Q.TrashNext)
asks-next device taken trashed few = asks-below taken (Query.Device device Q.TrashNext) (O.Trashed trashed) few

pub trash-asks : (w : TrashWorker) (by : List Answered → Next) (answers : List Answered) → IsTrashing w by answers → by answers ≡ asks w.query
trash-asks w by answers h =
    goes-asks (trash_next h.device) trash_after (trashing w) by answers h.goes ∙ asks-next h.device w.taken w.trashed h.few.0 ∙ ap asks (sym h.query_is)

pub trash-taken : (w new : TrashWorker) (a : Answered) (end : Option Outcome) → new.query ≡ w.query → (IsTrashingFew w → TrashMoves (by_device trash_answered a.answer (trashing w)) new end)
    → (by : List Answered → Next) (answers : List Answered) → IsTrashing w by answers → IsTaken by (answers ++ a ∷ []) end (IsTrashing new by)
trash-taken w new a (Some outcome) same moves by answers h =
    ends-there (trash_next h.device) trash_after (trashing w) by answers h.goes (Query.Device h.device Q.TrashNext) (asks-next h.device w.taken w.trashed h.few.0) a outcome (moves h.few h.device)
trash-taken w new a None same moves by answers h = record {
  device = h.device;
  query_is = same ∙ h.query_is;
  few = (moves h.few).1;
  goes = stands-there (trash_next h.device) trash_after (trashing w) by answers h.goes (Query.Device h.device Q.TrashNext) (asks-next h.device w.taken w.trashed h.few.0) a (trashing new) (moves h.few).0;
}

-- an item was taken, and no replica trashed
pub none-trashed : (w new : TrashWorker) (end : Option Outcome) → (w.taken < items_max → w.trashed ≤ w.taken + 1 → TrashMoves (after_items (w.taken + 1) w.trashed) new end) → IsTrashingFew w → TrashMoves (item_taken 0 (trashing w)) new end
none-trashed w new end moves few =
    let none : w.trashed ≡ w.trashed + 0 = omega arith in
    let at_most : w.trashed ≤ w.taken + 1 = omega (arith, few.1) in
    subst (λ n. TrashMoves (after_items (w.taken + 1) n) new end) none (moves few.0 at_most)

pub trash-opens : (c : Configuration) (device reading : ℕ) → opened c (Open.TrashWorker device) reading ≡ Ok (T.TrashWorker device)
unfolding opened
trash-opens c device reading = refl

pub trash-begins : (c : Configuration) (device : ℕ) (w : TrashWorker) → w.query ≡ Query.Device device Q.TrashNext → w.taken ≡ 0 → w.trashed ≡ 0 → IsTrashing w (next c (T.TrashWorker device)) []
unfolding next
trash-begins c device w asked none none' = record {
  device = device;
  query_is = asked;
  few = (rw none (omega arith), rw (none, none') (omega arith));
  goes = rw (none, none') (λ more. refl);
}
