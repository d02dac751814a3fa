-- Openings of clients: `is-of-client` where an opening is neither a balance nor a worker.
use Rattle.std.proofs.Common.{◌≡◌, ℕ, refl}
use Rattle.keep_history.specs.declared.task.Opening.{Opening}
use Rattle.keep_history.specs.declared.task.Opening.TheVariants as Open
use Rattle.keep_tasks.specs.Openings.{IsOfClient}

pub is-of-client : (opening : Opening) → (opening ≡ Open.Balance → ⊥) → ((d : ℕ) → opening ≡ Open.TrashWorker d → ⊥) → ((d : ℕ) → opening ≡ Open.PullWorker d → ⊥) → ((d : ℕ) → opening ≡ Open.EmptyWorker d → ⊥) → IsOfClient opening
is-of-client (Open.Put token server bytes hash) b t p e = tt
is-of-client (Open.Get token server locator) b t p e = tt
is-of-client (Open.Touch token server locator) b t p e = tt
is-of-client (Open.Untrash token server hash) b t p e = tt
is-of-client (Open.Restart device) b t p e = tt
is-of-client (Open.Save request) b t p e = tt
is-of-client (Open.Update token collection request) b t p e = tt
is-of-client (Open.Read token collection version) b t p e = tt
is-of-client (Open.Trash token collection trash_at delete_at) b t p e = tt
is-of-client (Open.Restore token collection) b t p e = tt
is-of-client Open.Sweep b t p e = tt
is-of-client Open.Balance b t p e = b refl
is-of-client (Open.TrashWorker device) b t p e = t device refl
is-of-client (Open.PullWorker device) b t p e = p device refl
is-of-client (Open.EmptyWorker device) b t p e = e device refl
