-- Failures that are planned: the calls of a store that are to fail, by their numbers.
use Rattle.std.specs.Prelude.{◌≡◌, ℕ, ◌+◌, ◌-◌, ◌^◌, ◌==◌, min, Bool, true, false, List, Option, None, Some, Result, Ok, Err}
use Rattle.std.specs.List.{list_any}
use Rattle.keep_store.specs.declared.store.StoreError.{StoreError}
use Rattle.keep_store.specs.declared.store.StoreError.TheVariants.{Failed, NoMemory}

-- the numbers of the calls that are to fail, and how many calls were made
pub record FaultPlan : Type 0 where
  pub failing : List ℕ
  pub calls : ℕ

abbrev pub new_plan : List ℕ → FaultPlan
new_plan failing = record { failing = failing; calls = 0 }

-- calls are counted from 1; the count stops at the greatest u64
abbrev pub next_call : FaultPlan → ℕ
next_call p = min (p.calls + 1) (2 ^ 64 - 1)

-- a call fails exactly where its number is in the list, and else the count of faults stays; a store without a plan gets none
abbrev pub FollowsPlan : Option FaultPlan → Option FaultPlan → ℕ → ℕ → Bool → Type 0
FollowsPlan None after faults now failed = after ≡ None
FollowsPlan (Some p) after faults now failed = (failed ≡ list_any (λ n. n == next_call p) p.failing) × (after ≡ Some (record { failing = p.failing; calls = next_call p })) × (failed ≡ false → now ≡ faults)

-- want of memory is no failure
abbrev pub has_failed : {T : Type 0} → Result T StoreError → Bool
has_failed (Ok x) = false
has_failed (Err Failed) = true
has_failed (Err NoMemory) = false
