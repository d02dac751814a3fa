-- Bounds on the counters of a table.
use Rattle.std.specs.Prelude.{ℕ, ◌+◌, ◌≤◌}
use Rattle.keep_event.specs.Table as tables

-- no counter of a table is above a number
pub record CountersUpTo (most : ℕ) (s : tables.State) : Type 0 where
  pub numbers : s.numbers ≤ most
  pub revisions : s.revisions ≤ most
  pub rounds : s.rounds ≤ most

-- each counter rises by one at most
abbrev pub RisesByOne : tables.State → tables.State → Type 0
RisesByOne old new = (most : ℕ) → CountersUpTo most old → CountersUpTo (most + 1) new
