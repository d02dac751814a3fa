-- What is seen of a clock in memory: how many readings are left, how many calls were made and failed, and the numbers of the calls that are to fail. This is the project's own rule.
use Rattle.std.specs.Prelude.{ℕ, ◌-◌, List, length}
use Rattle.keep_clock.specs.declared.clock.ListClock.{ListClock}

-- how many readings are left
abbrev pub clock_left : ListClock → ℕ
clock_left c = length c.readings.items - c.at

abbrev pub clock_faults : ListClock → ℕ
clock_faults c = c.faults

abbrev pub clock_calls : ListClock → ℕ
clock_calls c = c.made

abbrev pub clock_failing : ListClock → List ℕ
clock_failing c = c.failing.items
