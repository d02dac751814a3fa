-- The dates of jiff as dates of the calendar. Private clauses cite these.
use Rattle.std.specs.Prelude.{◌≤ℤ◌, pos, unsigned_abs}
use Rattle.jiff_core.specs.declared.civil.date.Date.{Date as Civil}
use Rattle.keep_clock.specs.Calendar.{Date}

abbrev pub civil : Civil → Date
civil d = record { year = unsigned_abs d.year; month = d.month; day = d.day }

-- the date is not before 1970
abbrev pub IsFrom1970 : Civil → Type 0
IsFrom1970 d = pos 1970 ≤ℤ d.year
