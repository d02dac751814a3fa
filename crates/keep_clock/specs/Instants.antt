-- Instants in text: the date and time of day in UTC, in the form of RFC 3339 that ends in `Z`. The value is in nanoseconds since 1970. That nothing else of RFC 3339 is read, and the bounds, are this project's own rules.
use Rattle.std.specs.Prelude.{ℕ, ◌+◌, ◌-◌, ◌*◌, ◌/◌, ◌%◌, ◌^◌, ◌==◌, ◌&&◌, nat_le, nat_lt, Bool, List, [], ◌∷◌, ◌++◌, length, take, drop, slice_index, slice_range, replicate, Option, None, Some, option_and_then, if◌then◌else◌, codes}
use Rattle.std.specs.Fmt.{decimal}
use Rattle.keep_spec.specs.Locator.{is_number, number}
use Rattle.keep_spec.specs.declared.times.TheConstants.{NANOS_PER_SECOND, READING_END}
use Rattle.keep_clock.specs.Calendar.{Date, is_date, day_number, date_after}

abbrev pub seconds_in_day : ℕ
seconds_in_day = 86400

-- ---- parsing

-- the decimal number from one place up to another
abbrev pub number_within : ℕ → ℕ → List ℕ → Option ℕ
number_within i j text = let part = slice_range text i j in if is_number part then Some (number part) else None

-- the marks of `YYYY-MM-DDTHH:MM:SS`
abbrev pub has_marks : List ℕ → Bool
has_marks text =
    (slice_index text 4 == 45) && (slice_index text 7 == 45) && (slice_index text 10 == 84)
    && (slice_index text 13 == 58) && (slice_index text 16 == 58)

-- the date of such a text, if the calendar has it from 1970 on
abbrev pub date_of : List ℕ → Option Date
date_of text =
    option_and_then (λ year. option_and_then (λ month. option_and_then (λ day.
    let date : Date = record { year = year; month = month; day = day } in
    if nat_le 1970 year && is_date date then Some date else None)
    (number_within 8 10 text)) (number_within 5 7 text)) (number_within 0 4 text)

-- the seconds since midnight of such a text; there is no second 60
abbrev pub seconds_of : List ℕ → Option ℕ
seconds_of text =
    option_and_then (λ hour. option_and_then (λ minute. option_and_then (λ second.
    if nat_lt hour 24 && nat_lt minute 60 && nat_lt second 60 then Some (hour * 3600 + minute * 60 + second) else None)
    (number_within 17 19 text)) (number_within 14 16 text)) (number_within 11 13 text)

-- the nanoseconds of a fraction of a second, by its digits after the point
abbrev pub nanos_of_digits : List ℕ → Option ℕ
nanos_of_digits digits =
    if is_number digits && nat_le (length digits) 9 then Some (number digits * 10 ^ (9 - length digits)) else None

-- the nanoseconds of what stands between the seconds and the `Z`: nothing, or a point and 1 to 9 digits
abbrev pub nanos_of_fraction : List ℕ → Option ℕ
nanos_of_fraction [] = Some 0
nanos_of_fraction (point ∷ digits) = if point == 46 then nanos_of_digits digits else None

-- what stands before a last `Z`
abbrev pub before_z : List ℕ → Option (List ℕ)
before_z text =
    if nat_lt 0 (length text) && (slice_index text (length text - 1) == 90) then Some (take (length text - 1) text) else None

-- the nanoseconds since 1970 of a date, seconds since midnight and a fraction
abbrev pub nanos_at : Date → ℕ → ℕ → ℕ
nanos_at date seconds fraction = (day_number date * seconds_in_day + seconds) * NANOS_PER_SECOND + fraction

-- the nanoseconds of what follows the seconds of such a text
abbrev pub fraction_of : List ℕ → Option ℕ
fraction_of text = option_and_then nanos_of_fraction (before_z (drop 19 text))

abbrev pub nanos_by : Option Date → Option ℕ → Option ℕ → Option ℕ
nanos_by (Some date) (Some seconds) (Some fraction) = Some (nanos_at date seconds fraction)
nanos_by _ _ _ = None

-- the value of a text of the form, which exists from 1970 on
abbrev pub nanos_of_text : List ℕ → Option ℕ
nanos_of_text text =
    if nat_lt (length text) 19 then None
    else if has_marks text then nanos_by (date_of text) (seconds_of text) (fraction_of text)
    else None

abbrev pub reading_below : ℕ → Option ℕ
reading_below n = if nat_lt n READING_END then Some n else None

-- the reading of a text, if it is of the form and has one
unfoldable pub instant_of : List ℕ → Option ℕ
instant_of text = option_and_then reading_below (nanos_of_text text)

-- ---- writing

-- a number in decimal, with zeros before it up to some digits
abbrev pub padded : ℕ → ℕ → List ℕ
padded width n = replicate (width - length (decimal n)) 48 ++ decimal n

abbrev pub date_text : Date → List ℕ
date_text d = padded 4 d.year ++ codes "-" ++ padded 2 d.month ++ codes "-" ++ padded 2 d.day

-- a time of day, by its seconds since midnight
abbrev pub time_text : ℕ → List ℕ
time_text seconds = padded 2 (seconds / 3600) ++ codes ":" ++ padded 2 (seconds / 60 % 60) ++ codes ":" ++ padded 2 (seconds % 60)

-- the text of an instant, with nine digits after the point
unfoldable pub instant_text : ℕ → List ℕ
instant_text nanos =
    let seconds = nanos / NANOS_PER_SECOND in
    date_text (date_after (seconds / seconds_in_day)) ++ codes "T" ++ time_text (seconds % seconds_in_day)
    ++ codes "." ++ padded 9 (nanos % NANOS_PER_SECOND) ++ codes "Z"
