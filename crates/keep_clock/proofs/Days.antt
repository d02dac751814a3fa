-- Day numbers and dates from 1970 on, and the same by jiff.
use Rattle.std.proofs.Common.{◌≡◌, ℕ, zero, suc, ◌+◌, ◌-◌, ◌*◌, ◌/◌, ◌^◌, ◌-ℤ◌, ◌<◌, ◌≤◌, inl, inr, refl, sym, ap, ◌∙◌, arith, subst, if◌then◌else◌, negsuc, ℤ, pos, ◌+ℤ◌, ◌≤ℤ◌, unsigned_abs, Bool, true, false, nat_lt}
use Rattle.std.proofs.lemmas.Bool.{cases_order, ltb-true, ltb-false}
use Rattle.std.proofs.lemmas.Int.{by_lt_z}
use Rattle.jiff_core.specs.declared.civil.date.Date.{Date as Civil}
use Rattle.jiff_core.specs.Calendar as jiff
use Rattle.jiff_core.specs.declared.civil.datetime.DateTime.{DateTime}
use Rattle.jiff_core.specs.Date.{epoch_day}
use Rattle.jiff_core.specs.DateTime.{civil_nanos}
use Rattle.jiff_core.specs.Time.{time_nanos}
use Rattle.jiff_core.specs.Timestamp.{nanos_of_seconds, IsTimestampNanos}
use Rattle.jiff_core.proofs.DateTimeLemmas.{civil_nanos-parts, time_nanos_bound}
use Rattle.keep_spec.specs.declared.times.TheConstants.{READING_END}
use Rattle.jiff_core.proofs.SignedLemmas.{signed_arith}
use Rattle.jiff_core.proofs.CalendarLemmas.{day_count-epoch, day_count-next_year, day_count-day_of_year, days_from_civil-day_count, day_count-lt_year, day_count-lt_month, day_count-day, days_of_months_all}
use Rattle.keep_clock.specs.Calendar.{Date, days_in_year, days_in_month, days_of_years, days_of_months, day_number, next_day, date_after}
use Rattle.keep_clock.specs.Dates.{civil, IsFrom1970}

-- ---- one step

days_of_years-suc : (n : ℕ) → days_of_years (suc n) ≡ days_of_years n + days_in_year (n + 1970)
unfolding days_of_years
days_of_years-suc n = refl

days_of_years-zero : days_of_years 0 ≡ 0
unfolding days_of_years
days_of_years-zero = refl

days_of_months-suc : (y n : ℕ) → days_of_months y (suc n) ≡ days_of_months y n + days_in_month y (n + 1)
unfolding days_of_months
days_of_months-suc y n = refl

days_of_months-zero : (y : ℕ) → days_of_months y 0 ≡ 0
unfolding days_of_months
days_of_months-zero y = refl

days_in_year-least : (y : ℕ) → 365 ≤ days_in_year y
days_in_year-least y = grind arith

days_in_month-bounds : (y m : ℕ) → (28 ≤ days_in_month y m) × (days_in_month y m ≤ 31)
days_in_month-bounds y m = grind arith

pub years_least : (n : ℕ) → 365 * n ≤ days_of_years n
years_least zero = omega arith
years_least (suc n) = omega (arith, years_least n, days_of_years-suc n, days_in_year-least (n + 1970))

-- ---- the same as jiff's

abs_is : (z : ℤ) → pos 0 ≤ℤ z → z ≡ pos (unsigned_abs z)
abs_is (pos n) h = refl
abs_is (negsuc n) h = absurd (omega (arith, signed_arith, h))

years_same : (n : ℕ) → jiff.day_count (pos (n + 1970)) 1 1 ≡ 4_371_953 + days_of_years n
years_same zero = rw (days_of_years-zero, day_count-epoch) refl
years_same (suc n) =
    omega (arith, years_same n, days_of_years-suc n, day_count-next_year (pos (n + 1970)) (pos (suc n + 1970)) (omega (arith, signed_arith)) (omega (arith, signed_arith)))

jiff_months-suc : (y : ℤ) (n : ℕ) → jiff.days_of_months y (suc n) ≡ jiff.days_of_months y n + jiff.days_in_month y (suc n)
unfolding jiff.days_of_months
jiff_months-suc y n = refl

jiff_months-zero : (y : ℤ) → jiff.days_of_months y 0 ≡ 0
unfolding jiff.days_of_months
jiff_months-zero y = refl

months_same : (y n : ℕ) → jiff.days_of_months (pos y) n ≡ days_of_months y n
months_same y zero = jiff_months-zero (pos y) ∙ sym (days_of_months-zero y)
months_same y (suc n) =
    let one : suc n ≡ n + 1 = omega arith in
    omega (arith, months_same y n, days_of_months-suc y n, jiff_months-suc (pos y) n, ap (days_in_month y) one)

-- a date of the calendar as jiff counts its days
count_same : (y m d : ℕ) → 1970 ≤ y → 1 ≤ d → jiff.day_count (pos y) m d ≡ 4_371_953 + day_number (record { year = y; month = m; day = d })
count_same y m d from first =
    let back : y - 1970 + 1970 ≡ y = omega arith in
    omega (arith, day_count-day_of_year (pos y) m d first, rw back at (years_same (y - 1970)), months_same y (m - 1))

year_is : (d : Civil) → IsFrom1970 d → d.year ≡ pos (unsigned_abs d.year)
year_is d from = abs_is d.year (omega (arith, signed_arith))

pub day_same : (d : Civil) → IsFrom1970 d → epoch_day d ≡ pos (day_number (civil d))
day_same d from =
    let year : d.year ≡ pos (unsigned_abs d.year) = year_is d from in
    let y1970 : 1970 ≤ unsigned_abs d.year = omega (arith, signed_arith, year, from) in
    omega (arith, signed_arith, days_from_civil-day_count d.year d.month d.day, ap (λ y. jiff.day_count y d.month d.day) year, count_same (unsigned_abs d.year) d.month d.day y1970 d.day_in.0)

-- ---- the day after

-- the calendar has this date, from 1970 on
abbrev pub IsValid : Date → Type 0
IsValid d = (1 ≤ d.month) × (d.month ≤ 12) × (1 ≤ d.day) × (d.day ≤ days_in_month d.year d.month) × (1970 ≤ d.year)

next_by : Date → Bool → Bool → Date
next_by d a b =
    if a then record d { day = d.day + 1 }
    else if b then record { year = d.year; month = d.month + 1; day = 1 }
    else record { year = d.year + 1; month = 1; day = 1 }

valid_by : (d : Date) (a b : Bool) → nat_lt d.day (days_in_month d.year d.month) ≡ a → nat_lt d.month 12 ≡ b → IsValid d → IsValid (next_by d a b)
unfolding next_by
valid_by d true b e f v = (v.0, v.1, omega arith, omega (arith, ltb-true _ _ e), v.4)
valid_by d false true e f v =
    (omega arith, omega (arith, ltb-true _ _ f), omega arith, omega (arith, days_in_month-bounds d.year (d.month + 1)), v.4)
valid_by d false false e f v =
    (omega arith, omega arith, omega arith, omega (arith, days_in_month-bounds (d.year + 1) 1), omega (arith, v.4))

next_valid : (d : Date) → IsValid d → IsValid (next_day d)
unfolding next_by
next_valid d v = valid_by d (nat_lt d.day (days_in_month d.year d.month)) (nat_lt d.month 12) refl refl v

months_more : (y m : ℕ) → 1 ≤ m → days_of_months y m ≡ days_of_months y (m - 1) + days_in_month y m
months_more y zero h = absurd (omega arith)
months_more y (suc m) h =
    let back : suc m - 1 ≡ m = omega arith in
    let one : m + 1 ≡ suc m = omega arith in
    rw back (days_of_months-suc y m ∙ ap (λ k. days_of_months y m + days_in_month y k) one)

months_all : (y : ℕ) → days_of_months y 12 ≡ days_in_year y
months_all y = sym (months_same y 12) ∙ days_of_months_all (pos y)

december : (y m : ℕ) → m ≡ 12 → days_in_month y m ≡ 31
december y m e = ap (days_in_month y) e

number_by : (d : Date) (a b : Bool) → nat_lt d.day (days_in_month d.year d.month) ≡ a → nat_lt d.month 12 ≡ b → IsValid d → day_number (next_by d a b) ≡ day_number d + 1
unfolding next_by
number_by d true b e f v = omega (arith, v.2)
number_by d false true e f v =
    let back : d.month + 1 - 1 ≡ d.month = omega arith in
    let last : d.day ≡ days_in_month d.year d.month = omega (arith, ltb-false _ _ e, v.3) in
    omega (arith, v.2, last, ap (days_of_months d.year) back, months_more d.year d.month v.0)
number_by d false false e f v =
    let last : d.day ≡ days_in_month d.year d.month = omega (arith, ltb-false _ _ e, v.3) in
    let twelve : d.month ≡ 12 = omega (arith, ltb-false _ _ f, v.1) in
    let there : d.year + 1 - 1970 ≡ suc (d.year - 1970) = omega (arith, v.4) in
    let here : d.year - 1970 + 1970 ≡ d.year = omega (arith, v.4) in
    omega (arith, v.2, last, twelve, months_more d.year d.month v.0, ap (days_of_months d.year) twelve, months_all d.year, days_of_months-zero (d.year + 1), ap days_of_years there, days_of_years-suc (d.year - 1970), ap days_in_year here)

next_number : (d : Date) → IsValid d → day_number (next_day d) ≡ day_number d + 1
unfolding next_by
next_number d v = number_by d (nat_lt d.day (days_in_month d.year d.month)) (nat_lt d.month 12) refl refl v

-- ---- dates by their numbers

date_after-suc : (n : ℕ) → date_after (suc n) ≡ next_day (date_after n)
unfolding date_after
date_after-suc n = refl

date_after-zero : date_after 0 ≡ record { year = 1970; month = 1; day = 1 }
unfolding date_after
date_after-zero = refl

first_number : day_number (record { year = 1970; month = 1; day = 1 }) ≡ 0
first_number = omega (arith, days_of_years-zero, days_of_months-zero 1970)

after_valid : (n : ℕ) → IsValid (date_after n)
after_valid zero = subst IsValid (sym date_after-zero) (omega arith, omega arith, omega arith, omega arith, omega arith)
after_valid (suc n) = subst IsValid (sym (date_after-suc n)) (next_valid (date_after n) (after_valid n))

after_number : (n : ℕ) → day_number (date_after n) ≡ n
after_number zero = ap day_number date_after-zero ∙ first_number
after_number (suc n) = omega (arith, ap day_number (date_after-suc n), next_number (date_after n) (after_valid n), after_number n)

-- ---- one date for each number

civil_date : (d : Date) → IsValid d → d.year ≤ 9999 → jiff.IsCivilDate (pos d.year) d.month d.day
civil_date d v h = ((omega (arith, signed_arith), omega (arith, signed_arith)), (v.0, v.1), (v.2, v.3))

same_count : (d : Date) → IsValid d → jiff.day_count (pos d.year) d.month d.day ≡ 4_371_953 + day_number d
same_count d v = count_same d.year d.month d.day v.4 v.2

same_date : (a b : Date) → a.year ≡ b.year → a.month ≡ b.month → a.day ≡ b.day → a ≡ b
same_date a b year month day =
    let make : ℕ → ℕ → ℕ → Date = λ y m d. record { year = y; month = m; day = d } in
    ap (λ y. make y a.month a.day) year ∙ ap (λ m. make b.year m a.day) month ∙ ap (λ d. make b.year b.month d) day

number_injective : (a b : Date) → IsValid a → IsValid b → a.year ≤ 9999 → b.year ≤ 9999 → day_number a ≡ day_number b → a ≡ b
number_injective a b v w h k e =
    let f = civil_date a v h in
    let g = civil_date b w k in
    elim (cases_order a.year b.year) [
      | inr (inl lt) ↦ absurd (omega (arith, same_count a v, same_count b w, day_count-lt_year (pos a.year) a.month a.day (pos b.year) b.month b.day f w.2 (omega (arith, signed_arith))))
      | inr (inr gt) ↦ absurd (omega (arith, same_count a v, same_count b w, day_count-lt_year (pos b.year) b.month b.day (pos a.year) a.month a.day g v.2 (omega (arith, signed_arith))))
      | inl year ↦
          let moved = ap (λ y. jiff.day_count (pos y) b.month b.day) year in
          elim (cases_order a.month b.month) [
            | inr (inl lt) ↦ absurd (omega (arith, moved, same_count a v, same_count b w, day_count-lt_month (pos a.year) a.month a.day b.month b.day f w.2 lt))
            | inr (inr gt) ↦ absurd (omega (arith, ap (λ y. jiff.day_count (pos y) a.month a.day) year, same_count a v, same_count b w, day_count-lt_month (pos b.year) b.month b.day a.month a.day g v.2 gt))
            | inl month ↦
                let by_month = ap (λ m. jiff.day_count (pos a.year) m b.day) month in
                same_date a b year month (omega (arith, moved, by_month, same_count a v, same_count b w, day_count-day (pos a.year) a.month a.day b.day v.2 w.2))
          ]
    ]

from_1970 : (d : Civil) (n : ℕ) → epoch_day d ≡ pos n → IsFrom1970 d
from_1970 d n e =
    by_lt_z d.year (pos 1970) (λ lt. absurd (omega (arith, signed_arith, e, day_count-epoch, days_from_civil-day_count d.year d.month d.day, day_count-lt_year d.year d.month d.day (pos 1970) 1 1 (d.year_in, d.month_in, d.day_in) (omega arith) lt)))
    (λ ge. omega (arith, signed_arith, ge))

-- the date of a day number that jiff has
pub date_is : (d : Civil) (n : ℕ) → n < 300000 → epoch_day d ≡ pos n → civil d ≡ date_after n
date_is d n h e =
    let from = from_1970 d n e in
    let year : d.year ≡ pos (unsigned_abs d.year) = year_is d from in
    let number : day_number (civil d) ≡ n = omega (arith, signed_arith, day_same d from, e) in
    let valid : IsValid (civil d) = (d.month_in.0, d.month_in.1, d.day_in.0, subst (λ y. d.day ≤ jiff.days_in_month y d.month) year d.day_in.1, omega (arith, signed_arith, year, from)) in
    let w = after_valid n in
    let least = years_least ((date_after n).year - 1970) in
    number_injective (civil d) (date_after n) valid w (omega (arith, signed_arith, d.year_in, year)) (omega (arith, least, after_number n, w.4)) (number ∙ sym (after_number n))

-- ---- instants

-- the beginning of a date
pub midnight_nanos : (d : Civil) (dt : DateTime) → dt.date ≡ d → time_nanos dt.time ≡ 0 → IsFrom1970 d → civil_nanos dt -ℤ nanos_of_seconds (pos 0) ≡ pos (day_number (civil d) * 86400000000000)
midnight_nanos d dt date time from =
    let day : epoch_day dt.date ≡ pos (day_number (civil d)) = ap epoch_day date ∙ day_same d from in
    omega (arith, signed_arith, civil_nanos-parts dt, day, time)

-- what isn't an instant isn't a reading
pub no_reading : (k : ℕ) → ¬ (IsTimestampNanos (pos k)) → READING_END ≤ k
no_reading k h =
    elim (cases_order k READING_END) [
      | inl same ↦ omega (arith, same)
      | inr (inl lt) ↦ absurd (h (omega (arith, signed_arith, lt), omega (arith, signed_arith, lt)))
      | inr (inr gt) ↦ omega (arith, gt)
    ]

-- the date at an instant
pub date_is_at : (dt : DateTime) (n : ℕ) → n < 2 ^ 64 → civil_nanos dt ≡ pos n +ℤ nanos_of_seconds (pos 0) → civil dt.date ≡ date_after (n / 1000000000 / 86400)
date_is_at dt n fits e =
    date_is dt.date (n / 1000000000 / 86400) (omega (arith, fits)) (omega (arith, signed_arith, civil_nanos-parts dt, time_nanos_bound dt.time, e))
