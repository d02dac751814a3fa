-- An instant by its parts.
use Rattle.std.proofs.Common.{◌≡◌, ℕ, List, length, nat_lt, Bool, true, false, Option, None, option_and_then, if◌then◌else◌, ap, sym, ◌∙◌}
use Rattle.keep_clock.specs.Calendar.{Date}
use Rattle.keep_clock.specs.Instants.{date_of, fraction_of, has_marks, instant_of, nanos_by, reading_below, seconds_of}

pub parts_are : (r : Option ℕ) (text : List ℕ) (d : Option Date) (s f : Option ℕ) → r ≡ option_and_then reading_below (nanos_by d s f) → d ≡ date_of text → s ≡ seconds_of text → f ≡ fraction_of text → nat_lt (length text) 19 ≡ false → has_marks text ≡ true → r ≡ instant_of text
unfolding instant_of
parts_are r text d s f made date seconds fraction long marks =
    let read : Option Date → Option ℕ → Option ℕ → Option ℕ = λ x y z. option_and_then reading_below (nanos_by x y z) in
    let test : Bool → Bool → Option ℕ = λ a b. option_and_then reading_below (if a then None else if b then nanos_by (date_of text) (seconds_of text) (fraction_of text) else None) in
    made ∙ ap (λ x. read x s f) date ∙ ap (λ y. read (date_of text) y f) seconds ∙ ap (read (date_of text) (seconds_of text)) fraction
    ∙ sym (ap (λ a. test a (has_marks text)) long ∙ ap (test false) marks)
