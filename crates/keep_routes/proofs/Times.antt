-- The time of a text is a reading.
use Rattle.std.proofs.Common.{◌≡◌, ◌<◌, ℕ, List, Option, None, Some, Bool, true, false, refl}
use Rattle.std.specs.Prelude.{option_and_then, nat_lt, IfSome, if◌then◌else◌}
use Rattle.std.proofs.lemmas.Bool.{ltb-true}
use Rattle.keep_spec.specs.declared.times.TheConstants.{READING_END}
use Rattle.keep_clock.specs.Instants.{instant_of, nanos_of_text, reading_below}

below : (o : Option ℕ) → IfSome (option_and_then reading_below o) (λ n. n < READING_END)
below None = tt
below (Some n) = here (nat_lt n READING_END) (ltb-true n READING_END)
  where
    here : (b : Bool) → (b ≡ true → n < READING_END) → IfSome (if b then Some n else None) (λ n. n < READING_END)
    here true lt = lt refl
    here false lt = tt

pub instant_below : (text : List ℕ) → IfSome (instant_of text) (λ n. n < READING_END)
unfolding instant_of
instant_below text = below (nanos_of_text text)
