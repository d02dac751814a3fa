-- The order of one round, whatever its task is answered: each device is cleared, then each gives its pages, then the table its rows, then lists are sent, and they are those of the plan of what was given.
use Rattle.std.specs.Prelude.{◌≡◌, ℕ, List, [], ◌∷◌, ◌++◌, map, reverse, Some}
use Rattle.keep_spec.specs.Config.{Configuration}
use Rattle.keep_event.specs.declared.device.DeviceQuery.TheVariants.{Accept}
use Rattle.keep_event.specs.declared.lists.Lists.{Lists}
use Rattle.keep_event.specs.declared.event.Query.TheVariants as Q
use Rattle.keep_safety.specs.Allowed.{ArePlanned}
use Rattle.keep_history.specs.Rounds.{Round, Given}
use Rattle.keep_history.specs.Next.{Answered, asks}
use Rattle.keep_rounds.specs.Balance.{standing, next}
use Rattle.keep_history.specs.Balance.{device_numbers, all_pages, page_on, to_clear, to_page}

abbrev pub asked_of : Given → ℕ × List ℕ
asked_of p = page_on p.device p.prefix

-- What came is the first of what is asked for, in order; no page came before the last clear, and no rows before the last page.
pub record IsOrdered (c : Configuration) (g : Round) : Type 0 where
  pub cleared : reverse g.cleared ++ to_clear c g ≡ device_numbers c
  pub paged : reverse (map asked_of g.pages) ++ to_page c g ≡ all_pages c
  pub after_clears : (d : ℕ) (ds : List ℕ) → to_clear c g ≡ d ∷ ds → g.pages ≡ []
  pub after_pages : (x : ℕ × List ℕ) (xs : List (ℕ × List ℕ)) → to_page c g ≡ x ∷ xs → g.scans ≡ []

pub record SendsPlanned (c : Configuration) (replies : List Answered) (d r : ℕ) (lists : Lists) : Type 0 where
  pub number : (standing c replies).number ≡ Some r
  pub planned : ArePlanned c r (standing c replies).round d lists

pub record RoundsAreInOrder (c : Configuration) : Type 0 where
  pub ordered : (replies : List Answered) (r : ℕ) → (standing c replies).number ≡ Some r → IsOrdered c (standing c replies).round
  pub planned : (replies : List Answered) (d r : ℕ) (lists : Lists) → next c replies ≡ asks (Q.Device d (Accept r lists)) → SendsPlanned c replies d r lists
