-- A balance task by its replies, the latest first, as a past has them.
use Rattle.std.specs.Prelude.{ℕ, List, [], ◌∷◌}
use Rattle.keep_spec.specs.Config.{Configuration}
use Rattle.keep_spec.specs.Times.{threshold}
use Rattle.keep_event.specs.Plan.{planned}
use Rattle.keep_event.specs.declared.lists.Lists.{Lists}
use Rattle.keep_event.specs.declared.event.Query.{Query}
use Rattle.keep_history.specs.Next.{Answered, Next, moved}
use Rattle.keep_history.specs.Rounds.{Round}
use Rattle.keep_history.specs.Balance.{Balancing, new_balance, balance_next, balance_after, all_gathered, start_of}

abbrev pub lists_for : Configuration → ℕ → Round → ℕ → Lists
lists_for c number g d = planned c (all_gathered number g) (threshold c.ttl c.skew (start_of g.started)) d

abbrev pub after_reply : Query → Answered → Balancing → Balancing
after_reply q x s = balance_after q x s

abbrev pub after_next : Next → Answered → Balancing → Balancing
after_next nx x s = moved balance_after x nx s

abbrev pub next_of : Configuration → Balancing → Next
next_of c s = balance_next c s

-- where a task stands after its replies
abbrev pub standing : Configuration → List Answered → Balancing
standing c [] = new_balance
standing c (x ∷ earlier) = after_next (next_of c (standing c earlier)) x (standing c earlier)

abbrev pub next : Configuration → List Answered → Next
next c replies = next_of c (standing c replies)
