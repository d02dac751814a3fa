-- The lists and the lost digests that mentions lead to, as the definition of the plan has them.
use Rattle.std.specs.Prelude.{ℕ, List, map, filter, filter_map}
use Rattle.keep_spec.specs.Config.{Configuration}
use Rattle.keep_event.specs.Requests.{ascending}
use Rattle.keep_event.specs.declared.lists.Lists.{Lists}
use Rattle.keep_event.specs.Plan.{Holding, trash_item, pull_item, is_lost}
use Rattle.keep_plan.specs.Mentions.{of_digest, holding_by}
use Rattle.keep_plan.specs.declared.mentions.Mention.{Mention}

abbrev pub digests_in : List Mention → List (List ℕ)
digests_in ms = ascending (map (λ m. m.digest) ms)

-- what all mentions of a digest say of it
abbrev pub holding_in : Configuration → List Mention → List ℕ → Holding
holding_in c ms h = holding_by c h (of_digest h ms)

-- the lists of a device by the holdings of some digests
abbrev pub lists_by : (List ℕ → Holding) → ℕ → List (List ℕ) → ℕ → Lists
lists_by holding threshold hs d = record {
  trash = filter_map (λ h. trash_item (holding h) threshold d) hs;
  pull = filter_map (λ h. pull_item (holding h) d) hs;
}

abbrev pub lost_by : (List ℕ → Holding) → List (List ℕ) → List (List ℕ)
lost_by holding hs = filter (λ h. is_lost (holding h)) hs
