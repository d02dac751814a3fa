-- A task of which a small state is known: how it begins, `goes-first`; what it asks, `goes-asks`; where an answer takes it, `goes-after` and `stands-more`; and what holds wherever it stands, `stands-keep`.
use Rattle.std.proofs.Common.{◌≡◌, List, [], ◌∷◌, ◌++◌, refl, sym, ◌∙◌, ap}
use Rattle.std.proofs.lemmas.List.{append-nil, append_assoc}
use Rattle.keep_event.specs.declared.event.Query.{Query}
use Rattle.keep_history.specs.Next.{Answered, GoesFrom, Next, asks, ends, goes_on, moved, stands_after}

module _ {S : Type 0} (next : S → Next) (after : Query → Answered → S → S) (s : S) (by : List Answered → Next) where
  pub goes-first : ((answers : List Answered) → by answers ≡ goes_on next after s answers) → GoesFrom next after s by []
  goes-first h more = h more

  module _ (answers : List Answered) (goes : GoesFrom next after s by answers) where
    -- what is next after the answers is what is next there
    pub goes-asks : by answers ≡ next s
    goes-asks = sym (ap by (append-nil answers)) ∙ goes []

    -- an answer to the query that is next there
    pub goes-after : (q : Query) (a : Answered) → next s ≡ asks q → GoesFrom next after (after q a s) by (answers ++ a ∷ [])
    goes-after q a asked more =
        ap by (append_assoc answers (a ∷ []) more) ∙ (goes (a ∷ more) ∙ ap (λ nx. goes_on next after (moved after a nx s) more) asked)

  -- one answer more
  pub stands-more : (answers : List Answered) (a : Answered) → stands_after next after s (answers ++ a ∷ []) ≡ moved after a (next (stands_after next after s answers)) (stands_after next after s answers)
  stands-more answers a = from s answers
    where
      from : (s : S) (answers : List Answered) → stands_after next after s (answers ++ a ∷ []) ≡ moved after a (next (stands_after next after s answers)) (stands_after next after s answers)
      from s [] = refl
      from s (b ∷ answers) = from (moved after b (next s) s) answers

-- what each answer keeps holds wherever the task stands
module _ {S : Type 0} (K : S → Type 0) (next : S → Next) (after : Query → Answered → S → S) (keeps : (q : Query) (a : Answered) (s : S) → K s → K (after q a s)) where
  moved-keeps : (a : Answered) (nx : Next) (s : S) → K s → K (moved after a nx s)
  moved-keeps a (asks q) s k = keeps q a s k
  moved-keeps a (ends outcome) s k = k

  pub stands-keep : (s : S) (answers : List Answered) → K s → K (stands_after next after s answers)
  stands-keep s [] k = k
  stands-keep s (a ∷ answers) k = stands-keep (moved after a (next s) s) answers (moved-keeps a (next s) s k)
