-- An event that a run makes is a step: `event-steps`; and steps stay steps when more tasks are known: `steps-same`.
use Rattle.std.proofs.Common.{◌≡◌, ◌<◌, ℕ, ◌==◌, Bool, true, false, List, [], ◌∷◌, ◌++◌, reverse, refl, sym, ◌∙◌, ap, subst, if◌then◌else◌}
use Rattle.std.specs.List.{AllByRecursion}
use Rattle.std.proofs.lemmas.List.{append-nil, append_assoc, reverse-append}
use Rattle.keep_spec.specs.Config.{Configuration}
use Rattle.keep_event.specs.World.{World}
use Rattle.keep_event.specs.declared.event.Event.{Event}
use Rattle.keep_event.specs.declared.event.Query.{Query}
use Rattle.keep_safety.specs.Past.{Past}
use Rattle.keep_history.specs.Balance.{balance_after, balance_next, balances as balance_asks}
use Rattle.keep_history.specs.Effects.{Standing, event_of, is_failed}
use Rattle.keep_history.specs.Next.{Answered, asks, stands_after}
use Rattle.keep_history.specs.Tasks.{next}
use Rattle.keep_history.specs.declared.task.Task.{Task}
use Rattle.keep_history.specs.declared.task.Task.TheVariants as T
use Rattle.keep_rounds.specs.Balance as rounds
use Rattle.keep_rounds.specs.Balance.{standing}
use Rattle.keep_rounds.specs.Finish.{actor_of}
use Rattle.keep_rounds.specs.Interleaved.{AreSteps, IsStep, MayAsk, replies_to}
use Rattle.keep_rounds.proofs.Others.{asks-quietly}
use Rattle.keep_rounds.proofs.There.{TaskThere, asks-there}
use Rattle.keep_rounds.proofs.Worlds.{WorldIs, world-next}

-- ---- a balance by its answers, the earliest first, and by its replies, the latest first
forward : (c : Configuration) (seen answers : List Answered) → stands_after (balance_next c) balance_after (standing c seen) answers ≡ standing c (reverse answers ++ seen)
forward c seen [] = refl
forward c seen (a ∷ answers) =
    forward c (a ∷ seen) answers ∙ (sym (ap (standing c) (append_assoc (reverse answers) (a ∷ []) seen)) ∙ sym (ap (λ r. standing c (r ++ seen)) (reverse-append (a ∷ []) answers)))

pub balance-forward : (c : Configuration) (answers : List Answered) → balance_asks c answers ≡ rounds.next c (reverse answers)
balance-forward c answers = ap (balance_next c) (forward c [] answers ∙ ap (standing c) (append-nil (reverse answers)))

-- ---- more tasks are known
module _ (c : Configuration) (task_of : Event → ℕ) (balances others : ℕ → Bool) where
  pub replies-same : (n : ℕ) (past : Past) → replies_to c task_of balances n past ≡ replies_to c task_of others n past
  replies-same n [] = refl
  replies-same n (e ∷ past) = ap (λ (r : List Answered). if task_of e == n then record { tick = e.tick; answer = e.answer } ∷ r else r) (replies-same n past)

  may-same : (v : Bool) (n : ℕ) (past : Past) (q : Query) → MayAsk c task_of balances v n past q → MayAsk c task_of others v n past q
  may-same true n past q h = subst (λ r. rounds.next c r ≡ asks q) (replies-same n past) h
  may-same false n past q h = h

  pub steps-same : (past : Past) → AllByRecursion (λ e. balances (task_of e) ≡ others (task_of e)) past → AreSteps c task_of balances past → AreSteps c task_of others past
  steps-same [] same h = tt
  steps-same (e ∷ past) same h = (
    record {
      tick = h.0.tick;
      asked = subst (λ v. MayAsk c task_of others v (task_of e) past e.query) same.0 (may-same (balances (task_of e)) (task_of e) past e.query h.0.asked);
      answered = h.0.answered;
    },
    steps-same past same.1 h.1,
  )

-- ---- an event
abbrev pub is_balance : Task → Bool
is_balance T.Balance = true
is_balance _ = false

module _ (c : Configuration) (balances : ℕ → Bool) (past : Past) where
  -- what is known of a task that stands open
  pub record IsKnown (s : Standing) : Type 0 where
    pub kind : balances s.actor ≡ is_balance s.task
    pub replies : replies_to c actor_of balances s.actor past ≡ reverse s.answers
    pub devices : TaskThere c s.task

  asked-so : (t : Task) (actor : ℕ) (answers : List Answered) (q : Query) → replies_to c actor_of balances actor past ≡ reverse answers → TaskThere c t → next c t answers ≡ asks q → MayAsk c actor_of balances (is_balance t) actor past q
  unfolding next
  asked-so T.Balance actor answers q replies h e = ap (rounds.next c) replies ∙ (sym (balance-forward c answers) ∙ e)
  asked-so (T.Put devices token id block) actor answers q replies h e = asks-quietly c (T.Put devices token id block) answers q tt e
  asked-so (T.Get devices hash) actor answers q replies h e = asks-quietly c (T.Get devices hash) answers q tt e
  asked-so (T.Touch devices token id hash text) actor answers q replies h e = asks-quietly c (T.Touch devices token id hash text) answers q tt e
  asked-so (T.Untrash devices hash) actor answers q replies h e = asks-quietly c (T.Untrash devices hash) answers q tt e
  asked-so (T.Restart device) actor answers q replies h e = asks-quietly c (T.Restart device) answers q tt e
  asked-so (T.Table x) actor answers q replies h e = asks-quietly c (T.Table x) answers q h e
  asked-so (T.TrashWorker device) actor answers q replies h e = asks-quietly c (T.TrashWorker device) answers q tt e
  asked-so (T.PullWorker device) actor answers q replies h e = asks-quietly c (T.PullWorker device) answers q tt e
  asked-so (T.EmptyWorker device) actor answers q replies h e = asks-quietly c (T.EmptyWorker device) answers q tt e

  pub event-steps : (failed : List ℕ) (reading n : ℕ) (w : World) (s : Standing) (q : Query) → WorldIs c past w → AllByRecursion (λ x. x.tick < n) past → IsKnown s → next c s.task s.answers ≡ asks q
      → IsStep c actor_of balances past (event_of failed reading s.actor n q w).event
  event-steps failed reading n w s q h numbered known e =
      let leaves = world-next c past w h n reading s.actor (is_failed failed n) q (asks-there c s.task s.answers q known.devices e) in
      record {
        tick = numbered;
        asked = subst (λ v. MayAsk c actor_of balances v s.actor past q) (sym known.kind) (asked-so s.task s.actor s.answers q known.replies known.devices e);
        answered = leaves.answered;
      }
