-- The events of a task, one after another: `asking-start`, `asking-more`, and how they stop: `asking-ended`, `asking-stopped`.
use Rattle.std.proofs.Common.{◌≡◌, ◌≤◌, ℕ, List, [], ◌∷◌, ◌++◌, Result, Ok, Err, refl, sym, ap, ◌∙◌, subst, arith, append_assoc, Bool, true, false, inl, inr, map}
use Rattle.std.specs.Prelude.{⊤}
use Rattle.std.proofs.lemmas.List.{append-nil, map-append}
use Rattle.keep_event.specs.Port.{event_of, HasFailed, HasSpent, NoneFalls, most_events}
use Rattle.keep_event.specs.declared.event.Event.{Event}
use Rattle.keep_event.specs.declared.event.Query.{Query}
use Rattle.keep_event.specs.declared.port.Reply.{Reply}
use Rattle.keep_event.specs.declared.port.PortError.{PortError}
use Rattle.keep_event.specs.declared.port.PortError.TheVariants as F
use Rattle.keep_history.specs.Next.{Answered, Next, asks, ends}
use Rattle.keep_history.specs.declared.task.Outcome.{Outcome}
use Rattle.keep_steps.specs.Steps.{AsksOnce, IsAsked, IsReturned, PortView, answered}
use Rattle.keep_steps.specs.declared.steps.Step.{Step}
use Rattle.keep_api.specs.Sessions.{AreAsked, IsFinished, Made, Seen, answer_of}
use Rattle.keep_api.proofs.Made.{made-more, made-none, made-not, made-one, made-same}

-- one event more
pub asked-more : (actor : ℕ) (next : List Answered → Next) (answers : List Answered) (es : List Event) (e : Event) → AreAsked actor next answers es → e.actor ≡ actor → next (answers ++ map answer_of es) ≡ asks e.query → AreAsked actor next answers (es ++ e ∷ [])
asked-more actor next answers [] e all is asked = (is, (ap next (sym (append-nil answers)) ∙ asked, tt))
asked-more actor next answers (f ∷ es) e all is asked =
    (all.0, (all.1.0, asked-more actor next (answers ++ answer_of f ∷ []) es e all.1.1 is (ap next (append_assoc answers (answer_of f ∷ []) (map answer_of es)) ∙ asked)))

-- the events so far, after which the task stands
pub record IsAsking (actor : ℕ) (next : List Answered → Next) (stands : (List Answered → Next) → List Answered → Type 0) (old now : Seen) : Type 0 where
  pub events : List Event
  pub asked : AreAsked actor next [] events
  pub stands_there : stands next (map answer_of events)
  pub made : Made old now events

pub asking-start : (actor : ℕ) (next : List Answered → Next) (stands : (List Answered → Next) → List Answered → Type 0) (old : Seen) → stands next [] → IsAsking actor next stands old old
asking-start actor next stands old there = record { events = []; asked = tt; stands_there = there; made = made-none old }

-- what a view of a port shows of it
abbrev pub seen_of : PortView → Seen
seen_of v = record { events = v.told; world = v.world; stamp = v.stamp }

-- what a step made
replied : (actor : ℕ) (query : Query) (old new : PortView) (reply : Reply) → IsAsked actor query old new (Ok reply) → Made (seen_of old) (seen_of new) (event_of actor query reply ∷ [])
replied actor query old new reply a = made-one actor query (seen_of old) (seen_of new) reply a.told a.world a.stamped

refused : (actor : ℕ) (query : Query) (old new : PortView) (e : PortError) → IsAsked actor query old new (Err e) → Made (seen_of old) (seen_of new) []
refused actor query old new e a = made-not actor query (seen_of old) (seen_of new) e a.told a.world a.stamped

step-made : (sure : Bool) (actor : ℕ) (query : Query) (old new : PortView) (step : Step) → AsksOnce sure actor query old new (Ok step) → Made (seen_of old) (seen_of new) (event_of actor query step.reply ∷ [])
step-made sure actor query old new step asked =
    replied actor query old new step.reply (subst (IsAsked actor query old new) (returned sure asked.0 asked.1.1) asked.1.0)
  where
    returned : (b : Bool) (r : Result Reply PortError) → IsReturned b r (Ok step) → r ≡ Ok step.reply
    returned b r h = h

module _ (actor : ℕ) (next : List Answered → Next) (before : (List Answered → Next) → List Answered → Type 0) (old : Seen) (mid new : PortView) (a : IsAsking actor next before old (seen_of mid)) (query : Query) (named : next (map answer_of a.events) ≡ asks query) (sure : Bool) where
  longer : (reply : Reply) → AreAsked actor next [] (a.events ++ event_of actor query reply ∷ [])
  longer reply = asked-more actor next [] a.events (event_of actor query reply) a.asked refl named

  answers : (reply : Reply) → map answer_of a.events ++ answered reply ∷ [] ≡ map answer_of (a.events ++ event_of actor query reply ∷ [])
  answers reply = sym (map-append answer_of a.events (event_of actor query reply ∷ []))

  joined : (es : List Event) → Made (seen_of mid) (seen_of new) es → Made old (seen_of new) (a.events ++ es)
  joined es h = made-more old (seen_of mid) (seen_of new) a.events es a.made h

  pub asking-more : (after : (List Answered → Next) → List Answered → Type 0) (step : Step) → AsksOnce sure actor query mid new (Ok step) → after next (map answer_of a.events ++ answered step.reply ∷ []) → IsAsking actor next after old (seen_of new)
  asking-more after step asked goes = record {
    events = a.events ++ event_of actor query step.reply ∷ [];
    asked = longer step.reply;
    stands_there = subst (after next) (answers step.reply) goes;
    made = joined (event_of actor query step.reply ∷ []) (step-made sure actor query mid new step asked);
  }

  pub asking-ended : (step : Step) (end : Outcome) → AsksOnce sure actor query mid new (Ok step) → next (map answer_of a.events ++ answered step.reply ∷ []) ≡ ends end → IsFinished actor next old (seen_of new) (Ok end)
  asking-ended step end asked ended = (
    a.events ++ event_of actor query step.reply ∷ [],
    (longer step.reply, (ap next (sym (answers step.reply)) ∙ ended, joined (event_of actor query step.reply ∷ []) (step-made sure actor query mid new step asked))),
  )

  pub asking-stopped : (e : PortError) → AsksOnce sure actor query mid new (Err e) → IsFinished actor next old (seen_of new) (Err e)
  asking-stopped e asked = by sure asked.0 asked.1.0 asked.1.1
    where
      none : (r : Result Reply PortError) → IsAsked actor query mid new r → r ≡ Err e → IsFinished actor next old (seen_of new) (Err e)
      none r h is = (a.events, (a.asked, made-same old (seen_of mid) (seen_of new) a.events a.made (refused actor query mid new e (subst (IsAsked actor query mid new) is h))))

      one : (r : Result Reply PortError) (reply : Reply) → IsAsked actor query mid new r → r ≡ Ok reply → IsFinished actor next old (seen_of new) (Err e)
      one r reply h is =
          (a.events ++ event_of actor query reply ∷ [], (longer reply, joined (event_of actor query reply ∷ []) (replied actor query mid new reply (subst (IsAsked actor query mid new) is h))))

      by : (b : Bool) (r : Result Reply PortError) → IsAsked actor query mid new r → IsReturned b r (Err e) → IsFinished actor next old (seen_of new) (Err e)
      by true r h is = none r h is
      by false r h is =
          elim is as (λ _. IsFinished actor next old (seen_of new) (Err e)) [
            | inl i ↦ none r h i
            | inr i ↦ one r i.0 h i.1.0
          ]

pub asking-out : (actor : ℕ) (next : List Answered → Next) (stands : (List Answered → Next) → List Answered → Type 0) (old now : Seen) (e : PortError) → IsAsking actor next stands old now → IsFinished actor next old now (Err e)
asking-out actor next stands old now e a = (a.events, (a.asked, a.made))

-- ---- counts

pub failed-kept : (a b : ℕ) (r : Result Reply PortError) → HasFailed a b r → a ≤ b
failed-kept a b (Ok reply) h = omega (arith, h)
failed-kept a b (Err F.Failed) h = h.1
failed-kept a b (Err (F.Spent drawn)) h = omega (arith, h)
failed-kept a b (Err F.NoMemory) h = omega (arith, h)

pub spent-kept : (a b : ℕ) (r : Result Reply PortError) → HasSpent a b r → a ≤ b
spent-kept a b (Ok reply) h = omega (arith, h)
spent-kept a b (Err F.Failed) h = omega (arith, h)
spent-kept a b (Err (F.Spent drawn)) h = h.1.0
spent-kept a b (Err F.NoMemory) h = omega (arith, h)

-- the error of a call that failed
abbrev pub error_in : {X : Type 0} → Result X PortError → PortError
error_in (Err e) = e
error_in (Ok x) = F.Failed

-- a port's refusal because all numbers were drawn
abbrev IsSpent : PortError → Type 0
IsSpent (F.Spent drawn) = ⊤
IsSpent other = ⊥

pub drawn-all : (a b : ℕ) (r : Result Reply PortError) (drawn : ℕ) → HasSpent a b r → r ≡ Err (F.Spent drawn) → drawn ≡ most_events
drawn-all a b r drawn h is = (subst (HasSpent a b) is h).1.1

returned-all : (sure : Bool) (a b : ℕ) (r : Result Reply PortError) (drawn : ℕ) → HasSpent a b r → IsReturned sure r (Err (F.Spent drawn)) → drawn ≡ most_events
returned-all true a b r drawn h is = drawn-all a b r drawn h is
returned-all false a b r drawn h is =
    elim is as (λ _. drawn ≡ most_events) [
      | inl i ↦ drawn-all a b r drawn h i
      | inr i ↦ absurd (subst IsSpent i.1.1 tt)
    ]

pub step-drawn : (sure : Bool) (actor : ℕ) (query : Query) (old new : PortView) (result : Result Step PortError) → AsksOnce sure actor query old new result → (drawn : ℕ) → result ≡ Err (F.Spent drawn) → drawn ≡ most_events
step-drawn sure actor query old new result asked drawn is =
    returned-all sure old.spent new.spent asked.0 drawn asked.1.0.spent (subst (IsReturned sure asked.0) is asked.1.1)

module _ (sure : Bool) (actor : ℕ) (query : Query) (old new : PortView) (result : Result Step PortError) (asked : AsksOnce sure actor query old new result) where
  pub step-faults : old.faults ≤ new.faults
  step-faults = failed-kept old.faults new.faults asked.0 asked.1.0.failed

  pub step-spent : old.spent ≤ new.spent
  step-spent = spent-kept old.spent new.spent asked.0 asked.1.0.spent

  pub step-stores : NoneFalls old.store_faults new.store_faults
  step-stores = asked.1.0.store_faults_stay

  pub step-devices : new.devices ≡ old.devices
  step-devices = asked.1.0.devices_stay
