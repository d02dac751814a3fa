-- One query of an open task: what its reply makes (`event-made`), and what a turn did with it: `turn-spent`, `turn-ends` and `turn-asks` where it was done, `turn-refused` and `turn-part` where memory was refused.
use Rattle.std.proofs.Common.{◌≡◌, ◌≢◌, ℕ, zero, ◌+◌, Bool, true, false, List, [], ◌∷◌, ◌++◌, take, Option, None, Some, Result, Ok, Err, IfSome, inl, inr, refl, sym, ◌∙◌, ap, subst, arith}
use Rattle.std.proofs.lemmas.Bool.{eqb-true}
use Rattle.std.proofs.lemmas.List.{append-nil}
use Rattle.keep_spec.specs.Causes.{Rose}
use Rattle.keep_spec.specs.Config.{Configuration}
use Rattle.keep_event.specs.Port.{IsWorldAfter, Stamp, HasStoreFault}
use Rattle.keep_event.specs.World.{World, asked}
use Rattle.keep_event.specs.declared.device.DeviceAnswer.TheVariants as A
use Rattle.keep_event.specs.declared.event.Query.{Query}
use Rattle.keep_event.specs.declared.event.Query.TheVariants as Q
use Rattle.keep_event.specs.declared.event.Answer.{Answer}
use Rattle.keep_event.specs.declared.event.Answer.TheVariants as An
use Rattle.keep_event.specs.declared.port.PortError.{PortError}
use Rattle.keep_event.specs.declared.port.PortError.TheVariants as E
use Rattle.keep_event.specs.declared.port.Reply.{Reply}
use Rattle.keep_cluster.specs.Cluster.{View, world_of, stamp_of, faults_at}
use Rattle.keep_history.specs.declared.task.Outcome.{Outcome}
use Rattle.keep_history.specs.Effects.{Made, Asked, Standing, asked_on, event_of, events_max, is_failed, with_answer, line_of, event_lines, after_made}
use Rattle.keep_history.specs.Ended.{is_on, left_after}
use Rattle.keep_history.specs.Next.{Answered, Next, asks, ends}
use Rattle.keep_history.specs.Tasks.{next, is_fault}
use Rattle.keep_running.specs.Running.{stands, query_of}
use Rattle.keep_steps.specs.Steps.{IsAsked, IsReturned, AsksOnce, IsTaken, answered}
use Rattle.keep_steps.specs.declared.steps.Step.{Step}
use Rattle.keep_run.specs.Asked.{HasAsked, PartAsked, port_view, asking, device_of, line_at}
use Rattle.keep_run.specs.Faults.{Agrees, Rise}
use Rattle.keep_run.specs.Standing.{IsStanding}
use Rattle.keep_run.specs.declared.asking.Open.{Open}
use Rattle.keep_run.specs.declared.asking.Turned.TheVariants as T
use Rattle.keep_run.proofs.Events.{event-is}
use Rattle.keep_run.proofs.Faults.{rise-none, rise-one}
use Rattle.keep_run.proofs.Running.{any-asks}
use Rattle.keep_run.proofs.Turns.{stopped, turns-end, turns-none, turn-spent-is, turn-event}

-- an answer that is a fault of a store
fault-is : (a : Answer) → is_fault a ≡ true → a ≡ An.Device A.StoreFault
fault-is (An.Device A.StoreFault) e = refl
fault-is _ e = absurd cc

-- the line of an event names the device that was asked
line-is : (name : List ℕ) (q : Query) (a : Answer) → line_at name (device_of q) a ≡ line_of name q a
line-is name (Q.Device d q) (An.Device a) = refl
line-is name (Q.Device d q) (An.Table a) = refl
line-is name (Q.Table q) (An.Device a) = refl
line-is name (Q.Table q) (An.Table a) = refl

module _ (old new : View) (w : World) (actor : ℕ) (q : Query) (reply : Reply) where
  -- the event of a reply that left this world
  abbrev pub made_as : World → Made
  made_as left = record { event = record { tick = old.made; reading = old.reading; actor = actor; query = q; answer = reply.answer }; left = left }

  -- the reply's event
  pub record OneEvent : Type 0 where
    pub left : World
    pub is : (others : List ℕ) → is_failed others old.made ≡ is_fault reply.answer → event_of others old.reading actor old.made q w ≡ made_as left
    pub world_is : world_of new ≡ Some left
    pub not_last : old.made ≢ events_max
    pub count_is : new.made ≡ old.made + 1
    pub tick_is : reply.tick ≡ old.made
    pub rise : Rise (made_as left ∷ []) (faults_at old.devices) (faults_at new.devices)

  fault-rose : (device : ℕ) (query : Query) → HasStoreFault (faults_at old.devices) (faults_at new.devices) query (Ok reply) → is_fault reply.answer ≡ true → is_on device query ≡ true → Rose (faults_at old.devices device) (faults_at new.devices device)
  fault-rose device (Q.Device d query) h e on = subst (λ k. Rose (faults_at old.devices k) (faults_at new.devices k)) (eqb-true d device on) (h (fault-is reply.answer e))
  fault-rose device (Q.Table query) h e on = absurd cc

  same-stamp : (a b : Stamp) → Some a ≡ Some b → a ≡ b
  same-stamp a b e = cc

  pub event-made : world_of old ≡ Some w → IsAsked actor q (port_view old) (port_view new) (Ok reply) → OneEvent
  event-made told h =
      let after : IsWorldAfter w (world_of new) q (Ok reply) = subst (λ o. IfSome o (λ v. IsWorldAfter v (world_of new) q (Ok reply))) told h.world in
      let fails = after.0 in
      let reading : reply.reading ≡ old.reading = h.stamped.1.0 in
      let answer : reply.answer ≡ (asked fails old.reading q w).answer = after.1.0 ∙ ap (λ r. (asked fails r q w).answer) reading in
      record {
        left = (asked fails old.reading q w).world;
        is = λ others e. event-is others fails old.reading actor old.made q w (e ∙ ap is_fault answer)
            ∙ ap (λ (v : Answer). record { event = record { tick = old.made; reading = old.reading; actor = actor; query = q; answer = v }; left = (asked fails old.reading q w).world }) (sym answer);
        world_is = after.1.1 ∙ ap (λ r. Some (asked fails r q w).world) reading;
        not_last = λ e. omega (arith, h.stamped.1.1.0, e);
        count_is = ap (λ (s : Stamp). s.tick) (same-stamp _ _ h.stamped.1.1.1);
        tick_is = h.stamped.0;
        rise = rise-one _ _ _ h.store_faults_stay (λ device e on. fault-rose device q h.store_failed e on);
      }

module _ (config : Configuration) (old new : View) (w : World) (s : Standing) (open_old open_new : Open) (told : world_of old ≡ Some w) (standing : IsStanding config open_old s) where
  abbrev q : Query
  q = query_of open_old.task

  asks-next : next config s.task s.answers ≡ asks q
  asks-next = any-asks open_old.task (next config s.task) s.answers standing.stands_there

  f-asks : (failed : List ℕ) → asking 1 config old w s failed ≡ asked_on 1 config failed old.reading old.made w s (asks q)
  f-asks failed = ap (asked_on 1 config failed old.reading old.made w s) asks-next

  -- ---- no event is left

  once-spent : (drawn : ℕ) (name out : List ℕ) → IsAsked open_old.actor q (port_view old) (port_view new) (Err (E.Spent drawn)) → open_new.task ≡ open_old.task → open_new.actor ≡ open_old.actor → HasAsked config old new w open_new name out out T.Spent (asking 1 config old w s)
  unfolding left_after
  once-spent drawn name out h same actor =
      let stays : world_of new ≡ Some w = subst (λ o. IfSome o (λ v. IsWorldAfter v (world_of new) q (Err (E.Spent drawn)))) told h.world in
      record {
        asked = stopped w s None true;
        is = λ others agree. f-asks others ∙ turn-spent-is config others old.reading 0 old.made w s q h.stamped.0;
        numbered = tt;
        rise = rise-none _ _ h.store_faults_stay;
        world_is = stays;
        left_is = refl;
        count_is = ap (λ (t : Stamp). t.tick) (same-here (stamp_of new) (stamp_of old) h.stamped.1) ∙ plus-none old.made;
        outcome_is = refl;
        spent_is = refl;
        standing = λ none. record { actor = standing.actor ∙ sym actor; stands_there = subst (λ t. stands t (next config s.task) s.answers) (sym same) standing.stands_there };
        out_is = sym (append-nil out);
      }
    where
      same-here : (a b : Stamp) → Some a ≡ Some b → a ≡ b
      same-here a b e = cc

      plus-none : (n : ℕ) → n ≡ n + 0
      plus-none n = omega arith

  -- ---- where memory was refused before there was a reply

  once-none : (e : PortError) → IsAsked open_old.actor q (port_view old) (port_view new) (Err e) → PartAsked w old new (asking 1 config old w s)
  unfolding left_after
  once-none e h = record {
    made = [];
    is = λ others agree. refl;
    numbered = tt;
    rise = rise-none _ _ h.store_faults_stay;
    world_is = subst (λ o. IfSome o (λ v. IsWorldAfter v (world_of new) q (Err e))) told h.world;
  }

  -- ---- a reply

  module _ (reply : Reply) (h : IsAsked open_old.actor q (port_view old) (port_view new) (Ok reply)) where
    one : OneEvent old new w open_old.actor q reply
    one = event-made old new w open_old.actor q reply told h

    abbrev m : Made
    m = made_as old new w open_old.actor q reply one.left

    abbrev after : Standing
    after = with_answer s m.event

    abbrev rest_of : List ℕ → Asked
    rest_of failed = asked_on zero config failed old.reading (old.made + 1) m.left after (next config after.task after.answers)

    f-event : (others : List ℕ) → Agrees others (m ∷ []) → asking 1 config old w s others ≡ after_made m (rest_of others)
    f-event others agree =
        f-asks others ∙ turn-event config others old.reading 0 old.made w s q m one.not_last (ap (λ a. event_of others old.reading a old.made q w) standing.actor ∙ one.is others agree.0)

    answers-are : s.answers ++ answered reply ∷ [] ≡ after.answers
    answers-are = ap (λ (t : ℕ). s.answers ++ (record { tick = t; answer = reply.answer }) ∷ []) one.tick_is

    once-part : PartAsked w old new (asking 1 config old w s)
    unfolding left_after
    once-part = record {
      made = m ∷ [];
      is = λ others agree. ap (λ (a : Asked). take 1 a.made) (f-event others agree);
      numbered = (refl, tt);
      rise = one.rise;
      world_is = one.world_is;
    }

    abbrev went : Option Outcome → Asked
    went outcome = record { made = m ∷ []; world = m.left; standing = after; outcome = outcome; spent = false }

    printed : (name out_before out : List ℕ) → out ≡ out_before ++ line_at name (device_of q) reply.answer → out ≡ out_before ++ event_lines name (m ∷ [])
    printed name out_before out e = e ∙ ap (λ v. out_before ++ v) (line-is name q reply.answer ∙ sym (append-nil (line_of name q reply.answer)))

    once-ended : (outcome : Outcome) (name out_before out : List ℕ) → ((nx : List Answered → Next) → (answers : List Answered) → stands open_old.task nx answers → nx (answers ++ answered reply ∷ []) ≡ ends outcome) → out ≡ out_before ++ line_at name (device_of q) reply.answer → HasAsked config old new w open_new name out_before out (T.Ended outcome) (asking 1 config old w s)
    unfolding left_after
    once-ended outcome name out_before out taken e = record {
      asked = went (Some outcome);
      is = λ others agree. f-event others agree ∙ ap (λ nx. after_made m (asked_on zero config others old.reading (old.made + 1) m.left after nx)) (ap (next config s.task) (sym answers-are) ∙ taken (next config s.task) s.answers standing.stands_there)
          ∙ ap (after_made m) (turns-end config others old.reading zero (old.made + 1) m.left after outcome);
      numbered = (refl, tt);
      rise = one.rise;
      world_is = one.world_is;
      left_is = refl;
      count_is = one.count_is;
      outcome_is = refl;
      spent_is = refl;
      standing = λ none. absurd (some-none none);
      out_is = printed name out_before out e;
    }
      where
        some-none : Some outcome ≡ None → ⊥
        some-none g = cc

    once-asks : (name out_before out : List ℕ) → ((nx : List Answered → Next) → (answers : List Answered) → stands open_old.task nx answers → stands open_new.task nx (answers ++ answered reply ∷ [])) → open_new.actor ≡ open_old.actor → out ≡ out_before ++ line_at name (device_of q) reply.answer → HasAsked config old new w open_new name out_before out T.Asks (asking 1 config old w s)
    unfolding left_after
    once-asks name out_before out taken actor e =
        let there : stands open_new.task (next config s.task) after.answers = subst (stands open_new.task (next config s.task)) answers-are (taken (next config s.task) s.answers standing.stands_there) in
        record {
          asked = went None;
          is = λ others agree. f-event others agree ∙ ap (λ nx. after_made m (asked_on zero config others old.reading (old.made + 1) m.left after nx)) (any-asks open_new.task (next config s.task) after.answers there)
              ∙ ap (after_made m) (turns-none config others old.reading (old.made + 1) m.left after (query_of open_new.task));
          numbered = (refl, tt);
          rise = one.rise;
          world_is = one.world_is;
          left_is = refl;
          count_is = one.count_is;
          outcome_is = refl;
          spent_is = refl;
          standing = λ none. record { actor = standing.actor ∙ sym actor; stands_there = there };
          out_is = printed name out_before out e;
        }

  -- ---- a step

  returned-spent : (sure : Bool) (drawn : ℕ) (r : Result Reply PortError) → IsReturned sure r (Err (E.Spent drawn)) → r ≡ Err (E.Spent drawn)
  returned-spent true drawn r h = h
  returned-spent false drawn r (inl h) = h
  returned-spent false drawn r (inr (reply, (is, e))) = absurd (not-memory e)
    where
      not-memory : E.Spent drawn ≡ E.NoMemory → ⊥
      not-memory e = cc

  pub turn-spent : (sure : Bool) (drawn : ℕ) (name out : List ℕ) → AsksOnce sure open_old.actor q (port_view old) (port_view new) (Err (E.Spent drawn)) → open_new.task ≡ open_old.task → open_new.actor ≡ open_old.actor → HasAsked config old new w open_new name out out T.Spent (asking 1 config old w s)
  turn-spent sure drawn name out (r, (h, back)) same actor =
      once-spent drawn name out (subst (IsAsked open_old.actor q (port_view old) (port_view new)) (returned-spent sure drawn r back) h) same actor

  refused-by : (sure : Bool) (r : Result Reply PortError) → IsAsked open_old.actor q (port_view old) (port_view new) r → IsReturned sure r (Err E.NoMemory) → PartAsked w old new (asking 1 config old w s)
  refused-by true r h back = once-none E.NoMemory (subst (IsAsked open_old.actor q (port_view old) (port_view new)) back h)
  refused-by false r h (inl back) = once-none E.NoMemory (subst (IsAsked open_old.actor q (port_view old) (port_view new)) back h)
  refused-by false r h (inr (reply, (back, e))) = once-part reply (subst (IsAsked open_old.actor q (port_view old) (port_view new)) back h)

  -- memory was refused before the query was asked, or for the end of its answer
  pub turn-refused : (sure : Bool) → AsksOnce sure open_old.actor q (port_view old) (port_view new) (Err E.NoMemory) → PartAsked w old new (asking 1 config old w s)
  turn-refused sure (r, (h, back)) = refused-by sure r h back

  module _ (sure : Bool) (step : Step) (asked_once : AsksOnce sure open_old.actor q (port_view old) (port_view new) (Ok step)) where
    replied : IsAsked open_old.actor q (port_view old) (port_view new) (Ok step.reply)
    replied = subst (IsAsked open_old.actor q (port_view old) (port_view new)) asked_once.1.1 asked_once.1.0

    -- the event was made, and no line of it
    pub turn-part : PartAsked w old new (asking 1 config old w s)
    turn-part = once-part step.reply replied

    abbrev Taken : Option Outcome → Type 0
    Taken end = (nx : List Answered → Next) → (answers : List Answered) → stands open_old.task nx answers → IsTaken nx (answers ++ answered step.reply ∷ []) end (stands open_new.task nx)

    pub turn-ends : (outcome : Outcome) (name out_before out : List ℕ) → Taken step.end → step.end ≡ Some outcome → out ≡ out_before ++ line_at name (device_of q) step.reply.answer → HasAsked config old new w open_new name out_before out (T.Ended outcome) (asking 1 config old w s)
    turn-ends outcome name out_before out taken e printed = once-ended step.reply replied outcome name out_before out (subst Taken e taken) printed

    pub turn-asks : (name out_before out : List ℕ) → Taken step.end → step.end ≡ None → open_new.actor ≡ open_old.actor → out ≡ out_before ++ line_at name (device_of q) step.reply.answer → HasAsked config old new w open_new name out_before out T.Asks (asking 1 config old w s)
    turn-asks name out_before out taken e actor printed = once-asks step.reply replied name out_before out (subst Taken e taken) actor printed
