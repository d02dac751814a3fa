-- Whatever tasks run at the same time, what has happened is allowed, and each balance task has of its round all that happened of it.
use Rattle.std.proofs.Common.{◌≡◌, ◌<◌, ℕ, [], ◌∷◌, Bool, true, false, refl, sym, ◌∙◌, ap, subst, Option, None, Some, arith, inl, inr, if◌then◌else◌}
use Rattle.std.specs.Prelude.{◌⊎◌}
use Rattle.std.proofs.lemmas.Bool.{eq-eqb, ne_eqb, cases_eq}
use Rattle.keep_spec.specs.Config.{Configuration}
use Rattle.keep_event.specs.declared.device.DeviceQuery.{DeviceQuery}
use Rattle.keep_event.specs.declared.device.DeviceQuery.TheVariants as DQ
use Rattle.keep_event.specs.declared.table.TableQuery.{TableQuery}
use Rattle.keep_event.specs.declared.table.TableQuery.TheVariants as TQ
use Rattle.keep_event.specs.declared.event.Event.{Event}
use Rattle.keep_event.specs.declared.event.Query.{Query}
use Rattle.keep_event.specs.declared.event.Query.TheVariants as Q
use Rattle.keep_event.specs.declared.event.Answer.{Answer}
use Rattle.keep_event.specs.declared.event.Answer.TheVariants as A
use Rattle.keep_safety.specs.Allowed.{IsAllowed, IsPlanned}
use Rattle.keep_safety.specs.Past.{Past, table_after}
use Rattle.keep_history.specs.Rounds.{Round}
use Rattle.keep_safety.specs.Rounds.{Stage, stage, at_stage}
use Rattle.keep_safety.proofs.Orders.{IsElsewhere, no-round-in-order}
use Rattle.keep_history.specs.Next.{Answered, asks}
use Rattle.keep_history.specs.Balance.{Balancing}
use Rattle.keep_history.specs.declared.task.Outcome.TheVariants.{Disordered}
use Rattle.keep_rounds.specs.Balance.{next_of, after_next, after_reply, standing}
use Rattle.keep_rounds.specs.Interleaved.{asks_of_round, replies_to, stands, MayAsk, IsStep, AreSteps, IsRun, RunsAreAllowed}
use Rattle.keep_safety.specs.History.{past_of}
use Rattle.keep_safety.proofs.Theorem.{histories-are-safe}
use Rattle.keep_rounds.specs.Safe.{RunsAreSafe}
use Rattle.keep_rounds.proofs.Asked.{asked-next}
use Rattle.keep_rounds.proofs.Drawn.{drawn-grows}
use Rattle.keep_rounds.proofs.Facts.{IsBegun, StandsSo, AreDrawn, Steps, stands-still, own-step}

-- ---- queries that ask nothing of rounds
device-none : (d : ℕ) (q : DeviceQuery) (a : Answer) → asks_of_round (Q.Device d q) ≡ false → stage (Q.Device d q) a ≡ None
device-none d (DQ.Clear round) a e = cc e
device-none d (DQ.Page round prefix) a e = cc e
device-none d (DQ.Accept round lists) a e = cc e
device-none d _ a e = refl

table-none : (q : TableQuery) (a : Answer) → asks_of_round (Q.Table q) ≡ false → stage (Q.Table q) a ≡ None
table-none TQ.BeginRound a e = cc e
table-none (TQ.Scan round after limit) a e = cc e
table-none _ a e = refl

none-asked : (q : Query) (a : Answer) → asks_of_round q ≡ false → stage q a ≡ None
none-asked (Q.Device d q) a e = device-none d q a e
none-asked (Q.Table q) a e = table-none q a e

none-planned : (c : Configuration) (past : Past) (q : Query) (a : Answer) → asks_of_round q ≡ false → IsPlanned c past q a
none-planned c past (Q.Table q) a e = tt
none-planned c past (Q.Device d q) (A.Table a) e = tt
none-planned c past (Q.Device d (DQ.Accept round lists)) (A.Device a) e = cc e
none-planned c past (Q.Device d _) (A.Device a) e = tt

-- ---- parts of equations
abbrev round_of : Option Stage → ℕ
round_of None = 0
round_of (Some s) = s.round

abbrev number_or : Option ℕ → ℕ
number_or None = 0
number_or (Some r) = r

same-round : (o : Option Stage) (r j s k : ℕ) → o ≡ at_stage r j → o ≡ at_stage s k → r ≡ s
same-round o r j s k e f = ap round_of (sym e ∙ f)

same-number : (o : Option ℕ) (r s : ℕ) → o ≡ Some r → o ≡ Some s → r ≡ s
same-number o r s e f = ap number_or (sym e ∙ f)

never-both : (b : Bool) → b ≡ true → b ≡ false → ⊥
never-both true e f = cc f
never-both false e f = cc e

module _ (c : Configuration) (task_of : Event → ℕ) (balances : ℕ → Bool) where
  abbrev pub task : ℕ → Past → Balancing
  task n past = stands c task_of balances n past

  pub record Stands (past : Past) : Type 0 where
    pub facts : (n : ℕ) → balances n ≡ true → StandsSo c task_of past n (task n past).number (task n past).round (task n past).cleared_at
    pub apart : (m n : ℕ) → balances m ≡ true → balances n ≡ true → (r : ℕ) → (task m past).number ≡ Some r → (task n past).number ≡ Some r → m ≡ n
    pub drawn : AreDrawn c past
    pub ordered : (n : ℕ) → balances n ≡ true → (x y : ℕ) → (task n past).ended ≡ Some (Disordered x y) → ⊥
    pub allowed : IsAllowed c past

  begun-of : (past : Past) (n : ℕ) (o : Option ℕ) (g : Round) (cleared_at r : ℕ) → o ≡ Some r → StandsSo c task_of past n o g cleared_at → IsBegun c task_of past n r g cleared_at
  begun-of past n o g cleared_at r e h = subst (λ v. StandsSo c task_of past n v g cleared_at) e h

  module _ (past : Past) (h : Stands past) where
    begun : (n : ℕ) → balances n ≡ true → (r : ℕ) → (task n past).number ≡ Some r → IsBegun c task_of past n r (task n past).round (task n past).cleared_at
    begun n b r e = begun-of past n (task n past).number (task n past).round (task n past).cleared_at r e (h.facts n b)

  pub stands-first : Stands []
  stands-first = record {
    facts = λ n b. (refl, refl);
    apart = λ m n b d r e f. cc e;
    drawn = λ r lt. tt;
    ordered = λ n b x y e. cc e;
    allowed = tt;
  }

  module _ (past : Past) (e : Event) where
    abbrev pub reply : Answered
    reply = record { tick = e.tick; answer = e.answer }

    pub task-own : (n : ℕ) → task_of e ≡ n → task n (e ∷ past) ≡ after_next (next_of c (task n past)) reply (task n past)
    task-own n is = ap (λ b. standing c (if b then reply ∷ replies_to c task_of balances n past else replies_to c task_of balances n past)) (eq-eqb (task_of e) n is)

    pub task-other : (n : ℕ) → (task_of e ≡ n → ⊥) → task n (e ∷ past) ≡ task n past
    task-other n never = ap (λ b. standing c (if b then reply ∷ replies_to c task_of balances n past else replies_to c task_of balances n past)) (ne_eqb (task_of e) n never)

    still : (n : ℕ) → Stands past → balances n ≡ true → (task_of e ≡ n → ⊥) → ((r : ℕ) → (task n past).number ≡ Some r → IsElsewhere r e.query e.answer) →
        StandsSo c task_of (e ∷ past) n (task n (e ∷ past)).number (task n (e ∷ past)).round (task n (e ∷ past)).cleared_at
    still n h b never elsewhere =
        subst (λ (s : Balancing). StandsSo c task_of (e ∷ past) n s.number s.round s.cleared_at) (sym (task-other n never))
        (stands-still c task_of past n (task n past).number (task n past).round (task n past).cleared_at e elsewhere (h.facts n b))

    number-still : (n r : ℕ) → (task_of e ≡ n → ⊥) → (task n (e ∷ past)).number ≡ Some r → (task n past).number ≡ Some r
    number-still n r never is = sym (ap (λ (s : Balancing). s.number) (task-other n never)) ∙ is

    ordered-still : (n x y : ℕ) → Stands past → balances n ≡ true → (task_of e ≡ n → ⊥) → (task n (e ∷ past)).ended ≡ Some (Disordered x y) → ⊥
    ordered-still n x y h b never is = h.ordered n b x y (sym (ap (λ (s : Balancing). s.ended) (task-other n never)) ∙ is)

    -- ---- an event of no round
    others-step : Stands past → IsStep c task_of balances past e → balances (task_of e) ≡ false → asks_of_round e.query ≡ false → Stands (e ∷ past)
    others-step h step other none = record {
      facts = λ n b. still n h b (another n b) (λ r is. nowhere r);
      apart = λ m n b d r is same. h.apart m n b d r (number-still m r (another m b) is) (number-still n r (another n d) same);
      drawn = λ r lt. (nowhere r, h.drawn r (let grows = drawn-grows c e.reading (table_after c past) e.query in omega arith));
      ordered = λ n b x y is. ordered-still n x y h b (another n b) is;
      allowed = (record { tick = step.tick; answered = step.answered; planned = none-planned c past e.query e.answer none; in_order = no-round-in-order past e.query e.answer (none-asked e.query e.answer none) }, h.allowed);
    }
      where
        another : (n : ℕ) → balances n ≡ true → task_of e ≡ n → ⊥
        another n b is = never-both (balances n) b (ap balances (sym is) ∙ other)

        nowhere : (r : ℕ) → IsElsewhere r e.query e.answer
        nowhere r j is = cc (sym (none-asked e.query e.answer none) ∙ is)

    -- ---- an event of a balance task
    abbrev OwnSteps : Type 0
    OwnSteps = Steps c task_of past (task_of e) (task (task_of e) past).number (task (task_of e) past).round (task (task_of e) past).cleared_at e

    own-steps : Stands past → IsStep c task_of balances past e → balances (task_of e) ≡ true → next_of c (task (task_of e) past) ≡ asks e.query → OwnSteps
    own-steps h step b asked =
        own-step c task_of past (task_of e) h.drawn e.tick e.reading e.actor e.answer step.tick (task (task_of e) past).number (task (task_of e) past).round (task (task_of e) past).refusals (task (task_of e) past).cleared_at e.query
        (asked-next c (task (task_of e) past).round (task (task_of e) past).refusals e.query (task (task_of e) past).ended (task (task_of e) past).number asked)
        step.answered (h.facts (task_of e) b) refl

    balance-step : Stands past → IsStep c task_of balances past e → balances (task_of e) ≡ true → next_of c (task (task_of e) past) ≡ asks e.query → OwnSteps → Stands (e ∷ past)
    balance-step h step b asked st = record {
      facts = λ n d. facts-by n d (cases_eq (task_of e) n);
      apart = λ m n d f r is same. apart-by m n d f r is same (cases_eq (task_of e) m) (cases_eq (task_of e) n);
      drawn = λ r lt. (
        λ j is. (let same = same-round (stage e.query e.answer) r j st.round st.stage_at is st.is in let low = st.drawn in omega arith),
        h.drawn r (let grows = drawn-grows c e.reading (table_after c past) e.query in omega arith),
      );
      ordered = λ n d x y is. ordered-by n d x y is (cases_eq (task_of e) n);
      allowed = (record { tick = step.tick; answered = step.answered; planned = st.planned; in_order = st.in_order }, h.allowed);
    }
      where
        now : (n : ℕ) → task_of e ≡ n → task n (e ∷ past) ≡ after_reply e.query reply (task (task_of e) past)
        now n is = subst (λ v. task v (e ∷ past) ≡ after_reply e.query reply (task (task_of e) past)) is (task-own (task_of e) refl ∙ ap (λ v. after_next v reply (task (task_of e) past)) asked)

        -- its round is no other task's
        alone : (n r : ℕ) → balances n ≡ true → (task n past).number ≡ Some r → r ≡ st.round → task_of e ≡ n
        alone n r d is same = by st.new
          where
            by : ((task (task_of e) past).number ≡ Some st.round) ⊎ ((table_after c past).rounds < st.round) → task_of e ≡ n
            by (inl old) = h.apart (task_of e) n b d st.round old (is ∙ ap Some same)
            by (inr new) = absurd (let low = (begun past h n d r is).drawn in omega arith)

        facts-by : (n : ℕ) → balances n ≡ true → (task_of e ≡ n) ⊎ (task_of e ≡ n → ⊥) → StandsSo c task_of (e ∷ past) n (task n (e ∷ past)).number (task n (e ∷ past)).round (task n (e ∷ past)).cleared_at
        facts-by n d (inl is) =
            subst (λ (s : Balancing). StandsSo c task_of (e ∷ past) n s.number s.round s.cleared_at) (sym (now n is))
            (subst (λ v. StandsSo c task_of (e ∷ past) v (after_reply e.query reply (task (task_of e) past)).number (after_reply e.query reply (task (task_of e) past)).round (after_reply e.query reply (task (task_of e) past)).cleared_at) is st.stands)
        facts-by n d (inr never) = still n h d never (λ r is j at. never (alone n r d is (same-round (stage e.query e.answer) r j st.round st.stage_at at st.is)))

        new-number : (n r : ℕ) → task_of e ≡ n → (task n (e ∷ past)).number ≡ Some r → r ≡ st.round
        new-number n r is same = same-number (task n (e ∷ past)).number r st.round same (ap (λ (s : Balancing). s.number) (now n is) ∙ st.number)

        apart-by : (m n : ℕ) → balances m ≡ true → balances n ≡ true → (r : ℕ) → (task m (e ∷ past)).number ≡ Some r → (task n (e ∷ past)).number ≡ Some r →
            (task_of e ≡ m) ⊎ (task_of e ≡ m → ⊥) → (task_of e ≡ n) ⊎ (task_of e ≡ n → ⊥) → m ≡ n
        apart-by m n d f r is same (inl at) (inl bt) = sym at ∙ bt
        apart-by m n d f r is same (inl at) (inr never) = absurd (never (alone n r f (number-still n r never same) (new-number m r at is)))
        apart-by m n d f r is same (inr never) (inl bt) = absurd (never (alone m r d (number-still m r never is) (new-number n r bt same)))
        apart-by m n d f r is same (inr u) (inr v) = h.apart m n d f r (number-still m r u is) (number-still n r v same)

        ordered-by : (n : ℕ) → balances n ≡ true → (x y : ℕ) → (task n (e ∷ past)).ended ≡ Some (Disordered x y) → (task_of e ≡ n) ⊎ (task_of e ≡ n → ⊥) → ⊥
        ordered-by n d x y is (inl at) = st.ordered x y (sym (ap (λ (s : Balancing). s.ended) (now n at)) ∙ is)
        ordered-by n d x y is (inr never) = ordered-still n x y h d never is

    pub stands-next : Stands past → IsStep c task_of balances past e → Stands (e ∷ past)
    stands-next h step = by (balances (task_of e)) refl step.asked
      where
        by : (b : Bool) → balances (task_of e) ≡ b → MayAsk c task_of balances b (task_of e) past e.query → Stands (e ∷ past)
        by true b asked = balance-step h step b asked (own-steps h step b asked)
        by false b none = others-step h step b none

  pub all-stand : (past : Past) → AreSteps c task_of balances past → Stands past
  all-stand [] h = stands-first
  all-stand (e ∷ past) h = stands-next past e (all-stand past h.1) h.0

  pub is-run : (past : Past) → Stands past → IsRun c task_of balances past
  is-run past h = record {
    allowed = h.allowed;
    kept = λ n b. record {
      gathered = λ r is. (begun past h n b r is).is.given;
      own = λ r is. (begun past h n b r is).own;
      ordered = h.ordered n b;
    };
    apart = h.apart;
  }

pub runs-are-allowed : (c : Configuration) → RunsAreAllowed c
runs-are-allowed c task_of balances past h = is-run c task_of balances past (all-stand c task_of balances past h)

pub runs-are-safe : (c : Configuration) → RunsAreSafe c
runs-are-safe c task_of balances events h = histories-are-safe c events (runs-are-allowed c task_of balances (past_of events) h).allowed
