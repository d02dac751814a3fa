-- The turns of a task, one after another: `turning-start`, `turning-more`, and how they stop: `turning-out`, `turning-last`, `turning-ended`, `turning-spent` and `turning-part`.
use Rattle.std.proofs.Common.{◌≡◌, ◌≤◌, ◌<◌, ◌-◌, ℕ, suc, ◌+◌, false, List, [], ◌∷◌, ◌++◌, length, take, None, Some, refl, sym, ◌∙◌, ap, subst, arith, append_assoc, length-append}
use Rattle.std.proofs.lemmas.List.{append-nil}
use Rattle.std.proofs.Math.Seq.{take-append-add}
use Rattle.keep_spec.specs.Config.{Configuration}
use Rattle.keep_event.specs.World.{World}
use Rattle.keep_cluster.specs.Cluster.{View, world_of, faults_at}
use Rattle.keep_history.specs.declared.task.Outcome.{Outcome}
use Rattle.keep_history.specs.Effects.{Made, Asked, Standing, asked_on, event_lines, line_of}
use Rattle.keep_history.specs.Ended.{left_after}
use Rattle.keep_history.specs.Tasks.{next}
use Rattle.keep_running.specs.Running.{query_of}
use Rattle.keep_run.specs.Asked.{HasAsked, PartAsked, Turning, asking}
use Rattle.keep_run.specs.Faults.{AreNumbered, Rise}
use Rattle.keep_run.specs.Standing.{IsStanding}
use Rattle.keep_run.specs.Turns.{after_all}
use Rattle.keep_run.specs.declared.asking.Open.{Open}
use Rattle.keep_run.specs.declared.asking.Turned.{Turned}
use Rattle.keep_run.specs.declared.asking.Turned.TheVariants as T
use Rattle.keep_run.proofs.Faults.{Agrees-left, Agrees-right, numbered-append, rise-none, rise-append, left-append}
use Rattle.keep_run.proofs.Running.{any-asks}
use Rattle.keep_run.proofs.Turns.{stopped, after-all-is, after-all-append, turns-none, turn-more, turn-over, turn-ended, turn-prefix}

pub event-lines-append : (name : List ℕ) (a b : List Made) → event_lines name (a ++ b) ≡ event_lines name a ++ event_lines name b
event-lines-append name [] b = refl
event-lines-append name (m ∷ ms) b = ap (λ v. line_of name m.event.query m.event.answer ++ v) (event-lines-append name ms b) ∙ sym (append_assoc (line_of name m.event.query m.event.answer) (event_lines name ms) (event_lines name b))

module _ (config : Configuration) (old : View) (w : World) (s : Standing) (name out_before : List ℕ) where
  abbrev At : ℕ → View → Open → List ℕ → Type 0
  At turns now open_now out = Turning config old now open_now w s turns name out_before out

  pub turning-start : (open_old : Open) → world_of old ≡ Some w → IsStanding config open_old s → At 0 old open_old out_before
  unfolding left_after
  turning-start open_old told standing = record {
    made = [];
    world = w;
    standing = s;
    is = λ others agree more.
        ap (λ t. asking t config old w s others) (plus-left more) ∙ ap (λ n. asked_on more config others old.reading n w s (next config s.task s.answers)) (plus-right old.made);
    numbered = tt;
    rise = rise-none _ _ (λ device. omega arith);
    world_is = told;
    left_is = refl;
    count_is = plus-right old.made;
    stands_there = standing;
    out_is = sym (append-nil out_before);
  }
    where
      plus-left : (n : ℕ) → 0 + n ≡ n
      plus-left n = omega arith

      plus-right : (n : ℕ) → n ≡ n + 0
      plus-right n = omega arith

  module _ (i : ℕ) (mid : View) (open_mid : Open) (out_mid : List ℕ) (t : At i mid open_mid out_mid) (reading : mid.reading ≡ old.reading) where
    abbrev there : ℕ → List ℕ → Asked
    there more others = asked_on more config others old.reading (old.made + length t.made) t.world t.standing (next config t.standing.task t.standing.answers)

    -- one turn from here
    here : (others : List ℕ) → asking 1 config mid t.world t.standing others ≡ there 1 others
    here others =
        ap (λ r. asked_on 1 config others r mid.made t.world t.standing (next config t.standing.task t.standing.answers)) reading
        ∙ ap (λ n. asked_on 1 config others old.reading n t.world t.standing (next config t.standing.task t.standing.answers)) t.count_is

    step-by : (n more : ℕ) → (n + 1) + more ≡ n + suc more
    step-by n more = omega arith

    counted : (a b : List Made) → (old.made + length a) + length b ≡ old.made + length (a ++ b)
    counted a b = omega (arith, length-append a b)

    joined-left : (b : List Made) (x : World) → x ≡ left_after t.world b → x ≡ left_after w (t.made ++ b)
    joined-left b x e = e ∙ ap (λ v. left_after v b) t.left_is ∙ sym (left-append w t.made b)

    joined-lines : (b : List Made) (out : List ℕ) → out ≡ out_mid ++ event_lines name b → out ≡ out_before ++ event_lines name (t.made ++ b)
    joined-lines b out e =
        e ∙ ap (λ v. v ++ event_lines name b) t.out_is ∙ append_assoc out_before (event_lines name t.made) (event_lines name b) ∙ ap (λ v. out_before ++ v) (sym (event-lines-append name t.made b))

    numbered-here : (b : List Made) → AreNumbered mid.made b → AreNumbered old.made (t.made ++ b)
    numbered-here b h = numbered-append old.made t.made b t.numbered (subst (λ n. AreNumbered n b) t.count_is h)

    module _ (new : View) (never_fall : (device : ℕ) → faults_at mid.devices device ≤ faults_at new.devices device) where
      rise-here : (b : List Made) → Rise b (faults_at mid.devices) (faults_at new.devices) → Rise (t.made ++ b) (faults_at old.devices) (faults_at new.devices)
      rise-here b h = rise-append t.made b (faults_at old.devices) (faults_at mid.devices) (faults_at new.devices) t.rise h never_fall

      -- a turn after which the task asks on
      pub turning-more : (open_new : Open) (out : List ℕ) → HasAsked config mid new t.world open_new name out_mid out T.Asks (asking 1 config mid t.world t.standing) → At (i + 1) new open_new out
      turning-more open_new out h =
          let a = h.asked in
          record {
            made = t.made ++ a.made;
            world = a.world;
            standing = a.standing;
            is = λ others agree more.
                let one : there 1 others ≡ a = sym (here others) ∙ h.is others (Agrees-right others t.made a.made agree) in
                ap (λ n. asking n config old w s others) (step-by i more)
                ∙ t.is others (Agrees-left others t.made a.made agree) (suc more)
                ∙ ap (after_all t.made) (turn-more config others old.reading more (old.made + length t.made) t.world t.standing _ a one h.outcome_is h.spent_is)
                ∙ sym (after-all-append t.made a.made _)
                ∙ ap (λ n. after_all (t.made ++ a.made) (asked_on more config others old.reading n a.world a.standing (next config a.standing.task a.standing.answers))) (counted t.made a.made);
            numbered = numbered-here a.made h.numbered;
            rise = rise-here a.made h.rise;
            world_is = h.world_is;
            left_is = joined-left a.made a.world h.left_is;
            count_is = h.count_is ∙ ap (λ n. n + length a.made) t.count_is ∙ counted t.made a.made;
            stands_there = h.standing h.outcome_is;
            out_is = joined-lines a.made out h.out_is;
          }

      -- the last turn
      pub turning-last : (turns : ℕ) (turned : Turned) (open_new : Open) (out : List ℕ) → i < turns → (h : HasAsked config mid new t.world open_new name out_mid out turned (asking 1 config mid t.world t.standing)) → ((others : List ℕ) (more : ℕ) → there 1 others ≡ h.asked → there (suc more) others ≡ h.asked) → HasAsked config old new w open_new name out_before out turned (asking turns config old w s)
      turning-last turns turned open_new out lt h last =
          let a = h.asked in
          record {
            asked = record { made = t.made ++ a.made; world = a.world; standing = a.standing; outcome = a.outcome; spent = a.spent };
            is = λ others agree.
                let one : there 1 others ≡ a = sym (here others) ∙ h.is others (Agrees-right others t.made a.made agree) in
                ap (λ n. asking n config old w s others) (split-turns i turns lt)
                ∙ t.is others (Agrees-left others t.made a.made agree) (suc (turns - suc i))
                ∙ ap (after_all t.made) (last others (turns - suc i) one)
                ∙ after-all-is t.made a;
            numbered = numbered-here a.made h.numbered;
            rise = rise-here a.made h.rise;
            world_is = h.world_is;
            left_is = joined-left a.made a.world h.left_is;
            count_is = h.count_is ∙ ap (λ n. n + length a.made) t.count_is ∙ counted t.made a.made;
            outcome_is = h.outcome_is;
            spent_is = h.spent_is;
            standing = h.standing;
            out_is = joined-lines a.made out h.out_is;
          }
        where
          split-turns : (n m : ℕ) → n < m → m ≡ n + suc (m - suc n)
          split-turns n m lt = omega (arith, lt)

      pub turning-ended : (turns : ℕ) (o : Outcome) (open_new : Open) (out : List ℕ) → i < turns → HasAsked config mid new t.world open_new name out_mid out (T.Ended o) (asking 1 config mid t.world t.standing) → HasAsked config old new w open_new name out_before out (T.Ended o) (asking turns config old w s)
      turning-ended turns o open_new out lt h =
          turning-last turns (T.Ended o) open_new out lt h (λ others more one. turn-ended config others old.reading more (old.made + length t.made) t.world t.standing _ h.asked o one h.outcome_is)

      pub turning-spent : (turns : ℕ) (open_new : Open) (out : List ℕ) → i < turns → HasAsked config mid new t.world open_new name out_mid out T.Spent (asking 1 config mid t.world t.standing) → HasAsked config old new w open_new name out_before out T.Spent (asking turns config old w s)
      turning-spent turns open_new out lt h =
          turning-last turns T.Spent open_new out lt h (λ others more one. turn-over config others old.reading more (old.made + length t.made) t.world t.standing _ h.asked one h.spent_is)

      -- where memory was refused in a turn
      pub turning-part : (turns : ℕ) → i < turns → PartAsked t.world mid new (asking 1 config mid t.world t.standing) → PartAsked w old new (asking turns config old w s)
      turning-part turns lt p = record {
        made = t.made ++ p.made;
        is = λ others agree.
            let more = turns - suc i in
            let whole : asking turns config old w s others ≡ after_all t.made (there (suc more) others) =
            ap (λ n. asking n config old w s others) (split-turns i turns lt) ∙ t.is others (Agrees-left others t.made p.made agree) (suc more) in
            let one : take (length p.made) (there 1 others).made ≡ p.made = ap (λ (a : Asked). take (length p.made) a.made) (sym (here others)) ∙ p.is others (Agrees-right others t.made p.made agree) in
            let front : take (length p.made) (there (suc more) others).made ≡ p.made = turn-prefix config others old.reading more (old.made + length t.made) t.world t.standing _ p.made one in
            ap (λ (a : Asked). take (length (t.made ++ p.made)) a.made) (whole ∙ after-all-is t.made (there (suc more) others))
            ∙ ap (λ n. take n (t.made ++ (there (suc more) others).made)) (length-append t.made p.made)
            ∙ take-append-add t.made (there (suc more) others).made (length p.made)
            ∙ ap (λ v. t.made ++ v) front;
        numbered = numbered-here p.made p.numbered;
        rise = rise-here p.made p.rise;
        world_is = p.world_is ∙ ap Some (joined-left p.made _ refl);
      }
        where
          split-turns : (n m : ℕ) → n < m → m ≡ n + suc (m - suc n)
          split-turns n m lt = omega (arith, lt)

  -- all turns were done
  pub turning-out : (turns : ℕ) (now : View) (open_now : Open) (out : List ℕ) → At turns now open_now out → HasAsked config old now w open_now name out_before out T.Asks (asking turns config old w s)
  turning-out turns now open_now out t = record {
    asked = record { made = t.made ++ []; world = t.world; standing = t.standing; outcome = None; spent = false };
    is = λ others agree.
        ap (λ n. asking n config old w s others) (plus-right turns)
        ∙ t.is others (Agrees-left others t.made [] agree) 0
        ∙ ap (λ nx. after_all t.made (asked_on 0 config others old.reading (old.made + length t.made) t.world t.standing nx)) (any-asks open_now.task (next config t.standing.task) t.standing.answers t.stands_there.stands_there)
        ∙ ap (after_all t.made) (turns-none config others old.reading (old.made + length t.made) t.world t.standing (query_of open_now.task))
        ∙ after-all-is t.made (stopped t.world t.standing None false);
    numbered = subst (AreNumbered old.made) (sym (append-nil t.made)) t.numbered;
    rise = subst (λ ms. Rise ms (faults_at old.devices) (faults_at now.devices)) (sym (append-nil t.made)) t.rise;
    world_is = t.world_is;
    left_is = t.left_is ∙ ap (left_after w) (sym (append-nil t.made));
    count_is = t.count_is ∙ ap (λ (ms : List Made). old.made + length ms) (sym (append-nil t.made));
    outcome_is = refl;
    spent_is = refl;
    standing = λ none. t.stands_there;
    out_is = t.out_is ∙ ap (λ ms. out_before ++ event_lines name ms) (sym (append-nil t.made));
  }
    where
      plus-right : (n : ℕ) → n ≡ n + 0
      plus-right n = omega arith
