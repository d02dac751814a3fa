-- A put or a pull that finds other bytes with its block's MD5 is refused, and they stay: `told-collisions`.
use Rattle.std.proofs.Common.{◌≡◌, ◌≢◌, ℕ, zero, suc, ◌+◌, Bool, true, false, List, [], ◌∷◌, ◌++◌, length, Option, None, Some, IfSome, inl, inr, ◌⊎◌, refl, sym, ◌∙◌, ap, subst, arith}
use Rattle.std.specs.Prelude.{⊤, ◌==◌, ◌&&◌, unwrap_or, option_map, if◌then◌else◌, filter, not, slice_get, slice_index_or, slice_set}
use Rattle.std.specs.List.{AllByRecursion}
use Rattle.std.specs.Str.{bytes_eq}
use Rattle.std.proofs.lemmas.Slice.Eq.{bytes_eq-Decides}
use Rattle.std.proofs.lemmas.List.{set-get_or, length-map}
use Rattle.md5.specs.Md5.{md5}
use Rattle.keep_spec.specs.Config.{Configuration, devices_of}
use Rattle.keep_spec.specs.Lines.{cut, text_of}
use Rattle.keep_spec.specs.declared.config.Device.{Device}
use Rattle.keep_spec.specs.declared.token.TokenId.{TokenId}
use Rattle.keep_event.specs.Device as machine
use Rattle.keep_event.specs.Device.{State, replica_of}
use Rattle.keep_event.specs.World.{World, Reply, asked, line, may_fault, stays, rules_of, device_rules, device_state, with_device}
use Rattle.keep_event.specs.declared.device.DeviceRules.{DeviceRules}
use Rattle.keep_event.specs.declared.names.Stored.{Stored}
use Rattle.keep_event.specs.declared.device.DeviceAnswer.{DeviceAnswer}
use Rattle.keep_event.specs.declared.device.DeviceAnswer.TheVariants as A
use Rattle.keep_event.specs.declared.device.DeviceQuery.{DeviceQuery}
use Rattle.keep_event.specs.declared.device.DeviceQuery.TheVariants as Q
use Rattle.keep_event.specs.declared.event.Answer.{Answer}
use Rattle.keep_event.specs.declared.event.Answer.TheVariants as An
use Rattle.keep_event.specs.declared.event.Query.{Query}
use Rattle.keep_history.specs.declared.task.Command.{Command}
use Rattle.keep_history.specs.declared.task.Command.TheVariants as C
use Rattle.keep_history.specs.declared.task.Opening.{Opening}
use Rattle.keep_history.specs.declared.task.Opening.TheVariants as Open
use Rattle.keep_history.specs.declared.task.Outcome.{Outcome}
use Rattle.keep_history.specs.declared.task.Outcome.TheVariants as O
use Rattle.keep_history.specs.declared.task.Task.{Task}
use Rattle.keep_history.specs.declared.task.Task.TheVariants as T
use Rattle.keep_history.specs.Collisions.{BlockOn, block_on, HasOther, EndsCollision, IsPassedOver, IsRefused, IsRefusedAs, RefusesOther, AreRefused, LinesRefuse, CollisionsAreRefused}
use Rattle.keep_history.specs.Effects.{Scene, Standing, Effect, Ending, Asked, Made, after_made, answered_by, asked_on, asked_in, command_in, effect_of_line, event_of, events_max, is_failed, with_answer}
use Rattle.keep_history.specs.Ended.{Begun, begun_of}
use Rattle.keep_history.specs.Run.{at_start}
use Rattle.keep_history.specs.Next.{Answered, Next, asks, ends, ends_or}
use Rattle.keep_history.specs.Tasks.{next, walk, on_device, by_all, writes, is_read_only, writable, compare_end, write_end, fetch_end, touch_end, no_end, not_written, not_fetched, not_touched, untrashed}
use Rattle.keep_history.proofs.Lines.{AskedHas, Begins, CommandHas, GoesOn, SceneHas, both-some, line-gives, line-keeps, some-more}
use Rattle.keep_history.proofs.Openings.{IsMade}
use Rattle.keep_history.proofs.Rounds.{BlockHas, NextHas, balance-asks, empty-asks, pull-asks, trash-asks}

-- ---- what follows a collision

-- the device takes changes, and the answer Collision ends the task
abbrev pub Collides : Configuration → Answered → BlockOn → Next → Type 0
Collides c a b after = (is_read_only c b.device ≡ false) × (a.answer ≡ An.Device A.Collision → after ≡ ends O.Collision)

-- so at each query that brings a block
abbrev pub CollidesNext : Configuration → Answered → Next → Next → Type 0
CollidesNext c a (asks q) after = IfSome (block_on q) (λ b. Collides c a b after)
CollidesNext c a (ends outcome) after = ⊤

-- so where it is a put's
abbrev pub PutCollides : Configuration → Answered → Next → Next → Type 0
PutCollides c a (asks q) after = IfSome (block_on q) (λ b. b.by_put ≡ true → Collides c a b after)
PutCollides c a (ends outcome) after = ⊤

-- a query that brings no block of a put
abbrev IsOfNoPut : Query → Type 0
IsOfNoPut q = IfSome (block_on q) (λ b. b.by_put ≡ false)

-- a put's devices take changes
abbrev pub TakeChanges : Configuration → Task → Type 0
TakeChanges c (T.Put devices token id block) = AllByRecursion (λ d. is_read_only c d ≡ false) devices
TakeChanges c _ = ⊤

module _ (c : Configuration) (a : Answered) where
  ends-or-collides : (o : Option Outcome) (nx nx' : Next) → CollidesNext c a nx nx' → CollidesNext c a (ends_or o nx) (ends_or o nx')
  ends-or-collides None nx nx' h = h
  ends-or-collides (Some o) nx nx' h = tt

  module _ (R : ℕ → Type 0) (q : DeviceQuery) (end : Answer → Option Outcome) (after : List Answer → List Answered → Next)
      (given : (d : ℕ) (nx : Next) → R d → CollidesNext c a (asks (Query.Device d q)) (ends_or (end a.answer) nx))
      (later : (seen : List Answer) (answers : List Answered) → CollidesNext c a (after seen answers) (after seen (answers ++ a ∷ []))) where
    walk-collides : (seen : List Answer) (ds : List ℕ) (answers : List Answered) → AllByRecursion R ds → CollidesNext c a (walk q end after seen ds answers) (walk q end after seen ds (answers ++ a ∷ []))
    unfolding walk
    walk-collides seen [] answers r = later seen answers
    walk-collides seen (d ∷ ds) [] r = given d (walk q end after (seen ++ a.answer ∷ []) ds []) r.0
    walk-collides seen (d ∷ ds) (b ∷ answers) r = ends-or-collides (end b.answer) _ _ (walk-collides (seen ++ b.answer ∷ []) ds answers r.1)

  any : (ds : List ℕ) → AllByRecursion (λ d. ⊤) ds
  any [] = tt
  any (d ∷ ds) = (tt, any ds)

  compare-given : (token block : List ℕ) (a' : Answer) (nx : Next) → a' ≡ An.Device A.Collision → ends_or (on_device (compare_end c token block) a') nx ≡ ends O.Collision
  compare-given token block a' nx e = rw e refl

  write-given : (token block : List ℕ) (a' : Answer) (nx : Next) → a' ≡ An.Device A.Collision → ends_or (on_device (write_end c token block) a') nx ≡ ends O.Collision
  write-given token block a' nx e = rw e refl

  pub put-collides : (devices token : List ℕ) (id : TokenId) (block : List ℕ) (answers : List Answered) → AllByRecursion (λ d. is_read_only c d ≡ false) devices →
      CollidesNext c a (next c (T.Put devices token id block) answers) (next c (T.Put devices token id block) (answers ++ a ∷ []))
  unfolding next
  put-collides devices token id block answers r =
      walk-collides (λ d. is_read_only c d ≡ false) (Q.CompareTouch block (Some id)) (on_device (compare_end c token block)) (writes c id token block devices)
      (λ d nx w. (w, compare-given token block a.answer nx))
      (λ seen rest. walk-collides (λ d. is_read_only c d ≡ false) (Q.Write block (Some id)) (on_device (write_end c token block)) (by_all not_written)
      (λ d nx w. (w, write-given token block a.answer nx)) (λ s rest'. tt) [] devices rest r) [] devices answers r

  of-puts : (nx nx' : Next) → CollidesNext c a nx nx' → PutCollides c a nx nx'
  of-puts (asks q) nx' h = some-more _ _ (block_on q) (λ b k put. k) h
  of-puts (ends outcome) nx' h = tt

  of-none : (nx nx' : Next) → NextHas IsOfNoPut nx → PutCollides c a nx nx'
  of-none (asks q) nx' h = some-more _ _ (block_on q) (λ b other put. absurd (never (sym other ∙ put))) h
    where
      never : false ≡ true → ⊥
      never e = cc
  of-none (ends outcome) nx' h = tt

  any-block : (answers : List Answered) → AllByRecursion (λ (b : Answered). BlockHas (λ bytes. ⊤) b.answer) answers
  any-block [] = tt
  any-block (b ∷ answers) = (one b.answer, any-block answers)
    where
      one : (answer : Answer) → BlockHas (λ bytes. ⊤) answer
      one (An.Device (A.Block bytes)) = tt
      one _ = tt

  pub next-collides : (task : Task) (answers : List Answered) → TakeChanges c task → PutCollides c a (next c task answers) (next c task (answers ++ a ∷ []))
  unfolding next
  next-collides (T.Put devices token id block) answers r = of-puts _ _ (put-collides devices token id block answers r)
  next-collides (T.Get devices hash) answers r = of-puts _ _ (walk-collides (λ d. ⊤) (Q.Fetch hash) (on_device fetch_end) (by_all not_fetched) (λ d nx w. tt) (λ s rest. tt) [] devices answers (any devices))
  next-collides (T.Touch devices token id hash text) answers r = of-puts _ _ (walk-collides (λ d. ⊤) (Q.Touch hash (Some id)) (on_device (touch_end c token hash text)) (by_all not_touched) (λ d nx w. tt) (λ s rest. tt) [] devices answers (any devices))
  next-collides (T.Untrash devices hash) answers r = of-puts _ _ (walk-collides (λ d. ⊤) (Q.Untrash hash) (on_device no_end) (by_all untrashed) (λ d nx w. tt) (λ s rest. tt) [] devices answers (any devices))
  next-collides (T.Restart device) [] r = tt
  next-collides (T.Restart device) (b ∷ answers) r = tt
  next-collides (T.Table q) [] r = tt
  next-collides (T.Table q) (b ∷ answers) r = tt
  next-collides T.Balance answers r = of-none _ _ (balance-asks IsOfNoPut c tt (λ d n. tt) (λ d n prefix. tt) (λ n after limit. tt) (λ d n lists. tt) answers)
  next-collides (T.TrashWorker device) answers r = of-none _ _ (trash-asks IsOfNoPut device answers tt)
  next-collides (T.PullWorker device) answers r = of-none _ _ (pull-asks (λ bytes. ⊤) IsOfNoPut device tt (λ d hash. tt) (λ bytes h. refl) c answers (any-block answers))
  next-collides (T.EmptyWorker device) answers r = of-none _ _ (empty-asks IsOfNoPut device answers tt)

-- ---- the device's line

-- a world of a configuration: a state for each of its devices
abbrev pub IsWorldOf : Configuration → World → Type 0
IsWorldOf c w = (w.config ≡ c) × (length w.devices ≡ length c.devices)

length-set : {X : Type 0} (xs : List X) (i : ℕ) (y : X) → length (slice_set xs i y) ≡ length xs
length-set [] i y = refl
length-set (x ∷ xs) zero y = refl
length-set (x ∷ xs) (suc i) y = ap suc (length-set xs i y)

either-world : (R : World → Type 0) (b : Bool) (x y : Reply) → R x.world → R y.world → R (if b then x else y).world
either-world R true x y p q = p
either-world R false x y p q = q

line-world : (c : Configuration) (reading : ℕ) (q : Query) (w : World) → IsWorldOf c w → IsWorldOf c (line reading q w).world
line-world c reading (Query.Device d q) w h = (h.0, length-set w.devices d _ ∙ h.1)
line-world c reading (Query.Table q) w h = h

pub asked-world : (c : Configuration) (fails : Bool) (reading : ℕ) (q : Query) (w : World) → IsWorldOf c w → IsWorldOf c (asked fails reading q w).world
asked-world c fails reading q w h = either-world (IsWorldOf c) (fails && may_fault q) (stays (An.Device A.StoreFault) w) (line reading q w) h (line-world c reading q w h)

-- the rules of a device that takes changes; past the devices there is none
pub index-past : {X Y : Type 0} (xs : List X) (ys : List Y) (i : ℕ) (d : Y) → length ys ≡ length xs → slice_get xs i ≡ None → slice_index_or ys i d ≡ d
index-past [] [] i d e n = refl
index-past [] (y ∷ ys) i d e n = absurd (omega (arith, e))
index-past (x ∷ xs) [] i d e n = refl
index-past (x ∷ xs) (y ∷ ys) zero d e n = absurd (some_none n)
  where
    some_none : Some x ≡ None → ⊥
    some_none e = cc
index-past (x ∷ xs) (y ∷ ys) (suc i) d e n = index-past xs ys i d (omega (arith, e)) n

pub rules-change : (c : Configuration) (o : Option Device) → unwrap_or (option_map (λ (d : Device). d.read_only) o) false ≡ false → (o ≡ None) ⊎ ((rules_of c o).read_only ≡ false)
rules-change c None e = inl refl
rules-change c (Some d) e = inr e

-- a device that has a replica is one of the configuration's; so its rules let it change
changes : (c : Configuration) (w : World) (d : ℕ) (block : List ℕ) (r : Stored) → IsWorldOf c w → is_read_only c d ≡ false → replica_of (md5 block) (device_state d w) ≡ Some r → (device_rules w.config d).read_only ≡ false
changes c w d block r h ro found =
    elim (rules-change c (slice_get c.devices d) ro) as (λ _. (device_rules w.config d).read_only ≡ false) [
      | inl none ↦ absurd (nothing (let past = index-past c.devices w.devices d machine.initial h.1 none in rw past at found))
      | inr can ↦ rw h.0 can
    ]
  where
    nothing : None ≡ Some r → ⊥
    nothing e = cc

module _ (rules : DeviceRules) (reading : ℕ) (block : List ℕ) (s : State) (other : HasOther block s) where
  differ : bytes_eq other.replica.bytes block ≡ false
  differ = by (bytes_eq other.replica.bytes block) refl
    where
      by : (b : Bool) → bytes_eq other.replica.bytes block ≡ b → b ≡ false
      by true e = absurd (other.differs ((bytes_eq-Decides other.replica.bytes block).0 e))
      by false e = refl

  agree : bytes_eq (md5 other.replica.bytes) (md5 block) ≡ true
  agree = (bytes_eq-Decides (md5 other.replica.bytes) (md5 block)).1 other.same_digest

  compare-refuses : rules.read_only ≡ false → machine.compare_touch rules block reading s ≡ machine.stays A.Collision s
  unfolding machine.compare_touch
  compare-refuses writes = rw (writes, other.held, differ, agree) refl

  write-refuses : rules.read_only ≡ false → machine.write rules block reading s ≡ machine.stays A.Collision s
  unfolding machine.write
  write-refuses writes = rw (writes, other.held, differ, agree) refl

  -- whether it takes changes or not
  abbrev StaysAs : machine.Reply → Type 0
  StaysAs r = (r ≡ machine.stays A.Collision s) ⊎ (r ≡ machine.stays A.ReadOnly s)

  compare-stays : StaysAs (machine.compare_touch rules block reading s)
  unfolding machine.compare_touch
  compare-stays = by rules.read_only refl
    where
      by : (b : Bool) → rules.read_only ≡ b → StaysAs (machine.compare_touch rules block reading s)
      by true e = inr (rw e refl)
      by false e = inl (compare-refuses e)

  write-stays : StaysAs (machine.write rules block reading s)
  unfolding machine.write
  write-stays = by rules.read_only refl
    where
      by : (b : Bool) → rules.read_only ≡ b → StaysAs (machine.write rules block reading s)
      by true e = inr (rw e refl)
      by false e = inl (write-refuses e)

module _ (c : Configuration) (reading : ℕ) (w : World) (h : IsWorldOf c w) where
  same-world : (d : ℕ) → with_device d (device_state d w) w ≡ w
  same-world d = ap (λ ds. record { config = w.config; devices = ds; table = w.table }) (set-get_or w.devices d machine.initial)

  abbrev StaysOn : Reply → Type 0
  StaysOn r = (r.answer ≡ An.Device A.Collision) × (r.world ≡ w)

  refused-reply : (d : ℕ) (answer : DeviceAnswer) (r : machine.Reply) → r ≡ machine.stays answer (device_state d w) → (An.Device r.answer ≡ An.Device answer) × (with_device d r.state w ≡ w)
  refused-reply d answer r e = (ap (λ (x : machine.Reply). An.Device x.answer) e, ap (λ (x : machine.Reply). with_device d x.state w) e ∙ same-world d)

  not-failed-as : (R : Reply → Type 0) (b : Bool) (y : Reply) → R y → (if b then stays (An.Device A.StoreFault) w else y).answer ≢ An.Device A.StoreFault → R (if b then stays (An.Device A.StoreFault) w else y)
  not-failed-as R true y k n = absurd (n refl)
  not-failed-as R false y k n = k

  not-failed : (b : Bool) (y : Reply) → StaysOn y → (if b then stays (An.Device A.StoreFault) w else y).answer ≢ An.Device A.StoreFault → StaysOn (if b then stays (An.Device A.StoreFault) w else y)
  not-failed b y k n = not-failed-as StaysOn b y k n

  reply-refuses : (fails : Bool) (q : Query) → IfSome (block_on q) (λ b. is_read_only c b.device ≡ false → HasOther b.block (device_state b.device w) → (asked fails reading q w).answer ≢ An.Device A.StoreFault → StaysOn (asked fails reading q w))
  reply-refuses fails (Query.Device d (Q.CompareTouch block token)) = λ ro other n.
      not-failed (fails && true) (line reading (Query.Device d (Q.CompareTouch block token)) w)
      (refused-reply d A.Collision _ (compare-refuses (device_rules w.config d) reading block (device_state d w) other (changes c w d block other.replica h ro other.held))) n
  reply-refuses fails (Query.Device d (Q.Write block token)) = λ ro other n.
      not-failed (fails && true) (line reading (Query.Device d (Q.Write block token)) w)
      (refused-reply d A.Collision _ (write-refuses (device_rules w.config d) reading block (device_state d w) other (changes c w d block other.replica h ro other.held))) n
  reply-refuses fails (Query.Device d _) = tt
  reply-refuses fails (Query.Table q) = tt

  -- refused by a device that may take no changes
  abbrev PassesOn : Reply → Type 0
  PassesOn r = ((r.answer ≡ An.Device A.Collision) ⊎ (r.answer ≡ An.Device A.ReadOnly)) × (r.world ≡ w)

  passed-reply : (d : ℕ) (block : List ℕ) (r : machine.Reply) → (r ≡ machine.stays A.Collision (device_state d w)) ⊎ (r ≡ machine.stays A.ReadOnly (device_state d w)) → PassesOn (record { answer = An.Device r.answer; world = with_device d r.state w })
  passed-reply d block r (inl e) = let k = refused-reply d A.Collision r e in (inl k.0, k.1)
  passed-reply d block r (inr e) = let k = refused-reply d A.ReadOnly r e in (inr k.0, k.1)

  reply-passes : (fails : Bool) (q : Query) → IfSome (block_on q) (λ b. HasOther b.block (device_state b.device w) → (asked fails reading q w).answer ≢ An.Device A.StoreFault → PassesOn (asked fails reading q w))
  reply-passes fails (Query.Device d (Q.CompareTouch block token)) = λ other n.
      not-failed-as PassesOn (fails && true) (line reading (Query.Device d (Q.CompareTouch block token)) w)
      (passed-reply d block _ (compare-stays (device_rules w.config d) reading block (device_state d w) other)) n
  reply-passes fails (Query.Device d (Q.Write block token)) = λ other n.
      not-failed-as PassesOn (fails && true) (line reading (Query.Device d (Q.Write block token)) w)
      (passed-reply d block _ (write-stays (device_rules w.config d) reading block (device_state d w) other)) n
  reply-passes fails (Query.Device d _) = tt
  reply-passes fails (Query.Table q) = tt

-- ---- asking

refused-as : (put : Bool) (w : World) (m : Made) (ended : Option Ending) → (put ≡ true → IsRefused w m ended) → IsPassedOver w m → IsRefusedAs put w m ended
refused-as true w m ended p q = p refl
refused-as false w m ended p q = q

-- how a task that was asked has ended
abbrev end_of : Asked → Option Ending
end_of a = option_map (λ outcome. record { task = a.standing.task; outcome = outcome }) a.outcome

module _ (c : Configuration) (failed : List ℕ) where
  record AskedRefuses (w : World) (a : Asked) : Type 0 where
    world : IsWorldOf c a.world
    takes : TakeChanges c a.standing.task
    refused : AreRefused w a.made (end_of a)

  either-refuses : (w : World) (b : Bool) (x y : Asked) → AskedRefuses w x → AskedRefuses w y → AskedRefuses w (if b then x else y)
  either-refuses w true x y p q = p
  either-refuses w false x y p q = q

  ends-with : (turns reading n : ℕ) (w : World) (s : Standing) (nx : Next) → nx ≡ ends O.Collision → EndsCollision (end_of (asked_on turns c failed reading n w s nx))
  unfolding asked_on
  ends-with zero reading n w s nx e = rw e refl
  ends-with (suc turns) reading n w s nx e = rw e refl

  asked-refuses : (turns reading n : ℕ) (w : World) (s : Standing) (nx : Next) → IsWorldOf c w → TakeChanges c s.task → nx ≡ next c s.task s.answers → AskedRefuses w (asked_on turns c failed reading n w s nx)
  unfolding asked_on
  asked-refuses turns reading n w s (ends outcome) h t e = ended turns
    where
      ended : (turns : ℕ) → AskedRefuses w (asked_on turns c failed reading n w s (ends outcome))
      ended zero = record { world = h; takes = t; refused = tt }
      ended (suc k) = record { world = h; takes = t; refused = tt }
  asked-refuses zero reading n w s (asks q) h t e = record { world = h; takes = t; refused = tt }
  asked-refuses (suc turns) reading n w s (asks q) h t e =
      let m = event_of failed reading s.actor n q w in
      let a = answered_by m.event in
      let after = with_answer s m.event in
      let rest = asked_on turns c failed reading (n + 1) m.left after (next c after.task after.answers) in
      let k = asked-refuses turns reading (n + 1) m.left after (next c after.task after.answers) (asked-world c (is_failed failed n) reading q w h) t refl in
      let goes : PutCollides c a (asks q) (next c s.task (s.answers ++ a ∷ [])) = subst (λ x. PutCollides c a x (next c s.task (s.answers ++ a ∷ []))) (sym e) (next-collides c a s.task s.answers t) in
      let first : RefusesOther w m (end_of rest) =
      some-more _ _ (block_on q)
      (λ b both other n'.
      refused-as b.by_put w m (end_of rest)
      (λ put. let ends-so = both.1.1 put in let st = both.0 ends-so.0 other n' in
      record { answer = st.0; unchanged = st.1; ends = ends-with turns reading (n + 1) m.left after (next c after.task after.answers) (ends-so.1 st.0) })
      (let st = both.1.0 other n' in record { answer = st.0; unchanged = st.1 }))
      (both-some _ _ (block_on q) (reply-refuses c reading w h (is_failed failed n) q) (both-some _ _ (block_on q) (reply-passes c reading w h (is_failed failed n) q) goes)) in
      either-refuses w (n == events_max) (record { made = []; world = w; standing = s; outcome = None; spent = true }) (after_made m rest)
      (record { world = h; takes = t; refused = tt })
      (record { world = k.world; takes = k.takes; refused = (first, k.refused) })

  -- ---- lines

  abbrev pub StandingTakes : Standing → Type 0
  StandingTakes s = TakeChanges c s.task

  abbrev pub LineRefuses : Scene → Effect → Type 0
  LineRefuses scene e = AreRefused scene.world e.made e.ended

  goes : (o : Option Outcome) (s : Standing) → StandingTakes s → GoesOn c failed (IsWorldOf c) StandingTakes LineRefuses o s
  goes None s h = h
  goes (Some outcome) s h = tt

  asking : (turns reading : ℕ) (scene : Scene) (name : List ℕ) (s : Standing) → IsWorldOf c scene.world → StandingTakes s → AskedHas c failed (IsWorldOf c) StandingTakes LineRefuses scene name (asked_in turns c failed reading scene s)
  asking turns reading scene name s h t =
      let a = asked_in turns c failed reading scene s in
      let k = asked-refuses turns reading scene.count scene.world s (next c s.task s.answers) h t refl in
      record { world = k.world; standing = goes a.outcome a.standing k.takes; line = k.refused }

  quiet : (scene : Scene) (e : Effect) → e.made ≡ [] → e.ended ≡ None → LineRefuses scene e
  quiet scene e m n = rw m tt

  pub takes-changes : (server : ℕ) → AllByRecursion (λ d. is_read_only c d ≡ false) (writable c server)
  takes-changes server = kept (devices_of c server)
    where
      one : (b : Bool) (d : ℕ) (rest : List ℕ) → is_read_only c d ≡ b → AllByRecursion (λ d. is_read_only c d ≡ false) rest → AllByRecursion (λ d. is_read_only c d ≡ false) (if not b then d ∷ rest else rest)
      one true d rest e h = h
      one false d rest e h = (e, h)

      kept : (ds : List ℕ) → AllByRecursion (λ d. is_read_only c d ≡ false) (filter (λ d. not (is_read_only c d)) ds)
      kept [] = tt
      kept (d ∷ ds) = one (is_read_only c d) d (filter (λ d. not (is_read_only c d)) ds) refl (kept ds)

  opening-takes : (opening : Opening) → IsMade (Begins c failed (IsWorldOf c) StandingTakes LineRefuses) c opening
  opening-takes (Open.Put token server bytes hash) = λ id some actor. takes-changes server
  opening-takes (Open.Get token server locator) = λ hash some actor. tt
  opening-takes (Open.Touch token server locator) = λ id hash some actor. tt
  opening-takes (Open.Untrash token server hash) = λ some actor. tt
  opening-takes (Open.Restart device) = λ actor. tt
  opening-takes (Open.Save request) = λ actor. tt
  opening-takes (Open.Update collection preserve request) = λ actor. tt
  opening-takes (Open.Read token collection version) = λ actor. tt
  opening-takes (Open.Trash token collection trash_at delete_at) = λ actor. tt
  opening-takes (Open.Restore token collection) = λ actor. tt
  opening-takes Open.Sweep = λ actor. tt
  opening-takes Open.Balance = λ actor. tt
  opening-takes (Open.TrashWorker device) = λ actor. tt
  opening-takes (Open.PullWorker device) = λ actor. tt
  opening-takes (Open.EmptyWorker device) = λ actor. tt

  command-takes : (o : Option Command) → IfSome o (CommandHas c failed (IsWorldOf c) StandingTakes LineRefuses)
  command-takes None = tt
  command-takes (Some (C.Open name reading opening)) = opening-takes opening
  command-takes (Some (C.Step name reading)) = tt
  command-takes (Some (C.Finish name reading)) = tt

  -- a scene of a run
  abbrev pub SceneTakes : Scene → Type 0
  SceneTakes scene = SceneHas c failed (IsWorldOf c) StandingTakes LineRefuses scene

  pub scene-takes : (scene : Scene) (text : List ℕ) → SceneTakes scene → IfSome (effect_of_line c failed scene text) (λ e. SceneTakes e.scene)
  scene-takes scene text h = line-keeps c failed (IsWorldOf c) StandingTakes LineRefuses asking scene text (command-takes (command_in c scene text)) h

  lines-refuse : (scene : Scene) (pieces : List (List ℕ)) → SceneTakes scene → LinesRefuse c failed scene pieces
  lines-refuse scene [] h = tt
  lines-refuse scene (piece ∷ rest) h =
      both-some _ _ (effect_of_line c failed scene (text_of piece))
      (line-gives c failed (IsWorldOf c) StandingTakes LineRefuses asking quiet scene (text_of piece) h)
      (some-more _ _ (effect_of_line c failed scene (text_of piece)) (λ e k. lines-refuse e.scene rest k)
      (line-keeps c failed (IsWorldOf c) StandingTakes LineRefuses asking scene (text_of piece) (command-takes (command_in c scene (text_of piece))) h))

pub new-world : (c : Configuration) → IsWorldOf c (at_start c).scene.world
new-world c = (refl, length-map c.devices (λ (d : Device). machine.initial))

from-begun : (failed : List ℕ) (o : Option Begun) → IfSome o (λ (b : Begun). LinesRefuse b.config failed (at_start b.config).scene b.rest)
from-begun failed None = tt
from-begun failed (Some b) = lines-refuse b.config failed (at_start b.config).scene b.rest (record { world = new-world b.config; names = tt })

pub collisions-are-refused : (stores : ℕ) (failed bytes : List ℕ) → CollisionsAreRefused stores failed bytes
collisions-are-refused stores failed bytes = from-begun failed (begun_of stores (cut bytes))

pub told-collisions : (stores : ℕ) (told : Option (List ℕ)) → IfSome told (λ bytes. (failed : List ℕ) → CollisionsAreRefused stores failed bytes)
told-collisions stores None = tt
told-collisions stores (Some bytes) = λ failed. collisions-are-refused stores failed bytes
