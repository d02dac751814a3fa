-- A balance task that is asked until it ends: its events are steps, and so many turns as queries are left bring it to its end.
use Rattle.std.proofs.Common.{◌≡◌, ◌≤◌, ◌<◌, ℕ, zero, suc, List, [], ◌∷◌, length, map, ◌&&◌, Bool, true, false, refl, sym, ◌∙◌, ap, subst, Option, None, Some, arith, inl, inr}
use Rattle.std.specs.Prelude.{◌⊎◌, is_some, ◌==◌}
use Rattle.std.specs.List.{AllByRecursion, list_any}
use Rattle.keep_spec.specs.Config.{Configuration}
use Rattle.keep_event.specs.Device as devices
use Rattle.keep_event.specs.declared.device.DeviceQuery.{DeviceQuery}
use Rattle.keep_event.specs.declared.device.DeviceAnswer.{DeviceAnswer}
use Rattle.keep_event.specs.declared.device.DeviceAnswer.TheVariants as D
use Rattle.keep_event.specs.declared.event.Event.{Event}
use Rattle.keep_event.specs.declared.event.Query.{Query}
use Rattle.keep_event.specs.declared.event.Query.TheVariants as Q
use Rattle.keep_spec.specs.Members.{IsIn}
use Rattle.keep_safety.specs.Past.{Past, IsAnswered, table_after, device_after}
use Rattle.keep_event.specs.World.{device_rules}
use Rattle.keep_history.specs.Rounds.{Round}
use Rattle.keep_order.proofs.Distinct.{number-bounds}
use Rattle.keep_order.proofs.Lists.{in-map, in-joined}
use Rattle.keep_history.specs.Rounds.{prefixes}
use Rattle.keep_history.specs.Next.{Next, asks, ends, ends_or}
use Rattle.keep_history.specs.declared.task.Outcome.{Outcome}
use Rattle.keep_history.specs.Balance.{Balancing, device_numbers, all_pages, page_on, round_next}
use Rattle.keep_rounds.specs.Balance.{next_of, after_next, after_reply}
use Rattle.keep_rounds.specs.Interleaved.{stands, MayAsk, IsStep, AreSteps}
use Rattle.keep_rounds.specs.Finish.{actor_of, device_answer, answer_to, made, goes_on, finished, is_end, AreNumbered, TasksEnd}
use Rattle.keep_rounds.proofs.Apart.{next-in}
use Rattle.keep_rounds.proofs.Asked.{Asked, begins, clears, pages, scans, accepts, asked-next}
use Rattle.keep_rounds.proofs.Left.{left, step-falls, records-stay}
use Rattle.keep_rounds.proofs.Theorem.{task-own}

-- ---- the devices that a balance task asks are there
abbrev pub IsThere : Configuration → Query → Type 0
IsThere c (Q.Device d q) = d < length c.devices
IsThere c (Q.Table q) = Unit {0}

device-there : (c : Configuration) (d : ℕ) → IsIn d (device_numbers c) → d < length c.devices
device-there c d i = let b = number-bounds 0 (length c.devices) d i in omega (arith, b.1)

page-there : (c : Configuration) (x : ℕ × List ℕ) → IsIn x (all_pages c) → x.0 < length c.devices
page-there c x i =
    let o = in-joined (λ d. map (page_on d) (prefixes c.index_digits)) x (device_numbers c) i in
    let a = in-map (page_on o.from) x (prefixes c.index_digits) o.has in
    subst (λ (v : ℕ × List ℕ). v.0 < length c.devices) (sym a.is) (device-there c o.from o.member)

pub asked-there : (c : Configuration) (o : Option ℕ) (g : Round) (k : List Bool) (q : Query) → Asked c o g k q → IsThere c q
asked-there c o g k q (begins none is) = subst (IsThere c) (sym is) tt
asked-there c o g k q (clears r d ds some left is) = subst (IsThere c) (sym is) (device-there c d (next-in (length g.cleared) (device_numbers c) d ds left))
asked-there c o g k q (pages r d prefix xs some cleared left is) = subst (IsThere c) (sym is) (page-there c (page_on d prefix) (next-in (length g.pages) (all_pages c) (page_on d prefix) xs left))
asked-there c o g k q (scans r some cleared paged more is) = subst (IsThere c) (sym is) tt
asked-there c o g k q (accepts r d ds some cleared paged done left is) = subst (IsThere c) (sym is) (device-there c d (next-in (length k) (device_numbers c) d ds left))

later-numbers : (m k : ℕ) (past : Past) → m ≤ k → AllByRecursion (λ x. x.tick < m) past → AllByRecursion (λ x. x.tick < k) past
later-numbers m k [] le h = tt
later-numbers m k (e ∷ past) le h = (let lt = h.0 in omega arith, later-numbers m k past le h.1)

ended-next : (c : Configuration) (s : Balancing) (o : Option Outcome) → s.ended ≡ o → is_some o ≡ true → is_end (next_of c s) ≡ true
ended-next c s None e h = cc h
ended-next c s (Some x) e h = ap (λ v. is_end (ends_or v (round_next c s.number s.round s.refusals))) e

module _ (c : Configuration) (balances : ℕ → Bool) (failed : List ℕ) (n reading : ℕ) where
  device-answered : (past : Past) (d : ℕ) (q : DeviceQuery) (a : DeviceAnswer) (m f : Bool) → devices.may_fault q ≡ m → a ≡ (devices.step (device_rules c d) reading q (device_after c d past)).answer →
      ((device_answer c balances failed n reading (m && f) a ≡ (devices.step (device_rules c d) reading q (device_after c d past)).answer) ⊎ ((device_answer c balances failed n reading (m && f) a ≡ D.StoreFault) × (devices.may_fault q ≡ true)))
  device-answered past d q a true true e is = inr (refl, e)
  device-answered past d q a true false e is = inl is
  device-answered past d q a false true e is = inl is
  device-answered past d q a false false e is = inl is

  answered-so : (past : Past) (q : Query) → IsThere c q → IsAnswered c past reading q (answer_to c balances failed n reading past q)
  answered-so past (Q.Table q) there = refl
  answered-so past (Q.Device d q) there = (there, device-answered past d q (devices.step (device_rules c d) reading q (device_after c d past)).answer (devices.may_fault q) (list_any (λ k. k == length past) failed) refl refl)

  abbrev standing_now : Past → Balancing
  standing_now past = stands c actor_of balances n past

  asked-view : (past : Past) (q : Query) → next_of c (standing_now past) ≡ asks q → Asked c (standing_now past).number (standing_now past).round (standing_now past).refusals q
  asked-view past q e = asked-next c (standing_now past).round (standing_now past).refusals q (standing_now past).ended (standing_now past).number e

  abbrev event_now : Past → Query → Event
  event_now past q = made c balances failed n reading past q

  is-step : (past : Past) (q : Query) → balances n ≡ true → AreNumbered past → next_of c (standing_now past) ≡ asks q → IsStep c actor_of balances past (event_now past q)
  is-step past q b numbered e = record {
    tick = numbered;
    asked = subst (λ v. MayAsk c actor_of balances v n past q) (sym b) e;
    answered = answered-so past q (asked-there c (standing_now past).number (standing_now past).round (standing_now past).refusals q (asked-view past q e));
  }

  next-numbered : (past : Past) (q : Query) → AreNumbered past → AreNumbered (event_now past q ∷ past)
  next-numbered past q h = (omega arith, later-numbers (length past) (suc (length past)) past (omega arith) h)

  pub finish-steps : (turns : ℕ) (past : Past) → balances n ≡ true → AreNumbered past → AreSteps c actor_of balances past → AreSteps c actor_of balances (finished c balances failed n reading turns past)
  finish-steps zero past b numbered h = h
  finish-steps (suc turns) past b numbered h = by (next_of c (standing_now past)) refl (λ q e. finish-steps turns (event_now past q ∷ past) b (next-numbered past q numbered) (is-step past q b numbered e, h))
    where
      by : (m : Next) → next_of c (standing_now past) ≡ m → ((q : Query) → next_of c (standing_now past) ≡ asks q → AreSteps c actor_of balances (finished c balances failed n reading turns (event_now past q ∷ past))) →
          AreSteps c actor_of balances (goes_on c balances failed n reading (finished c balances failed n reading turns) past m)
      by (ends o) e f = h
      by (asks q) e f = f q e

  -- ---- it comes to its end
  abbrev EndsAfter : ℕ → Past → Type 0
  EndsAfter turns past = is_end (next_of c (standing_now (finished c balances failed n reading turns past))) ≡ true

  now-ended : (turns : ℕ) (past : Past) → is_end (next_of c (standing_now past)) ≡ true → EndsAfter turns past
  now-ended zero past e = e
  now-ended (suc turns) past e = by (next_of c (standing_now past)) e
    where
      by : (m : Next) → is_end m ≡ true → is_end (next_of c (standing_now (goes_on c balances failed n reading (finished c balances failed n reading turns) past m))) ≡ true
      by (ends o) f = e
      by (asks q) f = cc f

  stood : (past : Past) (q : Query) → next_of c (standing_now past) ≡ asks q → standing_now (event_now past q ∷ past) ≡ after_reply q (record { tick = length past; answer = answer_to c balances failed n reading past q }) (standing_now past)
  stood past q e = task-own c actor_of balances past (event_now past q) n refl ∙ ap (λ v. after_next v (record { tick = length past; answer = answer_to c balances failed n reading past q }) (standing_now past)) e

  pub finish-ends : (turns : ℕ) (past : Past) → 0 < c.scan_limit → left c (standing_now past) (table_after c past).records < turns → EndsAfter turns past
  finish-ends zero past some lt = absurd (omega arith)
  finish-ends (suc turns) past some lt =
      by (next_of c (standing_now past)) refl (λ q e. on q e (λ less. finish-ends turns (event_now past q ∷ past) some less)
      (step-falls c past reading (standing_now past) q (record { tick = length past; answer = answer_to c balances failed n reading past q }) some e (answered-so past q (asked-there c (standing_now past).number (standing_now past).round (standing_now past).refusals q (asked-view past q e)))))
    where
      on : (q : Query) → next_of c (standing_now past) ≡ asks q → (left c (standing_now (event_now past q ∷ past)) (table_after c (event_now past q ∷ past)).records < turns → EndsAfter turns (event_now past q ∷ past)) →
          (left c (after_reply q (record { tick = length past; answer = answer_to c balances failed n reading past q }) (standing_now past)) (table_after c past).records < left c (standing_now past) (table_after c past).records) ⊎ (is_some (after_reply q (record { tick = length past; answer = answer_to c balances failed n reading past q }) (standing_now past)).ended ≡ true) →
          EndsAfter turns (event_now past q ∷ past)
      on q e rest (inl less) = rest (let same : left c (standing_now (event_now past q ∷ past)) (table_after c (event_now past q ∷ past)).records ≡ left c (after_reply q (record { tick = length past; answer = answer_to c balances failed n reading past q }) (standing_now past)) (table_after c past).records =
          ap (λ v. left c v (table_after c (event_now past q ∷ past)).records) (stood past q e) ∙ ap (λ v. left c (after_reply q (record { tick = length past; answer = answer_to c balances failed n reading past q }) (standing_now past)) v)
          (records-stay c reading (table_after c past) q (standing_now past).number (standing_now past).round (standing_now past).refusals (asked-view past q e)) in omega arith)
      on q e rest (inr over) = now-ended turns (event_now past q ∷ past) (ended-next c (standing_now (event_now past q ∷ past)) (standing_now (event_now past q ∷ past)).ended refl (ap (λ (s : Balancing). is_some s.ended) (stood past q e) ∙ over))

      by : (m : Next) → next_of c (standing_now past) ≡ m → ((q : Query) → next_of c (standing_now past) ≡ asks q → EndsAfter turns (event_now past q ∷ past)) →
          is_end (next_of c (standing_now (goes_on c balances failed n reading (finished c balances failed n reading turns) past m))) ≡ true
      by (ends o) e f = ap is_end e
      by (asks q) e f = f q e

pub tasks-end : (c : Configuration) → TasksEnd c
tasks-end c balances failed n reading past some b numbered h =
    let turns = suc (left c (stands c actor_of balances n past) (table_after c past).records) in
    record {
      turns = turns;
      ended = finish-ends c balances failed n reading turns past some (omega arith);
      steps = finish-steps c balances failed n reading turns past b numbered h;
    }
