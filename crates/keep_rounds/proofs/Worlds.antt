-- The world of a run is what the past leaves: `world-first`; and the world's line answers as the past says, and leaves what it says then: `world-next`.
use Rattle.std.proofs.Common.{◌≡◌, ◌<◌, ℕ, zero, suc, ◌==◌, Bool, true, false, List, [], ◌∷◌, length, map, refl, sym, ◌∙◌, ap, subst, arith, inl, inr, if◌then◌else◌}
use Rattle.std.specs.Prelude.{slice_index_or, slice_set}
use Rattle.std.proofs.lemmas.Bool.{eqb-false, eqb-true}
use Rattle.keep_spec.specs.Config.{Configuration}
use Rattle.keep_event.specs.Device as machine
use Rattle.keep_event.specs.Requests.{table_line}
use Rattle.keep_event.specs.Table as tables
use Rattle.keep_event.specs.World.{World, Reply, asked, device_rules, device_state, line, stays}
use Rattle.keep_event.specs.declared.device.DeviceQuery.{DeviceQuery}
use Rattle.keep_event.specs.declared.device.DeviceAnswer.TheVariants.{StoreFault}
use Rattle.keep_event.specs.declared.event.Event.{Event}
use Rattle.keep_event.specs.declared.event.Query.{Query}
use Rattle.keep_event.specs.declared.event.Query.TheVariants as Q
use Rattle.keep_event.specs.declared.event.Answer.TheVariants as A
use Rattle.keep_event.specs.declared.table.TableQuery.{TableQuery}
use Rattle.keep_safety.specs.Past.{Past, IsAnswered, device_after, is_fault, table_after}
use Rattle.keep_safety.proofs.Places.{line_at}
use Rattle.keep_safety.proofs.Sure.{step-sure}
use Rattle.keep_history.proofs.Collisions.{new-world}
use Rattle.keep_history.specs.Run.{at_start}
use Rattle.keep_rounds.proofs.Finish.{IsThere}

pub record WorldIs (c : Configuration) (past : Past) (w : World) : Type 0 where
  pub config : w.config ≡ c
  pub count : length w.devices ≡ length c.devices
  pub devices : (d : ℕ) → device_state d w ≡ device_after c d past
  pub table : w.table ≡ table_after c past

set-same : {X : Type 0} (xs : List X) (n : ℕ) (x y : X) → n < length xs → slice_index_or (slice_set xs n x) n y ≡ x
set-same [] n x y lt = absurd (omega (arith, lt))
set-same (z ∷ zs) zero x y lt = refl
set-same (z ∷ zs) (suc n) x y lt = set-same zs n x y (omega (arith, lt))

set-away : {X : Type 0} (xs : List X) (n d : ℕ) (x y : X) → (n ≡ d → ⊥) → slice_index_or (slice_set xs n x) d y ≡ slice_index_or xs d y
set-away [] n d x y never = refl
set-away (z ∷ zs) zero zero x y never = absurd (never refl)
set-away (z ∷ zs) zero (suc d) x y never = refl
set-away (z ∷ zs) (suc n) zero x y never = refl
set-away (z ∷ zs) (suc n) (suc d) x y never = set-away zs n d x y (λ e. never (ap suc e))

set-at : {X : Type 0} (xs : List X) (n d : ℕ) (x y : X) → n < length xs → slice_index_or (slice_set xs n x) d y ≡ (if n == d then x else slice_index_or xs d y)
set-at xs n d x y lt = by (n == d) refl
  where
    by : (b : Bool) → (n == d) ≡ b → slice_index_or (slice_set xs n x) d y ≡ (if b then x else slice_index_or xs d y)
    by true e = subst (λ k. slice_index_or (slice_set xs n x) k y ≡ x) (eqb-true n d e) (set-same xs n x y lt)
    by false e = set-away xs n d x y (λ same. let other = eqb-false n d e in omega (arith, same, other))

length-set : {X : Type 0} (xs : List X) (i : ℕ) (y : X) → length (slice_set xs i y) ≡ length xs
length-set [] i y = refl
length-set (x ∷ xs) zero y = refl
length-set (x ∷ xs) (suc i) y = ap suc (length-set xs i y)

all-new : {X Y : Type 0} (xs : List X) (y : Y) (d : ℕ) → slice_index_or (map (λ x. y) xs) d y ≡ y
all-new [] y d = refl
all-new (x ∷ xs) y zero = refl
all-new (x ∷ xs) y (suc d) = all-new xs y d

pub world-first : (c : Configuration) → WorldIs c [] (at_start c).scene.world
world-first c = record {
  config = refl;
  count = let first = new-world c in first.1;
  devices = λ d. all-new c.devices machine.initial d;
  table = refl;
}

either-same : {X : Type 0} (b : Bool) (x : X) → (if b then x else x) ≡ x
either-same true x = refl
either-same false x = refl

module _ (c : Configuration) (past : Past) (w : World) (h : WorldIs c past w) (tick reading actor : ℕ) where
  abbrev event_by : Query → Reply → Event
  event_by q r = record { tick = tick; reading = reading; actor = actor; query = q; answer = r.answer }

  pub record Leaves (q : Query) (r : Reply) : Type 0 where
    pub answered : IsAnswered c past reading q r.answer
    pub world : WorldIs c (event_by q r ∷ past) r.world

  line-is : (n : ℕ) (q : DeviceQuery) → machine.step (device_rules w.config n) reading q (device_state n w) ≡ line_at c n past reading q
  line-is n q = ap (λ v. machine.step (device_rules v n) reading q (device_state n w)) h.config ∙ ap (λ s. machine.step (device_rules c n) reading q s) (h.devices n)

  fault-leaves : (n : ℕ) (q : DeviceQuery) → n < length c.devices → machine.may_fault q ≡ true → Leaves (Q.Device n q) (stays (A.Device StoreFault) w)
  fault-leaves n q there may = record {
    answered = (there, inr (refl, may));
    world = record { config = h.config; count = h.count; devices = λ d. h.devices d ∙ sym (either-same (n == d) (device_after c d past)); table = h.table };
  }

  device-leaves : (n : ℕ) (q : DeviceQuery) → n < length c.devices → Leaves (Q.Device n q) (line reading (Q.Device n q) w)
  device-leaves n q there = record {
    answered = (there, inl (ap (λ (r : machine.Reply). r.answer) (line-is n q)));
    world = record {
      config = h.config;
      count = length-set w.devices n reply.state ∙ h.count;
      devices = λ d. set-at w.devices n d reply.state machine.initial (let same = h.count in omega (arith, there, same)) ∙ by d (n == d) refl;
      table = h.table;
    };
  }
    where
      reply : machine.Reply
      reply = machine.step (device_rules w.config n) reading q (device_state n w)

      by : (d : ℕ) (b : Bool) → (n == d) ≡ b → (if b then reply.state else device_state d w) ≡ (if b then (if is_fault reply.answer then device_after c d past else (line_at c d past reading q).state) else device_after c d past)
      by d false e = h.devices d
      by d true e =
          let same : reply ≡ line_at c d past reading q = line-is n q ∙ ap (λ k. line_at c k past reading q) (eqb-true n d e) in
          ap (λ (r : machine.Reply). r.state) same
          ∙ sym (ap (λ b. if b then device_after c d past else (line_at c d past reading q).state) (ap (λ (r : machine.Reply). is_fault r.answer) same ∙ step-sure (device_rules c d) reading (device_after c d past) q))

  table-is : (q : TableQuery) → table_line w.config reading q w.table ≡ table_line c reading q (table_after c past)
  table-is q = ap (λ v. table_line v reading q w.table) h.config ∙ ap (λ s. table_line c reading q s) h.table

  table-leaves : (q : TableQuery) → Leaves (Q.Table q) (line reading (Q.Table q) w)
  table-leaves q = record {
    answered = ap (λ (r : tables.Reply). r.answer) (table-is q);
    world = record { config = h.config; count = h.count; devices = h.devices; table = ap (λ (r : tables.Reply). r.state) (table-is q) };
  }

  line-leaves : (q : Query) → IsThere c q → Leaves q (line reading q w)
  line-leaves (Q.Device n q) there = device-leaves n q there
  line-leaves (Q.Table q) there = table-leaves q

  pub world-next : (fails : Bool) (q : Query) → IsThere c q → Leaves q (asked fails reading q w)
  world-next false q there = line-leaves q there
  world-next true (Q.Table q) there = table-leaves q
  world-next true (Q.Device n q) there = by (machine.may_fault q) refl
    where
      by : (b : Bool) → machine.may_fault q ≡ b → Leaves (Q.Device n q) (if b then stays (A.Device StoreFault) w else line reading (Q.Device n q) w)
      by true e = fault-leaves n q there e
      by false e = device-leaves n q there
