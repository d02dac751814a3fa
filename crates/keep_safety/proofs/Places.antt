-- An event is a line of a device, a fault of its store, or happens elsewhere: `by-place`; a device has the configuration's grace: `grace-at`.
use Rattle.std.proofs.Common.{◌≡◌, ◌<◌, ℕ, zero, suc, Bool, true, false, List, [], ◌∷◌, Option, None, Some, slice_get, refl, sym, ◌∙◌, ap, subst, arith, length, inl, inr, nat_eq, eq-eqb, ne_eqb, if◌then◌else◌}
use Rattle.std.proofs.lemmas.Bool.{cases_eq}
use Rattle.keep_spec.specs.Config.{Configuration}
use Rattle.keep_event.specs.Device as machine
use Rattle.keep_event.specs.Device.{State}
use Rattle.keep_event.specs.Requests.{table_line}
use Rattle.keep_event.specs.declared.device.DeviceQuery.{DeviceQuery}
use Rattle.keep_event.specs.declared.device.DeviceAnswer.{DeviceAnswer}
use Rattle.keep_event.specs.declared.device.DeviceAnswer.TheVariants.{StoreFault}
use Rattle.keep_event.specs.declared.table.TableQuery.{TableQuery}
use Rattle.keep_event.specs.declared.table.TableAnswer.{TableAnswer}
use Rattle.keep_event.specs.declared.event.Query.{Query}
use Rattle.keep_event.specs.declared.event.Query.TheVariants as Q
use Rattle.keep_event.specs.declared.event.Answer.{Answer}
use Rattle.keep_event.specs.declared.event.Answer.TheVariants as A
use Rattle.keep_spec.specs.Times.{grace}
use Rattle.keep_spec.specs.declared.config.Device.{Device}
use Rattle.keep_event.specs.World.{device_rules, rules_of}
use Rattle.keep_safety.specs.Past.{Past, left_by, is_fault, device_after, table_after, IsAnswered}
use Rattle.keep_safety.proofs.Sure.{step-sure}

pub at-self : {X : Type 0} (d : ℕ) (x y : X) → (if nat_eq d d then x else y) ≡ x
at-self d x y = ap (λ b. if b then x else y) (eq-eqb d d refl)

pub at-other : {X : Type 0} (n d : ℕ) (x y : X) → nat_eq n d ≡ false → (if nat_eq n d then x else y) ≡ y
at-other n d x y e = ap (λ b. if b then x else y) e

either-way : {X : Type 0} (b : Bool) (x : X) → (if b then x else x) ≡ x
either-way true x = refl
either-way false x = refl

-- a device has the grace of the configuration
there : {X : Type 0} (xs : List X) (n : ℕ) → n < length xs → slice_get xs n ≡ None → ⊥
there [] n lt e = omega (arith, lt)
there (x ∷ xs) zero lt e = cc e
there (x ∷ xs) (suc n) lt e = there xs n (omega (arith, lt)) e

grace-of : (c : Configuration) (o : Option Device) → (o ≡ None → ⊥) → grace (rules_of c o).ttl (rules_of c o).skew ≡ grace c.ttl c.skew
grace-of c None some = absurd (some refl)
grace-of c (Some d) some = refl

pub grace-at : (c : Configuration) (d : ℕ) → d < length c.devices → grace (device_rules c d).ttl (device_rules c d).skew ≡ grace c.ttl c.skew
grace-at c d lt = grace-of c (slice_get c.devices d) (there c.devices d lt)

module _ (c : Configuration) (d : ℕ) (past : Past) (reading : ℕ) where
  abbrev pub line_at : DeviceQuery → machine.Reply
  line_at q = machine.step (device_rules c d) reading q (device_after c d past)

  pub left-line : (q : DeviceQuery) → left_by c d reading (Q.Device d q) (A.Device (line_at q).answer) (device_after c d past) ≡ (line_at q).state
  left-line q =
      at-self d (if is_fault (line_at q).answer then device_after c d past else (line_at q).state) (device_after c d past)
      ∙ ap (λ b. if b then device_after c d past else (line_at q).state) (step-sure (device_rules c d) reading (device_after c d past) q)

  pub left-fault : (q : DeviceQuery) → left_by c d reading (Q.Device d q) (A.Device StoreFault) (device_after c d past) ≡ device_after c d past
  left-fault q = either-way (nat_eq d d) (device_after c d past)

  pub left-away : (n : ℕ) (q : DeviceQuery) (a : DeviceAnswer) → nat_eq n d ≡ false → left_by c d reading (Q.Device n q) (A.Device a) (device_after c d past) ≡ device_after c d past
  left-away n q a e = ap (λ b. if b then (if is_fault a then device_after c d past else (machine.step (device_rules c d) reading q (device_after c d past)).state) else device_after c d past) e

  module _ (P : Query → Answer → Type 0)
      (line : (q : DeviceQuery) → d < length c.devices → P (Q.Device d q) (A.Device (line_at q).answer))
      (fault : (q : DeviceQuery) → P (Q.Device d q) (A.Device StoreFault))
      (away : (n : ℕ) (q : DeviceQuery) (a : DeviceAnswer) → nat_eq n d ≡ false → P (Q.Device n q) (A.Device a))
      (table : (q : TableQuery) (a : TableAnswer) → a ≡ (table_line c reading q (table_after c past)).answer → P (Q.Table q) (A.Table a)) where
    here : (q : DeviceQuery) (a : DeviceAnswer) → IsAnswered c past reading (Q.Device d q) (A.Device a) → P (Q.Device d q) (A.Device a)
    here q a h = elim h.1 as (λ _. P (Q.Device d q) (A.Device a)) [
      | inl is ↦ subst (λ a. P (Q.Device d q) (A.Device a)) (sym is) (line q h.0)
      | inr f ↦ subst (λ a. P (Q.Device d q) (A.Device a)) (sym f.0) (fault q)
    ]

    pub by-place : (q : Query) (a : Answer) → IsAnswered c past reading q a → P q a
    by-place (Q.Device n q) (A.Device a) h = elim (cases_eq n d) as (λ _. P (Q.Device n q) (A.Device a)) [
      | inl same ↦ subst (λ m. IsAnswered c past reading (Q.Device m q) (A.Device a) → P (Q.Device m q) (A.Device a)) (sym same) (here q a) h
      | inr other ↦ away n q a (ne_eqb n d other)
    ]
    by-place (Q.Device n q) (A.Table a) h = absurd h
    by-place (Q.Table q) (A.Device a) h = absurd h
    by-place (Q.Table q) (A.Table a) h = table q a h
