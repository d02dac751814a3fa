-- The states, rules and counts of the devices of a cluster, where one of them changes: `told-is`, `told-note`, `told-known`, `states-at`, `states-set`, `rules-at`, `rules-set`, `fault-at`, `none-falls`, `two_devices`.
use Rattle.std.proofs.Common.{◌≡◌, ◌<◌, ◌≤◌, ◌+◌, ℕ, zero, suc, List, [], ◌∷◌, length, map, get_or, set, Option, None, Some, slice_get, refl, sym, ◌∙◌, ap, subst, arith}
use Rattle.std.proofs.Math.Seq.{map-set_same}
use Rattle.std.specs.Option.{option_map_or}
use Rattle.std.specs.Prelude.{Bool, true, false, if◌then◌else◌}
use Rattle.keep_spec.specs.Causes.{Rose}
use Rattle.keep_spec.specs.Config.{Configuration}
use Rattle.keep_spec.specs.declared.config.Device.{Device as TheDevice}
use Rattle.keep_event.specs.Device.{State, initial}
use Rattle.keep_event.specs.World.{device_rules, rules_of}
use Rattle.keep_volume.specs.Calls.{VolumeView, state_of}
use Rattle.keep_cluster.specs.Cluster.{HasDevices, with_known, told_state, states_of, faults_at}

record AreKnown {A : Type 0} (o : Option A) (os : Option (List A)) (r : List A) : Type 0 where
  first : A
  rest : List A
  first_is : o ≡ Some first
  rest_is : os ≡ Some rest
  all_is : r ≡ first ∷ rest

known-parts : {A : Type 0} (o : Option A) (os : Option (List A)) (r : List A) → with_known o os ≡ Some r → AreKnown o os r
known-parts None os r e = cc e
known-parts (Some x) None r e = cc e
known-parts (Some x) (Some xs) r e = record { first = x; rest = xs; first_is = refl; rest_is = refl; all_is = cc e }

-- the store of a device whose state is known tells its note, and the state is the device's
pub told-note : (d : VolumeView) (s : State) → told_state d ≡ Some s → d.tells_note ≡ true
told-note d s e = by d.tells_note refl e
  where
    by : (b : Bool) → d.tells_note ≡ b → (if b then state_of d else None) ≡ Some s → b ≡ true
    by true n e = refl
    by false n e = cc e

pub told-is : (d : VolumeView) (s : State) → told_state d ≡ Some s → state_of d ≡ Some s
told-is d s e = sym (ap (λ b. if b then state_of d else None) (told-note d s e)) ∙ e

pub told-known : (d : VolumeView) (s : State) → d.tells_note ≡ true → state_of d ≡ Some s → told_state d ≡ Some s
told-known d s e is = ap (λ b. if b then state_of d else None) e ∙ is

-- the state of one device among the states of all
pub states-at : (ds : List VolumeView) (ss : List State) (i : ℕ) (d : VolumeView) → states_of ds ≡ Some ss → i < length ds → told_state (get_or ds i d) ≡ Some (get_or ss i initial)
states-at [] ss i d e lt = absurd (omega (arith, lt))
states-at (x ∷ xs) ss zero d e lt =
    let p = known-parts (told_state x) (states_of xs) ss e in
    p.first_is ∙ ap (λ (l : List State). Some (get_or l 0 initial)) (sym p.all_is)
states-at (x ∷ xs) ss (suc i) d e lt =
    let p = known-parts (told_state x) (states_of xs) ss e in
    states-at xs p.rest i d p.rest_is (omega (arith, lt)) ∙ ap (λ (l : List State). Some (get_or l (suc i) initial)) (sym p.all_is)

-- the states of all, where one device is replaced
pub states-set : (ds : List VolumeView) (ss : List State) (i : ℕ) (d : VolumeView) (s : State) → states_of ds ≡ Some ss → i < length ds → told_state d ≡ Some s → states_of (set ds i d) ≡ Some (set ss i s)
states-set [] ss i d s e lt is = absurd (omega (arith, lt))
states-set (x ∷ xs) ss zero d s e lt is =
    let p = known-parts (told_state x) (states_of xs) ss e in
    ap (λ o. with_known o (states_of xs)) is ∙ ap (with_known (Some s)) p.rest_is ∙ ap (λ (l : List State). Some (set l 0 s)) (sym p.all_is)
states-set (x ∷ xs) ss (suc i) d s e lt is =
    let p = known-parts (told_state x) (states_of xs) ss e in
    ap (λ o. with_known o (states_of (set xs i d))) p.first_is ∙ ap (with_known (Some p.first)) (states-set xs p.rest i d s p.rest_is (omega (arith, lt)) is)
    ∙ ap (λ (l : List State). Some (set l (suc i) s)) (sym p.all_is)

rules-listed : (c : Configuration) (ds : List VolumeView) (xs : List TheDevice) (i : ℕ) (d : VolumeView)
    → map (λ d. d.rules) ds ≡ map (λ x. rules_of c (Some x)) xs → i < length ds → (get_or ds i d).rules ≡ rules_of c (slice_get xs i)
rules-listed c [] xs i d e lt = absurd (omega (arith, lt))
rules-listed c (y ∷ ys) [] i d e lt = cc e
rules-listed c (y ∷ ys) (x ∷ xs) zero d e lt = cc e
rules-listed c (y ∷ ys) (x ∷ xs) (suc i) d e lt = rules-listed c ys xs i d (cc e) (omega (arith, lt))

-- a device has the rules of the configuration
pub rules-at : (c : Configuration) (ds : List VolumeView) (i : ℕ) (d : VolumeView) → HasDevices c ds → i < length ds → (get_or ds i d).rules ≡ device_rules c i
rules-at c ds i d e lt = rules-listed c ds c.devices i d e lt

pub rules-set : (c : Configuration) (ds : List VolumeView) (i : ℕ) (before after : VolumeView) → get_or ds i before ≡ before → after.rules ≡ before.rules → HasDevices c ds → HasDevices c (set ds i after)
rules-set c ds i before after found same h = map-set_same (λ (d : VolumeView). d.rules) ds i after before (same ∙ ap (λ (d : VolumeView). d.rules) (sym found)) ∙ h

-- the count of a device
pub fault-at : (ds : List VolumeView) (i : ℕ) (before : VolumeView) → i < length ds → ((d : VolumeView) → get_or ds i d ≡ before) → faults_at ds i ≡ before.faults
fault-at [] i before lt found = absurd (omega (arith, lt))
fault-at (x ∷ xs) zero before lt found = ap (λ (d : VolumeView). d.faults) (found before)
fault-at (x ∷ xs) (suc i) before lt found = fault-at xs i before (omega (arith, lt)) found

pub fault-set : (ds : List VolumeView) (i : ℕ) (after : VolumeView) → i < length ds → faults_at (set ds i after) i ≡ after.faults
fault-set [] i after lt = absurd (omega (arith, lt))
fault-set (x ∷ xs) zero after lt = refl
fault-set (x ∷ xs) (suc i) after lt = fault-set xs i after (omega (arith, lt))

pub none-falls : (ds : List VolumeView) (i : ℕ) (before after : VolumeView) → ((d : VolumeView) → get_or ds i d ≡ before) → before.faults ≤ after.faults → (j : ℕ) → faults_at ds j ≤ faults_at (set ds i after) j
none-falls [] i before after found le j = omega arith
none-falls (x ∷ xs) zero before after found le zero = rw (found before) le
none-falls (x ∷ xs) zero before after found le (suc j) = omega arith
none-falls (x ∷ xs) (suc i) before after found le zero = omega arith
none-falls (x ∷ xs) (suc i) before after found le (suc j) = none-falls xs i before after found le j

listed-two : (c : Configuration) (a b : VolumeView) (xs : List TheDevice) → length xs ≡ 2 → a.rules ≡ rules_of c (slice_get xs 0) → b.rules ≡ rules_of c (slice_get xs 1)
    → map (λ (d : VolumeView). d.rules) (a ∷ b ∷ []) ≡ map (λ x. rules_of c (Some x)) xs
listed-two c a b [] n e f = absurd (omega (arith, n))
listed-two c a b (x ∷ []) n e f = absurd (omega (arith, n))
listed-two c a b (x ∷ y ∷ []) n e f = cc (e, f)
listed-two c a b (x ∷ y ∷ z ∷ zs) n e f = absurd (omega (arith, n))

-- the devices of a configuration of two
pub two_devices : (c : Configuration) (a b : VolumeView) → length c.devices ≡ 2 → a.rules ≡ device_rules c 0 → b.rules ≡ device_rules c 1 → HasDevices c (a ∷ b ∷ [])
two_devices c a b n e f = listed-two c a b c.devices n e f
