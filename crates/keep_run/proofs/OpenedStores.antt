-- Stores that devices are opened over, and that are given back: `over-given` and `stays-same` on one store; `same-all`, `pairs-last`, `pairs-length`; the loops by `giving-start`, `giving-more`, `giving-end`, `going-start`, `going-more`, `going-end`, `going-rules`, `refused-given`.
use Rattle.std.proofs.Common.{◌≡◌, ℕ, zero, suc, ◌+◌, ◌-◌, ◌<◌, ◌≤◌, true, List, [], ◌∷◌, ◌++◌, length, Option, None, Some, refl, sym, ◌∙◌, ap, subst, arith, append_assoc}
use Rattle.std.proofs.lemmas.List.{append-nil, length-append, length-map}
use Rattle.std.proofs.lemmas.Bool.{and_parts, eqb-true}
use Rattle.std.proofs.Math.Seq.{take-length}
use Rattle.std.specs.Prelude.{◌==◌, map, take, drop, is_some, if◌then◌else◌, slice_get}
use Rattle.keep_spec.specs.Causes.{Rose}
use Rattle.keep_spec.specs.Config.{Configuration}
use Rattle.keep_spec.specs.declared.config.Device.{Device}
use Rattle.keep_spec.specs.declared.status.Status.{Status}
use Rattle.keep_spec.specs.declared.status.Status.TheVariants as St
use Rattle.keep_event.specs.declared.device.DeviceRules.{DeviceRules}
use Rattle.keep_event.specs.World.{rules_of, device_rules}
use Rattle.keep_history.specs.Ended.{RisesBy}
use Rattle.keep_history.specs.Run.{Kept, is_empty}
use Rattle.keep_cluster.specs.Cluster.{HasDevices}
use Rattle.keep_volume.specs.Calls.{VolumeView, note_of}
use Rattle.keep_run.specs.Stores.{Told, Tells, AllPairs, IsFilled, IsSame, IsOver, IsGiven, AreBare, IsFilledAt, IsRefused, AreRefused, AreOpened, AreGiven, IsNextOpened, IsNextRefused, count_of}

-- ---- one store

-- a store that was returned unchanged
pub returned-same : (s s' : Told) → s'.held ≡ s.held → s'.noted ≡ s.noted → (k : Kept) → Tells s k → Tells s' k
returned-same s s' h n k t = record { held = h ∙ t.held; noted = n ∙ t.noted }

pub never-falls : (before now : ℕ) → before ≤ now → RisesBy 0 before now
never-falls before now le = λ small. omega (arith, le)

pub rose-rises : (before now : ℕ) → Rose before now → RisesBy 0 before now
rose-rises before now r = λ small. omega (arith, r, small)

round-zero : (k : Kept) → is_empty k ≡ true → k.round ≡ 0
round-zero k e = eqb-true k.round 0 (and_parts (length k.held == 0) (k.round == 0) e).1

-- a device over a store that tells tells the round as its note
pub over-note : (s : Told) (d : VolumeView) (k : Kept) → IsOver s d → Tells s k → d.tells_note ≡ true
over-note s d k v t = v.tells_note ∙ ap is_some t.noted

pub told-round : (d : VolumeView) → d.tells_note ≡ true → note_of d ≡ Some d.round
told-round d e = ap (λ b. if b then Some d.round else None) e

over-given : (o g : Told) (d : VolumeView) → IsOver o d → IsGiven d g → IsSame o g
over-given o g d v w = record {
  keeps = λ k t. record { held = w.held ∙ (v.held ∙ t.held); noted = w.noted ∙ (told-round d (over-note o d k v t) ∙ ap Some (v.round ∙ sym (round-zero k (v.bare k t)))) };
  never_falls = λ small. omega (arith, v.never_falls, w.faults);
}

stays-same : (s : Told) → IsSame s s
stays-same s = record { keeps = returned-same s s refl refl; never_falls = λ small. omega arith }

-- ---- all stores

pub pairs-last : {A B : Type 0} (R : A → B → Type 0) (xs : List A) (ys : List B) (x : A) (y : B) → AllPairs R xs ys → R x y → AllPairs R (xs ++ x ∷ []) (ys ++ y ∷ [])
pairs-last R [] [] x y h r = (r, tt)
pairs-last R [] (b ∷ ys) x y h r = absurd h
pairs-last R (a ∷ xs) [] x y h r = absurd h
pairs-last R (a ∷ xs) (b ∷ ys) x y h r = (h.0, pairs-last R xs ys x y h.1 r)

pub pairs-length : {A B : Type 0} (R : A → B → Type 0) (xs : List A) (ys : List B) → AllPairs R xs ys → length xs ≡ length ys
pairs-length R [] [] h = refl
pairs-length R [] (b ∷ ys) h = absurd h
pairs-length R (a ∷ xs) [] h = absurd h
pairs-length R (a ∷ xs) (b ∷ ys) h = ap suc (pairs-length R xs ys h.1)

module _ {S : Type 0} (told : S → Told) where
  pub same-all : (xs : List S) → AllPairs IsSame (map told xs) (map told xs)
  same-all [] = tt
  same-all (x ∷ xs) = (stays-same (told x), same-all xs)

  -- stores that were opened were given back before the one that was refused
  module _ (store again : S) (rest : List S) where
    pub all-same : (first gave : List S) (ds : List VolumeView) → AllPairs IsOver (map told first) ds → AllPairs IsGiven ds (map told gave) → IsSame (told store) (told again) → AllPairs IsSame (map told (first ++ store ∷ rest)) (map told (gave ++ again ∷ rest))
    all-same [] [] [] v w s = (s, same-all rest)
    all-same (x ∷ xs) (g ∷ gs) (d ∷ ds) v w s = (over-given (told x) (told g) d v.0 w.0, all-same xs gs ds v.1 w.1 s)
    all-same [] gs (d ∷ ds) v w s = absurd v
    all-same (x ∷ xs) gs [] v w s = absurd v
    all-same [] (g ∷ gs) [] v w s = absurd w
    all-same (x ∷ xs) [] (d ∷ ds) v w s = absurd w

    bare-before : (first : List S) (ds : List VolumeView) → AllPairs IsOver (map told first) ds → AreBare (length first) (map told (first ++ store ∷ rest))
    bare-before [] ds v = tt
    bare-before (x ∷ xs) [] v = absurd v
    bare-before (x ∷ xs) (d ∷ ds) v = (v.0.bare, bare-before xs ds v.1)

    filled-at : (first : List S) → IsFilled (told store) → IsFilledAt (length first) (map told (first ++ store ∷ rest))
    filled-at [] f = f
    filled-at (x ∷ xs) f = filled-at xs f

  count-at : (store : S) (rest first : List S) → count_of (length first) (map told (first ++ store ∷ rest)) ≡ (told store).faults
  count-at store rest [] = refl
  count-at store rest (x ∷ xs) = count-at store rest xs

  drop-past : (store : S) (rest first : List S) (k : ℕ) → drop (length first + suc k) (first ++ store ∷ rest) ≡ drop k rest
  drop-past store rest [] k = let e : 0 + suc k ≡ suc k = omega arith in rw e refl
  drop-past store rest (x ∷ xs) k = let e : suc (length xs) + suc k ≡ suc (length xs + suc k) = omega arith in rw e (drop-past store rest xs k)

  module _ (store again : S) (rest first gave : List S) (ds : List VolumeView) (over : AllPairs IsOver (map told first) ds) (given : AllPairs IsGiven ds (map told gave)) where
    pub same-many : length gave ≡ length first
    same-many = sym (map-len gave) ∙ (sym (pairs-length IsGiven ds (map told gave) given) ∙ (sym (pairs-length IsOver (map told first) ds over) ∙ map-len first))
      where
        map-len : (xs : List S) → length (map told xs) ≡ length xs
        map-len [] = refl
        map-len (x ∷ xs) = ap suc (map-len xs)

    pub others-stay : (n : ℕ) → length first < n → drop n (gave ++ again ∷ rest) ≡ drop n (first ++ store ∷ rest)
    others-stay n lt =
        let k : n ≡ length first + suc (n - suc (length first)) = omega (arith, lt) in
        let k' : n ≡ length gave + suc (n - suc (length first)) = omega (arith, lt, same-many) in
        (ap (λ i. drop i (gave ++ again ∷ rest)) k' ∙ drop-past again rest gave (n - suc (length first))) ∙ sym (ap (λ i. drop i (first ++ store ∷ rest)) k ∙ drop-past store rest first (n - suc (length first)))

    pub refused-all : (n device : ℕ) (status : Status) → device ≡ length first → device < n → IsRefused device status (told store) (told again) → AreRefused n status (map told (first ++ store ∷ rest)) (map told (gave ++ again ∷ rest))
    refused-all n device (St.StoreFault d) e lt r =
        let d' : d ≡ length first = r.0 ∙ e in
        let old = ap (λ i. count_of i (map told (first ++ store ∷ rest))) d' ∙ count-at store rest first in
        let new = ap (λ i. count_of i (map told (gave ++ again ∷ rest))) (d' ∙ sym same-many) ∙ count-at again rest gave in
        (omega (arith, r.0, lt), (subst (λ i. AreBare i (map told (first ++ store ∷ rest))) (sym d') (bare-before store again rest first ds over), rw (old, new) r.1))
    refused-all n device (St.NotEmpty d) e lt r =
        let d' : d ≡ length first = r.0 ∙ e in
        (omega (arith, r.0, lt), (subst (λ i. AreBare i (map told (first ++ store ∷ rest))) (sym d') (bare-before store again rest first ds over), subst (λ i. IsFilledAt i (map told (first ++ store ∷ rest))) (sym d') (filled-at store again rest first r.1)))
    refused-all n device St.NoMemory e lt r = tt
    refused-all n device _ e lt r = absurd r

-- ---- loops

-- the stores of the last devices were given back
pub record Giving {S : Type 0} (told : S → Told) (all left : List VolumeView) (old now : List S) : Type 0 where
  pub done : List VolumeView
  pub gave : List S
  pub devices : all ≡ left ++ done
  pub stores : now ≡ gave ++ old
  pub given : AllPairs IsGiven done (map told gave)

-- the devices below a number were opened
pub record Going {S : Type 0} (told : S → Told) (c : Configuration) (device : ℕ) (old left : List S) (ds : List VolumeView) : Type 0 where
  pub first : List S
  pub parts : old ≡ first ++ left
  pub many : length first ≡ device
  pub over : AllPairs IsOver (map told first) ds
  pub rules : map (λ (d : VolumeView). d.rules) ds ≡ take device (map (λ (d : Device). rules_of c (Some d)) c.devices)

module _ {S : Type 0} (told : S → Told) where
  pub giving-start : (all : List VolumeView) (old : List S) → Giving told all all old old
  giving-start all old = record { done = []; gave = []; devices = sym (append-nil all); stores = refl; given = tt }

  pub insert-first : (xs : List S) (x : S) → take 0 xs ++ x ∷ drop 0 xs ≡ x ∷ xs
  insert-first [] x = refl
  insert-first (y ∷ xs) x = refl

  pub giving-more : (all left left' : List VolumeView) (old now now' : List S) (d : VolumeView) (s : S) → Giving told all left old now → left ≡ left' ++ d ∷ [] → now' ≡ s ∷ now → IsGiven d (told s) → Giving told all left' old now'
  giving-more all left left' old now now' d s g e f is = record {
    done = d ∷ g.done;
    gave = s ∷ g.gave;
    devices = g.devices ∙ (ap (λ x. x ++ g.done) e ∙ append_assoc left' (d ∷ []) g.done);
    stores = f ∙ ap (λ x. s ∷ x) g.stores;
    given = (is, g.given);
  }

  pub giving-end : (all left : List VolumeView) (old now : List S) → Giving told all left old now → left ≡ [] → AreGiven told all old now
  giving-end all left old now g e = record {
    first = g.gave;
    parts = g.stores;
    given = let all' : all ≡ g.done = g.devices ∙ ap (λ x. x ++ g.done) e in subst (λ x. AllPairs IsGiven x (map told g.gave)) (sym all') g.given;
  }

  pub going-start : (c : Configuration) (old : List S) (ds : List VolumeView) → ds ≡ [] → Going told c 0 old old ds
  going-start c old ds e = rw e (record { first = []; parts = refl; many = refl; over = tt; rules = refl })

  map-last : {A B : Type 0} (f : A → B) (xs : List A) (x : A) → map f (xs ++ x ∷ []) ≡ map f xs ++ f x ∷ []
  map-last f [] x = refl
  map-last f (y ∷ xs) x = ap (λ z. f y ∷ z) (map-last f xs x)

  length-last : {A : Type 0} (xs : List A) (x : A) → length (xs ++ x ∷ []) ≡ length xs + 1
  length-last [] x = omega arith
  length-last (y ∷ xs) x = omega (arith, length-last xs x)

  take-next : {A B : Type 0} (f : A → B) (xs : List A) (k : ℕ) (x : A) → slice_get xs k ≡ Some x → take (k + 1) (map f xs) ≡ take k (map f xs) ++ f x ∷ []
  take-next f [] k x e = absurd (no e)
    where
      no : None ≡ Some x → ⊥
      no e = cc
  take-next f (y ∷ xs) zero x e = ap (λ z. f z ∷ []) (same e)
    where
      same : Some y ≡ Some x → y ≡ x
      same e = cc
  take-next f (y ∷ xs) (suc k) x e = let n : suc k + 1 ≡ suc (k + 1) = omega arith in rw n (ap (λ z. f y ∷ z) (take-next f xs k x e))

  none-past : {A : Type 0} (xs : List A) (k : ℕ) → k < length xs → slice_get xs k ≡ None → ⊥
  none-past [] k lt e = absurd (omega (arith, lt))
  none-past (x ∷ xs) zero lt e = no e
    where
      no : Some x ≡ None → ⊥
      no e = cc
  none-past (x ∷ xs) (suc k) lt e = none-past xs k (omega (arith, lt)) e

  pub going-more : (c : Configuration) (device : ℕ) (old left left' : List S) (ds ds' : List VolumeView) → device < length c.devices → Going told c device old left ds → IsNextOpened told (device_rules c device) left left' ds ds' → Going told c (device + 1) old left' ds'
  going-more c device old left left' ds ds' lt g n =
      by (slice_get c.devices device) refl
    where
      by : (o : Option Device) → slice_get c.devices device ≡ o → Going told c (device + 1) old left' ds'
      by None e = absurd (none-past c.devices device lt e)
      by (Some d) e = record {
        first = g.first ++ n.store ∷ [];
        parts = g.parts ∙ (ap (λ x. g.first ++ x) n.first ∙ sym (append_assoc g.first (n.store ∷ []) left'));
        many = length-last g.first n.store ∙ ap (λ k. k + 1) g.many;
        over = rw n.last (subst (λ x. AllPairs IsOver x (ds ++ n.device ∷ [])) (sym (map-last told g.first n.store)) (pairs-last IsOver (map told g.first) ds (told n.store) n.device g.over n.over));
        rules = rw n.last (map-last (λ (d : VolumeView). d.rules) ds n.device ∙ (ap (λ x. x ++ n.device.rules ∷ []) g.rules ∙ (ap (λ r. take device (map (λ (d : Device). rules_of c (Some d)) c.devices) ++ r ∷ []) (n.rules_are ∙ ap (rules_of c) e) ∙ sym (take-next (λ (d : Device). rules_of c (Some d)) c.devices device d e))));
      }

  pub going-end : (c : Configuration) (device : ℕ) (old left : List S) (ds : List VolumeView) → device ≡ length c.devices → Going told c device old left ds → AreOpened told (length c.devices) old left ds
  going-end c device old left ds e g = record { first = g.first; parts = g.parts; many = g.many ∙ e; over = g.over }

  pub going-rules : (c : Configuration) (device : ℕ) (old left : List S) (ds : List VolumeView) → device ≡ length c.devices → Going told c device old left ds → HasDevices c ds
  going-rules c device old left ds e g = g.rules ∙ whole (map (λ (d : Device). rules_of c (Some d)) c.devices) device (e ∙ sym (length-map c.devices (λ (d : Device). rules_of c (Some d))))
    where
      whole : (xs : List DeviceRules) (k : ℕ) → k ≡ length xs → take k xs ≡ xs
      whole xs k e = rw e (take-length xs)

  -- a refusal after the first devices were opened, whose stores are given back
  pub refused-given : (c : Configuration) (device : ℕ) (old left left' new : List S) (ds ds' : List VolumeView) (status : Status) → device < length c.devices → Going told c device old left ds → IsNextRefused told device status left left' → ds' ≡ ds → AreGiven told ds' left' new
      → AllPairs IsSame (map told old) (map told new) × AreRefused (length c.devices) status (map told old) (map told new) × (drop (length c.devices) new ≡ drop (length c.devices) old)
  refused-given c device old left left' new ds ds' status lt g r stay w =
      let given : AllPairs IsGiven ds (map told w.first) = subst (λ x. AllPairs IsGiven x (map told w.first)) stay w.given in
      let o : old ≡ g.first ++ r.store ∷ r.rest = g.parts ∙ ap (λ x. g.first ++ x) r.first in
      let n : new ≡ w.first ++ r.again ∷ r.rest = w.parts ∙ ap (λ x. w.first ++ x) r.back in
      rw (o, n) (
        all-same told r.store r.again r.rest g.first w.first ds g.over given r.same,
        refused-all told r.store r.again r.rest g.first w.first ds g.over given (length c.devices) device status (sym g.many) lt r.refused,
        others-stay told r.store r.again r.rest g.first w.first ds g.over given (length c.devices) (omega (arith, lt, g.many)),
      )

  map-many : (xs : List S) → length (map told xs) ≡ length xs
  map-many xs = length-map xs told

  pub going-many : (c : Configuration) (device : ℕ) (old left : List S) (ds : List VolumeView) → Going told c device old left ds → length ds ≡ device
  going-many c device old left ds g = sym (pairs-length IsOver (map told g.first) ds g.over) ∙ (map-many g.first ∙ g.many)

  pub going-left : (c : Configuration) (device : ℕ) (old left : List S) (ds : List VolumeView) → Going told c device old left ds → length left + device ≡ length old
  going-left c device old left ds g =
      let n : length old ≡ length g.first + length left = ap length g.parts ∙ length-append g.first left in
      omega (arith, n, g.many)

  pub refused-length : (device : ℕ) (status : Status) (old new : List S) → IsNextRefused told device status old new → length new ≡ length old
  refused-length device status old new r = ap length r.back ∙ sym (ap length r.first)
