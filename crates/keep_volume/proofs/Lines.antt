-- How a call of the machine's line is shown.
use Rattle.std.proofs.Common.{◌≡◌, ℕ, ◌≤◌, List, Option, None, Some, option_map, Result, Ok, Err, IfSome, refl, sym, ◌∙◌, ap, inl, inr, arith, subst, drop}
use Rattle.keep_spec.specs.Causes.{Rose}
use Rattle.keep_event.specs.Device.{State, Reply, stays, with_held, with_trash, taken}
use Rattle.keep_event.specs.declared.names.Name.{Name}
use Rattle.keep_event.specs.declared.names.Stored.{Stored}
use Rattle.keep_event.specs.declared.device.DeviceAnswer.{DeviceAnswer}
use Rattle.keep_event.specs.declared.device.DeviceAnswer.TheVariants.{StoreFault}
use Rattle.keep_volume.specs.Calls.{VolumeView, state_with, state_of, IsToldLine, IsLine, HasFault, IsKept, IsExactly, over}
use Rattle.keep_volume.specs.Steps.{IsItem, without_first}
use Rattle.keep_spec.specs.declared.memory.NoMemory.{NoMemory}

pub told-map : {A : Type 0} {P Q : A → Type 0} (o : Option A) → ((x : A) → P x → Q x) → IfSome o P → IfSome o Q
told-map None f h = tt
told-map (Some x) f h = f x h

pub told-all : {A : Type 0} {Q : A → Type 0} (o : Option A) → ((x : A) → Q x) → IfSome o Q
told-all None f = tt
told-all (Some x) f = f x

pub told-both : {A : Type 0} {P Q R : A → Type 0} (o : Option A) → ((x : A) → P x → Q x → R x) → IfSome o P → IfSome o Q → IfSome o R
told-both None f h k = tt
told-both (Some x) f h k = f x h k

told-becomes : (line : State → Reply) (held held' : Option (List (Name × Stored))) (a : DeviceAnswer) (h : List (Name × Stored) → List (Name × Stored)) (w w' : List (Name × Stored) → State)
    → held' ≡ option_map h held → IfSome held (λ es. line (w es) ≡ record { answer = a; state = w' (h es) })
    → IfSome (option_map w held) (λ s. IsToldLine line s (option_map w' held') (Ok a))
told-becomes line None held' a h w w' e p = tt
told-becomes line (Some es) held' a h w w' e p = inl (sym (ap (λ (r : Reply). r.answer) p), ap (option_map w') e ∙ ap Some (sym (ap (λ (r : Reply). r.state) p)))

told-fault : (line : State → Reply) (held held' : Option (List (Name × Stored))) (w w' : List (Name × Stored) → State)
    → held' ≡ option_map (λ es. es) held → ((es : List (Name × Stored)) → w' es ≡ w es)
    → IfSome (option_map w held) (λ s. IsToldLine line s (option_map w' held') (Ok StoreFault))
told-fault line None held' w w' e p = tt
told-fault line (Some es) held' w w' e p = inr (refl, ap (option_map w') e ∙ ap Some (p es))

told-memory : (line : State → Reply) (held held' : Option (List (Name × Stored))) (w w' : List (Name × Stored) → State) (x : NoMemory)
    → held' ≡ option_map (λ es. es) held → ((es : List (Name × Stored)) → w' es ≡ w es)
    → IfSome (option_map w held) (λ s. IsToldLine line s (option_map w' held') (Err x))
told-memory line None held' w w' x e p = tt
told-memory line (Some es) held' w w' x e p = ap (option_map w') e ∙ ap Some (p es)

module _ (line : State → Reply) (old new : VolumeView) (later : old.faults ≤ new.faults) (rules : new.rules ≡ old.rules) (tells : new.tells_note ≡ old.tells_note) where
  -- the store made h of what it told, and the line says so
  pub becomes-line : (a : DeviceAnswer) (h : List (Name × Stored) → List (Name × Stored)) → new.held ≡ option_map h old.held
      → IfSome old.held (λ es. line (state_with old es) ≡ record { answer = a; state = state_with new (h es) })
      → (a ≡ StoreFault → ⊥) → IsLine line old new (Ok a)
  becomes-line a h e p fault = record { told = told-becomes line old.held new.held a h (state_with old) (state_with new) e p; fault = λ e. absurd (fault e); kept = λ e. absurd (fault e); never_falls = later; rules = rules; tells_note = tells }

-- the line says so whatever the contents are
pub exactly : (line : State → Reply) (old new : VolumeView) (a : DeviceAnswer) → ((es : List (Name × Stored)) → line (state_with old es) ≡ record { answer = a; state = state_with new es })
    → new.held ≡ old.held → new.faults ≡ old.faults → new.rules ≡ old.rules → new.tells_note ≡ old.tells_note → IsExactly line old new (Ok a)
exactly line old new a p h f r t = record { told = λ es. (ap (λ (r : Reply). Ok r.answer) (sym (p es)), ap (λ (r : Reply). r.state) (sym (p es))); held = h; faults = f; rules = r; tells_note = t }

pub option_map-same : {A : Type 0} (o : Option A) → o ≡ option_map (λ x. x) o
option_map-same None = refl
option_map-same (Some x) = refl

-- nothing was asked of the store
pub stays-line : (line : State → Reply) (d : VolumeView) (a : DeviceAnswer) → IfSome d.held (λ es. line (state_with d es) ≡ stays a (state_with d es)) → (a ≡ StoreFault → ⊥) → IsLine line d d (Ok a)
stays-line line d a p fault = becomes-line line d d (omega arith) refl refl a (λ es. es) (option_map-same d.held) p fault

-- the store made h of what it told, and all else of the device stays
module _ (line : State → Reply) (old new : VolumeView) (h : List (Name × Stored) → List (Name × Stored)) (is : new ≡ over old h new.faults) (later : old.faults ≤ new.faults) where
  state-over : (es : List (Name × Stored)) → state_with new es ≡ state_with old es
  state-over es = ap (λ d. state_with d es) is

  pub over-line : (a : DeviceAnswer) → IfSome old.held (λ es. line (state_with old es) ≡ record { answer = a; state = with_held (h es) (state_with old es) })
      → (a ≡ StoreFault → ⊥) → IsLine line old new (Ok a)
  over-line a p fault = becomes-line line old new later (ap (λ (d : VolumeView). d.rules) is) (ap (λ (d : VolumeView). d.tells_note) is) a h (ap (λ (d : VolumeView). d.held) is)
      (told-map old.held (λ es e. e ∙ ap (λ (s : State). record { answer = a; state = s }) (sym (state-over (h es)))) p) fault

-- two calls of the store, of which the first changed nothing
option_map-twice : {A : Type 0} (h : A → A) (o : Option A) → option_map h (option_map (λ x. x) o) ≡ option_map h o
option_map-twice h None = refl
option_map-twice h (Some x) = refl

pub over-over : (old mid new : VolumeView) (h : List (Name × Stored) → List (Name × Stored)) → mid ≡ over old (λ es. es) mid.faults → new ≡ over mid h new.faults → new ≡ over old h new.faults
over-over old mid new h e f = f ∙ ap (λ d. over d h new.faults) e ∙ ap (λ (o : Option (List (Name × Stored))). record { held = o; tells_note = old.tells_note; round = old.round; trash = old.trash; pull = old.pull; rules = old.rules; faults = new.faults }) (option_map-twice h old.held)

-- ---- an item of the trash list
told-item : (line : State → Reply) (held held' : Option (List (Name × Stored))) (a : DeviceAnswer) (h : List (Name × Stored) → List (Name × Stored)) (w w' : List (Name × Stored) → State)
    → held' ≡ option_map h held → IfSome held (λ es. line (w es) ≡ record { answer = a; state = w' (h es) })
    → IfSome (option_map w held) (λ s. (a ≡ (line s).answer) × (option_map w' held' ≡ Some (line s).state))
told-item line None held' a h w w' e p = tt
told-item line (Some es) held' a h w w' e p = (sym (ap (λ (r : Reply). r.answer) p), ap (option_map w') e ∙ ap Some (sym (ap (λ (r : Reply). r.state) p)))

pub item-stays : (line : State → Reply) (d : VolumeView) (a : DeviceAnswer) → IfSome d.held (λ es. line (state_with d es) ≡ stays a (state_with d es)) → (a ≡ StoreFault → ⊥) → IsItem line d d (Ok a)
item-stays line d a p n = (told-item line d.held d.held a (λ es. es) (state_with d) (state_with d) (option_map-same d.held) p, omega arith, refl, refl, n, refl)

pub item-over : (line : State → Reply) (old new : VolumeView) (h : List (Name × Stored) → List (Name × Stored)) → new ≡ over old h new.faults → old.faults ≤ new.faults → (a : DeviceAnswer)
    → IfSome old.held (λ es. line (state_with old es) ≡ record { answer = a; state = with_held (h es) (state_with old es) }) → (a ≡ StoreFault → ⊥) → IsItem line old new (Ok a)
item-over line old new h is later a p n = (
  told-item line old.held new.held a h (state_with old) (state_with new) (ap (λ (d : VolumeView). d.held) is) (told-map old.held (λ es e. e ∙ ap (λ (s : State). record { answer = a; state = s }) (sym (state-over line old new h is later (h es)))) p),
  later,
  ap (λ (d : VolumeView). d.rules) is,
  ap (λ (d : VolumeView). d.trash) is,
  n,
  ap (λ (d : VolumeView). d.tells_note) is,
)

-- the item is taken
told-taken : (line item : State → Reply) (old : VolumeView) (mid : VolumeView) (a : DeviceAnswer) (held : Option (List (Name × Stored))) (held' : Option (List (Name × Stored))) → mid.trash ≡ old.trash
    → IfSome held (λ es. line (state_with old es) ≡ taken (drop 1 old.trash) (item (state_with old es)))
    → IfSome (option_map (state_with old) held) (λ s. (a ≡ (item s).answer) × (option_map (state_with mid) held' ≡ Some (item s).state))
    → IfSome (option_map (state_with old) held) (λ s. IsToldLine line s (option_map (state_with (without_first mid)) held') (Ok a))
told-taken line item old mid a None held' t p q = tt
told-taken line item old mid a (Some es) held' t p q = inl (q.0 ∙ sym (ap (λ (r : Reply). r.answer) p), step held' q.1)
  where
    step : (h : Option (List (Name × Stored))) → option_map (state_with mid) h ≡ Some (item (state_with old es)).state → option_map (state_with (without_first mid)) h ≡ Some (line (state_with old es)).state
    step None e = cc e
    step (Some fs) e =
        ap (λ (o : Option State). option_map (with_trash (drop 1 mid.trash)) o) e ∙ ap (λ t. Some (with_trash (drop 1 t) (item (state_with old es)).state)) t ∙ ap Some (sym (ap (λ (r : Reply). r.state) p))

pub taken-line : (line item : State → Reply) (old mid new : VolumeView) (a : DeviceAnswer) → IsItem item old mid (Ok a) → new ≡ without_first mid
    → IfSome old.held (λ es. line (state_with old es) ≡ taken (drop 1 old.trash) (item (state_with old es))) → IsLine line old new (Ok a)
taken-line line item old mid new a i n p = subst (λ d. IsLine line old d (Ok a)) (sym n) (record { told = told-taken line item old mid a old.held mid.held i.3 p i.0; fault = λ e. absurd (i.4 e); kept = λ e. absurd (i.4 e); never_falls = i.1; rules = i.2; tells_note = i.5 })

-- ---- a line that goes on after a call that changed nothing
told-after-at : (line inner : State → Reply) (s : State) (o : Option State) (result : Result DeviceAnswer NoMemory) → line s ≡ inner s → IsToldLine inner s o result → IsToldLine line s o result
told-after-at line inner s o (Err x) e t = t
told-after-at line inner s o (Ok a) e t = elim t [
  | inl q ↦ inl (q.0 ∙ sym (ap (λ (r : Reply). r.answer) e), q.1 ∙ ap (λ (r : Reply). Some r.state) (sym e))
  | inr q ↦ inr q
]

told-after : (line inner : State → Reply) (held : Option (List (Name × Stored))) (w mw : List (Name × Stored) → State) (o : Option State) (result : Result DeviceAnswer NoMemory)
    → ((es : List (Name × Stored)) → mw es ≡ w es) → IfSome held (λ es. line (w es) ≡ inner (w es))
    → IfSome (option_map mw (option_map (λ es. es) held)) (λ s. IsToldLine inner s o result) → IfSome (option_map w held) (λ s. IsToldLine line s o result)
told-after line inner None w mw o result p e t = tt
told-after line inner (Some es) w mw o result p e t = told-after-at line inner (w es) o result e (subst (λ s. IsToldLine inner s o result) (p es) t)

fault-after : (a b c : ℕ) (result : Result DeviceAnswer NoMemory) → a ≤ b → HasFault b c result → HasFault a c result
fault-after a b c (Err x) le f = tt
fault-after a b c (Ok x) le f = λ e. let r : Rose b c = f e in omega (arith, r, le)

kept-after : (old mid new : VolumeView) (result : Result DeviceAnswer NoMemory) → mid ≡ over old (λ es. es) mid.faults → IsKept mid new result → IsKept old new result
kept-after old mid new (Err x) is k = over-over old mid new (λ es. es) is k
kept-after old mid new (Ok x) is k = λ e. over-over old mid new (λ es. es) is (k e)

pub after-line : (line inner : State → Reply) (old mid new : VolumeView) (result : Result DeviceAnswer NoMemory) → mid ≡ over old (λ es. es) mid.faults → old.faults ≤ mid.faults → IsLine inner mid new result
    → IfSome old.held (λ es. line (state_with old es) ≡ inner (state_with old es)) → IsLine line old new result
after-line line inner old mid new result is later i p = record {
  told = told-after line inner old.held (state_with old) (state_with mid) (state_of new) result (λ es. ap (λ d. state_with d es) is) p (subst (λ (o : Option (List (Name × Stored))). IfSome (option_map (state_with mid) o) (λ s. IsToldLine inner s (state_of new) result)) (ap (λ (d : VolumeView). d.held) is) i.told);
  fault = fault-after old.faults mid.faults new.faults result later i.fault;
  kept = kept-after old mid new result is i.kept;
  never_falls = omega (arith, later, i.never_falls);
  rules = i.rules ∙ ap (λ (d : VolumeView). d.rules) is;
  tells_note = i.tells_note ∙ ap (λ (d : VolumeView). d.tells_note) is;
}

pub anyway-at : (line : State → Reply) (s t : State) (a : DeviceAnswer) → line s ≡ record { answer = a; state = t } → IsToldLine line s (Some t) (Ok a)
anyway-at line s t a p = inl (sym (ap (λ (r : Reply). r.answer) p), ap (λ (r : Reply). Some r.state) (sym p))
