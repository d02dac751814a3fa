-- The world after a device or the table was asked: `after-device`, `kept-device`, `after-table`, `fault-rises`.
use Rattle.std.proofs.Common.{◌≡◌, ◌<◌, ℕ, Bool, true, false, ◌&&◌, if◌then◌else◌, List, length, get_or, set, Option, None, Some, option_map, IfSome, Result, Ok, Err, inl, inr, ◌⊎◌, refl, sym, ◌∙◌, ap, subst}
use Rattle.std.proofs.lemmas.List.{set-get_or}
use Rattle.keep_spec.specs.Causes.{Rose}
use Rattle.keep_spec.specs.Config.{Configuration}
use Rattle.keep_spec.specs.declared.memory.NoMemory.{NoMemory}
use Rattle.keep_event.specs.Device as devices
use Rattle.keep_event.specs.Device.{State, initial, step}
use Rattle.keep_event.specs.Table as tables
use Rattle.keep_event.specs.Requests.{table_line}
use Rattle.keep_event.specs.World.{World, device_rules, line, may_fault, asked}
use Rattle.keep_event.specs.Port.{IsWorldAfter, HasStoreFault}
use Rattle.keep_event.specs.declared.device.DeviceQuery.{DeviceQuery}
use Rattle.keep_event.specs.declared.device.DeviceAnswer.{DeviceAnswer}
use Rattle.keep_event.specs.declared.device.DeviceAnswer.TheVariants.{StoreFault}
use Rattle.keep_event.specs.declared.table.TableQuery.{TableQuery}
use Rattle.keep_event.specs.declared.table.TableAnswer.{TableAnswer}
use Rattle.keep_event.specs.declared.event.Query.TheVariants as Q
use Rattle.keep_event.specs.declared.event.Answer.TheVariants as An
use Rattle.keep_event.specs.declared.port.Reply.{Reply}
use Rattle.keep_event.specs.declared.port.PortError.TheVariants as E
use Rattle.keep_table.specs.Contents.{Contents, IsLine as IsTableLine}
use Rattle.keep_volume.specs.Calls.{VolumeView, state_of, IsLine, IsToldLine}
use Rattle.keep_cluster.specs.Cluster.{HasDevices, told_state, states_of, faults_at}
use Rattle.keep_cluster.specs.Asked.{IsAskedOf}
use Rattle.keep_cluster.proofs.Devices.{told-is, told-note, told-known, states-at, states-set, rules-at, fault-at, fault-set}

abbrev made : Configuration → tables.State → List State → World
made c t ss = record { config = c; devices = ss; table = t }

abbrev reply_of : ℕ → ℕ → DeviceAnswer → Reply
reply_of tick reading a = record { tick = tick; reading = reading; answer = An.Device a }

abbrev table_reply_of : ℕ → ℕ → TableAnswer → Reply
table_reply_of tick reading a = record { tick = tick; reading = reading; answer = An.Table a }

-- the states are those, or nothing is said
told : {A : Type 0} (f : List State → A) (o : Option (List State)) (P : A → Type 0) → ((ss : List State) → o ≡ Some ss → P (f ss)) → IfSome (option_map f o) P
told f None P h = tt
told f (Some ss) P h = h ss refl

module _ (c : Configuration) (t : tables.State) (ds new : List VolumeView) (device reading : ℕ) (query : DeviceQuery) (has : HasDevices c ds) (lt : device < length ds) where
  -- the state of the device that is asked
  before-is : (result : Result DeviceAnswer NoMemory) (ss : List State) → states_of ds ≡ Some ss → (a : IsAskedOf device reading query ds new result) → told_state a.before ≡ Some (get_or ss device initial)
  before-is result ss e a = subst (λ d. told_state d ≡ Some (get_or ss device initial)) (a.found a.before) (states-at ds ss device a.before e lt)

  rules-is : (result : Result DeviceAnswer NoMemory) (a : IsAskedOf device reading query ds new result) → a.before.rules ≡ device_rules c device
  rules-is result a = subst (λ d. d.rules ≡ device_rules c device) (a.found a.before) (rules-at c ds device a.before has lt)

  told-line : (result : Result DeviceAnswer NoMemory) (ss : List State) → states_of ds ≡ Some ss → (a : IsAskedOf device reading query ds new result)
      → IsToldLine (step (device_rules c device) reading query) (get_or ss device initial) (state_of a.after) result
  told-line result ss e a =
      subst (λ rules. IsToldLine (step rules reading query) (get_or ss device initial) (state_of a.after) result) (rules-is result a)
      (subst (λ o. IfSome o (λ s. IsToldLine (step a.before.rules reading query) s (state_of a.after) result)) (told-is a.before (get_or ss device initial) (before-is result ss e a)) a.line.told)

  new-is : (result : Result DeviceAnswer NoMemory) (ss : List State) (s : State) → states_of ds ≡ Some ss → (a : IsAskedOf device reading query ds new result) → state_of a.after ≡ Some s → states_of new ≡ Some (set ss device s)
  new-is result ss s e a is =
      let note : a.after.tells_note ≡ true = a.line.tells_note ∙ told-note a.before (get_or ss device initial) (before-is result ss e a) in
      ap states_of a.changed ∙ states-set ds ss device a.after s e lt (told-known a.after s note is)

  line-or-fault : (tick : ℕ) (answer : DeviceAnswer) (ss : List State) → states_of ds ≡ Some ss → (a : IsAskedOf device reading query ds new (Ok answer))
      → ((answer ≡ (step (device_rules c device) reading query (get_or ss device initial)).answer) × (state_of a.after ≡ Some (step (device_rules c device) reading query (get_or ss device initial)).state))
      ⊎ ((answer ≡ StoreFault) × (state_of a.after ≡ Some (get_or ss device initial)))
      → IsWorldAfter (made c t ss) (option_map (made c t) (states_of new)) (Q.Device device query) (Ok (reply_of tick reading answer))
  line-or-fault tick answer ss e a (inl h) = (false, (ap An.Device h.0, ap (option_map (made c t)) (new-is (Ok answer) ss _ e a h.1)))
  line-or-fault tick answer ss e a (inr h) =
      let may : devices.may_fault query ≡ true = a.may_fault (ap Ok h.0) in
      let reply : asked true reading (Q.Device device query) (made c t ss) ≡ record { answer = An.Device StoreFault; world = made c t ss } =
      ap (λ b. if b then record { answer = An.Device StoreFault; world = made c t ss } else line reading (Q.Device device query) (made c t ss)) may in (
        true,
        (
          ap An.Device h.0 ∙ sym (ap (λ r. r.answer) reply),
          ap (option_map (made c t)) (new-is (Ok answer) ss _ e a h.1 ∙ ap Some (set-get_or ss device initial)) ∙ ap (λ r. Some r.world) (sym reply),
        ),
      )

  -- the world after a device's answer
  pub after-device : (tick : ℕ) (answer : DeviceAnswer) → IsAskedOf device reading query ds new (Ok answer)
      → IfSome (option_map (made c t) (states_of ds)) (λ w. IsWorldAfter w (option_map (made c t) (states_of new)) (Q.Device device query) (Ok (reply_of tick reading answer)))
  after-device tick answer a = told (made c t) (states_of ds) _ (λ ss e. line-or-fault tick answer ss e a (told-line (Ok answer) ss e a))

  -- want of memory leaves it
  pub kept-device : (x : NoMemory) → IsAskedOf device reading query ds new (Err x)
      → IfSome (option_map (made c t) (states_of ds)) (λ w. IsWorldAfter w (option_map (made c t) (states_of new)) (Q.Device device query) (Err E.NoMemory))
  kept-device x a = told (made c t) (states_of ds) _ (λ ss e.
      ap (option_map (made c t)) (new-is (Err x) ss _ e a (told-line (Err x) ss e a) ∙ ap Some (set-get_or ss device initial)))

  -- the count of the device's store rose at a fault
  pub fault-rises : (tick : ℕ) (answer : DeviceAnswer) → IsAskedOf device reading query ds new (Ok answer)
      → HasStoreFault (faults_at ds) (faults_at new) (Q.Device device query) (Ok (reply_of tick reading answer))
  fault-rises tick answer a = λ e.
      subst (λ n. Rose n (faults_at new device)) (sym (fault-at ds device a.before lt a.found))
      (subst (Rose a.before.faults) (sym (ap (λ l. faults_at l device) a.changed ∙ fault-set ds device a.after lt)) (a.line.fault (cc e)))

-- the world after the table's answer
pub after-table : (c : Configuration) (old new : Contents) (ds : List VolumeView) (reading tick : ℕ) (query : TableQuery) (answer : TableAnswer) → IsTableLine (table_line c reading query old.state) old new (Ok answer)
    → IfSome (option_map (made c old.state) (states_of ds)) (λ w. IsWorldAfter w (option_map (made c new.state) (states_of ds)) (Q.Table query) (Ok (table_reply_of tick reading answer)))
after-table c old new ds reading tick query answer l = told (made c old.state) (states_of ds) _ (λ ss e.
    (false, (ap An.Table l.answered, ap (λ s. option_map (made c s) (states_of ds)) l.changed ∙ ap (option_map (made c (table_line c reading query old.state).state)) e)))
