-- One event: the machines answer no fault of a store (`line-no-fault`), so that an event's answer tells whether it failed (`event-is`).
use Rattle.std.proofs.Common.{◌≡◌, ℕ, ◌+◌, Bool, true, false, List, [], ◌∷◌, Option, None, Some, refl, ◌∙◌, ap, max}
use Rattle.std.specs.Prelude.{◌&&◌, ◌==◌, nat_lt, if◌then◌else◌}
use Rattle.std.specs.Str.{bytes_eq}
use Rattle.md5.specs.Md5.{md5}
use Rattle.keep_spec.specs.Times.{grace}
use Rattle.keep_event.specs.Device as machine
use Rattle.keep_event.specs.Device.{State, Reply}
use Rattle.keep_event.specs.World as world
use Rattle.keep_event.specs.World.{World, asked, line, may_fault}
use Rattle.keep_event.specs.declared.names.Name.{Name}
use Rattle.keep_event.specs.declared.names.Stored.{Stored}
use Rattle.keep_event.specs.declared.lists.TrashItem.{TrashItem}
use Rattle.keep_event.specs.declared.lists.PullItem.{PullItem}
use Rattle.keep_event.specs.declared.device.DeviceRules.{DeviceRules}
use Rattle.keep_event.specs.declared.device.DeviceAnswer.TheVariants as A
use Rattle.keep_event.specs.declared.device.DeviceQuery.{DeviceQuery}
use Rattle.keep_event.specs.declared.device.DeviceQuery.TheVariants as D
use Rattle.keep_event.specs.declared.event.Query.{Query}
use Rattle.keep_event.specs.declared.event.Query.TheVariants as Q
use Rattle.keep_event.specs.declared.event.Answer.TheVariants as An
use Rattle.keep_history.specs.Effects.{Made, event_of, is_failed}
use Rattle.keep_history.specs.Tasks.{is_fault}

abbrev NoFault : Reply → Type 0
NoFault r = is_fault (An.Device r.answer) ≡ false

either : (b : Bool) (x y : Reply) → NoFault x → NoFault y → NoFault (if b then x else y)
either true x y h k = h
either false x y h k = k

other-no : (bytes held : List ℕ) (s : State) → NoFault (machine.stays (machine.other_answer bytes held) s)
other-no bytes held s = by (bytes_eq (md5 held) (md5 bytes))
  where
    by : (b : Bool) → is_fault (An.Device (if b then A.Collision else A.Corrupt (md5 held))) ≡ false
    by true = refl
    by false = refl

compared-no : (bytes : List ℕ) (reading : ℕ) (s : State) (o : Option Stored) → NoFault (machine.compared bytes reading s o)
compared-no bytes reading s None = refl
compared-no bytes reading s (Some r) = either (bytes_eq r.bytes bytes) _ _ refl (other-no bytes r.bytes s)

placed-no : (rules : DeviceRules) (bytes : List ℕ) (mtime : ℕ) (s : State) → NoFault (machine.placed rules bytes mtime s)
placed-no rules bytes mtime s = either (nat_lt rules.capacity _) _ _ refl refl

written-no : (rules : DeviceRules) (bytes : List ℕ) (reading : ℕ) (s : State) (o : Option Stored) → NoFault (machine.written rules bytes reading s o)
written-no rules bytes reading s None = placed-no rules bytes reading s
written-no rules bytes reading s (Some r) =
    either (bytes_eq r.bytes bytes) _ _ refl (either (bytes_eq (md5 r.bytes) (md5 bytes)) _ _ refl (placed-no rules bytes (max r.mtime reading) s))

fetched-no : (digest : List ℕ) (s : State) (o : Option Stored) → NoFault (machine.fetched digest s o)
fetched-no digest s None = refl
fetched-no digest s (Some r) = either (bytes_eq (md5 r.bytes) digest) _ _ refl refl

touched-no : (digest : List ℕ) (reading : ℕ) (s : State) (o : Option Stored) → NoFault (machine.touched digest reading s o)
touched-no digest reading s None = refl
touched-no digest reading s (Some r) = refl

trashed-no : (rules : DeviceRules) (item : TrashItem) (reading : ℕ) (s : State) (o : Option Stored) → NoFault (machine.trashed rules item reading s o)
trashed-no rules item reading s None = refl
trashed-no rules item reading s (Some r) = either (r.mtime == item.mtime) _ _ (either (nat_lt (r.mtime + grace rules.ttl rules.skew) reading) _ _ refl refl) refl

trash-item-no : (rules : DeviceRules) (item : TrashItem) (reading : ℕ) (s : State) → NoFault (machine.trash_item rules item reading s)
unfolding machine.trash_item
trash-item-no rules item reading s = either rules.read_only _ _ refl (trashed-no rules item reading s (machine.replica_of item.digest s))

trash-first-no : (rules : DeviceRules) (reading : ℕ) (s : State) (items : List TrashItem) → NoFault (machine.trash_first rules reading s items)
trash-first-no rules reading s [] = refl
trash-first-no rules reading s (item ∷ rest) = trash-item-no rules item reading s

pull-first-no : (s : State) (items : List PullItem) → NoFault (machine.pull_first s items)
pull-first-no s [] = refl
pull-first-no s (item ∷ rest) = refl

back-no : (digest : List ℕ) (reading : ℕ) (s : State) (o : Option (Name × Stored)) → NoFault (machine.back digest reading s o)
back-no digest reading s None = refl
back-no digest reading s (Some e) = refl

brought-no : (digest : List ℕ) (reading : ℕ) (s : State) (o : Option Stored) → NoFault (machine.brought_back digest reading s o)
brought-no digest reading s None = back-no digest reading s (machine.last_copy digest s.held)
brought-no digest reading s (Some r) = refl

emptied-no : (s : State) (o : Option (Name × Stored)) → NoFault (machine.emptied s o)
emptied-no s None = refl
emptied-no s (Some e) = refl

step-no : (rules : DeviceRules) (reading : ℕ) (query : DeviceQuery) (s : State) → NoFault (machine.step rules reading query s)
unfolding machine.compare_touch machine.write machine.fetch machine.touch machine.clear machine.accept machine.page machine.trash_next machine.pull_next machine.untrash machine.empty_next machine.restart
step-no rules reading (D.CompareTouch block token) s = either rules.read_only _ _ refl (compared-no block reading s (machine.replica_of (md5 block) s))
step-no rules reading (D.Write block token) s = either rules.read_only _ _ refl (written-no rules block reading s (machine.replica_of (md5 block) s))
step-no rules reading (D.Fetch digest) s = fetched-no digest s (machine.replica_of digest s)
step-no rules reading (D.Touch digest token) s = either rules.read_only _ _ refl (touched-no digest reading s (machine.replica_of digest s))
step-no rules reading (D.Clear round) s = either (nat_lt round s.round) _ _ refl refl
step-no rules reading (D.Accept round lists) s = either (round == s.round) _ _ refl refl
step-no rules reading (D.Page round prefix) s = either (round == s.round) _ _ refl refl
step-no rules reading D.TrashNext s = trash-first-no rules reading s s.trash
step-no rules reading D.PullNext s = pull-first-no s s.pull
step-no rules reading (D.Untrash digest) s = either rules.read_only _ _ refl (brought-no digest reading s (machine.replica_of digest s))
step-no rules reading D.EmptyNext s = either rules.read_only _ _ refl (emptied-no s _)
step-no rules reading D.Restart s = refl

-- a line of the machines is no fault of a store
pub line-no-fault : (reading : ℕ) (query : Query) (w : World) → is_fault (line reading query w).answer ≡ false
line-no-fault reading (Q.Device device query) w = step-no (world.device_rules w.config device) reading query (world.device_state device w)
line-no-fault reading (Q.Table query) w = refl

asked-by : (fails may b : Bool) (fault by_line : world.Reply) → is_fault fault.answer ≡ true → is_fault by_line.answer ≡ false → b ≡ is_fault (if fails && may then fault else by_line).answer → (if b && may then fault else by_line) ≡ (if fails && may then fault else by_line)
asked-by true true true fault by_line f l e = refl
asked-by true true false fault by_line f l e = absurd (false-true (e ∙ f))
  where
    false-true : false ≡ true → ⊥
    false-true e = cc
asked-by true false true fault by_line f l e = refl
asked-by true false false fault by_line f l e = refl
asked-by false may true fault by_line f l e = absurd (true-false (e ∙ l))
  where
    true-false : true ≡ false → ⊥
    true-false e = cc
asked-by false may false fault by_line f l e = refl

abbrev pub made_with : ℕ → ℕ → ℕ → Query → world.Reply → Made
made_with reading actor n query reply = record { event = record { tick = n; reading = reading; actor = actor; query = query; answer = reply.answer }; left = reply.world }

-- with a list that has an event just where it was answered StoreFault, the event is what was answered and left
pub event-is : (failed : List ℕ) (fails : Bool) (reading actor n : ℕ) (query : Query) (w : World) → is_failed failed n ≡ is_fault (asked fails reading query w).answer → event_of failed reading actor n query w ≡ made_with reading actor n query (asked fails reading query w)
event-is failed fails reading actor n query w e =
    ap (made_with reading actor n query) (asked-by fails (may_fault query) (is_failed failed n) (world.stays (An.Device A.StoreFault) w) (line reading query w) refl (line-no-fault reading query w) e)
