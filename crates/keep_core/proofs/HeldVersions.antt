-- The versions as the code keeps them, collection by collection, are those of the definition: what an event changes (`rows-by`, `times-by`), and that what is kept stays right with each event (`knows-next`).
use Rattle.std.proofs.Common.{◌≡◌, ◌≤◌, ◌+◌, ℕ, List, [], ◌∷◌, ◌++◌, map, filter, length, Bool, true, false, cond, not, ◌&&◌, refl, sym, ◌∙◌, ap, subst, arith, Option, None, Some, is_none, nat_eq, eqb-true, if◌then◌else◌}
use Rattle.std.specs.Prelude.{nat_lt, ◌==◌}
use Rattle.std.specs.BTreeMap.{get, is_at}
use Rattle.std.specs.Map.{lookup}
use Rattle.std.specs.Ordering.{nat_cmp}
use Rattle.std.proofs.lemmas.Bool.{le-ltb, lt-ltb}
use Rattle.std.proofs.lemmas.List.{append-nil}
use Rattle.std.proofs.lemmas.List.Elements.{filter-append}
use Rattle.keep_spec.specs.Config.{Configuration}
use Rattle.keep_spec.specs.Times.{grace}
use Rattle.keep_event.specs.Requests.{digests_of}
use Rattle.keep_event.specs.declared.device.DeviceAnswer.{DeviceAnswer}
use Rattle.keep_event.specs.declared.table.TableQuery.{TableQuery}
use Rattle.keep_event.specs.declared.table.TableQuery.TheVariants as TQ
use Rattle.keep_event.specs.declared.table.TableAnswer.{TableAnswer}
use Rattle.keep_event.specs.declared.table.TableAnswer.TheVariants as T
use Rattle.keep_event.specs.declared.event.Event.{Event}
use Rattle.keep_event.specs.declared.event.Query.{Query}
use Rattle.keep_event.specs.declared.event.Query.TheVariants as Q
use Rattle.keep_event.specs.declared.event.Answer.{Answer}
use Rattle.keep_event.specs.declared.event.Answer.TheVariants as A
use Rattle.keep_core.specs.declared.held.Change.{Change}
use Rattle.keep_core.specs.declared.held.Change.TheVariants as C
use Rattle.keep_core.specs.declared.held.Held.{Held}
use Rattle.keep_safety.specs.declared.superseded.Superseded.{Superseded}
use Rattle.keep_core.specs.declared.held.Tracked.{Tracked}
use Rattle.keep_core.specs.declared.held.Version.{Version}
use Rattle.keep_safety.specs.Past.{Past}
use Rattle.keep_safety.specs.Rows.{Row, rows, delete_at, deleted_by, rows_after, superseded_by, stays_at_update, stays_at_sweep, is_past, is_over}
use Rattle.keep_core.specs.Seen.{version_of, superseded, stays, updated, new_version, with_made, change_of, last_sweep, swept_by, sweep_after, last_swept, passed, was_past, was_over, outlives_by, tracked_of, left, tracked_after, Tracks, IsKnown}

-- ---- what an event changes

abbrev pub left_at : Configuration → (ℕ → Option ℕ) → ℕ → Version → Bool
left_at c del reading v = outlives_by c (λ t. nat_lt t reading) (del v.collection) v.superseded

-- the versions after a change
abbrev pub versions_by : Configuration → (ℕ → Option ℕ) → ℕ → Change → List Version → List Version
versions_by c del reading C.Nothing vs = vs
versions_by c del reading (C.Timed collection at) vs = vs
versions_by c del reading (C.Made collection superseding named) vs = with_made c reading (new_version collection named) superseding vs
versions_by c del reading C.Swept vs = filter (left_at c del reading) vs

-- when a collection goes, after a change
abbrev pub time_after : ℕ → Change → Option ℕ → Option ℕ
time_after n C.Nothing before = before
time_after n (C.Timed collection at) before = if collection == n then at else before
time_after n (C.Made collection superseding named) before = before
time_after n C.Swept before = before

map-append : {X Y : Type 0} (f : X → Y) (xs ys : List X) → map f (xs ++ ys) ≡ map f xs ++ map f ys
map-append f [] ys = refl
map-append f (x ∷ xs) ys = ap (λ v. f x ∷ v) (map-append f xs ys)

-- a test that the versions pass as the rows do
filtered-by : (p : Row → Bool) (q : Version → Bool) (r : Row) (rs : List Row) (b c : Bool) → b ≡ c → map version_of (filter p rs) ≡ filter q (map version_of rs) → map version_of (cond b (r ∷ filter p rs) (filter p rs)) ≡ cond c (version_of r ∷ filter q (map version_of rs)) (filter q (map version_of rs))
filtered-by p q r rs true true e h = ap (λ v. version_of r ∷ v) h
filtered-by p q r rs true false e h = cc e
filtered-by p q r rs false true e h = cc e
filtered-by p q r rs false false e h = h

filtered : (p : Row → Bool) (q : Version → Bool) (rs : List Row) → ((r : Row) → p r ≡ q (version_of r)) → map version_of (filter p rs) ≡ filter q (map version_of rs)
filtered p q [] f = refl
filtered p q (r ∷ rs) f = filtered-by p q r rs (p r) (q (version_of r)) (f r) (filtered p q rs f)

changed : (f : Row → Row) (g : Version → Version) (rs : List Row) → ((r : Row) → version_of (f r) ≡ g (version_of r)) → map version_of (map f rs) ≡ map g (map version_of rs)
changed f g [] h = refl
changed f g (r ∷ rs) h = ap (λ v. v ∷ map version_of (map f rs)) (h r) ∙ ap (λ vs. g (version_of r) ∷ vs) (changed f g rs h)

chosen : (b : Bool) (x y : Row) → version_of (if b then x else y) ≡ (if b then version_of x else version_of y)
chosen true x y = refl
chosen false x y = refl

superseded-as : (number reading : ℕ) (preserve : Bool) (r : Row) → version_of (superseded_by number reading preserve r) ≡ superseded number reading preserve (version_of r)
superseded-as number reading preserve r = chosen (nat_eq r.number number && is_none r.superseded) (record { number = r.number; version = r.version; revision = r.revision; made = r.made; superseded = Some (record { at = reading; preserved = preserve }) }) r

past-as : (reading : ℕ) (at : Option ℕ) → is_past reading at ≡ was_past (λ t. nat_lt t reading) at
past-as reading None = refl
past-as reading (Some t) = refl

over-as : (c : Configuration) (reading : ℕ) (by : Option Superseded) → is_over c reading by ≡ was_over c (λ t. nat_lt t reading) by
over-as c reading None = refl
over-as c reading (Some s) = refl

module _ (c : Configuration) (past : Past) (reading : ℕ) where
  abbrev del : ℕ → Option ℕ
  del n = delete_at n past

  left-as : (r : Row) → stays_at_sweep c past reading r ≡ left_at c del reading (version_of r)
  left-as r = ap (λ b. not b && not (is_over c reading r.superseded)) (past-as reading (del r.number)) ∙ ap (λ b. not (was_past (λ t. nat_lt t reading) (del r.number)) && not b) (over-as c reading r.superseded)

  table-rows : (q : TableQuery) (a : TableAnswer) (rs : List Row) → map version_of (rows_after c past reading (Q.Table q) (A.Table a) rs) ≡ versions_by c del reading (change_of (Q.Table q) (A.Table a)) (map version_of rs)
  table-rows (TQ.Save request) (T.Saved number version portable) rs = map-append version_of rs _
  table-rows (TQ.Update collection preserve request) (T.Updated number version portable) rs =
      map-append version_of (map (superseded_by number reading preserve) (filter (stays_at_update c reading number) rs)) _
      ∙ ap (λ v. v ++ new_version number (digests_of request.text) ∷ []) (changed (superseded_by number reading preserve) (superseded number reading preserve) (filter (stays_at_update c reading number) rs) (superseded-as number reading preserve)
      ∙ ap (map (superseded number reading preserve)) (filtered (stays_at_update c reading number) (stays c reading number) rs (λ r. refl)))
  table-rows TQ.Sweep (T.Swept versions collections) rs = filtered (stays_at_sweep c past reading) (left_at c del reading) rs left-as
  table-rows (TQ.SetTrash token collection t d) (T.TrashSet trash_at delete) rs = refl
  table-rows (TQ.Restore token collection) T.Restored rs = refl
  table-rows q a rs = refl

  device-rows : (q : TableQuery) (a : DeviceAnswer) (rs : List Row) → map version_of (rows_after c past reading (Q.Table q) (A.Device a) rs) ≡ versions_by c del reading (change_of (Q.Table q) (A.Device a)) (map version_of rs)
  device-rows TQ.BeginRound a rs = refl
  device-rows (TQ.Save request) a rs = refl
  device-rows (TQ.Update collection preserve request) a rs = refl
  device-rows (TQ.Read token collection version) a rs = refl
  device-rows (TQ.SetTrash token collection t d) a rs = refl
  device-rows (TQ.Restore token collection) a rs = refl
  device-rows TQ.Sweep a rs = refl
  device-rows (TQ.Scan round after limit) a rs = refl

  pub rows-by : (q : Query) (a : Answer) (rs : List Row) → map version_of (rows_after c past reading q a rs) ≡ versions_by c del reading (change_of q a) (map version_of rs)
  rows-by (Q.Table q) (A.Table a) rs = table-rows q a rs
  rows-by (Q.Table q) (A.Device a) rs = device-rows q a rs
  rows-by (Q.Device n q) a rs = refl

table-times : (n : ℕ) (before : Option ℕ) (q : TableQuery) (a : TableAnswer) → deleted_by n (Q.Table q) (A.Table a) before ≡ time_after n (change_of (Q.Table q) (A.Table a)) before
table-times n before (TQ.Save request) (T.Saved number version portable) = refl
table-times n before (TQ.Update collection preserve request) (T.Updated number version portable) = refl
table-times n before TQ.Sweep (T.Swept versions collections) = refl
table-times n before (TQ.SetTrash token collection t d) (T.TrashSet trash_at delete) = refl
table-times n before (TQ.Restore token collection) T.Restored = refl
table-times n before q a = refl

device-times : (n : ℕ) (before : Option ℕ) (q : TableQuery) (a : DeviceAnswer) → deleted_by n (Q.Table q) (A.Device a) before ≡ time_after n (change_of (Q.Table q) (A.Device a)) before
device-times n before TQ.BeginRound a = refl
device-times n before (TQ.Save request) a = refl
device-times n before (TQ.Update collection preserve request) a = refl
device-times n before (TQ.Read token collection version) a = refl
device-times n before (TQ.SetTrash token collection t d) a = refl
device-times n before (TQ.Restore token collection) a = refl
device-times n before TQ.Sweep a = refl
device-times n before (TQ.Scan round after limit) a = refl

pub times-by : (n : ℕ) (before : Option ℕ) (q : Query) (a : Answer) → deleted_by n q a before ≡ time_after n (change_of q a) before
times-by n before (Q.Table q) (A.Table a) = table-times n before q a
times-by n before (Q.Table q) (A.Device a) = device-times n before q a
times-by n before (Q.Device d q) a = refl

-- ---- filtered lists

both-by : {X : Type 0} (p : X → Bool) (x : X) (ys zs : List X) (b : Bool) → filter p ys ≡ zs → filter p (cond b (x ∷ ys) ys) ≡ cond (b && p x) (x ∷ zs) zs
both-by p x ys zs true h = ap (λ v. cond (p x) (x ∷ v) v) h
both-by p x ys zs false h = h

pub both : {X : Type 0} (p q : X → Bool) (xs : List X) → filter p (filter q xs) ≡ filter (λ x. q x && p x) xs
both p q [] = refl
both p q (x ∷ xs) = both-by p x (filter q xs) (filter (λ x. q x && p x) xs) (q x) (both p q xs)

pub alike : {X : Type 0} (p q : X → Bool) (xs : List X) → ((x : X) → p x ≡ q x) → filter p xs ≡ filter q xs
alike p q [] h = refl
alike p q (x ∷ xs) h = ap (λ b. cond b (x ∷ filter p xs) (filter p xs)) (h x) ∙ ap (λ v. cond (q x) (x ∷ v) v) (alike p q xs h)

pub all-pass : {X : Type 0} (p : X → Bool) (xs : List X) → ((x : X) → p x ≡ true) → filter p xs ≡ xs
all-pass p [] h = refl
all-pass p (x ∷ xs) h = ap (λ b. cond b (x ∷ filter p xs) (filter p xs)) (h x) ∙ ap (λ v. x ∷ v) (all-pass p xs h)

-- ---- the versions of one collection

abbrev pub is_of : ℕ → Version → Bool
is_of n v = nat_eq v.collection n

same-number : (number reading : ℕ) (preserve : Bool) (n : ℕ) (v : Version) (b : Bool) → is_of n (if b then (record { collection = v.collection; superseded = Some (record { at = reading; preserved = preserve }); named = v.named }) else v) ≡ is_of n v
same-number number reading preserve n v true = refl
same-number number reading preserve n v false = refl

module _ (c : Configuration) (reading : ℕ) (preserve : Bool) where
  -- another collection's update changes nothing of it
  other-gone : (number n : ℕ) (v : Version) (vs ws : List Version) (t : Bool) → is_of n v ≡ false → filter (is_of n) (map (superseded number reading preserve) vs) ≡ ws → filter (is_of n) (map (superseded number reading preserve) (cond t (v ∷ vs) vs)) ≡ ws
  other-gone number n v vs ws true off h =
      ap (λ b. cond b (superseded number reading preserve v ∷ filter (is_of n) (map (superseded number reading preserve) vs)) (filter (is_of n) (map (superseded number reading preserve) vs))) (same-number number reading preserve n v (nat_eq v.collection number && is_none v.superseded) ∙ off) ∙ h
  other-gone number n v vs ws false off h = h

  other-one : (number n : ℕ) (v : Version) (vs ws : List Version) (b : Bool) → nat_eq v.collection number ≡ b → nat_eq number n ≡ false → filter (is_of n) (updated c reading number preserve vs) ≡ ws → filter (is_of n) (updated c reading number preserve (v ∷ vs)) ≡ cond (is_of n v) (v ∷ ws) ws
  other-one number n v vs ws true e ne h =
      let off : is_of n v ≡ false = ap (λ m. nat_eq m n) (eqb-true v.collection number e) ∙ ne in
      other-gone number n v (filter (stays c reading number) vs) ws (stays c reading number v) off h ∙ sym (ap (λ b. cond b (v ∷ ws) ws) off)
  other-one number n v vs ws false e ne h = rw (e, e) (ap (λ x. cond (is_of n v) (v ∷ x) x) h)

  others : (number n : ℕ) (vs : List Version) → nat_eq number n ≡ false → filter (is_of n) (updated c reading number preserve vs) ≡ filter (is_of n) vs
  others number n [] ne = refl
  others number n (v ∷ vs) ne = other-one number n v vs (filter (is_of n) vs) (nat_eq v.collection number) refl ne (others number n vs ne)

  -- its own update changes its versions alone
  own-kept : (n : ℕ) (v : Version) (vs ws : List Version) (t : Bool) → is_of n v ≡ true → filter (is_of n) (map (superseded n reading preserve) vs) ≡ map (superseded n reading preserve) ws → filter (is_of n) (map (superseded n reading preserve) (cond t (v ∷ vs) vs)) ≡ map (superseded n reading preserve) (cond t (v ∷ ws) ws)
  own-kept n v vs ws true on h =
      ap (λ b. cond b (superseded n reading preserve v ∷ filter (is_of n) (map (superseded n reading preserve) vs)) (filter (is_of n) (map (superseded n reading preserve) vs))) (same-number n reading preserve n v (nat_eq v.collection n && is_none v.superseded) ∙ on)
      ∙ ap (λ x. superseded n reading preserve v ∷ x) h
  own-kept n v vs ws false on h = h

  own-one : (n : ℕ) (v : Version) (vs ws : List Version) (b : Bool) → is_of n v ≡ b → filter (is_of n) (updated c reading n preserve vs) ≡ updated c reading n preserve ws → filter (is_of n) (updated c reading n preserve (v ∷ vs)) ≡ updated c reading n preserve (cond b (v ∷ ws) ws)
  own-one n v vs ws true e h = own-kept n v (filter (stays c reading n) vs) (filter (stays c reading n) ws) (stays c reading n v) e h
  own-one n v vs ws false e h = rw (e, e, e) h

  own : (n : ℕ) (vs : List Version) → filter (is_of n) (updated c reading n preserve vs) ≡ updated c reading n preserve (filter (is_of n) vs)
  own n [] = refl
  own n (v ∷ vs) = own-one n v vs (filter (is_of n) vs) (is_of n v) refl (own n vs)

-- a new version of the collection, or of another
pushed : (n : ℕ) (vs : List Version) (new : Version) (b : Bool) → is_of n new ≡ b → filter (is_of n) (vs ++ new ∷ []) ≡ filter (is_of n) vs ++ cond b (new ∷ []) []
pushed n vs new b e = filter-append (is_of n) vs (new ∷ []) ∙ ap (λ b. filter (is_of n) vs ++ cond b (new ∷ []) []) e

made-other : (c : Configuration) (reading n : ℕ) (new : Version) (superseding : Option Bool) (vs : List Version) → is_of n new ≡ false → filter (is_of n) (with_made c reading new superseding vs) ≡ filter (is_of n) vs
made-other c reading n new None vs off = pushed n vs new false off ∙ append-nil (filter (is_of n) vs)
made-other c reading n new (Some p) vs off = pushed n (updated c reading new.collection p vs) new false off ∙ append-nil (filter (is_of n) (updated c reading new.collection p vs)) ∙ others c reading p new.collection n vs off

made-own : (c : Configuration) (reading : ℕ) (new : Version) (superseding : Option Bool) (vs : List Version) → is_of new.collection new ≡ true → filter (is_of new.collection) (with_made c reading new superseding vs) ≡ with_made c reading new superseding (filter (is_of new.collection) vs)
made-own c reading new None vs on = pushed new.collection vs new true on
made-own c reading new (Some p) vs on = pushed new.collection (updated c reading new.collection p vs) new true on ∙ ap (λ x. x ++ new ∷ []) (own c reading p new.collection vs)

-- ---- sweeps

-- off sweep comes after all events
none-passed : (last : ℕ → ℕ) (events : ℕ) (t : ℕ) → last t ≤ events → passed events last t ≡ false
none-passed last events t le = le-ltb events (last t) le

never-past : (passes : ℕ → Bool) (at : Option ℕ) → ((t : ℕ) → passes t ≡ false) → was_past passes at ≡ false
never-past passes None h = refl
never-past passes (Some t) h = h t

and-false : (b : Bool) → (b && false) ≡ false
and-false true = refl
and-false false = refl

never-over : (c : Configuration) (passes : ℕ → Bool) (by : Option Superseded) → ((t : ℕ) → passes t ≡ false) → was_over c passes by ≡ false
never-over c passes None h = refl
never-over c passes (Some s) h = ap (λ b. not s.preserved && b) (h (s.at + grace c.ttl c.skew)) ∙ and-false (not s.preserved)

stays-on : (c : Configuration) (passes : ℕ → Bool) (at : Option ℕ) (by : Option Superseded) → ((t : ℕ) → passes t ≡ false) → outlives_by c passes at by ≡ true
stays-on c passes at by h = ap (λ b. not b && not (was_over c passes by)) (never-past passes at h) ∙ ap not (never-over c passes by h)

-- what was looked at after all sweeps
fresh : (c : Configuration) (last : ℕ → ℕ) (k : Tracked) → ((t : ℕ) → last t ≤ k.events) → left c last k ≡ k.versions
fresh c last k le = all-pass (λ v. outlives_by c (passed k.events last) k.delete_at v.superseded) k.versions (λ v. stays-on c (passed k.events last) k.delete_at v.superseded (λ t. none-passed last k.events t (le t)))

-- one sweep more, in the tests
or-not : (a b : Bool) → not (if a then true else b) ≡ (not b && not a)
or-not true true = refl
or-not true false = refl
or-not false true = refl
or-not false false = refl

swept-passed : (events count reading t before : ℕ) (b : Bool) → events ≤ count → nat_lt t reading ≡ b → nat_lt events (cond b (count + 1) before) ≡ (if b then true else nat_lt events before)
swept-passed events count reading t before true le e = lt-ltb events (count + 1) (omega arith)
swept-passed events count reading t before false le e = refl

past-both : (one two more : ℕ → Bool) (at : Option ℕ) → ((t : ℕ) → more t ≡ (if one t then true else two t)) → not (was_past more at) ≡ (not (was_past two at) && not (was_past one at))
past-both one two more None h = refl
past-both one two more (Some t) h = ap not (h t) ∙ or-not (one t) (two t)

over-one : (p a b : Bool) → not (p && (if a then true else b)) ≡ (not (p && b) && not (p && a))
over-one true true true = refl
over-one true true false = refl
over-one true false true = refl
over-one true false false = refl
over-one false a b = refl

over-both : (c : Configuration) (one two more : ℕ → Bool) (by : Option Superseded) → ((t : ℕ) → more t ≡ (if one t then true else two t)) → not (was_over c more by) ≡ (not (was_over c two by) && not (was_over c one by))
over-both c one two more None h = refl
over-both c one two more (Some s) h = ap (λ b. not (not s.preserved && b)) (h (s.at + grace c.ttl c.skew)) ∙ over-one (not s.preserved) (one (s.at + grace c.ttl c.skew)) (two (s.at + grace c.ttl c.skew))

four : (a b x y : Bool) → ((a && b) && (x && y)) ≡ ((a && x) && (b && y))
four true b true y = refl
four true true false y = refl
four true false false y = refl
four false b x y = refl

outlives-both : (c : Configuration) (one two more : ℕ → Bool) (at : Option ℕ) (by : Option Superseded) → ((t : ℕ) → more t ≡ (if one t then true else two t)) → outlives_by c more at by ≡ (outlives_by c two at by && outlives_by c one at by)
outlives-both c one two more at by h =
    ap (λ b. b && not (was_over c more by)) (past-both one two more at h)
    ∙ ap (λ b. (not (was_past two at) && not (was_past one at)) && b) (over-both c one two more by h)
    ∙ four (not (was_past two at)) (not (was_past one at)) (not (was_over c two by)) (not (was_over c one by))

swap-by : (a b b' : Bool) → (a ≡ true → b ≡ b') → (b && a) ≡ (a && b')
swap-by true true b' h = h refl
swap-by true false b' h = h refl
swap-by false true b' h = refl
swap-by false false b' h = refl

-- a sweep, of one collection
swept-own : (c : Configuration) (del : ℕ → Option ℕ) (reading n : ℕ) (d : Option ℕ) (vs : List Version) → del n ≡ d → filter (is_of n) (filter (left_at c del reading) vs) ≡ filter (λ v. outlives_by c (λ t. nat_lt t reading) d v.superseded) (filter (is_of n) vs)
swept-own c del reading n d vs e =
    both (is_of n) (left_at c del reading) vs
    ∙ alike (λ v. left_at c del reading v && is_of n v) (λ v. is_of n v && outlives_by c (λ t. nat_lt t reading) d v.superseded) vs
    (λ v. swap-by (is_of n v) (left_at c del reading v) (outlives_by c (λ t. nat_lt t reading) d v.superseded)
    (λ is. ap (λ at. outlives_by c (λ t. nat_lt t reading) at v.superseded) (ap del (eqb-true v.collection n is) ∙ e)))
    ∙ sym (both (λ v. outlives_by c (λ t. nat_lt t reading) d v.superseded) (is_of n) vs)

-- ---- an event more

-- what is kept of a collection is right, by the latest sweeps
pub record Right (c : Configuration) (n : ℕ) (vs : List Version) (d : Option ℕ) (last : ℕ → ℕ) (count : ℕ) (k : Tracked) : Type 0 where
  pub held : filter (is_of n) vs ≡ left c last k
  pub times : k.delete_at ≡ d
  pub before : k.events ≤ count

module _ (c : Configuration) (n : ℕ) (vs : List Version) (d : Option ℕ) (last : ℕ → ℕ) (count : ℕ) (k : Tracked) (r : Right c n vs d last count k) (low : (t : ℕ) → last t ≤ count) (reading : ℕ) (del : ℕ → Option ℕ) (same : del n ≡ d) where
  stays-right : Right c n vs d last (count + 1) k
  stays-right = let h = r.before in record { held = r.held; times = r.times; before = omega arith }

  higher : (t : ℕ) → last t ≤ count + 1
  higher t = let h = low t in omega arith

  timed-by : (collection : ℕ) (at : Option ℕ) (b : Bool) → Right c n vs (cond b at d) last (count + 1) (cond b (record { versions = left c last k; events = count + 1; delete_at = at }) k)
  timed-by collection at true = record {
    held = r.held ∙ sym (fresh c last (record { versions = left c last k; events = count + 1; delete_at = at }) higher);
    times = refl;
    before = omega arith;
  }
  timed-by collection at false = stays-right

  made-by : (collection : ℕ) (superseding : Option Bool) (named : List (List ℕ)) (b : Bool) → nat_eq collection n ≡ b →
      Right c n (with_made c reading (new_version collection named) superseding vs) d last (count + 1) (cond b (record { versions = with_made c reading (new_version collection named) superseding (left c last k); events = count + 1; delete_at = k.delete_at }) k)
  made-by collection superseding named true e = record {
    held =
        let is = eqb-true collection n e in
        let own : filter (is_of collection) (with_made c reading (new_version collection named) superseding vs) ≡ with_made c reading (new_version collection named) superseding (filter (is_of collection) vs) = made-own c reading (new_version collection named) superseding vs (subst (λ m. nat_eq collection m ≡ true) (sym is) e) in
        subst (λ m. filter (is_of m) (with_made c reading (new_version collection named) superseding vs) ≡ with_made c reading (new_version collection named) superseding (filter (is_of m) vs)) is own
        ∙ ap (with_made c reading (new_version collection named) superseding) r.held
        ∙ sym (fresh c last (record { versions = with_made c reading (new_version collection named) superseding (left c last k); events = count + 1; delete_at = k.delete_at }) higher);
    times = r.times;
    before = omega arith;
  }
  made-by collection superseding named false e = let h = r.before in record {
    held = made-other c reading n (new_version collection named) superseding vs e ∙ r.held;
    times = r.times;
    before = omega arith;
  }

  swept-right : Right c n (filter (left_at c del reading) vs) d (λ t. swept_by reading (count + 1) t (last t)) (count + 1) k
  swept-right = let h = r.before in record {
    held =
        swept-own c del reading n d vs same
        ∙ ap (filter (λ v. outlives_by c (λ t. nat_lt t reading) d v.superseded)) r.held
        ∙ ap (λ at. filter (λ v. outlives_by c (λ t. nat_lt t reading) at v.superseded) (left c last k)) (sym r.times)
        ∙ both (λ v. outlives_by c (λ t. nat_lt t reading) k.delete_at v.superseded) (λ v. outlives_by c (passed k.events last) k.delete_at v.superseded) k.versions
        ∙ sym (alike (λ v. outlives_by c (passed k.events (λ t. swept_by reading (count + 1) t (last t))) k.delete_at v.superseded) (λ v. outlives_by c (passed k.events last) k.delete_at v.superseded && outlives_by c (λ t. nat_lt t reading) k.delete_at v.superseded) k.versions
        (λ v. outlives-both c (λ t. nat_lt t reading) (passed k.events last) (passed k.events (λ t. swept_by reading (count + 1) t (last t))) k.delete_at v.superseded (λ t. swept-passed k.events count reading t (last t) (nat_lt t reading) h refl)));
    times = r.times;
    before = omega arith;
  }

  pub right-next : (change : Change) → Right c n (versions_by c del reading change vs) (time_after n change d) (λ t. sweep_after change reading (count + 1) t (last t)) (count + 1) (tracked_after c last reading (count + 1) change n k)
  right-next C.Nothing = stays-right
  right-next (C.Timed collection at) = timed-by collection at (nat_eq collection n)
  right-next (C.Made collection superseding named) = made-by collection superseding named (nat_eq collection n) refl
  right-next C.Swept = swept-right

-- ---- all collections

low-by : (change : Change) (reading count t before : ℕ) → before ≤ count → sweep_after change reading (count + 1) t before ≤ count + 1
low-by C.Nothing reading count t before le = omega arith
low-by (C.Timed collection at) reading count t before le = omega arith
low-by (C.Made collection superseding named) reading count t before le = omega arith
low-by C.Swept reading count t before le = at-most (nat_lt t reading)
  where
    at-most : (b : Bool) → cond b (count + 1) before ≤ count + 1
    at-most true = omega arith
    at-most false = omega arith

pub swept-low : (past : Past) (t : ℕ) → last_swept t past ≤ length past
swept-low [] t = omega arith
swept-low (e ∷ past) t = let h = low-by (change_of e.query e.answer) e.reading (length past) t (last_swept t past) (swept-low past t) in omega (arith, h)

pub tracks-right : (c : Configuration) (past : Past) (n : ℕ) (k : Tracked) → Tracks c past n k → Right c n (map version_of (rows c past)) (delete_at n past) (λ t. last_swept t past) (length past) k
tracks-right c past n k h = record { held = h.held; times = h.times; before = h.before }

pub tracks-next : (c : Configuration) (past : Past) (e : Event) (n : ℕ) (k : Tracked) → Tracks c past n k → Tracks c (e ∷ past) n (tracked_after c (λ t. last_swept t past) e.reading (length past + 1) (change_of e.query e.answer) n k)
tracks-next c past e n k h =
    let r = right-next c n (map version_of (rows c past)) (delete_at n past) (λ t. last_swept t past) (length past) k (tracks-right c past n k h) (swept-low past) e.reading (λ m. delete_at m past) refl (change_of e.query e.answer) in
    record {
      held = ap (filter (is_of n)) (rows-by c past e.reading e.query e.answer (rows c past)) ∙ r.held;
      times = r.times ∙ sym (times-by n (delete_at n past) e.query e.answer);
      before = let b = r.before in omega (arith, b);
    }

pub left-alike : (c : Configuration) (last other : ℕ → ℕ) (k : Tracked) → ((t : ℕ) → last t ≡ other t) → left c last k ≡ left c other k
left-alike c last other k h = alike (λ v. outlives_by c (passed k.events last) k.delete_at v.superseded) (λ v. outlives_by c (passed k.events other) k.delete_at v.superseded) k.versions (λ v. outlives-alike k.delete_at v.superseded)
  where
    past-alike : (at : Option ℕ) → was_past (passed k.events last) at ≡ was_past (passed k.events other) at
    past-alike None = refl
    past-alike (Some t) = ap (nat_lt k.events) (h t)

    over-alike : (by : Option Superseded) → was_over c (passed k.events last) by ≡ was_over c (passed k.events other) by
    over-alike None = refl
    over-alike (Some s) = ap (λ m. not s.preserved && nat_lt k.events m) (h (s.at + grace c.ttl c.skew))

    outlives-alike : (at : Option ℕ) (by : Option Superseded) → outlives_by c (passed k.events last) at by ≡ outlives_by c (passed k.events other) at by
    outlives-alike at by = ap (λ b. not b && not (was_over c (passed k.events last) by)) (past-alike at) ∙ ap (λ b. not (was_past (passed k.events other) at) && not b) (over-alike by)

pub after-alike : (c : Configuration) (last other : ℕ → ℕ) (reading events : ℕ) (change : Change) (n : ℕ) (k : Tracked) → ((t : ℕ) → last t ≡ other t) → tracked_after c last reading events change n k ≡ tracked_after c other reading events change n k
after-alike c last other reading events C.Nothing n k h = refl
after-alike c last other reading events C.Swept n k h = refl
after-alike c last other reading events (C.Timed collection at) n k h = ap (λ vs. if nat_eq collection n then (record { versions = vs; events = events; delete_at = at }) else k) (left-alike c last other k h)
after-alike c last other reading events (C.Made collection superseding named) n k h = ap (λ vs. if nat_eq collection n then (record { versions = with_made c reading (new_version collection named) superseding vs; events = events; delete_at = k.delete_at }) else k) (left-alike c last other k h)

pub knows-none : (c : Configuration) (h : Held) → h.collections.entries ≡ [] → h.sweeps.entries ≡ [] → IsKnown c [] h
knows-none c h none no_sweeps = record {
  tracked = λ n. subst (λ es. Tracks c [] n (tracked_of (lookup (is_at (nat_cmp n)) es))) (sym none) (record { held = refl; times = refl; before = omega arith });
  sweeps = λ t. ap (last_sweep t) no_sweeps;
}

-- what is kept stays right with an event
pub knows-next : (c : Configuration) (past : Past) (e : Event) (old new : Held) (events : ℕ) (change : Change) → IsKnown c past old → events ≡ length past + 1 → change ≡ change_of e.query e.answer →
    ((n : ℕ) → tracked_of (get nat_cmp new.collections n) ≡ tracked_after c (λ t. last_sweep t old.sweeps.entries) e.reading events change n (tracked_of (get nat_cmp old.collections n))) →
    ((t : ℕ) → last_sweep t new.sweeps.entries ≡ sweep_after change e.reading events t (last_sweep t old.sweeps.entries)) → IsKnown c (e ∷ past) new
knows-next c past e old new events change known is which tracked sweeps = record {
  tracked = λ n. subst (λ k. Tracks c (e ∷ past) n k) (sym (
      tracked n
      ∙ after-alike c (λ t. last_sweep t old.sweeps.entries) (λ t. last_swept t past) e.reading events change n (tracked_of (get nat_cmp old.collections n)) known.sweeps
      ∙ ap (λ m. tracked_after c (λ t. last_swept t past) e.reading m change n (tracked_of (get nat_cmp old.collections n))) is
      ∙ ap (λ ch. tracked_after c (λ t. last_swept t past) e.reading (length past + 1) ch n (tracked_of (get nat_cmp old.collections n))) which)) (tracks-next c past e n (tracked_of (get nat_cmp old.collections n)) (known.tracked n));
  sweeps = λ t. sweeps t ∙ ap (sweep_after change e.reading events t) (known.sweeps t)
      ∙ ap (λ m. sweep_after change e.reading m t (last_swept t past)) is ∙ ap (λ ch. sweep_after ch e.reading (length past + 1) t (last_swept t past)) which;
}
