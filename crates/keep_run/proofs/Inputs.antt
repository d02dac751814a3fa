-- The run of a whole input over all stores, from what its lines did: `start-world`, `ran-lines`, `ran-refused`; and where no line is done `ran-none`, `ran-error`, `ran-unread`; `well-ran` of each run.
use Rattle.std.proofs.Common.{◌≡◌, ℕ, zero, suc, ◌+◌, ◌<◌, ◌≤◌, true, List, [], ◌∷◌, ◌++◌, length, Option, None, Some, Ok, Err, ◌⊎◌, inl, inr, refl, sym, ◌∙◌, ap, subst, arith, append_assoc}
use Rattle.std.specs.Prelude.{◌==◌, map, take, drop, option_map}
use Rattle.std.specs.Option.{option_map_or}
use Rattle.std.proofs.lemmas.Bool.{and_parts, eqb-true}
use Rattle.std.proofs.lemmas.List.{length-append, length-map, length-drop}
use Rattle.keep_base.specs.Lines.{IsNext}
use Rattle.std.proofs.KnownBytes.{Appends-kept, Appends-nil}
use Rattle.std.specs.Io.KnownBytes.{Appends, prepend_known, Keeps as Remains}
use Rattle.keep_base.specs.declared.lines.LineError.{LineError}
use Rattle.keep_base.specs.declared.lines.LineError.TheVariants as E
use Rattle.keep_spec.specs.Config.{Configuration}
use Rattle.keep_spec.specs.Lines.{cut, newlines, text_of, fits, line_too_long, input_too_long, verdict_of}
use Rattle.keep_spec.specs.declared.config.Device.{Device}
use Rattle.keep_spec.specs.declared.config.Field.TheVariants as F
use Rattle.keep_spec.specs.declared.status.Status.{Status}
use Rattle.keep_spec.specs.declared.status.Status.TheVariants as St
use Rattle.keep_event.specs.Device.{State, initial}
use Rattle.keep_event.specs.World.{World, rules_of}
use Rattle.keep_event.specs.declared.names.Name.{Name}
use Rattle.keep_event.specs.declared.names.Stored.{Stored}
use Rattle.keep_cluster.specs.Cluster.{HasDevices, View, faults_at, states_of, told_state, with_known, world_of}
use Rattle.keep_volume.specs.Calls.{VolumeView, state_of}
use Rattle.keep_history.specs.Effects.{Made}
use Rattle.keep_history.specs.Ended.{AreRead, Begun, HowEnded, IsBetween, IsOwn, OneMore, RiseFrom, RisesBy, Work, begun_of, done_after, faults_on, faulty, place_after, script_place, work_of}
use Rattle.keep_history.specs.Run.{Kept, at_start, config_for, first_filled, is_empty, kept_by, left_in, run_lines, run_of, run_opened, run_pieces, verdict_on}
use Rattle.keep_history.proofs.Scripts.{ends-whole}
use Rattle.keep_rounds.proofs.Ended.{ended-well}
use Rattle.keep_run.specs.Going.{status_of_line}
use Rattle.keep_run.specs.Runs.{AreDone, Beginning, Did, HowLinesEnded, IsRunOut, LineMore, LinesRan, beginning}
use Rattle.keep_run.specs.Stores.{AllPairs, AreBare, AreGiven, AreOpened, AreRefused, FirstTell, HasBegun, IsConfigRefusal, IsFilledAt, IsGiven, IsOver, IsSame, RanWell, StoresRan, Tells, Told, counts, devices_in}
use Rattle.keep_run.proofs.OpenedStores.{over-note, pairs-length, same-all, told-round}
use Rattle.keep_cluster.proofs.Devices.{told-is, told-note}
use Rattle.keep_run.proofs.Pieces.{newlines-append, read-more, read-start}

-- ---- what the first stores tell and keep

tell-many : (n : ℕ) (ss : List Told) (ks : List Kept) → FirstTell n ss ks → length ss ≡ length ks
tell-many zero ss ks t = t
tell-many (suc n) [] [] t = refl
tell-many (suc n) [] (k ∷ ks) t = absurd t
tell-many (suc n) (s ∷ ss) [] t = absurd t
tell-many (suc n) (s ∷ ss) (k ∷ ks) t = ap suc (tell-many n ss ks t.1)

same-keep : (n : ℕ) (old new : List Told) (ks : List Kept) → AllPairs IsSame old new → FirstTell n old ks → FirstTell n new ks
same-keep zero old new ks s t = sym (pairs-length IsSame old new s) ∙ t
same-keep (suc n) [] [] [] s t = tt
same-keep (suc n) [] [] (k ∷ ks) s t = absurd t
same-keep (suc n) [] (x ∷ new) ks s t = absurd s
same-keep (suc n) (o ∷ old) [] ks s t = absurd s
same-keep (suc n) (o ∷ old) (x ∷ new) [] s t = absurd t
same-keep (suc n) (o ∷ old) (x ∷ new) (k ∷ ks) s t = (s.0.keeps k t.0, same-keep n old new ks s.1 t.1)

bare-none : (n : ℕ) (d : ℕ) (ss : List Told) (ks : List Kept) → FirstTell n ss ks → d ≤ n → AreBare d ss → first_filled (take d ks) ≡ None
unfolding first_filled
bare-none n zero ss [] t le b = refl
bare-none n zero ss (k ∷ ks) t le b = refl
bare-none zero (suc d) ss ks t le b = absurd (omega (arith, le))
bare-none (suc n) (suc d) [] [] t le b = refl
bare-none (suc n) (suc d) [] (k ∷ ks) t le b = absurd t
bare-none (suc n) (suc d) (s ∷ ss) [] t le b = absurd t
bare-none (suc n) (suc d) (s ∷ ss) (k ∷ ks) t le b = rw (b.0 k t.0, bare-none n d ss ks t.1 (omega (arith, le)) b.1) refl

filled-some : (n d : ℕ) (ss : List Told) (ks : List Kept) → FirstTell n ss ks → d < n → AreBare d ss → IsFilledAt d ss → first_filled (take n ks) ≡ Some d
unfolding first_filled
filled-some zero d ss ks t lt b f = absurd (omega (arith, lt))
filled-some (suc n) d [] ks t lt b f = absurd f
filled-some (suc n) d (s ∷ ss) [] t lt b f = absurd t
filled-some (suc n) zero (s ∷ ss) (k ∷ ks) t lt b f = rw (f k t.0) refl
filled-some (suc n) (suc d) (s ∷ ss) (k ∷ ks) t lt b f = rw (b.0 k t.0, filled-some n d ss ks t.1 (omega (arith, lt)) b.1 f) refl

held-none : (k : Kept) → is_empty k ≡ true → k.held ≡ []
held-none k e = none k.held (eqb-true (length k.held) 0 (and_parts (length k.held == 0) (k.round == 0) e).0)
  where
    none : (es : List (Name × Stored)) → length es ≡ 0 → es ≡ []
    none [] n = refl
    none (x ∷ es) n = absurd (omega (arith, n))

initial-state : (s : Told) (d : VolumeView) (k : Kept) → IsOver s d → Tells s k → told_state d ≡ Some initial
initial-state s d k v t = rw (over-note s d k v t, v.held ∙ (t.held ∙ ap Some (held-none k (v.bare k t))), v.round, v.trash, v.pull) refl

initial-states : {S : Type 0} (told : S → Told) (first left : List S) (ds : List VolumeView) (ks : List Kept) (devices : List Device) → length first ≡ length devices → AllPairs IsOver (map told first) ds → FirstTell (length first) (map told (first ++ left)) ks → states_of ds ≡ Some (map (λ d. initial) devices)
initial-states told [] left [] ks [] n v t = refl
initial-states told [] left [] ks (x ∷ devices) n v t = absurd (omega (arith, n))
initial-states told [] left (d ∷ ds) ks devices n v t = absurd v
initial-states told (s ∷ first) left [] ks devices n v t = absurd v
initial-states told (s ∷ first) left (d ∷ ds) [] devices n v t = absurd t
initial-states told (s ∷ first) left (d ∷ ds) (k ∷ ks) [] n v t = absurd (omega (arith, n))
initial-states told (s ∷ first) left (d ∷ ds) (k ∷ ks) (x ∷ devices) n v t =
    rw (initial-state (told s) d k v.0 t.0, initial-states told first left ds ks devices (omega (arith, n)) v.1 t.1) refl

over-bare : {S : Type 0} (told : S → Told) (first left : List S) (ds : List VolumeView) → AllPairs IsOver (map told first) ds → AreBare (length first) (map told (first ++ left))
over-bare told [] left ds v = tt
over-bare told (s ∷ first) left [] v = absurd v
over-bare told (s ∷ first) left (d ∷ ds) v = (v.0.bare, over-bare told first left ds v.1)

-- ---- what is left

given-tells : (d : VolumeView) (s : Told) (x : State) → IsGiven d s → told_state d ≡ Some x → Tells s (kept_by x)
given-tells d s x g e = by d.held refl (told-is d x e)
  where
    same : {a b : State} → Some a ≡ Some b → a ≡ b
    same e = cc

    by : (o : Option (List (Name × Stored))) → d.held ≡ o → state_of d ≡ Some x → Tells s (kept_by x)
    by None h is = absurd (no (rw h at is))
      where
        no : None ≡ Some x → ⊥
        no e = cc
    by (Some es) h is =
        let y : record { held = es; round = d.round; trash = d.trash; pull = d.pull } ≡ x = same (rw h at is) in
        record { held = g.held ∙ (h ∙ ap (λ (z : State). Some z.held) y); noted = g.noted ∙ (told-round d (told-note d x e) ∙ ap (λ (z : State). Some z.round) y) }

known-parts : (d : VolumeView) (ds : List VolumeView) (ss : List State) → states_of (d ∷ ds) ≡ Some ss → (x : State) × ((xs : List State) × ((told_state d ≡ Some x) × (states_of ds ≡ Some xs) × (ss ≡ x ∷ xs)))
known-parts d ds ss e = by (told_state d) (states_of ds) refl refl e
  where
    no : None ≡ Some ss → ⊥
    no e = cc

    same : {a b : List State} → Some a ≡ Some b → a ≡ b
    same e = cc

    by : (o : Option State) (os : Option (List State)) → told_state d ≡ o → states_of ds ≡ os → with_known o os ≡ Some ss → (x : State) × ((xs : List State) × ((told_state d ≡ Some x) × (states_of ds ≡ Some xs) × (ss ≡ x ∷ xs)))
    by None os a b e = absurd (no e)
    by (Some x) None a b e = absurd (no e)
    by (Some x) (Some xs) a b e = (x, (xs, (a, b, sym (same e))))

keep-left : {S : Type 0} (told : S → Told) (first left : List S) (ds : List VolumeView) (ss : List State) (rest : List Kept) → AllPairs IsGiven ds (map told first) → states_of ds ≡ Some ss → length (map told left) ≡ length rest → FirstTell (length ds) (map told (first ++ left)) (map kept_by ss ++ rest)
keep-left told [] left [] ss rest g e n =
    let none : ss ≡ [] = sym (same e) in
    rw none n
  where
    same : {a b : List State} → Some a ≡ Some b → a ≡ b
    same e = cc
keep-left told (s ∷ first) left [] ss rest g e n = absurd g
keep-left told [] left (d ∷ ds) ss rest g e n = absurd g
keep-left told (s ∷ first) left (d ∷ ds) ss rest g e n =
    let p = known-parts d ds ss e in
    rw p.1.1.2 (given-tells d (told s) p.0 g.0 p.1.1.0, keep-left told first left ds p.1.0 rest g.1 p.1.1.1 n)

states-many : (ds : List VolumeView) (ss : List State) → states_of ds ≡ Some ss → length ss ≡ length ds
states-many [] ss e = ap length (sym (same e))
  where
    same : {a b : List State} → Some a ≡ Some b → a ≡ b
    same e = cc
states-many (d ∷ ds) ss e =
    let p = known-parts d ds ss e in
    ap length p.1.1.2 ∙ ap suc (states-many ds p.1.0 p.1.1.1)

-- ---- counts

rises-none : (made : List Made) (i : ℕ) (ss : List Told) → ((k : ℕ) → faults_on (i + k) made ≡ 0) → RiseFrom i made (counts ss) (counts ss)
rises-none made i [] f = tt
rises-none made i (s ∷ ss) f =
    let z : faults_on i made ≡ 0 = subst (λ x. faults_on x made ≡ 0) (omega arith) (f 0) in
    (λ small. omega (arith, z), rises-none made (i + 1) ss (λ k. subst (λ x. faults_on x made ≡ 0) (omega arith) (f (suc k))))

rises : {S : Type 0} (told : S → Told) (made : List Made) (i : ℕ) (first first' left : List S) (ds ds' : List VolumeView) → AllPairs IsOver (map told first) ds → AllPairs IsGiven ds' (map told first') → length ds ≡ length ds'
    → ((k : ℕ) → RisesBy (faults_on (i + k) made) (faults_at ds k) (faults_at ds' k)) → RiseFrom i made (counts (map told (first ++ left))) (counts (map told (first' ++ left)))
rises told made i [] [] left [] [] v g n f = rises-none made i (map told left) (λ k. let r = f k (omega arith) in omega (arith, r))
rises told made i (s ∷ first) first' left [] ds' v g n f = absurd v
rises told made i [] first' left (d ∷ ds) ds' v g n f = absurd v
rises told made i [] (s' ∷ first') left [] [] v g n f = absurd g
rises told made i [] first' left [] (d' ∷ ds') v g n f = absurd (omega (arith, n))
rises told made i (s ∷ first) first' left (d ∷ ds) [] v g n f = absurd (omega (arith, n))
rises told made i (s ∷ first) [] left (d ∷ ds) (d' ∷ ds') v g n f = absurd g
rises told made i (s ∷ first) (s' ∷ first') left (d ∷ ds) (d' ∷ ds') v g n f =
    let here : RisesBy (faults_on i made) d.faults d'.faults = subst (λ x. RisesBy (faults_on x made) d.faults d'.faults) (omega arith) (f 0) in (
      λ small. let r = here (omega (arith, small, g.0.faults)) in omega (arith, r, v.0.never_falls, g.0.faults),
      rises told made (i + 1) first first' left ds ds' v.1 g.1 (omega (arith, n)) (λ k. subst (λ x. RisesBy (faults_on x made) (faults_at ds k) (faults_at ds' k)) (omega arith) (f (suc k))),
    )

same-rises : (i : ℕ) (old new : List Told) → AllPairs IsSame old new → RiseFrom i [] (counts old) (counts new)
same-rises i [] [] s = tt
same-rises i [] (x ∷ new) s = absurd s
same-rises i (o ∷ old) [] s = absurd s
same-rises i (o ∷ old) (x ∷ new) s = (s.0.never_falls, same-rises (i + 1) old new s.1)

-- ---- lines that were read

nothing-of : (a x : List ℕ) → [] ≡ a ++ x → (a ≡ []) × (x ≡ [])
nothing-of [] [] e = (refl, refl)
nothing-of [] (x ∷ xs) e = absurd (let n : 0 ≡ suc (length xs) = ap length e in omega (arith, n))
nothing-of (y ∷ a) x e = absurd (let n : 0 ≡ suc (length (a ++ x)) = ap length e in omega (arith, n))

no-lines : newlines [] ≡ 0
unfolding newlines
no-lines = refl

no-pieces : length (cut []) ≡ 0
unfolding cut
no-pieces = refl

-- where nothing comes after the first line, nothing more is read
none-read : (rest left read : List ℕ) (lines : ℕ) → rest ≡ [] → rest ≡ read ++ left → (lines ≡ newlines read) ⊎ ((left ≡ []) × (lines ≡ length (cut rest))) → (left ≡ []) × (lines ≡ 0)
none-read rest left read lines e p whole =
    let n = nothing-of read left (sym e ∙ p) in
    (n.1, count n.0 whole)
  where
    count : read ≡ [] → (lines ≡ newlines read) ⊎ ((left ≡ []) × (lines ≡ length (cut rest))) → lines ≡ 0
    count z (inl l) = l ∙ (ap newlines z ∙ no-lines)
    count z (inr l) = l.1 ∙ (ap (λ x. length (cut x)) e ∙ no-pieces)

-- lines that were read after the first one
read-both : (whole rest left : List ℕ) (lines : ℕ) → AreRead whole rest 1 → AreRead rest left lines → length (cut whole) ≡ suc (length (cut rest)) → AreRead whole left (suc lines)
read-both whole rest left lines f r many = by f.whole r.whole
  where
    joined : whole ≡ (f.read ++ r.read) ++ left
    joined = f.parts ∙ (ap (λ x. f.read ++ x) r.parts ∙ sym (append_assoc f.read r.read left))

    by : (1 ≡ newlines f.read) ⊎ ((rest ≡ []) × (1 ≡ length (cut whole))) → (lines ≡ newlines r.read) ⊎ ((left ≡ []) × (lines ≡ length (cut rest))) → AreRead whole left (suc lines)
    by (inl one) (inl count) = record { read = f.read ++ r.read; parts = joined; whole = inl (omega (arith, newlines-append f.read r.read, one, count)) }
    by (inl one) (inr all) = record { read = f.read ++ r.read; parts = joined; whole = inr (all.0, omega (arith, all.1, many)) }
    by (inr none) k =
        let z = none-read rest left r.read lines none.0 r.parts k in
        record { read = f.read ++ r.read; parts = joined; whole = inr (z.0, omega (arith, z.1, none.1)) }

-- ---- the first line

module _ (starts : List Kept) (whole rest : List ℕ) (c : Configuration) (taken : ℕ) (h : HasBegun (length starts) whole rest c taken) where
  abbrev begun : Begun
  begun = record { config = c; taken = taken; rest = cut rest }

  begins : begun_of (length starts) (cut whole) ≡ Some begun
  begins = rw (h.first, h.short, h.config_is, h.taken_is) refl

  pub devices-of : devices_in (length starts) whole ≡ length c.devices
  devices-of = ap (λ o. option_map_or (λ (b : Begun). length b.config.devices) o 0) begins

  run-is : (failed : List ℕ) → run_of failed starts whole ≡ run_opened c failed taken (first_filled (take (length c.devices) starts)) (cut rest)
  unfolding run_of
  run-is failed = rw (h.first, h.short, h.config_is, h.taken_is) refl

  -- ---- where the stores of the devices are empty

  module _ (empty : first_filled (take (length c.devices) starts) ≡ None) where
    lines-run : (failed : List ℕ) → run_of failed starts whole ≡ run_lines c failed taken 1 (at_start c) (cut rest)
    lines-run failed = run-is failed ∙ ap (λ o. run_opened c failed taken o (cut rest)) empty

    place-is : (failed : List ℕ) (lines : ℕ) → script_place failed starts whole lines ≡ place_after c failed lines taken (at_start c) (cut rest)
    place-is failed lines = rw (begins, empty) refl

    abbrev b : Beginning
    b = beginning taken 1 rest

    -- what was done, and what it left in the stores
    abbrev work : Did → Work
    work did = record { made = did.made; left = left_in did.world starts; text = did.text }

    own : (failed : List ℕ) (status : Status) (did : Did) → IsRunOut c b failed status did → IsOwn (run_of failed starts whole) starts status (work did)
    own failed status did r = rw (lines-run failed, r.ends, r.did_is) (refl, refl)

    done-is : (failed : List ℕ) (lines : ℕ) (did : Did) (d : AreDone c b failed lines did) → done_after failed starts whole (suc lines) ≡ Some (Some d.place.sofar)
    done-is failed lines did d = rw (place-is failed lines, d.comes_to) refl

    work-is : (failed : List ℕ) (lines : ℕ) (did : Did) (d : AreDone c b failed lines did) → work did ≡ work_of starts (Some d.place.sofar)
    work-is failed lines did d = ap work d.did_is

    between : (failed : List ℕ) (lines : ℕ) (did : Did) → AreDone c b failed lines did → IsBetween failed starts whole (work did)
    between failed lines did d = record { lines = suc lines; did = Some d.place.sofar; are_done = done-is failed lines did d; work_is = work-is failed lines did d }

    abbrev more : (failed : List ℕ) → LineMore c b failed → OneMore failed starts whole
    more failed m = record {
      begun = begun;
      lines = m.lines;
      place = m.place;
      piece = m.piece;
      rest = m.rest;
      effect = m.effect;
      begins = begins;
      comes_to = place-is failed m.lines ∙ m.comes_to;
      next_piece = m.next_piece;
      does = m.does;
    }

    read-after : (left : List ℕ) (lines : ℕ) → AreRead rest left lines → AreRead whole left (suc lines)
    read-after left lines r = read-both whole rest left lines (read-more whole whole rest h.piece 0 (read-start whole) h.first (omega arith)) r (ap length h.first)

    how : (status : Status) (failed : List ℕ) (unread : Option (List ℕ)) (did : Did) → HowLinesEnded status c b failed unread did → HowEnded status failed starts whole unread (work did)
    how St.Done failed unread did k = (own failed St.Done did k.0, k.1)
    how (St.BadLine n) failed unread did k = own failed (St.BadLine n) did k
    how (St.LineTooLong n) failed unread did k = own failed (St.LineTooLong n) did k
    how St.InputTooLong failed unread did k = own failed St.InputTooLong did k
    how St.PortFault failed unread did k = own failed St.PortFault did k
    how St.ReadFault failed unread did k =
        (k.left, (k.unread_is, record { lines = suc k.lines; are_read = read-after k.left k.lines k.are_read; did = Some k.are_done.place.sofar; are_done = done-is failed k.lines did k.are_done; work_is = work-is failed k.lines did k.are_done }))
    how St.WriteFault failed unread did k = record { more = more failed k.more; count = k.count; work_is = ap work k.did_is }
    how St.NoMemory failed unread did (inl k) = inl (between failed k.0 did k.1)
    how St.NoMemory failed unread did (inr k) = inr (record { more = more failed k.more; count = k.count; work_is = ap work k.did_is })
    how _ failed unread did k = absurd k

  -- ---- where a device was not opened

  abbrev nothing-done : Work
  nothing-done = work_of starts None

  refused-how : (status : Status) (unread : Option (List ℕ)) (old new : List Told) → FirstTell (length c.devices) old starts → AreRefused (length c.devices) status old new → HowEnded status [] starts whole unread nothing-done
  refused-how (St.StoreFault d) unread old new t r = record {
    begun = begun;
    begins = begins;
    in_range = r.0;
    empty_before = bare-none (length c.devices) d old starts t (omega (arith, r.0)) r.1.0;
    work_is = refl;
  }
  refused-how (St.NotEmpty d) unread old new t r =
      let f = filled-some (length c.devices) d old starts t r.0 r.1.0 r.1.1 in
      rw (run-is [] ∙ ap (λ o. run_opened c [] taken o (cut rest)) f) (refl, refl)
  refused-how St.NoMemory unread old new t r = inl (record { lines = 0; did = None; are_done = refl; work_is = refl })
  refused-how _ unread old new t r = absurd r

-- ---- over the stores

-- where nothing was done, the text of nothing was appended
unwritten : (before written : Option (List ℕ)) → Remains before written → Appends before written []
unwritten before written k = Appends-kept before before written [] (Appends-nil before) k

module _ {S : Type 0} (told : S → Told) (c : Configuration) (whole rest : List ℕ) (starts : List Kept) (taken : ℕ) (old : List S)
    (h : HasBegun (length (map told old)) whole rest c taken) (tell : FirstTell (length c.devices) (map told old) starts) where
  many-starts : length (map told old) ≡ length starts
  many-starts = tell-many (length c.devices) (map told old) starts tell

  begun-starts : HasBegun (length starts) whole rest c taken
  begun-starts = subst (λ n. HasBegun n whole rest c taken) many-starts h

  devices-old : devices_in (length (map told old)) whole ≡ length c.devices
  devices-old = ap (λ n. devices_in n whole) many-starts ∙ devices-of starts whole rest c taken begun-starts

  module _ (left : List S) (ds : List VolumeView) (opened : AreOpened told (length c.devices) old left ds) where
    tell-first : FirstTell (length opened.first) (map told (opened.first ++ left)) starts
    tell-first = subst (λ n. FirstTell n (map told (opened.first ++ left)) starts) (sym opened.many) (subst (λ x. FirstTell (length c.devices) (map told x) starts) opened.parts tell)

    pub start-world : states_of ds ≡ Some (map (λ d. initial) c.devices)
    start-world = initial-states told opened.first left ds starts c.devices opened.many opened.over tell-first

    empty : first_filled (take (length c.devices) starts) ≡ None
    empty = subst (λ n. first_filled (take n starts) ≡ None) opened.many
        (bare-none (length opened.first) (length opened.first) (map told (opened.first ++ left)) starts tell-first (omega arith) (over-bare told opened.first left ds opened.over))

    module _ (new : List S) (ds' : List VolumeView) (given : AreGiven told ds' left new) (many : length ds' ≡ length c.devices) where
      lengths-agree : length ds ≡ length ds'
      lengths-agree = sym (pairs-length IsOver (map told opened.first) ds opened.over) ∙ (length-map opened.first told ∙ (opened.many ∙ sym many))

      left-many : (ss : List State) → length ss ≡ length ds' → length (map told left) ≡ length (drop (length ss) starts)
      left-many ss n =
          let o : length old ≡ length opened.first + length left = ap length opened.parts ∙ length-append opened.first left in
          let s : length old ≡ length starts = sym (length-map old told) ∙ many-starts in
          length-map left told ∙ (omega (arith, o, s, n, many, opened.many) ∙ sym (length-drop (length ss) starts))

      pub ran-lines : (status : Status) (unread : Option (List ℕ)) (world : Option World) (before written : Option (List ℕ)) → ((w : World) → world ≡ Some w → states_of ds' ≡ Some w.devices)
          → LinesRan c (beginning taken 1 rest) status unread (faults_at ds) (faults_at ds') world before written → StoresRan (map told old) (map told new) whole before starts status unread written
      ran-lines status unread world before written devices r =
          let known = devices r.did.world r.world_is in
          let n = states-many ds' r.did.world.devices known in
          record {
            work = work starts whole rest c taken begun-starts empty r.did;
            keep = rw (devices-old, sym many, given.parts) (keep-left told given.first left ds' r.did.world.devices (drop (length r.did.world.devices) starts) given.given known (left-many r.did.world.devices n));
            written_is = r.written_is;
            ran = record {
              failed = faulty r.did.made;
              failed_are = refl;
              rises = rw (opened.parts, given.parts) (rises told r.did.made 0 opened.first given.first left ds ds' opened.over given.given lengths-agree (λ k. subst (λ x. RisesBy (faults_on x r.did.made) (faults_at ds k) (faults_at ds' k)) (omega arith) (r.rise k)));
              how = how starts whole rest c taken begun-starts empty status (faulty r.did.made) unread r.did r.how;
            };
          }

  pub ran-refused : (new : List S) (status : Status) (unread before written : Option (List ℕ)) → AllPairs IsSame (map told old) (map told new) → AreRefused (length c.devices) status (map told old) (map told new) → Remains before written → StoresRan (map told old) (map told new) whole before starts status unread written
  ran-refused new status unread before written same r w = record {
    work = work_of starts None;
    keep = rw devices-old (same-keep (length c.devices) (map told old) (map told new) starts same tell);
    written_is = unwritten before written w;
    ran = record {
      failed = [];
      failed_are = refl;
      rises = same-rises 0 (map told old) (map told new) same;
      how = refused-how starts whole rest c taken begun-starts status unread (map told old) (map told new) tell r;
    };
  }

-- ---- where no first line is a configuration

module _ {S : Type 0} (told : S → Told) (bytes : List ℕ) (before : Option (List ℕ)) (starts : List Kept) (old : List S) (tell : FirstTell (devices_in (length (map told old)) bytes) (map told old) starts) where
  many : length (map told old) ≡ length starts
  many = tell-many (devices_in (length (map told old)) bytes) (map told old) starts tell

  -- nothing is done
  nothing-ran : (status : Status) (unread : Option (List ℕ)) (written : Option (List ℕ)) → Remains before written → HowEnded status [] starts bytes unread (work_of starts None) → StoresRan (map told old) (map told old) bytes before starts status unread written
  nothing-ran status unread written w how = record {
    work = work_of starts None;
    keep = same-keep (devices_in (length (map told old)) bytes) (map told old) (map told old) starts (same-all told old) tell;
    written_is = unwritten before written w;
    ran = record { failed = []; failed_are = refl; rises = same-rises 0 (map told old) (map told old) (same-all told old); how = how };
  }

  pub ran-none : (unread : Option (List ℕ)) (written : Option (List ℕ)) → Remains before written → bytes ≡ [] → StoresRan (map told old) (map told old) bytes before starts (St.BadConfig F.Line) unread written
  unfolding run_of cut
  ran-none unread written w none = nothing-ran (St.BadConfig F.Line) unread written w (rw none (refl, refl))

  pub ran-memory : (unread : Option (List ℕ)) (written : Option (List ℕ)) → Remains before written → StoresRan (map told old) (map told old) bytes before starts St.NoMemory unread written
  ran-memory unread written w = nothing-ran St.NoMemory unread written w (inl (record { lines = 0; did = None; are_done = refl; work_is = refl }))

  pub ran-unread : (ahead left : List ℕ) (unread : Option (List ℕ)) (written : Option (List ℕ)) → Remains before written → bytes ≡ ahead ++ left → newlines ahead ≡ 0 → unread ≡ Some left → StoresRan (map told old) (map told old) bytes before starts St.ReadFault unread written
  ran-unread ahead left unread written w parts none u =
      nothing-ran St.ReadFault unread written w (left, (u, record { lines = 0; are_read = record { read = ahead; parts = parts; whole = inl (sym none) }; did = None; are_done = refl; work_is = refl }))

  from-judged : (status : Status) (piece : List ℕ) (rest : List (List ℕ)) → cut bytes ≡ piece ∷ rest → run_pieces [] starts (piece ∷ rest) ≡ record { status = status; did = None } → IsOwn (run_of [] starts bytes) starts status (work_of starts None)
  unfolding run_of
  from-judged status piece rest first e = rw (first, e) (refl, refl)

  pub ran-long : (n : ℕ) (unread : Option (List ℕ)) (written : Option (List ℕ)) (piece : List ℕ) (rest : List (List ℕ)) → Remains before written → n ≡ 1 → cut bytes ≡ piece ∷ rest → verdict_on 0 piece ≡ line_too_long → StoresRan (map told old) (map told old) bytes before starts (St.LineTooLong n) unread written
  ran-long n unread written piece rest w one first v =
      nothing-ran (St.LineTooLong n) unread written w (from-judged (St.LineTooLong n) piece rest first (rw (v, one) refl))

  pub ran-large : (unread : Option (List ℕ)) (written : Option (List ℕ)) (piece : List ℕ) (rest : List (List ℕ)) → Remains before written → cut bytes ≡ piece ∷ rest → verdict_on 0 piece ≡ input_too_long → StoresRan (map told old) (map told old) bytes before starts St.InputTooLong unread written
  ran-large unread written piece rest w first v = nothing-ran St.InputTooLong unread written w (from-judged St.InputTooLong piece rest first (rw v refl))

  pub ran-misfit : (status : Status) (unread : Option (List ℕ)) (written : Option (List ℕ)) (piece : List ℕ) (rest : List (List ℕ)) → Remains before written → cut bytes ≡ piece ∷ rest → verdict_on 0 piece ≡ fits → IsConfigRefusal status (config_for (length (map told old)) (text_of piece)) → StoresRan (map told old) (map told old) bytes before starts status unread written
  ran-misfit (St.BadConfig field) unread written piece rest w first v r =
      nothing-ran (St.BadConfig field) unread written w (from-judged (St.BadConfig field) piece rest first (rw (v, ap (λ n. config_for n (text_of piece)) (sym many) ∙ r) refl))
  ran-misfit St.NoMemory unread written piece rest w first v r = ran-memory unread written w
  ran-misfit _ unread written piece rest w first v r = absurd r

-- ---- lengths and worlds

pub devices-many : (c : Configuration) (ds : List VolumeView) → HasDevices c ds → length ds ≡ length c.devices
devices-many c ds h = sym (length-map ds (λ (d : VolumeView). d.rules)) ∙ (ap length h ∙ length-map c.devices (λ (d : Device). rules_of c (Some d)))

pub known-devices : (v : View) (w : World) → world_of v ≡ Some w → states_of v.devices ≡ Some w.devices
known-devices v w e = by (states_of v.devices) e
  where
    same : {a b : World} → Some a ≡ Some b → a ≡ b
    same e = cc

    none : None ≡ Some w → ⊥
    none e = cc

    by : (o : Option (List State)) → option_map (λ ss. record { config = v.config; devices = ss; table = v.table.state }) o ≡ Some w → o ≡ Some w.devices
    by None e = absurd (none e)
    by (Some ss) e = ap (λ (x : World). Some x.devices) (same e)

module _ {S : Type 0} (told : S → Told) where
  pub same-many : (old new : List S) → AllPairs IsSame (map told old) (map told new) → length new ≡ length old
  same-many old new s = sym (length-map new told) ∙ (sym (pairs-length IsSame (map told old) (map told new) s) ∙ length-map old told)

  pub begun-told : (old : List S) (n : ℕ) (whole rest : List ℕ) (c : Configuration) (taken : ℕ) → n ≡ length old → HasBegun n whole rest c taken → HasBegun (length (map told old)) whole rest c taken
  begun-told old n whole rest c taken e h = subst (λ k. HasBegun k whole rest c taken) (e ∙ sym (length-map old told)) h

  given-first : (ds : List VolumeView) (left new : List S) (g : AreGiven told ds left new) → length g.first ≡ length ds
  given-first ds left new g = sym (length-map g.first told) ∙ sym (pairs-length IsGiven ds (map told g.first) g.given)

  pub given-many : (n : ℕ) (old left new : List S) (ds ds' : List VolumeView) → AreOpened told n old left ds → AreGiven told ds' left new → length ds' ≡ n → length new ≡ length old
  given-many n old left new ds ds' o g e =
      let a : length new ≡ length g.first + length left = ap length g.parts ∙ length-append g.first left in
      let b : length old ≡ length o.first + length left = ap length o.parts ∙ length-append o.first left in
      omega (arith, a, b, given-first ds' left new g, o.many, e)

  drop-first : (xs ys : List S) → drop (length xs) (xs ++ ys) ≡ ys
  drop-first [] [] = refl
  drop-first [] (y ∷ ys) = refl
  drop-first (x ∷ xs) ys = drop-first xs ys

  pub others-same : (n : ℕ) (old left new : List S) (ds ds' : List VolumeView) → AreOpened told n old left ds → AreGiven told ds' left new → length ds' ≡ n → drop n new ≡ drop n old
  others-same n old left new ds ds' o g e =
      let f : length g.first ≡ n = given-first ds' left new g ∙ e in
      let a : drop n new ≡ left = ap (drop n) g.parts ∙ (ap (λ k. drop k (g.first ++ left)) (sym f) ∙ drop-first g.first left) in
      let b : drop n old ≡ left = ap (drop n) o.parts ∙ (ap (λ k. drop k (o.first ++ left)) (sym o.many) ∙ drop-first o.first left) in
      a ∙ sym b

-- ---- the first line as it is read

pub begun-devices : (n : ℕ) (whole rest : List ℕ) (c : Configuration) (taken : ℕ) → HasBegun n whole rest c taken → devices_in n whole ≡ length c.devices
begun-devices n whole rest c taken h = rw (h.first, h.short, h.config_is) refl

pub given-begun : (n taken' : ℕ) (left' : Option (List ℕ)) (line : ℕ) (text bytes : List ℕ) (c : Configuration) → IsNext 0 0 (Some bytes) (Ok (Some line)) text taken' left' → config_for n text ≡ Ok c → (rest : List ℕ) × ((left' ≡ Some rest) × HasBegun n bytes rest c taken')
given-begun n taken' None line text bytes c g e = absurd g
given-begun n taken' (Some rest) line text bytes c g e = (
  rest,
  (
    refl,
    record {
      piece = g.piece;
      first = g.first;
      short = subst (λ x. verdict_of 1048576 1073741824 0 (length x) (length g.piece) ≡ fits) g.text_is g.fits_in;
      config_is = ap (config_for n) (sym g.text_is) ∙ e;
      taken_is = g.taken_is ∙ omega arith;
    },
  ),
)

module _ {S : Type 0} (told : S → Told) (bytes : List ℕ) (before : Option (List ℕ)) (starts : List Kept) (old : List S) (n : ℕ) (many-old : n ≡ length old) (tell : FirstTell (devices_in n bytes) (map told old) starts) where
  told-n : n ≡ length (map told old)
  told-n = many-old ∙ sym (length-map old told)

  tell-told : FirstTell (devices_in (length (map told old)) bytes) (map told old) starts
  tell-told = subst (λ k. FirstTell (devices_in k bytes) (map told old) starts) told-n tell

  pub read-none : (unread : Option (List ℕ)) (written : Option (List ℕ)) → Remains before written → bytes ≡ [] → StoresRan (map told old) (map told old) bytes before starts (St.BadConfig F.Line) unread written
  read-none unread written w e = ran-none told bytes before starts old tell-told unread written w e

  unread-parts : (ahead : List ℕ) (unread written : Option (List ℕ)) → Remains before written → Remains (Some bytes) (prepend_known ahead unread) → newlines ahead ≡ 0 → StoresRan (map told old) (map told old) bytes before starts St.ReadFault unread written
  unread-parts ahead None written w p e = absurd p
  unread-parts ahead (Some left) written w p e = ran-unread told bytes before starts old tell-told ahead left (Some left) written w (sym p) e refl

  pub read-error : (error : LineError) (text ahead : List ℕ) (unread written : Option (List ℕ)) (taken' : ℕ) (left' : Option (List ℕ)) → Remains before written → IsNext 0 0 (Some bytes) (Err error) text taken' left'
      → (error ≡ E.ReadFault → Remains (Some bytes) (prepend_known ahead unread) × (newlines ahead ≡ 0)) → StoresRan (map told old) (map told old) bytes before starts (status_of_line error) unread written
  read-error E.ReadFault text ahead unread written taken' left' w next r = let p = r refl in unread-parts ahead unread written w p.0 p.1
  read-error (E.LineTooLong k) text ahead unread written taken' left' w (is, (piece, (rest, (first, v)))) r = ran-long told bytes before starts old tell-told k unread written piece rest w is first v
  read-error E.InputTooLong text ahead unread written taken' left' w (piece, (rest, (first, v))) r = ran-large told bytes before starts old tell-told unread written piece rest w first v
  read-error E.NoMemory text ahead unread written taken' left' w next r = ran-memory told bytes before starts old tell-told unread written w

  pub read-misfit : (status : Status) (unread written : Option (List ℕ)) (taken' : ℕ) (left' : Option (List ℕ)) (line : ℕ) (text : List ℕ) → Remains before written → IsNext 0 0 (Some bytes) (Ok (Some line)) text taken' left' → IsConfigRefusal status (config_for n text) → StoresRan (map told old) (map told old) bytes before starts status unread written
  read-misfit status unread written taken' None line text w g r = absurd g
  read-misfit status unread written taken' (Some rest) line text w g r =
      ran-misfit told bytes before starts old tell-told status unread written g.piece (cut rest) w g.first (subst (λ x. verdict_of 1048576 1073741824 0 (length x) (length g.piece) ≡ fits) g.text_is g.fits_in)
      (subst (λ k. IsConfigRefusal status (config_for k (text_of g.piece))) told-n (subst (λ x. IsConfigRefusal status (config_for n x)) g.text_is r))

-- ---- what a run did, whole

pub well-ran : (old new : List Told) (bytes : List ℕ) (before : Option (List ℕ)) (starts : List Kept) (status : Status) (unread written : Option (List ℕ)) → StoresRan old new bytes before starts status unread written → RanWell old new bytes before starts status unread written
well-ran old new bytes before starts status unread written r = record {
  ran = r;
  did_well = ended-well r.ran.failed starts bytes status unread r.work r.ran.how;
  whole = λ s. ends-whole status (faulty r.work.made) starts bytes unread r.work s (subst (λ f. HowEnded status f starts bytes unread r.work) r.ran.failed_are r.ran.how);
}
