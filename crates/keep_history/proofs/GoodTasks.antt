-- Puts that a device takes end Stored, gets of a block that a device has end Bytes: `told-good-tasks`.
use Rattle.std.proofs.Common.{◌≡◌, ◌≢◌, ◌-◌, ℕ, ◌+◌, Bool, true, false, List, [], ◌∷◌, ◌++◌, length, Option, None, Some, IfSome, Result, Ok, Err, inl, inr, ◌⊎◌, refl, sym, ◌∙◌, ap, subst, arith, option_and_then}
use Rattle.std.specs.Prelude.{⊤, ◌==◌, ◌||◌, ◌&&◌, if◌then◌else◌, nat_lt, max, slice_get}
use Rattle.std.specs.List.{AllByRecursion}
use Rattle.std.specs.Result.{IsOk}
use Rattle.std.specs.Str.{bytes_eq}
use Rattle.std.proofs.lemmas.Bool.{eqb-true, eqb-false, le-ltb}
use Rattle.std.proofs.lemmas.Slice.Eq.{bytes_eq-Decides}
use Rattle.md5.specs.Md5.{md5}
use Rattle.keep_spec.specs.Config.{Configuration, devices_of}
use Rattle.keep_spec.specs.Lines.{cut, text_of}
use Rattle.keep_spec.specs.Locator.{is_empty_block}
use Rattle.keep_spec.specs.declared.token.TokenId.{TokenId}
use Rattle.keep_event.specs.Device as machine
use Rattle.keep_event.specs.Store as store
use Rattle.keep_event.specs.Device.{State, replica_of}
use Rattle.keep_event.specs.World.{World, asked, line, stays, device_rules, device_state}
use Rattle.keep_event.specs.declared.device.DeviceRules.{DeviceRules}
use Rattle.keep_event.specs.declared.names.Stored.{Stored}
use Rattle.keep_event.specs.declared.device.DeviceAnswer.{DeviceAnswer}
use Rattle.keep_event.specs.declared.device.DeviceAnswer.TheVariants as A
use Rattle.keep_event.specs.declared.device.DeviceQuery.{DeviceQuery}
use Rattle.keep_event.specs.declared.device.DeviceQuery.TheVariants as Q
use Rattle.keep_event.specs.declared.event.Answer.{Answer}
use Rattle.keep_event.specs.declared.event.Answer.TheVariants as An
use Rattle.keep_event.specs.declared.event.Query.{Query}
use Rattle.keep_history.specs.declared.task.Command.{Command}
use Rattle.keep_history.specs.declared.task.Command.TheVariants as C
use Rattle.keep_history.specs.declared.task.Opening.{Opening}
use Rattle.keep_history.specs.declared.task.Opening.TheVariants as Open
use Rattle.keep_history.specs.declared.task.Outcome.{Outcome}
use Rattle.keep_history.specs.declared.task.Outcome.TheVariants as O
use Rattle.keep_history.specs.declared.task.Task.{Task}
use Rattle.keep_history.specs.declared.task.Task.TheVariants as T
use Rattle.keep_history.specs.declared.task.TaskState.TheVariants as S
use Rattle.keep_history.specs.Ended.{Begun, begun_of}
use Rattle.keep_history.specs.Run.{at_start}
use Rattle.keep_history.specs.Collisions.{block_on, HasOther}
use Rattle.keep_history.specs.Effects.{Effect, Scene, Standing, answered_by, command_in, effect_of_command, effect_of_line, open_effect, event_of, is_failed, with_answer}
use Rattle.keep_history.specs.Next.{Answered, Next, asks, ends, ends_or}
use Rattle.keep_history.specs.Tasks.{empty_locator, opened, permitted_block, writable, next, walk, on_device, by_all, writes, is_read_only, compare_end, write_end, fetch_end, not_written, not_fetched}
use Rattle.keep_history.specs.Whole.{AreEndedWell, GoodTasksEndWell, HasRoom, IsFairGet, IsFairPut, IsGoodGet, IsGoodPut, IsRead, IsStored, OpeningEndsWell, OpensWell, command_at, is_among}
use Rattle.keep_history.proofs.Collisions.{CollidesNext, IsWorldOf, SceneTakes, new-world, put-collides, rules-change, scene-takes, takes-changes}
use Rattle.keep_history.proofs.Follows.{IsGoodNext, at-same, goes-well}
use Rattle.keep_history.proofs.Lines.{both-some, some-more}
use Rattle.keep_history.proofs.GetsOfPuts.{NextFits, next-fits}

or-split : (a b : Bool) → (a || b) ≡ true → (a ≡ true) ⊎ (b ≡ true)
or-split true b e = inl refl
or-split false b e = inr e

false-true : {X : Type 0} → false ≡ true → X
false-true e = absurd (no e)
  where
    no : false ≡ true → ⊥
    no e = cc

-- what comes next asks a query, after whose answer F holds
abbrev TakesOn : (Query → Type 0) → Type 0 → Next → Type 0
TakesOn IsAnswered F (asks q) = IsAnswered q → F
TakesOn IsAnswered F (ends outcome) = ⊤

module _ (IsAnswered : Query → Type 0) where
  takes-map : (F G : Type 0) (nx : Next) → (F → G) → TakesOn IsAnswered F nx → TakesOn IsAnswered G nx
  takes-map F G (asks q) f h = λ a. f (h a)
  takes-map F G (ends outcome) f h = tt

  takes-or : (F : Type 0) (o : Option Outcome) (nx : Next) → TakesOn IsAnswered F nx → TakesOn IsAnswered F (ends_or o nx)
  takes-or F None nx h = h
  takes-or F (Some o) nx h = tt

-- ---- gets

module _ (d : ℕ) where
  abbrev IsBlock : Answer → Type 0
  IsBlock a = (bytes : List ℕ) × (a ≡ An.Device (A.Block bytes))

  -- device `d` has answered with a block
  abbrev FineFetches : List ℕ → List Answered → Type 0
  FineFetches [] rs = ⊤
  FineFetches (x ∷ ds) [] = ⊤
  FineFetches (x ∷ ds) (a ∷ rs) = (x ≡ d → IsBlock a.answer) × FineFetches ds rs

  record FineGet (s : Standing) : Type 0 where
    devices : List ℕ
    hash : List ℕ
    task : s.task ≡ T.Get devices hash
    among : is_among d devices ≡ true
    answers : FineFetches devices s.answers

  fetch-good : (a : Answer) (nx : Next) → IsGoodNext IsRead nx → IsGoodNext IsRead (ends_or (on_device fetch_end a) nx)
  fetch-good (An.Device (A.Block bytes)) nx g = tt
  fetch-good (An.Device _) nx g = g
  fetch-good (An.Table t) nx g = g

  block-good : (a : Answer) (nx : Next) → IsBlock a → IsGoodNext IsRead (ends_or (on_device fetch_end a) nx)
  block-good a nx b = rw b.1 tt

  fetches-good : (hash : List ℕ) (seen : List Answer) (ds : List ℕ) (rs : List Answered) → is_among d ds ≡ true → FineFetches ds rs → IsGoodNext IsRead (walk (Q.Fetch hash) (on_device fetch_end) (by_all not_fetched) seen ds rs)
  unfolding walk
  fetches-good hash seen [] rs m f = false-true m
  fetches-good hash seen (x ∷ ds) [] m f = tt
  fetches-good hash seen (x ∷ ds) (a ∷ rs) m f =
      elim (or-split (x == d) (is_among d ds) m) [
        | inl same ↦ block-good a.answer _ (f.0 (eqb-true x d same))
        | inr later ↦ fetch-good a.answer _ (fetches-good hash (seen ++ a.answer ∷ []) ds rs later f.1)
      ]

  get-good : (c : Configuration) (s : Standing) → FineGet s → IsGoodNext IsRead (next c s.task s.answers)
  unfolding next
  get-good c s f = rw f.task (fetches-good f.hash [] f.devices s.answers f.among f.answers)

  -- a block where device `d` is asked
  abbrev FetchAnswered : Answer → Query → Type 0
  FetchAnswered a (Query.Device x (Q.Fetch hash)) = x ≡ d → IsBlock a
  FetchAnswered a _ = ⊤

  nil-fetches : (ds : List ℕ) → FineFetches ds []
  nil-fetches [] = tt
  nil-fetches (x ∷ ds) = tt

  fetches-more : (a : Answered) (hash : List ℕ) (seen : List Answer) (ds : List ℕ) (rs : List Answered) → FineFetches ds rs → TakesOn (FetchAnswered a.answer) (FineFetches ds (rs ++ a ∷ [])) (walk (Q.Fetch hash) (on_device fetch_end) (by_all not_fetched) seen ds rs)
  unfolding walk
  fetches-more a hash seen [] rs f = tt
  fetches-more a hash seen (x ∷ ds) [] f = λ ok. (ok, nil-fetches ds)
  fetches-more a hash seen (x ∷ ds) (b ∷ rs) f =
      takes-or (FetchAnswered a.answer) _ (on_device fetch_end b.answer) _ (takes-map (FetchAnswered a.answer) _ _ _ (λ rest. (f.0, rest)) (fetches-more a hash (seen ++ b.answer ∷ []) ds rs f.1))

  -- a fair event of a get
  get-answered : (failed : List ℕ) (reading actor n : ℕ) (q : Query) (w : World) → IsFairGet d w (event_of failed reading actor n q w) → FetchAnswered (event_of failed reading actor n q w).event.answer q
  unfolding machine.fetch
  get-answered failed reading actor n (Query.Device x (Q.Fetch hash)) w fair = λ e. by (is_failed failed n) (fair e)
    where
      whole : (r : Stored) → replica_of hash (device_state x w) ≡ Some r → md5 r.bytes ≡ hash → IsBlock (line reading (Query.Device x (Q.Fetch hash)) w).answer
      whole r found same = rw (found, (bytes_eq-Decides (md5 r.bytes) hash).1 same) (r.bytes, refl)

      by : (b : Bool) → ((r : Stored) × ((replica_of hash (device_state x w) ≡ Some r) × (md5 r.bytes ≡ hash))) × ((asked b reading (Query.Device x (Q.Fetch hash)) w).answer ≢ An.Device A.StoreFault) → IsBlock (asked b reading (Query.Device x (Q.Fetch hash)) w).answer
      by true k = absurd (k.1 refl)
      by false k = whole k.0.0 k.0.1.0 k.0.1.1
  get-answered failed reading actor n (Query.Device x _) w fair = tt
  get-answered failed reading actor n (Query.Table q) w fair = tt

  at-asked : (P : Query → Type 0) (F : Type 0) (nx : Next) (q : Query) → nx ≡ asks q → P q → TakesOn P F nx → F
  at-asked P F nx q e p h = (subst (TakesOn P F) e h) p

  get-more : (c : Configuration) (failed : List ℕ) (s : Standing) (q : Query) (w : World) (reading n : ℕ) → FineGet s → next c s.task s.answers ≡ asks q → IsWorldOf c w → IsFairGet d w (event_of failed reading s.actor n q w) → FineGet (with_answer s (event_of failed reading s.actor n q w).event)
  unfolding next
  get-more c failed s q w reading n f e h fair =
      let a = answered_by (event_of failed reading s.actor n q w).event in
      record {
        devices = f.devices;
        hash = f.hash;
        task = f.task;
        among = f.among;
        answers = at-asked (FetchAnswered a.answer) _ (next c (T.Get f.devices f.hash) s.answers) q (ap (λ t. next c t s.answers) (sym f.task) ∙ e) (get-answered failed reading s.actor n q w fair) (fetches-more a f.hash [] f.devices s.answers f.answers);
      }

-- ---- a put's queries, answered

module _ (rules : DeviceRules) (reading : ℕ) (block : List ℕ) (s : State) where
  other-is : (r : Stored) → replica_of (md5 block) s ≡ Some r → bytes_eq r.bytes block ≡ false → bytes_eq (md5 r.bytes) (md5 block) ≡ true → HasOther block s
  other-is r found n e = record { replica = r; held = found; differs = λ same. false-true (sym n ∙ (bytes_eq-Decides r.bytes block).1 same); same_digest = (bytes_eq-Decides (md5 r.bytes) (md5 block)).0 e }

  -- a comparison that answers Collision found other bytes
  compare-other : (machine.compare_touch rules block reading s).answer ≡ A.Collision → HasOther block s
  unfolding machine.compare_touch
  compare-other e = by rules.read_only (replica_of (md5 block) s) refl e
    where
      ro : A.ReadOnly ≡ A.Collision → ⊥
      ro e = cc

      absent : A.Absent ≡ A.Collision → ⊥
      absent e = cc

      by : (b : Bool) (o : Option Stored) → replica_of (md5 block) s ≡ o → (if b then machine.stays A.ReadOnly s else machine.compared block reading s o).answer ≡ A.Collision → HasOther block s
      by true o f e = absurd (ro e)
      by false None f e = absurd (absent e)
      by false (Some r) f e = bytes (bytes_eq r.bytes block) (bytes_eq (md5 r.bytes) (md5 block)) refl refl e
        where
          touched : (m : ℕ) → A.Touched m ≡ A.Collision → ⊥
          touched m e = cc

          corrupt : (found : List ℕ) → A.Corrupt found ≡ A.Collision → ⊥
          corrupt found e = cc

          bytes : (x y : Bool) → bytes_eq r.bytes block ≡ x → bytes_eq (md5 r.bytes) (md5 block) ≡ y
              → (if x then machine.renewed (md5 block) reading r A.Touched s else machine.stays (if y then A.Collision else A.Corrupt (md5 r.bytes)) s).answer ≡ A.Collision → HasOther block s
          bytes true y p q e = absurd (touched _ e)
          bytes false true p q e = other-is r f p q
          bytes false false p q e = absurd (corrupt _ e)

  placed-answer : (mtime : ℕ) → (machine.placed rules block mtime s).answer ≡ A.Collision → ⊥
  placed-answer mtime e =
      by (nat_lt rules.capacity (machine.used s.held - machine.taken_by (replica_of (md5 block) s) + length block))
      (record { answer = A.Written mtime; state = machine.with_held (store.put (machine.replica (md5 block)) (store.stored mtime block) s.held) s }) (written mtime) e
    where
      full : (a b : ℕ) → A.Full a b ≡ A.Collision → ⊥
      full a b e = cc

      written : (m : ℕ) → A.Written m ≡ A.Collision → ⊥
      written m e = cc

      by : (b : Bool) (y : machine.Reply) → (y.answer ≡ A.Collision → ⊥) → (if b then machine.stays (A.Full (machine.used s.held) rules.capacity) s else y).answer ≡ A.Collision → ⊥
      by true y n e = full _ _ e
      by false y n e = n e

  -- a write that answers Collision found other bytes
  write-other : (machine.write rules block reading s).answer ≡ A.Collision → HasOther block s
  unfolding machine.write
  write-other e = by rules.read_only (replica_of (md5 block) s) refl e
    where
      ro : A.ReadOnly ≡ A.Collision → ⊥
      ro e = cc

      by : (b : Bool) (o : Option Stored) → replica_of (md5 block) s ≡ o → (if b then machine.stays A.ReadOnly s else machine.written rules block reading s o).answer ≡ A.Collision → HasOther block s
      by true o f e = absurd (ro e)
      by false None f e = absurd (placed-answer reading e)
      by false (Some r) f e = bytes (bytes_eq r.bytes block) (bytes_eq (md5 r.bytes) (md5 block)) refl refl e
        where
          written : (m : ℕ) → A.Written m ≡ A.Collision → ⊥
          written m e = cc

          bytes : (x y : Bool) → bytes_eq r.bytes block ≡ x → bytes_eq (md5 r.bytes) (md5 block) ≡ y
              → (if x then machine.renewed (md5 block) reading r A.Written s else if y then machine.stays A.Collision s else machine.placed rules block (max r.mtime reading) s).answer ≡ A.Collision → HasOther block s
          bytes true y p q e = absurd (written _ e)
          bytes false true p q e = other-is r f p q
          bytes false false p q e = absurd (placed-answer _ e)

  abbrev IsWrittenAnswer : DeviceAnswer → Type 0
  IsWrittenAnswer a = (m : ℕ) × (a ≡ A.Written m)

  placed-written : (mtime : ℕ) → HasRoom rules block s → IsWrittenAnswer (machine.placed rules block mtime s).answer
  placed-written mtime room = rw (le-ltb rules.capacity (machine.used s.held - machine.taken_by (replica_of (md5 block) s) + length block) room) (mtime, refl)

  -- a device that takes changes and has room writes
  write-written : rules.read_only ≡ false → HasRoom rules block s → (HasOther block s → ⊥) → IsWrittenAnswer (machine.write rules block reading s).answer
  unfolding machine.write
  write-written ro room free = rw ro (by (replica_of (md5 block) s) refl)
    where
      by : (o : Option Stored) → replica_of (md5 block) s ≡ o → IsWrittenAnswer (machine.written rules block reading s o).answer
      by None f = placed-written reading room
      by (Some r) f = bytes (bytes_eq r.bytes block) (bytes_eq (md5 r.bytes) (md5 block)) refl refl
        where
          bytes : (x y : Bool) → bytes_eq r.bytes block ≡ x → bytes_eq (md5 r.bytes) (md5 block) ≡ y
              → IsWrittenAnswer (if x then machine.renewed (md5 block) reading r A.Written s else if y then machine.stays A.Collision s else machine.placed rules block (max r.mtime reading) s).answer
          bytes true y p q = (_, refl)
          bytes false true p q = absurd (free (other-is r f p q))
          bytes false false p q = placed-written _ room

-- ---- puts

module _ (d : ℕ) where
  -- no answer was Collision, and device `d`, if it was asked to write, has written
  abbrev FineWrites : List ℕ → List Answered → Type 0
  FineWrites [] rs = ⊤
  FineWrites (x ∷ ds) [] = ⊤
  FineWrites (x ∷ ds) (a ∷ rs) = (a.answer ≢ An.Device A.Collision) × (x ≡ d → (m : ℕ) × (a.answer ≡ An.Device (A.Written m))) × FineWrites ds rs

  abbrev FineCompares : List ℕ → List ℕ → List Answered → Type 0
  FineCompares devices [] rs = FineWrites devices rs
  FineCompares devices (x ∷ ds) [] = ⊤
  FineCompares devices (x ∷ ds) (a ∷ rs) = (a.answer ≢ An.Device A.Collision) × FineCompares devices ds rs

  record FinePut (c : Configuration) (s : Standing) : Type 0 where
    devices : List ℕ
    token : List ℕ
    id : TokenId
    block : List ℕ
    task : s.task ≡ T.Put devices token id block
    among : is_among d devices ≡ true
    takes : AllByRecursion (λ x. is_read_only c x ≡ false) devices
    filled : (length block == 0) ≡ false
    answers : FineCompares devices devices s.answers

  module _ (c : Configuration) (token : List ℕ) (id : TokenId) (block devices : List ℕ) where
    compare-good : (a : Answer) (nx : Next) → a ≢ An.Device A.Collision → IsGoodNext IsStored nx → IsGoodNext IsStored (ends_or (on_device (compare_end c token block) a) nx)
    compare-good (An.Device (A.Touched m)) nx n g = tt
    compare-good (An.Device A.Collision) nx n g = absurd (n refl)
    compare-good (An.Device _) nx n g = g
    compare-good (An.Table t) nx n g = g

    write-good : (a : Answer) (nx : Next) → a ≢ An.Device A.Collision → IsGoodNext IsStored nx → IsGoodNext IsStored (ends_or (on_device (write_end c token block) a) nx)
    write-good (An.Device (A.Written m)) nx n g = tt
    write-good (An.Device A.Collision) nx n g = absurd (n refl)
    write-good (An.Device _) nx n g = g
    write-good (An.Table t) nx n g = g

    written-good : (a : Answer) (nx : Next) (m : ℕ) → a ≡ An.Device (A.Written m) → IsGoodNext IsStored (ends_or (on_device (write_end c token block) a) nx)
    written-good a nx m e = rw e tt

    writes-good : (seen : List Answer) (ds : List ℕ) (rs : List Answered) → is_among d ds ≡ true → FineWrites ds rs → IsGoodNext IsStored (walk (Q.Write block (Some id)) (on_device (write_end c token block)) (by_all not_written) seen ds rs)
    unfolding walk
    writes-good seen [] rs m f = false-true m
    writes-good seen (x ∷ ds) [] m f = tt
    writes-good seen (x ∷ ds) (a ∷ rs) m f =
        elim (or-split (x == d) (is_among d ds) m) [
          | inl same ↦ (let w = f.1 (eqb-true x d same) in written-good a.answer _ w.0 w.1)
          | inr later ↦ write-good a.answer _ f.0 (writes-good (seen ++ a.answer ∷ []) ds rs later f.2)
        ]

    compares-good : (seen : List Answer) (ds : List ℕ) (rs : List Answered) → is_among d devices ≡ true → FineCompares devices ds rs → IsGoodNext IsStored (walk (Q.CompareTouch block (Some id)) (on_device (compare_end c token block)) (writes c id token block devices) seen ds rs)
    unfolding walk
    compares-good seen [] rs m f = writes-good [] devices rs m f
    compares-good seen (x ∷ ds) [] m f = tt
    compares-good seen (x ∷ ds) (a ∷ rs) m f = compare-good a.answer _ f.0 (compares-good (seen ++ a.answer ∷ []) ds rs m f.1)

    -- what is known of a fair answer
    abbrev PutAnswered : Answer → Query → Type 0
    PutAnswered a (Query.Device x (Q.CompareTouch b t)) = a ≢ An.Device A.Collision
    PutAnswered a (Query.Device x (Q.Write b t)) = (a ≢ An.Device A.Collision) × (x ≡ d → (m : ℕ) × (a ≡ An.Device (A.Written m)))
    PutAnswered a _ = ⊤

    nil-writes : (ds : List ℕ) → FineWrites ds []
    nil-writes [] = tt
    nil-writes (x ∷ ds) = tt

    nil-compares : (ds : List ℕ) → FineCompares devices ds []
    nil-compares [] = nil-writes devices
    nil-compares (x ∷ ds) = tt

    writes-more : (a : Answered) (seen : List Answer) (ds : List ℕ) (rs : List Answered) → FineWrites ds rs → TakesOn (PutAnswered a.answer) (FineWrites ds (rs ++ a ∷ [])) (walk (Q.Write block (Some id)) (on_device (write_end c token block)) (by_all not_written) seen ds rs)
    unfolding walk
    writes-more a seen [] rs f = tt
    writes-more a seen (x ∷ ds) [] f = λ ok. (ok.0, ok.1, nil-writes ds)
    writes-more a seen (x ∷ ds) (b ∷ rs) f =
        takes-or (PutAnswered a.answer) _ (on_device (write_end c token block) b.answer) _ (takes-map (PutAnswered a.answer) _ _ _ (λ rest. (f.0, f.1, rest)) (writes-more a (seen ++ b.answer ∷ []) ds rs f.2))

    compares-more : (a : Answered) (seen : List Answer) (ds : List ℕ) (rs : List Answered) → FineCompares devices ds rs → TakesOn (PutAnswered a.answer) (FineCompares devices ds (rs ++ a ∷ [])) (walk (Q.CompareTouch block (Some id)) (on_device (compare_end c token block)) (writes c id token block devices) seen ds rs)
    unfolding walk
    compares-more a seen [] rs f = writes-more a [] devices rs f
    compares-more a seen (x ∷ ds) [] f = λ ok. (ok, nil-compares ds)
    compares-more a seen (x ∷ ds) (b ∷ rs) f =
        takes-or (PutAnswered a.answer) _ (on_device (compare_end c token block) b.answer) _ (takes-map (PutAnswered a.answer) _ _ _ (λ rest. (f.0, rest)) (compares-more a (seen ++ b.answer ∷ []) ds rs f.1))

    -- the event of a fair put
    module _ (failed : List ℕ) (reading actor n : ℕ) (w : World) (world : IsWorldOf c w) (filled : (length block == 0) ≡ false) where
      device-collision : (b : Bool) (x : ℕ) (q : DeviceQuery) → (machine.step (device_rules w.config x) reading q (device_state x w)).answer ≢ A.Collision → (if b then stays (An.Device A.StoreFault) w else line reading (Query.Device x q) w).answer ≢ An.Device A.Collision
      device-collision true x q never = λ e. absurd (fault e)
        where
          fault : An.Device A.StoreFault ≡ An.Device A.Collision → ⊥
          fault e = cc
      device-collision false x q never = λ e. never (same e)
        where
          same : {a b : DeviceAnswer} → An.Device a ≡ An.Device b → a ≡ b
          same e = cc

      -- a device that isn't the configuration's has no room
      may-write : (x : ℕ) → is_read_only c x ≡ false → HasRoom (device_rules w.config x) block (device_state x w) → (device_rules w.config x).read_only ≡ false
      may-write x ro room =
          elim (rules-change c (slice_get c.devices x) ro) as (λ _. (device_rules w.config x).read_only ≡ false) [
            | inl none ↦ absurd (let cap : (device_rules w.config x).capacity ≡ 0 = rw (world.0, none) refl in eqb-false (length block) 0 filled (omega (arith, cap, room)))
            | inr can ↦ rw world.0 can
          ]

      written-device : (b : Bool) (x : ℕ) (t : Option TokenId) → (HasOther block (device_state x w) → ⊥) → is_read_only c x ≡ false → HasRoom (device_rules w.config x) block (device_state x w) × ((if b then stays (An.Device A.StoreFault) w else line reading (Query.Device x (Q.Write block t)) w).answer ≢ An.Device A.StoreFault)
          → (m : ℕ) × ((if b then stays (An.Device A.StoreFault) w else line reading (Query.Device x (Q.Write block t)) w).answer ≡ An.Device (A.Written m))
      written-device true x t free ro k = absurd (k.1 refl)
      written-device false x t free ro k =
          let r = write-written (device_rules w.config x) reading block (device_state x w) (may-write x ro k.0) k.0 free in
          (r.0, ap An.Device r.1)

      put-answered : (q : Query) → NextFits (λ b. b ≡ block) (T.Put devices token id block) (asks q) → IfSome (block_on q) (λ b. is_read_only c b.device ≡ false) → IsFairPut d w (event_of failed reading actor n q w) → PutAnswered (event_of failed reading actor n q w).event.answer q
      put-answered (Query.Device x (Q.CompareTouch b t)) same ro fair = device-collision (is_failed failed n && true) x (Q.CompareTouch b t) (λ e. fair.0 (compare-other (device_rules w.config x) reading b (device_state x w) e))
      put-answered (Query.Device x (Q.Write b t)) same ro fair = (
        device-collision (is_failed failed n && true) x (Q.Write b t) (λ e. fair.0 (write-other (device_rules w.config x) reading b (device_state x w) e)),
        λ e. by b same fair.0 (fair.1 e),
      )
        where
          by : (b : List ℕ) → b ≡ block → (HasOther b (device_state x w) → ⊥) → HasRoom (device_rules w.config x) b (device_state x w) × ((asked (is_failed failed n) reading (Query.Device x (Q.Write b t)) w).answer ≢ An.Device A.StoreFault) → (m : ℕ) × ((asked (is_failed failed n) reading (Query.Device x (Q.Write b t)) w).answer ≡ An.Device (A.Written m))
          by b same free k = rw same (written-device (is_failed failed n && true) x t (rw same at free) ro (rw same at k))
      put-answered (Query.Device x _) same ro fair = tt
      put-answered (Query.Table q) same ro fair = tt

  put-good : (c : Configuration) (s : Standing) → FinePut c s → IsGoodNext IsStored (next c s.task s.answers)
  unfolding next
  put-good c s f = rw f.task (compares-good c f.token f.id f.block f.devices [] f.devices s.answers f.among f.answers)

  any-answers : (rs : List Answered) → AllByRecursion (λ a. ⊤) rs
  any-answers [] = tt
  any-answers (a ∷ rs) = (tt, any-answers rs)

  put-more : (c : Configuration) (failed : List ℕ) (s : Standing) (q : Query) (w : World) (reading n : ℕ) → FinePut c s → next c s.task s.answers ≡ asks q → IsWorldOf c w → IsFairPut d w (event_of failed reading s.actor n q w) → FinePut c (with_answer s (event_of failed reading s.actor n q w).event)
  unfolding next
  put-more c failed s q w reading n f e h fair =
      let a = answered_by (event_of failed reading s.actor n q w).event in
      let task = T.Put f.devices f.token f.id f.block in
      let e' : next c task s.answers ≡ asks q = ap (λ t. next c t s.answers) (sym f.task) ∙ e in
      let same : NextFits (λ b. b ≡ f.block) task (asks q) = subst (NextFits (λ b. b ≡ f.block) task) e' (next-fits (λ b. b ≡ f.block) c task s.answers refl (any-answers s.answers)) in
      let collides : CollidesNext c a (asks q) (next c task (s.answers ++ a ∷ [])) = subst (λ x. CollidesNext c a x (next c task (s.answers ++ a ∷ []))) e' (put-collides c a f.devices f.token f.id f.block s.answers f.takes) in
      let ro : IfSome (block_on q) (λ b. is_read_only c b.device ≡ false) = some-more _ _ (block_on q) (λ b k. k.0) collides in
      record {
        devices = f.devices;
        token = f.token;
        id = f.id;
        block = f.block;
        task = f.task;
        among = f.among;
        takes = f.takes;
        filled = f.filled;
        answers = at-asked d (PutAnswered c f.token f.id f.block f.devices a.answer) _ (next c task s.answers) q e' (put-answered c f.token f.id f.block f.devices failed reading s.actor n w h f.filled q same ro fair) (compares-more c f.token f.id f.block f.devices a [] f.devices s.answers f.answers);
      }

-- ---- openings

some-among : (d : ℕ) (ds : List ℕ) → is_among d ds ≡ true → (length ds == 0) ≡ false
some-among d [] e = false-true e
some-among d (x ∷ ds) e = by (length (x ∷ ds) == 0) refl
  where
    by : (b : Bool) → (length (x ∷ ds) == 0) ≡ b → b ≡ false
    by true n = absurd (let z : length (x ∷ ds) ≡ 0 = eqb-true (length (x ∷ ds)) 0 n in omega (arith, z))
    by false n = refl

opened-put : (c : Configuration) (token : List ℕ) (server : ℕ) (bytes : List ℕ) (hash : Option (List ℕ)) (d reading : ℕ) (g : IsGoodPut c token server bytes hash d) (b : Bool) → (length bytes == 0) ≡ b → opened c (Open.Put token server bytes hash) reading ≡ (if b then Err (O.Stored empty_locator) else Ok (T.Put (writable c server) token g.id bytes))
unfolding opened
opened-put c token server bytes hash d reading g b e = rw (g.known, le-ltb 67108864 (length bytes) g.short, g.digest, e, some-among d (writable c server) g.device) refl

opened-get : (c : Configuration) (token : List ℕ) (server : ℕ) (locator : List ℕ) (d reading : ℕ) (g : IsGoodGet c token server locator reading d) → (opened c (Open.Get token server locator) reading ≡ Err (O.Bytes [])) ⊎ ((hash : List ℕ) × (opened c (Open.Get token server locator) reading ≡ Ok (T.Get (devices_of c server) hash)))
unfolding opened
opened-get c token server locator d reading g = by (is_empty_block locator) (permitted_block c g.id token locator reading) refl refl g.valid
  where
    by : (b : Bool) (r : Result (List ℕ) Outcome) → is_empty_block locator ≡ b → permitted_block c g.id token locator reading ≡ r → (b ≡ true) ⊎ IsOk r
        → (opened c (Open.Get token server locator) reading ≡ Err (O.Bytes [])) ⊎ ((hash : List ℕ) × (opened c (Open.Get token server locator) reading ≡ Ok (T.Get (devices_of c server) hash)))
    by true r e p v = inl (rw (g.known, g.form, e) refl)
    by false (Ok hash) e p v = inr (hash, rw (g.known, g.form, e, p, some-among d (devices_of c server) g.device) refl)
    by false (Err o) e p (inl v) = false-true v
    by false (Err o) e p (inr v) = false-true v

module _ (c : Configuration) (failed : List ℕ) (scene : Scene) (name : List ℕ) (reading : ℕ) (rest : List (List ℕ)) where
  put-well : (token : List ℕ) (server : ℕ) (bytes : List ℕ) (hash : Option (List ℕ)) (d : ℕ) → IsGoodPut c token server bytes hash d → SceneTakes c failed (open_effect scene name (opened c (Open.Put token server bytes hash) reading)).scene
      → OpensWell (IsFairPut d) IsStored c failed name reading (Open.Put token server bytes hash) (open_effect scene name (opened c (Open.Put token server bytes hash) reading)).scene rest
  put-well token server bytes hash d g k = by (length bytes == 0) refl
    where
      task : Task
      task = T.Put (writable c server) token g.id bytes

      is : (b : Bool) → (length bytes == 0) ≡ b → opened c (Open.Put token server bytes hash) reading ≡ (if b then Err (O.Stored empty_locator) else Ok task)
      is b e = opened-put c token server bytes hash d reading g b e

      by : (b : Bool) → (length bytes == 0) ≡ b → OpensWell (IsFairPut d) IsStored c failed name reading (Open.Put token server bytes hash) (open_effect scene name (opened c (Open.Put token server bytes hash) reading)).scene rest
      by true e = rw (is true e) tt
      by false e =
          let k' : SceneTakes c failed (open_effect scene name (Ok task)).scene = subst (λ r. SceneTakes c failed (open_effect scene name r).scene) (is false e) k in
          rw (is false e) (goes-well c failed (IsFairPut d) IsStored (FinePut d c) (put-good d c) (put-more d c failed) name (open_effect scene name (Ok task)).scene rest (record {
            takes = k';
            standing = record { task = task; actor = length scene.names; answers = [] };
            there = at-same name (S.Open (record { task = task; actor = length scene.names; answers = [] })) scene.names;
            fine = record {
              devices = writable c server;
              token = token;
              id = g.id;
              block = bytes;
              task = refl;
              among = g.device;
              takes = takes-changes c failed server;
              filled = e;
              answers = nil-compares d c token g.id bytes (writable c server) (writable c server);
            };
          }))

  get-well : (token : List ℕ) (server : ℕ) (locator : List ℕ) (d : ℕ) → IsGoodGet c token server locator reading d → SceneTakes c failed (open_effect scene name (opened c (Open.Get token server locator) reading)).scene
      → OpensWell (IsFairGet d) IsRead c failed name reading (Open.Get token server locator) (open_effect scene name (opened c (Open.Get token server locator) reading)).scene rest
  get-well token server locator d g k = by (opened-get c token server locator d reading g)
    where
      by : (opened c (Open.Get token server locator) reading ≡ Err (O.Bytes [])) ⊎ ((hash : List ℕ) × (opened c (Open.Get token server locator) reading ≡ Ok (T.Get (devices_of c server) hash))) → OpensWell (IsFairGet d) IsRead c failed name reading (Open.Get token server locator) (open_effect scene name (opened c (Open.Get token server locator) reading)).scene rest
      by (inl e) = rw e tt
      by (inr (hash, e)) =
          let task = T.Get (devices_of c server) hash in
          let k' : SceneTakes c failed (open_effect scene name (Ok task)).scene = subst (λ r. SceneTakes c failed (open_effect scene name r).scene) e k in
          rw e (goes-well c failed (IsFairGet d) IsRead (FineGet d) (get-good d c) (get-more d c failed) name (open_effect scene name (Ok task)).scene rest (record {
            takes = k';
            standing = record { task = task; actor = length scene.names; answers = [] };
            there = at-same name (S.Open (record { task = task; actor = length scene.names; answers = [] })) scene.names;
            fine = record { devices = devices_of c server; hash = hash; task = refl; among = g.device; answers = nil-fetches d (devices_of c server) };
          }))

  opening-well : (opening : Opening) → SceneTakes c failed (open_effect scene name (opened c opening reading)).scene → OpeningEndsWell c failed (Some (C.Open name reading opening)) (open_effect scene name (opened c opening reading)).scene rest
  opening-well (Open.Put token server bytes hash) k = λ d g. put-well token server bytes hash d g k
  opening-well (Open.Get token server locator) k = λ d g. get-well token server locator d g k
  opening-well _ k = tt

module _ (c : Configuration) (failed : List ℕ) where
  nothing-opened : (o : Option Effect) → IfSome o (λ e. SceneTakes c failed e.scene → ⊤)
  nothing-opened None = tt
  nothing-opened (Some e) = λ k. tt

  command-well : (scene : Scene) (command : Command) (rest : List (List ℕ)) → IfSome (effect_of_command c failed scene command) (λ e. SceneTakes c failed e.scene → OpeningEndsWell c failed (Some command) e.scene rest)
  unfolding effect_of_command
  command-well scene (C.Open name reading opening) rest = λ k. opening-well c failed scene name reading rest opening k
  command-well scene (C.Step name reading) rest = nothing-opened (effect_of_command c failed scene (C.Step name reading))
  command-well scene (C.Finish name reading) rest = nothing-opened (effect_of_command c failed scene (C.Finish name reading))

  given-well : (scene : Scene) (o : Option Command) (rest : List (List ℕ)) → IfSome (option_and_then (effect_of_command c failed scene) o) (λ e. SceneTakes c failed e.scene → OpeningEndsWell c failed o e.scene rest)
  given-well scene None rest = tt
  given-well scene (Some command) rest = command-well scene command rest

  line-well : (scene : Scene) (text : List ℕ) (rest : List (List ℕ)) → IfSome (effect_of_line c failed scene text) (λ e. SceneTakes c failed e.scene → OpeningEndsWell c failed (command_at c scene text) e.scene rest)
  line-well scene [] rest = λ k. tt
  line-well scene (x ∷ xs) rest = given-well scene (command_in c scene (x ∷ xs)) rest

  are-well : (scene : Scene) (pieces : List (List ℕ)) → SceneTakes c failed scene → AreEndedWell c failed scene pieces
  are-well scene [] h = tt
  are-well scene (piece ∷ rest) h =
      some-more _ _ (effect_of_line c failed scene (text_of piece)) (λ e both. (both.1 both.0, are-well e.scene rest both.0))
      (both-some _ _ (effect_of_line c failed scene (text_of piece)) (scene-takes c failed scene (text_of piece) h) (line-well scene (text_of piece) rest))

well-begun : (failed : List ℕ) (o : Option Begun) → IfSome o (λ (b : Begun). AreEndedWell b.config failed (at_start b.config).scene b.rest)
well-begun failed None = tt
well-begun failed (Some b) = are-well b.config failed (at_start b.config).scene b.rest (record { world = new-world b.config; names = tt })

pub told-good-tasks : (stores : ℕ) (told : Option (List ℕ)) → IfSome told (λ bytes. (failed : List ℕ) → GoodTasksEndWell stores failed bytes)
told-good-tasks stores None = tt
told-good-tasks stores (Some bytes) = λ failed. well-begun failed (begun_of stores (cut bytes))
