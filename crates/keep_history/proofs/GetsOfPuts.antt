-- The bytes that gets return were put: `told-reads`.
use Rattle.std.proofs.Common.{◌≡◌, ℕ, zero, suc, ◌+◌, Bool, true, false, List, [], ◌∷◌, ◌++◌, Option, None, Some, IfSome, inl, inr, refl}
use Rattle.std.specs.Prelude.{⊤, ◌-◌, length, max, nat_lt, ◌==◌, ◌&&◌, unwrap_or, option_map, if◌then◌else◌, map, slice_index_or, slice_set}
use Rattle.std.specs.List.{AllByRecursion}
use Rattle.std.proofs.lemmas.Slice.Eq.{bytes_eq-Decides}
use Rattle.std.specs.Str.{bytes_eq}
use Rattle.md5.specs.Md5.{md5}
use Rattle.keep_spec.specs.Config.{Configuration}
use Rattle.keep_spec.specs.Lines.{cut, text_of}
use Rattle.keep_spec.specs.declared.config.Device.{Device}
use Rattle.keep_event.specs.Store as store
use Rattle.keep_event.specs.Device as machine
use Rattle.keep_event.specs.Device.{State}
use Rattle.keep_event.specs.World.{World, Reply, asked, line, may_fault, stays, device_rules, device_state}
use Rattle.keep_event.specs.declared.names.Stored.{Stored}
use Rattle.keep_event.specs.declared.device.DeviceRules.{DeviceRules}
use Rattle.keep_event.specs.declared.lists.PullItem.{PullItem}
use Rattle.keep_event.specs.declared.device.DeviceAnswer.TheVariants as A
use Rattle.keep_event.specs.declared.device.DeviceQuery.{DeviceQuery}
use Rattle.keep_event.specs.declared.device.DeviceQuery.TheVariants as Q
use Rattle.keep_event.specs.declared.event.Answer.{Answer}
use Rattle.keep_event.specs.declared.event.Answer.TheVariants as An
use Rattle.keep_event.specs.declared.event.Query.{Query}
use Rattle.keep_history.specs.declared.task.Command.{Command}
use Rattle.keep_history.specs.declared.task.Command.TheVariants as C
use Rattle.keep_history.specs.declared.task.Opening.{Opening}
use Rattle.keep_history.specs.declared.task.Opening.TheVariants as Open
use Rattle.keep_history.specs.declared.task.Outcome.{Outcome}
use Rattle.keep_history.specs.declared.task.Outcome.TheVariants as O
use Rattle.keep_history.specs.declared.task.Task.{Task}
use Rattle.keep_history.specs.declared.task.Task.TheVariants as T
use Rattle.keep_history.specs.declared.task.TaskState.{TaskState}
use Rattle.keep_history.specs.declared.task.TaskState.TheVariants as S
use Rattle.keep_history.specs.Effects.{Scene, Standing, Effect, Asked, Made, after_made, answered_by, asked_on, asked_in, command_in, effect_of_line, event_of, events_max, is_failed, with_answer}
use Rattle.keep_history.specs.Balance.{balances}
use Rattle.keep_history.specs.Ended.{Begun, begun_of}
use Rattle.keep_history.specs.Reads.{bytes_put, Read, read_by, read_in, IsAmong, IsOfPut, AreOfPuts, ReadsAreOfPuts}
use Rattle.keep_history.specs.Run.{at_start}
use Rattle.keep_history.specs.Next.{Answered, Next, asks, ends, ends_or}
use Rattle.keep_history.specs.Tasks.{next, walk, on_device, by_all, writes, compare_end, write_end, fetch_end, touch_end, no_end, not_written, not_fetched, not_touched, untrashed, first_found, any_fault}
use Rattle.keep_history.specs.Workers.{empties, pulls, trashes}
use Rattle.keep_history.proofs.Held.{HoldAll, BringsAll, all-found, step-all}
use Rattle.keep_history.proofs.Lines.{AskedHas, Begins, CommandHas, GoesOn, SceneHas, StateHas, both-some, line-gives, line-keeps, some-more}
use Rattle.keep_history.proofs.Names.{all-more}
use Rattle.keep_history.proofs.Openings.{IsMade}
use Rattle.keep_history.proofs.Rounds.{BlockHas, NextHas, balance-asks, empty-asks, pull-asks, trash-asks}

-- ---- lists

all-at : {X : Type 0} (R : X → Type 0) (xs : List X) (i : ℕ) (d : X) → AllByRecursion R xs → R d → R (slice_index_or xs i d)
all-at R [] i d h r = r
all-at R (x ∷ xs) zero d h r = h.0
all-at R (x ∷ xs) (suc i) d h r = all-at R xs i d h.1 r

all-set : {X : Type 0} (R : X → Type 0) (xs : List X) (i : ℕ) (y : X) → AllByRecursion R xs → R y → AllByRecursion R (slice_set xs i y)
all-set R [] i y h r = tt
all-set R (x ∷ xs) zero y h r = (r, h.1)
all-set R (x ∷ xs) (suc i) y h r = (h.0, all-set R xs i y h.1 r)

all-last : {X : Type 0} (R : X → Type 0) (xs : List X) (y : X) → AllByRecursion R xs → R y → AllByRecursion R (xs ++ y ∷ [])
all-last R [] y h r = (r, tt)
all-last R (x ∷ xs) y h r = (h.0, all-last R xs y h.1 r)

module _ (P : List ℕ → Type 0) where
  -- ---- what tasks bring, and what they are answered

  -- the block that a task brings has P
  abbrev pub TaskBrings : Task → Type 0
  TaskBrings (T.Put devices token id block) = P block
  TaskBrings _ = ⊤

  -- the bytes of an answer have the digest, and P
  abbrev pub Fetches : List ℕ → Answer → Type 0
  Fetches hash (An.Device (A.Block bytes)) = (md5 bytes ≡ hash) × P bytes
  Fetches hash _ = ⊤

  -- a get was answered blocks of its digest, a pull worker blocks that have P
  abbrev pub AnswerFits : Task → Answer → Type 0
  AnswerFits (T.Get devices hash) a = Fetches hash a
  AnswerFits (T.PullWorker device) a = BlockHas P a
  AnswerFits _ a = ⊤

  -- a pull worker takes items, and writes blocks that it fetched
  abbrev pub PullFits : DeviceQuery → Type 0
  PullFits Q.PullNext = ⊤
  PullFits (Q.Fetch hash) = ⊤
  PullFits (Q.Write block token) = P block
  PullFits _ = ⊥

  -- a get asks for its digest, and the blocks that another task brings have P
  abbrev pub QueryFits : Task → Query → Type 0
  QueryFits (T.Get devices hash) (Query.Device d q) = q ≡ Q.Fetch hash
  QueryFits (T.Get devices hash) (Query.Table q) = ⊥
  QueryFits (T.PullWorker device) (Query.Device d q) = PullFits q
  QueryFits (T.PullWorker device) (Query.Table q) = ⊥
  QueryFits _ (Query.Device d q) = BringsAll P q
  QueryFits _ (Query.Table q) = ⊤

  abbrev pub IsRead : Read → Type 0
  IsRead r = (md5 r.bytes ≡ r.digest) × P r.bytes

  abbrev pub NextFits : Task → Next → Type 0
  NextFits task (asks q) = QueryFits task q
  NextFits task (ends outcome) = IfSome (read_by task outcome) IsRead

  record StandingBrings (s : Standing) : Type 0 where
    task : TaskBrings s.task
    answers : AllByRecursion (λ a. AnswerFits s.task a.answer) s.answers

  -- ---- what comes next

  ends-or-fits : (task : Task) (o : Option Outcome) (n : Next) → ((outcome : Outcome) → NextFits task (ends outcome)) → NextFits task n → NextFits task (ends_or o n)
  ends-or-fits task None n e h = h
  ends-or-fits task (Some o) n e h = e o

  walk-fits : (task : Task) (q : DeviceQuery) (end : Answer → Option Outcome) (after : List Answer → List Answered → Next) → ((d : ℕ) → QueryFits task (Query.Device d q)) → ((outcome : Outcome) → NextFits task (ends outcome)) → ((seen : List Answer) (answers : List Answered) → NextFits task (after seen answers)) → (seen : List Answer) (ds : List ℕ) (answers : List Answered) → NextFits task (walk q end after seen ds answers)
  unfolding walk
  walk-fits task q end after p e h seen [] answers = h seen answers
  walk-fits task q end after p e h seen (d ∷ ds) [] = p d
  walk-fits task q end after p e h seen (d ∷ ds) (a ∷ answers) = ends-or-fits task (end a.answer) _ e (walk-fits task q end after p e h (seen ++ a.answer ∷ []) ds answers)

  not-given : (devices hash : List ℕ) (o : Option (List ℕ)) (fault : Bool) → NextFits (T.Get devices hash) (ends (unwrap_or (option_map O.Corrupt o) (if fault then O.StoreFault else O.NotFound)))
  not-given devices hash (Some found) fault = tt
  not-given devices hash None true = tt
  not-given devices hash None false = tt

  fetch-goes : (devices hash : List ℕ) (a : Answer) (nx : Next) → Fetches hash a → NextFits (T.Get devices hash) nx → NextFits (T.Get devices hash) (ends_or (on_device fetch_end a) nx)
  fetch-goes devices hash (An.Device (A.Block bytes)) nx f g = f
  fetch-goes devices hash (An.Device _) nx f g = g
  fetch-goes devices hash (An.Table t) nx f g = g

  walk-gets : (devices hash : List ℕ) (seen : List Answer) (ds : List ℕ) (answers : List Answered) → AllByRecursion (λ a. Fetches hash a.answer) answers → NextFits (T.Get devices hash) (walk (Q.Fetch hash) (on_device fetch_end) (by_all not_fetched) seen ds answers)
  unfolding walk
  walk-gets devices hash seen [] answers f = not-given devices hash (first_found seen) (any_fault seen)
  walk-gets devices hash seen (d ∷ ds) [] f = refl
  walk-gets devices hash seen (d ∷ ds) (a ∷ answers) f = fetch-goes devices hash a.answer _ f.0 (walk-gets devices hash (seen ++ a.answer ∷ []) ds answers f.1)

  quiet-fits : (task : Task) (nx : Next) → ((outcome : Outcome) → NextFits task (ends outcome)) → NextHas (QueryFits task) nx → NextFits task nx
  quiet-fits task (asks q) e h = h
  quiet-fits task (ends outcome) e h = e outcome

  pub next-fits : (c : Configuration) (task : Task) (answers : List Answered) → TaskBrings task → AllByRecursion (λ a. AnswerFits task a.answer) answers → NextFits task (next c task answers)
  unfolding next
  next-fits c (T.Put devices token id block) answers p f =
      walk-fits (T.Put devices token id block) (Q.CompareTouch block (Some id)) (on_device (compare_end c token block)) (writes c id token block devices) (λ d. p) (λ o. tt)
      (λ seen rest. walk-fits (T.Put devices token id block) (Q.Write block (Some id)) (on_device (write_end c token block)) (by_all not_written) (λ d. p) (λ o. tt) (λ s r. tt) [] devices rest) [] devices answers
  next-fits c (T.Get devices hash) answers p f = walk-gets devices hash [] devices answers f
  next-fits c (T.Touch devices token id hash text) answers p f = walk-fits (T.Touch devices token id hash text) (Q.Touch hash (Some id)) (on_device (touch_end c token hash text)) (by_all not_touched) (λ d. tt) (λ o. tt) (λ s r. tt) [] devices answers
  next-fits c (T.Untrash devices hash) answers p f = walk-fits (T.Untrash devices hash) (Q.Untrash hash) (on_device no_end) (by_all untrashed) (λ d. tt) (λ o. tt) (λ s r. tt) [] devices answers
  next-fits c (T.Restart device) [] p f = tt
  next-fits c (T.Restart device) (a ∷ answers) p f = tt
  next-fits c (T.Table q) [] p f = tt
  next-fits c (T.Table q) (a ∷ answers) p f = tt
  next-fits c T.Balance answers p f =
      quiet-fits T.Balance (balances c answers) (λ o. tt) (balance-asks (QueryFits T.Balance) c tt (λ d n. tt) (λ d n prefix. tt) (λ n after limit. tt) (λ d n lists. tt) answers)
  next-fits c (T.TrashWorker device) answers p f = quiet-fits (T.TrashWorker device) (trashes device answers) (λ o. tt) (trash-asks (QueryFits (T.TrashWorker device)) device answers tt)
  next-fits c (T.PullWorker device) answers p f =
      quiet-fits (T.PullWorker device) (pulls c device answers) (λ o. tt) (pull-asks P (QueryFits (T.PullWorker device)) device tt (λ d hash. tt) (λ bytes r. r) c answers f)
  next-fits c (T.EmptyWorker device) answers p f = quiet-fits (T.EmptyWorker device) (empties device answers) (λ o. tt) (empty-asks (QueryFits (T.EmptyWorker device)) device answers tt)

  -- ---- the world

  -- all that devices hold has P
  abbrev WorldHolds : World → Type 0
  WorldHolds w = AllByRecursion (λ (s : State). HoldAll P s.held) w.devices

  pull-brings : (q : DeviceQuery) → PullFits q → BringsAll P q
  pull-brings Q.PullNext f = tt
  pull-brings (Q.Fetch hash) f = tt
  pull-brings (Q.Write block token) f = f
  pull-brings _ f = absurd f

  brings : (task : Task) (d : ℕ) (q : DeviceQuery) → QueryFits task (Query.Device d q) → BringsAll P q
  brings (T.Put devices token id block) d q f = f
  brings (T.Get devices hash) d q f = rw f tt
  brings (T.Touch devices token id hash text) d q f = f
  brings (T.Untrash devices hash) d q f = f
  brings (T.Restart device) d q f = f
  brings (T.Table t) d q f = f
  brings T.Balance d q f = f
  brings (T.TrashWorker device) d q f = f
  brings (T.PullWorker device) d q f = pull-brings q f
  brings (T.EmptyWorker device) d q f = f

  module _ (reading : ℕ) (w : World) (h : WorldHolds w) where
    device-holds : (d : ℕ) → HoldAll P (device_state d w).held
    device-holds d = all-at (λ (s : State). HoldAll P s.held) w.devices d machine.initial h tt

    line-holds : (task : Task) (q : Query) → QueryFits task q → WorldHolds (line reading q w).world
    line-holds task (Query.Device d q) f =
        all-set (λ (s : State). HoldAll P s.held) w.devices d _ h (step-all P (device_rules w.config d) reading (device_state d w) (device-holds d) q (brings task d q f))
    line-holds task (Query.Table q) f = h

    fetched-has : (hash : List ℕ) (s : State) (o : Option Stored) → IfSome o (λ r. P r.bytes) → Fetches hash (An.Device (machine.fetched hash s o).answer)
    fetched-has hash s None p = tt
    fetched-has hash s (Some r) p = by (bytes_eq (md5 r.bytes) hash) refl
      where
        by : (b : Bool) → bytes_eq (md5 r.bytes) hash ≡ b → Fetches hash (An.Device (machine.fetched hash s (Some r)).answer)
        by true e = rw e ((bytes_eq-Decides (md5 r.bytes) hash).0 e, p)
        by false e = rw e tt

    fetch-fits : (d : ℕ) (hash : List ℕ) → Fetches hash (line reading (Query.Device d (Q.Fetch hash)) w).answer
    unfolding machine.fetch
    fetch-fits d hash = let s = device_state d w in fetched-has hash s (machine.replica_of hash s) (all-found P (machine.replica hash) s.held (device-holds d))

    -- a pull worker's answers: no line but a fetch's answers with a block
    block-of : (hash : List ℕ) (a : Answer) → Fetches hash a → BlockHas P a
    block-of hash (An.Device (A.Block bytes)) f = f.1
    block-of hash (An.Device _) f = tt
    block-of hash (An.Table t) f = tt

    -- an answer without a block
    abbrev HasNoBlock : machine.Reply → Type 0
    HasNoBlock r = BlockHas P (An.Device r.answer)

    no-block-if : (b : Bool) (x y : machine.Reply) → HasNoBlock x → HasNoBlock y → HasNoBlock (if b then x else y)
    no-block-if true x y p q = p
    no-block-if false x y p q = q

    module _ (d : ℕ) (block : List ℕ) where
      abbrev rules : DeviceRules
      rules = device_rules w.config d

      abbrev there : State
      there = device_state d w

      placed-no-block : (mtime : ℕ) → HasNoBlock (machine.placed rules block mtime there)
      placed-no-block mtime =
          no-block-if (nat_lt rules.capacity (machine.used there.held - machine.taken_by (machine.replica_of (md5 block) there) + length block)) (machine.stays (A.Full (machine.used there.held) rules.capacity) there)
          (record { answer = A.Written mtime; state = machine.with_held (store.put (machine.replica (md5 block)) (store.stored mtime block) there.held) there }) tt tt

      written-no-block : (o : Option Stored) → HasNoBlock (machine.written rules block reading there o)
      written-no-block None = placed-no-block reading
      written-no-block (Some r) =
          let kept : machine.Reply = if bytes_eq (md5 r.bytes) (md5 block) then machine.stays A.Collision there else machine.placed rules block (max r.mtime reading) there in
          no-block-if (bytes_eq r.bytes block) (machine.renewed (md5 block) reading r A.Written there) kept tt
          (no-block-if (bytes_eq (md5 r.bytes) (md5 block)) (machine.stays A.Collision there) (machine.placed rules block (max r.mtime reading) there) tt (placed-no-block (max r.mtime reading)))

      write-no-block : HasNoBlock (machine.write rules block reading there)
      unfolding machine.write
      write-no-block =
          no-block-if rules.read_only (machine.stays A.ReadOnly there) (machine.written rules block reading there (machine.replica_of (md5 block) there)) tt (written-no-block (machine.replica_of (md5 block) there))

    pull-no-block : (s : State) (items : List PullItem) → HasNoBlock (machine.pull_first s items)
    pull-no-block s [] = tt
    pull-no-block s (item ∷ rest) = tt

    pull-fits : (d : ℕ) (q : DeviceQuery) → PullFits q → BlockHas P (line reading (Query.Device d q) w).answer
    unfolding machine.pull_next
    pull-fits d Q.PullNext f = pull-no-block (device_state d w) (device_state d w).pull
    pull-fits d (Q.Fetch hash) f = block-of hash (line reading (Query.Device d (Q.Fetch hash)) w).answer (fetch-fits d hash)
    pull-fits d (Q.Write block token) f = write-no-block d block
    pull-fits d _ f = absurd f

    line-fits : (task : Task) (q : Query) → QueryFits task q → AnswerFits task (line reading q w).answer
    line-fits (T.Get devices hash) (Query.Device d q) f = rw f (fetch-fits d hash)
    line-fits (T.Get devices hash) (Query.Table q) f = absurd f
    line-fits (T.PullWorker device) (Query.Device d q) f = pull-fits d q f
    line-fits (T.PullWorker device) (Query.Table q) f = absurd f
    line-fits _ q f = tt

    fault-fits : (task : Task) → AnswerFits task (An.Device A.StoreFault)
    fault-fits (T.Get devices hash) = tt
    fault-fits (T.PullWorker device) = tt
    fault-fits _ = tt

    either-holds : (b : Bool) (x y : Reply) → WorldHolds x.world → WorldHolds y.world → WorldHolds (if b then x else y).world
    either-holds true x y p q = p
    either-holds false x y p q = q

    either-fits : (task : Task) (b : Bool) (x y : Reply) → AnswerFits task x.answer → AnswerFits task y.answer → AnswerFits task (if b then x else y).answer
    either-fits task true x y p q = p
    either-fits task false x y p q = q

    asked-holds : (fails : Bool) (task : Task) (q : Query) → QueryFits task q → WorldHolds (asked fails reading q w).world
    asked-holds fails task q f = either-holds (fails && may_fault q) (stays (An.Device A.StoreFault) w) (line reading q w) h (line-holds task q f)

    asked-fits : (fails : Bool) (task : Task) (q : Query) → QueryFits task q → AnswerFits task (asked fails reading q w).answer
    asked-fits fails task q f = either-fits task (fails && may_fault q) (stays (An.Device A.StoreFault) w) (line reading q w) (fault-fits task) (line-fits task q f)

  -- ---- asking

  record AskedBrings (a : Asked) : Type 0 where
    world : WorldHolds a.world
    standing : StandingBrings a.standing
    outcome : IfSome a.outcome (λ o. NextFits a.standing.task (ends o))

  module _ (c : Configuration) (failed : List ℕ) where
    either-brings : (b : Bool) (x y : Asked) → AskedBrings x → AskedBrings y → AskedBrings (if b then x else y)
    either-brings true x y p q = p
    either-brings false x y p q = q

    made-brings : (m : Made) (rest : Asked) → AskedBrings rest → AskedBrings (after_made m rest)
    made-brings m rest h = record { world = h.world; standing = h.standing; outcome = h.outcome }

    asked-brings : (turns reading n : ℕ) (w : World) (s : Standing) (nx : Next) → WorldHolds w → StandingBrings s → NextFits s.task nx → AskedBrings (asked_on turns c failed reading n w s nx)
    unfolding asked_on
    asked-brings turns reading n w s (ends outcome) h k f = ended turns
      where
        ended : (turns : ℕ) → AskedBrings (asked_on turns c failed reading n w s (ends outcome))
        ended zero = record { world = h; standing = k; outcome = f }
        ended (suc t) = record { world = h; standing = k; outcome = f }
    asked-brings zero reading n w s (asks q) h k f = record { world = h; standing = k; outcome = tt }
    asked-brings (suc turns) reading n w s (asks q) h k f =
        let m = event_of failed reading s.actor n q w in
        let after = with_answer s m.event in
        let more = all-last (λ (a : Answered). AnswerFits s.task a.answer) s.answers (answered_by m.event) k.answers (asked-fits reading w h (is_failed failed n) s.task q f) in
        either-brings (n == events_max) (record { made = []; world = w; standing = s; outcome = None; spent = true })
        (after_made m (asked_on turns c failed reading (n + 1) m.left after (next c after.task after.answers)))
        (record { world = h; standing = k; outcome = tt })
        (made-brings m (asked_on turns c failed reading (n + 1) m.left after (next c after.task after.answers))
        (asked-brings turns reading (n + 1) m.left after (next c after.task after.answers) (asked-holds reading w h (is_failed failed n) s.task q f) (record { task = k.task; answers = more }) (next-fits c s.task _ k.task more)))

    -- ---- lines

    abbrev LineReads : Scene → Effect → Type 0
    LineReads scene e = IfSome (read_in e.ended) IsRead

    goes : (o : Option Outcome) (s : Standing) → StandingBrings s → GoesOn c failed WorldHolds StandingBrings LineReads o s
    goes None s h = h
    goes (Some outcome) s h = tt

    read-ended : (o : Option Outcome) (task : Task) → IfSome o (λ o. NextFits task (ends o)) → IfSome (read_in (option_map (λ outcome. record { task = task; outcome = outcome }) o)) IsRead
    read-ended None task h = tt
    read-ended (Some o) task h = h

    asking : (turns reading : ℕ) (scene : Scene) (name : List ℕ) (s : Standing) → WorldHolds scene.world → StandingBrings s → AskedHas c failed WorldHolds StandingBrings LineReads scene name (asked_in turns c failed reading scene s)
    asking turns reading scene name s h k =
        let a = asked_in turns c failed reading scene s in
        let b = asked-brings turns reading scene.count scene.world s (next c s.task s.answers) h k (next-fits c s.task s.answers k.task k.answers) in
        record { world = b.world; standing = goes a.outcome a.standing b.standing; line = read-ended a.outcome a.standing.task b.outcome }

    quiet : (scene : Scene) (e : Effect) → e.made ≡ [] → e.ended ≡ None → LineReads scene e
    quiet scene e m n = rw n tt

    abbrev SceneBrings : Scene → Type 0
    SceneBrings scene = SceneHas c failed WorldHolds StandingBrings LineReads scene

    abbrev Brings : Command → Type 0
    Brings command = CommandHas c failed WorldHolds StandingBrings LineReads command

    line-scene : (scene : Scene) (text : List ℕ) → IfSome (command_in c scene text) Brings → SceneBrings scene → IfSome (effect_of_line c failed scene text) (λ e. SceneBrings e.scene)
    line-scene scene text p h = line-keeps c failed WorldHolds StandingBrings LineReads asking scene text p h

    line-reads : (scene : Scene) (text : List ℕ) → SceneBrings scene → IfSome (effect_of_line c failed scene text) (LineReads scene)
    line-reads scene text h = line-gives c failed WorldHolds StandingBrings LineReads asking quiet scene text h

    begun : (task : Task) → TaskBrings task → Begins c failed WorldHolds StandingBrings LineReads task
    begun task p actor = record { task = p; answers = tt }

    opening-brings : (opening : Opening) → ((token : List ℕ) (server : ℕ) (bytes : List ℕ) (hash : Option (List ℕ)) → opening ≡ Open.Put token server bytes hash → P bytes) → IsMade (Begins c failed WorldHolds StandingBrings LineReads) c opening
    opening-brings (Open.Put token server bytes hash) p = λ id some. begun _ (p token server bytes hash refl)
    opening-brings (Open.Get token server locator) p = λ hash some. begun _ tt
    opening-brings (Open.Touch token server locator) p = λ id hash some. begun _ tt
    opening-brings (Open.Untrash token server hash) p = λ some. begun _ tt
    opening-brings (Open.Restart device) p = begun _ tt
    opening-brings (Open.Save request) p = begun _ tt
    opening-brings (Open.Update collection preserve request) p = begun _ tt
    opening-brings (Open.Read token collection version) p = begun _ tt
    opening-brings (Open.Trash token collection trash_at delete_at) p = begun _ tt
    opening-brings (Open.Restore token collection) p = begun _ tt
    opening-brings Open.Sweep p = begun _ tt
    opening-brings Open.Balance p = begun _ tt
    opening-brings (Open.TrashWorker device) p = begun _ tt
    opening-brings (Open.PullWorker device) p = begun _ tt
    opening-brings (Open.EmptyWorker device) p = begun _ tt

-- ---- more that was put

module _ (P Q : List ℕ → Type 0) (more : (bytes : List ℕ) → P bytes → Q bytes) where
  more-state : (s : State) → HoldAll P s.held → HoldAll Q s.held
  more-state s h = all-more (λ e. P e.1.bytes) (λ e. Q e.1.bytes) (λ e. more e.1.bytes) s.held h

  more-task : (task : Task) → TaskBrings P task → TaskBrings Q task
  more-task (T.Put devices token id block) h = more block h
  more-task _ h = tt

  more-fetched : (hash : List ℕ) (a : Answer) → Fetches P hash a → Fetches Q hash a
  more-fetched hash (An.Device (A.Block bytes)) h = (h.0, more bytes h.1)
  more-fetched hash _ h = tt

  more-block : (a : Answer) → BlockHas P a → BlockHas Q a
  more-block (An.Device (A.Block bytes)) h = more bytes h
  more-block _ h = tt

  more-answer : (task : Task) (a : Answer) → AnswerFits P task a → AnswerFits Q task a
  more-answer (T.Get devices hash) a h = more-fetched hash a h
  more-answer (T.PullWorker device) a h = more-block a h
  more-answer _ a h = tt

  more-standing : (s : Standing) → StandingBrings P s → StandingBrings Q s
  more-standing s h = record {
    task = more-task s.task h.task;
    answers = all-more (λ (a : Answered). AnswerFits P s.task a.answer) (λ (a : Answered). AnswerFits Q s.task a.answer) (λ a. more-answer s.task a.answer) s.answers h.answers;
  }

  module _ (c : Configuration) (failed : List ℕ) where
    more-open : (st : TaskState Standing) → StateHas c failed (WorldHolds P) (StandingBrings P) (LineReads P c failed) st → StateHas c failed (WorldHolds Q) (StandingBrings Q) (LineReads Q c failed) st
    more-open (S.Open s) h = more-standing s h
    more-open _ h = tt

    more-scene : (scene : Scene) → SceneBrings P c failed scene → SceneBrings Q c failed scene
    more-scene scene h = record {
      world = all-more (λ (s : State). HoldAll P s.held) (λ (s : State). HoldAll Q s.held) more-state scene.world.devices h.world;
      names = all-more (λ (n : List ℕ × TaskState Standing). StateHas c failed (WorldHolds P) (StandingBrings P) (LineReads P c failed) n.1) (λ (n : List ℕ × TaskState Standing). StateHas c failed (WorldHolds Q) (StandingBrings Q) (LineReads Q c failed) n.1) (λ n. more-open n.1) scene.names h.names;
    }

among-more : (bytes : List ℕ) (more put : List (List ℕ)) → IsAmong bytes put → IsAmong bytes (more ++ put)
among-more bytes [] put h = h
among-more bytes (x ∷ xs) put h = inr (among-more bytes xs put h)

-- a line that puts has put its bytes
put-brings : (c : Configuration) (failed : List ℕ) (put : List (List ℕ)) (o : Option Command) → IfSome o (Brings (λ b. IsAmong b (bytes_put o ++ put)) c failed)
put-brings c failed put None = tt
put-brings c failed put (Some (C.Open name reading opening)) =
    let o : Option Command = Some (C.Open name reading opening) in
    opening-brings (λ b. IsAmong b (bytes_put o ++ put)) c failed opening (λ token server bytes hash e. rw e (inl refl))
put-brings c failed put (Some (C.Step name reading)) = tt
put-brings c failed put (Some (C.Finish name reading)) = tt

of-put : (put : List (List ℕ)) (o : Option Read) → IfSome o (λ r. (md5 r.bytes ≡ r.digest) × IsAmong r.bytes put) → IfSome o (IsOfPut put)
of-put put None h = tt
of-put put (Some r) h = record { digest = h.0; put_before = h.1 }

reads-of-puts : (c : Configuration) (failed : List ℕ) (scene : Scene) (put pieces : List (List ℕ)) → SceneBrings (λ b. IsAmong b put) c failed scene → AreOfPuts c failed scene put pieces
reads-of-puts c failed scene put [] h = tt
reads-of-puts c failed scene put (piece ∷ rest) h =
    let o = command_in c scene (text_of piece) in
    let now = more-scene (λ b. IsAmong b put) (λ b. IsAmong b (bytes_put o ++ put)) (λ b. among-more b (bytes_put o) put) c failed scene h in
    both-some _ _ (effect_of_line c failed scene (text_of piece))
    (some-more _ _ (effect_of_line c failed scene (text_of piece)) (λ e. of-put put (read_in e.ended)) (line-reads (λ b. IsAmong b put) c failed scene (text_of piece) h))
    (some-more _ _ (effect_of_line c failed scene (text_of piece)) (λ e k. reads-of-puts c failed e.scene (bytes_put o ++ put) rest k)
    (line-scene (λ b. IsAmong b (bytes_put o ++ put)) c failed scene (text_of piece) (put-brings c failed put o) now))

new-holds : (P : List ℕ → Type 0) (ds : List Device) → AllByRecursion (λ (s : State). HoldAll P s.held) (map (λ d. machine.initial) ds)
new-holds P [] = tt
new-holds P (d ∷ ds) = (tt, new-holds P ds)

from-begun : (failed : List ℕ) (o : Option Begun) → IfSome o (λ (b : Begun). AreOfPuts b.config failed (at_start b.config).scene [] b.rest)
from-begun failed None = tt
from-begun failed (Some b) = reads-of-puts b.config failed (at_start b.config).scene [] b.rest (record { world = new-holds (λ x. IsAmong x []) b.config.devices; names = tt })

pub reads-are-of-puts : (stores : ℕ) (failed bytes : List ℕ) → ReadsAreOfPuts stores failed bytes
reads-are-of-puts stores failed bytes = from-begun failed (begun_of stores (cut bytes))

pub told-reads : (stores : ℕ) (told : Option (List ℕ)) → IfSome told (λ bytes. (failed : List ℕ) → ReadsAreOfPuts stores failed bytes)
told-reads stores None = tt
told-reads stores (Some bytes) = λ failed. reads-are-of-puts stores failed bytes
