-- No task of a run ends Disordered: `told-ordered`. Events are numbered in their order, so a balance is given ticks that rise.
use Rattle.std.proofs.Common.{◌≡◌, ◌≤◌, ◌<◌, ℕ, zero, suc, ◌+◌, ◌==◌, Bool, true, false, List, [], ◌∷◌, ◌++◌, length, Option, None, Some, IfSome, Result, Ok, Err, refl, sym, ◌∙◌, ap, subst, arith, option_and_then}
use Rattle.std.specs.Prelude.{⊤, MatchOption, if◌then◌else◌, nat_lt, option_map, unwrap_or}
use Rattle.std.proofs.lemmas.Bool.{lt-ltb}
use Rattle.keep_spec.specs.Config.{Configuration}
use Rattle.keep_spec.specs.Lines.{cut, text_of}
use Rattle.keep_event.specs.Plan.{has_ended}
use Rattle.keep_event.specs.World.{World}
use Rattle.keep_event.specs.declared.device.DeviceAnswer.{DeviceAnswer}
use Rattle.keep_event.specs.declared.device.DeviceAnswer.TheVariants as A
use Rattle.keep_event.specs.declared.device.DeviceQuery.{DeviceQuery}
use Rattle.keep_event.specs.declared.device.DeviceQuery.TheVariants as Q
use Rattle.keep_event.specs.declared.table.TableAnswer.{TableAnswer}
use Rattle.keep_event.specs.declared.table.TableAnswer.TheVariants as TA
use Rattle.keep_event.specs.declared.table.TableQuery.{TableQuery}
use Rattle.keep_event.specs.declared.table.TableQuery.TheVariants as TQ
use Rattle.keep_event.specs.declared.event.Answer.{Answer}
use Rattle.keep_event.specs.declared.event.Answer.TheVariants as An
use Rattle.keep_event.specs.declared.event.Query.{Query}
use Rattle.keep_history.specs.declared.task.Command.{Command}
use Rattle.keep_history.specs.declared.task.Command.TheVariants as C
use Rattle.keep_history.specs.declared.task.Outcome.{Outcome}
use Rattle.keep_history.specs.declared.task.Outcome.TheVariants as O
use Rattle.keep_history.specs.declared.task.Task.{Task}
use Rattle.keep_history.specs.declared.task.Task.TheVariants as T
use Rattle.keep_history.specs.declared.task.TaskState.{TaskState}
use Rattle.keep_history.specs.declared.task.TaskState.TheVariants as S
use Rattle.keep_history.specs.Balance.{Balancing, accept_next, balance_after, balance_end, balance_next, cleared_after, clear_next, new_balance, number_after, page_next, round_next, scan_next, to_accept, to_clear, to_page}
use Rattle.keep_history.specs.Effects.{Asked, Effect, Ending, Scene, Standing, after_made, asked_in, asked_on, asking_effect, command_in, effect_of_command, effect_of_line, event_of, events_max, finish_turns, open_effect, state_after, state_of, step_turns, with_answer}
use Rattle.keep_history.specs.Ended.{Begun, begun_of}
use Rattle.keep_history.specs.Names.{Named, at_name}
use Rattle.keep_history.specs.Next.{Answered, Next, asks, ends, ends_or, moved, stands_after}
use Rattle.keep_history.specs.Ordered.{IsOrdered, LinesAreOrdered, RunsAreOrdered}
use Rattle.keep_history.specs.Rounds.{Round}
use Rattle.keep_history.specs.Run.{at_start}
use Rattle.keep_history.specs.Tasks.{any_fault, any_present, by_all, compare_end, copies_back, fetch_end, first_found, next, no_end, not_fetched, not_touched, not_written, on_device, opened, table_end, table_end_of, touch_end, untrashed, walk, write_end, writes}
use Rattle.keep_history.specs.Workers.{Emptying, Phase, Pulling, Trashing, empty_after, empty_answered, empty_next, fetch_from, fetching, fetching_answered, in_phase, items_max, new_emptying, new_pulling, new_trashing, phase_next, pull_after, pull_answered, pull_next, sources_in, taking, taking_answered, trash_after, trash_answered, trash_next, writing, writing_answered}
use Rattle.keep_history.proofs.Going.{stands-keep, stands-more}
use Rattle.keep_history.proofs.Lines.{some-more}
use Rattle.keep_history.proofs.Names.{AllNames, after-end, all-more, looked-up, named}

-- ---- ends that a task comes to by itself

abbrev IsOrderedNext : Next → Type 0
IsOrderedNext (asks q) = ⊤
IsOrderedNext (ends outcome) = IsOrdered outcome

or-ordered : (o : Option Outcome) (nx : Next) → IfSome o IsOrdered → IsOrderedNext nx → IsOrderedNext (ends_or o nx)
or-ordered None nx k h = h
or-ordered (Some outcome) nx k h = k

either-ordered : (b : Bool) (x y : Outcome) → IsOrdered x → IsOrdered y → IsOrdered (if b then x else y)
either-ordered true x y p q = p
either-ordered false x y p q = q

below-ordered : (b : Bool) (q : Query) (outcome : Outcome) → IsOrdered outcome → IsOrderedNext (if b then asks q else ends outcome)
below-ordered true q outcome h = tt
below-ordered false q outcome h = h

device-ordered : (end : DeviceAnswer → Option Outcome) → ((a : DeviceAnswer) → IfSome (end a) IsOrdered) → (a : Answer) → IfSome (on_device end a) IsOrdered
device-ordered end h (An.Device a) = h a
device-ordered end h (An.Table a) = tt

walk-ordered : (q : DeviceQuery) (end : Answer → Option Outcome) (after : List Answer → List Answered → Next) → ((a : Answer) → IfSome (end a) IsOrdered) → ((seen : List Answer) (answers : List Answered) → IsOrderedNext (after seen answers))
    → (seen : List Answer) (ds : List ℕ) (answers : List Answered) → IsOrderedNext (walk q end after seen ds answers)
unfolding walk
walk-ordered q end after h k seen [] answers = k seen answers
walk-ordered q end after h k seen (d ∷ ds) [] = tt
walk-ordered q end after h k seen (d ∷ ds) (a ∷ answers) = or-ordered (end a.answer) _ (h a.answer) (walk-ordered q end after h k (seen ++ a.answer ∷ []) ds answers)

compare-ordered : (c : Configuration) (token block : List ℕ) (a : DeviceAnswer) → IfSome (compare_end c token block a) IsOrdered
compare-ordered c token block (A.Touched mtime) = tt
compare-ordered c token block A.Collision = tt
compare-ordered c token block _ = tt

write-ordered : (c : Configuration) (token block : List ℕ) (a : DeviceAnswer) → IfSome (write_end c token block a) IsOrdered
write-ordered c token block (A.Written mtime) = tt
write-ordered c token block A.Collision = tt
write-ordered c token block _ = tt

fetch-ordered : (a : DeviceAnswer) → IfSome (fetch_end a) IsOrdered
fetch-ordered (A.Block bytes) = tt
fetch-ordered _ = tt

touch-ordered : (c : Configuration) (token hash text : List ℕ) (a : DeviceAnswer) → IfSome (touch_end c token hash text a) IsOrdered
touch-ordered c token hash text (A.Touched mtime) = tt
touch-ordered c token hash text _ = tt

not-fetched-ordered : (seen : List Answer) → IsOrdered (not_fetched seen)
not-fetched-ordered seen = by (first_found seen) (any_fault seen)
  where
    by : (o : Option (List ℕ)) (fault : Bool) → IsOrdered (unwrap_or (option_map O.Corrupt o) (if fault then O.StoreFault else O.NotFound))
    by (Some found) fault = tt
    by None true = tt
    by None false = tt

untrashed-ordered : (seen : List Answer) → IsOrdered (untrashed seen)
untrashed-ordered seen =
    either-ordered (nat_lt 0 (copies_back seen)) (O.Untrashed (copies_back seen)) (if any_fault seen then O.StoreFault else if any_present seen then O.Untrashed 0 else O.NotFound) tt
    (either-ordered (any_fault seen) O.StoreFault (if any_present seen then O.Untrashed 0 else O.NotFound) tt (either-ordered (any_present seen) (O.Untrashed 0) O.NotFound tt tt))

table-ordered : (c : Configuration) (q : TableQuery) (a : TableAnswer) → IsOrdered (table_end c q a)
unfolding table_end
table-ordered c q (TA.Round round started) = tt
table-ordered c q (TA.Saved n version portable) = tt
table-ordered c q (TA.Updated n version portable) = tt
table-ordered c q (TA.Row n version expiry want trash_at text) = tt
table-ordered c q (TA.TrashSet trash_at delete_at) = tt
table-ordered c q TA.Restored = tt
table-ordered c q (TA.Swept versions collections) = tt
table-ordered c q (TA.Rows rows last) = tt
table-ordered c q TA.UnknownToken = tt
table-ordered c q TA.NoSuch = tt
table-ordered c q TA.NotOwner = tt
table-ordered c q (TA.InTrash at) = tt
table-ordered c q (TA.BadManifest at kind) = tt
table-ordered c q (TA.Unsigned index why) = tt
table-ordered c q (TA.WrongHash computed) = tt
table-ordered c q TA.BadWant = tt
table-ordered c q (TA.TooManyVersions held) = tt

table-of-ordered : (c : Configuration) (q : TableQuery) (a : Answer) → IsOrdered (table_end_of c q a)
table-of-ordered c q (An.Table a) = table-ordered c q a
table-of-ordered c q (An.Device a) = tt

-- ---- workers

trash-ordered : (q : Query) (a : Answered) (s : Trashing) → IfSome s.ended IsOrdered → IfSome (trash_after q a s).ended IsOrdered
trash-ordered q a s h = by a.answer
  where
    device : (answer : DeviceAnswer) → IfSome (trash_answered answer s).ended IsOrdered
    device A.Idle = tt
    device A.StoreFault = tt
    device (A.Trashed digest deadline round) = tt
    device (A.Young digest mtime) = tt
    device (A.Skipped digest mtime) = tt
    device (A.Gone digest) = tt
    device A.ReadOnly = tt
    device _ = h

    by : (answer : Answer) → IfSome (trash_after q (record { tick = a.tick; answer = answer }) s).ended IsOrdered
    by (An.Device answer) = device answer
    by (An.Table answer) = h

empty-ordered : (q : Query) (a : Answered) (s : Emptying) → IfSome s.ended IsOrdered → IfSome (empty_after q a s).ended IsOrdered
empty-ordered q a s h = by a.answer
  where
    device : (answer : DeviceAnswer) → IfSome (empty_answered answer s).ended IsOrdered
    device (A.Emptied digest deadline) = tt
    device A.Idle = tt
    device A.StoreFault = tt
    device A.ReadOnly = tt
    device _ = h

    by : (answer : Answer) → IfSome (empty_after q (record { tick = a.tick; answer = answer }) s).ended IsOrdered
    by (An.Device answer) = device answer
    by (An.Table answer) = h

pull-ordered : (c : Configuration) (q : Query) (a : Answered) (s : Pulling) → IfSome s.ended IsOrdered → IfSome (pull_after c q a s).ended IsOrdered
pull-ordered c q a s h = by a.answer
  where
    from : (hash sources : List ℕ) → IfSome (fetch_from hash sources s).ended IsOrdered
    from hash [] = tt
    from hash (d ∷ ds) = tt

    fetched : (long : Bool) (hash sources bytes : List ℕ) → IfSome (if long then fetch_from hash sources s else in_phase (writing bytes) s).ended IsOrdered
    fetched true hash sources bytes = from hash sources
    fetched false hash sources bytes = tt

    on_taking : (answer : DeviceAnswer) → IfSome (taking_answered c answer s).ended IsOrdered
    on_taking (A.Pull item) = from item.digest (sources_in c item.sources)
    on_taking A.Idle = tt
    on_taking _ = h

    on_fetching : (hash sources : List ℕ) (answer : DeviceAnswer) → IfSome (fetching_answered hash sources answer s).ended IsOrdered
    on_fetching hash sources (A.Block bytes) = fetched (nat_lt 67108864 (length bytes)) hash sources bytes
    on_fetching hash sources _ = from hash sources

    on_writing : (answer : DeviceAnswer) → IfSome (writing_answered answer s).ended IsOrdered
    on_writing (A.Written mtime) = tt
    on_writing _ = tt

    device : (phase : Phase) (answer : DeviceAnswer) → IfSome (pull_answered c phase answer s).ended IsOrdered
    device taking answer = on_taking answer
    device (fetching hash source sources) answer = on_fetching hash sources answer
    device (writing bytes) answer = on_writing answer

    by : (answer : Answer) → IfSome (pull_after c q (record { tick = a.tick; answer = answer }) s).ended IsOrdered
    by (An.Device answer) = device s.phase answer
    by (An.Table answer) = h

phase-ordered : (device : ℕ) (phase : Phase) (s : Pulling) → IsOrderedNext (phase_next device phase s)
phase-ordered device taking s = below-ordered (nat_lt (s.done + s.failed) items_max) _ _ tt
phase-ordered device (fetching hash source sources) s = tt
phase-ordered device (writing bytes) s = tt

-- ---- a balance

module _ (c : Configuration) where
  module _ (number : ℕ) (g : Round) (refusals : List Bool) where
    accept-ordered : (ds : List ℕ) → IsOrderedNext (accept_next c number g refusals ds)
    accept-ordered [] = tt
    accept-ordered (d ∷ ds) = tt

    scan-ordered : (ended : Bool) → IsOrderedNext (scan_next c number g refusals ended)
    scan-ordered true = accept-ordered (to_accept c refusals)
    scan-ordered false = tt

    page-ordered : (xs : List (ℕ × List ℕ)) → IsOrderedNext (page_next c number g refusals xs)
    page-ordered [] = scan-ordered (has_ended g.scans)
    page-ordered (x ∷ xs) = tt

    clear-ordered : (ds : List ℕ) → IsOrderedNext (clear_next c number g refusals ds)
    clear-ordered [] = page-ordered (to_page c g)
    clear-ordered (d ∷ ds) = tt

  round-ordered : (number : Option ℕ) (g : Round) (refusals : List Bool) → IsOrderedNext (round_next c number g refusals)
  round-ordered None g refusals = tt
  round-ordered (Some number) g refusals = clear-ordered number g refusals (to_clear c g)

  -- before the event of a number, a balance has been given lower ticks; it has none before its round's number
  record IsBefore (n : ℕ) (s : Balancing) : Type 0 where
    ended : IfSome s.ended IsOrdered
    cleared : MatchOption s.number (s.cleared_at ≡ 0) (λ number. s.cleared_at < n)

  not-late : (earlier later : ℕ) → earlier < later → IfSome (if nat_lt earlier later then None else Some (O.Disordered earlier later)) IsOrdered
  not-late earlier later h = rw (lt-ltb earlier later h) tt

  end-ordered : (before n : ℕ) (q : Query) (a : Answer) → before < n → IfSome (balance_end before n q a) IsOrdered
  end-ordered before n (Query.Device d (Q.Clear round)) (An.Device (A.Stale held)) h = tt
  end-ordered before n (Query.Device d (Q.Clear round)) (An.Device A.StoreFault) h = tt
  end-ordered before n (Query.Device d (Q.Clear round)) (An.Device _) h = tt
  end-ordered before n (Query.Device d (Q.Page round prefix)) (An.Device (A.Page entries)) h = not-late before n h
  end-ordered before n (Query.Device d (Q.Page round prefix)) (An.Device (A.Stale held)) h = tt
  end-ordered before n (Query.Device d (Q.Page round prefix)) (An.Device A.StoreFault) h = tt
  end-ordered before n (Query.Device d (Q.Page round prefix)) (An.Device _) h = tt
  end-ordered before n (Query.Table (TQ.Scan round after limit)) (An.Table (TA.Rows rows last)) h = not-late before n h
  end-ordered before n _ _ h = tt

  cleared-before : (before n : ℕ) (q : Query) (a : Answer) → before < n → cleared_after n q a before < n + 1
  cleared-before before n (Query.Device d (Q.Clear round)) (An.Device A.Cleared) h = omega (arith, h)
  cleared-before before n _ _ h = omega (arith, h)

  has-number : (q : Query) (a : Answer) (number : ℕ) (P : Type 0) (R : ℕ → Type 0) → ((k : ℕ) → R k) → MatchOption (number_after q a (Some number)) P R
  has-number (Query.Table TQ.BeginRound) (An.Table (TA.Round round started)) number P R r = r round
  has-number _ _ number P R r = r number

  -- where a round has its number
  numbered-step : (n number : ℕ) (q : Query) (a : Answer) (s : Balancing) → s.number ≡ Some number → s.cleared_at < n → IsBefore (n + 1) (balance_after q (record { tick = n; answer = a }) s)
  numbered-step n number q a s e h = record {
    ended = end-ordered s.cleared_at n q a h;
    cleared = rw e (has-number q a number (cleared_after n q a s.cleared_at ≡ 0) (λ k. cleared_after n q a s.cleared_at < n + 1) (λ k. cleared-before s.cleared_at n q a h));
  }

  -- where it is to begin
  begun-step : (n : ℕ) (a : Answer) (s : Balancing) → s.number ≡ None → s.cleared_at ≡ 0 → IsBefore (n + 1) (balance_after (Query.Table TQ.BeginRound) (record { tick = n; answer = a }) s)
  begun-step n a s e z = record { ended = tt; cleared = rw e (by a) }
    where
      by : (a : Answer) → MatchOption (number_after (Query.Table TQ.BeginRound) a None) (s.cleared_at ≡ 0) (λ k. s.cleared_at < n + 1)
      by (An.Table (TA.Round round started)) = omega (arith, z)
      by _ = z

  first-query : (ended : Option Outcome) (g : Round) (refusals : List Bool) (q : Query) → ends_or ended (round_next c None g refusals) ≡ asks q → q ≡ Query.Table TQ.BeginRound
  first-query None g refusals q e = cc
  first-query (Some outcome) g refusals q e = absurd (cc)

  balance-step : (n : ℕ) (q : Query) (a : Answer) (s : Balancing) → balance_next c s ≡ asks q → IsBefore n s → IsBefore (n + 1) (balance_after q (record { tick = n; answer = a }) s)
  balance-step n q a s e h = by s.number refl
    where
      by : (number : Option ℕ) → s.number ≡ number → IsBefore (n + 1) (balance_after q (record { tick = n; answer = a }) s)
      by None k =
          let first = first-query s.ended s.round s.refusals q (rw k at e) in
          subst (λ q. IsBefore (n + 1) (balance_after q (record { tick = n; answer = a }) s)) (sym first) (begun-step n a s k (rw k at h.cleared))
      by (Some number) k = numbered-step n number q a s k (rw k at h.cleared)

  later-number : (o : Option ℕ) (at n m : ℕ) → n ≤ m → MatchOption o (at ≡ 0) (λ number. at < n) → MatchOption o (at ≡ 0) (λ number. at < m)
  later-number None at n m le h = h
  later-number (Some number) at n m le h = omega (arith, le, h)

  -- ---- tasks

  -- before the event of a number a task has been given lower ticks, as far as it judges them
  abbrev TaskBefore : ℕ → Task → List Answered → Type 0
  TaskBefore n T.Balance answers = IsBefore n (stands_after (balance_next c) balance_after new_balance answers)
  TaskBefore n _ answers = ⊤

  fresh-before : (n : ℕ) (task : Task) → TaskBefore n task []
  fresh-before n T.Balance = record { ended = tt; cleared = refl }
  fresh-before n _ = tt

  later-before : (n m : ℕ) (task : Task) (answers : List Answered) → n ≤ m → TaskBefore n task answers → TaskBefore m task answers
  later-before n m T.Balance answers le h =
      let s = stands_after (balance_next c) balance_after new_balance answers in
      record { ended = h.ended; cleared = later-number s.number s.cleared_at n m le h.cleared }
  later-before n m _ answers le h = tt

  next-ordered : (n : ℕ) (task : Task) (answers : List Answered) → TaskBefore n task answers → IsOrderedNext (next c task answers)
  unfolding next
  next-ordered n (T.Put devices token id block) answers h =
      walk-ordered (Q.CompareTouch block (Some id)) (on_device (compare_end c token block)) (writes c id token block devices) (device-ordered (compare_end c token block) (compare-ordered c token block))
      (λ seen rest. walk-ordered (Q.Write block (Some id)) (on_device (write_end c token block)) (by_all not_written) (device-ordered (write_end c token block) (write-ordered c token block))
      (λ seen rest. either-ordered (any_fault seen) O.StoreFault O.NoRoom tt tt) [] devices rest) [] devices answers
  next-ordered n (T.Get devices hash) answers h =
      walk-ordered (Q.Fetch hash) (on_device fetch_end) (by_all not_fetched) (device-ordered fetch_end fetch-ordered) (λ seen rest. not-fetched-ordered seen) [] devices answers
  next-ordered n (T.Touch devices token id hash text) answers h =
      walk-ordered (Q.Touch hash (Some id)) (on_device (touch_end c token hash text)) (by_all not_touched) (device-ordered (touch_end c token hash text) (touch-ordered c token hash text))
      (λ seen rest. either-ordered (any_fault seen) O.StoreFault O.NotFound tt tt) [] devices answers
  next-ordered n (T.Untrash devices hash) answers h =
      walk-ordered (Q.Untrash hash) (on_device no_end) (by_all untrashed) (device-ordered no_end (λ a. tt)) (λ seen rest. untrashed-ordered seen) [] devices answers
  next-ordered n (T.Restart device) [] h = tt
  next-ordered n (T.Restart device) (a ∷ answers) h = tt
  next-ordered n (T.Table q) [] h = tt
  next-ordered n (T.Table q) (a ∷ answers) h = table-of-ordered c q a.answer
  next-ordered n T.Balance answers h =
      let s = stands_after (balance_next c) balance_after new_balance answers in
      or-ordered s.ended (round_next c s.number s.round s.refusals) h.ended (round-ordered s.number s.round s.refusals)
  next-ordered n (T.TrashWorker device) answers h =
      let s = stands_after (trash_next device) trash_after new_trashing answers in
      or-ordered s.ended _ (stands-keep (λ (s : Trashing). IfSome s.ended IsOrdered) (trash_next device) trash_after trash-ordered new_trashing answers tt) (below-ordered (nat_lt s.taken items_max) _ _ tt)
  next-ordered n (T.PullWorker device) answers h =
      let s = stands_after (pull_next device) (pull_after c) new_pulling answers in
      or-ordered s.ended (phase_next device s.phase s) (stands-keep (λ (s : Pulling). IfSome s.ended IsOrdered) (pull_next device) (pull_after c) (pull-ordered c) new_pulling answers tt) (phase-ordered device s.phase s)
  next-ordered n (T.EmptyWorker device) answers h =
      let s = stands_after (empty_next device) empty_after new_emptying answers in
      or-ordered s.ended _ (stands-keep (λ (s : Emptying). IfSome s.ended IsOrdered) (empty_next device) empty_after empty-ordered new_emptying answers tt) (below-ordered (nat_lt s.removed items_max) _ _ tt)

  -- the event of that number
  more-before : (n : ℕ) (task : Task) (answers : List Answered) (q : Query) (a : Answer) → next c task answers ≡ asks q → TaskBefore n task answers → TaskBefore (n + 1) task (answers ++ record { tick = n; answer = a } ∷ [])
  unfolding next
  more-before n T.Balance answers q a e h =
      let s = stands_after (balance_next c) balance_after new_balance answers in
      let given : Answered = record { tick = n; answer = a } in
      let stands = stands-more (balance_next c) balance_after new_balance (next c T.Balance) answers given in
      subst (IsBefore (n + 1)) (sym (stands ∙ ap (λ nx. moved balance_after given nx s) e)) (balance-step n q a s e h)
  more-before n _ answers q a e h = tt

  -- ---- asking

  record AskedBefore (n : ℕ) (a : Asked) : Type 0 where
    standing : TaskBefore (n + length a.made) a.standing.task a.standing.answers
    outcome : IfSome a.outcome IsOrdered

  module _ (failed : List ℕ) where
    either-asked : (P : Asked → Type 0) (b : Bool) (x y : Asked) → P x → P y → P (if b then x else y)
    either-asked P true x y p q = p
    either-asked P false x y p q = q

    ended-before : (turns reading n : ℕ) (w : World) (s : Standing) (outcome : Outcome) → TaskBefore n s.task s.answers → IsOrdered outcome → AskedBefore n (asked_on turns c failed reading n w s (ends outcome))
    unfolding asked_on
    ended-before zero reading n w s outcome h k = record { standing = later-before n (n + 0) s.task s.answers (omega arith) h; outcome = k }
    ended-before (suc turns) reading n w s outcome h k = record { standing = later-before n (n + 0) s.task s.answers (omega arith) h; outcome = k }

    asked-before : (turns reading n : ℕ) (w : World) (s : Standing) (nx : Next) → nx ≡ next c s.task s.answers → TaskBefore n s.task s.answers → AskedBefore n (asked_on turns c failed reading n w s nx)
    unfolding asked_on
    asked-before turns reading n w s (ends outcome) e h = ended-before turns reading n w s outcome h (subst IsOrderedNext (sym e) (next-ordered n s.task s.answers h))
    asked-before zero reading n w s (asks q) e h = record { standing = later-before n (n + 0) s.task s.answers (omega arith) h; outcome = tt }
    asked-before (suc turns) reading n w s (asks q) e h =
        let m = event_of failed reading s.actor n q w in
        let after = with_answer s m.event in
        let rest = asked_on turns c failed reading (n + 1) m.left after (next c after.task after.answers) in
        let k = asked-before turns reading (n + 1) m.left after (next c after.task after.answers) refl (more-before n s.task s.answers q m.event.answer (sym e) h) in
        either-asked (AskedBefore n) (n == events_max) (record { made = []; world = w; standing = s; outcome = None; spent = true }) (after_made m rest)
        (record { standing = later-before n (n + 0) s.task s.answers (omega arith) h; outcome = tt })
        (record { standing = later-before (n + 1 + length rest.made) (n + length (after_made m rest).made) rest.standing.task rest.standing.answers (omega arith) k.standing; outcome = k.outcome })

    -- ---- lines

    abbrev StateBefore : ℕ → TaskState Standing → Type 0
    StateBefore n (S.Open s) = TaskBefore n s.task s.answers
    StateBefore n _ = ⊤

    abbrev SceneBefore : Scene → Type 0
    SceneBefore scene = AllNames (StateBefore scene.count) scene.names

    later-state : (n m : ℕ) (st : TaskState Standing) → n ≤ m → StateBefore n st → StateBefore m st
    later-state n m (S.Open s) le h = later-before n m s.task s.answers le h
    later-state n m _ le h = tt

    later-names : (n m : ℕ) (names : Named (TaskState Standing)) → n ≤ m → AllNames (StateBefore n) names → AllNames (StateBefore m) names
    later-names n m names le h = all-more (λ (e : List ℕ × TaskState Standing). StateBefore n e.1) (λ (e : List ℕ × TaskState Standing). StateBefore m e.1) (λ e k. later-state n m e.1 le k) names h

    after-before : (n : ℕ) (outcome : Outcome) → StateBefore n (state_after outcome)
    after-before n outcome = after-end (StateBefore n) (λ locator. tt) (λ text. tt) tt outcome

    state-before : (n : ℕ) (s : Standing) (o : Option Outcome) → TaskBefore n s.task s.answers → StateBefore n (state_of s o)
    state-before n s None h = h
    state-before n s (Some outcome) h = after-before n outcome

    abbrev LineBefore : Effect → Type 0
    LineBefore e = SceneBefore e.scene × IfSome e.ended (λ ending. IsOrdered ending.outcome)

    opened-before : (scene : Scene) (name : List ℕ) (r : Result Task Outcome) → SceneBefore scene → LineBefore (open_effect scene name r)
    opened-before scene name (Ok task) h = (named (StateBefore scene.count) name (S.Open (record { task = task; actor = length scene.names; answers = [] })) scene.names (fresh-before scene.count task) h, tt)
    opened-before scene name (Err outcome) h = (named (StateBefore scene.count) name (state_after outcome) scene.names (after-before scene.count outcome) h, tt)

    ending-ordered : (task : Task) (o : Option Outcome) → IfSome o IsOrdered → IfSome (option_map (λ outcome. record { task = task; outcome = outcome }) o) (λ (ending : Ending). IsOrdered ending.outcome)
    ending-ordered task None h = tt
    ending-ordered task (Some outcome) h = h

    asking-before : (turns reading : ℕ) (scene : Scene) (name : List ℕ) (st : Option (TaskState Standing)) → IfSome st (StateBefore scene.count) → SceneBefore scene → IfSome (asking_effect turns c failed scene name reading st) LineBefore
    asking-before turns reading scene name (Some (S.Open s)) p h =
        let a = asked_in turns c failed reading scene s in
        let n = scene.count + length a.made in
        let k = asked-before turns reading scene.count scene.world s (next c s.task s.answers) refl p in
        (named (StateBefore n) name (state_of a.standing a.outcome) scene.names (state-before n a.standing a.outcome k.standing) (later-names scene.count n scene.names (omega arith) h), ending-ordered a.standing.task a.outcome k.outcome)
    asking-before turns reading scene name _ p h = tt

    command-before : (scene : Scene) (command : Command) → SceneBefore scene → IfSome (effect_of_command c failed scene command) LineBefore
    unfolding effect_of_command
    command-before scene (C.Open name reading opening) h = opened-before scene name (opened c opening reading) h
    command-before scene (C.Step name reading) h = asking-before step_turns reading scene name (at_name name scene.names) (looked-up (StateBefore scene.count) name scene.names h) h
    command-before scene (C.Finish name reading) h = asking-before finish_turns reading scene name (at_name name scene.names) (looked-up (StateBefore scene.count) name scene.names h) h

    given-before : (scene : Scene) (o : Option Command) → SceneBefore scene → IfSome (option_and_then (effect_of_command c failed scene) o) LineBefore
    given-before scene None h = tt
    given-before scene (Some command) h = command-before scene command h

    line-before : (scene : Scene) (text : List ℕ) → SceneBefore scene → IfSome (effect_of_line c failed scene text) LineBefore
    line-before scene [] h = (h, tt)
    line-before scene (x ∷ xs) h = given-before scene (command_in c scene (x ∷ xs)) h

    lines-ordered : (scene : Scene) (pieces : List (List ℕ)) → SceneBefore scene → LinesAreOrdered c failed scene pieces
    lines-ordered scene [] h = tt
    lines-ordered scene (piece ∷ rest) h =
        some-more _ _ (effect_of_line c failed scene (text_of piece)) (λ e k. (k.1, lines-ordered e.scene rest k.0)) (line-before scene (text_of piece) h)

ordered-begun : (failed : List ℕ) (o : Option Begun) → IfSome o (λ (b : Begun). LinesAreOrdered b.config failed (at_start b.config).scene b.rest)
ordered-begun failed None = tt
ordered-begun failed (Some b) = lines-ordered b.config failed (at_start b.config).scene b.rest tt

pub told-ordered : (stores : ℕ) (told : Option (List ℕ)) → IfSome told (λ bytes. (failed : List ℕ) → RunsAreOrdered stores failed bytes)
told-ordered stores None = tt
told-ordered stores (Some bytes) = λ failed. ordered-begun failed (begun_of stores (cut bytes))
