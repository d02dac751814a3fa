-- The other tasks ask nothing of rounds: `asks-quietly`.
use Rattle.std.proofs.Common.{◌≡◌, ℕ, List, [], ◌∷◌, ◌++◌, true, false, refl, Option, None, Some, subst}
use Rattle.std.specs.Prelude.{⊤}
use Rattle.std.specs.List.{AllByRecursion}
use Rattle.keep_spec.specs.Config.{Configuration}
use Rattle.keep_event.specs.declared.device.DeviceAnswer.TheVariants as A
use Rattle.keep_event.specs.declared.device.DeviceQuery.{DeviceQuery}
use Rattle.keep_event.specs.declared.device.DeviceQuery.TheVariants as Q
use Rattle.keep_event.specs.declared.event.Answer.{Answer}
use Rattle.keep_event.specs.declared.event.Answer.TheVariants as An
use Rattle.keep_event.specs.declared.event.Query.{Query}
use Rattle.keep_event.specs.declared.table.TableQuery.{TableQuery}
use Rattle.keep_event.specs.declared.table.TableQuery.TheVariants as TQ
use Rattle.keep_history.specs.declared.task.Outcome.{Outcome}
use Rattle.keep_history.specs.declared.task.Task.{Task}
use Rattle.keep_history.specs.declared.task.Task.TheVariants as T
use Rattle.keep_history.specs.Next.{Answered, Next, asks, ends_or}
use Rattle.keep_history.specs.Tasks.{by_all, compare_end, fetch_end, is_task_query, next, no_end, not_fetched, not_touched, not_written, on_device, touch_end, untrashed, walk, write_end, writes}
use Rattle.keep_history.proofs.Rounds.{BlockHas, NextHas, empty-asks, pull-asks, trash-asks}
use Rattle.keep_rounds.specs.Interleaved.{asks_of_round, device_round, table_round}

abbrev IsQuiet : Query → Type 0
IsQuiet q = asks_of_round q ≡ false

quiet-or : (o : Option Outcome) (nx : Next) → NextHas IsQuiet nx → NextHas IsQuiet (ends_or o nx)
quiet-or None nx h = h
quiet-or (Some o) nx h = tt

walk-quiet : (q : DeviceQuery) (end : Answer → Option Outcome) (after : List Answer → List Answered → Next) → device_round q ≡ false → ((seen : List Answer) (answers : List Answered) → NextHas IsQuiet (after seen answers))
    → (seen : List Answer) (ds : List ℕ) (answers : List Answered) → NextHas IsQuiet (walk q end after seen ds answers)
unfolding walk
walk-quiet q end after h k seen [] answers = k seen answers
walk-quiet q end after h k seen (d ∷ ds) [] = h
walk-quiet q end after h k seen (d ∷ ds) (a ∷ answers) = quiet-or (end a.answer) _ (walk-quiet q end after h k (seen ++ a.answer ∷ []) ds answers)

table-quiet : (q : TableQuery) → is_task_query q ≡ true → table_round q ≡ false
table-quiet TQ.BeginRound h = cc h
table-quiet (TQ.Scan round after limit) h = cc h
table-quiet _ h = refl

any-block : (answers : List Answered) → AllByRecursion (λ (b : Answered). BlockHas (λ bytes. ⊤) b.answer) answers
any-block [] = tt
any-block (b ∷ answers) = (one b.answer, any-block answers)
  where
    one : (answer : Answer) → BlockHas (λ bytes. ⊤) answer
    one (An.Device (A.Block bytes)) = tt
    one _ = tt

-- a task that an opening makes, other than a balance
abbrev pub IsOther : Task → Type 0
IsOther T.Balance = ⊥
IsOther (T.Table q) = is_task_query q ≡ true
IsOther _ = ⊤

next-quiet : (c : Configuration) (t : Task) (answers : List Answered) → IsOther t → NextHas IsQuiet (next c t answers)
unfolding next
next-quiet c (T.Put devices token id block) answers h =
    walk-quiet (Q.CompareTouch block (Some id)) (on_device (compare_end c token block)) (writes c id token block devices) refl
    (λ seen rest. walk-quiet (Q.Write block (Some id)) (on_device (write_end c token block)) (by_all not_written) refl (λ s r. tt) [] devices rest) [] devices answers
next-quiet c (T.Get devices hash) answers h = walk-quiet (Q.Fetch hash) (on_device fetch_end) (by_all not_fetched) refl (λ s r. tt) [] devices answers
next-quiet c (T.Touch devices token id hash text) answers h = walk-quiet (Q.Touch hash (Some id)) (on_device (touch_end c token hash text)) (by_all not_touched) refl (λ s r. tt) [] devices answers
next-quiet c (T.Untrash devices hash) answers h = walk-quiet (Q.Untrash hash) (on_device no_end) (by_all untrashed) refl (λ s r. tt) [] devices answers
next-quiet c (T.Restart device) [] h = refl
next-quiet c (T.Restart device) (a ∷ answers) h = tt
next-quiet c (T.Table q) [] h = table-quiet q h
next-quiet c (T.Table q) (a ∷ answers) h = tt
next-quiet c T.Balance answers h = absurd h
next-quiet c (T.TrashWorker device) answers h = trash-asks IsQuiet device answers refl
next-quiet c (T.PullWorker device) answers h = pull-asks (λ bytes. ⊤) IsQuiet device refl (λ d hash. refl) (λ bytes r. refl) c answers (any-block answers)
next-quiet c (T.EmptyWorker device) answers h = empty-asks IsQuiet device answers refl

pub asks-quietly : (c : Configuration) (t : Task) (answers : List Answered) (q : Query) → IsOther t → next c t answers ≡ asks q → asks_of_round q ≡ false
asks-quietly c t answers q h e = subst (NextHas IsQuiet) e (next-quiet c t answers h)
