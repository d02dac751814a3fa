-- A save that the table is asked for ends Saved exactly where it is good: `told-saves`.
use Rattle.std.proofs.Common.{◌≡◌, ℕ, zero, suc, ◌+◌, Bool, true, false, List, [], ◌∷◌, ◌++◌, Option, None, Some, IfSome, refl, sym, subst, ap, ◌↔◌}
use Rattle.std.specs.Prelude.{⊤, ◌==◌, IsTrue, option_map, if◌then◌else◌}
use Rattle.std.specs.List.{AllByRecursion}
use Rattle.keep_spec.specs.Config.{Configuration, token_of}
use Rattle.keep_spec.specs.Lines.{cut, text_of}
use Rattle.keep_spec.specs.declared.token.TokenId.{TokenId}
use Rattle.keep_event.specs.Requests.{by_token, if_allowed, made_of, refusal_of_request, save}
use Rattle.keep_event.specs.Table.{State, create}
use Rattle.keep_event.specs.World.{World, asked}
use Rattle.keep_event.specs.declared.device.DeviceAnswer.TheVariants as A
use Rattle.keep_event.specs.declared.device.DeviceQuery.{DeviceQuery}
use Rattle.keep_event.specs.declared.device.DeviceQuery.TheVariants as Q
use Rattle.keep_event.specs.declared.event.Answer.{Answer}
use Rattle.keep_event.specs.declared.event.Answer.TheVariants as An
use Rattle.keep_event.specs.declared.event.Query.{Query}
use Rattle.keep_event.specs.declared.table.SaveRequest.{SaveRequest}
use Rattle.keep_event.specs.declared.table.TableAnswer.{TableAnswer}
use Rattle.keep_event.specs.declared.table.TableAnswer.TheVariants as TA
use Rattle.keep_event.specs.declared.table.TableQuery.{TableQuery}
use Rattle.keep_event.specs.declared.table.TableQuery.TheVariants as TQ
use Rattle.keep_collections.specs.Verdicts.{IsGood, is_saved}
use Rattle.keep_collections.proofs.Saves.{good-request, refused-request, unknown-request}
use Rattle.keep_history.specs.declared.task.Command.{Command}
use Rattle.keep_history.specs.declared.task.Command.TheVariants as C
use Rattle.keep_history.specs.declared.task.Opening.{Opening}
use Rattle.keep_history.specs.declared.task.Opening.TheVariants as Open
use Rattle.keep_history.specs.declared.task.Outcome.{Outcome}
use Rattle.keep_history.specs.declared.task.Task.{Task}
use Rattle.keep_history.specs.declared.task.Task.TheVariants as T
use Rattle.keep_history.specs.Effects.{Scene, Standing, Effect, Ending, Asked, after_made, answered_by, asked_on, asked_in, command_in, effect_of_line, event_of, events_max, is_failed, with_answer}
use Rattle.keep_history.specs.Ended.{Begun, begun_of}
use Rattle.keep_history.specs.Run.{at_start}
use Rattle.keep_history.specs.Next.{Answered, Next, asks, ends, ends_or}
use Rattle.keep_history.specs.Tasks.{next, walk, on_device, by_all, writes, compare_end, write_end, fetch_end, touch_end, no_end, not_written, not_fetched, not_touched, untrashed, table_end, table_end_of}
use Rattle.keep_history.proofs.Collisions.{IsWorldOf, asked-world, new-world}
use Rattle.keep_history.proofs.Lines.{AskedHas, Begins, CommandHas, GoesOn, SceneHas, both-some, line-gives, line-keeps, some-more}
use Rattle.keep_history.proofs.Openings.{IsMade}
use Rattle.keep_history.proofs.Rounds.{BlockHas, NextHas, balance-asks, trash-asks, pull-asks, empty-asks}
use Rattle.keep_run.specs.Saves.{request_in, IsSaved, EndsSaved, IsExact, AreExact, LinesSave, GoodSavesAreMade}

-- ---- the table's answer, and the end that it makes

save-exact : (c : Configuration) (reading : ℕ) (r : SaveRequest) (s : State) → IsTrue (is_saved (save c reading r s).answer) ↔ IsGood c reading r
unfolding save create
save-exact c reading r s = by (token_of c r.token) refl
  where
    allowed : (owner : TokenId) → token_of c r.token ≡ Some owner → (o : Option TableAnswer) → refusal_of_request c reading r ≡ o → IsTrue (is_saved (if_allowed o s (create owner (made_of r) s)).answer) ↔ IsGood c reading r
    allowed owner known None e = (λ yes. good-request c reading r owner known e, λ g. refl)
    allowed owner known (Some answer) e = refused-request c reading r answer e

    by : (o : Option TokenId) → token_of c r.token ≡ o → IsTrue (is_saved (by_token o s (λ token. if_allowed (refusal_of_request c reading r) s (create token (made_of r) s))).answer) ↔ IsGood c reading r
    by None e = unknown-request c reading r TA.UnknownToken refl e
    by (Some owner) e = allowed owner e (refusal_of_request c reading r) refl

false-true : false ≡ true → ⊥
false-true e = cc

neither : {A : Type 0} → (A → ⊥) → A ↔ (false ≡ true)
neither never = (λ a. absurd (never a), λ e. absurd (false-true e))

end-saved : (c : Configuration) (q : TableQuery) (answer : TableAnswer) → IsSaved (table_end c q answer) ↔ IsTrue (is_saved answer)
unfolding table_end
end-saved c q (TA.Round round started) = neither (λ x. x)
end-saved c q (TA.Saved number version portable) = (λ x. refl, λ e. tt)
end-saved c q (TA.Updated number version portable) = neither (λ x. x)
end-saved c q (TA.Row number version expiry want trash_at text) = neither (λ x. x)
end-saved c q (TA.TrashSet trash_at delete_at) = neither (λ x. x)
end-saved c q TA.Restored = neither (λ x. x)
end-saved c q (TA.Swept versions collections) = neither (λ x. x)
end-saved c q (TA.Rows rows last) = neither (λ x. x)
end-saved c q TA.UnknownToken = neither (λ x. x)
end-saved c q TA.NoSuch = neither (λ x. x)
end-saved c q TA.NotOwner = neither (λ x. x)
end-saved c q (TA.InTrash at) = neither (λ x. x)
end-saved c q (TA.BadManifest at kind) = neither (λ x. x)
end-saved c q (TA.Unsigned index why) = neither (λ x. x)
end-saved c q (TA.WrongHash computed) = neither (λ x. x)
end-saved c q TA.BadWant = neither (λ x. x)
end-saved c q (TA.TooManyVersions held) = neither (λ x. x)

end-exact : (c : Configuration) (reading : ℕ) (r : SaveRequest) (s : State) → IsSaved (table_end c (TQ.Save r) (save c reading r s).answer) ↔ IsGood c reading r
end-exact c reading r s =
    let e = end-saved c (TQ.Save r) (save c reading r s).answer in
    let f = save-exact c reading r s in
    (λ x. f.0 (e.0 x), λ g. e.1 (f.1 g))

-- the table is asked whatever store fails
table-answers : (c : Configuration) (fails : Bool) (reading : ℕ) (r : SaveRequest) (w : World) → w.config ≡ c → (asked fails reading (Query.Table (TQ.Save r)) w).answer ≡ An.Table (save c reading r w.table).answer
table-answers c true reading r w e = ap (λ x. An.Table (save x reading r w.table).answer) e
table-answers c false reading r w e = ap (λ x. An.Table (save x reading r w.table).answer) e

-- ---- what follows the answer to a save

abbrev SavesNext : Configuration → Answered → Next → Next → Type 0
SavesNext c a (asks q) after = IfSome (request_in q) (λ r. after ≡ ends (table_end_of c (TQ.Save r) a.answer))
SavesNext c a (ends outcome) after = ⊤

-- a query that saves nothing
abbrev AsksNoSave : Query → Type 0
AsksNoSave q = request_in q ≡ None

abbrev AnyBytes : List ℕ → Type 0
AnyBytes bytes = ⊤

block-any : (a : Answer) → BlockHas AnyBytes a
block-any (An.Device (A.Block bytes)) = tt
block-any _ = tt

blocks-any : (answers : List Answered) → AllByRecursion (λ a. BlockHas AnyBytes a.answer) answers
blocks-any [] = tt
blocks-any (a ∷ answers) = (block-any a.answer, blocks-any answers)

module _ (c : Configuration) (a : Answered) where
  -- a balance and workers save nothing
  quiet-saves : (nx after : Next) → NextHas AsksNoSave nx → SavesNext c a nx after
  quiet-saves (asks q) after none = rw none tt
  quiet-saves (ends outcome) after h = tt

  ends-or-saves : (o : Option Outcome) (nx nx' : Next) → SavesNext c a nx nx' → SavesNext c a (ends_or o nx) (ends_or o nx')
  ends-or-saves None nx nx' h = h
  ends-or-saves (Some o) nx nx' h = tt

  module _ (q : DeviceQuery) (end : Answer → Option Outcome) (after : List Answer → List Answered → Next)
      (later : (seen : List Answer) (answers : List Answered) → SavesNext c a (after seen answers) (after seen (answers ++ a ∷ []))) where
    walk-saves : (seen : List Answer) (ds : List ℕ) (answers : List Answered) → SavesNext c a (walk q end after seen ds answers) (walk q end after seen ds (answers ++ a ∷ []))
    unfolding walk
    walk-saves seen [] answers = later seen answers
    walk-saves seen (d ∷ ds) [] = tt
    walk-saves seen (d ∷ ds) (b ∷ answers) = ends-or-saves (end b.answer) _ _ (walk-saves (seen ++ b.answer ∷ []) ds answers)

  next-saves : (task : Task) (answers : List Answered) → SavesNext c a (next c task answers) (next c task (answers ++ a ∷ []))
  unfolding next
  next-saves (T.Put devices token id block) answers =
      walk-saves (Q.CompareTouch block (Some id)) (on_device (compare_end c token block)) (writes c id token block devices)
      (λ seen rest. walk-saves (Q.Write block (Some id)) (on_device (write_end c token block)) (by_all not_written) (λ s rest'. tt) [] devices rest) [] devices answers
  next-saves (T.Get devices hash) answers = walk-saves (Q.Fetch hash) (on_device fetch_end) (by_all not_fetched) (λ s rest. tt) [] devices answers
  next-saves (T.Touch devices token id hash text) answers = walk-saves (Q.Touch hash (Some id)) (on_device (touch_end c token hash text)) (by_all not_touched) (λ s rest. tt) [] devices answers
  next-saves (T.Untrash devices hash) answers = walk-saves (Q.Untrash hash) (on_device no_end) (by_all untrashed) (λ s rest. tt) [] devices answers
  next-saves (T.Restart device) [] = tt
  next-saves (T.Restart device) (b ∷ answers) = tt
  next-saves (T.Table TQ.BeginRound) [] = tt
  next-saves (T.Table (TQ.Save request)) [] = refl
  next-saves (T.Table (TQ.Update collection preserve request)) [] = tt
  next-saves (T.Table (TQ.Read token collection version)) [] = tt
  next-saves (T.Table (TQ.SetTrash token collection trash_at delete_at)) [] = tt
  next-saves (T.Table (TQ.Restore token collection)) [] = tt
  next-saves (T.Table TQ.Sweep) [] = tt
  next-saves (T.Table (TQ.Scan round after limit)) [] = tt
  next-saves (T.Table q) (b ∷ answers) = tt
  next-saves T.Balance answers = quiet-saves (next c T.Balance answers) _ (balance-asks AsksNoSave c refl (λ d n. refl) (λ d n prefix. refl) (λ n after limit. refl) (λ d n lists. refl) answers)
  next-saves (T.TrashWorker device) answers = quiet-saves (next c (T.TrashWorker device) answers) _ (trash-asks AsksNoSave device answers refl)
  next-saves (T.PullWorker device) answers =
      quiet-saves (next c (T.PullWorker device) answers) _ (pull-asks AnyBytes AsksNoSave device refl (λ d hash. refl) (λ bytes any. refl) c answers (blocks-any answers))
  next-saves (T.EmptyWorker device) answers = quiet-saves (next c (T.EmptyWorker device) answers) _ (empty-asks AsksNoSave device answers refl)

-- ---- asking

-- how a task that was asked has ended
abbrev end_of : Asked → Option Ending
end_of a = option_map (λ outcome. record { task = a.standing.task; outcome = outcome }) a.outcome

module _ (c : Configuration) (failed : List ℕ) where
  record AskedSaves (a : Asked) : Type 0 where
    world : IsWorldOf c a.world
    exact : AreExact c a.made (end_of a)

  either-saves : (b : Bool) (x y : Asked) → AskedSaves x → AskedSaves y → AskedSaves (if b then x else y)
  either-saves true x y p q = p
  either-saves false x y p q = q

  ends-at : (turns reading n : ℕ) (w : World) (s : Standing) (nx : Next) (outcome : Outcome) → nx ≡ ends outcome → end_of (asked_on turns c failed reading n w s nx) ≡ Some (record { task = s.task; outcome = outcome })
  unfolding asked_on
  ends-at zero reading n w s nx outcome e = rw e refl
  ends-at (suc turns) reading n w s nx outcome e = rw e refl

  -- an event whose query is followed as the task goes on with its answer
  event-exact : (turns reading n : ℕ) (w : World) (s : Standing) (q : Query) → IsWorldOf c w
      → SavesNext c (answered_by (event_of failed reading s.actor n q w).event) (asks q) (next c s.task (s.answers ++ answered_by (event_of failed reading s.actor n q w).event ∷ []))
      → IsExact c (event_of failed reading s.actor n q w)
      (end_of (asked_on turns c failed reading (n + 1) (event_of failed reading s.actor n q w).left (with_answer s (event_of failed reading s.actor n q w).event)
      (next c s.task (s.answers ++ answered_by (event_of failed reading s.actor n q w).event ∷ []))))
  event-exact turns reading n w s (Query.Table (TQ.Save r)) h k =
      let m = event_of failed reading s.actor n (Query.Table (TQ.Save r)) w in
      let e = ends-at turns reading (n + 1) m.left (with_answer s m.event) _ (table_end_of c (TQ.Save r) m.event.answer) k in
      subst (λ o. EndsSaved o ↔ IsGood c reading r) (sym e)
      (subst (λ x. IsSaved (table_end_of c (TQ.Save r) x) ↔ IsGood c reading r) (sym (table-answers c (is_failed failed n) reading r w h.0)) (end-exact c reading r w.table))
  event-exact turns reading n w s (Query.Table TQ.BeginRound) h k = tt
  event-exact turns reading n w s (Query.Table (TQ.Update collection preserve request)) h k = tt
  event-exact turns reading n w s (Query.Table (TQ.Read token collection version)) h k = tt
  event-exact turns reading n w s (Query.Table (TQ.SetTrash token collection trash_at delete_at)) h k = tt
  event-exact turns reading n w s (Query.Table (TQ.Restore token collection)) h k = tt
  event-exact turns reading n w s (Query.Table TQ.Sweep) h k = tt
  event-exact turns reading n w s (Query.Table (TQ.Scan round after limit)) h k = tt
  event-exact turns reading n w s (Query.Device d q) h k = tt

  asked-saves : (turns reading n : ℕ) (w : World) (s : Standing) (nx : Next) → IsWorldOf c w → nx ≡ next c s.task s.answers → AskedSaves (asked_on turns c failed reading n w s nx)
  unfolding asked_on
  asked-saves turns reading n w s (ends outcome) h e = ended turns
    where
      ended : (turns : ℕ) → AskedSaves (asked_on turns c failed reading n w s (ends outcome))
      ended zero = record { world = h; exact = tt }
      ended (suc k) = record { world = h; exact = tt }
  asked-saves zero reading n w s (asks q) h e = record { world = h; exact = tt }
  asked-saves (suc turns) reading n w s (asks q) h e =
      let m = event_of failed reading s.actor n q w in
      let a = answered_by m.event in
      let after = with_answer s m.event in
      let rest = asked_on turns c failed reading (n + 1) m.left after (next c after.task after.answers) in
      let k = asked-saves turns reading (n + 1) m.left after (next c after.task after.answers) (asked-world c (is_failed failed n) reading q w h) refl in
      let goes : SavesNext c a (asks q) (next c s.task (s.answers ++ a ∷ [])) = subst (λ x. SavesNext c a x (next c s.task (s.answers ++ a ∷ []))) (sym e) (next-saves c a s.task s.answers) in
      let first : IsExact c m (end_of rest) = event-exact turns reading n w s q h goes in
      either-saves (n == events_max) (record { made = []; world = w; standing = s; outcome = None; spent = true }) (after_made m rest)
      (record { world = h; exact = tt })
      (record { world = k.world; exact = (first, k.exact) })

  -- ---- lines

  abbrev AnyStanding : Standing → Type 0
  AnyStanding s = ⊤

  abbrev LineSaves : Scene → Effect → Type 0
  LineSaves scene e = AreExact c e.made e.ended

  goes : (o : Option Outcome) (s : Standing) → GoesOn c failed (IsWorldOf c) AnyStanding LineSaves o s
  goes None s = tt
  goes (Some outcome) s = tt

  asking : (turns reading : ℕ) (scene : Scene) (name : List ℕ) (s : Standing) → IsWorldOf c scene.world → AnyStanding s → AskedHas c failed (IsWorldOf c) AnyStanding LineSaves scene name (asked_in turns c failed reading scene s)
  asking turns reading scene name s h t =
      let a = asked_in turns c failed reading scene s in
      let k = asked-saves turns reading scene.count scene.world s (next c s.task s.answers) h refl in
      record { world = k.world; standing = goes a.outcome a.standing; line = k.exact }

  quiet : (scene : Scene) (e : Effect) → e.made ≡ [] → e.ended ≡ None → LineSaves scene e
  quiet scene e m n = rw m tt

  opening-any : (opening : Opening) → IsMade (Begins c failed (IsWorldOf c) AnyStanding LineSaves) c opening
  opening-any (Open.Put token server bytes hash) = λ id some actor. tt
  opening-any (Open.Get token server locator) = λ hash some actor. tt
  opening-any (Open.Touch token server locator) = λ id hash some actor. tt
  opening-any (Open.Untrash token server hash) = λ some actor. tt
  opening-any (Open.Restart device) = λ actor. tt
  opening-any (Open.Save request) = λ actor. tt
  opening-any (Open.Update collection preserve request) = λ actor. tt
  opening-any (Open.Read token collection version) = λ actor. tt
  opening-any (Open.Trash token collection trash_at delete_at) = λ actor. tt
  opening-any (Open.Restore token collection) = λ actor. tt
  opening-any Open.Sweep = λ actor. tt
  opening-any Open.Balance = λ actor. tt
  opening-any (Open.TrashWorker device) = λ actor. tt
  opening-any (Open.PullWorker device) = λ actor. tt
  opening-any (Open.EmptyWorker device) = λ actor. tt

  command-any : (o : Option Command) → IfSome o (CommandHas c failed (IsWorldOf c) AnyStanding LineSaves)
  command-any None = tt
  command-any (Some (C.Open name reading opening)) = opening-any opening
  command-any (Some (C.Step name reading)) = tt
  command-any (Some (C.Finish name reading)) = tt

  lines-save : (scene : Scene) (pieces : List (List ℕ)) → SceneHas c failed (IsWorldOf c) AnyStanding LineSaves scene → LinesSave c failed scene pieces
  lines-save scene [] h = tt
  lines-save scene (piece ∷ rest) h =
      both-some _ _ (effect_of_line c failed scene (text_of piece))
      (line-gives c failed (IsWorldOf c) AnyStanding LineSaves asking quiet scene (text_of piece) h)
      (some-more _ _ (effect_of_line c failed scene (text_of piece)) (λ e k. lines-save e.scene rest k)
      (line-keeps c failed (IsWorldOf c) AnyStanding LineSaves asking scene (text_of piece) (command-any (command_in c scene (text_of piece))) h))

from-begun : (failed : List ℕ) (o : Option Begun) → IfSome o (λ (b : Begun). LinesSave b.config failed (at_start b.config).scene b.rest)
from-begun failed None = tt
from-begun failed (Some b) = lines-save b.config failed (at_start b.config).scene b.rest (record { world = new-world b.config; names = tt })

pub good-saves-are-made : (stores : ℕ) (failed bytes : List ℕ) → GoodSavesAreMade stores failed bytes
good-saves-are-made stores failed bytes = from-begun failed (begun_of stores (cut bytes))

pub told-saves : (stores : ℕ) (told : Option (List ℕ)) → IfSome told (λ bytes. (failed : List ℕ) → GoodSavesAreMade stores failed bytes)
told-saves stores None = tt
told-saves stores (Some bytes) = λ failed. good-saves-are-made stores failed bytes
