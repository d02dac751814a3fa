-- Tasks that ask the table: `table-begins`, `table-asks` and `table-ends` on where they stand; `saved-end` and `updated-end` on their UUIDs; `row-of-read` on which query is answered a row.
use Rattle.std.proofs.Common.{◌≡◌, ℕ, false, List, [], ◌∷◌, ◌++◌, Option, Some, refl, sym, ◌∙◌, ap}
use Rattle.std.proofs.lemmas.List.{append-nil}
use Rattle.keep_spec.specs.Config.{Configuration}
use Rattle.keep_spec.specs.declared.portable.Portable.{Portable}
use Rattle.keep_event.specs.Answers.{IsTableAnswer, IsAnswerOf}
use Rattle.keep_event.specs.Collections.{collection_uuid, padded}
use Rattle.keep_event.specs.declared.event.Answer.TheVariants as An
use Rattle.keep_event.specs.declared.event.Query.{Query}
use Rattle.keep_event.specs.declared.table.TableQuery.{TableQuery}
use Rattle.keep_event.specs.declared.table.TableQuery.TheVariants as TQ
use Rattle.keep_event.specs.declared.table.TableAnswer.{TableAnswer}
use Rattle.keep_event.specs.declared.table.TableAnswer.TheVariants as TA
use Rattle.keep_history.specs.declared.task.Outcome.{Outcome}
use Rattle.keep_history.specs.declared.task.Outcome.TheVariants as O
use Rattle.keep_history.specs.declared.task.Task.TheVariants as T
use Rattle.keep_history.specs.Next.{Answered, Next, asks}
use Rattle.keep_history.specs.Tasks.{next, table_end, table_end_of}
use Rattle.keep_steps.specs.Steps.{IsTaken}
use Rattle.keep_tasks.specs.Tables.{IsTable, ends_of, is_read, is_row, uuid_beginning}
use Rattle.keep_tasks.specs.declared.table.Ends.{Ends}

pub table-begins : (c : Configuration) (q : TableQuery) (e : Ends) → e ≡ ends_of c → IsTable (Query.Table q) e (next c (T.Table q)) []
unfolding next
table-begins c q e is = record { config = c; asked = q; query_is = refl; ends_are = is; goes = λ more. refl }

module _ (query : Query) (e : Ends) (next : List Answered → Next) (answers : List Answered) (h : IsTable query e next answers) where
  pub table-asks : next answers ≡ asks query
  table-asks = ap next (sym (append-nil answers)) ∙ h.goes []

  pub table-ends : (a : Answered) (end : Option Outcome) (Goes : List Answered → Type 0) → end ≡ Some (table_end_of h.config h.asked a.answer) → IsTaken next (answers ++ a ∷ []) end Goes
  table-ends a end Goes is = rw is (h.goes (a ∷ []))

-- ---- UUIDs

numbered : (c : Configuration) (n : ℕ) → uuid_beginning c ++ padded n ≡ collection_uuid c n
unfolding collection_uuid
numbered c n = refl

module _ (c : Configuration) (q : TableQuery) (e : Ends) (text uuid : List ℕ) (n version : ℕ) (portable : Portable) (is : e ≡ ends_of c) (held : Some text ≡ e.uuid) (made : uuid ≡ text ++ padded n) where
  uuid-is : uuid ≡ collection_uuid c n
  uuid-is = made ∙ ap (λ t. t ++ padded n) (inner text (uuid_beginning c) (held ∙ ap (λ (v : Ends). v.uuid) is)) ∙ numbered c n
    where
      inner : (x y : List ℕ) → Some x ≡ Some y → x ≡ y
      inner x y k = cc k

  pub saved-end : Some (O.Saved uuid version portable) ≡ Some (table_end c q (TA.Saved n version portable))
  unfolding table_end
  saved-end = ap (λ u. Some (O.Saved u version portable)) uuid-is

  pub updated-end : Some (O.Updated uuid version portable) ≡ Some (table_end c q (TA.Updated n version portable))
  unfolding table_end
  updated-end = ap (λ u. Some (O.Updated u version portable)) uuid-is

-- ---- rows

never-row : (q : TableQuery) (n version : ℕ) (expiry : Option ℕ) (want : ℕ) (trash_at : Option ℕ) (text : List ℕ) → is_read (Query.Table q) ≡ false → IsTableAnswer q (TA.Row n version expiry want trash_at text) → ⊥
never-row TQ.BeginRound n version expiry want trash_at text r l = cc l
never-row (TQ.Save request) n version expiry want trash_at text r l = cc l
never-row (TQ.Update collection preserve request) n version expiry want trash_at text r l = cc l
never-row (TQ.Read token collection number) n version expiry want trash_at text r l = cc r
never-row (TQ.SetTrash token collection from until) n version expiry want trash_at text r l = cc l
never-row (TQ.Restore token collection) n version expiry want trash_at text r l = cc l
never-row TQ.Sweep n version expiry want trash_at text r l = cc l
never-row (TQ.Scan round after limit) n version expiry want trash_at text r l = l

not-row : (q : TableQuery) (a : TableAnswer) → is_read (Query.Table q) ≡ false → IsTableAnswer q a → is_row a ≡ false
not-row q (TA.Row n version expiry want trash_at text) r l = absurd (never-row q n version expiry want trash_at text r l)
not-row q _ r l = refl

-- a query that is no read isn't answered a row
pub row-of-read : (query : Query) (a : TableAnswer) → is_read query ≡ false → IsAnswerOf query (An.Table a) → is_row a ≡ false
row-of-read (Query.Table q) a r l = not-row q a r l
row-of-read (Query.Device d q) a r l = absurd l
