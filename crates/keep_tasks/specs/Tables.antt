-- What a task of the table keeps for its ends, and where it stands. For private clauses.
use Rattle.std.specs.Prelude.{◌≡◌, ℕ, List, ◌++◌, Bool, true, false, Some}
use Rattle.keep_spec.specs.Config.{Configuration}
use Rattle.keep_event.specs.Collections.{kind_of_collections}
use Rattle.keep_event.specs.declared.event.Query.{Query}
use Rattle.keep_event.specs.declared.table.TableQuery.{TableQuery}
use Rattle.keep_event.specs.declared.table.TableQuery.TheVariants as TQ
use Rattle.keep_event.specs.declared.table.TableAnswer.{TableAnswer}
use Rattle.keep_event.specs.declared.table.TableAnswer.TheVariants as TA
use Rattle.keep_history.specs.Next.{Answered, Next}
use Rattle.keep_history.specs.Tasks.{one, table_end_of}
use Rattle.keep_tasks.specs.declared.table.Ends.{Ends}

-- the first 12 bytes of the UUID of each collection of the cluster
abbrev pub uuid_beginning : Configuration → List ℕ
uuid_beginning c = c.cluster ++ kind_of_collections

abbrev pub ends_of : Configuration → Ends
ends_of c = record { uuid = Some (uuid_beginning c); ttl = c.ttl; secret = c.secret }

-- a read, whose end has a row's text
abbrev pub is_read : Query → Bool
is_read (Query.Table (TQ.Read token collection version)) = true
is_read query = false

abbrev pub is_row : TableAnswer → Bool
is_row (TA.Row number version expiry want trash_at text) = true
is_row answer = false

-- it asks the table once
pub record IsTable (query : Query) (ends : Ends) (next : List Answered → Next) (answers : List Answered) : Type 0 where
  pub config : Configuration
  pub asked : TableQuery
  pub query_is : query ≡ Query.Table asked
  pub ends_are : ends ≡ ends_of config
  pub goes : (more : List Answered) → next (answers ++ more) ≡ one query (table_end_of config asked) more
