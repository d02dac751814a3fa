-- A table over plain lists: the words of its contracts.
use Rattle.std.specs.Prelude.{◌≡◌, ◌≤◌, ℕ, Bool, true, false, List, Result, Ok, Err}
use Rattle.std.specs.List.{AllByRecursion}
use Rattle.keep_spec.specs.declared.memory.NoMemory.{NoMemory}
use Rattle.keep_event.specs.Table.{State, Reply}
use Rattle.keep_event.specs.declared.table.Record.{Record}
use Rattle.keep_event.specs.declared.table.TableAnswer.{TableAnswer}
use Rattle.keep_event.specs.declared.table.TableQuery.{TableQuery}
use Rattle.keep_event.specs.declared.table.TableQuery.TheVariants as queries

abbrev pub reply : TableAnswer → State → Reply
reply answer s = record { answer = answer; state = s }

-- the reply of the machine, or NoMemory and nothing changed
abbrev pub IsLine : Reply → State → State → Result TableAnswer NoMemory → Type 0
IsLine line old new (Ok answer) = reply answer new ≡ line
IsLine line old new (Err e) = new ≡ old

-- no version is above the number of revisions that were drawn
abbrev pub AreVersions : ℕ → List Record → Type 0
AreVersions revisions rs = AllByRecursion (λ r. r.version ≤ revisions) rs

-- a query for which memory may be wanted: those that store a record, and those that copy one
abbrev pub takes_memory : TableQuery → Bool
takes_memory queries.BeginRound = false
takes_memory (queries.Save request) = true
takes_memory (queries.Update collection preserve request) = true
takes_memory (queries.Read token collection version) = true
takes_memory (queries.SetTrash token collection trash_at delete_at) = false
takes_memory (queries.Restore token collection) = false
takes_memory queries.Sweep = false
takes_memory (queries.Scan round after limit) = true
