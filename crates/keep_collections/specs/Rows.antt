-- The rows of a scan rise from above where it begins. For private clauses.
use Rattle.std.specs.Prelude.{⊤}
use Rattle.keep_event.specs.declared.table.TableQuery.{TableQuery}
use Rattle.keep_event.specs.declared.table.TableQuery.TheVariants as queries
use Rattle.keep_event.specs.declared.table.TableAnswer.{TableAnswer}
use Rattle.keep_table.specs.Contents.{AreRowsAbove}

abbrev pub HasRows : TableQuery → TableAnswer → Type 0
HasRows (queries.Scan round after limit) answer = AreRowsAbove after answer
HasRows other answer = ⊤
