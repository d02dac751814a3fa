-- The counters of the table stay below the number of events: `counters-more`, `counters-after`, `has-room`.
use Rattle.std.proofs.Common.{◌≡◌, ◌≤◌, ◌+◌, ℕ, Ok, sym, subst, arith}
use Rattle.std.specs.Prelude.{IsTrue, nat_lt, ◌&&◌, ◌^◌}
use Rattle.std.proofs.lemmas.Bool.Decides.{nat_tests}
use Rattle.keep_spec.specs.Config.{Configuration}
use Rattle.keep_event.specs.Counters.{CountersUpTo}
use Rattle.keep_event.specs.Port.{most_events}
use Rattle.keep_event.specs.Requests.{table_line}
use Rattle.keep_event.specs.Table.{State, has_room}
use Rattle.keep_event.specs.declared.table.TableAnswer.{TableAnswer}
use Rattle.keep_event.specs.declared.table.TableQuery.{TableQuery}
use Rattle.keep_event.proofs.Counters.{line-few}
use Rattle.keep_table.specs.Contents.{Contents, IsLine}

pub counters-more : (made more : ℕ) (s : State) → made ≤ more → CountersUpTo made s → CountersUpTo more s
counters-more made more s le h = record { numbers = omega (arith, le, h.numbers); revisions = omega (arith, le, h.revisions); rounds = omega (arith, le, h.rounds) }

pub counters-after : (c : Configuration) (reading made : ℕ) (query : TableQuery) (old new : Contents) (answer : TableAnswer)
    → IsLine (table_line c reading query old.state) old new (Ok answer) → CountersUpTo made old.state → CountersUpTo (made + 1) new.state
counters-after c reading made query old new answer l h = subst (CountersUpTo (made + 1)) (sym l.changed) (line-few old.state c reading query made h)

pub has-room : (made : ℕ) (s : State) → made ≤ most_events → CountersUpTo made s → IsTrue (has_room s)
has-room made s le h = grind (arith, nat_tests, le, h.numbers, h.revisions, h.rounds)
