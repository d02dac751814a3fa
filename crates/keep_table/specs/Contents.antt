-- What contracts see of a table (its rules and the table machine's state), the invariant of its records and collections, and what a call does.
use Rattle.std.specs.Prelude.{◌≡◌, ◌≤◌, ◌<◌, ◌&&◌, ⊤, ℕ, Bool, true, false, not, List, [], ◌∷◌, map, count_by, Result, Ok, Err}
use Rattle.std.specs.List.{AllByRecursion, list_any}
use Rattle.keep_spec.specs.declared.memory.NoMemory.{NoMemory}
use Rattle.keep_event.specs.declared.table.TableRules.{TableRules}
use Rattle.keep_event.specs.declared.table.TableAnswer.{TableAnswer}
use Rattle.keep_event.specs.declared.table.TableAnswer.TheVariants.{Updated, Rows}
use Rattle.keep_event.specs.Table.{State, Reply, is_current, is_of}
use Rattle.keep_event.specs.declared.table.Record.{Record}
use Rattle.keep_event.specs.declared.table.Collection.{Collection}

-- each number is above the one before it, and the first above `low`
abbrev pub RisesAbove : ℕ → List ℕ → Type 0
RisesAbove low [] = ⊤
RisesAbove low (n ∷ ns) = (low < n) × RisesAbove n ns

-- none of a record's numbers is above those that were drawn
pub record IsDrawn (numbers revisions : ℕ) (r : Record) : Type 0 where
  pub collection : r.collection ≤ numbers
  pub version : r.version ≤ revisions
  pub revision : r.revision ≤ revisions

-- a record is current exactly where no later one is of its collection
abbrev pub AreSuperseded : List Record → Type 0
AreSuperseded [] = ⊤
AreSuperseded (r ∷ rs) = (is_current r.standing ≡ not (list_any (is_of r.collection) rs)) × AreSuperseded rs

-- records in the order of their revisions, the newest of each collection current and the others not
pub record AreOrderly (numbers revisions : ℕ) (rs : List Record) : Type 0 where
  pub rising : RisesAbove 0 (map (λ r. r.revision) rs)
  pub drawn : AllByRecursion (IsDrawn numbers revisions) rs
  pub superseded : AreSuperseded rs

-- no collection's number is above those that were drawn
abbrev pub AreDrawn : ℕ → List Collection → Type 0
AreDrawn numbers xs = AllByRecursion (λ x. x.number ≤ numbers) xs

-- a record of a collection that isn't its current one
abbrev pub is_version_of : ℕ → Record → Bool
is_version_of number r = is_of number r && not (is_current r.standing)

-- no collection has more versions than this
abbrev pub AreFew : ℕ → List Record → Type 0
AreFew versions rs = (number : ℕ) → count_by (is_version_of number) rs ≤ versions

pub record Contents : Type 0 where
  pub rules : TableRules
  pub state : State

-- the answer and the state are the reply's, and the rules stay
pub record IsReply (reply : Reply) (old new : Contents) (answer : TableAnswer) : Type 0 where
  pub answered : answer ≡ reply.answer
  pub changed : new.state ≡ reply.state
  pub rules : new.rules ≡ old.rules

-- what a call does: its reply, or memory was refused and nothing has changed, neither the rules nor the state
abbrev pub IsLine : Reply → Contents → Contents → Result TableAnswer NoMemory → Type 0
IsLine reply old new (Ok answer) = IsReply reply old new answer
IsLine reply old new (Err e) = new ≡ old

abbrev pub is_updated : TableAnswer → Bool
is_updated (Updated number version portable) = true
is_updated other = false

-- an answer with rows, whose revisions rise from above `after`
abbrev pub AreRowsAbove : ℕ → TableAnswer → Type 0
AreRowsAbove after (Rows rows last) = RisesAbove after (map (λ r. r.revision) rows)
AreRowsAbove after other = ⊥
