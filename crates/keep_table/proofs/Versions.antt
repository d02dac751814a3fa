-- No record's version is above the number of revisions, which has room for one more.
use Rattle.std.proofs.Common.{◌≡◌, ◌≤◌, ◌<◌, ◌+◌, ◌^◌, ℕ, List, [], ◌∷◌, Bool, true, false, cond, arith, Option, Some}
use Rattle.std.specs.List.{AllByRecursion, find}
use Rattle.std.specs.Option.{option_map_or}
use Rattle.std.proofs.lemmas.Bool.{and_parts, ltb-true}
use Rattle.keep_event.specs.Table.{State, has_room}
use Rattle.keep_event.specs.declared.table.Record.{Record}
use Rattle.keep_table.specs.Contents.{IsDrawn}

pub room-revisions : (s : State) → has_room s ≡ true → s.revisions + 1 < 10 ^ 15
room-revisions s h = ltb-true (s.revisions + 1) (10 ^ 15) (and_parts _ _ (and_parts _ _ h).0).1

found-cond : (m : ℕ) (b : Bool) (r : Record) (rest : Option Record) → r.version ≤ m → option_map_or (λ r. r.version) rest 0 ≤ m → option_map_or (λ r. r.version) (cond b (Some r) rest) 0 ≤ m
found-cond m true r rest v h = v
found-cond m false r rest v h = h

pub version-le : (n m : ℕ) (p : Record → Bool) (rs : List Record) → AllByRecursion (IsDrawn n m) rs → option_map_or (λ r. r.version) (find p rs) 0 ≤ m
version-le n m p [] h = omega arith
version-le n m p (r ∷ rs) h = found-cond m (p r) r (find p rs) h.0.version (version-le n m p rs h.1)
