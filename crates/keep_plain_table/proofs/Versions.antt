-- No record's version is above the number of revisions, whatever a call does to the list.
use Rattle.std.proofs.Common.{◌≡◌, ◌≤◌, ◌<◌, ◌+◌, ◌++◌, ◌^◌, ℕ, List, [], ◌∷◌, Bool, true, false, cond, map, filter, arith, Option, Some}
use Rattle.std.specs.List.{find}
use Rattle.std.specs.Option.{option_map_or}
use Rattle.std.proofs.lemmas.Bool.{and_parts, ltb-true}
use Rattle.keep_event.specs.Table.{State, has_room, superseded, is_current_of}
use Rattle.keep_event.specs.declared.table.Record.{Record}
use Rattle.keep_event.specs.declared.table.Standing.{Standing}
use Rattle.keep_plain_table.specs.Lines.{AreVersions}

pub room-revisions : (s : State) → has_room s ≡ true → s.revisions + 1 < 10 ^ 15
room-revisions s h = ltb-true (s.revisions + 1) (10 ^ 15) (and_parts _ _ (and_parts _ _ h).0).1

pub versions-pushed : (n : ℕ) (rs : List Record) (r : Record) → r.version ≤ n + 1 → AreVersions n rs → AreVersions (n + 1) (rs ++ r ∷ [])
versions-pushed n [] r le h = (le, tt)
versions-pushed n (q ∷ rs) r le h = (omega (arith, h.0), versions-pushed n rs r le h.1)

kept : (n : ℕ) (b : Bool) (r : Record) (rs : List Record) → r.version ≤ n → AreVersions n rs → AreVersions n (cond b (r ∷ rs) rs)
kept n true r rs le h = (le, h)
kept n false r rs le h = h

pub versions-filtered : (n : ℕ) (p : Record → Bool) (rs : List Record) → AreVersions n rs → AreVersions n (filter p rs)
versions-filtered n p [] h = tt
versions-filtered n p (r ∷ rs) h = kept n (p r) r (filter p rs) h.0 (versions-filtered n p rs h.1)

superseded-version : (n : ℕ) (b : Bool) (q r : Record) → q.version ≤ n → r.version ≤ n → (cond b q r).version ≤ n
superseded-version n true q r h k = h
superseded-version n false q r h k = k

pub versions-superseded : (n number : ℕ) (standing : Standing) (rs : List Record) → AreVersions n rs → AreVersions n (map (superseded number standing) rs)
versions-superseded n number standing [] h = tt
versions-superseded n number standing (r ∷ rs) h = (superseded-version n (is_current_of number r) _ r h.0 h.0, versions-superseded n number standing rs h.1)

found : (n : ℕ) (b : Bool) (r : Record) (rest : Option Record) → r.version ≤ n → option_map_or (λ r. r.version) rest 0 ≤ n → option_map_or (λ r. r.version) (cond b (Some r) rest) 0 ≤ n
found n true r rest le h = le
found n false r rest le h = h

pub version-found : (n : ℕ) (p : Record → Bool) (rs : List Record) → AreVersions n rs → option_map_or (λ r. r.version) (find p rs) 0 ≤ n
version-found n p [] h = omega arith
version-found n p (r ∷ rs) h = found n (p r) r (find p rs) h.0 (version-found n p rs h.1)
