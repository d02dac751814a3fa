-- The table machine: a reply to each query, over plain lists. This is the project's own rule.
use Rattle.std.specs.Prelude.{ℕ, ◌+◌, ◌/◌, ◌^◌, ◌==◌, ◌&&◌, ◌||◌, nat_lt, nat_le, min, max, not, List, [], ◌∷◌, ◌++◌, length, map, filter, take, count_by, Bool, true, false, Option, None, Some, unwrap_or, Result, Ok, Err, ok_or, if◌then◌else◌}
use Rattle.std.specs.List.{find}
use Rattle.std.specs.Option.{option_map_or}
pub use Rattle.keep_spec.specs.Results.{◌>>=◌}
use Rattle.keep_spec.specs.Times.{guard, grace, expiry_at}
use Rattle.keep_spec.specs.declared.times.TheConstants.{NANOS_PER_SECOND}
use Rattle.keep_spec.specs.declared.token.TokenId.{TokenId}
use Rattle.keep_event.specs.declared.table.TableRules.{TableRules}
use Rattle.keep_event.specs.declared.table.Standing.{Standing}
use Rattle.keep_event.specs.declared.table.Standing.TheVariants.{Current, Kept, Preserved}
use Rattle.keep_event.specs.declared.table.NewRecord.{NewRecord}
use Rattle.keep_event.specs.declared.table.Record.{Record}
use Rattle.keep_event.specs.declared.table.Collection.{Collection}
use Rattle.keep_event.specs.declared.table.ScanRow.{ScanRow}
use Rattle.keep_event.specs.declared.table.TableAnswer.{TableAnswer}
use Rattle.keep_event.specs.declared.table.TableAnswer.TheVariants.{Round, Saved, Updated, Row, TrashSet, Restored, Swept, Rows, NoSuch, NotOwner, InTrash, TooManyVersions}

-- records in the order of their revisions, collections in that of their numbers, and how many numbers, revisions and rounds were drawn
pub record State : Type 0 where
  pub records : List Record
  pub collections : List Collection
  pub numbers : ℕ
  pub revisions : ℕ
  pub rounds : ℕ

abbrev pub empty : State
empty = record { records = []; collections = []; numbers = 0; revisions = 0; rounds = 0 }

pub record Reply : Type 0 where
  pub answer : TableAnswer
  pub state : State

abbrev pub stays : TableAnswer → State → Reply
stays answer s = record { answer = answer; state = s }

-- where a refusal comes first, nothing changes
abbrev pub unless_refused : {X : Type 0} → State → Result X TableAnswer → (X → Reply) → Reply
unless_refused s (Err refusal) next = stays refusal s
unless_refused s (Ok x) next = next x

-- ---- records and collections

abbrev pub is_current : Standing → Bool
is_current Current = true
is_current (Kept until) = false
is_current Preserved = false

abbrev pub is_preserved : Standing → Bool
is_preserved Current = false
is_preserved (Kept until) = false
is_preserved Preserved = true

-- a version is due at a reading above its time
abbrev pub is_due : ℕ → Standing → Bool
is_due reading Current = false
is_due reading (Kept until) = nat_lt until reading
is_due reading Preserved = false

abbrev pub is_of : ℕ → Record → Bool
is_of number r = r.collection == number

abbrev pub is_current_of : ℕ → Record → Bool
is_current_of number r = is_of number r && is_current r.standing

abbrev pub is_due_of : ℕ → ℕ → Record → Bool
is_due_of reading number r = is_of number r && is_due reading r.standing

abbrev pub collection_of : ℕ → State → Option Collection
collection_of number s = find (λ x. x.number == number) s.collections

-- the system token passes every test of ownership
abbrev pub is_owner : TokenId → Collection → Bool
is_owner token x = (token.number == 0) || (token.number == x.owner.number)

-- in the trash at readings not below trash_at
abbrev pub is_in_trash : ℕ → Collection → Bool
is_in_trash reading x = option_map_or (λ at. nat_le at reading) x.trash_at false

-- a collection goes at readings above delete_at
abbrev pub is_gone : ℕ → Collection → Bool
is_gone reading x = option_map_or (λ at. nat_lt at reading) x.delete_at false

-- the collection, where it exists and is the token's
abbrev pub owned : TokenId → ℕ → State → Result Collection TableAnswer
owned token number s = do
  x ← ok_or (collection_of number s) NoSuch
  if is_owner token x then Ok x else Err NotOwner

-- the same, where it isn't in the trash
abbrev pub updatable : ℕ → TokenId → ℕ → State → Result Collection TableAnswer
updatable reading token number s = do
  x ← owned token number s
  if is_in_trash reading x then Err (InTrash (unwrap_or x.trash_at 0)) else Ok x

abbrev pub refusal_of : {X : Type 0} → Result X TableAnswer → Option TableAnswer
refusal_of (Ok x) = None
refusal_of (Err refusal) = Some refusal

-- ---- rounds

unfoldable pub begin_round : ℕ → State → Reply
begin_round reading s = record {
  answer = Round (s.rounds + 1) reading;
  state = record { records = s.records; collections = s.collections; numbers = s.numbers; revisions = s.revisions; rounds = s.rounds + 1 };
}

-- ---- saves and updates of requests that are good

abbrev pub new_collection : ℕ → TokenId → Collection
new_collection number owner = record { number = number; owner = owner; trash_at = None; delete_at = None }

abbrev pub new_record : ℕ → ℕ → ℕ → NewRecord → Record
new_record number version revision made = record { collection = number; version = version; revision = revision; made = made; standing = Current }

unfoldable pub create : TokenId → NewRecord → State → Reply
create owner made s = record {
  answer = Saved (s.numbers + 1) 1 made.portable;
  state = record {
    records = s.records ++ new_record (s.numbers + 1) 1 (s.revisions + 1) made ∷ [];
    collections = s.collections ++ new_collection (s.numbers + 1) owner ∷ [];
    numbers = s.numbers + 1;
    revisions = s.revisions + 1;
    rounds = s.rounds;
  };
}

-- what becomes of the current record of a collection
abbrev pub superseded : ℕ → Standing → Record → Record
superseded number standing r =
    if is_current_of number r then record { collection = r.collection; version = r.version; revision = r.revision; made = r.made; standing = standing } else r

-- a version of a collection that isn't due
abbrev pub is_held : ℕ → ℕ → Record → Bool
is_held reading number r = is_of number r && not (is_current r.standing) && not (is_due reading r.standing)

abbrev pub versions_held : ℕ → ℕ → State → ℕ
versions_held reading number s = count_by (is_held reading number) s.records

abbrev pub current_version : ℕ → State → ℕ
current_version number s = option_map_or (λ r. r.version) (find (is_current_of number) s.records) 0

abbrev pub kept_until : TableRules → ℕ → Bool → Standing
kept_until rules reading preserve = if preserve then Preserved else Kept (reading + grace rules.ttl rules.skew)

abbrev pub with_update : TableRules → ℕ → ℕ → NewRecord → Bool → State → Reply
with_update rules reading number made preserve s = record {
  answer = Updated number (current_version number s + 1) made.portable;
  state = record {
    records = map (superseded number (kept_until rules reading preserve)) (filter (λ r. not (is_due_of reading number r)) s.records)
        ++ new_record number (current_version number s + 1) (s.revisions + 1) made ∷ [];
    collections = s.collections;
    numbers = s.numbers;
    revisions = s.revisions + 1;
    rounds = s.rounds;
  };
}

unfoldable pub update : TableRules → ℕ → TokenId → ℕ → NewRecord → Bool → State → Reply
update rules reading token number made preserve s =
    unless_refused s (updatable reading token number s) (λ x.
    if nat_le rules.versions (versions_held reading number s) then stays (TooManyVersions (versions_held reading number s)) s
    else with_update rules reading number made preserve s)

-- ---- reads

-- the current record, or the version asked for where it is current or preserved
abbrev pub is_readable : ℕ → Option ℕ → Record → Bool
is_readable number None r = is_current_of number r
is_readable number (Some version) r =
    is_of number r && (r.version == version) && (is_current r.standing || is_preserved r.standing)

-- the expiry, in seconds, of what is signed at a reading
abbrev pub signed_until : TableRules → ℕ → ℕ
signed_until rules reading = expiry_at rules.ttl reading

-- the expiry of a read: not after the collection is in the trash; none where it is
abbrev pub expiry_of : TableRules → ℕ → Collection → Option ℕ
expiry_of rules reading x =
    if is_in_trash reading x then None
    else Some (option_map_or (λ at. min (signed_until rules reading) (at / NANOS_PER_SECOND)) x.trash_at (signed_until rules reading))

abbrev pub row_answer : TableRules → ℕ → Record → Collection → TableAnswer
row_answer rules reading r x = Row r.collection r.version (expiry_of rules reading x) r.made.want x.trash_at r.made.text

-- NoSuch, also for a version that can't be read, comes before NotOwner
abbrev pub row_of_version : TableRules → ℕ → TokenId → ℕ → Option ℕ → State → Result TableAnswer TableAnswer
row_of_version rules reading token number version s = do
  r ← ok_or (find (is_readable number version) s.records) NoSuch
  x ← owned token number s
  Ok (row_answer rules reading r x)

unfoldable pub read : TableRules → ℕ → TokenId → ℕ → Option ℕ → State → Reply
read rules reading token number version s =
    unless_refused s (row_of_version rules reading token number version s) (λ answer. stays answer s)

-- ---- trash

abbrev pub with_times : ℕ → Option ℕ → Option ℕ → Collection → Collection
with_times number trash_at delete_at x =
    if x.number == number then record { number = x.number; owner = x.owner; trash_at = trash_at; delete_at = delete_at } else x

abbrev pub with_collections : List Collection → State → State
with_collections xs s = record { records = s.records; collections = xs; numbers = s.numbers; revisions = s.revisions; rounds = s.rounds }

-- not before each signature that a read has issued has expired, nor before what was asked
abbrev pub deleted_at : TableRules → ℕ → ℕ → ℕ → ℕ
deleted_at rules reading trash_at asked = max asked (max (reading + grace rules.ttl rules.skew) (trash_at + guard rules.skew))

unfoldable pub set_trash : TableRules → ℕ → TokenId → ℕ → ℕ → ℕ → State → Reply
set_trash rules reading token number trash_at asked s =
    unless_refused s (owned token number s) (λ x. record {
      answer = TrashSet trash_at (deleted_at rules reading trash_at asked);
      state = with_collections (map (with_times number (Some trash_at) (Some (deleted_at rules reading trash_at asked))) s.collections) s;
    })

unfoldable pub restore : TokenId → ℕ → State → Reply
restore token number s =
    unless_refused s (owned token number s) (λ x. record {
      answer = Restored;
      state = with_collections (map (with_times number None None) s.collections) s;
    })

-- ---- sweeps

-- a record whose collection goes
abbrev pub goes : ℕ → List Collection → Record → Bool
goes reading xs r = option_map_or (is_gone reading) (find (λ x. x.number == r.collection) xs) false

-- a version that is due, of a collection that stays
abbrev pub is_swept : ℕ → List Collection → Record → Bool
is_swept reading xs r = not (goes reading xs r) && is_due reading r.standing

abbrev pub outlasts : ℕ → List Collection → Record → Bool
outlasts reading xs r = not (goes reading xs r) && not (is_due reading r.standing)

unfoldable pub sweep : ℕ → State → Reply
sweep reading s = record {
  answer = Swept (count_by (is_swept reading s.collections) s.records) (count_by (is_gone reading) s.collections);
  state = record {
    records = filter (outlasts reading s.collections) s.records;
    collections = filter (λ x. not (is_gone reading x)) s.collections;
    numbers = s.numbers;
    revisions = s.revisions;
    rounds = s.rounds;
  };
}

-- ---- scans

abbrev pub row_of : Record → ScanRow
row_of r = record { revision = r.revision; digests = r.made.named; want = r.made.want }

-- the records above a revision
abbrev pub rows_above : ℕ → List Record → List ScanRow
rows_above after rs = map row_of (filter (λ r. nat_lt after r.revision) rs)

-- a page, and whether no further record is left
unfoldable pub scan : ℕ → ℕ → State → Reply
scan after limit s = stays (Rows (take limit (rows_above after s.records)) (nat_le (length (rows_above after s.records)) limit)) s

-- each counter is below 10 ^ 15 - 1
abbrev pub has_room : State → Bool
has_room s = nat_lt (s.numbers + 1) (10 ^ 15) && nat_lt (s.revisions + 1) (10 ^ 15) && nat_lt (s.rounds + 1) (10 ^ 15)
