-- The maps in which a table keeps its records and collections, against the lists that contracts see.
use Rattle.std.specs.Prelude.{◌≡◌, ◌<◌, ◌^◌, ℕ, Bool, true, false, ◌==◌, ◌&&◌, ◌||◌, ⊤, not, nat_lt, List, [], ◌∷◌, map, count_by, unwrap_or, if◌then◌else◌}
use Rattle.std.specs.List.{list_any, AllByRecursion}
use Rattle.std.specs.Map.{values_of, lookup}
use Rattle.std.specs.BTreeMap.{is_at}
use Rattle.std.specs.BTreeSet.{BTreeSet, contains}
use Rattle.std.specs.Ordering.{nat_cmp, ordering_then}
use Rattle.std.specs.declared.cmp.Ordering.{Ordering}
use Rattle.keep_event.specs.Table.{is_of, is_current, is_due_of}
use Rattle.keep_event.specs.declared.table.Standing.{Standing}
use Rattle.keep_event.specs.declared.table.Standing.TheVariants.{Current, Kept, Preserved}
use Rattle.keep_event.specs.declared.table.Record.{Record}
use Rattle.keep_event.specs.declared.table.Collection.{Collection}
use Rattle.keep_table.specs.Contents.{RisesAbove}
use Rattle.keep_table.specs.Wants.{counted, mentioned}

-- the entries of a map whose values each stand under their own key
abbrev pub keyed : {X : Type 0} → (X → ℕ) → List X → List (ℕ × X)
keyed key xs = map (λ x. (key x, x)) xs

-- the revisions of records
abbrev pub revisions_of : List Record → List ℕ
revisions_of rs = map (λ r. r.revision) rs

-- triples of numbers, by the first, then by the second and then by the third
abbrev pub triple_cmp : ℕ × ℕ × ℕ → ℕ × ℕ × ℕ → Ordering
triple_cmp x y = ordering_then (ordering_then (nat_cmp x.0 y.0) (nat_cmp x.1 y.1)) (nat_cmp x.2 y.2)

-- whether a collection's number, a version and a revision are these
abbrev pub is_place : ℕ → ℕ → ℕ → ℕ → ℕ → ℕ → Bool
is_place collection version revision n u v = (collection == n) && (version == u) && (revision == v)

-- the same of a record
abbrev pub is_placed_at : ℕ → ℕ → ℕ → Record → Bool
is_placed_at n u v r = is_place r.collection r.version r.revision n u v

-- a record of the collection that has the version
abbrev pub is_at_version : ℕ → ℕ → Record → Bool
is_at_version number version r = is_of number r && (r.version == version)

-- the versions that records have of a collection are above another
abbrev pub AreAfter : ℕ → ℕ → List Record → Type 0
AreAfter number version rs = AllByRecursion (λ r. is_of number r ≡ true → version < r.version) rs

-- the versions that records have of a collection are below another
abbrev pub AreBefore : ℕ → ℕ → List Record → Type 0
AreBefore number version rs = AllByRecursion (λ r. is_of number r ≡ true → r.version < version) rs

-- in the order of the revisions the versions of each collection rise
abbrev pub AreVersioned : List Record → Type 0
AreVersioned [] = ⊤
AreVersioned (r ∷ rs) = AreAfter r.collection r.version rs × AreVersioned rs

-- versions and revisions are of 64 bits
abbrev pub AreSmall : List Record → Type 0
AreSmall rs = AllByRecursion (λ r. (r.version < 2 ^ 64) × (r.revision < 2 ^ 64)) rs

-- how many records a collection has, by a map of counts
abbrev pub size_in : List (ℕ × ℕ) → ℕ → ℕ
size_in es number = unwrap_or (lookup (is_at (nat_cmp number)) es) 0

-- kept until this time
abbrev pub is_kept_until : ℕ → Standing → Bool
is_kept_until time Current = false
is_kept_until time (Kept until) = until == time
is_kept_until time Preserved = false

-- whether a collection's number, a revision and a standing are these, and the standing is to be kept until this time
abbrev pub is_kept_as : ℕ → ℕ → Standing → ℕ → ℕ → ℕ → Bool
is_kept_as collection revision standing n time v = (collection == n) && (revision == v) && is_kept_until time standing

-- the same of a record
abbrev pub is_kept_at : ℕ → ℕ → ℕ → Record → Bool
is_kept_at n time v r = is_kept_as r.collection r.revision r.standing n time v

-- a version of a collection that is due at a reading, with the revision
abbrev pub is_due_at : ℕ → ℕ → ℕ → Record → Bool
is_due_at reading number revision r = is_due_of reading number r && (r.revision == revision)

-- the records with the revision are current
abbrev pub AreCurrentAt : ℕ → List Record → Type 0
AreCurrentAt revision rs = AllByRecursion (λ r. (not (r.revision == revision) || is_current r.standing) ≡ true) rs

-- an element that passes, with a key above a bound
abbrev pub next_by : {X : Type 0} → (X → ℕ) → (X → Bool) → ℕ → X → Bool
next_by key passes after x = passes x && nat_lt after (key x)

-- a record that passes, with a revision above another
abbrev pub is_next : (Record → Bool) → ℕ → Record → Bool
is_next = next_by (λ r. r.revision)

-- a collection with a number above another
abbrev pub is_next_collection : ℕ → Collection → Bool
is_next_collection = next_by (λ x. x.number) (λ x. true)

-- every record passes
abbrev pub any_record : Record → Bool
any_record r = true

-- a record with another standing
abbrev pub standing_as : Standing → Record → Record
standing_as standing r = record { collection = r.collection; version = r.version; revision = r.revision; made = r.made; standing = standing }

-- the same, where the record has the revision
abbrev pub marked : ℕ → Standing → Record → Record
marked revision standing r = if r.revision == revision then standing_as standing r else r

-- each record stands under its revision, the revisions rise, and so do the versions of each collection; the one set has the collection, the version and the revision of each record and no other triple, the other those of each version that is kept for a time, with the end of its time; the records of each collection are counted, and what is wanted is counted as they name it
pub record AreIndexed (rows : List (ℕ × Record)) (places : BTreeSet (ℕ × ℕ × ℕ)) (sizes : List (ℕ × ℕ)) (kept : BTreeSet (ℕ × ℕ × ℕ)) (wants : List ((List ℕ × ℕ) × ℕ)) : Type 0 where
  pub by_revision : rows ≡ keyed (λ r. r.revision) (values_of rows)
  pub rising : RisesAbove 0 (revisions_of (values_of rows))
  pub versioned : AreVersioned (values_of rows)
  pub small : AreSmall (values_of rows)
  pub of_each : (number version revision : ℕ) → contains triple_cmp places (number, version, revision) ≡ list_any (is_placed_at number version revision) (values_of rows)
  pub of_sizes : (number : ℕ) → size_in sizes number ≡ count_by (is_of number) (values_of rows)
  pub of_kept : (number time revision : ℕ) → contains triple_cmp kept (number, time, revision) ≡ list_any (is_kept_at number time revision) (values_of rows)
  pub of_wants : (h : List ℕ) (n : ℕ) → counted wants h n ≡ mentioned h n (values_of rows)

-- each collection stands under its number, and the numbers rise
pub record AreNumbered (held : List (ℕ × Collection)) : Type 0 where
  pub by_number : held ≡ keyed (λ x. x.number) (values_of held)
  pub rising : RisesAbove 0 (map (λ x. x.number) (values_of held))
