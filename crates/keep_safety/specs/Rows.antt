-- The versions of collections that are held, by what was saved, updated, trashed, restored and swept.
use Rattle.std.specs.Prelude.{ℕ, ◌+◌, ◌==◌, ◌&&◌, nat_lt, not, List, [], ◌∷◌, ◌++◌, map, filter, Bool, true, false, Option, None, Some, is_none, if◌then◌else◌}
use Rattle.std.specs.Option.{option_map_or}
use Rattle.std.specs.List.{flat_map}
use Rattle.keep_spec.specs.Config.{Configuration}
use Rattle.keep_spec.specs.Times.{grace}
use Rattle.keep_event.specs.Plan.{wanted_in}
use Rattle.keep_event.specs.Requests.{made_of}
use Rattle.keep_event.specs.declared.table.NewRecord.{NewRecord}
use Rattle.keep_event.specs.declared.table.ScanRow.{ScanRow}
use Rattle.keep_event.specs.declared.table.TableQuery.TheVariants.{Save, Update, SetTrash, Restore, Sweep, Scan}
use Rattle.keep_event.specs.declared.table.TableAnswer.TheVariants.{Saved, Updated, TrashSet, Restored, Swept, Rows}
use Rattle.keep_event.specs.declared.event.Query.{Query}
use Rattle.keep_event.specs.declared.event.Query.TheVariants as Q
use Rattle.keep_event.specs.declared.event.Answer.{Answer}
use Rattle.keep_event.specs.declared.event.Answer.TheVariants as A
use Rattle.keep_safety.specs.declared.superseded.Superseded.{Superseded}
use Rattle.keep_safety.specs.Past.{Past}

-- a version of a collection: what its save or update made, and by what it was superseded
pub record Row : Type 0 where
  pub number : ℕ
  pub version : ℕ
  pub revision : ℕ
  pub made : NewRecord
  pub superseded : Option Superseded

-- how many rows were made
abbrev pub makes : Query → Answer → ℕ
makes (Q.Table (Save request)) (A.Table (Saved number version portable)) = 1
makes (Q.Table (Update collection preserve request)) (A.Table (Updated number version portable)) = 1
makes _ _ = 0

abbrev pub rows_made : Past → ℕ
rows_made [] = 0
rows_made (e ∷ past) = rows_made past + makes e.query e.answer

-- the time above which a collection goes: the last trash setting's, where no restore came after it
abbrev pub deleted_by : ℕ → Query → Answer → Option ℕ → Option ℕ
deleted_by number (Q.Table (SetTrash token collection t d)) (A.Table (TrashSet trash_at delete_at)) before = if collection == number then Some delete_at else before
deleted_by number (Q.Table (Restore token collection)) (A.Table Restored) before = if collection == number then None else before
deleted_by number _ _ before = before

abbrev pub delete_at : ℕ → Past → Option ℕ
delete_at number [] = None
delete_at number (e ∷ past) = deleted_by number e.query e.answer (delete_at number past)

-- a version that isn't preserved goes at a reading above the one that superseded it and the grace
abbrev pub is_over : Configuration → ℕ → Option Superseded → Bool
is_over c reading None = false
is_over c reading (Some s) = not s.preserved && nat_lt (s.at + grace c.ttl c.skew) reading

abbrev pub is_past : ℕ → Option ℕ → Bool
is_past reading at = option_map_or (λ t. nat_lt t reading) at false

abbrev pub stays_at_update : Configuration → ℕ → ℕ → Row → Bool
stays_at_update c reading number r = not ((r.number == number) && is_over c reading r.superseded)

abbrev pub stays_at_sweep : Configuration → Past → ℕ → Row → Bool
stays_at_sweep c past reading r = not (is_past reading (delete_at r.number past)) && not (is_over c reading r.superseded)

-- the newest version of the number is superseded
abbrev pub superseded_by : ℕ → ℕ → Bool → Row → Row
superseded_by number reading preserve r =
    if (r.number == number) && is_none r.superseded
    then record { number = r.number; version = r.version; revision = r.revision; made = r.made; superseded = Some (record { at = reading; preserved = preserve }) }
    else r

abbrev pub new_row : ℕ → ℕ → ℕ → NewRecord → Row
new_row number version revision made = record { number = number; version = version; revision = revision; made = made; superseded = None }

abbrev pub rows_after : Configuration → Past → ℕ → Query → Answer → List Row → List Row
rows_after c past reading (Q.Table (Save request)) (A.Table (Saved number version portable)) rs =
    rs ++ new_row number version (rows_made past + 1) (made_of request) ∷ []
rows_after c past reading (Q.Table (Update collection preserve request)) (A.Table (Updated number version portable)) rs =
    map (superseded_by number reading preserve) (filter (stays_at_update c reading number) rs)
    ++ new_row number version (rows_made past + 1) (made_of request) ∷ []
rows_after c past reading (Q.Table Sweep) (A.Table (Swept versions collections)) rs = filter (stays_at_sweep c past reading) rs
rows_after c past reading _ _ rs = rs

-- the versions that are held, in the order in which they were made
abbrev pub rows : Configuration → Past → List Row
rows c [] = []
rows c (e ∷ past) = rows_after c past e.reading e.query e.answer (rows c past)

-- the digests that held versions name
abbrev pub refs : Configuration → Past → List (List ℕ)
refs c past = flat_map (λ r. r.made.named) (rows c past)

-- what a scan tells of a version
abbrev pub scan_row : Row → ScanRow
scan_row r = record { revision = r.revision; digests = r.made.named; want = r.made.want }

abbrev pub wanted : Configuration → List ℕ → Past → ℕ
wanted c h past = wanted_in h (map scan_row (rows c past))

-- ---- what a round asked for

-- an answer to a round's scan that says that it is the last
abbrev pub is_last_scan : ℕ → Query → Answer → Bool
is_last_scan round (Q.Table (Scan r after limit)) (A.Table (Rows rs last)) = (r == round) && last
is_last_scan round _ _ = false

abbrev pub first_of_two : Option Past → Bool → Past → Option Past
first_of_two (Some earlier) here past = Some earlier
first_of_two None true past = Some past
first_of_two None false past = None

-- the past up to and with the first last scan of a round
abbrev pub scanned : ℕ → Past → Option Past
scanned round [] = None
scanned round (e ∷ past) = first_of_two (scanned round past) (is_last_scan round e.query e.answer) (e ∷ past)

-- the versions that were held when the round's scan ended
abbrev pub asked : Configuration → ℕ → Past → List Row
asked c round past = option_map_or (rows c) (scanned round past) []
