-- Which answers the machines list for which query.
use Rattle.std.specs.Prelude.{◌≡◌, ◌<◌, ◌≤◌, ⊤, ℕ, Bool, true, false, ◌||◌, ◌&&◌, List, [], ◌∷◌, length, map, IsTrue}
use Rattle.keep_event.specs.Device.{may_fault}
use Rattle.keep_event.specs.declared.device.DeviceQuery.{DeviceQuery}
use Rattle.keep_event.specs.declared.device.DeviceQuery.TheVariants as D
use Rattle.keep_event.specs.declared.device.DeviceAnswer.{DeviceAnswer}
use Rattle.keep_event.specs.declared.device.DeviceAnswer.TheVariants as A
use Rattle.keep_event.specs.declared.table.TableQuery.{TableQuery}
use Rattle.keep_event.specs.declared.table.TableQuery.TheVariants as T
use Rattle.keep_event.specs.declared.table.TableAnswer.{TableAnswer}
use Rattle.keep_event.specs.declared.table.TableAnswer.TheVariants as R
use Rattle.keep_event.specs.declared.table.ScanRow.{ScanRow}
use Rattle.keep_event.specs.declared.event.Query.{Query}
use Rattle.keep_event.specs.declared.event.Query.TheVariants as Q
use Rattle.keep_event.specs.declared.event.Answer.{Answer}
use Rattle.keep_event.specs.declared.event.Answer.TheVariants as An

abbrev pub is_store_fault : DeviceAnswer → Bool
is_store_fault A.StoreFault = true
is_store_fault other = false

abbrev pub is_compared : DeviceAnswer → Bool
is_compared A.ReadOnly = true
is_compared A.Absent = true
is_compared (A.Touched mtime) = true
is_compared A.Collision = true
is_compared (A.Corrupt found) = true
is_compared other = false

abbrev pub is_written : DeviceAnswer → Bool
is_written A.ReadOnly = true
is_written (A.Written mtime) = true
is_written A.Collision = true
is_written (A.Full used capacity) = true
is_written other = false

abbrev pub is_fetched : DeviceAnswer → Bool
is_fetched A.Absent = true
is_fetched (A.Corrupt found) = true
is_fetched (A.Block bytes) = true
is_fetched other = false

abbrev pub is_touched : DeviceAnswer → Bool
is_touched A.ReadOnly = true
is_touched A.Absent = true
is_touched (A.Touched mtime) = true
is_touched other = false

abbrev pub is_cleared : DeviceAnswer → Bool
is_cleared (A.Stale held) = true
is_cleared A.Cleared = true
is_cleared other = false

abbrev pub is_accepted : DeviceAnswer → Bool
is_accepted (A.Stale held) = true
is_accepted (A.Accepted trash pull) = true
is_accepted other = false

abbrev pub is_page : DeviceAnswer → Bool
is_page (A.Stale held) = true
is_page (A.Page entries) = true
is_page other = false

abbrev pub is_trashed : DeviceAnswer → Bool
is_trashed A.Idle = true
is_trashed A.ReadOnly = true
is_trashed (A.Gone digest) = true
is_trashed (A.Skipped digest mtime) = true
is_trashed (A.Young digest mtime) = true
is_trashed (A.Trashed digest deadline round) = true
is_trashed other = false

abbrev pub is_pulled : DeviceAnswer → Bool
is_pulled A.Idle = true
is_pulled (A.Pull item) = true
is_pulled other = false

abbrev pub is_untrashed : DeviceAnswer → Bool
is_untrashed A.ReadOnly = true
is_untrashed (A.Present mtime) = true
is_untrashed A.NoTrash = true
is_untrashed (A.Back mtime) = true
is_untrashed other = false

abbrev pub is_emptied : DeviceAnswer → Bool
is_emptied A.ReadOnly = true
is_emptied (A.Emptied digest deadline) = true
is_emptied A.Idle = true
is_emptied other = false

abbrev pub is_restarted : DeviceAnswer → Bool
is_restarted A.Restarted = true
is_restarted other = false

-- the answers that the device machine lists for a query
abbrev pub is_line_answer : DeviceQuery → DeviceAnswer → Bool
is_line_answer (D.CompareTouch block token) a = is_compared a
is_line_answer (D.Write block token) a = is_written a
is_line_answer (D.Fetch digest) a = is_fetched a
is_line_answer (D.Touch digest token) a = is_touched a
is_line_answer (D.Clear round) a = is_cleared a
is_line_answer (D.Accept round lists) a = is_accepted a
is_line_answer (D.Page round prefix) a = is_page a
is_line_answer D.TrashNext a = is_trashed a
is_line_answer D.PullNext a = is_pulled a
is_line_answer (D.Untrash digest) a = is_untrashed a
is_line_answer D.EmptyNext a = is_emptied a
is_line_answer D.Restart a = is_restarted a

-- these, or a fault of the store where the query may be answered so
abbrev pub is_device_answer : DeviceQuery → DeviceAnswer → Bool
is_device_answer q a = is_line_answer q a || (may_fault q && is_store_fault a)

abbrev pub is_request_refusal : TableAnswer → Bool
is_request_refusal R.UnknownToken = true
is_request_refusal (R.BadManifest at kind) = true
is_request_refusal (R.Unsigned index why) = true
is_request_refusal (R.WrongHash computed) = true
is_request_refusal R.BadWant = true
is_request_refusal other = false

abbrev pub is_collection_refusal : TableAnswer → Bool
is_collection_refusal R.UnknownToken = true
is_collection_refusal R.NoSuch = true
is_collection_refusal R.NotOwner = true
is_collection_refusal other = false

abbrev pub is_update_answer : TableAnswer → Bool
is_update_answer (R.Updated number version portable) = true
is_update_answer (R.InTrash at) = true
is_update_answer (R.TooManyVersions held) = true
is_update_answer a = is_request_refusal a || is_collection_refusal a

abbrev pub is_save_answer : TableAnswer → Bool
is_save_answer (R.Saved number version portable) = true
is_save_answer a = is_request_refusal a

abbrev pub is_row_answer : TableAnswer → Bool
is_row_answer (R.Row number version expiry want trash_at text) = true
is_row_answer a = is_collection_refusal a

abbrev pub is_trash_set : TableAnswer → Bool
is_trash_set (R.TrashSet trash_at delete_at) = true
is_trash_set a = is_collection_refusal a

abbrev pub is_restored : TableAnswer → Bool
is_restored R.Restored = true
is_restored a = is_collection_refusal a

abbrev pub is_round : TableAnswer → Bool
is_round (R.Round round started) = true
is_round other = false

abbrev pub is_swept_answer : TableAnswer → Bool
is_swept_answer (R.Swept versions collections) = true
is_swept_answer other = false

-- each number is above the one before it, and the first above `low`
abbrev pub RisesAbove : ℕ → List ℕ → Type 0
RisesAbove low [] = ⊤
RisesAbove low (n ∷ ns) = (low < n) × RisesAbove n ns

-- at most `limit` rows, which rise by revision from above `after` on, and are none only where no further record is left
pub record AreRows (after limit : ℕ) (rows : List ScanRow) (last : Bool) : Type 0 where
  pub rise : RisesAbove after (map (λ r. r.revision) rows)
  pub none_left : rows ≡ [] → last ≡ true
  pub within : length rows ≤ limit

abbrev pub IsRowsAnswer : ℕ → ℕ → TableAnswer → Type 0
IsRowsAnswer after limit (R.Rows rows last) = AreRows after limit rows last
IsRowsAnswer after limit other = ⊥

abbrev pub IsTableAnswer : TableQuery → TableAnswer → Type 0
IsTableAnswer T.BeginRound a = IsTrue (is_round a)
IsTableAnswer (T.Save request) a = IsTrue (is_save_answer a)
IsTableAnswer (T.Update collection preserve request) a = IsTrue (is_update_answer a)
IsTableAnswer (T.Read token collection version) a = IsTrue (is_row_answer a)
IsTableAnswer (T.SetTrash token collection trash_at delete_at) a = IsTrue (is_trash_set a)
IsTableAnswer (T.Restore token collection) a = IsTrue (is_restored a)
IsTableAnswer T.Sweep a = IsTrue (is_swept_answer a)
IsTableAnswer (T.Scan round after limit) a = IsRowsAnswer after limit a

-- the answer is one of its query
abbrev pub IsAnswerOf : Query → Answer → Type 0
IsAnswerOf (Q.Device device query) (An.Device answer) = IsTrue (is_device_answer query answer)
IsAnswerOf (Q.Device device query) (An.Table answer) = ⊥
IsAnswerOf (Q.Table query) (An.Device answer) = ⊥
IsAnswerOf (Q.Table query) (An.Table answer) = IsTableAnswer query answer
