-- What is printed of each event and of each task that ends. That words stand so is this project's rule.
use Rattle.std.specs.Prelude.{ℕ, List, [], ◌∷◌, ◌++◌, length, codes, Bool, if◌then◌else◌, Option, None, Some}
use Rattle.std.specs.Fmt.{decimal}
use Rattle.hex.specs.Hex.{encode_lower}
use Rattle.json.specs.Print.{quoted}
use Rattle.keep_spec.specs.Portable.{portable_text}
use Rattle.keep_spec.specs.declared.manifest.Kind.{Kind}
use Rattle.keep_spec.specs.declared.manifest.Kind.TheVariants as K
use Rattle.keep_spec.specs.declared.portable.Portable.{Portable}
use Rattle.keep_spec.specs.declared.unverified.Unverified.{Unverified}
use Rattle.keep_spec.specs.declared.unverified.Unverified.TheVariants as U
use Rattle.keep_event.specs.declared.table.TableAnswer.{TableAnswer}
use Rattle.keep_event.specs.declared.table.TableAnswer.TheVariants as TA
use Rattle.keep_event.specs.declared.device.DeviceAnswer.{DeviceAnswer}
use Rattle.keep_event.specs.declared.device.DeviceAnswer.TheVariants as A
use Rattle.keep_history.specs.declared.task.Outcome.{Outcome}
use Rattle.keep_history.specs.declared.task.Outcome.TheVariants as O

-- a field, after the space that separates it
abbrev pub number_field : ℕ → List ℕ
number_field n = 32 ∷ decimal n

abbrev pub digest_field : List ℕ → List ℕ
digest_field d = 32 ∷ encode_lower d

-- the word of an answer and its fields
abbrev pub answer_words : DeviceAnswer → List ℕ
answer_words A.ReadOnly = codes "ReadOnly"
answer_words A.Absent = codes "Absent"
answer_words (A.Touched mtime) = codes "Touched" ++ number_field mtime
answer_words (A.Written mtime) = codes "Written" ++ number_field mtime
answer_words A.Collision = codes "Collision"
answer_words (A.Corrupt found) = codes "Corrupt" ++ digest_field found
answer_words (A.Full used capacity) = codes "Full" ++ number_field used ++ number_field capacity
answer_words (A.Block bytes) = codes "Block" ++ number_field (length bytes)
answer_words (A.Stale held) = codes "Stale" ++ number_field held
answer_words A.Cleared = codes "Cleared"
answer_words (A.Accepted trash pull) = codes "Accepted" ++ number_field trash ++ number_field pull
answer_words (A.Page entries) = codes "Page" ++ number_field (length entries)
answer_words A.Idle = codes "Idle"
answer_words (A.Gone digest) = codes "Gone" ++ digest_field digest
answer_words (A.Skipped digest mtime) = codes "Skipped" ++ digest_field digest ++ number_field mtime
answer_words (A.Young digest mtime) = codes "Young" ++ digest_field digest ++ number_field mtime
answer_words (A.Trashed digest deadline round) = codes "Trashed" ++ digest_field digest ++ number_field deadline
answer_words (A.Pull item) = codes "Pull" ++ digest_field item.digest
answer_words (A.Present mtime) = codes "Present" ++ number_field mtime
answer_words A.NoTrash = codes "NoTrash"
answer_words (A.Back mtime) = codes "Back" ++ number_field mtime
answer_words (A.Emptied digest deadline) = codes "Emptied" ++ digest_field digest ++ number_field deadline
answer_words A.Restarted = codes "Restarted"
answer_words A.StoreFault = codes "StoreFault"

-- THE TABLE
abbrev pub optional_field : Option ℕ → List ℕ
optional_field None = codes " -"
optional_field (Some n) = number_field n

abbrev pub portable_field : Portable → List ℕ
portable_field p = 32 ∷ portable_text p

abbrev pub kind_word : Kind → List ℕ
kind_word K.BadStream = codes "BadStream"
kind_word K.BadLocator = codes "BadLocator"
kind_word K.NoSegment = codes "NoSegment"
kind_word K.BadSegment = codes "BadSegment"
kind_word K.BadName = codes "BadName"
kind_word K.PastEnd = codes "PastEnd"
kind_word K.NoNewline = codes "NoNewline"

abbrev pub why_words : Unverified → List ℕ
why_words U.Missing = codes " Missing"
why_words (U.Expired expiry) = codes " Expired" ++ number_field expiry
why_words U.Invalid = codes " Invalid"

abbrev pub last_word : Bool → List ℕ
last_word last = if last then codes " last" else codes " more"

abbrev pub table_words : TableAnswer → List ℕ
table_words (TA.Round round started) = codes "Round" ++ number_field round ++ number_field started
table_words (TA.Saved n version portable) = codes "Saved" ++ number_field n ++ number_field version ++ portable_field portable
table_words (TA.Updated n version portable) = codes "Updated" ++ number_field n ++ number_field version ++ portable_field portable
table_words (TA.Row n version expiry want trash_at text) = codes "Row" ++ number_field n ++ number_field version ++ optional_field expiry
table_words (TA.TrashSet trash_at delete_at) = codes "TrashSet" ++ number_field trash_at ++ number_field delete_at
table_words TA.Restored = codes "Restored"
table_words (TA.Swept versions collections) = codes "Swept" ++ number_field versions ++ number_field collections
table_words (TA.Rows rows last) = codes "Rows" ++ number_field (length rows) ++ last_word last
table_words TA.UnknownToken = codes "UnknownToken"
table_words TA.NoSuch = codes "NoSuch"
table_words TA.NotOwner = codes "NotOwner"
table_words (TA.InTrash at) = codes "InTrash" ++ number_field at
table_words (TA.BadManifest at kind) = codes "BadManifest" ++ number_field at ++ 32 ∷ kind_word kind
table_words (TA.Unsigned index why) = codes "Unsigned" ++ number_field index ++ why_words why
table_words (TA.WrongHash computed) = codes "WrongHash" ++ portable_field computed
table_words TA.BadWant = codes "BadWant"
table_words (TA.TooManyVersions held) = codes "TooManyVersions" ++ number_field held

-- the word of an end and its fields; no bytes are the word alone
abbrev pub bytes_field : List ℕ → List ℕ
bytes_field [] = []
bytes_field (b ∷ bs) = 32 ∷ encode_lower (b ∷ bs)

abbrev pub outcome_words : Outcome → List ℕ
outcome_words (O.Stored locator) = codes "Stored " ++ locator
outcome_words (O.Touched locator) = codes "Touched " ++ locator
outcome_words (O.Bytes bytes) = codes "Bytes" ++ bytes_field bytes
outcome_words (O.Untrashed copies) = codes "Untrashed" ++ number_field copies
outcome_words O.Restarted = codes "Restarted"
outcome_words O.UnknownToken = codes "UnknownToken"
outcome_words O.TooLong = codes "TooLong"
outcome_words (O.HashMismatch computed) = codes "HashMismatch" ++ digest_field computed
outcome_words O.Collision = codes "Collision"
outcome_words O.NoRoom = codes "NoRoom"
outcome_words O.StoreFault = codes "StoreFault"
outcome_words (O.BadLocator at) = codes "BadLocator" ++ number_field at
outcome_words O.Forbidden = codes "Forbidden"
outcome_words (O.Expired expiry) = codes "Expired" ++ number_field expiry
outcome_words O.NotFound = codes "NotFound"
outcome_words (O.Corrupt found) = codes "Corrupt" ++ digest_field found
outcome_words (O.Saved uuid version portable) = codes "Saved " ++ uuid ++ number_field version ++ portable_field portable
outcome_words (O.Updated uuid version portable) = codes "Updated " ++ uuid ++ number_field version ++ portable_field portable
outcome_words (O.Row version want trash_at text) = codes "Row" ++ number_field version ++ number_field want ++ optional_field trash_at ++ 32 ∷ quoted text
outcome_words (O.TrashSet trash_at delete_at) = codes "TrashSet" ++ number_field trash_at ++ number_field delete_at
outcome_words O.Restored = codes "Restored"
outcome_words (O.Swept versions collections) = codes "Swept" ++ number_field versions ++ number_field collections
outcome_words O.NoSuch = codes "NoSuch"
outcome_words O.NotOwner = codes "NotOwner"
outcome_words (O.InTrash at) = codes "InTrash" ++ number_field at
outcome_words (O.BadManifest at kind) = codes "BadManifest" ++ number_field at ++ 32 ∷ kind_word kind
outcome_words (O.Unsigned index why) = codes "Unsigned" ++ number_field index ++ why_words why
outcome_words (O.WrongHash computed) = codes "WrongHash" ++ portable_field computed
outcome_words O.BadWant = codes "BadWant"
outcome_words (O.TooManyVersions held) = codes "TooManyVersions" ++ number_field held
outcome_words (O.Balanced round trash pull lost stale) = codes "Balanced" ++ number_field round ++ number_field trash ++ number_field pull ++ number_field lost ++ number_field stale
outcome_words (O.Stale device held) = codes "Stale" ++ number_field device ++ number_field held
outcome_words (O.Disordered earlier later) = codes "Disordered" ++ number_field earlier ++ number_field later
outcome_words (O.Trashed replicas) = codes "Trashed" ++ number_field replicas
outcome_words (O.Pulled done failed) = codes "Pulled" ++ number_field done ++ number_field failed
outcome_words (O.Emptied copies) = codes "Emptied" ++ number_field copies
outcome_words O.ReadOnly = codes "ReadOnly"

-- the line of an event of a named task on a device
unfoldable pub event_line : List ℕ → ℕ → DeviceAnswer → List ℕ
event_line name device answer = name ++ codes " d" ++ decimal device ++ 32 ∷ answer_words answer ++ codes "\n"

-- the line of an event of a named task at the table
unfoldable pub table_event_line : List ℕ → TableAnswer → List ℕ
table_event_line name answer = name ++ codes " table " ++ table_words answer ++ codes "\n"

-- the line of a named task's end
unfoldable pub end_line : List ℕ → Outcome → List ℕ
end_line name outcome = name ++ codes " = " ++ outcome_words outcome ++ codes "\n"
