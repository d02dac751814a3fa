-- The response to each end. A body of JSON has its names in ascending order, and no white space and no newline; a refusal's is its word and a newline. Codes are those of RFC 9110; which end has which is this project's own rule.
use Rattle.std.specs.Prelude.{ℕ, List, [], ◌∷◌, ◌++◌, Option, None, Some, Bool, ◌==◌, if◌then◌else◌, codes, decimal}
use Rattle.std.specs.List.{list_any}
use Rattle.std.specs.Str.{is_utf8}
use Rattle.json.specs.Print.{quoted}
use Rattle.keep_spec.specs.Portable.{portable_text}
use Rattle.keep_spec.specs.declared.portable.Portable.{Portable}
use Rattle.keep_event.specs.Index.{index_text}
use Rattle.keep_event.specs.declared.device.DeviceAnswer.{DeviceAnswer}
use Rattle.keep_event.specs.declared.device.DeviceAnswer.TheVariants as A
use Rattle.keep_event.specs.declared.event.Answer.{Answer}
use Rattle.keep_event.specs.declared.event.Answer.TheVariants as An
use Rattle.keep_history.specs.Printed.{outcome_words}
use Rattle.keep_history.specs.declared.task.Outcome.{Outcome}
use Rattle.keep_history.specs.declared.task.Outcome.TheVariants as O
use Rattle.keep_wire.specs.declared.message.Response.{Response}
use Rattle.keep_wire.specs.Written.{response_text}
use Rattle.keep_wire.specs.declared.message.WireError.{WireError}
use Rattle.keep_wire.specs.declared.message.WireError.TheVariants as W
use Rattle.keep_clock.specs.Instants.{instant_text}
use Rattle.keep_routes.specs.declared.refusal.Refusal.{Refusal}
use Rattle.keep_routes.specs.declared.refusal.Refusal.TheVariants as R

abbrev pub respond : ℕ → List ℕ → Response
respond status body = record { status = status; body = body }

abbrev pub newline : List ℕ
newline = 10 ∷ []

-- a refusal: a code and a word
abbrev pub refused : ℕ → List ℕ → Response
refused status word = respond status (word ++ newline)

-- ---- requests that ask nothing

abbrev pub refusal_response : Refusal → Response
refusal_response R.NoSuch = refused 404 (codes "NoSuch")
refusal_response R.BadMethod = refused 405 (codes "BadMethod")
refusal_response R.Forbidden = refused 403 (codes "Forbidden")
refusal_response R.BadLocator = refused 400 (codes "BadLocator")
refusal_response R.BadBody = refused 400 (codes "BadBody")
refusal_response R.BadList = refused 400 (codes "BadList")

-- the response before a session ends with an error of its bytes; a source that failed and memory that was refused have none
abbrev pub error_response : WireError → Option Response
error_response W.BadHead = Some (refused 400 (codes "BadHead"))
error_response W.LengthRequired = Some (refused 411 (codes "LengthRequired"))
error_response (W.BodyTooLong length) = Some (refused 413 (codes "BodyTooLong"))
error_response W.CutBody = Some (refused 400 (codes "CutBody"))
error_response W.ReadFault = None
error_response W.NoMemory = None

-- ---- bodies of JSON

-- a member, after what stands before its value
abbrev pub text_member : List ℕ → List ℕ → List ℕ
text_member before text = before ++ quoted text

abbrev pub count_member : List ℕ → ℕ → List ℕ
count_member before n = before ++ decimal n

abbrev pub time_member : List ℕ → ℕ → List ℕ
time_member before n = before ++ quoted (instant_text n)

-- an absent time is null
abbrev pub optional_time_member : List ℕ → Option ℕ → List ℕ
optional_time_member before None = before ++ codes "null"
optional_time_member before (Some n) = time_member before n

abbrev pub saved_text : List ℕ → ℕ → Portable → List ℕ
saved_text uuid version portable =
    text_member (codes "{\"portable\":") (portable_text portable) ++ text_member (codes ",\"uuid\":") uuid
    ++ count_member (codes ",\"version\":") version ++ codes "}"

abbrev pub row_text : List ℕ → ℕ → ℕ → Option ℕ → List ℕ → List ℕ
row_text uuid version want trash_at text =
    text_member (codes "{\"manifest\":") text ++ optional_time_member (codes ",\"trash_at\":") trash_at
    ++ text_member (codes ",\"uuid\":") uuid ++ count_member (codes ",\"version\":") version
    ++ count_member (codes ",\"want\":") want ++ codes "}"

abbrev pub times_text : ℕ → ℕ → List ℕ
times_text trash_at delete_at = time_member (codes "{\"delete_at\":") delete_at ++ time_member (codes ",\"trash_at\":") trash_at ++ codes "}"

abbrev pub json_saved : List ℕ → ℕ → Portable → Response
json_saved uuid version portable = respond 200 (saved_text uuid version portable)

-- a row whose text isn't UTF-8 can't be written as JSON
abbrev pub row_response : List ℕ → ℕ → ℕ → Option ℕ → List ℕ → Response
row_response uuid version want trash_at text =
    if is_utf8 text then respond 200 (row_text uuid version want trash_at text) else refused 500 (codes "BadText")

-- ---- ends of tasks

-- the end's word and its fields, as a script's run prints them after the task's name
abbrev pub words : Outcome → Response
words o = respond 200 (outcome_words o ++ newline)

-- the response to a task's end. Where the task reads a collection, `uuid` is the collection's, as the request names it.
unfoldable pub outcome_response : List ℕ → Outcome → Response
outcome_response uuid (O.Stored locator) = respond 200 (locator ++ newline)
outcome_response uuid (O.Touched locator) = respond 200 (locator ++ newline)
outcome_response uuid (O.Bytes bytes) = respond 200 bytes
outcome_response uuid (O.Untrashed copies) = respond 200 (decimal copies ++ newline)
outcome_response uuid O.Restarted = words O.Restarted
outcome_response uuid O.UnknownToken = refused 401 (codes "UnknownToken")
outcome_response uuid O.TooLong = refused 413 (codes "TooLong")
outcome_response uuid (O.HashMismatch computed) = refused 422 (codes "HashMismatch")
outcome_response uuid O.Collision = refused 409 (codes "Collision")
outcome_response uuid O.NoRoom = refused 507 (codes "NoRoom")
outcome_response uuid O.StoreFault = refused 500 (codes "StoreFault")
outcome_response uuid (O.BadLocator at) = refused 400 (codes "BadLocator")
outcome_response uuid O.Forbidden = refused 403 (codes "Forbidden")
outcome_response uuid (O.Expired expiry) = refused 401 (codes "Expired")
outcome_response uuid O.NotFound = refused 404 (codes "NotFound")
outcome_response uuid (O.Corrupt found) = refused 500 (codes "Corrupt")
outcome_response asked (O.Saved uuid version portable) = json_saved uuid version portable
outcome_response asked (O.Updated uuid version portable) = json_saved uuid version portable
outcome_response uuid (O.Row version want trash_at text) = row_response uuid version want trash_at text
outcome_response uuid (O.TrashSet trash_at delete_at) = respond 200 (times_text trash_at delete_at)
outcome_response uuid O.Restored = respond 200 (codes "{}")
outcome_response uuid (O.Swept versions collections) = words (O.Swept versions collections)
outcome_response uuid O.NoSuch = refused 404 (codes "NoSuch")
outcome_response uuid O.NotOwner = refused 403 (codes "NotOwner")
outcome_response uuid (O.InTrash at) = refused 409 (codes "InTrash")
outcome_response uuid (O.BadManifest at kind) = refused 400 (codes "BadManifest")
outcome_response uuid (O.Unsigned index why) = refused 403 (codes "Unsigned")
outcome_response uuid (O.WrongHash computed) = refused 400 (codes "WrongHash")
outcome_response uuid O.BadWant = refused 400 (codes "BadWant")
outcome_response uuid (O.TooManyVersions held) = refused 409 (codes "TooManyVersions")
outcome_response uuid (O.Balanced round trash pull lost stale) = words (O.Balanced round trash pull lost stale)
outcome_response uuid (O.Stale device held) = refused 409 (codes "Stale")
outcome_response uuid (O.Disordered earlier later) = refused 409 (codes "Disordered")
outcome_response uuid (O.Trashed replicas) = words (O.Trashed replicas)
outcome_response uuid (O.Pulled done failed) = words (O.Pulled done failed)
outcome_response uuid (O.Emptied copies) = words (O.Emptied copies)
outcome_response uuid O.ReadOnly = refused 409 (codes "ReadOnly")

-- ---- answers of a device to the query of a request: a page, a clear or an accept

-- no other answer is listed for these queries
unfoldable pub answer_response : DeviceAnswer → Response
answer_response (A.Page entries) = respond 200 (index_text entries)
answer_response A.Cleared = respond 200 []
answer_response (A.Accepted trash pull) = respond 200 []
answer_response (A.Stale held) = refused 409 (codes "Stale")
answer_response answer = refused 500 (codes "StoreFault")

-- the same, where the table's answers have no place
abbrev pub reply_response : Answer → Response
reply_response (An.Device answer) = answer_response answer
reply_response (An.Table answer) = refused 500 (codes "StoreFault")

-- the bytes of a response
abbrev pub response_bytes : Response → List ℕ
response_bytes r = response_text r.status r.body

-- the codes of responses
abbrev pub is_code : ℕ → Bool
is_code n = list_any (λ code. n == code) (200 ∷ 400 ∷ 401 ∷ 403 ∷ 404 ∷ 405 ∷ 409 ∷ 411 ∷ 413 ∷ 422 ∷ 500 ∷ 507 ∷ [])
