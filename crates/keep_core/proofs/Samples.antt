-- What the definitions give on small pasts: each line is a sample.
use Rattle.std.proofs.Common.{◌≡◌, ℕ, zero, suc, List, [], ◌∷◌, length, true, false, refl, None, map}
use Rattle.keep_event.specs.declared.device.DeviceQuery.TheVariants as DQ
use Rattle.keep_event.specs.declared.device.DeviceAnswer.TheVariants as D
use Rattle.keep_event.specs.declared.table.SaveRequest.{SaveRequest}
use Rattle.keep_event.specs.declared.table.TableQuery.TheVariants as TQ
use Rattle.keep_event.specs.declared.table.TableAnswer.TheVariants as T
use Rattle.keep_event.specs.declared.event.Event.{Event}
use Rattle.keep_event.specs.declared.event.Query.{Query}
use Rattle.keep_event.specs.declared.event.Query.TheVariants as Q
use Rattle.keep_event.specs.declared.event.Answer.{Answer}
use Rattle.keep_event.specs.declared.event.Answer.TheVariants as A
use Rattle.keep_spec.specs.declared.portable.Portable.{Portable}
use Rattle.keep_safety.specs.Holds.{holds}
use Rattle.keep_spec.specs.Order.{by_weight}
use Rattle.keep_safety.specs.Past.{Past}
use Rattle.keep_safety.specs.Rows.{Row, rows, asked}
use Rattle.keep_safety.proofs.Example.{c}

abbrev event : ℕ → ℕ → Query → Answer → Event
event tick reading q a = record { tick = tick; reading = reading; actor = 0; query = q; answer = a }

abbrev request : SaveRequest
request = record { token = []; text = []; want = 1; portable = None }

abbrev portable : Portable
portable = record { digest = []; size = 0 }

-- the grace is a second
abbrev saved : Past
saved = event 0 1000 (Q.Table (TQ.Save request)) (A.Table (T.Saved 1 1 portable)) ∷ []

abbrev updated : Past
updated = event 1 2000 (Q.Table (TQ.Update 1 false request)) (A.Table (T.Updated 1 2 portable)) ∷ saved

abbrev swept_at : ℕ → Past → Past
swept_at reading past = event 2 reading (Q.Table TQ.Sweep) (A.Table (T.Swept 0 0)) ∷ past

abbrev versions : Past → List ℕ
versions past = map (λ (r : Row). r.version) (rows c past)

both : versions updated ≡ 1 ∷ 2 ∷ []
both = refl

-- a version goes above the time at which it was superseded and the grace
not_yet : versions (swept_at 1000002000 updated) ≡ 1 ∷ 2 ∷ []
not_yet = refl

gone : versions (swept_at 1000002001 updated) ≡ 2 ∷ []
gone = refl

-- at an update of its collection too, but not at the one that supersedes it
updated_late : Past
updated_late = event 3 1000002001 (Q.Table (TQ.Update 1 false request)) (A.Table (T.Updated 1 3 portable)) ∷ updated

gone_at_update : versions updated_late ≡ 2 ∷ 3 ∷ []
unfolding updated_late
gone_at_update = refl

-- one that is preserved doesn't go
preserved : versions (swept_at 1000002001 (event 1 2000 (Q.Table (TQ.Update 1 true request)) (A.Table (T.Updated 1 2 portable)) ∷ saved)) ≡ 1 ∷ 2 ∷ []
preserved = refl

-- a collection goes above its time, all versions of it
trashed : Past
trashed = event 2 3000 (Q.Table (TQ.SetTrash [] 1 3000 3000)) (A.Table (T.TrashSet 3000 5000)) ∷ updated

abbrev restored : Past → Past
restored past = event 3 3500 (Q.Table (TQ.Restore [] 1)) (A.Table T.Restored) ∷ past

held_in_trash : versions (swept_at 5000 trashed) ≡ 1 ∷ 2 ∷ []
unfolding trashed
held_in_trash = refl

deleted : versions (swept_at 5001 trashed) ≡ []
unfolding trashed
deleted = refl

kept_by_restore : versions (swept_at 5001 (restored trashed)) ≡ 1 ∷ 2 ∷ []
unfolding trashed
kept_by_restore = refl

-- ---- devices by weight, at a tie the lower number first
weights : ℕ → List ℕ
weights n = elim n as (λ _. List ℕ) [ zero ↦ 49 ∷ [] | suc m ↦ 50 ∷ [] ]

in_order : by_weight weights (0 ∷ 1 ∷ 2 ∷ []) ≡ 1 ∷ 2 ∷ 0 ∷ []
unfolding weights
in_order = refl

-- ---- who holds, and what was asked
abbrev h : List ℕ
h = 1 ∷ 2 ∷ []

abbrev back : Past
back = event 0 10 (Q.Device 3 (DQ.Untrash h)) (A.Device (D.Back 10)) ∷ []

is_back : holds 3 h back ≡ true
is_back = refl

elsewhere_not : holds 2 h back ≡ false
elsewhere_not = refl

fault_says_nothing : holds 3 h (event 1 11 (Q.Device 3 DQ.TrashNext) (A.Device D.StoreFault) ∷ back) ≡ true
fault_says_nothing = refl

trashed_not : holds 3 h (event 1 11 (Q.Device 3 DQ.TrashNext) (A.Device (D.Trashed h 20 7)) ∷ back) ≡ false
trashed_not = refl

-- a round asks for the rows of its first last scan, also where later ones are made
scanned : Past
scanned = event 4 4000 (Q.Table (TQ.Scan 7 0 10)) (A.Table (T.Rows [] true)) ∷ updated

abbrev later : Past
later = event 5 5000 (Q.Table (TQ.Save request)) (A.Table (T.Saved 2 1 portable)) ∷ scanned

asked_first : map (λ (r : Row). r.version) (asked c 7 later) ≡ 1 ∷ 2 ∷ []
unfolding scanned
asked_first = refl

rows_later : versions later ≡ 1 ∷ 2 ∷ 1 ∷ []
unfolding scanned
rows_later = refl

no_other_round : length (asked c 8 later) ≡ 0
unfolding scanned
no_other_round = refl
