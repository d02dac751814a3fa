-- Versions as the code keeps them, with the digests that they name and without what no answer needs; and what an event signs, by the latest reading.
use Rattle.std.specs.Prelude.{◌≡◌, ◌≤◌, ℕ, ◌+◌, ◌==◌, ◌&&◌, nat_le, nat_lt, not, List, [], ◌∷◌, ◌++◌, length, map, filter, Bool, true, false, Option, None, Some, is_none, is_some, if◌then◌else◌}
use Rattle.std.specs.BTreeMap.{get}
use Rattle.std.specs.Ordering.{nat_cmp}
use Rattle.std.specs.List.{flat_map}
use Rattle.keep_spec.specs.Config.{Configuration, token_of}
use Rattle.keep_spec.specs.Times.{nanos, expiry_at, grace}
use Rattle.keep_spec.specs.declared.token.TokenId.{TokenId}
use Rattle.keep_event.specs.Requests.{digests_of}
use Rattle.keep_event.specs.declared.device.DeviceQuery.{DeviceQuery}
use Rattle.keep_event.specs.declared.event.Event.{Event}
use Rattle.keep_event.specs.declared.table.TableQuery.{TableQuery}
use Rattle.keep_event.specs.declared.table.TableQuery.TheVariants.{Save, Update, SetTrash, Restore, Sweep, Read}
use Rattle.keep_event.specs.declared.table.TableAnswer.TheVariants as T
use Rattle.keep_event.specs.declared.table.TableAnswer.TheVariants.{Saved, Updated, TrashSet, Restored}
use Rattle.keep_event.specs.declared.event.Query.{Query}
use Rattle.keep_event.specs.declared.event.Query.TheVariants as Q
use Rattle.keep_event.specs.declared.event.Answer.{Answer}
use Rattle.keep_event.specs.declared.event.Answer.TheVariants as A
use Rattle.keep_core.specs.declared.held.Change.{Change}
use Rattle.keep_core.specs.declared.held.Change.TheVariants.{Nothing, Made, Swept, Timed}
use Rattle.keep_core.specs.declared.held.Held.{Held}
use Rattle.keep_safety.specs.declared.superseded.Superseded.{Superseded}
use Rattle.keep_core.specs.declared.held.Tracked.{Tracked}
use Rattle.keep_core.specs.declared.held.Version.{Version}
use Rattle.keep_safety.specs.Past.{Past}
use Rattle.keep_safety.specs.Rows.{Row, rows, delete_at, is_over}
use Rattle.keep_safety.specs.Signatures.{digest_named, token_carried, time_told}
use Rattle.keep_safety.specs.Times.{skew}

abbrev pub version_of : Row → Version
version_of r = record { collection = r.number; superseded = r.superseded; named = r.made.named }

abbrev pub superseded : ℕ → ℕ → Bool → Version → Version
superseded number reading preserve v =
    if (v.collection == number) && is_none v.superseded
    then record { collection = v.collection; superseded = Some (record { at = reading; preserved = preserve }); named = v.named }
    else v

abbrev pub stays : Configuration → ℕ → ℕ → Version → Bool
stays c reading number v = not ((v.collection == number) && is_over c reading v.superseded)

abbrev pub updated : Configuration → ℕ → ℕ → Bool → List Version → List Version
updated c reading number preserve vs = map (superseded number reading preserve) (filter (stays c reading number) vs)

abbrev pub new_version : ℕ → List (List ℕ) → Version
new_version number named = record { collection = number; superseded = None; named = named }

abbrev pub with_made : Configuration → ℕ → Version → Option Bool → List Version → List Version
with_made c reading new None vs = vs ++ new ∷ []
with_made c reading new (Some preserve) vs = updated c reading new.collection preserve vs ++ new ∷ []

-- what an event changes of the versions that are held
abbrev pub change_of : Query → Answer → Change
change_of (Q.Table (Save request)) (A.Table (Saved number version portable)) = Made number None (digests_of request.text)
change_of (Q.Table (Update collection preserve request)) (A.Table (Updated number version portable)) = Made number (Some preserve) (digests_of request.text)
change_of (Q.Table (SetTrash token collection t d)) (A.Table (TrashSet trash_at delete_at)) = Timed collection (Some delete_at)
change_of (Q.Table (Restore token collection)) (A.Table Restored) = Timed collection None
change_of (Q.Table Sweep) (A.Table (T.Swept versions collections)) = Swept
change_of _ _ = Nothing

-- ---- sweeps: how many events there were up to the latest one at a reading above a time

-- of a list of readings with numbers, the number at the first reading above a time
abbrev pub last_sweep : ℕ → List (ℕ × ℕ) → ℕ
last_sweep time [] = 0
last_sweep time (e ∷ es) = if nat_lt time e.0 then e.1 else last_sweep time es

abbrev pub begins_by : ℕ → List (ℕ × ℕ) → Bool
begins_by reading [] = false
begins_by reading (e ∷ es) = nat_le e.0 reading

abbrev pub swept_by : ℕ → ℕ → ℕ → ℕ → ℕ
swept_by reading events time before = if nat_lt time reading then events else before

abbrev pub sweep_after : Change → ℕ → ℕ → ℕ → ℕ → ℕ
sweep_after Swept reading events time before = swept_by reading events time before
sweep_after Nothing reading events time before = before
sweep_after (Made collection superseding named) reading events time before = before
sweep_after (Timed collection delete_at) reading events time before = before

abbrev pub last_swept : ℕ → Past → ℕ
last_swept time [] = 0
last_swept time (e ∷ past) = sweep_after (change_of e.query e.answer) e.reading (length past + 1) time (last_swept time past)

-- whether a sweep after so many events was at a reading above a time
abbrev pub passed : ℕ → (ℕ → ℕ) → ℕ → Bool
passed events last time = nat_lt events (last time)

abbrev pub was_past : (ℕ → Bool) → Option ℕ → Bool
was_past passes None = false
was_past passes (Some time) = passes time

abbrev pub was_over : Configuration → (ℕ → Bool) → Option Superseded → Bool
was_over c passes None = false
was_over c passes (Some s) = not s.preserved && passes (s.at + grace c.ttl c.skew)

abbrev pub outlives_by : Configuration → (ℕ → Bool) → Option ℕ → Option Superseded → Bool
outlives_by c passes delete_at by = not (was_past passes delete_at) && not (was_over c passes by)

-- ---- what is kept of each collection

abbrev pub tracked_of : Option Tracked → Tracked
tracked_of None = record { versions = []; events = 0; delete_at = None }
tracked_of (Some k) = k

abbrev pub left : Configuration → (ℕ → ℕ) → Tracked → List Version
left c last k = filter (λ v. outlives_by c (passed k.events last) k.delete_at v.superseded) k.versions

abbrev pub named_where : Bool → List (List ℕ) → List (List ℕ)
named_where true hs = hs
named_where false hs = []

-- the digests that those versions name
abbrev pub named_left : Configuration → (ℕ → ℕ) → Tracked → List (List ℕ)
named_left c last k = flat_map (λ v. named_where (outlives_by c (passed k.events last) k.delete_at v.superseded) v.named) k.versions

abbrev pub made_after : Configuration → (ℕ → ℕ) → ℕ → ℕ → Version → Option Bool → ℕ → Tracked → Tracked
made_after c last reading events new superseding n k =
    if new.collection == n then record { versions = with_made c reading new superseding (left c last k); events = events; delete_at = k.delete_at } else k

abbrev pub tracked_after : Configuration → (ℕ → ℕ) → ℕ → ℕ → Change → ℕ → Tracked → Tracked
tracked_after c last reading events Nothing n k = k
tracked_after c last reading events Swept n k = k
tracked_after c last reading events (Made collection superseding named) n k = made_after c last reading events (new_version collection named) superseding n k
tracked_after c last reading events (Timed collection delete_at) n k =
    if collection == n then record { versions = left c last k; events = events; delete_at = delete_at } else k

-- the versions of the collection are those that are left of what is kept of it, by all sweeps so far
pub record Tracks (c : Configuration) (past : Past) (n : ℕ) (k : Tracked) : Type 0 where
  pub held : filter (λ v. v.collection == n) (map version_of (rows c past)) ≡ left c (λ t. last_swept t past) k
  pub times : k.delete_at ≡ delete_at n past
  pub before : k.events ≤ length past

pub record IsKnown (c : Configuration) (past : Past) (h : Held) : Type 0 where
  pub tracked : (n : ℕ) → Tracks c past n (tracked_of (get nat_cmp h.collections n))
  pub sweeps : (t : ℕ) → last_sweep t h.sweeps.entries ≡ last_swept t past

abbrev pub named_by : List Version → List (List ℕ)
named_by vs = flat_map (λ v. v.named) vs

-- ---- live signatures, by the latest reading

abbrev pub is_live_at : Configuration → ℕ → ℕ → Bool
is_live_at c latest expiry = nat_le latest (nanos expiry + skew c)

-- the digest that a query names, where it carries a token
abbrev pub with_token : Option (List ℕ) → Option TokenId → Option (List ℕ)
with_token h None = None
with_token h (Some token) = h

abbrev pub put_digest : DeviceQuery → Option (List ℕ)
put_digest q = with_token (digest_named q) (token_carried q)

abbrev pub if_live : Bool → List (List ℕ) → List (List ℕ)
if_live true hs = hs
if_live false hs = []

abbrev pub live_at : Configuration → ℕ → List ℕ → Option ℕ → List (List ℕ)
live_at c latest h None = []
live_at c latest h (Some mtime) = if_live (is_live_at c latest (expiry_at c.ttl mtime)) (h ∷ [])

abbrev pub live_put : Configuration → ℕ → Option (List ℕ) → Answer → List (List ℕ)
live_put c latest None a = []
live_put c latest (Some h) (A.Device a) = live_at c latest h (time_told a)
live_put c latest (Some h) (A.Table a) = []

abbrev pub live_read : Configuration → ℕ → TableQuery → Answer → List (List ℕ)
live_read c latest (Read token collection version) (A.Table (T.Row number v (Some expiry) want trash_at text)) =
    if_live (is_some (token_of c token) && is_live_at c latest expiry) (digests_of text)
live_read c latest _ _ = []

abbrev pub live_by : Configuration → ℕ → Query → Answer → List (List ℕ)
live_by c latest (Q.Device n q) a = live_put c latest (put_digest q) a
live_by c latest (Q.Table q) a = live_read c latest q a

abbrev pub live_of : Configuration → ℕ → Event → List (List ℕ)
live_of c latest e = live_by c latest e.query e.answer
