-- Safety: each block that a held collection or an unexpired signature names can be read, and no trash step leaves fewer copies than its round's collections wanted.
use Rattle.std.specs.Prelude.{◌≡◌, ◌≤◌, ◌<◌, ℕ, List, [], ◌∷◌, ◌++◌, length, map, true, ⊤}
use Rattle.md5.specs.Md5.{md5}
use Rattle.keep_spec.specs.Config.{Configuration}
use Rattle.keep_event.specs.declared.device.DeviceQuery.TheVariants.{Fetch}
use Rattle.keep_event.specs.declared.device.DeviceAnswer.TheVariants.{Block, StoreFault, Trashed}
use Rattle.keep_event.specs.Plan.{wanted_in}
use Rattle.keep_event.specs.declared.event.Event.{Event}
use Rattle.keep_event.specs.declared.event.Query.TheVariants as Q
use Rattle.keep_event.specs.declared.event.Answer.{Answer}
use Rattle.keep_event.specs.declared.event.Answer.TheVariants as A
use Rattle.keep_safety.specs.Past.{Past}
use Rattle.keep_safety.specs.Times.{IsSteady}
use Rattle.keep_spec.specs.Members.{IsIn}
use Rattle.keep_safety.specs.Signatures.{live, IsUnforged}
use Rattle.keep_safety.specs.Holds.{holds, copies}
use Rattle.keep_safety.specs.Rows.{refs, asked, scan_row}
use Rattle.keep_safety.specs.Allowed.{IsAllowed}

-- bytes with the digest, or a fault of the store
abbrev pub GivesBlock : List ℕ → Answer → Type 0
GivesBlock h (A.Device (Block bytes)) = md5 bytes ≡ h
GivesBlock h (A.Device StoreFault) = ⊤
GivesBlock h _ = ⊥

-- some device holds it, and whatever may come next, a fetch there gives it
pub record IsReadable (c : Configuration) (past : Past) (h : List ℕ) : Type 0 where
  pub device : ℕ
  pub configured : device < length c.devices
  pub held : holds device h past ≡ true
  pub fetched : (e : Event) → e.query ≡ Q.Device device (Fetch h) → IsAllowed c (e ∷ past) → GivesBlock h e.answer

-- the digests that held collections and live signatures name
abbrev pub protected : Configuration → Past → List (List ℕ)
protected c past = refs c past ++ map (λ s. s.digest) (live c past)

abbrev pub IsSafe : Configuration → Past → Type 0
IsSafe c past = (h : List ℕ) → IsIn h (protected c past) → IsReadable c past h

-- at least as many copies are left as the round's collections wanted
abbrev pub LeavesEnough : Configuration → Past → Event → Answer → Type 0
LeavesEnough c past e (A.Device (Trashed h deadline round)) = wanted_in h (map scan_row (asked c round (e ∷ past))) ≤ copies c h (e ∷ past)
LeavesEnough c past e _ = ⊤

abbrev pub IsKept : Configuration → Past → Type 0
IsKept c [] = ⊤
IsKept c (e ∷ past) = LeavesEnough c past e e.answer × IsKept c past

-- each moment is safe: the past, and all that led to it
abbrev pub IsSafeThroughout : Configuration → Past → Type 0
IsSafeThroughout c [] = IsSafe c []
IsSafeThroughout c (e ∷ past) = IsSafe c (e ∷ past) × IsSafeThroughout c past

-- THE SIGNATURE-LIFETIME THEOREM
abbrev pub SignatureLifetime : Configuration → Type 0
SignatureLifetime c = (past : Past) → IsAllowed c past → IsKept c past × (IsSteady c past → IsUnforged c past → IsSafeThroughout c past)
