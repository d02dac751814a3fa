-- Which devices hold a block: the last event that says so decides.
use Rattle.std.specs.Prelude.{ℕ, ◌==◌, List, [], ◌∷◌, length, count_by, Bool, true, false, Option, None, Some, if◌then◌else◌}
use Rattle.std.specs.Str.{bytes_eq}
use Rattle.keep_spec.specs.Config.{Configuration}
use Rattle.keep_event.specs.declared.device.DeviceAnswer.{DeviceAnswer}
use Rattle.keep_event.specs.declared.device.DeviceAnswer.TheVariants.{Written, Back, Trashed}
use Rattle.keep_event.specs.declared.event.Query.{Query}
use Rattle.keep_event.specs.declared.event.Query.TheVariants as Q
use Rattle.keep_event.specs.declared.event.Answer.{Answer}
use Rattle.keep_event.specs.declared.event.Answer.TheVariants as A
use Rattle.keep_safety.specs.Past.{Past}
use Rattle.keep_spec.specs.Members.{numbers_from}
use Rattle.keep_safety.specs.Signatures.{digest_named}

abbrev pub is_named : List ℕ → Option (List ℕ) → Bool
is_named h None = false
is_named h (Some x) = bytes_eq h x

-- Written and Back of a digest say that the device holds it from now on, Trashed says that it doesn't; no other answer says a thing
abbrev pub held_after : List ℕ → Option (List ℕ) → DeviceAnswer → Bool → Bool
held_after h named (Written mtime) before = if is_named h named then true else before
held_after h named (Back mtime) before = if is_named h named then true else before
held_after h named (Trashed digest deadline round) before = if bytes_eq h digest then false else before
held_after h named _ before = before

abbrev pub holds_after : ℕ → List ℕ → Query → Answer → Bool → Bool
holds_after d h (Q.Device n q) (A.Device a) before = if n == d then held_after h (digest_named q) a before else before
holds_after d h (Q.Device n q) (A.Table a) before = before
holds_after d h (Q.Table q) a before = before

abbrev pub holds : ℕ → List ℕ → Past → Bool
holds d h [] = false
holds d h (e ∷ past) = holds_after d h e.query e.answer (holds d h past)

-- on how many devices
abbrev pub copies : Configuration → List ℕ → Past → ℕ
copies c h past = count_by (λ d. holds d h past) (numbers_from 0 (length c.devices))
