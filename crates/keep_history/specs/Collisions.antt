-- What becomes of a put, or of a pull, that finds other bytes with the MD5 of its block on a device: it is refused, and they stay. MD5 is RFC 1321.
use Rattle.std.specs.Prelude.{◌≡◌, ◌≢◌, ◌⊎◌, ⊤, ℕ, List, [], ◌∷◌, Bool, true, false, Option, None, Some, is_some, IfSome}
use Rattle.md5.specs.Md5.{md5}
use Rattle.keep_spec.specs.Config.{Configuration}
use Rattle.keep_spec.specs.Lines.{cut, text_of}
use Rattle.keep_event.specs.Device.{State, replica_of}
use Rattle.keep_event.specs.World.{World, device_state}
use Rattle.keep_event.specs.declared.device.DeviceAnswer.TheVariants as A
use Rattle.keep_event.specs.declared.device.DeviceQuery.TheVariants as DQ
use Rattle.keep_event.specs.declared.event.Answer.TheVariants as An
use Rattle.keep_event.specs.declared.event.Query.{Query}
use Rattle.keep_event.specs.declared.event.Query.TheVariants as Q
use Rattle.keep_event.specs.declared.names.Stored.{Stored}
use Rattle.keep_history.specs.declared.task.Outcome.TheVariants as O
use Rattle.keep_history.specs.Effects.{Scene, Made, Ending, effect_of_line}
use Rattle.keep_history.specs.Ended.{Begun, begun_of}
use Rattle.keep_history.specs.Run.{at_start}

-- a block, the device that is asked to compare or to write it, and whether that is for a put, which has a token; a pull worker writes for no token
pub record BlockOn : Type 0 where
  pub device : ℕ
  pub block : List ℕ
  pub by_put : Bool

-- the block that a query brings to a device, if it does
abbrev pub block_on : Query → Option BlockOn
block_on (Q.Device device (DQ.CompareTouch block token)) = Some (record { device = device; block = block; by_put = is_some token })
block_on (Q.Device device (DQ.Write block token)) = Some (record { device = device; block = block; by_put = is_some token })
block_on _ = None

-- a device has other bytes with the MD5 of a block
pub record HasOther (block : List ℕ) (s : State) : Type 0 where
  pub replica : Stored
  pub held : replica_of (md5 block) s ≡ Some replica
  pub differs : replica.bytes ≢ block
  pub same_digest : md5 replica.bytes ≡ md5 block

abbrev pub EndsCollision : Option Ending → Type 0
EndsCollision None = ⊥
EndsCollision (Some ending) = ending.outcome ≡ O.Collision

-- a put is refused at an event: the answer is Collision, no device and no row has changed, and the put ends with it
pub record IsRefused (w : World) (m : Made) (ended : Option Ending) : Type 0 where
  pub answer : m.event.answer ≡ An.Device A.Collision
  pub unchanged : m.left ≡ w
  pub ends : EndsCollision ended

-- a pull is refused at an event: the answer is Collision, or ReadOnly of a device that takes no changes, and no device and no row has changed
pub record IsPassedOver (w : World) (m : Made) : Type 0 where
  pub answer : (m.event.answer ≡ An.Device A.Collision) ⊎ (m.event.answer ≡ An.Device A.ReadOnly)
  pub unchanged : m.left ≡ w

abbrev pub IsRefusedAs : Bool → World → Made → Option Ending → Type 0
IsRefusedAs true w m ended = IsRefused w m ended
IsRefusedAs false w m ended = IsPassedOver w m

-- where the device has other bytes with the block's MD5, and its store doesn't fail, the put or the pull is refused
abbrev pub RefusesOther : World → Made → Option Ending → Type 0
RefusesOther w m ended =
    IfSome (block_on m.event.query) (λ b. HasOther b.block (device_state b.device w) → m.event.answer ≢ An.Device A.StoreFault → IsRefusedAs b.by_put w m ended)

-- so at each of a line's events
abbrev pub AreRefused : World → List Made → Option Ending → Type 0
AreRefused w [] ended = ⊤
AreRefused w (m ∷ ms) ended = RefusesOther w m ended × AreRefused m.left ms ended

-- so at each line from a scene on
abbrev pub LinesRefuse : Configuration → List ℕ → Scene → List (List ℕ) → Type 0
LinesRefuse c failed scene [] = ⊤
LinesRefuse c failed scene (piece ∷ rest) =
    IfSome (effect_of_line c failed scene (text_of piece)) (λ e. AreRefused scene.world e.made e.ended × LinesRefuse c failed e.scene rest)

-- In the run of an input over so many empty stores each put that asks a device with other bytes of its MD5 ends Collision and writes nothing there, but where the store fails; nor does a pull.
abbrev pub CollisionsAreRefused : ℕ → List ℕ → List ℕ → Type 0
CollisionsAreRefused stores failed bytes = IfSome (begun_of stores (cut bytes)) (λ (b : Begun). LinesRefuse b.config failed (at_start b.config).scene b.rest)
