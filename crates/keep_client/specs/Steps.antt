-- What the steps within an exchange leave of it. Inner to this crate.
use Rattle.std.specs.Prelude.{◌≡◌, ◌<◌, ◌≤◌, ◌==◌, ℕ, Bool, true, false, List, [], ◌∷◌, ◌++◌, length, take, Option, Result, Ok, Err, ⊤}
use Rattle.keep_wire.specs.Replies.{IsHeadOf}
use Rattle.keep_client.specs.declared.link.Exchange.{Exchange}
use Rattle.keep_client.specs.declared.exchange.Heard.{Heard}
use Rattle.keep_client.specs.declared.exchange.Heard.TheVariants as heard
use Rattle.keep_client.specs.declared.said.Said.{Said}
use Rattle.keep_client.specs.declared.said.Said.TheVariants as said
use Rattle.keep_spec.specs.declared.failed.Failed.{Failed}
use Rattle.keep_client.specs.declared.exchange.Read.{Read}
use Rattle.keep_client.specs.declared.exchange.Read.TheVariants as reading
use Rattle.keep_client.specs.Exchanges.{IsTold, Grows, after_read}
use Rattle.keep_client.specs.Saying.{AreNeeded, Says}
use Rattle.keep_client.specs.Asking.{IsStopped, IsAsked}

abbrev pub made : ℕ → List ℕ → List ℕ → Bool → Bool → Exchange
made server written read ended failed = record { server = server; written = written; read = read; ended = ended; failed = failed }

-- a link that tells its exchanges tells the last one changed
abbrev pub Turns : Exchange → Exchange → Option (List Exchange) → Option (List Exchange) → Type 0
Turns e later before now = (es : List Exchange) → IsTold (es ++ e ∷ []) before → IsTold (es ++ later ∷ []) now

-- the request was sent, or a prefix of it before a call failed
abbrev pub IsSent : {E : Type 0} → List ℕ → Result ⊤ E → Option (List Exchange) → Option (List Exchange) → Type 0
IsSent request (Ok x) before now = (server : ℕ) → Turns (made server [] [] false false) (made server request [] false false) before now
IsSent request (Err error) before now =
    (n : ℕ) × ((server : ℕ) → Turns (made server [] [] false false) (made server (take n request) [] false true) before now)

-- what a read does to the exchange that stands open
abbrev pub AfterRead : {E : Type 0} → Result ℕ E → List ℕ → Option (List Exchange) → Option (List Exchange) → Type 0
AfterRead {E} result buffer before now =
    (es : List Exchange) (e : Exchange) → IsTold (es ++ e ∷ []) before → IsTold (es ++ after_read {E = E} result buffer e ∷ []) now

pub record HasMore (room : ℕ) (old new : List ℕ) (before now : Option (List Exchange)) : Type 0 where
  pub count : ℕ
  pub buffer : List ℕ
  pub some : (count == 0) ≡ false
  pub grows : 0 < length (take count buffer)
  pub fits : length (take count buffer) ≤ room
  pub added : new ≡ old ++ take count buffer
  pub told : AfterRead {E = Failed} (Ok count) buffer before now

pub record HasEnded (old new : List ℕ) (before now : Option (List Exchange)) : Type 0 where
  pub buffer : List ℕ
  pub some : 0 < length buffer
  pub same : new ≡ old
  pub told : AfterRead {E = Failed} (Ok 0) buffer before now

pub record HasFailed (old new : List ℕ) (before now : Option (List Exchange)) : Type 0 where
  pub buffer : List ℕ
  pub error : Failed
  pub same : new ≡ old
  pub told : AfterRead (Err error) buffer before now

-- one read, into so much room, made these bytes of those
abbrev pub IsReadMore : ℕ → List ℕ → List ℕ → Option (List Exchange) → Option (List Exchange) → Read → Type 0
IsReadMore room old new before now reading.More = HasMore room old new before now
IsReadMore room old new before now reading.Ended = HasEnded old new before now
IsReadMore room old new before now reading.Failed = HasFailed old new before now

-- the answer was read until it stopped
pub record IsReceived (before now : Option (List Exchange)) (said : Said) : Type 0 where
  pub bytes : List ℕ
  pub ended : Bool
  pub failed : Bool
  pub says : (server : ℕ) (written : List ℕ) → Says (made server written bytes ended failed) said
  pub needed : AreNeeded bytes
  pub stopped : IsStopped bytes ended failed
  pub told : (server : ℕ) (written : List ℕ) → Turns (made server written [] false false) (made server written bytes ended failed) before now

-- the answer was read to the end of its head, which says this
pub record IsHeadReceived (before now : Option (List Exchange)) (status size : ℕ) : Type 0 where
  pub bytes : List ℕ
  pub head : IsHeadOf bytes status (length bytes) size
  pub needed : AreNeeded bytes
  pub told : (server : ℕ) (written : List ℕ) → Turns (made server written [] false false) (made server written bytes false false) before now

abbrev pub HasHeard : Option (List Exchange) → Option (List Exchange) → Heard → Type 0
HasHeard before now heard.Failed = IsReceived before now said.Failed
HasHeard before now heard.Broken = IsReceived before now said.Broken
HasHeard before now (heard.Head status size) = IsHeadReceived before now status size

-- these bytes of a body of this size were read, and then it was whole, a call failed, or the answer ended
abbrev pub IsBodyRead : ℕ → ℕ → List ℕ → Bool → Bool → Said → Type 0
IsBodyRead status size bytes ended failed said.Failed = (length bytes < size) × (ended ≡ false) × (failed ≡ true)
IsBodyRead status size bytes ended failed said.Broken = (length bytes < size) × (ended ≡ true) × (failed ≡ false)
IsBodyRead status size bytes ended failed (said.Answered r) =
    (length bytes ≡ size) × (ended ≡ false) × (failed ≡ false) × (r ≡ record { status = status; body = bytes })

pub record IsBodyReceived (status size : ℕ) (before now : Option (List Exchange)) (said : Said) : Type 0 where
  pub bytes : List ℕ
  pub ended : Bool
  pub failed : Bool
  pub read : IsBodyRead status size bytes ended failed said
  pub told : (server : ℕ) (written head : List ℕ) → Turns (made server written head false false) (made server written (head ++ bytes) ended failed) before now

-- the exchange that stands open asked the server, which said this
pub record IsConversed (request : List ℕ) (before now : Option (List Exchange)) (said : Said) : Type 0 where
  pub exchange : ℕ → Exchange
  pub asked : (server : ℕ) → IsAsked server request (exchange server)
  pub says : (server : ℕ) → Says (exchange server) said
  pub told : (server : ℕ) → Turns (made server [] [] false false) (exchange server) before now

-- one exchange more asked the server, which said this
pub record HasSaid (server : ℕ) (request : List ℕ) (before now : Option (List Exchange)) (said : Said) : Type 0 where
  pub exchange : Exchange
  pub asked : IsAsked server request exchange
  pub says : Says exchange said
  pub told : Grows before now (exchange ∷ [])
