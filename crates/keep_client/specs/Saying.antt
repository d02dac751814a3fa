-- What the bytes of an answer say (RFC 9112, as keep_wire reads it).
use Rattle.std.specs.Prelude.{◌≡◌, ◌⊎◌, ◌<◌, ℕ, true, false, List, length, take}
use Rattle.keep_wire.specs.Replies.{IsResponse, IsBroken}
use Rattle.keep_wire.specs.declared.message.Response.{Response}
use Rattle.keep_client.specs.declared.link.Exchange.{Exchange}
use Rattle.keep_client.specs.declared.said.Said.{Said}
use Rattle.keep_client.specs.declared.said.Said.TheVariants.{Failed, Broken, Answered}

-- the bytes begin with this response
abbrev pub BeginsWith : List ℕ → Response → Type 0
BeginsWith bytes response = (left : List ℕ) × IsResponse bytes response left

abbrev pub HasNoResponse : List ℕ → Type 0
HasNoResponse bytes = (response : Response) → ¬ (BeginsWith bytes response)

-- the bytes have a whole response, or can't become one
abbrev pub IsSettled : List ℕ → Type 0
IsSettled bytes = ((response : Response) × BeginsWith bytes response) ⊎ IsBroken bytes

-- each of the bytes was still needed: those before it hadn't settled the answer
abbrev pub AreNeeded : List ℕ → Type 0
AreNeeded bytes = (k : ℕ) → k < length bytes → ¬ (IsSettled (take k bytes))

-- what an exchange says
abbrev pub Says : Exchange → Said → Type 0
Says e Failed = e.failed ≡ true
Says e Broken = (e.failed ≡ false) × HasNoResponse e.read
Says e (Answered response) = (e.failed ≡ false) × BeginsWith e.read response
