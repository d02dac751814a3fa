-- The requests of a whole connection, and how they end. This project's own rule: none is read after one that closes.
use Rattle.std.specs.Prelude.{◌≡◌, ℕ, ◌⊎◌, List, [], ◌∷◌, Some, None, Err, IsTrue, IsFalse}
use Rattle.keep_wire.specs.Messages.{IsDecided}
use Rattle.keep_wire.specs.Requests.{IsRequest, IsNext}
use Rattle.keep_wire.specs.declared.message.Request.{Request}
use Rattle.keep_wire.specs.declared.message.WireError.{WireError}

-- with a request that closes, at the end of the input, or with an error of the bytes
pub data Ending : Type 0 where
  closed clean : Ending
  broken : WireError → Ending

-- these are the requests that the bytes begin with, up to the first that closes, and this is how they end
abbrev pub AreRequests : List ℕ → List Request → Ending → Type 0
AreRequests bytes [] closed = ⊥
AreRequests bytes [] clean = bytes ≡ []
AreRequests bytes [] (broken e) = IsDecided {M = Request} (Err e) × IsNext (Some bytes) (Err e) None
AreRequests bytes (q ∷ qs) end =
    (left : List ℕ) × IsRequest bytes q left
    × ((IsTrue q.close × (qs ≡ []) × (end ≡ closed)) ⊎ (IsFalse q.close × AreRequests left qs end))

-- known bytes have at most one list of requests, and one end
abbrev pub AreRequestsDetermined : Type 0
AreRequestsDetermined = (bytes : List ℕ) (qs rs : List Request) (e f : Ending) → AreRequests bytes qs e → AreRequests bytes rs f → (qs ≡ rs) × (e ≡ f)

-- known bytes have a list of requests, and an end: that they have none can't be
abbrev pub AreRequestsThere : Type 0
AreRequestsThere = (bytes : List ℕ) → ¬ ((qs : List Request) (e : Ending) → ¬ (AreRequests bytes qs e))
