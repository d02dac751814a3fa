-- How a server is asked. This project's own rule: the whole request is sent, and the answer is read to the end of its response, to the byte that breaks it, or to its own end. An exchange stops earlier only where a call fails.
use Rattle.std.specs.Prelude.{◌≡◌, ◌⊎◌, ℕ, Bool, true, false, List, [], ◌∷◌, take, Option, ⊤}
use Rattle.keep_client.specs.declared.link.Exchange.{Exchange}
use Rattle.keep_client.specs.declared.said.Said.{Said}
use Rattle.keep_client.specs.Exchanges.{Grows}
use Rattle.keep_client.specs.Saying.{IsSettled, AreNeeded, Says}

-- a call failed while a prefix of the request was sent, and nothing was read
abbrev pub IsUnsent : List ℕ → Exchange → Type 0
IsUnsent request e = (n : ℕ) × (e.written ≡ take n request) × (e.failed ≡ true) × (e.read ≡ []) × (e.ended ≡ false)

-- a call failed, the answer ended, or what was read of it settled it: one of these, and the others not
abbrev pub IsStopped : List ℕ → Bool → Bool → Type 0
IsStopped read ended failed =
    ((failed ≡ true) × (ended ≡ false) × ¬ (IsSettled read))
    ⊎ ((failed ≡ false) × (ended ≡ true) × ¬ (IsSettled read))
    ⊎ ((failed ≡ false) × (ended ≡ false) × IsSettled read)

-- an exchange asks a server
pub record IsAsked (server : ℕ) (request : List ℕ) (e : Exchange) : Type 0 where
  pub to : e.server ≡ server
  pub sent : (e.written ≡ request) ⊎ IsUnsent request e
  pub needed : AreNeeded e.read
  pub stopped : IsStopped e.read e.ended e.failed

-- exchanges ask servers one after another, each once, and these say this
abbrev pub AreAsked : List ℕ → List ℕ → List Exchange → List Said → Type 0
AreAsked [] request [] [] = ⊤
AreAsked [] request [] (said ∷ more) = ⊥
AreAsked [] request (e ∷ es) said = ⊥
AreAsked (server ∷ servers) request [] said = ⊥
AreAsked (server ∷ servers) request (e ∷ es) [] = ⊥
AreAsked (server ∷ servers) request (e ∷ es) (said ∷ more) =
    IsAsked server request e × Says e said × AreAsked servers request es more

-- since a link told its exchanges before, these servers were asked, and said this
pub record HaveSaid (servers request : List ℕ) (before now : Option (List Exchange)) (said : List Said) : Type 0 where
  pub exchanges : List Exchange
  pub asked : AreAsked servers request exchanges said
  pub told : Grows before now exchanges
