-- What openings of clients make: `put-opens`, `get-opens`, `touch-opens`, `untrash-opens` for a known token, and `put-unknown`, `get-unknown`, `touch-unknown`, `untrash-unknown`; `restart-opens` and `restart-begins`.
use Rattle.std.proofs.Common.{◌≡◌, ℕ, List, [], Option, None, Some, Ok, Err, refl}
use Rattle.keep_spec.specs.Config.{Configuration, token_of}
use Rattle.keep_spec.specs.declared.token.TokenId.{TokenId}
use Rattle.keep_history.specs.declared.task.Opening.TheVariants as Open
use Rattle.keep_history.specs.declared.task.Outcome.TheVariants as O
use Rattle.keep_history.specs.declared.task.Task.TheVariants as T
use Rattle.keep_event.specs.declared.event.Query.TheVariants as Query
use Rattle.keep_event.specs.declared.device.DeviceQuery.TheVariants as Q
use Rattle.keep_history.specs.Tasks.{next, opened, put_opened, get_opened, touch_opened, untrash_opened}
use Rattle.keep_tasks.specs.Kinds.{IsRestart}

module _ (c : Configuration) (token : List ℕ) (server reading : ℕ) where
  pub put-opens : (bytes : List ℕ) (hash : Option (List ℕ)) (id : TokenId) → Some id ≡ token_of c token → opened c (Open.Put token server bytes hash) reading ≡ put_opened c server id token bytes hash
  unfolding opened
  put-opens bytes hash id e = rw (← e) refl

  pub put-unknown : (bytes : List ℕ) (hash : Option (List ℕ)) → None ≡ token_of c token → opened c (Open.Put token server bytes hash) reading ≡ Err O.UnknownToken
  unfolding opened
  put-unknown bytes hash e = rw (← e) refl

  pub get-opens : (text : List ℕ) (id : TokenId) → Some id ≡ token_of c token → opened c (Open.Get token server text) reading ≡ get_opened c server id token text reading
  unfolding opened
  get-opens text id e = rw (← e) refl

  pub get-unknown : (text : List ℕ) → None ≡ token_of c token → opened c (Open.Get token server text) reading ≡ Err O.UnknownToken
  unfolding opened
  get-unknown text e = rw (← e) refl

  pub touch-opens : (text : List ℕ) (id : TokenId) → Some id ≡ token_of c token → opened c (Open.Touch token server text) reading ≡ touch_opened c server id token text reading
  unfolding opened
  touch-opens text id e = rw (← e) refl

  pub touch-unknown : (text : List ℕ) → None ≡ token_of c token → opened c (Open.Touch token server text) reading ≡ Err O.UnknownToken
  unfolding opened
  touch-unknown text e = rw (← e) refl

  pub untrash-opens : (hash : List ℕ) (id : TokenId) → Some id ≡ token_of c token → opened c (Open.Untrash token server hash) reading ≡ untrash_opened c server id hash
  unfolding opened
  untrash-opens hash id e = rw (← e) refl

  pub untrash-unknown : (hash : List ℕ) → None ≡ token_of c token → opened c (Open.Untrash token server hash) reading ≡ Err O.UnknownToken
  unfolding opened
  untrash-unknown hash e = rw (← e) refl

pub restart-opens : (c : Configuration) (device reading : ℕ) → opened c (Open.Restart device) reading ≡ Ok (T.Restart device)
unfolding opened
restart-opens c device reading = refl

pub restart-begins : (c : Configuration) (device : ℕ) → IsRestart (Query.Device device Q.Restart) (next c (T.Restart device)) []
unfolding next
restart-begins c device = record { device = device; query_is = refl; goes = λ more. refl }
