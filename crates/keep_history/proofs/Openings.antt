-- What holds of the task that an opening makes: `opened-has`.
use Rattle.std.proofs.Common.{◌≡◌, ℕ, ◌==◌, refl, Bool, true, false, List, [], length, Option, None, Some, Result, Ok, Err, if◌then◌else◌}
use Rattle.std.specs.Prelude.{⊤, nat_lt}
use Rattle.md5.specs.Md5.{md5}
use Rattle.keep_spec.specs.Config.{Configuration, token_of, devices_of}
use Rattle.keep_spec.specs.Locator.{stripped}
use Rattle.keep_spec.specs.declared.token.TokenId.{TokenId}
use Rattle.keep_event.specs.declared.table.TableQuery.TheVariants as TQ
use Rattle.keep_history.specs.declared.task.Opening.{Opening}
use Rattle.keep_history.specs.declared.task.Opening.TheVariants as Open
use Rattle.keep_history.specs.declared.task.Outcome.{Outcome}
use Rattle.keep_history.specs.declared.task.Outcome.TheVariants as O
use Rattle.keep_history.specs.declared.task.Task.{Task}
use Rattle.keep_history.specs.declared.task.Task.TheVariants as T
use Rattle.keep_event.specs.Collections.{collection_number}
use Rattle.keep_history.specs.Tasks.{opened, writable, with_token, put_opened, get_opened, touch_opened, untrash_opened, on_any, permitted, with_digest, has_other_digest, empty_locator}

module _ (P : Task → Type 0) where
  -- a list of devices that isn't empty
  abbrev pub HasSome : List ℕ → Type 0
  HasSome devices = (length devices == 0) ≡ false

  -- whatever task the opening may make has P
  abbrev pub IsMade : Configuration → Opening → Type 0
  IsMade c (Open.Put token server bytes hash) = (id : TokenId) → HasSome (writable c server) → P (T.Put (writable c server) token id bytes)
  IsMade c (Open.Get token server locator) = (hash : List ℕ) → HasSome (devices_of c server) → P (T.Get (devices_of c server) hash)
  IsMade c (Open.Touch token server locator) = (id : TokenId) (hash : List ℕ) → HasSome (writable c server) → P (T.Touch (writable c server) token id hash (stripped locator))
  IsMade c (Open.Untrash token server hash) = HasSome (writable c server) → P (T.Untrash (writable c server) hash)
  IsMade c (Open.Restart device) = P (T.Restart device)
  IsMade c (Open.Save request) = P (T.Table (TQ.Save request))
  IsMade c (Open.Update collection preserve request) = P (T.Table (TQ.Update (collection_number c collection) preserve request))
  IsMade c (Open.Read token collection version) = P (T.Table (TQ.Read token (collection_number c collection) version))
  IsMade c (Open.Trash token collection trash_at delete_at) = P (T.Table (TQ.SetTrash token (collection_number c collection) trash_at delete_at))
  IsMade c (Open.Restore token collection) = P (T.Table (TQ.Restore token (collection_number c collection)))
  IsMade c Open.Sweep = P (T.Table TQ.Sweep)
  IsMade c Open.Balance = P T.Balance
  IsMade c (Open.TrashWorker device) = P (T.TrashWorker device)
  IsMade c (Open.PullWorker device) = P (T.PullWorker device)
  IsMade c (Open.EmptyWorker device) = P (T.EmptyWorker device)

  abbrev pub OkHas : Result Task Outcome → Type 0
  OkHas (Ok task) = P task
  OkHas (Err outcome) = ⊤

  after-one : (a : Bool) (w : Outcome) (t : Task) → (a ≡ false → P t) → OkHas (if a then Err w else Ok t)
  after-one true w t p = tt
  after-one false w t p = p refl

  after-four : (a b c d : Bool) (w x y z : Outcome) (t : Task) → (d ≡ false → P t) → OkHas (if a then Err w else if b then Err x else if c then Err y else if d then Err z else Ok t)
  after-four true b c d w x y z t p = tt
  after-four false true c d w x y z t p = tt
  after-four false false true d w x y z t p = tt
  after-four false false false true w x y z t p = tt
  after-four false false false false w x y z t p = p refl

  where-allowed : (a b : Bool) (w x : Outcome) (t : Task) → (b ≡ false → P t) → OkHas (if a then (if b then Err w else Ok t) else Err x)
  where-allowed true b w x t p = after-one b w t p
  where-allowed false b w x t p = tt

  ok-token : (o : Option TokenId) (make : TokenId → Result Task Outcome) → ((id : TokenId) → OkHas (make id)) → OkHas (with_token o make)
  ok-token None make h = tt
  ok-token (Some id) make h = h id

  ok-digest : (r : Result (List ℕ) Outcome) (make : List ℕ → Result Task Outcome) → ((hash : List ℕ) → OkHas (make hash)) → OkHas (with_digest r make)
  ok-digest (Err outcome) make h = tt
  ok-digest (Ok hash) make h = h hash

  pub opened-has : (c : Configuration) (opening : Opening) (reading : ℕ) → IsMade c opening → OkHas (opened c opening reading)
  unfolding opened
  opened-has c (Open.Put token server bytes hash) reading p =
      ok-token (token_of c token) (λ id. put_opened c server id token bytes hash)
      (λ id. after-four (nat_lt 67108864 (length bytes)) (has_other_digest bytes hash) (length bytes == 0) (length (writable c server) == 0)
      O.TooLong (O.HashMismatch (md5 bytes)) (O.Stored empty_locator) O.NoRoom (T.Put (writable c server) token id bytes) (p id))
  opened-has c (Open.Get token server locator) reading p =
      ok-token (token_of c token) (λ id. get_opened c server id token locator reading)
      (λ id. ok-digest (permitted c id token locator reading (O.Bytes [])) (λ hash. on_any (devices_of c server) (T.Get (devices_of c server) hash))
      (λ hash. after-one (length (devices_of c server) == 0) O.NotFound (T.Get (devices_of c server) hash) (p hash)))
  opened-has c (Open.Touch token server locator) reading p =
      ok-token (token_of c token) (λ id. touch_opened c server id token locator reading)
      (λ id. ok-digest (permitted c id token locator reading (O.Touched (stripped locator))) (λ hash. on_any (writable c server) (T.Touch (writable c server) token id hash (stripped locator)))
      (λ hash. after-one (length (writable c server) == 0) O.NotFound (T.Touch (writable c server) token id hash (stripped locator)) (p id hash)))
  opened-has c (Open.Untrash token server hash) reading p =
      ok-token (token_of c token) (λ id. untrash_opened c server id hash)
      (λ id. where-allowed (id.number == 0) (length (writable c server) == 0) O.NotFound O.Forbidden (T.Untrash (writable c server) hash) p)
  opened-has c (Open.Restart device) reading p = p
  opened-has c (Open.Save request) reading p = p
  opened-has c (Open.Update collection preserve request) reading p = p
  opened-has c (Open.Read token collection version) reading p = p
  opened-has c (Open.Trash token collection trash_at delete_at) reading p = p
  opened-has c (Open.Restore token collection) reading p = p
  opened-has c Open.Sweep reading p = p
  opened-has c Open.Balance reading p = p
  opened-has c (Open.TrashWorker device) reading p = p
  opened-has c (Open.PullWorker device) reading p = p
  opened-has c (Open.EmptyWorker device) reading p = p
