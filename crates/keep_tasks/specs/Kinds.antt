-- Where each kind of task stands after its answers, as `next` has it. For the trait's private meanings.
use Rattle.std.specs.Prelude.{◌≡◌, ◌<◌, ℕ, List, [], ◌∷◌, ◌++◌, length, Option, None, Some, ⊤, All}
use Rattle.std.specs.Fmt.{decimal}
use Rattle.hex.specs.Hex.{encode_lower}
use Rattle.md5.specs.Md5.{md5}
use Rattle.keep_spec.specs.Config.{Configuration}
use Rattle.keep_spec.specs.declared.token.TokenId.{TokenId}
use Rattle.keep_event.specs.declared.event.Query.{Query}
use Rattle.keep_event.specs.declared.device.DeviceQuery.{DeviceQuery}
use Rattle.keep_event.specs.declared.device.DeviceQuery.TheVariants as Q
use Rattle.keep_event.specs.declared.event.Answer.{Answer}
use Rattle.keep_history.specs.declared.task.Outcome.{Outcome}
use Rattle.keep_history.specs.declared.task.Outcome.TheVariants as O
use Rattle.keep_history.specs.Next.{Answered, Next}
use Rattle.keep_history.specs.Tasks.{one, restarted, on_device, by_all, compare_end, write_end, writes, fetch_end, touch_end, no_end, not_written, not_fetched, not_touched, untrashed}
use Rattle.keep_tasks.specs.Unsigned.{Beginning, unsigned}
use Rattle.keep_tasks.specs.Walks.{IsWalking, IsAt, AreBelow}
use Rattle.keep_tasks.specs.declared.walk.Walk.{Walk}

-- the beginning of a block's locator: its digest and its size
abbrev pub block_text : List ℕ → List ℕ
block_text bytes = encode_lower (md5 bytes) ++ 43 ∷ decimal (length bytes)

-- ---- a put

abbrev pub block_unsigned : Configuration → List ℕ → List ℕ → Beginning
block_unsigned c token bytes = unsigned c token (md5 bytes) (block_text bytes)

-- it compares while the devices of the writes are kept, and then writes
abbrev pub IsPutting : Configuration → TokenId → List ℕ → List ℕ → Walk → Option (List ℕ) → (List Answered → Next) → List Answered → Type 0
IsPutting c id token bytes w (Some devices) next answers =
    IsWalking (Q.CompareTouch bytes (Some id)) (on_device (compare_end c token bytes)) (writes c id token bytes devices) w next answers
IsPutting c id token bytes w None next answers =
    IsWalking (Q.Write bytes (Some id)) (on_device (write_end c token bytes)) (by_all not_written) w next answers

pub record IsPut (w : Walk) (locator : Option Beginning) (left : Option (List ℕ)) (next : List Answered → Next) (answers : List Answered) : Type 0 where
  pub config : Configuration
  pub id : TokenId
  pub token : List ℕ
  pub bytes : List ℕ
  pub locator_is : locator ≡ Some (block_unsigned config token bytes)
  pub walks : IsPutting config id token bytes w left next answers

-- the devices of the walk, and those of the writes, are below a number
abbrev pub AllBelow : ℕ → Option (List ℕ) → Type 0
AllBelow n (Some devices) = All (λ d. d < n) devices
AllBelow n None = ⊤

abbrev pub ArePut : ℕ → Walk → Option (List ℕ) → Type 0
ArePut n w left = AreBelow n w × AllBelow n left

-- the query to write what was compared
abbrev pub as_write : Query → DeviceQuery
as_write (Query.Device d (Q.CompareTouch block token)) = Q.Write block token
as_write _ = Q.Restart

-- an answer, with the number of its event
abbrev pub given : ℕ → Answer → Answered
given tick answer = record { tick = tick; answer = answer }

-- the writes begin, or without devices the put ends
abbrev pub WriteBegins : DeviceQuery → List ℕ → Walk → Option (List ℕ) → Option Outcome → Type 0
WriteBegins query devices w left None = IsAt w query [] devices × (left ≡ None)
WriteBegins query devices w left (Some outcome) = (devices ≡ []) × (outcome ≡ O.NoRoom)

abbrev pub BeginsWrites : Walk → Option (List ℕ) → Walk → Option (List ℕ) → Option Outcome → Type 0
BeginsWrites old (Some devices) new left outcome = WriteBegins (as_write old.query) devices new left outcome
BeginsWrites old None new left outcome = ⊤

-- ---- other tasks

pub record IsGet (w : Walk) (next : List Answered → Next) (answers : List Answered) : Type 0 where
  pub digest : List ℕ
  pub walks : IsWalking (Q.Fetch digest) (on_device fetch_end) (by_all not_fetched) w next answers

pub record IsTouch (w : Walk) (locator : Option Beginning) (next : List Answered → Next) (answers : List Answered) : Type 0 where
  pub config : Configuration
  pub id : TokenId
  pub token : List ℕ
  pub digest : List ℕ
  pub text : List ℕ
  pub locator_is : locator ≡ Some (unsigned config token digest text)
  pub walks : IsWalking (Q.Touch digest (Some id)) (on_device (touch_end config token digest text)) (by_all not_touched) w next answers

pub record IsUntrash (w : Walk) (next : List Answered → Next) (answers : List Answered) : Type 0 where
  pub digest : List ℕ
  pub walks : IsWalking (Q.Untrash digest) (on_device no_end) (by_all untrashed) w next answers

pub record IsRestart (query : Query) (next : List Answered → Next) (answers : List Answered) : Type 0 where
  pub device : ℕ
  pub query_is : query ≡ Query.Device device Q.Restart
  pub goes : (more : List Answered) → next (answers ++ more) ≡ one query restarted more
