-- What comes to a good end: a script all of whose lines are script lines, a put that a device has room for, a get of a block that a device holds. This is the project's own rule.
use Rattle.std.specs.Prelude.{◌≡◌, ◌≢◌, ◌≤◌, ◌⊎◌, ◌+◌, ◌-◌, ◌==◌, ⊤, ℕ, List, [], ◌∷◌, length, take, Bool, true, false, Option, None, Some, MatchOption, MatchResult, IfSome, IsSomeAnd}
use Rattle.std.specs.Bool.{MatchBool}
use Rattle.std.specs.List.{list_any}
use Rattle.std.specs.Result.{IsOk}
use Rattle.std.specs.Str.{bytes_eq}
use Rattle.md5.specs.Md5.{md5}
use Rattle.keep_spec.specs.Config.{Configuration, token_of, devices_of}
use Rattle.keep_spec.specs.Lines.{cut, text_of}
use Rattle.keep_spec.specs.Locator.{is_locator, is_empty_block}
use Rattle.keep_spec.specs.declared.status.Status.{Status}
use Rattle.keep_spec.specs.declared.status.Status.TheVariants.{Done, NoMemory, ReadFault, WriteFault, StoreFault}
use Rattle.keep_spec.specs.declared.token.TokenId.{TokenId}
use Rattle.keep_event.specs.Device.{State, replica_of, used, taken_by}
use Rattle.keep_event.specs.World.{World, device_state, device_rules}
use Rattle.keep_event.specs.declared.device.DeviceAnswer.TheVariants as A
use Rattle.keep_event.specs.declared.device.DeviceQuery.TheVariants as DQ
use Rattle.keep_event.specs.declared.device.DeviceRules.{DeviceRules}
use Rattle.keep_event.specs.declared.event.Answer.{Answer}
use Rattle.keep_event.specs.declared.event.Answer.TheVariants as An
use Rattle.keep_event.specs.declared.event.Query.{Query}
use Rattle.keep_event.specs.declared.event.Query.TheVariants as Q
use Rattle.keep_event.specs.declared.names.Stored.{Stored}
use Rattle.keep_history.specs.declared.task.Command.{Command}
use Rattle.keep_history.specs.declared.task.Command.TheVariants as C
use Rattle.keep_history.specs.declared.task.Opening.{Opening}
use Rattle.keep_history.specs.declared.task.Opening.TheVariants as Open
use Rattle.keep_history.specs.declared.task.Outcome.{Outcome}
use Rattle.keep_history.specs.declared.task.Outcome.TheVariants as O
use Rattle.keep_history.specs.Collisions.{block_on, HasOther}
use Rattle.keep_history.specs.Effects.{Scene, Made, command_in, effect_of_line}
use Rattle.keep_history.specs.Ended.{Begun, begun_of, effect_of_piece}
use Rattle.keep_history.specs.Run.{Progress, Kept, and_then, at_start, first_filled}
use Rattle.keep_history.specs.Tasks.{opened, writable, has_other_digest, permitted_block}

-- ---- a whole script

-- each line is within the bounds and a script line in the state reached, and none asks for an event more than there may be
abbrev pub AreScriptLines : Configuration → List ℕ → ℕ → Progress → List (List ℕ) → Type 0
AreScriptLines c failed taken sofar [] = ⊤
AreScriptLines c failed taken sofar (piece ∷ rest) =
    IsSomeAnd (effect_of_piece c failed taken sofar piece) (λ e. (e.spent ≡ false) × AreScriptLines c failed (taken + length piece) (and_then sofar e) rest)

-- the first line is a configuration with at most as many devices as stores, the stores of its devices are empty, and all other lines are script lines
pub record IsScript (failed : List ℕ) (starts : List Kept) (bytes : List ℕ) : Type 0 where
  pub begun : Begun
  pub begins : begun_of (length starts) (cut bytes) ≡ Some begun
  pub empty : first_filled (take (length begun.config.devices) starts) ≡ None
  pub lines : AreScriptLines begun.config failed begun.taken (at_start begun.config) begun.rest

-- how the run of a script ends: Done, or for want of memory, or by a fault of the source, of the sink, or of a store while the devices are opened
abbrev pub EndsWhole : Status → Type 0
EndsWhole Done = ⊤
EndsWhole NoMemory = ⊤
EndsWhole ReadFault = ⊤
EndsWhole WriteFault = ⊤
EndsWhole (StoreFault device) = ⊤
EndsWhole other = ⊥

-- ---- a task from its opening on

-- the command of a line; an empty line has none
abbrev pub command_at : Configuration → Scene → List ℕ → Option Command
command_at c scene [] = None
command_at c scene (x ∷ xs) = command_in c scene (x ∷ xs)

-- whether a line goes on with the task of a name
abbrev pub is_asked : List ℕ → Option Command → Bool
is_asked name (Some (C.Step n reading)) = bytes_eq n name
is_asked name (Some (C.Finish n reading)) = bytes_eq n name
is_asked name _ = false

-- each of some events is fair, in the world before it
abbrev pub AreFair : (World → Made → Type 0) → World → List Made → Type 0
AreFair IsFair w [] = ⊤
AreFair IsFair w (m ∷ ms) = IsFair w m × AreFair IsFair m.left ms

-- The task of a name, whichever lines go on with it and whatever other tasks do between them: as long as all of its events are fair, it has a good end where it ends.
abbrev pub EndsWell : (World → Made → Type 0) → (Outcome → Type 0) → Configuration → List ℕ → List ℕ → Scene → List (List ℕ) → Type 0
EndsWell IsFair IsGood c failed name scene [] = ⊤
EndsWell IsFair IsGood c failed name scene (piece ∷ rest) =
    IfSome (effect_of_line c failed scene (text_of piece)) (λ e.
    MatchBool (is_asked name (command_at c scene (text_of piece)))
    (AreFair IsFair scene.world e.made → MatchOption e.ended (EndsWell IsFair IsGood c failed name e.scene rest) (λ ending. IsGood ending.outcome))
    (EndsWell IsFair IsGood c failed name e.scene rest))

-- an opening has a good end at once, or makes a task that has one
abbrev pub OpensWell : (World → Made → Type 0) → (Outcome → Type 0) → Configuration → List ℕ → List ℕ → ℕ → Opening → Scene → List (List ℕ) → Type 0
OpensWell IsFair IsGood c failed name reading opening after rest =
    MatchResult (opened c opening reading) (λ task. EndsWell IsFair IsGood c failed name after rest) IsGood

abbrev pub is_among : ℕ → List ℕ → Bool
is_among d devices = list_any (λ k. k == d) devices

-- ---- puts

-- there is room for a block in the place of what has its name
abbrev pub HasRoom : DeviceRules → List ℕ → State → Type 0
HasRoom rules block s = used s.held - taken_by (replica_of (md5 block) s) + length block ≤ rules.capacity

-- device `d` has room when it is asked to write, and its store doesn't fail then
abbrev pub TakesWrite : ℕ → World → Query → Answer → Type 0
TakesWrite d w (Q.Device device (DQ.Write block token)) answer =
    device ≡ d → HasRoom (device_rules w.config device) block (device_state device w) × (answer ≢ An.Device A.StoreFault)
TakesWrite d w _ answer = ⊤

-- no device that is asked has other bytes with the block's MD5, and device `d` takes the block when it is asked to write
abbrev pub IsFairPut : ℕ → World → Made → Type 0
IsFairPut d w m = IfSome (block_on m.event.query) (λ b. ¬ HasOther b.block (device_state b.device w)) × TakesWrite d w m.event.query m.event.answer

abbrev pub IsStored : Outcome → Type 0
IsStored (O.Stored locator) = ⊤
IsStored other = ⊥

-- the token is known, the block is at most 67,108,864 bytes, no digest is given or its own, and `d` is a writable device of the server
pub record IsGoodPut (c : Configuration) (token : List ℕ) (server : ℕ) (bytes : List ℕ) (hash : Option (List ℕ)) (d : ℕ) : Type 0 where
  pub id : TokenId
  pub known : token_of c token ≡ Some id
  pub short : length bytes ≤ 67108864
  pub digest : has_other_digest bytes hash ≡ false
  pub device : is_among d (writable c server) ≡ true

-- ---- gets

-- device `d` has bytes with the digest when it is asked for them, and its store doesn't fail then
abbrev pub ServesFetch : ℕ → World → Query → Answer → Type 0
ServesFetch d w (Q.Device device (DQ.Fetch hash)) answer =
    device ≡ d → ((r : Stored) × ((replica_of hash (device_state device w) ≡ Some r) × (md5 r.bytes ≡ hash))) × (answer ≢ An.Device A.StoreFault)
ServesFetch d w _ answer = ⊤

abbrev pub IsFairGet : ℕ → World → Made → Type 0
IsFairGet d w m = ServesFetch d w m.event.query m.event.answer

abbrev pub IsRead : Outcome → Type 0
IsRead (O.Bytes bytes) = ⊤
IsRead other = ⊥

-- the token is known, the locator is one and valid for it at the reading, and `d` is a device of the server
pub record IsGoodGet (c : Configuration) (token : List ℕ) (server : ℕ) (locator : List ℕ) (reading d : ℕ) : Type 0 where
  pub id : TokenId
  pub known : token_of c token ≡ Some id
  pub form : is_locator locator ≡ true
  pub valid : (is_empty_block locator ≡ true) ⊎ IsOk (permitted_block c id token locator reading)
  pub device : is_among d (devices_of c server) ≡ true

-- ---- each of a script

-- a good put or get that a line opens has a good end
abbrev pub OpeningEndsWell : Configuration → List ℕ → Option Command → Scene → List (List ℕ) → Type 0
OpeningEndsWell c failed (Some (C.Open name reading (Open.Put token server bytes hash))) after rest =
    (d : ℕ) → IsGoodPut c token server bytes hash d → OpensWell (IsFairPut d) IsStored c failed name reading (Open.Put token server bytes hash) after rest
OpeningEndsWell c failed (Some (C.Open name reading (Open.Get token server locator))) after rest =
    (d : ℕ) → IsGoodGet c token server locator reading d → OpensWell (IsFairGet d) IsRead c failed name reading (Open.Get token server locator) after rest
OpeningEndsWell c failed _ after rest = ⊤

abbrev pub AreEndedWell : Configuration → List ℕ → Scene → List (List ℕ) → Type 0
AreEndedWell c failed scene [] = ⊤
AreEndedWell c failed scene (piece ∷ rest) =
    IfSome (effect_of_line c failed scene (text_of piece)) (λ e. OpeningEndsWell c failed (command_at c scene (text_of piece)) e.scene rest × AreEndedWell c failed e.scene rest)

-- In the run of an input over so many empty stores each good put ends Stored and each good get ends Bytes, where a device takes or has the block when it is asked.
abbrev pub GoodTasksEndWell : ℕ → List ℕ → List ℕ → Type 0
GoodTasksEndWell stores failed bytes = IfSome (begun_of stores (cut bytes)) (λ (b : Begun). AreEndedWell b.config failed (at_start b.config).scene b.rest)
