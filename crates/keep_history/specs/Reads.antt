-- What the gets of a script return: bytes that an earlier line put, whose MD5 is the digest asked for.
use Rattle.std.specs.Prelude.{◌≡◌, ℕ, List, [], ◌∷◌, ◌++◌, Option, None, Some, IfSome, ⊤, ◌⊎◌}
use Rattle.md5.specs.Md5.{md5}
use Rattle.keep_spec.specs.Config.{Configuration}
use Rattle.keep_spec.specs.Lines.{cut, text_of}
use Rattle.keep_history.specs.declared.task.Command.{Command}
use Rattle.keep_history.specs.declared.task.Command.TheVariants as C
use Rattle.keep_history.specs.declared.task.Opening.TheVariants as Open
use Rattle.keep_history.specs.declared.task.Outcome.{Outcome}
use Rattle.keep_history.specs.declared.task.Outcome.TheVariants as O
use Rattle.keep_history.specs.declared.task.Task.{Task}
use Rattle.keep_history.specs.declared.task.Task.TheVariants as T
use Rattle.keep_history.specs.Effects.{Scene, Ending, command_in, effect_of_line}
use Rattle.keep_history.specs.Ended.{Begun, begun_of}
use Rattle.keep_history.specs.Run.{at_start}

-- the bytes that a line puts, if it does
abbrev pub bytes_put : Option Command → List (List ℕ)
bytes_put (Some (C.Open name reading (Open.Put token server bytes hash))) = bytes ∷ []
bytes_put _ = []

-- what a get returned, and the digest that it asked for
pub record Read : Type 0 where
  pub digest : List ℕ
  pub bytes : List ℕ

abbrev pub read_by : Task → Outcome → Option Read
read_by (T.Get devices hash) (O.Bytes bytes) = Some (record { digest = hash; bytes = bytes })
read_by _ _ = None

-- what the get that a line ended returned, where it ended Bytes
abbrev pub read_in : Option Ending → Option Read
read_in None = None
read_in (Some ending) = read_by ending.task ending.outcome

abbrev pub IsAmong : List ℕ → List (List ℕ) → Type 0
IsAmong bytes [] = ⊥
IsAmong bytes (p ∷ ps) = (bytes ≡ p) ⊎ IsAmong bytes ps

-- the bytes have the digest that was asked for, and were put
pub record IsOfPut (put : List (List ℕ)) (r : Read) : Type 0 where
  pub digest : md5 r.bytes ≡ r.digest
  pub put_before : IsAmong r.bytes put

-- each get that ends from here on returns bytes that were put by then
abbrev pub AreOfPuts : Configuration → List ℕ → Scene → List (List ℕ) → List (List ℕ) → Type 0
AreOfPuts c failed scene put [] = ⊤
AreOfPuts c failed scene put (piece ∷ rest) =
    IfSome (effect_of_line c failed scene (text_of piece)) (λ e.
    IfSome (read_in e.ended) (IsOfPut put) × AreOfPuts c failed e.scene (bytes_put (command_in c scene (text_of piece)) ++ put) rest)

-- In the run of an input over so many empty stores each get that ends Bytes after an event returns bytes of the digest that it asked for, which an earlier line put.
abbrev pub ReadsAreOfPuts : ℕ → List ℕ → List ℕ → Type 0
ReadsAreOfPuts stores failed bytes = IfSome (begun_of stores (cut bytes)) (λ (b : Begun). AreOfPuts b.config failed (at_start b.config).scene [] b.rest)
