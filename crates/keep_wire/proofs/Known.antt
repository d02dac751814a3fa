-- What was found of the bytes that were read, with what the source has left.
use Rattle.std.proofs.Common.{◌<◌, ◌≤◌, List, ℕ, Option, Ok, Err, Some, None, length}
use Rattle.std.specs.Prelude.{Result}
use Rattle.std.specs.Io.KnownBytes.{Keeps, prepend_known, IsAtEnd}
use Rattle.keep_base.proofs.Known.{Keeps-trans}
use Rattle.keep_wire.specs.declared.head.Begun.{Begun}
use Rattle.keep_wire.specs.declared.message.WireError.{WireError}
use Rattle.keep_wire.specs.declared.message.WireError.TheVariants.{ReadFault, BadHead, LengthRequired, BodyTooLong, CutBody, NoMemory}
use Rattle.keep_wire.specs.Messages.{Grammar, IsCutHead}
use Rattle.keep_wire.specs.Looks.{IsOpen, IsLooked, IsEnded, IsFound, SameBytes, IsReadMore, IsFilled}

pub ended-from_looked : {H M : Type 0} (g : Grammar H) (make : H → List ℕ → M) (bytes : List ℕ) (e : WireError) → IsLooked g make bytes (Err e) → IsEnded g make bytes (Err e)
ended-from_looked g make bytes ReadFault x = absurd x
ended-from_looked g make bytes BadHead x = x
ended-from_looked g make bytes LengthRequired x = x
ended-from_looked g make bytes (BodyTooLong n) x = x
ended-from_looked g make bytes CutBody x = absurd x
ended-from_looked g make bytes NoMemory x = tt

pub cut-from_open : {H : Type 0} (g : Grammar H) (bytes : List ℕ) → 0 < length bytes → length bytes ≤ 65536 → IsOpen g bytes → IsCutHead g bytes
cut-from_open g bytes some short x = record { some = some; short = short; none = x.none; few = x.few; goes_on = x.goes_on }

pub found-from_looked : {H M : Type 0} (g : Grammar H) (make : H → List ℕ → M) (bytes : List ℕ) (left : Option (List ℕ)) (e : WireError) → IsLooked g make bytes (Err e) → IsFound g make bytes left (Err e)
found-from_looked g make bytes left ReadFault x = absurd x
found-from_looked g make bytes left BadHead x = x
found-from_looked g make bytes left LengthRequired x = x
found-from_looked g make bytes left (BodyTooLong n) x = x
found-from_looked g make bytes left CutBody x = absurd x
found-from_looked g make bytes left NoMemory x = tt

pub found-from_ended : {H M : Type 0} (g : Grammar H) (make : H → List ℕ → M) (bytes : List ℕ) (left : Option (List ℕ)) (r : Result (Option (Begun M)) WireError) → IsAtEnd left → IsEnded g make bytes r → IsFound g make bytes left r
found-from_ended g make bytes left (Ok (Some b)) end x = x
found-from_ended g make bytes left (Ok None) end x = (x, end)
found-from_ended g make bytes left (Err ReadFault) end x = tt
found-from_ended g make bytes left (Err BadHead) end x = x
found-from_ended g make bytes left (Err LengthRequired) end x = x
found-from_ended g make bytes left (Err (BodyTooLong n)) end x = x
found-from_ended g make bytes left (Err CutBody) end x = (x, end)
found-from_ended g make bytes left (Err NoMemory) end x = tt

pub found-from_stop : {H M : Type 0} (g : Grammar H) (make : H → List ℕ → M) (most : ℕ) (old bytes : List ℕ) (a left : Option (List ℕ)) (e : WireError) → IsReadMore most old a bytes left (Err e) → IsFound g make bytes left (Err e)
found-from_stop g make most old bytes a left ReadFault s = tt
found-from_stop g make most old bytes a left BadHead s = absurd s
found-from_stop g make most old bytes a left LengthRequired s = absurd s
found-from_stop g make most old bytes a left (BodyTooLong n) s = absurd s
found-from_stop g make most old bytes a left CutBody s = absurd s
found-from_stop g make most old bytes a left NoMemory s = tt

pub same-at_err : (T : Type 0) (e : WireError) (old new : List ℕ) (a b : Option (List ℕ)) → Keeps (prepend_known old a) (prepend_known new b) → SameBytes {T = T} (Err e) old a new b
same-at_err T ReadFault old new a b k = k
same-at_err T BadHead old new a b k = k
same-at_err T LengthRequired old new a b k = k
same-at_err T (BodyTooLong n) old new a b k = k
same-at_err T CutBody old new a b k = k
same-at_err T NoMemory old new a b k = tt

pub filled-from_stop : (T : Type 0) (n most : ℕ) (old bytes : List ℕ) (a left : Option (List ℕ)) (e : WireError) → IsReadMore most old a bytes left (Err e) → IsFilled {T = T} n bytes left (Err e)
filled-from_stop T n most old bytes a left ReadFault s = tt
filled-from_stop T n most old bytes a left BadHead s = absurd s
filled-from_stop T n most old bytes a left LengthRequired s = absurd s
filled-from_stop T n most old bytes a left (BodyTooLong m) s = absurd s
filled-from_stop T n most old bytes a left CutBody s = absurd s
filled-from_stop T n most old bytes a left NoMemory s = tt

-- the bytes stay over a read that stopped
pub same-from_stop : (T : Type 0) (most : ℕ) (first old bytes : List ℕ) (z a left : Option (List ℕ)) (e : WireError) → Keeps (prepend_known first z) (prepend_known old a) → IsReadMore most old a bytes left (Err e) → SameBytes {T = T} (Err e) first z bytes left
same-from_stop T most first old bytes z a left ReadFault k s = Keeps-trans (prepend_known first z) (prepend_known old a) (prepend_known bytes left) k s
same-from_stop T most first old bytes z a left BadHead k s = absurd s
same-from_stop T most first old bytes z a left LengthRequired k s = absurd s
same-from_stop T most first old bytes z a left (BodyTooLong n) k s = absurd s
same-from_stop T most first old bytes z a left CutBody k s = absurd s
same-from_stop T most first old bytes z a left NoMemory k s = tt
