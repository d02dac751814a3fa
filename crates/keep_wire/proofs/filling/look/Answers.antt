use Rattle.std.proofs.Common.{◌≡◌, ◌≤◌, List, ℕ, length, take, Ok, Err, Some, ap, subst, arith}
use Rattle.std.proofs.lemmas.List.{length-take}
use Rattle.keep_wire.specs.Looks.{IsOpen, IsLooked}
use Rattle.keep_wire.proofs.Longer.{begun-from_front, refused-from_front, long-from_front, open-from_front}
use Rattle.keep_wire.proofs.filling.look.Goals as goal

pub look-requires : goal.look-requires
look-requires g c =
    let same : length c.front.result.now ≡ length (take 65536 c.args.bytes.now) = ap length c.front.ensures in
    omega (arith, same, length-take 65536 c.args.bytes.now)

pub returns-then-bytes-gt-HEAD_MAX : goal.returns-then-bytes-gt-HEAD_MAX
returns-then-bytes-gt-HEAD_MAX g c =
    let looked = rw c.in-Ok-None.field-0-is at c.in-Ok-None.ensures in
    long-from_front g.M.Message.grammar c.args.bytes.now c.if-bytes-gt-HEAD_MAX.true (subst (IsOpen g.M.Message.grammar) c.front.ensures looked.1)

pub returns-in-Ok-Some : goal.returns-in-Ok-Some
returns-in-Ok-Some g c =
    let looked : IsLooked g.M.Message.grammar g.M.Message.make c.front.result.now (Ok (Some c.in-Ok-Some.begun)) = rw c.in-Ok-Some.field-0-is at c.in-Ok-Some.ensures in
    begun-from_front g.M.Message.grammar g.M.Message.make c.args.bytes.now c.in-Ok-Some.begun (subst (λ (v : List ℕ). IsLooked g.M.Message.grammar g.M.Message.make v (Ok (Some c.in-Ok-Some.begun))) c.front.ensures looked)

pub returns-else-bytes-gt-HEAD_MAX : goal.returns-else-bytes-gt-HEAD_MAX
returns-else-bytes-gt-HEAD_MAX g c =
    let looked = rw c.in-Ok-None.field-0-is at c.in-Ok-None.ensures in
    let short : length c.args.bytes.now ≤ 65536 = omega (arith, c.if-bytes-gt-HEAD_MAX.false) in
    (short, open-from_front g.M.Message.grammar c.args.bytes.now short (subst (IsOpen g.M.Message.grammar) c.front.ensures looked.1))

pub returns-in-Err : goal.returns-in-Err
returns-in-Err g c =
    refused-from_front g.M.Message.grammar g.met.M.Message.never_waits_again g.M.Message.make c.args.bytes.now c.in-Err.error (subst (λ (v : List ℕ). IsLooked g.M.Message.grammar g.M.Message.make v (Err c.in-Err.error)) c.front.ensures c.in-Err.ensures)
