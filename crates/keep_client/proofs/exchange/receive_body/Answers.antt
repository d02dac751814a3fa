use Rattle.std.proofs.Common.{Ok, ◌≡◌, ◌≤◌, length, take, arith, ap}
use Rattle.std.proofs.lemmas.List.{length-take}
use Rattle.keep_client.specs.Steps.{HasEnded, HasFailed}
use Rattle.keep_client.proofs.Told.{body-on, longer, body_ends, body_fails, body-done}
use Rattle.keep_client.proofs.exchange.receive_body.Goals as goal

pub loop-piece-preserved : goal.loop-piece-preserved
loop-piece-preserved g c =
    let more = rw c.in-Ok-More.field-0-is at c.in-Ok-More.ensures.read in
    let room : length (take c.piece_size-most.result c.loop-piece.piece) ≤ c.piece_size-most.result = omega (arith, length-take c.piece_size-most.result c.loop-piece.piece) in
    record {
      told = body-on _ _ _ _ _ _ c.loop-piece.invariant.told more;
      standing = c.in-Ok-More.ensures.open (ap Ok c.in-Ok-More.field-0-is);
      within = omega (arith, (longer _ _ _ _ _ more).1, room, c.piece_size-most.ensures.within, c.len-in-loop-piece.ensures);
      never_falls = omega (arith, c.in-Ok-More.ensures.never_falls, c.loop-piece.invariant.never_falls);
    }

pub returns-in-Ok-Ended-clause-said : goal.returns-in-Ok-Ended-clause-said
returns-in-Ok-Ended-clause-said g c =
    let read : HasEnded c.loop-piece.body.items c.read_more.new.bytes.items (g.L.Link.told c.loop-piece.link) (g.L.Link.told c.read_more.new.link) = rw c.in-Ok-Ended.field-0-is at c.in-Ok-Ended.ensures.read in
    body_ends _ _ _ _ _ _ _ (omega (arith, c.loop-piece-test.true, c.len.ensures)) c.loop-piece.invariant.told read

pub returns-in-Ok-Failed-clause-said : goal.returns-in-Ok-Failed-clause-said
returns-in-Ok-Failed-clause-said g c =
    let read : HasFailed c.loop-piece.body.items c.read_more.new.bytes.items (g.L.Link.told c.loop-piece.link) (g.L.Link.told c.read_more.new.link) = rw c.in-Ok-Failed.field-0-is at c.in-Ok-Failed.ensures.read in
    body_fails _ _ _ _ _ _ _ (omega (arith, c.loop-piece-test.true, c.len.ensures)) c.loop-piece.invariant.told read

pub returns-clause-said : goal.returns-clause-said
returns-clause-said g c =
    let all : length c.loop-piece.body.items ≡ c.args.size = omega (arith, c.loop-piece-test.false, c.len.ensures, c.loop-piece.invariant.within) in
    let done = body-done c.args.status c.args.size c.loop-piece.body.items _ _ all c.loop-piece.invariant.told in
    rw c.of.ensures done
