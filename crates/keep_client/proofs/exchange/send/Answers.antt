use Rattle.std.proofs.Common.{arith}
use Rattle.std.proofs.lemmas.List.{take_rest}
use Rattle.keep_client.proofs.Told.{is_empty, sending-start, sending-more, sending-all, sending-fails}
use Rattle.keep_client.proofs.exchange.send.Goals as goal

pub loop-rest-init : goal.loop-rest-init
loop-rest-init g c = record { told = sending-start _ _; standing = c.requires; never_falls = omega arith }

pub loop-rest-preserved : goal.loop-rest-preserved
loop-rest-preserved g c = record {
  told = rw take_rest (sending-more _ _ _ _ _ _ c.loop-rest.invariant.told c.in-Ok.ensures.told);
  standing = c.in-Ok.ensures.standing;
  never_falls = omega (arith, c.in-Ok.ensures.cause.never_falls, c.loop-rest.invariant.never_falls);
}

pub returns-in-Err-clause-sent : goal.returns-in-Err-clause-sent
returns-in-Err-clause-sent g c = sending-fails _ _ _ _ _ _ c.loop-rest.invariant.told c.in-Err.ensures.told

pub returns-clause-sent : goal.returns-clause-sent
returns-clause-sent g c = sending-all _ _ _ _ c.loop-rest.invariant.told (is_empty c.loop-rest.rest.now c.loop-rest-test.ensures)
