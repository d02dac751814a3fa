use Rattle.std.proofs.Common.{arith}
use Rattle.std.proofs.lemmas.List.{take_rest}
use Rattle.keep_base.proofs.Pieces.{Written-more, Written-start}
use Rattle.keep_base.proofs.stream.write_all.Goals as goal

pub loop-rest-init : goal.loop-rest-init
loop-rest-init g c = record { written = Written-start _ _; never_falls = omega arith }

pub loop-rest-preserved : goal.loop-rest-preserved
loop-rest-preserved g c = record {
  written = rw take_rest (Written-more _ _ _ _ _ _ c.loop-rest.invariant.written c.in-Ok.ensures.bound c.in-Ok.ensures.bytes);
  never_falls = omega (arith, c.in-Ok.ensures.cause.never_falls, c.loop-rest.invariant.never_falls);
}
