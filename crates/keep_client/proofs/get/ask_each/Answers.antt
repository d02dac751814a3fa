use Rattle.std.proofs.Common.{arith, ap}
use Rattle.std.specs.Prelude.{Ok}
use Rattle.keep_client.proofs.Asked.{asking-more, asking-got, blames-more}
use Rattle.keep_client.proofs.get.ask_each.Goals as goal

pub returns-in-Ok-heard-clause-answer : goal.returns-in-Ok-heard-clause-answer
returns-in-Ok-heard-clause-answer g c =
    asking-got c.args.servers.now c.args.request.now c.loop-server.server-index c.args.block.now _ _ _ c.loop-server.misses c.in-Ok.said _ c.loop-server-test.true
    c.loop-server.invariant.asking c.in-Ok.ensures.said c.in-Ok-heard.ensures

pub loop-server-preserved : goal.loop-server-preserved
loop-server-preserved g c = record {
  asking = rw c.count.ensures (asking-more c.args.servers.now c.args.request.now c.loop-server.server-index c.args.block.now _ _ _ c.loop-server.misses c.in-Ok.said c.in-Err-heard.miss
      c.loop-server-test.true c.loop-server.invariant.asking c.in-Ok.ensures.said c.in-Err-heard.ensures);
  closed = λ _. c.in-Ok.ensures.closed;
  never_falls = omega (arith, c.loop-server.invariant.never_falls, c.in-Ok.ensures.never_falls);
  blames = rw c.count.ensures (blames-more c.args.block.now c.loop-server.misses c.in-Ok.said c.in-Err-heard.miss _ _ _ c.loop-server.invariant.blames
      c.loop-server.invariant.never_falls c.in-Ok.ensures.never_falls (λ e. c.in-Ok.ensures.cause (ap Ok e)) c.in-Err-heard.ensures);
}
