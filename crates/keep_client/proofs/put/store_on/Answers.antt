use Rattle.std.proofs.Common.{arith, ap, ◌≡◌, length, subst}
use Rattle.std.specs.Prelude.{Ok}
use Rattle.keep_client.proofs.Asked.{IsStoring, storing-start, storing-more, storing-end, put_blames}
use Rattle.keep_client.proofs.put.store_on.Goals as goal

pub loop-server-init : goal.loop-server-init
loop-server-init g c = record {
  storing = storing-start c.args.servers.now c.args.request.now c.args.block.now c.args.copies _ c.new-tally.result (c.new-tally.ensures c.args.block.now);
  closed = λ h. h;
  never_falls = omega arith;
  blames = λ some. absurd (omega (arith, (c.new-tally.ensures c.args.block.now).failed, some));
}

pub loop-server-preserved : goal.loop-server-preserved
loop-server-preserved g c = record {
  storing = storing-more c.args.servers.now c.args.request.now c.loop-server.server-index c.args.block.now c.args.copies _ _ _ c.loop-server.tally c.take.new.self c.in-Ok.said
      c.loop-server-test.true (λ e. omega (arith, c.if-acked-copies.false, c.acked.ensures, e)) c.loop-server.invariant.storing c.in-Ok.ensures.said c.in-Ok-take.ensures;
  closed = λ _. c.in-Ok.ensures.closed;
  never_falls = omega (arith, c.loop-server.invariant.never_falls, c.in-Ok.ensures.never_falls);
  blames = put_blames c.args.servers.now c.args.request.now c.loop-server.server-index c.args.block.now c.args.copies _ _ c.loop-server.tally c.take.new.self c.in-Ok.said _ _ _
      c.loop-server.invariant.storing c.in-Ok-take.ensures c.loop-server.invariant.blames c.loop-server.invariant.never_falls c.in-Ok.ensures.never_falls (λ e. c.in-Ok.ensures.cause (ap Ok e));
}

pub returns-clause-answer : goal.returns-clause-answer
returns-clause-answer g c =
    let all : c.loop-server.server-index ≡ length c.args.servers.now = omega (arith, c.loop-server-test.false, c.loop-server.auto.server-index-end) in
    rw c.into_end.ensures (storing-end c.args.servers.now c.args.request.now c.args.block.now c.args.copies _ _ c.loop-server.tally
    (subst (λ i. IsStoring c.args.servers.now c.args.request.now i c.args.block.now c.args.copies (g.L.Link.told c.args.link.now) (g.L.Link.told c.loop-server.link) c.loop-server.tally) all c.loop-server.invariant.storing))
