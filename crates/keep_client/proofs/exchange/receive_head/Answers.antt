use Rattle.std.proofs.Common.{Ok, ◌≡◌, length, arith, subst, ap, rules}
use Rattle.keep_wire.specs.Replies.{IsBeginning, IsBroken, IsHeadOf}
use Rattle.keep_wire.specs.declared.beginning.Beginning.TheVariants as beginning
use Rattle.keep_client.specs.Steps.{HasMore, HasEnded, HasFailed}
use Rattle.keep_client.proofs.Told.{reading-on, needed-on, head_ends, head_fails, head_done, head_broken}
use Rattle.keep_client.proofs.exchange.receive_head.Goals as goal

pub returns-in-Ok-Ended-clause-heard : goal.returns-in-Ok-Ended-clause-heard
returns-in-Ok-Ended-clause-heard g c =
    let read : HasEnded c.loop-bytes.bytes.items c.read_more.new.bytes.items (g.L.Link.told c.loop-bytes.link) (g.L.Link.told c.read_more.new.link) = rw c.in-Ok-Ended.field-0-is at c.in-Ok-Ended.ensures.read in
    head_ends _ _ _ _ _ c.loop-bytes.invariant.told c.loop-bytes.invariant.needed c.loop-bytes.invariant.before read

pub returns-in-Ok-Failed-clause-heard : goal.returns-in-Ok-Failed-clause-heard
returns-in-Ok-Failed-clause-heard g c =
    let read : HasFailed c.loop-bytes.bytes.items c.read_more.new.bytes.items (g.L.Link.told c.loop-bytes.link) (g.L.Link.told c.read_more.new.link) = rw c.in-Ok-Failed.field-0-is at c.in-Ok-Failed.ensures.read in
    head_fails _ _ _ _ _ c.loop-bytes.invariant.told c.loop-bytes.invariant.needed c.loop-bytes.invariant.before read

pub loop-bytes-preserved : goal.loop-bytes-preserved
loop-bytes-preserved g c =
    let one : length c.loop-bytes.byte ≡ 1 = search rules in
    let read : HasMore (length c.loop-bytes.byte) c.loop-bytes.bytes.items c.read_more.new.bytes.items (g.L.Link.told c.loop-bytes.link) (g.L.Link.told c.read_more.new.link) = rw c.in-Ok-More.field-0-is at c.in-Ok-More.ensures.read in
    let more : HasMore 1 c.loop-bytes.bytes.items c.read_more.new.bytes.items (g.L.Link.told c.loop-bytes.link) (g.L.Link.told c.read_more.new.link) =
    subst (λ n. HasMore n c.loop-bytes.bytes.items c.read_more.new.bytes.items (g.L.Link.told c.loop-bytes.link) (g.L.Link.told c.read_more.new.link)) one read in
    let seen : IsBeginning c.read_more.new.bytes.items beginning.Open = rw c.in-Open.is at (rw c.deref.ensures.value at c.in_ok-response_beginning.ensures) in
    record {
      told = reading-on _ _ _ _ _ _ c.loop-bytes.invariant.told more;
      standing = c.in-Ok-More.ensures.open (ap Ok c.in-Ok-More.field-0-is);
      needed = needed-on _ _ _ _ c.loop-bytes.invariant.needed c.loop-bytes.invariant.before more;
      before = seen;
      never_falls = omega (arith, c.in-Ok-More.ensures.never_falls, c.loop-bytes.invariant.never_falls);
    }

pub returns-in-Broken-clause-heard : goal.returns-in-Broken-clause-heard
returns-in-Broken-clause-heard g c =
    let one : length c.loop-bytes.byte ≡ 1 = search rules in
    let read : HasMore (length c.loop-bytes.byte) c.loop-bytes.bytes.items c.read_more.new.bytes.items (g.L.Link.told c.loop-bytes.link) (g.L.Link.told c.read_more.new.link) = rw c.in-Ok-More.field-0-is at c.in-Ok-More.ensures.read in
    let more : HasMore 1 c.loop-bytes.bytes.items c.read_more.new.bytes.items (g.L.Link.told c.loop-bytes.link) (g.L.Link.told c.read_more.new.link) =
    subst (λ n. HasMore n c.loop-bytes.bytes.items c.read_more.new.bytes.items (g.L.Link.told c.loop-bytes.link) (g.L.Link.told c.read_more.new.link)) one read in
    let seen : IsBroken c.read_more.new.bytes.items = rw c.in-Broken.is at (rw c.deref.ensures.value at c.in_ok-response_beginning.ensures) in
    head_broken _ _ _ _ _ c.loop-bytes.invariant.told c.loop-bytes.invariant.needed c.loop-bytes.invariant.before more seen

pub returns-in-Head-clause-heard : goal.returns-in-Head-clause-heard
returns-in-Head-clause-heard g c =
    let one : length c.loop-bytes.byte ≡ 1 = search rules in
    let read : HasMore (length c.loop-bytes.byte) c.loop-bytes.bytes.items c.read_more.new.bytes.items (g.L.Link.told c.loop-bytes.link) (g.L.Link.told c.read_more.new.link) = rw c.in-Ok-More.field-0-is at c.in-Ok-More.ensures.read in
    let more : HasMore 1 c.loop-bytes.bytes.items c.read_more.new.bytes.items (g.L.Link.told c.loop-bytes.link) (g.L.Link.told c.read_more.new.link) =
    subst (λ n. HasMore n c.loop-bytes.bytes.items c.read_more.new.bytes.items (g.L.Link.told c.loop-bytes.link) (g.L.Link.told c.read_more.new.link)) one read in
    let seen : IsHeadOf c.read_more.new.bytes.items c.in-Head.status c.in-Head.head c.in-Head.body = rw c.in-Head.is at (rw c.deref.ensures.value at c.in_ok-response_beginning.ensures) in
    head_done _ _ _ _ _ _ _ _ c.loop-bytes.invariant.told c.loop-bytes.invariant.needed c.loop-bytes.invariant.before more seen
