use Rattle.std.proofs.Common.{◌≡◌, ◌≤◌, ◌-◌, length}
use Rattle.keep_client.specs.declared.link.Standing.TheVariants as standing
use Rattle.keep_client.proofs.Told.{IsReadingBody}
use Rattle.keep_client.proofs.exchange.receive_body.Given as goal

abbrev pub invariant-loop-piece : goal.invariant-loop-piece
invariant-loop-piece g l = record {
  told : IsReadingBody l.body.items (g.L.Link.told l.fn.link) (g.L.Link.told l.link);
  standing : g.L.Link.standing l.link ≡ standing.Open;
  within : length l.body.items ≤ l.size;
  never_falls : g.L.Link.faults l.fn.link ≤ g.L.Link.faults l.link;
}

abbrev pub decreases-loop-piece : goal.decreases-loop-piece
decreases-loop-piece g l = l.size - length l.body.items
