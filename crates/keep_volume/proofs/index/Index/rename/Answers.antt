use Rattle.std.proofs.Common.{sym, arith}
use Rattle.keep_volume.proofs.Sums.{size-found}
use Rattle.keep_volume.proofs.index.Index.rename.Goals as goal

pub put_in_room-requires-clause-fits : goal.put_in_room-requires-clause-fits
put_in_room-requires-clause-fits c = omega (arith, c.remove.ensures.fits, size-found c.args.from.now c.args.self.now.entries c.in-Some.sized (sym c.in-Some.ensures))
