use Rattle.std.proofs.Common.{sym, subst, ◌≤◌}
use Rattle.keep_volume.specs.Index.{total}
use Rattle.keep_volume.proofs.Sums.{size-le, size-found}
use Rattle.keep_volume.proofs.index.Index.size_at.Goals as goal

pub returns-in-Some-clause-part : goal.returns-in-Some-clause-part
returns-in-Some-clause-part c = subst (λ v. v ≤ total c.args.self.now.entries) (size-found c.args.name.now c.args.self.now.entries c.in-Some.sized (sym c.in-Some.ensures)) (size-le c.args.name.now c.args.self.now.entries)
