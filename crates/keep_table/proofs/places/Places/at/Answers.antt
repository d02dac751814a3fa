use Rattle.std.proofs.Common.{arith, ◌-◌, ◌^◌}
use Rattle.keep_table.proofs.Triples.{version-from, place-upto}
use Rattle.keep_table.proofs.places.Places.at.Goals as goal

pub returns-in-None-clause-none : goal.returns-in-None-clause-none
returns-in-None-clause-none c = λ v lt.
    let h = c.range-places.ensures.in_range tt in
    rw (← c.self.view_is) (h.5 c.in-None.ensures.steps.0 (c.args.number, c.args.version, v) (version-from c.args.number c.args.version v, place-upto c.args.number c.args.version v c.args.version (2 ^ 64 - 1) (omega arith) (omega arith)))
