use Rattle.std.proofs.Common.{◌≡◌, arith, ◌-◌, ◌^◌}
use Rattle.keep_table.proofs.Triples.{place-from, place-upto, number-from, number-upto, not-less}
use Rattle.keep_table.proofs.places.Places.newest.Goals as goal

pub returns-in-Some-clause-newest : goal.returns-in-Some-clause-newest
returns-in-Some-clause-newest c = λ u v lt lt' there.
    let h = c.range-places.ensures.in_range tt in
    let within = h.3 c.in-Some.place.now c.next_back.new.self c.in-Some.ensures.steps in
    let low = number-from c.args.number c.in-Some.place.now.0 c.in-Some.place.now.1 c.in-Some.place.now.2 within.0.0 in
    let high = number-upto c.args.number c.in-Some.place.now.0 c.in-Some.place.now.1 c.in-Some.place.now.2 within.0.1 in
    let same : c.in-Some.place.now.0 ≡ c.args.number = omega arith in
    let found = rw (← c.self.view_is) at there in
    not-less c.args.number c.in-Some.place.now.0 c.in-Some.place.now.1 c.in-Some.place.now.2 u v same
    (h.4 c.in-Some.place.now c.next_back.new.self c.in-Some.ensures.steps (c.args.number, u, v) (place-from c.args.number u v, place-upto c.args.number u v (2 ^ 64 - 1) (2 ^ 64 - 1) (omega arith) (omega arith)) found)

pub returns-in-None-clause-none : goal.returns-in-None-clause-none
returns-in-None-clause-none c = λ u v lt lt'.
    let h = c.range-places.ensures.in_range tt in
    rw (← c.self.view_is) (h.5 c.in-None.ensures.steps.0 (c.args.number, u, v) (place-from c.args.number u v, place-upto c.args.number u v (2 ^ 64 - 1) (2 ^ 64 - 1) (omega arith) (omega arith)))
