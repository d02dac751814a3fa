use Rattle.std.proofs.Common.{arith}
use Rattle.keep_table.proofs.Mentions.{digest-upto, last-counted, last-greatest, none-greatest}
use Rattle.keep_table.proofs.wants.Wants.greatest.Goals as goal

pub range-wanted-requires : goal.range-wanted-requires
range-wanted-requires c = digest-upto c.to_md5-bytes.result 0 255 (omega arith)

pub returns-in-Some-clause-counted : goal.returns-in-Some-clause-counted
returns-in-Some-clause-counted c = λ more.
    let h = c.range-wanted.ensures.in_range tt in
    let entry = h.3 (c.in-Some.field-0-0.now, c.in-Some.field-0-1.now) c.next_back.new.self c.in-Some.ensures.steps in
    rw (← c.to_md5-bytes.ensures, ← c.self.view_is) (last-counted c.to_md5-bytes.result c.in-Some.field-0-0.now c.in-Some.field-0-1.now c.self.inside.counts.entries c.self.invariant entry.0 entry.1)

pub returns-in-Some-clause-greatest : goal.returns-in-Some-clause-greatest
returns-in-Some-clause-greatest c = λ n more.
    let h = c.range-wanted.ensures.in_range tt in
    let entry = h.3 (c.in-Some.field-0-0.now, c.in-Some.field-0-1.now) c.next_back.new.self c.in-Some.ensures.steps in
    last-greatest c.to_md5-bytes.result n c.in-Some.field-0-0.now c.self.inside.counts.entries c.self.invariant (rw (← c.to_md5-bytes.ensures, ← c.self.view_is) at more) entry.0
    (h.4 (c.in-Some.field-0-0.now, c.in-Some.field-0-1.now) c.next_back.new.self c.in-Some.ensures.steps)

pub returns-in-None-clause-greatest : goal.returns-in-None-clause-greatest
returns-in-None-clause-greatest c = λ n more.
    let h = c.range-wanted.ensures.in_range tt in
    absurd (none-greatest c.to_md5-bytes.result n c.self.inside.counts.entries c.self.invariant (rw (← c.to_md5-bytes.ensures, ← c.self.view_is) at more) (h.5 c.in-None.ensures.steps.0))
