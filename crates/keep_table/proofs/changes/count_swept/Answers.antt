use Rattle.std.proofs.Common.{◌+◌, refl, sym, ◌∙◌, ap, length, arith}
use Rattle.std.proofs.lemmas.List.Sums.{length-filter, count_by-le-length}
use Rattle.keep_event.specs.Table.{is_swept}
use Rattle.keep_table.specs.Maps.{is_next, any_record}
use Rattle.keep_table.proofs.Steps.{fewer}
use Rattle.keep_table.proofs.Walks.{revision, counted, skipped, counted-all}
use Rattle.keep_table.proofs.changes.count_swept.Goals as goal

pub overflow_add-swept : goal.overflow_add-swept
overflow_add-swept c =
    let sum = counted any_record (is_swept c.args.reading c.args.collections.now) c.loop-row.after c.loop-row.swept _ c.args.records.now c.in-Some.row.now (λ r t. refl) c.in-Some.ensures.rising (sym c.in-Some.ensures.next) (sym c.is_swept.ensures ∙ c.if-is_swept.true) c.loop-row.invariant in
    let all = length-filter (is_next (is_swept c.args.reading c.args.collections.now) 0) c.args.records.now in
    let most = count_by-le-length (is_next (is_swept c.args.reading c.args.collections.now) 0) c.args.records.now in
    omega (arith, c.in-Some.ensures.few)

pub loop-row-smaller-then-is_swept : goal.loop-row-smaller-then-is_swept
loop-row-smaller-then-is_swept c = let less = fewer revision any_record c.loop-row.after 0 c.args.records.now c.in-Some.row.now c.in-Some.ensures.rising (sym c.in-Some.ensures.next) in omega arith

pub loop-row-smaller : goal.loop-row-smaller
loop-row-smaller c = let less = fewer revision any_record c.loop-row.after 0 c.args.records.now c.in-Some.row.now c.in-Some.ensures.rising (sym c.in-Some.ensures.next) in omega arith

pub loop-row-preserved-then-is_swept : goal.loop-row-preserved-then-is_swept
loop-row-preserved-then-is_swept c = counted any_record (is_swept c.args.reading c.args.collections.now) c.loop-row.after c.loop-row.swept _ c.args.records.now c.in-Some.row.now (λ r t. refl) c.in-Some.ensures.rising (sym c.in-Some.ensures.next) (sym c.is_swept.ensures ∙ c.if-is_swept.true) c.loop-row.invariant

pub loop-row-preserved : goal.loop-row-preserved
loop-row-preserved c =
    ap (λ xs. c.loop-row.swept + length xs) (sym (skipped any_record (is_swept c.args.reading c.args.collections.now) c.loop-row.after c.args.records.now c.in-Some.row.now (λ r t. refl) c.in-Some.ensures.rising (sym c.in-Some.ensures.next) (sym c.is_swept.ensures ∙ c.if-is_swept.false))) ∙ c.loop-row.invariant

pub returns : goal.returns
returns c = counted-all any_record (is_swept c.args.reading c.args.collections.now) c.loop-row.after c.loop-row.swept c.args.records.now (λ r t. refl) c.in_default.ensures.rising (sym c.in_default.ensures.next) c.loop-row.invariant
