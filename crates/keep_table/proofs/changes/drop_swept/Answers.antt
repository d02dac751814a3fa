use Rattle.std.proofs.Common.{refl, sym, ◌∙◌, ap, not, filter, nat_eq, arith}
use Rattle.keep_event.specs.Table.{outlasts}
use Rattle.keep_table.specs.Maps.{any_record}
use Rattle.keep_table.proofs.Steps.{keeps-all, keeps-dropped, keeps-passed, keeps-end, next-of-all, fewer, filter-congr, not-not}
use Rattle.keep_table.proofs.Walks.{revision}
use Rattle.keep_table.proofs.changes.drop_swept.Goals as goal

pub loop-row-init : goal.loop-row-init
loop-row-init c = sym (keeps-all revision (λ r. not (outlasts c.args.reading c.args.collections.now r)) 0 0 c.args.records.now (omega arith) c.requires)

pub loop-row-smaller-then-not-outlasts : goal.loop-row-smaller-then-not-outlasts
loop-row-smaller-then-not-outlasts c =
    let found = next-of-all revision any_record (λ r. not (outlasts c.args.reading c.args.collections.now r)) c.loop-row.after c.args.records.now c.loop-row.records _ c.loop-row.invariant c.in-Some.ensures.next in
    let less = fewer revision any_record c.loop-row.after 0 c.args.records.now c.in-Some.row.now c.requires found in omega arith

pub loop-row-smaller : goal.loop-row-smaller
loop-row-smaller c =
    let found = next-of-all revision any_record (λ r. not (outlasts c.args.reading c.args.collections.now r)) c.loop-row.after c.args.records.now c.loop-row.records _ c.loop-row.invariant c.in-Some.ensures.next in
    let less = fewer revision any_record c.loop-row.after 0 c.args.records.now c.in-Some.row.now c.requires found in omega arith

pub loop-row-preserved-then-not-outlasts : goal.loop-row-preserved-then-not-outlasts
loop-row-preserved-then-not-outlasts c =
    let found = next-of-all revision any_record (λ r. not (outlasts c.args.reading c.args.collections.now r)) c.loop-row.after c.args.records.now c.loop-row.records _ c.loop-row.invariant c.in-Some.ensures.next in
    c.drop_one.ensures ∙ ap (λ xs. filter (λ r. not (nat_eq r.revision c.in-Some.row.now.revision)) xs) c.loop-row.invariant
    ∙ keeps-dropped revision any_record (λ r. not (outlasts c.args.reading c.args.collections.now r)) c.loop-row.after 0 c.args.records.now c.in-Some.row.now (λ r t. refl) c.requires (ap not (sym c.outlasts.ensures ∙ c.if-not-outlasts.true)) found

pub loop-row-preserved : goal.loop-row-preserved
loop-row-preserved c =
    let found = next-of-all revision any_record (λ r. not (outlasts c.args.reading c.args.collections.now r)) c.loop-row.after c.args.records.now c.loop-row.records _ c.loop-row.invariant c.in-Some.ensures.next in
    c.loop-row.invariant ∙ keeps-passed revision any_record (λ r. not (outlasts c.args.reading c.args.collections.now r)) c.loop-row.after 0 c.args.records.now c.in-Some.row.now (λ r t. refl) c.requires (ap not (sym c.outlasts.ensures ∙ c.if-not-outlasts.false)) found

pub returns : goal.returns
returns c =
    let found = next-of-all revision any_record (λ r. not (outlasts c.args.reading c.args.collections.now r)) c.loop-row.after c.args.records.now c.loop-row.records _ c.loop-row.invariant c.in_default.ensures.next in
    c.loop-row.invariant ∙ keeps-end revision any_record (λ r. not (outlasts c.args.reading c.args.collections.now r)) c.loop-row.after c.args.records.now (λ r t. refl) found
    ∙ filter-congr (λ r. not (not (outlasts c.args.reading c.args.collections.now r))) (outlasts c.args.reading c.args.collections.now) c.args.records.now (λ r. not-not (outlasts c.args.reading c.args.collections.now r))
