use Rattle.std.proofs.Common.{refl, sym, ◌∙◌, ap, true, not, filter, nat_eq, length, arith}
use Rattle.std.proofs.lemmas.List.Sums.{length-filter}
use Rattle.std.proofs.lemmas.List.Filters.{length-filter_both}
use Rattle.keep_event.specs.Table.{is_gone}
use Rattle.keep_event.specs.declared.table.Collection.{Collection}
use Rattle.keep_table.proofs.Steps.{keeps-all, keeps-dropped, keeps-passed, keeps-end, next-of-all, fewer}
use Rattle.keep_table.proofs.changes.drop_gone.Goals as goal

pub loop-collection-init : goal.loop-collection-init
loop-collection-init c = sym (keeps-all (λ (x : Collection). x.number) (is_gone c.args.reading) 0 0 c.args.collections.now (omega arith) c.len-before.ensures.rising)

pub loop-collection-smaller-then-is_gone : goal.loop-collection-smaller-then-is_gone
loop-collection-smaller-then-is_gone c =
    let found = next-of-all (λ (x : Collection). x.number) (λ x. true) (is_gone c.args.reading) c.loop-collection.after c.args.collections.now c.loop-collection.collections _ c.loop-collection.invariant c.in-Some.ensures in
    let less = fewer (λ (x : Collection). x.number) (λ x. true) c.loop-collection.after 0 c.args.collections.now c.in-Some.collection c.len-before.ensures.rising found in omega arith

pub loop-collection-smaller : goal.loop-collection-smaller
loop-collection-smaller c =
    let found = next-of-all (λ (x : Collection). x.number) (λ x. true) (is_gone c.args.reading) c.loop-collection.after c.args.collections.now c.loop-collection.collections _ c.loop-collection.invariant c.in-Some.ensures in
    let less = fewer (λ (x : Collection). x.number) (λ x. true) c.loop-collection.after 0 c.args.collections.now c.in-Some.collection c.len-before.ensures.rising found in omega arith

pub loop-collection-preserved-then-is_gone : goal.loop-collection-preserved-then-is_gone
loop-collection-preserved-then-is_gone c =
    let found = next-of-all (λ (x : Collection). x.number) (λ x. true) (is_gone c.args.reading) c.loop-collection.after c.args.collections.now c.loop-collection.collections _ c.loop-collection.invariant c.in-Some.ensures in
    c.drop_one.ensures ∙ ap (λ xs. filter (λ x. not (nat_eq x.number c.in-Some.collection.number)) xs) c.loop-collection.invariant
    ∙ keeps-dropped (λ (x : Collection). x.number) (λ x. true) (is_gone c.args.reading) c.loop-collection.after 0 c.args.collections.now c.in-Some.collection (λ x t. refl) c.len-before.ensures.rising (sym c.is_gone.ensures ∙ c.if-is_gone.true) found

pub loop-collection-preserved : goal.loop-collection-preserved
loop-collection-preserved c =
    let found = next-of-all (λ (x : Collection). x.number) (λ x. true) (is_gone c.args.reading) c.loop-collection.after c.args.collections.now c.loop-collection.collections _ c.loop-collection.invariant c.in-Some.ensures in
    c.loop-collection.invariant ∙ keeps-passed (λ (x : Collection). x.number) (λ x. true) (is_gone c.args.reading) c.loop-collection.after 0 c.args.collections.now c.in-Some.collection (λ x t. refl) c.len-before.ensures.rising (sym c.is_gone.ensures ∙ c.if-is_gone.false) found

pub returns-clause-rest : goal.returns-clause-rest
returns-clause-rest c =
    let found = next-of-all (λ (x : Collection). x.number) (λ x. true) (is_gone c.args.reading) c.loop-collection.after c.args.collections.now c.loop-collection.collections _ c.loop-collection.invariant c.in_default.ensures in
    c.loop-collection.invariant ∙ keeps-end (λ (x : Collection). x.number) (λ x. true) (is_gone c.args.reading) c.loop-collection.after c.args.collections.now (λ x t. refl) found

pub returns-clause-gone : goal.returns-clause-gone
returns-clause-gone c =
    let found = next-of-all (λ (x : Collection). x.number) (λ x. true) (is_gone c.args.reading) c.loop-collection.after c.args.collections.now c.loop-collection.collections _ c.loop-collection.invariant c.in_default.ensures in
    let left = ap length (c.loop-collection.invariant ∙ keeps-end (λ (x : Collection). x.number) (λ x. true) (is_gone c.args.reading) c.loop-collection.after c.args.collections.now (λ x t. refl) found) in
    let both = length-filter_both (is_gone c.args.reading) (λ x. not (is_gone c.args.reading x)) (λ x. refl) c.args.collections.now in
    let gone = length-filter (is_gone c.args.reading) c.args.collections.now in
    let started = c.len-before.ensures.len in
    let ended = c.len.ensures.len in
    omega arith

pub overflow_sub-result : goal.overflow_sub-result
overflow_sub-result c =
    let found = next-of-all (λ (x : Collection). x.number) (λ x. true) (is_gone c.args.reading) c.loop-collection.after c.args.collections.now c.loop-collection.collections _ c.loop-collection.invariant c.in_default.ensures in
    let left = ap length (c.loop-collection.invariant ∙ keeps-end (λ (x : Collection). x.number) (λ x. true) (is_gone c.args.reading) c.loop-collection.after c.args.collections.now (λ x t. refl) found) in
    let both = length-filter_both (is_gone c.args.reading) (λ x. not (is_gone c.args.reading x)) (λ x. refl) c.args.collections.now in
    let gone = length-filter (is_gone c.args.reading) c.args.collections.now in
    let started = c.len-before.ensures.len in
    let ended = c.len.ensures.len in
    omega arith
