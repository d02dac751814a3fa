use Rattle.std.proofs.Common.{◌≡◌, ◌++◌, ◌∷◌, [], not, is_ok, length-append, sym, ◌∙◌, ap, length, arith}
use Rattle.std.proofs.lemmas.Bool.{lt-leb, le-leb, cond-true}
use Rattle.std.proofs.lemmas.List.{take_all}
use Rattle.keep_event.specs.Table.{rows_above, row_of}
use Rattle.keep_table.specs.Maps.{any_record}
use Rattle.keep_table.proofs.Steps.{fewer}
use Rattle.keep_table.proofs.Walks.{revision, rows-next, rows-none, rows-longer, rows-step, rows-all}
use Rattle.keep_table.proofs.changes.rows_after.Goals as goal

pub returns-then-len-limit-clause-last : goal.returns-then-len-limit-clause-last
returns-then-len-limit-clause-last c =
    let longer = rows-longer c.loop-row.rows.items (rows_above c.loop-row.at c.args.records.now) (rows_above c.args.after c.args.records.now) (row_of c.in-Some.row.now) (rows_above c.in-Some.row.now.revision c.args.records.now) c.loop-row.invariant.rows_so_far (rows-next c.loop-row.at c.args.records.now c.in-Some.row.now c.in-Some.ensures.rising (sym c.in-Some.ensures.next)) in
    sym (lt-leb (length (rows_above c.args.after c.args.records.now)) c.args.limit (omega arith))

pub loop-row-smaller : goal.loop-row-smaller
loop-row-smaller c = let less = fewer revision any_record c.loop-row.at 0 c.args.records.now c.in-Some.row.now c.in-Some.ensures.rising (sym c.in-Some.ensures.next) in omega arith

pub loop-row-preserved : goal.loop-row-preserved
loop-row-preserved c =
    let pushed : c.push.new.self.items ≡ c.loop-row.rows.items ++ row_of c.in-Some.row.now ∷ [] = c.push.ensures.items ∙ cond-true (is_ok c.push.result) _ _ (c.is_err.ensures.negation ∙ ap not c.if-is_err.false) ∙ ap (λ x. c.loop-row.rows.items ++ x ∷ []) c.in_ok-next.ensures in
    let longer = ap length pushed in
    let sum = length-append c.loop-row.rows.items (row_of c.in-Some.row.now ∷ []) in
    record {
      rows_so_far = rw pushed (rows-step c.loop-row.rows.items (rows_above c.loop-row.at c.args.records.now) (rows_above c.args.after c.args.records.now) (row_of c.in-Some.row.now) (rows_above c.in-Some.row.now.revision c.args.records.now) c.loop-row.invariant.rows_so_far (rows-next c.loop-row.at c.args.records.now c.in-Some.row.now c.in-Some.ensures.rising (sym c.in-Some.ensures.next)));
      bounded = omega (arith, c.if-len-limit.false, c.len.ensures);
    }

pub returns-clause-rows : goal.returns-clause-rows
returns-clause-rows c =
    let all = rows-all c.loop-row.rows.items (rows_above c.loop-row.at c.args.records.now) (rows_above c.args.after c.args.records.now) c.loop-row.invariant.rows_so_far (rows-none c.loop-row.at c.args.records.now (sym c.in_default.ensures.next)) in
    let short = ap length all in
    rw c.of-2.ensures (all ∙ sym (take_all c.args.limit (rows_above c.args.after c.args.records.now) (omega (arith, c.loop-row.invariant.bounded))))

pub returns-clause-last : goal.returns-clause-last
returns-clause-last c =
    let all = rows-all c.loop-row.rows.items (rows_above c.loop-row.at c.args.records.now) (rows_above c.args.after c.args.records.now) c.loop-row.invariant.rows_so_far (rows-none c.loop-row.at c.args.records.now (sym c.in_default.ensures.next)) in
    let short = ap length all in
    sym (le-leb (length (rows_above c.args.after c.args.records.now)) c.args.limit (omega (arith, c.loop-row.invariant.bounded)))
