use Rattle.std.proofs.Common.{◌≡◌, ◌≢◌, [], length, refl, sym, ◌∙◌}
use Rattle.std.proofs.lemmas.Bool.{eqb-true, eqb-false}
use Rattle.keep_run.proofs.Lines.{is_empty, not_empty, empty-told, bad-told, memory-told, whole-told, spent-told, refused-told, stopped-told}
use Rattle.keep_run.proofs.run.run_line.Goals as goal

pub returns-then-is_empty-clause-told : goal.returns-then-is_empty-clause-told
returns-then-is_empty-clause-told g c =
    let len : length c.args.text.now ≡ 0 = eqb-true _ _ (sym c.is_empty.ensures ∙ c.if-is_empty.true) in
    empty-told c.args.config.now c.args.number c.args.text.now c.args.stage.now _ (is_empty _ len)

pub returns-in-Err-NotALine-clause-told : goal.returns-in-Err-NotALine-clause-told
returns-in-Err-NotALine-clause-told g c =
    let some : c.args.text.now ≢ [] = not_empty _ (λ e. eqb-false _ _ (sym c.is_empty.ensures ∙ c.if-is_empty.false) e) in
    let read = rw c.in-Err-NotALine.field-0-is at c.in-Err-NotALine.ensures.command in
    bad-told c.args.config.now c.args.number c.args.text.now c.args.stage.now _ _ refl some read

pub returns-in-Err-NoMemory-clause-told : goal.returns-in-Err-NoMemory-clause-told
returns-in-Err-NoMemory-clause-told g c = memory-told c.args.config.now c.args.number c.args.text.now c.args.stage.now _

pub returns-in-Ok-Whole-clause-told : goal.returns-in-Ok-Whole-clause-told
returns-in-Ok-Whole-clause-told g c =
    let some : c.args.text.now ≢ [] = not_empty _ (λ e. eqb-false _ _ (sym c.is_empty.ensures ∙ c.if-is_empty.false) e) in
    let read = c.in-Ok.ensures.command in
    let done = rw c.in-Ok-Whole.field-0-is at c.in-Ok-Whole.ensures.done in
    whole-told c.args.config.now c.args.number c.args.text.now c.args.stage.now c.do_command.new.stage c.in-Ok.command some read _ _ _ _ _ _ c.new-out.ensures.items c.as_slice.ensures.value done c.write_text.ensures.told

pub returns-in-Ok-Spent-clause-told : goal.returns-in-Ok-Spent-clause-told
returns-in-Ok-Spent-clause-told g c =
    let some : c.args.text.now ≢ [] = not_empty _ (λ e. eqb-false _ _ (sym c.is_empty.ensures ∙ c.if-is_empty.false) e) in
    let read = c.in-Ok.ensures.command in
    let done = rw c.in-Ok-Spent.field-0-is at c.in-Ok-Spent.ensures.done in
    spent-told c.args.config.now c.args.number c.args.text.now c.args.stage.now c.do_command.new.stage c.in-Ok.command some read _ _ _ _ _ _ c.new-out.ensures.items c.as_slice-in-Ok-Spent.ensures.value done c.write_text-in-Ok-Spent.ensures.told

pub returns-in-Ok-Refused-clause-told : goal.returns-in-Ok-Refused-clause-told
returns-in-Ok-Refused-clause-told g c =
    let some : c.args.text.now ≢ [] = not_empty _ (λ e. eqb-false _ _ (sym c.is_empty.ensures ∙ c.if-is_empty.false) e) in
    let read = c.in-Ok.ensures.command in
    let done = rw c.in-Ok-Refused.field-0-is at c.in-Ok-Refused.ensures.done in
    refused-told c.args.config.now c.args.number c.args.text.now c.args.stage.now c.do_command.new.stage c.in-Ok.command some read _ _ [] [] refl done

pub returns-clause-told : goal.returns-clause-told
returns-clause-told g c =
    let some : c.args.text.now ≢ [] = not_empty _ (λ e. eqb-false _ _ (sym c.is_empty.ensures ∙ c.if-is_empty.false) e) in
    let read = c.in-Ok.ensures.command in
    stopped-told c.args.config.now c.args.number c.args.text.now c.args.stage.now c.do_command.new.stage c.in-Ok.command some read _ c.in-Err.ensures.stopped
