use Rattle.std.proofs.Common.{sym, ◌∙◌, ap}
use Rattle.keep_event.specs.Collections.{signed_row}
use Rattle.keep_tasks.proofs.Rows.{signed-stays}
use Rattle.keep_tasks.proofs.row.signed_row.Goals as goal

pub returns-in_ok-from_slice-in-Err-Refused : goal.returns-in_ok-from_slice-in-Err-Refused
returns-in_ok-from_slice-in-Err-Refused c = λ config ttl secret.
    c.of-in-Err-Refused.ensures ∙ c.in_ok-from_slice-in-Err-Refused.ensures.items
    ∙ sym (ap (λ e. signed_row config c.args.token.now e c.args.text.now) c.in-Some.is
    ∙ signed-stays config c.args.token.now _ c.args.text.now _ (rw c.in-Err-Refused.field-0-is at c.in-Err-Refused.ensures.refusal))
