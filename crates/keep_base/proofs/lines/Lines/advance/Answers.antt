use Rattle.std.proofs.Common.{◌≡◌, ◌+◌, Err, ap, refl}
use Rattle.std.proofs.lemmas.List.{drop-drop}
use Rattle.keep_base.specs.declared.lines.LineError.TheVariants as E
use Rattle.keep_base.specs.Ends.{error_of_stop}
use Rattle.keep_base.proofs.Interrupted.{open_at_fault, open_at_memory, stop_of_memory}
use Rattle.keep_base.proofs.NextLine.{next_given, next_stopped, line_refused, input_refused}
use Rattle.keep_base.proofs.lines.Lines.advance.Goals as goal

pub returns-in-Err-clause-next_line : goal.returns-in-Err-clause-next_line
returns-in-Err-clause-next_line g c = rw c.error_of.ensures (next_stopped _ _ _ _ _ _ _ _ _ c.in-Err.stop c.args.self.now.in_range c.in-Err.ensures.bytes c.in-Err.ensures.found)

pub returns-clause-next_line : goal.returns-clause-next_line
returns-clause-next_line g c =
    let found = rw c.in-Ok-Some.field-0-is at c.in-Ok-Some.ensures.found in
    let read = c.find.new.pending.items in
    let start = c.find.new.start in
    rw (← drop-drop c.in-Ok-Some.found.piece start read) (next_given _ _ _ _ _ _ _ _ _ c.in-Ok-Some.ensures.bytes found.0 found.1 refl)

pub returns-in-Err-clause-interrupted : goal.returns-in-Err-clause-interrupted
returns-in-Err-clause-interrupted g c = λ e.
    let named : error_of_stop c.in-Err.stop (c.args.self.now.number + 1) ≡ E.ReadFault = cc in
    let i = open_at_fault _ _ _ _ c.in-Err.stop named c.in-Err.ensures.found in
    record { left_stays = c.in-Err.ensures.bytes; no_newline = i.no_newline; fits_so_far = i.fits_so_far }

pub returns-in-Err-clause-memory : goal.returns-in-Err-clause-memory
returns-in-Err-clause-memory g c = λ e.
    let named : error_of_stop c.in-Err.stop (c.args.self.now.number + 1) ≡ E.NoMemory = cc in
    let i = open_at_memory _ _ _ _ c.in-Err.stop named c.in-Err.ensures.found in
    (record { left_stays = c.in-Err.ensures.bytes; no_newline = i.no_newline; fits_so_far = i.fits_so_far }, c.in-Err.ensures.memory (ap Err (stop_of_memory _ c.in-Err.stop named)))

pub returns-in-Err-clause-line_too_long : goal.returns-in-Err-clause-line_too_long
returns-in-Err-clause-line_too_long g c = λ n e.
    let named : error_of_stop c.in-Err.stop (c.args.self.now.number + 1) ≡ E.LineTooLong n = cc in
    line_refused _ _ n _ _ c.in-Err.stop c.args.self.now.in_range named c.in-Err.ensures.found

pub returns-in-Err-clause-input_too_long : goal.returns-in-Err-clause-input_too_long
returns-in-Err-clause-input_too_long g c = λ e.
    let named : error_of_stop c.in-Err.stop (c.args.self.now.number + 1) ≡ E.InputTooLong = cc in
    input_refused _ _ _ _ c.in-Err.stop c.args.self.now.in_range named c.in-Err.ensures.found
