use Rattle.std.proofs.Common.{Err, ap, subst}
use Rattle.std.proofs.KnownBytes.{Keeps-refl}
use Rattle.keep_base.specs.Lines.{lines_ahead}
use Rattle.keep_run.specs.Stores.{FirstTell, told_by, told_of}
use Rattle.keep_run.proofs.Inputs.{begun-devices, given-begun, read-error, read-misfit, read-none}
use Rattle.keep_run.proofs.call.run_input.Goals as goal

pub returns-in-Ok-None-clause-told : goal.returns-in-Ok-None-clause-told
returns-in-Ok-None-clause-told g c = λ bytes starts left tell.
    let next = (rw c.in-Ok-None.field-0-is at c.in-Ok-None.ensures.next_line) c.requires.unfailed in
    read-none (told_of g.S.Store.held g.S.Store.noted g.S.Store.faults) bytes _ starts c.args.stores.now.items _ c.args.stores.now.ok.0 tell _ _ (Keeps-refl _) (rw left at next)

pub returns-in-Err-clause-told : goal.returns-in-Err-clause-told
returns-in-Err-clause-told g c = λ bytes starts left tell.
    let next = c.in-Err.ensures.next_line c.requires.unfailed in
    let next' = rw (c.requires.taken, c.requires.number, left) at next in
    rw c.status_of.ensures (read-error (told_of g.S.Store.held g.S.Store.noted g.S.Store.faults) bytes _ starts c.args.stores.now.items _ c.args.stores.now.ok.0 tell c.in-Err.error _ (lines_ahead c.next.new.self) _ _ _ _ (Keeps-refl _) next'
    (λ e. let i = c.in-Err.ensures.interrupted (ap Err e) c.requires.unfailed in (rw left at i.left_stays, i.no_newline)))

pub returns-in-Ok-clause-told : goal.returns-in-Ok-clause-told
returns-in-Ok-clause-told g c = λ bytes starts left tell.
    let told = told_of g.S.Store.held g.S.Store.noted g.S.Store.faults in
    let next = (rw c.in-Ok-Some.field-0-is at c.in-Ok-Some.ensures.next_line) c.requires.unfailed in
    let next' = rw (c.requires.taken, c.requires.number, left) at next in
    let config = rw (c.len.ensures, c.text.ensures) at c.in-Ok.ensures.ok in
    let begun = given-begun _ _ _ c.in-Ok-Some.field-0-0 _ bytes c.in-Ok.config next' config in
    let tell' = subst (λ n. FirstTell n (told_by g.S.Store.held g.S.Store.noted g.S.Store.faults c.args.stores.now.items) starts) (begun-devices _ bytes _ _ _ begun.1.1) tell in
    c.run_stores.ensures.told bytes begun.0 starts begun.1.0 begun.1.1 tell'

pub returns-in-Ok-clause-others : goal.returns-in-Ok-clause-others
returns-in-Ok-clause-others g c = λ bytes left.
    let next = (rw c.in-Ok-Some.field-0-is at c.in-Ok-Some.ensures.next_line) c.requires.unfailed in
    let next' = rw (c.requires.taken, c.requires.number, left) at next in
    let config = rw (c.len.ensures, c.text.ensures) at c.in-Ok.ensures.ok in
    let begun = given-begun _ _ _ c.in-Ok-Some.field-0-0 _ bytes c.in-Ok.config next' config in
    rw (begun-devices _ bytes _ _ _ begun.1.1) c.run_stores.ensures.others

pub returns-in-Err-read_config-clause-told : goal.returns-in-Err-read_config-clause-told
returns-in-Err-read_config-clause-told g c = λ bytes starts left tell.
    let next = (rw c.in-Ok-Some.field-0-is at c.in-Ok-Some.ensures.next_line) c.requires.unfailed in
    let next' = rw (c.requires.taken, c.requires.number, left) at next in
    let refused = rw (c.len.ensures, c.text.ensures) at c.in-Err-read_config.ensures.err in
    read-misfit (told_of g.S.Store.held g.S.Store.noted g.S.Store.faults) bytes _ starts c.args.stores.now.items _ c.args.stores.now.ok.0 tell c.in-Err-read_config.status _ _ _ _ c.in-Ok-Some.field-0-0 _ (Keeps-refl _) next' refused
