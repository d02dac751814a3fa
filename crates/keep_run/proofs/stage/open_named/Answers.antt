use Rattle.std.proofs.Common.{length, refl, sym, subst, ◌∙◌, ap, ◌++◌, inl}
use Rattle.keep_history.specs.declared.task.Command.TheVariants as C
use Rattle.keep_history.specs.Names.{with_name}
use Rattle.keep_history.specs.Tasks.{opened}
use Rattle.keep_run.specs.Commands.{IsCommandStopped, text_opened}
use Rattle.keep_run.specs.Standing.{AreAskable, IsAskableState}
use Rattle.keep_run.proofs.Commands.{does-open, opened-askable}
use Rattle.keep_run.proofs.Facts.{on_err}
use Rattle.keep_run.proofs.Names.{named}
use Rattle.keep_run.proofs.stage.open_named.Goals as goal

pub returns-in_err-opened-clause-stopped : goal.returns-in_err-opened-clause-stopped
returns-in_err-opened-clause-stopped g c =
    on_err {P = IsCommandStopped c.args.config.now (C.Open c.args.name c.args.reading c.args.opening) c.args.stage.now c.args.stage.now} _ (λ scene sc. inl sc.world)

pub returns-in_err-state-clause-stopped : goal.returns-in_err-state-clause-stopped
returns-in_err-state-clause-stopped g c =
    on_err {P = IsCommandStopped c.args.config.now (C.Open c.args.name c.args.reading c.args.opening) c.args.stage.now c.args.stage.now} _ (λ scene sc. inl sc.world)

pub returns-in_err-replace_state-clause-stopped : goal.returns-in_err-replace_state-clause-stopped
returns-in_err-replace_state-clause-stopped g c =
    on_err {P = IsCommandStopped c.args.config.now (C.Open c.args.name c.args.reading c.args.opening) c.args.stage.now (record { cluster = c.args.stage.now.cluster; names = c.replace_state.new.names })} _ (λ scene sc. inl sc.world)

pub returns-clause-done : goal.returns-clause-done
returns-clause-done g c = λ scene sc.
    let old = c.args.stage.now in
    let set = c.in_ok-replace_state.ensures.set ∙ ap (λ s. with_name c.args.name s old.names.entries) c.in_ok-state.ensures.state in
    let printed = c.in_ok-state.ensures.printed ∙ ap (λ n. c.args.out.now.items ++ text_opened n c.in_ok-opened.opened) c.as_slice.ensures in
    does-open c.args.config.now old (record { cluster = old.cluster; names = c.replace_state.new.names }) scene sc c.args.name c.args.reading c.args.opening c.in_ok-opened.opened _ c.args.out.now.items c.state_opened.new.out.items c.in_ok-opened.ensures.opened c.len-actor.ensures.len refl set printed

pub returns-clause-sound : goal.returns-clause-sound
returns-clause-sound g c =
    let old = c.args.stage.now in
    let n = length c.args.config.now.devices in
    let set = c.in_ok-replace_state.ensures.set ∙ ap (λ s. with_name c.args.name s old.names.entries) c.in_ok-state.ensures.state in
    record {
      devices = c.requires.sound.devices;
      askable = subst (AreAskable n) (sym set) (named (IsAskableState n) c.args.name _ old.names.entries (opened-askable c.args.config.now (opened c.args.config.now c.args.opening c.args.reading) c.in_ok-opened.opened _ c.in_ok-opened.ensures.opened) c.requires.sound.askable);
    }
