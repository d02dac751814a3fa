use Rattle.std.proofs.Common.{length, refl, sym, subst, ◌∙◌, ap, inl, inr}
use Rattle.keep_history.specs.declared.task.TaskState.TheVariants as S
use Rattle.keep_history.specs.Names.{at_name, with_name}
use Rattle.keep_run.specs.Asked.{DoesTurns}
use Rattle.keep_run.specs.Commands.{IsAskingDone, IsAskingStopped, state_put, done_of}
use Rattle.keep_run.specs.Named.{open_task_of}
use Rattle.keep_run.specs.Scenes.{IsStageOf}
use Rattle.keep_run.specs.Standing.{AreAskable, IsAskable, IsAskableState}
use Rattle.keep_run.proofs.Commands.{asked-part, does-ask, done-put, found-askable, put-askable, refuses-ask, stops-ask}
use Rattle.keep_run.proofs.Facts.{if-all, if-map, on_err}
use Rattle.keep_run.proofs.Names.{looked-up, named, with_name-twice}
use Rattle.keep_run.proofs.stage.ask_named.Goals as goal

pub returns-in_err-duplicate-clause-stopped : goal.returns-in_err-duplicate-clause-stopped
returns-in_err-duplicate-clause-stopped g c =
    on_err {P = IsAskingStopped c.args.turns c.args.config.now c.args.name c.args.reading c.args.stage.now c.args.stage.now} _ (λ scene sc. inl sc.world)

pub returns-in_err-state-clause-stopped : goal.returns-in_err-state-clause-stopped
returns-in_err-state-clause-stopped g c =
    on_err {P = IsAskingStopped c.args.turns c.args.config.now c.args.name c.args.reading c.args.stage.now (record { cluster = c.args.stage.now.cluster; names = c.set_name.new.names })} _ (λ scene sc. inl sc.world)

pub returns-in-None-clause-done : goal.returns-in-None-clause-done
returns-in-None-clause-done g c = λ scene sc.
    let old = c.args.stage.now in
    let found = ap (λ w. open_task_of (at_name w old.names.entries)) (sym c.in_ok-duplicate.ensures) ∙ ap open_task_of (sym c.in_ok-state.ensures.previous) ∙ sym c.open_task_of.ensures in
    refuses-ask c.args.config.now old (record { cluster = old.cluster; names = c.set_name.new.names }) scene sc c.args.turns c.args.name c.args.reading (found ∙ c.in-None.is) refl

pub returns-in-None-clause-sound : goal.returns-in-None-clause-sound
returns-in-None-clause-sound g c =
    let old = c.args.stage.now in
    let n = length c.args.config.now.devices in
    record {
      devices = c.requires.sound.devices;
      askable = subst (AreAskable n) (sym c.in_ok-state.ensures.set) (named (IsAskableState n) _ S.Ended old.names.entries tt c.requires.sound.askable);
    }

pub ask_at-requires-clause-askable : goal.ask_at-requires-clause-askable
ask_at-requires-clause-askable g c =
    let old = c.args.stage.now in
    let n = length c.args.config.now.devices in
    let found = ap (λ w. open_task_of (at_name w old.names.entries)) (sym c.in_ok-duplicate.ensures) ∙ ap open_task_of (sym c.in_ok-state.ensures.previous) ∙ sym c.open_task_of.ensures ∙ c.in-Some.is in
    let here = found-askable n (at_name c.args.name old.names.entries) c.in-Some.open_task (looked-up (IsAskableState n) c.args.name old.names.entries c.requires.sound.askable) found in
    subst (λ k. IsAskable k c.in-Some.open_task) (sym c.requires.sound.devices) here

pub returns-in_err-open_task-in-Some-clause-stopped : goal.returns-in_err-open_task-in-Some-clause-stopped
returns-in_err-open_task-in-Some-clause-stopped g c =
    let old = c.args.stage.now in
    let found = ap (λ w. open_task_of (at_name w old.names.entries)) (sym c.in_ok-duplicate.ensures) ∙ ap open_task_of (sym c.in_ok-state.ensures.previous) ∙ sym c.open_task_of.ensures ∙ c.in-Some.is in
    on_err {P = IsAskingStopped c.args.turns c.args.config.now c.args.name c.args.reading old (record { cluster = c.ask_at.new.cluster; names = c.set_name.new.names })} _ (λ scene sc.
    inr (stops-ask c.args.config.now old (record { cluster = c.ask_at.new.cluster; names = c.set_name.new.names }) scene sc c.args.turns c.args.name c.args.reading _ refl c.in-Some.open_task found c.in_err-open_task-in-Some.ensures.stopped))

pub returns-in_ok-open_task-in-Some-clause-stopped : goal.returns-in_ok-open_task-in-Some-clause-stopped
returns-in_ok-open_task-in-Some-clause-stopped g c =
    let old = c.args.stage.now in
    let found = ap (λ w. open_task_of (at_name w old.names.entries)) (sym c.in_ok-duplicate.ensures) ∙ ap open_task_of (sym c.in_ok-state.ensures.previous) ∙ sym c.open_task_of.ensures ∙ c.in-Some.is in
    on_err {P = IsAskingStopped c.args.turns c.args.config.now c.args.name c.args.reading old (record { cluster = c.ask_at.new.cluster; names = c.put_back.new.names })} _ (λ scene sc.
    inr (asked-part c.args.config.now old (record { cluster = c.ask_at.new.cluster; names = c.put_back.new.names }) scene sc c.args.turns c.args.name c.args.reading _ refl c.in-Some.open_task found c.in_ok-open_task-in-Some.open_task c.in_ok-open_task-in-Some.turned c.args.out.now.items c.ask_at.new.out.items
    (subst (λ w. DoesTurns c.args.turns (record c.args.stage.now.cluster { reading = c.args.reading }) c.ask_at.new.cluster c.in-Some.open_task c.in_ok-open_task-in-Some.open_task w c.args.out.now.items c.ask_at.new.out.items c.in_ok-open_task-in-Some.turned) c.as_slice.ensures c.in_ok-open_task-in-Some.ensures.done)))

pub returns-in_ok-open_task-in-Some-clause-done : goal.returns-in_ok-open_task-in-Some-clause-done
returns-in_ok-open_task-in-Some-clause-done g c =
    let old = c.args.stage.now in
    let config = c.args.config.now in
    let turned = c.in_ok-open_task-in-Some.turned in
    let found = ap (λ w. open_task_of (at_name w old.names.entries)) (sym c.in_ok-duplicate.ensures) ∙ ap open_task_of (sym c.in_ok-state.ensures.previous) ∙ sym c.open_task_of.ensures ∙ c.in-Some.is in
    let first = c.in_ok-state.ensures.set ∙ ap (λ w. with_name w S.Ended old.names.entries) c.in_ok-duplicate.ensures in
    let x = state_put c.in_ok-open_task-in-Some.open_task turned in
    let does = subst (λ w. DoesTurns c.args.turns (record c.args.stage.now.cluster { reading = c.args.reading }) c.ask_at.new.cluster c.in-Some.open_task c.in_ok-open_task-in-Some.open_task w c.args.out.now.items c.ask_at.new.out.items c.in_ok-open_task-in-Some.turned) c.as_slice.ensures c.in_ok-open_task-in-Some.ensures.done in
    if-all (IsAskingDone c.args.turns config c.args.name c.args.reading old (record { cluster = c.ask_at.new.cluster; names = c.put_back.new.names }) c.args.out.now.items c.put_back.new.out.items) c.put_back.result (done_of turned)
    (λ set printed scene sc.
    done-put config old (record { cluster = c.ask_at.new.cluster; names = c.put_back.new.names }) scene sc turned c.args.out.now.items c.put_back.new.out.items _
    (does-ask config old (record { cluster = c.ask_at.new.cluster; names = c.put_back.new.names }) scene sc c.args.turns c.args.name c.args.reading _ refl c.in-Some.open_task found c.in_ok-open_task-in-Some.open_task turned c.args.out.now.items c.ask_at.new.out.items does c.put_back.new.out.items
    (set ∙ ap (with_name c.args.name x) first ∙ with_name-twice c.args.name S.Ended x old.names.entries) printed))
    c.put_back.ensures.set c.put_back.ensures.printed c.put_back.ensures.done

pub returns-in_ok-open_task-in-Some-clause-sound : goal.returns-in_ok-open_task-in-Some-clause-sound
returns-in_ok-open_task-in-Some-clause-sound g c =
    let old = c.args.stage.now in
    let config = c.args.config.now in
    let n = length config.devices in
    let turned = c.in_ok-open_task-in-Some.turned in
    let first = named (IsAskableState n) _ S.Ended old.names.entries tt c.requires.sound.askable in
    let mid = c.requires.sound.devices in
    let put = put-askable n turned c.in_ok-open_task-in-Some.open_task (λ none. subst (λ k. IsAskable k c.in_ok-open_task-in-Some.open_task) mid (c.in_ok-open_task-in-Some.ensures.askable none)) in
    if-map {B = IsStageOf config (record { cluster = c.ask_at.new.cluster; names = c.put_back.new.names })} c.put_back.result
    (λ set. record {
      devices = c.in_ok-open_task-in-Some.ensures.devices ∙ mid;
      askable = subst (AreAskable n) (sym set) (named (IsAskableState n) c.args.name (state_put c.in_ok-open_task-in-Some.open_task turned) c.set_name.new.names.entries put (subst (AreAskable n) (sym c.in_ok-state.ensures.set) first));
    }) c.put_back.ensures.set
