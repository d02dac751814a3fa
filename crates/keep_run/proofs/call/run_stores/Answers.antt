use Rattle.std.proofs.Common.{◌≡◌, length, Some, refl, sym, ◌∙◌, ap, subst, arith}
use Rattle.std.proofs.KnownBytes.{Keeps-refl}
use Rattle.keep_base.specs.Lines.{lines_taken}
use Rattle.keep_cluster.specs.Cluster.{View, world_of}
use Rattle.keep_event.specs.World.{new_world}
use Rattle.keep_run.specs.Stores.{AreGiven, told_of}
use Rattle.keep_run.proofs.Inputs.{begun-told, devices-many, given-many, known-devices, others-same, ran-lines, ran-refused, same-many, start-world}
use Rattle.keep_run.proofs.call.run_stores.Goals as goal

pub returns-in-Err-clause-told : goal.returns-in-Err-clause-told
returns-in-Err-clause-told g c = λ whole bytes starts left begun tell.
    let told = told_of g.S.Store.held g.S.Store.noted g.S.Store.faults in
    ran-refused told c.args.config.now whole bytes starts (lines_taken c.args.lines.now) c.args.stores.now.items (begun-told told c.args.stores.now.items _ whole bytes _ _ c.args.stores.now.ok.0 begun) tell
    c.open_all.new.stores.items c.in-Err.status _ _ _ c.in-Err.ensures.same c.in-Err.ensures.refused (Keeps-refl _)

pub returns-in-Err-clause-len : goal.returns-in-Err-clause-len
returns-in-Err-clause-len g c =
    let told = told_of g.S.Store.held g.S.Store.noted g.S.Store.faults in
    let n = same-many told c.args.stores.now.items c.open_all.new.stores.items c.in-Err.ensures.same in
    omega (arith, n, c.args.stores.now.ok.0, c.open_all.new.stores.ok.0)

pub give_back-requires : goal.give_back-requires
give_back-requires g c =
    let many = devices-many c.run_lines-status.new.stage.cluster.config c.into_volumes.result.items c.into_volumes.ensures.rules in
    let before = devices-many c.args.config.now c.in-Ok.volumes.items c.in-Ok.ensures.devices in
    let config = ap (λ (v : View). length v.config.devices) c.new.ensures in
    omega (arith, many, before, config, c.run_lines-status.ensures.devices, c.into_volumes.result.ok.0, c.in-Ok.volumes.ok.0, c.in-Ok.ensures.room)

pub returns-clause-told : goal.returns-clause-told
returns-clause-told g c = λ whole bytes starts left begun tell.
    let told = told_of g.S.Store.held g.S.Store.noted g.S.Store.faults in
    let old = c.args.stores.now.items in
    let v = c.run_lines-status.new.stage.cluster in
    let opened = c.in-Ok.ensures.opened in
    let begun' = begun-told told old _ whole bytes _ _ c.args.stores.now.ok.0 begun in
    let states = start-world told c.args.config.now whole bytes starts (lines_taken c.args.lines.now) old begun' tell c.open_all.new.stores.items c.in-Ok.volumes.items opened in
    let world : world_of c.new.result ≡ Some (new_world c.args.config.now) = rw (c.new.ensures, states) refl in
    let ran = c.run_lines-status.ensures.told bytes left world in
    let ran' = rw (c.requires.first, c.new.ensures) at ran in
    let many : length v.devices ≡ length c.args.config.now.devices =
    (sym (ap length c.into_volumes.ensures.devices) ∙ devices-many c.run_lines-status.new.stage.cluster.config c.into_volumes.result.items c.into_volumes.ensures.rules) ∙ (c.run_lines-status.ensures.devices ∙ ap (λ (x : View). length x.config.devices) c.new.ensures) in
    let given = subst (λ x. AreGiven told x c.open_all.new.stores.items c.give_back.new.stores.items) c.into_volumes.ensures.devices c.give_back.ensures in
    ran-lines told c.args.config.now whole bytes starts (lines_taken c.args.lines.now) old begun' tell c.open_all.new.stores.items c.in-Ok.volumes.items opened c.give_back.new.stores.items v.devices given many
    c.run_lines-status.result _ (world_of v) _ _ (λ w e. known-devices v w e) ran'

pub returns-clause-len : goal.returns-clause-len
returns-clause-len g c =
    let told = told_of g.S.Store.held g.S.Store.noted g.S.Store.faults in
    let many = devices-many c.run_lines-status.new.stage.cluster.config c.into_volumes.result.items c.into_volumes.ensures.rules ∙ (c.run_lines-status.ensures.devices ∙ ap (λ (x : View). length x.config.devices) c.new.ensures) in
    let n = given-many told (length c.args.config.now.devices) c.args.stores.now.items c.open_all.new.stores.items c.give_back.new.stores.items c.in-Ok.volumes.items c.into_volumes.result.items c.in-Ok.ensures.opened c.give_back.ensures many in
    omega (arith, n, c.args.stores.now.ok.0, c.give_back.new.stores.ok.0)

pub returns-clause-others : goal.returns-clause-others
returns-clause-others g c =
    let told = told_of g.S.Store.held g.S.Store.noted g.S.Store.faults in
    let many = devices-many c.run_lines-status.new.stage.cluster.config c.into_volumes.result.items c.into_volumes.ensures.rules ∙ (c.run_lines-status.ensures.devices ∙ ap (λ (x : View). length x.config.devices) c.new.ensures) in
    others-same told (length c.args.config.now.devices) c.args.stores.now.items c.open_all.new.stores.items c.give_back.new.stores.items c.in-Ok.volumes.items c.into_volumes.result.items c.in-Ok.ensures.opened c.give_back.ensures many

pub returns-clause-open : goal.returns-clause-open
returns-clause-open g c = λ device e. absurd (c.run_lines-status.ensures.store device e)
