use Rattle.std.proofs.Common.{◌≡◌, length, ◌∙◌, ap, arith}
use Rattle.keep_spec.specs.Config.{Configuration}
use Rattle.keep_run.specs.Stores.{told_of}
use Rattle.keep_run.proofs.OpenedStores.{going-left, going-many, going-more, going-start, refused-given, refused-length, same-all}
use Rattle.keep_run.proofs.stores.open_all.Goals as goal

pub returns-in-Err-clause-same : goal.returns-in-Err-clause-same
returns-in-Err-clause-same g c = same-all (told_of g.S.Store.held g.S.Store.noted g.S.Store.faults) c.args.stores.now.items

pub loop-device-init : goal.loop-device-init
loop-device-init g c =
    let n : c.len-count.result ≡ length c.args.config.now.devices = c.len-count.ensures ∙ ap (λ (x : Configuration). length x.devices) c.config.view_is in
    record {
      volumes_room = omega (arith, n, c.in-Ok.ensures.capacity);
      stores_room = omega (arith, c.args.stores.now.ok.1);
      opening = going-start (told_of g.S.Store.held g.S.Store.noted g.S.Store.faults) c.args.config.now c.args.stores.now.items c.in-Ok.volumes.items c.in-Ok.ensures.items;
    }

pub open_first-requires-clause-room : goal.open_first-requires-clause-room
open_first-requires-clause-room g c =
    let n : c.len-count.result ≡ length c.args.config.now.devices = c.len-count.ensures ∙ ap (λ (x : Configuration). length x.devices) c.config.view_is in
    omega (arith, n, c.loop-device.invariant.volumes_room, c.loop-device.volumes.ok.0, c.loop-device-test.true, going-many (told_of g.S.Store.held g.S.Store.noted g.S.Store.faults) _ _ _ _ _ c.loop-device.invariant.opening)

pub give_back-requires : goal.give_back-requires
give_back-requires g c =
    let told = told_of g.S.Store.held g.S.Store.noted g.S.Store.faults in
    let same = ap length c.in-Err-open_first.ensures.volumes_stay in
    omega (
      arith,
      same,
      c.open_first.new.volumes.ok.0,
      c.open_first.new.stores.ok.0,
      c.args.stores.now.ok.0,
      c.loop-device.invariant.stores_room,
      c.open_first.ensures.store_room,
      going-many told _ _ _ _ _ c.loop-device.invariant.opening,
      going-left told _ _ _ _ _ c.loop-device.invariant.opening,
      refused-length told _ _ _ _ c.in-Err-open_first.ensures.refused,
    )

pub returns-in-Err-open_first-clause-same : goal.returns-in-Err-open_first-clause-same
returns-in-Err-open_first-clause-same g c =
    let told = told_of g.S.Store.held g.S.Store.noted g.S.Store.faults in
    let n : c.len-count.result ≡ length c.args.config.now.devices = c.len-count.ensures ∙ ap (λ (x : Configuration). length x.devices) c.config.view_is in
    (refused-given told c.args.config.now c.loop-device.device _ _ _ _ _ c.open_first.new.volumes.items c.in-Err-open_first.status (omega (arith, n, c.loop-device-test.true))
    c.loop-device.invariant.opening c.in-Err-open_first.ensures.refused c.in-Err-open_first.ensures.volumes_stay c.give_back.ensures).0

pub returns-in-Err-open_first-clause-refused : goal.returns-in-Err-open_first-clause-refused
returns-in-Err-open_first-clause-refused g c =
    let told = told_of g.S.Store.held g.S.Store.noted g.S.Store.faults in
    let n : c.len-count.result ≡ length c.args.config.now.devices = c.len-count.ensures ∙ ap (λ (x : Configuration). length x.devices) c.config.view_is in
    (refused-given told c.args.config.now c.loop-device.device _ _ _ _ _ c.open_first.new.volumes.items c.in-Err-open_first.status (omega (arith, n, c.loop-device-test.true))
    c.loop-device.invariant.opening c.in-Err-open_first.ensures.refused c.in-Err-open_first.ensures.volumes_stay c.give_back.ensures).1

pub returns-in-Err-open_first-clause-others : goal.returns-in-Err-open_first-clause-others
returns-in-Err-open_first-clause-others g c =
    let told = told_of g.S.Store.held g.S.Store.noted g.S.Store.faults in
    let n : c.len-count.result ≡ length c.args.config.now.devices = c.len-count.ensures ∙ ap (λ (x : Configuration). length x.devices) c.config.view_is in
    (refused-given told c.args.config.now c.loop-device.device _ _ _ _ _ c.open_first.new.volumes.items c.in-Err-open_first.status (omega (arith, n, c.loop-device-test.true))
    c.loop-device.invariant.opening c.in-Err-open_first.ensures.refused c.in-Err-open_first.ensures.volumes_stay c.give_back.ensures).2

pub loop-device-preserved : goal.loop-device-preserved
loop-device-preserved g c =
    let told = told_of g.S.Store.held g.S.Store.noted g.S.Store.faults in
    let n : c.len-count.result ≡ length c.args.config.now.devices = c.len-count.ensures ∙ ap (λ (x : Configuration). length x.devices) c.config.view_is in
    record {
      volumes_room = omega (arith, c.loop-device.invariant.volumes_room, c.open_first.ensures.volume_room);
      stores_room = omega (arith, c.loop-device.invariant.stores_room, c.open_first.ensures.store_room);
      opening = going-more told c.args.config.now c.loop-device.device _ _ _ _ _ (omega (arith, n, c.loop-device-test.true)) c.loop-device.invariant.opening c.in-Ok-open_first.ensures.opened;
    }
