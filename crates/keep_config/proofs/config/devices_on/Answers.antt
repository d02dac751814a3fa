use Rattle.std.proofs.Common.{◌≡◌, true, false, not, is_ok, sym, ◌∙◌, ap}
use Rattle.std.proofs.Math.ListN.{drop_of_length-le}
use Rattle.keep_config.proofs.Firsts.{is_seen, takes-new, skips-seen, skips-other, devices_with-end, drop-item}
use Rattle.keep_config.proofs.config.devices_on.Goals as goal
use Rattle.keep_config.proofs.config.devices_on.Goals.{then-mount-server+then-not-contains+else-is_err, else-mount-server, else-mount-server-via-then-mount-server+else-not-contains, else-mount-server-via-else-mount-server}

pub loop-mount-preserved : goal.loop-mount-preserved
loop-mount-preserved c =
    let m = c.mount-item.result in
    let at = drop-item c.args.mounts.now c.loop-mount.mount-index m c.loop-mount-test.true c.mount-item.is in
    elim c.if-mount-server.branch [
      | then-mount-server+then-not-contains+else-is_err w ↦
          let new : is_seen c.loop-mount.devices.items m.device ≡ false = rw (← w.deref.ensures.value) (sym w.contains.ensures.value ∙ w.if-not-contains.true) in
          let pushed : is_ok w.push.result ≡ true = w.is_err.ensures.negation ∙ ap not w.if-is_err.false in
          rw (w.devices-is, w.push.ensures.items, pushed) (takes-new _ _ m _ _ _ at w.if-mount-server.true new c.loop-mount.invariant)
      | else-mount-server w ↦
          elim w.else-mount-server.branch [
            | else-mount-server-via-then-mount-server+else-not-contains w' ↦
                let seen : is_seen c.loop-mount.devices.items m.device ≡ true = rw (← w'.deref.ensures.value) (sym w'.contains.ensures.value ∙ w'.if-not-contains.false) in
                rw w.devices-is (skips-seen _ _ m _ _ _ at w'.if-mount-server.true seen c.loop-mount.invariant)
            | else-mount-server-via-else-mount-server w' ↦
                rw w.devices-is (skips-other _ _ m _ _ _ at w'.if-mount-server.false c.loop-mount.invariant)
          ]
    ]

pub returns : goal.returns
returns c = devices_with-end _ _ _ _ (drop_of_length-le c.args.mounts.now c.loop-mount-test.false) c.loop-mount.invariant
