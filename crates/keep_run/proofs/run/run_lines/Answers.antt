use Rattle.std.proofs.Common.{refl, ◌∙◌, ap, arith, Ok, Err}
use Rattle.keep_run.proofs.Runs.{going-start, going-more, ran-done, ran-error, ran-line}
use Rattle.keep_run.proofs.run.run_lines.Goals as goal

pub loop-number-init : goal.loop-number-init
loop-number-init g c = record {
  unfailed = c.requires.unfailed;
  names = rw c.requires.fresh.names (omega arith);
  sound = record { devices = rw c.requires.fresh.config_is refl; askable = rw c.requires.fresh.names tt };
  name = refl;
  devices = refl;
  source_never_falls = omega arith;
  stores_never_fall = λ device. omega arith;
  sink_never_falls = omega arith;
  told = λ bytes left world. going-start _ _ _ bytes _ _ _ c.requires.fresh left world;
}

pub returns-in-Ok-None-clause-told : goal.returns-in-Ok-None-clause-told
returns-in-Ok-None-clause-told g c = λ bytes left world.
    let inv = c.loop-number.invariant in
    let next = rw c.in-Ok-None.field-0-is at c.in-Ok-None.ensures.next_line in
    let end = c.in-Ok-None.ensures.ended (ap Ok c.in-Ok-None.field-0-is) in
    ran-done _ _ _ _ _ _ _ _ _ (inv.told bytes left world) _ _ _ _ _ (next inv.unfailed) end.left_stays end.none_left

pub returns-in-Err-clause-told : goal.returns-in-Err-clause-told
returns-in-Err-clause-told g c = λ bytes left world.
    let inv = c.loop-number.invariant in
    rw c.status_of.ensures (ran-error _ _ _ _ _ _ _ _ _ (inv.told bytes left world) c.in-Err.error _ _ _ _ _ (c.in-Err.ensures.next_line inv.unfailed)
    (λ is. let i = c.in-Err.ensures.interrupted (ap Err is) inv.unfailed in (i.left_stays, i.no_newline)))

pub returns-in-Err-run_line-clause-told : goal.returns-in-Err-run_line-clause-told
returns-in-Err-run_line-clause-told g c = λ bytes left world.
    let inv = c.loop-number.invariant in
    let o = rw c.in-Ok-Some.field-0-is at c.in-Ok-Some.ensures.next_line in
    let n = rw c.in-Ok-Some.field-0-is at c.in-Ok-Some.ensures.number in
    ran-line _ _ _ _ _ _ _ _ _ (inv.told bytes left world) _ _ _ _ _ c.in-Ok-Some.number _ c.in-Err-run_line.status (o inv.unfailed) (n.0 ∙ n.1) c.in-Err-run_line.ensures.stores_never_fall (rw c.text.ensures at c.in-Err-run_line.ensures.told)

pub loop-number-preserved : goal.loop-number-preserved
loop-number-preserved g c =
    let o = rw c.in-Ok-Some.field-0-is at c.in-Ok-Some.ensures.next_line in
    let n = rw c.in-Ok-Some.field-0-is at c.in-Ok-Some.ensures.number in
    let inv = c.loop-number.invariant in
    record {
      unfailed = c.in-Ok-Some.ensures.unfailed.1;
      names = omega (arith, n.1, inv.names, c.in-Ok.ensures.grows);
      sound = c.in-Ok.ensures.sound;
      name = c.in-Ok-Some.ensures.same_reference ∙ inv.name;
      devices = c.in-Ok.ensures.devices ∙ inv.devices;
      source_never_falls = omega (arith, c.in-Ok-Some.ensures.never_falls, inv.source_never_falls);
      stores_never_fall = λ device. omega (arith, c.in-Ok.ensures.stores_never_fall device, inv.stores_never_fall device);
      sink_never_falls = omega (arith, c.in-Ok.ensures.sink_never_falls, inv.sink_never_falls);
      told = λ bytes left world. going-more _ _ _ _ _ _ _ _ _ (inv.told bytes left world) _ _ _ _ _ c.in-Ok-Some.number _ (o inv.unfailed) n.1 c.in-Ok.ensures.stores_never_fall (rw c.text.ensures at c.in-Ok.ensures.told);
    }
