use Rattle.std.proofs.Common.{refl, ◌∙◌, ap, arith, Ok, Err}
use Rattle.keep_event.specs.declared.port.PortError.TheVariants as F
use Rattle.std.specs.Prelude.{is_some}
use Rattle.keep_api.proofs.Asked.{asking-start, asking-more, asking-ended, asking-stopped, asking-out, step-faults, step-spent, step-stores, step-devices, step-drawn, error_in}
use Rattle.keep_api.proofs.asking.finish.Goals as goal

pub loop-init : goal.loop-init
loop-init g c = record {
  open_still = c.requires.open;
  askable = c.requires.askable;
  asking = λ next there. asking-start _ next _ _ there;
  faults = omega arith;
  spents = omega arith;
  store_faults = λ device. omega arith;
  devices = refl;
}

pub loop-preserved : goal.loop-preserved
loop-preserved g c =
    let inv = c.loop.invariant in
    let step = c.in-Ok.ensures in
    let sure = g.T.Steps.sure c.loop.left in
    let faults = step-faults sure _ _ _ _ (Ok c.in-Ok.step) step.asked in
    let spents = step-spent sure _ _ _ _ (Ok c.in-Ok.step) step.asked in
    let stores = step-stores sure _ _ _ _ (Ok c.in-Ok.step) step.asked in
    record {
      open_still = step.ended ∙ ap is_some c.in-None.is;
      askable = step.may_ask;
      asking = λ next there.
          let a = inv.asking next there in
          asking-more _ next _ _ _ _ a _ (step.named next _ a.stands_there) sure _ c.in-Ok.step step.asked (rw c.in-None.is at (step.taken next _ a.stands_there));
      faults = omega (arith, faults, inv.faults);
      spents = omega (arith, spents, inv.spents);
      store_faults = λ device. omega (arith, stores device, inv.store_faults device);
      devices = step-devices sure _ _ _ _ (Ok c.in-Ok.step) step.asked ∙ inv.devices;
    }

pub returns-in-Some-clause-finished : goal.returns-in-Some-clause-finished
returns-in-Some-clause-finished g c = λ next there.
    let a = c.loop.invariant.asking next there in
    let step = c.in-Ok.ensures in
    asking-ended _ next _ _ _ _ a _ (step.named next _ a.stands_there) (g.T.Steps.sure c.loop.left) c.in-Ok.step c.in-Some.outcome step.asked (rw c.in-Some.is at (step.taken next _ a.stands_there))

pub returns-in-Err-clause-finished : goal.returns-in-Err-clause-finished
returns-in-Err-clause-finished g c = λ next there.
    let a = c.loop.invariant.asking next there in
    let step = c.in-Err.ensures in
    asking-stopped _ next _ _ _ _ a _ (step.named next _ a.stands_there) (g.T.Steps.sure c.loop.left) c.in-Err.error step.asked

pub returns-clause-finished : goal.returns-clause-finished
returns-clause-finished g c = λ next there. asking-out _ next _ _ _ F.NoMemory (c.loop.invariant.asking next there)

pub returns-in-Err-clause-drawn : goal.returns-in-Err-clause-drawn
returns-in-Err-clause-drawn g c = λ drawn is. step-drawn (g.T.Steps.sure c.loop.left) _ _ _ _ (Err c.in-Err.error) c.in-Err.ensures.asked drawn (ap Err (ap error_in is))
