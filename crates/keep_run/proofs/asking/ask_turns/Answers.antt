use Rattle.std.proofs.Common.{refl, subst, ◌∙◌, arith, ◌≡◌}
use Rattle.keep_run.specs.Asked.{StopsTurns}
use Rattle.keep_run.specs.Standing.{IsAskable}
use Rattle.keep_run.proofs.Facts.{on_err}
use Rattle.keep_run.proofs.Turning.{turning-start, turning-more, turning-out, turning-ended, turning-spent, turning-part}
use Rattle.keep_run.proofs.asking.ask_turns.Goals as goal

pub loop-turn-init : goal.loop-turn-init
loop-turn-init g c = record {
  askable = c.requires.askable;
  devices = refl;
  reading = refl;
  never_fall = λ device. omega arith;
  told = λ config w s told standing. turning-start config c.args.cluster.now w s c.args.name.now c.args.out.now.items c.args.open_task.now told standing;
}

pub loop-turn-preserved : goal.loop-turn-preserved
loop-turn-preserved g c =
    let inv = c.loop-turn.invariant in
    let asked = c.in_ok-ask_once.ensures in
    let done = rw c.in-Asks.is at asked.done in
    let askable = rw c.in-Asks.is at asked.askable in
    record {
      askable = subst (λ n. IsAskable n c.ask_once.new.open_task) inv.devices (askable refl);
      devices = asked.devices ∙ inv.devices;
      reading = asked.reading ∙ inv.reading;
      never_fall = λ device. omega (arith, asked.never_fall device, inv.never_fall device);
      told = λ config w s told standing.
          let t = inv.told config w s told standing in
          turning-more config c.args.cluster.now w s c.args.name.now c.args.out.now.items c.loop-turn.turn c.loop-turn.cluster c.loop-turn.open_task c.loop-turn.out.items t inv.reading c.ask_once.new.cluster asked.never_fall c.ask_once.new.open_task c.ask_once.new.out.items
          (done config t.world t.standing t.world_is t.stands_there);
    }

pub returns-in-Ended-clause-done : goal.returns-in-Ended-clause-done
returns-in-Ended-clause-done g c = λ config w s told standing.
    let inv = c.loop-turn.invariant in
    let asked = c.in_ok-ask_once.ensures in
    let done = rw c.in-Ended.is at asked.done in
    let t = inv.told config w s told standing in
    turning-ended config c.args.cluster.now w s c.args.name.now c.args.out.now.items c.loop-turn.turn c.loop-turn.cluster c.loop-turn.open_task c.loop-turn.out.items t inv.reading c.ask_once.new.cluster asked.never_fall c.args.turns c.in-Ended.outcome c.ask_once.new.open_task c.ask_once.new.out.items c.loop-turn-test.true
    (done config t.world t.standing t.world_is t.stands_there)

pub returns-in-Spent-clause-done : goal.returns-in-Spent-clause-done
returns-in-Spent-clause-done g c = λ config w s told standing.
    let inv = c.loop-turn.invariant in
    let asked = c.in_ok-ask_once.ensures in
    let done = rw c.in-Spent.is at asked.done in
    let t = inv.told config w s told standing in
    turning-spent config c.args.cluster.now w s c.args.name.now c.args.out.now.items c.loop-turn.turn c.loop-turn.cluster c.loop-turn.open_task c.loop-turn.out.items t inv.reading c.ask_once.new.cluster asked.never_fall c.args.turns c.ask_once.new.open_task c.ask_once.new.out.items c.loop-turn-test.true
    (done config t.world t.standing t.world_is t.stands_there)

pub returns-in_err-ask_once-clause-stopped : goal.returns-in_err-ask_once-clause-stopped
returns-in_err-ask_once-clause-stopped g c =
    let inv = c.loop-turn.invariant in
    let asked = c.in_err-ask_once.ensures in
    on_err {P = StopsTurns c.args.turns c.args.cluster.now c.ask_once.new.cluster c.args.open_task.now} _ (λ config w s told standing.
    let t = inv.told config w s told standing in
    turning-part config c.args.cluster.now w s c.args.name.now c.args.out.now.items c.loop-turn.turn c.loop-turn.cluster c.loop-turn.open_task c.loop-turn.out.items t inv.reading c.ask_once.new.cluster asked.never_fall c.args.turns c.loop-turn-test.true
    (asked.stopped config t.world t.standing t.world_is t.stands_there))

pub returns-clause-done : goal.returns-clause-done
returns-clause-done g c = λ config w s told standing.
    let inv = c.loop-turn.invariant in
    let all : c.loop-turn.turn ≡ c.args.turns = omega (arith, c.loop-turn-test.false, c.loop-turn.auto.turn-end) in
    turning-out config c.args.cluster.now w s c.args.name.now c.args.out.now.items c.args.turns c.loop-turn.cluster c.loop-turn.open_task c.loop-turn.out.items (rw all at (inv.told config w s told standing))
