use Rattle.std.proofs.Common.{refl, sym, subst, ap, ◌∙◌, arith, Ok, Some, Err}
use Rattle.keep_wire.specs.Requests.{IsNext}
use Rattle.keep_wire.specs.declared.message.Request.{Request}
use Rattle.keep_wire.specs.Told.{requests_left}
use Rattle.keep_api.specs.Sessions.{IsReadAt, seen, serving, told}
use Rattle.keep_api.proofs.Ends.{end-budget, end-clean, end-closed, end-refused, end-stopped, stopped-read}
use Rattle.keep_api.proofs.Going.{going-start, going-more}
use Rattle.keep_api.proofs.Refused.{IsOther, refused-other, refused-read}
use Rattle.keep_api.proofs.connection.serve.Goals as goal

pub loop-number-init : goal.loop-number-init
loop-number-init g c = record {
  unfailed = c.requires.unfailed;
  name = refl;
  devices = refl;
  source_never_falls = omega arith;
  sink_never_falls = omega arith;
  clock_never_falls = omega arith;
  port_never_falls = omega arith;
  spent_never_falls = omega arith;
  stores_never_fall = λ device. omega arith;
  going = going-start _ _ _;
}

pub loop-number-preserved : goal.loop-number-preserved
loop-number-preserved g c =
    let inv = c.loop-number.invariant in
    let read = c.in-Ok-Some.ensures in
    let next = (rw c.in-Ok-Some.field-0-is at read.next_message) inv.unfailed in
    let one = c.in-Ok.ensures in
    let x = one.exchanged in
    record {
      unfailed = read.no_error.1;
      name = read.same_reference ∙ inv.name;
      devices = one.devices ∙ inv.devices;
      source_never_falls = omega (arith, read.never_falls, inv.source_never_falls);
      sink_never_falls = omega (arith, one.sink_never_falls, inv.sink_never_falls);
      clock_never_falls = omega (arith, one.clock_never_falls, inv.clock_never_falls);
      port_never_falls = omega (arith, one.port_never_falls, inv.port_never_falls);
      spent_never_falls = omega (arith, one.spent_never_falls, inv.spent_never_falls);
      stores_never_fall = λ device. omega (arith, one.stores_never_fall device, inv.stores_never_fall device);
      going = going-more _ _ _ _ (requests_left c.next.new.self) _ _ (told g.C.Clock.reading g.W.Sink.taken (seen g.P.Port.told g.P.Port.world g.P.Port.stamp c.serve_one.new.port) c.serve_one.new.clock c.serve_one.new.sink) inv.going x.0 x.1.1.0 x.1.1.1.0 x.1.1.1.1 (subst (λ v. IsNext (requests_left c.loop-number.requests) (Ok (Some v)) (requests_left c.next.new.self)) (sym x.1.0) next) (ap (λ (v : Request). v.close) x.1.0 ∙ c.if-closes.false);
    }

pub returns-in-Ok-None-clause-session : goal.returns-in-Ok-None-clause-session
returns-in-Ok-None-clause-session g c =
    let inv = c.loop-number.invariant in
    let next = (rw c.in-Ok-None.field-0-is at c.in-Ok-None.ensures.next_message) inv.unfailed in
    end-clean _ _ _ _ _ _ _ inv.going (requests_left c.next.new.self) c.loop-number-test.true next

pub returns-in-Err-clause-session : goal.returns-in-Err-clause-session
returns-in-Err-clause-session g c =
    let inv = c.loop-number.invariant in
    end-refused _ _ _ _ _ _ _ inv.going (requests_left c.next.new.self) c.in-Err.error c.refuse.result (g.W.Sink.taken c.refuse.new.sink) c.loop-number-test.true (c.in-Err.ensures.next_message inv.unfailed) c.refuse.ensures.refused

pub returns-in-Err-clause-read : goal.returns-in-Err-clause-read
returns-in-Err-clause-read g c = λ is.
    let inv = c.loop-number.invariant in
    let error = refused-read c.in-Err.error (g.W.Sink.taken c.loop-number.sink) (g.W.Sink.taken c.refuse.new.sink) c.refuse.result c.refuse.ensures.refused is in
    let rose = c.in-Err.ensures.cause (ap Err error) inv.unfailed in
    omega (arith, rose, inv.source_never_falls)

pub returns-in-Err-clause-clock : goal.returns-in-Err-clause-clock
returns-in-Err-clause-clock g c = λ is. absurd (refused-other c.in-Err.error (g.W.Sink.taken c.loop-number.sink) (g.W.Sink.taken c.refuse.new.sink) c.refuse.result c.refuse.ensures.refused (subst IsOther (sym is) tt))

pub returns-in-Err-clause-port : goal.returns-in-Err-clause-port
returns-in-Err-clause-port g c = λ is. absurd (refused-other c.in-Err.error (g.W.Sink.taken c.loop-number.sink) (g.W.Sink.taken c.refuse.new.sink) c.refuse.result c.refuse.ensures.refused (subst IsOther (sym is) tt))

pub returns-in-Err-clause-spent : goal.returns-in-Err-clause-spent
returns-in-Err-clause-spent g c = λ drawn is. absurd (refused-other c.in-Err.error (g.W.Sink.taken c.loop-number.sink) (g.W.Sink.taken c.refuse.new.sink) c.refuse.result c.refuse.ensures.refused (subst IsOther (sym is) tt))

pub returns-in-Err-clause-drawn : goal.returns-in-Err-clause-drawn
returns-in-Err-clause-drawn g c = λ drawn is. absurd (refused-other c.in-Err.error (g.W.Sink.taken c.loop-number.sink) (g.W.Sink.taken c.refuse.new.sink) c.refuse.result c.refuse.ensures.refused (subst IsOther (sym is) tt))

pub returns-in-Err-serve_one-clause-session : goal.returns-in-Err-serve_one-clause-session
returns-in-Err-serve_one-clause-session g c =
    let inv = c.loop-number.invariant in
    let next = (rw c.in-Ok-Some.field-0-is at c.in-Ok-Some.ensures.next_message) inv.unfailed in
    end-stopped _ _ _ _ _ _ _ inv.going (told g.C.Clock.reading g.W.Sink.taken (seen g.P.Port.told g.P.Port.world g.P.Port.stamp c.serve_one.new.port) c.serve_one.new.clock c.serve_one.new.sink) (requests_left c.next.new.self) c.in-Ok-Some.request c.in-Err-serve_one.end c.loop-number-test.true next c.in-Err-serve_one.ensures.exchanged

pub returns-in-Err-serve_one-clause-read : goal.returns-in-Err-serve_one-clause-read
returns-in-Err-serve_one-clause-read g c = λ is.
    let d = c.in-Err-serve_one.ensures.exchanged in
    absurd (stopped-read (serving c.args.config.now c.args.server c.args.actor) (IsReadAt (g.C.Clock.reading c.loop-number.clock) c.loop-number.number 0) c.in-Ok-Some.request c.in-Err-serve_one.end d.0 is d.1.0)

pub returns-then-closes-clause-session : goal.returns-then-closes-clause-session
returns-then-closes-clause-session g c =
    let inv = c.loop-number.invariant in
    let next = (rw c.in-Ok-Some.field-0-is at c.in-Ok-Some.ensures.next_message) inv.unfailed in
    let x = c.in-Ok.ensures.exchanged in
    end-closed _ _ _ _ _ (requests_left c.next.new.self) _ _ (told g.C.Clock.reading g.W.Sink.taken (seen g.P.Port.told g.P.Port.world g.P.Port.stamp c.serve_one.new.port) c.serve_one.new.clock c.serve_one.new.sink) inv.going x.0 x.1.1.0 x.1.1.1.0 x.1.1.1.1 (subst (λ v. IsNext (requests_left c.loop-number.requests) (Ok (Some v)) (requests_left c.next.new.self)) (sym x.1.0) next) c.loop-number-test.true (ap (λ (v : Request). v.close) x.1.0 ∙ c.if-closes.true)

pub returns-clause-session : goal.returns-clause-session
returns-clause-session g c =
    let inv = c.loop-number.invariant in
    end-budget _ _ _ _ _ _ _ inv.going (omega (arith, c.loop-number-test.false, c.loop-number.auto.number-end))
