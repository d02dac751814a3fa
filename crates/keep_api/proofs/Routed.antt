-- What one request comes to: its route over the port, and its exchange.
use Rattle.std.proofs.Common.{◌≡◌, ℕ, ◌+◌, List, [], ◌∷◌, Option, None, Some, Result, Ok, Err, refl, sym, ap, ◌∙◌, subst, arith, inl, inr, take}
use Rattle.std.specs.Prelude.{IfOk, IfSome, ⊤}
use Rattle.std.proofs.KnownBytes.{Appends-nil}
use Rattle.keep_clock.specs.Readings.{Readings, AdvancesIf, StaysIf}
use Rattle.keep_event.specs.Port.{event_of}
use Rattle.keep_event.specs.declared.event.Event.{Event}
use Rattle.keep_event.specs.declared.event.Query.TheVariants as Q
use Rattle.keep_event.specs.declared.device.DeviceQuery.{DeviceQuery}
use Rattle.keep_event.specs.declared.port.PortError.{PortError}
use Rattle.keep_event.specs.declared.port.PortError.TheVariants as F
use Rattle.keep_event.specs.declared.port.Reply.{Reply}
use Rattle.keep_history.specs.Tasks.{opened, next}
use Rattle.keep_history.specs.declared.task.Opening.{Opening}
use Rattle.keep_history.specs.declared.task.Outcome.{Outcome}
use Rattle.keep_history.specs.declared.task.Task.{Task}
use Rattle.keep_running.specs.Running as any
use Rattle.keep_running.specs.declared.running.AnyTask.{AnyTask}
use Rattle.keep_spec.specs.Config.{Configuration}
use Rattle.keep_spec.specs.Times.{IsReading}
use Rattle.keep_steps.specs.Steps.{IsOpened, IsReady}
use Rattle.keep_steps.specs.declared.steps.Opened.TheVariants as T
use Rattle.keep_routes.specs.Responses.{outcome_response, refusal_response, reply_response}
use Rattle.keep_routes.specs.Routes.{route_of}
use Rattle.keep_routes.specs.declared.refusal.Refusal.{Refusal}
use Rattle.keep_routes.specs.declared.route.Route.{Route}
use Rattle.keep_routes.specs.declared.route.Route.TheVariants.{Open, Ask, Refuse}
use Rattle.keep_wire.specs.declared.message.Request.{Request}
use Rattle.keep_wire.specs.declared.message.Response.{Response}
use Rattle.keep_wire.specs.declared.session_end.SessionEnd.{SessionEnd}
use Rattle.keep_wire.specs.declared.session_end.SessionEnd.TheVariants as E
use Rattle.keep_api.specs.Sessions.{IsBegun, IsDone, IsExchanged, IsFinished, IsOutcome, IsReadAt, IsReadOften, IsRouted, IsSent, IsTaskBegun, IsTaskEnded, Made, Seen, Serving, Told, bytes_of, change, end_of_port, no_change, uuid_of}
use Rattle.keep_api.proofs.Made.{made-none}

-- ---- openings

-- what stands ready for a task
abbrev pub IsReadyFor : Configuration → AnyTask → Task → Type 0
IsReadyFor c t task = IsReady (any.has_ended t) (any.stands t) (any.may_ask t) c task

pub opened-ended : (c : Configuration) (r : Result Task Outcome) (outcome : Outcome) → IsOpened r (T.Ended outcome) (IsReadyFor c) → r ≡ Err outcome
opened-ended c (Err other) outcome h = ap Err (sym h)
opened-ended c (Ok task) outcome h = absurd h

pub opened-task : (c : Configuration) (r : Result Task Outcome) (t : AnyTask) → IsOpened r (T.Task t) (IsReadyFor c) → (task : Task) × ((r ≡ Ok task) × IsReadyFor c t task)
opened-task c (Err other) t h = absurd h
opened-task c (Ok task) t h = (task, (refl, h))

begun-none : (s : Serving) (r : Result Task Outcome) → IsTaskBegun s r []
begun-none s (Err outcome) = refl
begun-none s (Ok task) = tt

ended-begun : (s : Serving) (r : Result Task Outcome) (events : List Event) (end : Outcome) → IsTaskEnded s r events end → IsTaskBegun s r events
ended-begun s (Err outcome) events end h = h.0
ended-begun s (Ok task) events end h = h.0

-- ---- routes

route-begun : (s : Serving) (reading : ℕ) (route : Route) → IsBegun s reading route []
route-begun s reading (Open opening) = begun-none s (opened s.config opening reading)
route-begun s reading (Ask device query) = inl refl
route-begun s reading (Refuse refusal) = refl

done-begun : (s : Serving) (reading : ℕ) (route : Route) (events : List Event) (response : Response) → IsDone s reading route events response → IsBegun s reading route events
done-begun s reading (Open opening) events response h = ended-begun s (opened s.config opening reading) events h.0 h.1.0
done-begun s reading (Ask device query) events response h = inr (h.0, (h.1.0, (h.1.1.0, h.1.1.1.0)))
done-begun s reading (Refuse refusal) events response h = h.0

pub routed-none : (s : Serving) (reading : ℕ) (route : Route) (told : Seen) (e : PortError) → IsRouted s reading route told told (Err e)
routed-none s reading route told e = ([], (route-begun s reading route, made-none told))

-- the response was made, or memory was refused
routed-by : (s : Serving) (reading : ℕ) (route : Route) (old new : Seen) (events : List Event) (response : Response) → IsDone s reading route events response → Made old new events → (r : Result Response PortError) → IfOk r (λ x. x ≡ response) → IsRouted s reading route old new r
routed-by s reading route old new events response done told (Ok x) is = (events, (subst (IsDone s reading route events) (sym is) done, told))
routed-by s reading route old new events response done told (Err e) is = (events, (done-begun s reading route events response done, told))

pub routed-refused : (s : Serving) (reading : ℕ) (refusal : Refusal) (told : Seen) (r : Result Response PortError) → IfOk r (λ x. x ≡ refusal_response refusal) → IsRouted s reading (Refuse refusal) told told r
routed-refused s reading refusal told = routed-by s reading (Refuse refusal) told told [] (refusal_response refusal) (refl, refl) (made-none told)

-- ---- outcomes

pub outcome-none : (s : Serving) (reading : ℕ) (opening : Opening) (told : Seen) (e : PortError) → IsOutcome s reading opening told told (Err e)
outcome-none s reading opening told e = ([], (begun-none s (opened s.config opening reading), made-none told))

pub outcome-ended : (s : Serving) (reading : ℕ) (opening : Opening) (told : Seen) (outcome : Outcome) → opened s.config opening reading ≡ Err outcome → IsOutcome s reading opening told told (Ok outcome)
outcome-ended s reading opening told outcome is = ([], (subst (λ o. IsTaskEnded s o [] outcome) (sym is) (refl, refl), made-none told))

pub outcome-finished : (s : Serving) (reading : ℕ) (opening : Opening) (old new : Seen) (task : Task) → opened s.config opening reading ≡ Ok task → (r : Result Outcome PortError) → IsFinished s.actor (next s.config task) old new r → IsOutcome s reading opening old new r
outcome-finished s reading opening old new task is (Ok outcome) f = (f.0, (subst (λ o. IsTaskEnded s o f.0 outcome) (sym is) (f.1.0, f.1.1.0), f.1.1.1))
outcome-finished s reading opening old new task is (Err e) f = (f.0, (subst (λ o. IsTaskBegun s o f.0) (sym is) f.1.0, f.1.1))

module _ (s : Serving) (reading : ℕ) (opening : Opening) (old new : Seen) where
  pub routed-responded : (outcome : Outcome) → IsOutcome s reading opening old new (Ok outcome) → (r : Result Response PortError) → IfOk r (λ x. x ≡ outcome_response (uuid_of opening) outcome) → IsRouted s reading (Open opening) old new r
  routed-responded outcome o = routed-by s reading (Open opening) old new o.0 (outcome_response (uuid_of opening) outcome) (outcome, (o.1.0, refl)) o.1.1

  pub routed-failed : (e : PortError) → IsOutcome s reading opening old new (Err e) → IsRouted s reading (Open opening) old new (Err e)
  routed-failed e o = o

-- a device was asked
pub routed-asked : (s : Serving) (reading device : ℕ) (query : DeviceQuery) (old new : Seen) (reply : Reply) → Made old new (event_of s.actor (Q.Device device query) reply ∷ []) → (r : Result Response PortError) → IfOk r (λ x. x ≡ reply_response reply.answer) → IsRouted s reading (Ask device query) old new r
routed-asked s reading device query old new reply made =
    let e = event_of s.actor (Q.Device device query) reply in
    routed-by s reading (Ask device query) old new (e ∷ []) (reply_response reply.answer) (e, (refl, (refl, (refl, refl)))) made

-- the port refused
pub routed-unasked : (s : Serving) (reading device : ℕ) (query : DeviceQuery) (old new : Seen) (e : PortError) → Made old new [] → IsRouted s reading (Ask device query) old new (Err e)
routed-unasked s reading device query old new e made = ([], (inl refl, made))

-- ---- exchanges

abbrev telling : Seen → Option Readings → Option (List ℕ) → Told
telling port readings taken = record { port = port; readings = readings; taken = taken }

stays : (old new : Option Readings) → StaysIf old new → IsReadOften 0 old new
stays None new h = h
stays (Some f) None h = absurd h
stays (Some f) (Some g) h = λ t k. h t k ∙ ap (f t) (plus k)
  where
    plus : (k : ℕ) → k ≡ k + 0
    plus k = omega arith

advances : (old new : Option Readings) (tick reading : ℕ) → AdvancesIf old new tick reading → IsReadOften 1 old new
advances None new tick reading h = h
advances (Some f) None tick reading h = absurd h
advances (Some f) (Some g) tick reading h = h.later

given-at : (old new : Option Readings) (tick reading : ℕ) → AdvancesIf old new tick reading → IfSome old (λ f. reading ≡ f tick 0)
given-at None new tick reading h = tt
given-at (Some f) None tick reading h = absurd h
given-at (Some f) (Some g) tick reading h = h.given

-- the clock failed
pub exchange-unread : (s : Serving) (n : ℕ) (q : Request) (events : Seen) (old new : Option Readings) (taken : Option (List ℕ)) → StaysIf old new → IsExchanged s n q (telling events old taken) (telling events new taken) (Err E.ClockFault)
exchange-unread s n q events old new taken h =
    (no_change, (refl, record { made = made-none events; taken_is = Appends-nil taken; readings_are = stays old new h }))

module _ (s : Serving) (n : ℕ) (q : Request) (old new : Option Readings) (reading : ℕ) (bound : IsReading reading) (read : AdvancesIf old new n reading) where
  abbrev route : Route
  route = route_of s.config s.server q

  given : IsReadAt old n 0 reading
  given = (bound, given-at old new n reading read)

  -- memory was refused before anything was asked
  pub exchange-none : (events : Seen) (taken : Option (List ℕ)) → IsExchanged s n q (telling events old taken) (telling events new taken) (Err E.NoMemory)
  exchange-none events taken = (
    change [] [] 1,
    (
      (reading, (given, (route-begun s reading route, (refl, refl)))),
      record { made = made-none events; taken_is = Appends-nil taken; readings_are = advances old new n reading read },
    ),
  )

  module _ (events asked : Seen) where
    -- the port failed
    pub exchange-stopped : (e : PortError) (taken : Option (List ℕ)) → IsRouted s reading route events asked (Err e) → IsExchanged s n q (telling events old taken) (telling asked new taken) (Err (end_of_port e))
    exchange-stopped F.Failed taken h = (
      change h.0 [] 1,
      (
        (reading, (given, (h.1.0, (refl, refl)))),
        record { made = h.1.1; taken_is = Appends-nil taken; readings_are = advances old new n reading read },
      ),
    )
    exchange-stopped (F.Spent drawn) taken h = (
      change h.0 [] 1,
      (
        (reading, (given, (h.1.0, (refl, refl)))),
        record { made = h.1.1; taken_is = Appends-nil taken; readings_are = advances old new n reading read },
      ),
    )
    exchange-stopped F.NoMemory taken h = (
      change h.0 [] 1,
      (
        (reading, (given, (h.1.0, (refl, refl)))),
        record { made = h.1.1; taken_is = Appends-nil taken; readings_are = advances old new n reading read },
      ),
    )

    -- the response was sent, or a part of it, or none
    pub exchange-sent : (response : Response) (taken after : Option (List ℕ)) → IsRouted s reading route events asked (Ok response) → (r : Result ⊤ SessionEnd) → IsSent (bytes_of response) taken after r → IsExchanged s n q (telling events old taken) (telling asked new after) r
    exchange-sent response taken after h (Ok done) sent = (
      record { request = q; reading = reading; events = h.0; response = response },
      (refl, ((bound, h.1.0), (given-at old new n reading read, record { made = h.1.1; taken_is = sent; readings_are = advances old new n reading read }))),
    )
    exchange-sent response taken after h (Err E.WriteFault) sent = (
      change h.0 (take sent.0 (bytes_of response)) 1,
      (
        (reading, (given, (response, (h.1.0, ((sent.0, (sent.1, refl)), refl))))),
        record { made = h.1.1; taken_is = sent.2; readings_are = advances old new n reading read },
      ),
    )
    exchange-sent response taken after h (Err E.NoMemory) sent = (
      change h.0 [] 1,
      (
        (reading, (given, (done-begun s reading route h.0 response h.1.0, (refl, refl)))),
        record { made = h.1.1; taken_is = sent; readings_are = advances old new n reading read },
      ),
    )
    exchange-sent response taken after h (Err E.Done) sent = absurd sent
    exchange-sent response taken after h (Err (E.Budget requests)) sent = absurd sent
    exchange-sent response taken after h (Err E.ReadFault) sent = absurd sent
    exchange-sent response taken after h (Err E.BadHead) sent = absurd sent
    exchange-sent response taken after h (Err E.LengthRequired) sent = absurd sent
    exchange-sent response taken after h (Err (E.BodyTooLong m)) sent = absurd sent
    exchange-sent response taken after h (Err E.CutBody) sent = absurd sent
    exchange-sent response taken after h (Err E.ClockFault) sent = absurd sent
    exchange-sent response taken after h (Err E.PortFault) sent = absurd sent
    exchange-sent response taken after h (Err (E.Spent drawn)) sent = absurd sent
