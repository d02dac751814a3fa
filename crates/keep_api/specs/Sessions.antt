-- Sessions: the requests of one connection, answered one after another. Which responses are written, and how a session ends, is this project's own rule.
use Rattle.std.specs.Prelude.{◌≡◌, ℕ, ⊤, Bool, ◌+◌, ◌<◌, ◌≤◌, ◌⊎◌, List, [], ◌∷◌, ◌++◌, length, take, map, All, Option, None, Some, option_map, IfSome, IsSome, Result, Ok, Err, IsTrue, IsFalse}
use Rattle.std.specs.Io.KnownBytes.{Appends}
use Rattle.keep_spec.specs.Config.{Configuration}
use Rattle.keep_spec.specs.Times.{IsReading}
use Rattle.keep_base.specs.Sources.{AppendsPrefix}
use Rattle.keep_event.specs.declared.event.Event.{Event}
use Rattle.keep_event.specs.declared.event.Query.TheVariants as Q
use Rattle.keep_event.specs.Port.{Stamp}
use Rattle.keep_event.specs.World.{World, asked}
use Rattle.keep_event.specs.declared.port.PortError.{PortError}
use Rattle.keep_event.specs.declared.port.PortError.TheVariants as F
use Rattle.keep_history.specs.Next.{Answered, Next, asks, ends}
use Rattle.keep_history.specs.Tasks.{opened, next}
use Rattle.keep_history.specs.declared.task.Opening.{Opening}
use Rattle.keep_history.specs.declared.task.Opening.TheVariants as O
use Rattle.keep_history.specs.declared.task.Outcome.{Outcome}
use Rattle.keep_history.specs.declared.task.Task.{Task}
use Rattle.keep_clock.specs.Readings.{Readings}
use Rattle.keep_wire.specs.Ends.{end_of}
use Rattle.keep_wire.specs.Requests.{IsRequest}
use Rattle.keep_wire.specs.Sessions.{AreRequests, closed, clean, broken}
use Rattle.keep_wire.specs.declared.message.Request.{Request}
use Rattle.keep_wire.specs.declared.message.Response.{Response}
use Rattle.keep_wire.specs.declared.message.WireError.{WireError}
use Rattle.keep_wire.specs.declared.message.WireError.TheVariants as W
use Rattle.keep_wire.specs.declared.session_end.SessionEnd.{SessionEnd}
use Rattle.keep_wire.specs.declared.session_end.SessionEnd.TheVariants as E
use Rattle.keep_routes.specs.Responses.{error_response, outcome_response, refusal_response, reply_response, response_bytes}
use Rattle.keep_routes.specs.Routes.{route_of}
use Rattle.keep_routes.specs.declared.route.Route.{Route}
use Rattle.keep_routes.specs.declared.route.Route.TheVariants.{Open, Ask, Refuse}

-- the cluster, the server that answers, and who asks for it
pub record Serving : Type 0 where
  pub config : Configuration
  pub server : ℕ
  pub actor : ℕ

abbrev pub serving : Configuration → ℕ → ℕ → Serving
serving config server actor = record { config = config; server = server; actor = actor }

-- ---- what a port shows

-- its events, its world, and the tick and the reading of its next event, each where the port tells it
pub record Seen : Type 0 where
  pub events : Option (List Event)
  pub world : Option World
  pub stamp : Option Stamp

abbrev pub seen : {P : Type 0} → (P → Option (List Event)) → (P → Option World) → (P → Option Stamp) → P → Seen
seen events world stamp port = record { events = events port; world = world port; stamp = stamp port }

-- each event is answered as the world says, or as a store that fails, after the events before it
abbrev pub AreLines : World → List Event → World → Type 0
AreLines w [] after = after ≡ w
AreLines w (e ∷ es) after = (fails : Bool) × ((e.answer ≡ (asked fails e.reading e.query w).answer) × AreLines (asked fails e.reading e.query w).world es after)

-- the ticks go on from the stamp's, and the reading stays
abbrev pub AreStamped : Stamp → List Event → Stamp → Type 0
AreStamped s [] after = after ≡ s
AreStamped s (e ∷ es) after = (e.tick ≡ s.tick) × ((e.reading ≡ s.reading) × AreStamped (record { tick = s.tick + 1; reading = s.reading }) es after)

-- what a port told is told after the events too, and is what they make of it
abbrev pub GoesOn : {X : Type 0} → (X → List Event → X → Type 0) → Option X → List Event → Option X → Type 0
GoesOn Goes None es after = ⊤
GoesOn {X} Goes (Some x) es after = (y : X) × ((after ≡ Some y) × Goes x es y)

-- a port made these events
pub record Made (old new : Seen) (es : List Event) : Type 0 where
  pub events_are : new.events ≡ option_map (λ before. before ++ es) old.events
  pub world_is : GoesOn AreLines old.world es new.world
  pub stamp_is : GoesOn AreStamped old.stamp es new.stamp

-- ---- what one request comes to

-- the answer of an event, as a task is given it
abbrev pub answer_of : Event → Answered
answer_of e = record { tick = e.tick; answer = e.answer }

-- each event is this actor's and has the query that the task comes to, after the answers of the events before it
abbrev pub AreAsked : ℕ → (List Answered → Next) → List Answered → List Event → Type 0
AreAsked actor next answers [] = ⊤
AreAsked actor next answers (e ∷ es) = (e.actor ≡ actor) × ((next answers ≡ asks e.query) × AreAsked actor next (answers ++ answer_of e ∷ []) es)

-- the events of an opening, and its end
abbrev pub IsTaskEnded : Serving → Result Task Outcome → List Event → Outcome → Type 0
IsTaskEnded s (Err outcome) events end = (events ≡ []) × (end ≡ outcome)
IsTaskEnded s (Ok task) events end = AreAsked s.actor (next s.config task) [] events × (next s.config task (map answer_of events) ≡ ends end)

-- the collection whose text an opening reads
abbrev pub uuid_of : Opening → List ℕ
uuid_of (O.Read token uuid version) = uuid
uuid_of other = []

-- the events of a route at a reading, and its response
abbrev pub IsDone : Serving → ℕ → Route → List Event → Response → Type 0
IsDone s reading (Refuse refusal) events response = (events ≡ []) × (response ≡ refusal_response refusal)
IsDone s reading (Ask device query) events response =
    (e : Event) × ((events ≡ e ∷ []) × ((e.actor ≡ s.actor) × ((e.query ≡ Q.Device device query) × (response ≡ reply_response e.answer))))
IsDone s reading (Open opening) events response =
    (end : Outcome) × (IsTaskEnded s (opened s.config opening reading) events end × (response ≡ outcome_response (uuid_of opening) end))

-- the first events of a task, or all of them
abbrev pub IsTaskBegun : Serving → Result Task Outcome → List Event → Type 0
IsTaskBegun s (Err outcome) events = events ≡ []
IsTaskBegun s (Ok task) events = AreAsked s.actor (next s.config task) [] events

-- the first events of a route, or all of them
abbrev pub IsBegun : Serving → ℕ → Route → List Event → Type 0
IsBegun s reading (Refuse refusal) events = events ≡ []
IsBegun s reading (Ask device query) events =
    (events ≡ []) ⊎ ((e : Event) × ((events ≡ e ∷ []) × ((e.actor ≡ s.actor) × (e.query ≡ Q.Device device query))))
IsBegun s reading (Open opening) events = IsTaskBegun s (opened s.config opening reading) events

-- the bytes of a response
unfoldable pub bytes_of : Response → List ℕ
bytes_of r = response_bytes r

-- ---- exchanges

-- a request, the clock's reading at it, the events that it added, and the response that was written
pub record Exchange : Type 0 where
  pub request : Request
  pub reading : ℕ
  pub events : List Event
  pub response : Response

abbrev pub IsAnswered : Serving → Exchange → Type 0
IsAnswered s x = IsReading x.reading × IsDone s x.reading (route_of s.config s.server x.request) x.events x.response

abbrev pub requests_of : List Exchange → List Request
requests_of [] = []
requests_of (x ∷ xs) = x.request ∷ requests_of xs

abbrev pub events_of : List Exchange → List Event
events_of [] = []
events_of (x ∷ xs) = x.events ++ events_of xs

-- what is written in them
abbrev pub text_of : List Exchange → List ℕ
text_of [] = []
text_of (x ∷ xs) = bytes_of x.response ++ text_of xs

-- none of their requests closes
abbrev pub AreOpen : List Exchange → Type 0
AreOpen [] = ⊤
AreOpen (x ∷ xs) = IsFalse x.request.close × AreOpen xs

-- the last of their requests closes, and no other
abbrev pub AreClosed : List Exchange → Type 0
AreClosed [] = ⊥
AreClosed (x ∷ xs) = (IsTrue x.request.close × (xs ≡ [])) ⊎ (IsFalse x.request.close × AreClosed xs)

-- the exchange of number i has the reading that the clock returns at the tick i after i calls
abbrev pub AreReadFrom : Readings → ℕ → List Exchange → Type 0
AreReadFrom readings i [] = ⊤
AreReadFrom readings i (x ∷ xs) = (x.reading ≡ readings i i) × AreReadFrom readings (i + 1) xs

-- ---- what changes

-- what the port, the clock and the sink of a session tell
pub record Told : Type 0 where
  pub port : Seen
  pub readings : Option Readings
  pub taken : Option (List ℕ)

abbrev pub told : {C W : Type 0} → (C → Option Readings) → (W → Option (List ℕ)) → Seen → C → W → Told
told readings taken port clock sink = record { port = port; readings = readings clock; taken = taken sink }

-- the clock was read that often
abbrev pub IsReadOften : ℕ → Option Readings → Option Readings → Type 0
IsReadOften n (Some old) (Some new) = (t k : ℕ) → new t k ≡ old t (k + n)
IsReadOften n (Some old) None = ⊥
IsReadOften n None new = new ≡ None

-- events, bytes written, and how often the clock was read
pub record Change : Type 0 where
  pub events : List Event
  pub text : List ℕ
  pub reads : ℕ

abbrev pub change : List Event → List ℕ → ℕ → Change
change events text reads = record { events = events; text = text; reads = reads }

abbrev pub no_change : Change
no_change = change [] [] 0

pub record Changes (old new : Told) (d : Change) : Type 0 where
  pub made : Made old.port new.port d.events
  pub taken_is : Appends old.taken new.taken d.text
  pub readings_are : IsReadOften d.reads old.readings new.readings

abbrev pub whole : List Exchange → Change
whole xs = change (events_of xs) (text_of xs) (length xs)

abbrev pub together : Change → Change → Change
together a b = change (a.events ++ b.events) (a.text ++ b.text) (a.reads + b.reads)

-- ---- how a session ends

abbrev pub IsPrefix : List ℕ → List ℕ → Type 0
IsPrefix text all = (n : ℕ) × ((n ≤ length all) × (text ≡ take n all))

-- what is written before a session ends with an error of its bytes
abbrev pub bytes_if : Option Response → List ℕ
bytes_if None = []
bytes_if (Some response) = bytes_of response

abbrev pub error_bytes : WireError → List ℕ
error_bytes e = bytes_if (error_response e)

-- some of the request's events were made, and nothing was written
abbrev pub IsCutShort : Serving → (ℕ → Type 0) → Request → Change → Type 0
IsCutShort s IsRead q d =
    (reading : ℕ) × (IsRead reading
    × (IsBegun s reading (route_of s.config s.server q) d.events
    × ((d.text ≡ []) × (d.reads ≡ 1))))

-- all of them, and the response was written in part
abbrev pub IsWrittenInPart : Serving → (ℕ → Type 0) → Request → Change → Type 0
IsWrittenInPart s IsRead q d =
    (reading : ℕ) × (IsRead reading
    × ((response : Response) × (IsDone s reading (route_of s.config s.server q) d.events response
    × (IsPrefix d.text (bytes_of response) × (d.reads ≡ 1)))))

-- A request that is not answered, or whose response is not written whole, with a reading of the clock: what it changed, for each end. Where the clock failed it changed nothing.
abbrev pub IsStopped : Serving → (ℕ → Type 0) → Request → SessionEnd → Change → Type 0
IsStopped s IsRead q E.ClockFault d = d ≡ no_change
IsStopped s IsRead q E.PortFault d = IsCutShort s IsRead q d
IsStopped s IsRead q (E.Spent drawn) d = IsCutShort s IsRead q d
IsStopped s IsRead q E.NoMemory d = IsCutShort s IsRead q d
IsStopped s IsRead q E.WriteFault d = IsWrittenInPart s IsRead q d
IsStopped s IsRead q other d = ⊥

-- what a clock that tells returns at this tick after so many more calls; a clock that doesn't returns some reading
abbrev pub IsReadAt : Option Readings → ℕ → ℕ → ℕ → Type 0
IsReadAt readings tick calls reading = IsReading reading × IfSome readings (λ f. reading ≡ f tick calls)

-- the bytes begin with these requests, none of which closes, and these are left
abbrev pub AreFirst : List ℕ → List Request → List ℕ → Type 0
AreFirst bytes [] left = bytes ≡ left
AreFirst bytes (q ∷ qs) left = (more : List ℕ) × (IsRequest bytes q more × (IsFalse q.close × AreFirst more qs left))

abbrev pub AreSomeFirst : List ℕ → List Request → Type 0
AreSomeFirst bytes qs = (left : List ℕ) × AreFirst bytes qs left

-- the request that comes after these
abbrev pub IsNextAfter : List ℕ → List Request → Request → Type 0
IsNextAfter bytes qs q = (left : List ℕ) × (AreFirst bytes qs left × ((more : List ℕ) × IsRequest left q more))

-- fewer requests than the budget allows were answered, none of them closes, and this is so of known bytes
abbrev pub IsBefore : ℕ → Option (List ℕ) → List Exchange → (List ℕ → Type 0) → Type 0
IsBefore budget bytes xs Is = (length xs < budget) × (AreOpen xs × IfSome bytes Is)

-- the request after these was not answered, or its response not written whole
abbrev pub HasStopped : Serving → ℕ → Option (List ℕ) → Option Readings → List Exchange → SessionEnd → Change → Type 0
HasStopped s budget bytes readings xs end d =
    (q : Request) × (IsBefore budget bytes xs (λ b. IsNextAfter b (requests_of xs) q)
    × IsStopped s (IsReadAt readings (length xs) (length xs)) q end d)

-- the bytes go on with no request, and this much was written of the response to that
abbrev pub IsBroken : ℕ → Option (List ℕ) → List Exchange → WireError → Change → Type 0
IsBroken budget bytes xs e d = IsBefore budget bytes xs (λ b. AreRequests b (requests_of xs) (broken e)) × (d ≡ change [] (error_bytes e) 0)

abbrev pub IsCutOff : ℕ → Option (List ℕ) → List Exchange → Change → Type 0
IsCutOff budget bytes xs d = IsBefore budget bytes xs (λ b. AreSomeFirst b (requests_of xs)) × (d ≡ no_change)

-- a session of these exchanges, which are whole, ended so, and changed this after them
abbrev pub IsEnd : Serving → ℕ → Option (List ℕ) → Option Readings → List Exchange → SessionEnd → Change → Type 0
IsEnd s budget bytes readings xs E.Done d =
    (d ≡ no_change)
    × (IsBefore budget bytes xs (λ b. AreRequests b (requests_of xs) clean)
    ⊎ ((length xs ≤ budget) × (AreClosed xs × IfSome bytes (λ b. AreRequests b (requests_of xs) closed))))
IsEnd s budget bytes readings xs (E.Budget requests) d =
    (d ≡ no_change) × ((requests ≡ budget) × ((length xs ≡ budget) × (AreOpen xs × IfSome bytes (λ b. AreSomeFirst b (requests_of xs)))))
IsEnd s budget bytes readings xs E.BadHead d = IsBroken budget bytes xs W.BadHead d
IsEnd s budget bytes readings xs E.LengthRequired d = IsBroken budget bytes xs W.LengthRequired d
IsEnd s budget bytes readings xs (E.BodyTooLong n) d = IsBroken budget bytes xs (W.BodyTooLong n) d
IsEnd s budget bytes readings xs E.CutBody d = IsBroken budget bytes xs W.CutBody d
IsEnd s budget bytes readings xs E.ReadFault d = IsCutOff budget bytes xs d
IsEnd s budget bytes readings xs E.ClockFault d = HasStopped s budget bytes readings xs E.ClockFault d
IsEnd s budget bytes readings xs E.PortFault d = HasStopped s budget bytes readings xs E.PortFault d
IsEnd s budget bytes readings xs (E.Spent drawn) d = HasStopped s budget bytes readings xs (E.Spent drawn) d
IsEnd s budget bytes readings xs E.NoMemory d = HasStopped s budget bytes readings xs E.NoMemory d ⊎ IsCutOff budget bytes xs d
IsEnd s budget bytes readings xs E.WriteFault d =
    HasStopped s budget bytes readings xs E.WriteFault d
    ⊎ ((e : WireError) × (IsBefore budget bytes xs (λ b. AreRequests b (requests_of xs) (broken e))
    × ((d.events ≡ []) × (IsPrefix d.text (error_bytes e) × (d.reads ≡ 0)))))

-- What a session did: whole exchanges, and then what its end says. Where the bytes of the source are known, the requests are those of the bytes; where the port, the clock or the sink tells, so are the events, the readings and what was written.
pub record IsSession (s : Serving) (budget : ℕ) (bytes : Option (List ℕ)) (old new : Told) (end : SessionEnd) : Type 0 where
  pub exchanges : List Exchange
  pub rest : Change
  pub answered : All (IsAnswered s) exchanges
  pub read_at : IfSome old.readings (λ f. AreReadFrom f 0 exchanges)
  pub changed : Changes old new (together (whole exchanges) rest)
  pub ended : IsEnd s budget bytes old.readings exchanges end rest

-- ---- for private clauses

-- what a step of a session after n exchanges made of one request
abbrev pub IsExchanged : Serving → ℕ → Request → Told → Told → Result ⊤ SessionEnd → Type 0
IsExchanged s n q old new (Ok done) =
    (x : Exchange) × ((x.request ≡ q) × (IsAnswered s x × (IfSome old.readings (λ f. x.reading ≡ f n 0) × Changes old new (change x.events (bytes_of x.response) 1))))
IsExchanged s n q old new (Err end) =
    (d : Change) × (IsStopped s (IsReadAt old.readings n 0) q end d × Changes old new d)

-- the exchanges so far, of which none closes
pub record IsGoing (s : Serving) (n : ℕ) (bytes left : Option (List ℕ)) (old now : Told) : Type 0 where
  pub exchanges : List Exchange
  pub count : length exchanges ≡ n
  pub answered : All (IsAnswered s) exchanges
  pub read_at : IfSome old.readings (λ f. AreReadFrom f 0 exchanges)
  pub changed : Changes old now (whole exchanges)
  pub are_open : AreOpen exchanges
  pub first : IfSome bytes (λ b. (rest : List ℕ) × ((left ≡ Some rest) × AreFirst b (requests_of exchanges) rest))

-- what was asked for an opening at a reading
abbrev pub IsOutcome : Serving → ℕ → Opening → Seen → Seen → Result Outcome PortError → Type 0
IsOutcome s reading opening old new (Ok end) =
    (events : List Event) × (IsTaskEnded s (opened s.config opening reading) events end × Made old new events)
IsOutcome s reading opening old new (Err e) =
    (events : List Event) × (IsTaskBegun s (opened s.config opening reading) events × Made old new events)

-- what was asked for a route at a reading
abbrev pub IsRouted : Serving → ℕ → Route → Seen → Seen → Result Response PortError → Type 0
IsRouted s reading route old new (Ok response) =
    (events : List Event) × (IsDone s reading route events response × Made old new events)
IsRouted s reading route old new (Err e) = (events : List Event) × (IsBegun s reading route events × Made old new events)

-- what was asked for a task that goes by `next`
abbrev pub IsFinished : ℕ → (List Answered → Next) → Seen → Seen → Result Outcome PortError → Type 0
IsFinished actor next old new (Ok end) =
    (events : List Event) × (AreAsked actor next [] events × ((next (map answer_of events) ≡ ends end) × Made old new events))
IsFinished actor next old new (Err e) = (events : List Event) × (AreAsked actor next [] events × Made old new events)

-- what was written of some bytes
abbrev pub IsSent : List ℕ → Option (List ℕ) → Option (List ℕ) → Result ⊤ SessionEnd → Type 0
IsSent bytes old new (Ok done) = Appends old new bytes
IsSent bytes old new (Err E.WriteFault) = AppendsPrefix old new bytes
IsSent bytes old new (Err E.NoMemory) = Appends old new []
IsSent bytes old new (Err other) = ⊥

-- what was written before the end that comes of an error of the bytes
abbrev pub IsRefused : WireError → Option (List ℕ) → Option (List ℕ) → SessionEnd → Type 0
IsRefused e old new end =
    ((end ≡ end_of e) × Appends old new (error_bytes e))
    ⊎ ((end ≡ E.WriteFault) × (AppendsPrefix old new (error_bytes e) × IsSome (error_response e)))
    ⊎ ((end ≡ E.NoMemory) × Appends old new [])

-- ends of a port
abbrev pub end_of_port : PortError → SessionEnd
end_of_port F.Failed = E.PortFault
end_of_port (F.Spent drawn) = E.Spent drawn
end_of_port F.NoMemory = E.NoMemory
