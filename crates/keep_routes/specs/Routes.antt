-- What a request asks: a task, a query to one device, or nothing, where it is refused. The tests come in the order path, method, system token (where one is wanted), body.
use Rattle.std.specs.Prelude.{ℕ, ⊤, ◌<◌, List, [], length, Option, None, Some, Result, Ok, Err, unwrap_or, if◌then◌else◌, codes}
use Rattle.std.specs.Str.{bytes_eq}
use Rattle.keep_spec.specs.Digest.{digest_of}
use Rattle.keep_spec.specs.Config.{Configuration}
use Rattle.keep_event.specs.Lists.{lists_of}
use Rattle.keep_event.specs.declared.device.DeviceQuery.{DeviceQuery}
use Rattle.keep_event.specs.declared.device.DeviceQuery.TheVariants as Q
use Rattle.keep_event.specs.declared.lists.Lists.{Lists}
use Rattle.keep_event.specs.declared.table.SaveRequest.{SaveRequest}
use Rattle.keep_history.specs.declared.task.Opening.{Opening}
use Rattle.keep_history.specs.declared.task.Opening.TheVariants as O
use Rattle.keep_history.specs.Script.{HasTimes}
use Rattle.keep_history.specs.Tasks.{NamesWithin}
use Rattle.keep_wire.specs.declared.message.Request.{Request}
use Rattle.keep_routes.specs.declared.bodies.UpdateBody.{UpdateBody}
use Rattle.keep_routes.specs.declared.bodies.Times.{Times}
use Rattle.keep_routes.specs.Bodies.{save_of, update_of, times_of}
use Rattle.keep_routes.specs.Paths.{place_of}
use Rattle.keep_routes.specs.declared.place.Place.{Place}
use Rattle.keep_routes.specs.declared.place.Place.TheVariants as P
use Rattle.keep_routes.specs.declared.refusal.Refusal.{Refusal}
use Rattle.keep_routes.specs.declared.refusal.Refusal.TheVariants as R
use Rattle.keep_routes.specs.declared.route.Route.{Route}
use Rattle.keep_routes.specs.declared.route.Route.TheVariants.{Open, Ask, Refuse}

-- a request without a token has the empty one, which no configuration has
abbrev pub token_of : Request → List ℕ
token_of q = unwrap_or q.token []

-- the request has the method
abbrev pub with_method : List ℕ → Request → Route → Route
with_method method q route = if bytes_eq q.method method then route else Refuse R.BadMethod

-- the request has the system token
abbrev pub by_system : Configuration → Request → Route → Route
by_system c q route = if bytes_eq (token_of q) c.system_token then route else Refuse R.Forbidden

-- the request has the method and the system token
abbrev pub starred_route : Configuration → List ℕ → Request → Route → Route
starred_route c method q route = with_method method q (by_system c q route)

-- ---- blocks

abbrev pub put_by : ℕ → Request → Option (List ℕ) → Route
put_by server q None = Refuse R.BadLocator
put_by server q (Some digest) = Open (O.Put (token_of q) server q.body (Some digest))

abbrev pub block_route : ℕ → List ℕ → Request → Route
block_route server part q =
    if bytes_eq q.method (codes "PUT") then put_by server q (digest_of part)
    else if bytes_eq q.method (codes "GET") then Open (O.Get (token_of q) server part)
    else if bytes_eq q.method (codes "TOUCH") then Open (O.Touch (token_of q) server part)
    else Refuse R.BadMethod

abbrev pub untrash_route : ℕ → List ℕ → Request → Route
untrash_route server digest q = with_method (codes "PUT") q (Open (O.Untrash (token_of q) server digest))

-- ---- collections

abbrev pub save_by : Option SaveRequest → Route
save_by None = Refuse R.BadBody
save_by (Some request) = Open (O.Save request)

abbrev pub update_by : List ℕ → Option UpdateBody → Route
update_by uuid None = Refuse R.BadBody
update_by uuid (Some b) = Open (O.Update uuid b.preserve b.request)

abbrev pub trash_by : Request → List ℕ → Option Times → Route
trash_by q uuid None = Refuse R.BadBody
trash_by q uuid (Some t) = Open (O.Trash (token_of q) uuid t.trash_at t.delete_at)

abbrev pub collection_route : List ℕ → Request → Route
collection_route uuid q =
    if bytes_eq q.method (codes "PUT") then update_by uuid (update_of (token_of q) q.body)
    else if bytes_eq q.method (codes "GET") then Open (O.Read (token_of q) uuid None)
    else Refuse R.BadMethod

abbrev pub save_route : Request → Route
save_route q = with_method (codes "POST") q (save_by (save_of (token_of q) q.body))

abbrev pub version_route : List ℕ → ℕ → Request → Route
version_route uuid version q = with_method (codes "GET") q (Open (O.Read (token_of q) uuid (Some version)))

abbrev pub trash_route : List ℕ → Request → Route
trash_route uuid q = with_method (codes "POST") q (trash_by q uuid (times_of q.body))

abbrev pub restore_route : List ℕ → Request → Route
restore_route uuid q = with_method (codes "POST") q (Open (O.Restore (token_of q) uuid))

-- ---- devices

abbrev pub lists_by : ℕ → ℕ → Result Lists ℕ → Route
lists_by device round (Err item) = Refuse R.BadList
lists_by device round (Ok lists) = Ask device (Q.Accept round lists)

abbrev pub lists_route : Configuration → ℕ → ℕ → Request → Route
lists_route c device round q = starred_route c (codes "PUT") q (lists_by device round (lists_of c device q.body))

-- what a request asks of what its path names
abbrev pub route_at : Configuration → ℕ → Place → Request → Route
route_at c server (P.Block part) q = block_route server part q
route_at c server (P.Untrash digest) q = untrash_route server digest q
route_at c server P.Collections q = save_route q
route_at c server (P.Collection uuid) q = collection_route uuid q
route_at c server (P.Version uuid version) q = version_route uuid version q
route_at c server (P.Trash uuid) q = trash_route uuid q
route_at c server (P.Restore uuid) q = restore_route uuid q
route_at c server (P.Page device round prefix) q = starred_route c (codes "GET") q (Ask device (Q.Page round prefix))
route_at c server (P.Clear device round) q = starred_route c (codes "PUT") q (Ask device (Q.Clear round))
route_at c server (P.Lists device round) q = lists_route c device round q
route_at c server P.Sweep q = starred_route c (codes "POST") q (Open O.Sweep)
route_at c server P.Balance q = starred_route c (codes "POST") q (Open O.Balance)
route_at c server (P.TrashWorker device) q = starred_route c (codes "POST") q (Open (O.TrashWorker device))
route_at c server (P.PullWorker device) q = starred_route c (codes "POST") q (Open (O.PullWorker device))
route_at c server (P.EmptyWorker device) q = starred_route c (codes "POST") q (Open (O.EmptyWorker device))

abbrev pub route_by : Configuration → ℕ → Option Place → Request → Route
route_by c server None q = Refuse R.NoSuch
route_by c server (Some place) q = route_at c server place q

-- what a request to a server asks
unfoldable pub route_of : Configuration → ℕ → Request → Route
route_of c server q = route_by c server (place_of c q.path) q

-- ---- for private clauses

-- what a route names is of the configuration, and its times are readings
abbrev pub IsRouteWithin : Configuration → Route → Type 0
IsRouteWithin c (Open opening) = NamesWithin c opening × HasTimes opening
IsRouteWithin c (Ask device query) = device < length c.devices
IsRouteWithin c (Refuse refusal) = ⊤
