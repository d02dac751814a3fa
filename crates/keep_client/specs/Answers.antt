-- What the answers of servers come to. The requests are those of this project's HTTP interface, which is after Arvados' keepstore; how answers count is this project's own rule.
use Rattle.std.specs.Prelude.{◌≡◌, ◌≢◌, ◌<◌, ℕ, ◌==◌, ◌&&◌, not, Bool, true, false, List, [], ◌∷◌, ◌++◌, length, take, map, count_by, codes, decimal, bytes_eq, IfSome, is_none, Option, None, Some, Result, Ok, Err, Vec, if◌then◌else◌, ⊤}
use Rattle.std.specs.List.{filter_map, list_all, find}
use Rattle.std.specs.Io.BufRead.{strip_last}
use Rattle.std.specs.Option.{option_map}
use Rattle.std.specs.declared.alloc.Global.{Global}
use Rattle.md5.specs.Md5.{md5}
use Rattle.hex.specs.Hex.{encode_lower}
use Rattle.keep_spec.specs.Config.{Configuration}
use Rattle.keep_spec.specs.Locator.{is_locator, digest, size, locator_prefix_len}
use Rattle.keep_spec.specs.Order.{service_order}
use Rattle.keep_event.specs.Index.{Fault, index_of, bad, cut_off}
use Rattle.keep_event.specs.declared.lists.Entry.{Entry}
use Rattle.keep_wire.specs.Written.{is_visible, request_text}
use Rattle.keep_client.specs.declared.link.Exchange.{Exchange}
use Rattle.keep_client.specs.declared.said.Said.{Said}
use Rattle.keep_client.specs.declared.said.Said.TheVariants.{Failed, Broken, Answered}
use Rattle.keep_client.specs.declared.error.ClientError.{ClientError}
use Rattle.keep_client.specs.declared.error.ClientError.TheVariants as error
use Rattle.keep_client.specs.declared.put.PutDone.{PutDone}
use Rattle.keep_client.specs.Exchanges.{Grows}
use Rattle.keep_client.specs.Asking.{HaveSaid}

-- ---- who is asked what

-- the servers of a configuration in the order in which they are asked for a block
abbrev pub servers_for : Configuration → List ℕ → List ℕ
servers_for c block = service_order block (map (λ s. s.uuid) c.servers)

-- a token that a head can't have is sent as none
abbrev pub sent_as : List ℕ → List ℕ
sent_as token = if list_all is_visible token then token else []

abbrev pub put_request : List ℕ → List ℕ → List ℕ
put_request token block = request_text (codes "PUT") (47 ∷ encode_lower (md5 block)) (sent_as token) block

abbrev pub get_request : List ℕ → List ℕ → List ℕ
get_request token locator = request_text (codes "GET") (47 ∷ locator) (sent_as token) []

abbrev pub index_path : List ℕ → ℕ → List ℕ → List ℕ
index_path mount round prefix = codes "/mounts/" ++ mount ++ codes "/blocks/" ++ decimal round ++ 47 ∷ prefix

abbrev pub index_request : List ℕ → List ℕ → ℕ → List ℕ → List ℕ
index_request token mount round prefix = request_text (codes "GET") (index_path mount round prefix) (sent_as token) []

-- ---- asking until enough have given

-- as soon as so many of the servers have given, no other is asked
abbrev pub StopsAt : {X : Type 0} → (Said → Option X) → ℕ → List Said → Type 0
StopsAt gives enough said = (k : ℕ) → k < length said → length (filter_map gives (take k said)) < enough

abbrev pub is_failed : Said → Bool
is_failed Failed = true
is_failed Broken = false
is_failed (Answered r) = false

-- ---- putting a block

-- a text that is a locator of the block's digest and length
abbrev pub locator_for : List ℕ → List ℕ → Option (List ℕ)
locator_for block text =
    if is_locator text && bytes_eq (digest text) (md5 block) && (size text == length block) then Some text else None

-- The locator by which a server acknowledges the block: the body of a 200, with at most one newline at its end.
abbrev pub acknowledged : List ℕ → Said → Option (List ℕ)
acknowledged block Failed = None
acknowledged block Broken = None
acknowledged block (Answered r) = if r.status == 200 then locator_for block (strip_last 10 r.body) else None

-- neither failed nor acknowledged
abbrev pub declines : List ℕ → Said → Bool
declines block said = not (is_failed said) && is_none (acknowledged block said)

-- What a put comes to once these servers have said this. There are so many servers.
abbrev pub IsPut : List ℕ → ℕ → ℕ → List Said → Result PutDone ClientError → Type 0
IsPut block copies servers said (Ok done) =
    (done.locators ≡ filter_map (acknowledged block) said) × (length done.locators ≡ copies) × StopsAt (acknowledged block) copies said
IsPut block copies servers said (Err (error.TooFew acked failed refused)) =
    (length said ≡ servers) × (acked < copies) × (acked ≡ length (filter_map (acknowledged block) said))
    × (failed ≡ count_by is_failed said) × (refused ≡ count_by (declines block) said)
IsPut block copies servers said (Err (error.BadLocator at)) = ⊥
IsPut block copies servers said (Err error.NotFound) = ⊥
IsPut block copies servers said (Err (error.Unread wrong failed refused)) = ⊥
IsPut block copies servers said (Err error.LinkFault) = ⊥
IsPut block copies servers said (Err (error.Refused status)) = ⊥
IsPut block copies servers said (Err error.BadResponse) = ⊥
IsPut block copies servers said (Err (error.BadIndex at)) = ⊥
IsPut block copies servers said (Err error.CutIndex) = ⊥
IsPut block copies servers said (Err error.NoMemory) = ⊤

-- ---- getting a block

-- the body of a 200, where it has the digest asked for
abbrev pub given : List ℕ → Said → Option (List ℕ)
given block Failed = None
given block Broken = None
given block (Answered r) = if (r.status == 200) && bytes_eq (md5 r.body) block then Some r.body else None

abbrev pub is_missing : Said → Bool
is_missing Failed = false
is_missing Broken = false
is_missing (Answered r) = r.status == 404

-- another body, or a broken answer
abbrev pub is_wrong : List ℕ → Said → Bool
is_wrong block Failed = false
is_wrong block Broken = true
is_wrong block (Answered r) = (r.status == 200) && not (bytes_eq (md5 r.body) block)

-- a status that neither gives the block nor says that it isn't there
abbrev pub is_refusal : Said → Bool
is_refusal Failed = false
is_refusal Broken = false
is_refusal (Answered r) = not (r.status == 200) && not (r.status == 404)

-- What a get comes to once these servers have said this. There are so many servers.
abbrev pub IsGot : List ℕ → ℕ → List Said → Result (List ℕ) ClientError → Type 0
IsGot block servers said (Ok bytes) = (filter_map (given block) said ≡ bytes ∷ []) × StopsAt (given block) 1 said
IsGot block servers said (Err error.NotFound) = (length said ≡ servers) × (list_all is_missing said ≡ true)
IsGot block servers said (Err (error.Unread wrong failed refused)) =
    (length said ≡ servers) × (filter_map (given block) said ≡ []) × (list_all is_missing said ≡ false)
    × (wrong ≡ count_by (is_wrong block) said) × (failed ≡ count_by is_failed said) × (refused ≡ count_by is_refusal said)
IsGot block servers said (Err (error.BadLocator at)) = ⊥
IsGot block servers said (Err (error.TooFew acked failed refused)) = ⊥
IsGot block servers said (Err error.LinkFault) = ⊥
IsGot block servers said (Err (error.Refused status)) = ⊥
IsGot block servers said (Err error.BadResponse) = ⊥
IsGot block servers said (Err (error.BadIndex at)) = ⊥
IsGot block servers said (Err error.CutIndex) = ⊥
IsGot block servers said (Err error.NoMemory) = ⊤

-- ---- fetching an index

-- what an index comes to that is read of the body of a 200
abbrev pub IsRead : Result (List Entry) Fault → Result (Vec Entry Global) ClientError → Type 0
IsRead said (Ok v) = said ≡ Ok v.items
IsRead said (Err (error.BadIndex at)) = said ≡ Err (bad at)
IsRead said (Err error.CutIndex) = said ≡ Err cut_off
IsRead said (Err error.NoMemory) = ⊤
IsRead said (Err (error.BadLocator at)) = ⊥
IsRead said (Err (error.TooFew acked failed refused)) = ⊥
IsRead said (Err error.NotFound) = ⊥
IsRead said (Err (error.Unread wrong failed refused)) = ⊥
IsRead said (Err error.LinkFault) = ⊥
IsRead said (Err (error.Refused status)) = ⊥
IsRead said (Err error.BadResponse) = ⊥

abbrev pub IsFetched : Said → Result (Vec Entry Global) ClientError → Type 0
IsFetched Failed result = result ≡ Err error.LinkFault
IsFetched Broken result = result ≡ Err error.BadResponse
IsFetched (Answered r) result =
    (r.status ≡ 200 → IsRead (index_of r.body) result) × (r.status ≢ 200 → result ≡ Err (error.Refused r.status))

-- ---- whole calls

-- nothing is said where memory is refused
abbrev pub ButForMemory : {X : Type 0} → Result X ClientError → Type 0 → Type 0
ButForMemory (Err error.NoMemory) P = ⊤
ButForMemory result P = P

-- the servers that were asked are the first ones of an order, and what they said comes to this
pub record Asks (order request : List ℕ) (before now : Option (List Exchange)) (outcome : List Said → Type 0) : Type 0 where
  pub said : List Said
  pub heard : HaveSaid (take (length said) order) request before now said
  pub comes_to : outcome said

abbrev pub IsPutAnswer : Configuration → List ℕ → List ℕ → ℕ → Option (List Exchange) → Option (List Exchange) → Result PutDone ClientError → Type 0
IsPutAnswer c token block copies before now result =
    ButForMemory result (Asks (servers_for c (md5 block)) (put_request token block) before now
    (λ said. IsPut block copies (length (servers_for c (md5 block))) said result))

-- a text that isn't a locator is refused, and nobody is asked
abbrev pub IsGetAnswer : Configuration → List ℕ → List ℕ → Option (List Exchange) → Option (List Exchange) → Result (List ℕ) ClientError → Type 0
IsGetAnswer c token text before now (Err (error.BadLocator at)) =
    (is_locator text ≡ false) × (at ≡ locator_prefix_len text) × Grows before now []
IsGetAnswer c token text before now result =
    (is_locator text ≡ true) × ButForMemory result (Asks (servers_for c (digest text)) (get_request token text) before now
    (λ said. IsGot (digest text) (length (servers_for c (digest text))) said result))

-- the server of a mount
abbrev pub server_of : Configuration → List ℕ → Option ℕ
server_of c mount = option_map (λ m. m.server) (find (λ m. bytes_eq m.uuid mount) c.mounts)

-- this server was asked, and what it said comes to this
abbrev pub IsFetchedFrom : ℕ → List ℕ → Option (List Exchange) → Option (List Exchange) → Result (Vec Entry Global) ClientError → Type 0
IsFetchedFrom server request before now result =
    ButForMemory result ((said : Said) × HaveSaid (server ∷ []) request before now (said ∷ []) × IsFetched said result)

abbrev pub IsFetchAnswer : Configuration → List ℕ → ℕ → List ℕ → Option (List Exchange) → Option (List Exchange) → Result (Vec Entry Global) ClientError → Type 0
IsFetchAnswer c mount round prefix before now result =
    IfSome (server_of c mount) (λ server. IsFetchedFrom server (index_request c.system_token mount round prefix) before now result)

-- an error that blames a failed call of the link
abbrev pub BlamesLink : ClientError → Type 0
BlamesLink (error.TooFew acked failed refused) = 0 < failed
BlamesLink (error.Unread wrong failed refused) = 0 < failed
BlamesLink error.LinkFault = ⊤
BlamesLink (error.BadLocator at) = ⊥
BlamesLink error.NotFound = ⊥
BlamesLink (error.Refused status) = ⊥
BlamesLink error.BadResponse = ⊥
BlamesLink (error.BadIndex at) = ⊥
BlamesLink error.CutIndex = ⊥
BlamesLink error.NoMemory = ⊥
