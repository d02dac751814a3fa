-- What a line's command names: an opening names devices that there are, and a name that no line has opened, `command-names`.
use Rattle.std.proofs.Common.{◌≡◌, ◌<◌, ℕ, Bool, true, false, List, length, Option, None, Some, IfSome, refl, option_and_then}
use Rattle.std.specs.Prelude.{⊤, option_map, is_some, is_none, if◌then◌else◌, codes}
use Rattle.std.specs.Str.{bytes_eq}
use Rattle.serde_json.specs.Data.{Data}
use Rattle.serde_json.specs.Find.{get}
use Rattle.keep_spec.specs.Config.{Configuration}
use Rattle.keep_spec.specs.Json.{has_members, text_at, truth_or, value_of}
use Rattle.keep_event.specs.declared.table.SaveRequest.{SaveRequest}
use Rattle.keep_history.specs.declared.task.Command.{Command}
use Rattle.keep_history.specs.declared.task.Command.TheVariants as C
use Rattle.keep_history.specs.declared.task.Opening.{Opening}
use Rattle.keep_history.specs.declared.task.Opening.TheVariants as Open
use Rattle.keep_history.specs.Names.{Named, Seen, at_name}
use Rattle.keep_history.specs.Script.{BlockRequest, block_request_of_data, bytes_of_text, command_of, command_of_data, device_of_data, digest_at, digest_of_data, finishes, locator_of_data, members_if, name_at, number_of_data, open_named, opening_of_kind, opens, reading_at, request_of_data, server_at, steps, table_opening_of_kind, round_opening_of_kind, time_at, put_of_data, get_of_data, touch_of_data, untrash_of_data, save_of_data, update_of_data, read_of_data, trash_of_data, restore_of_data, sweep_of_data, balance_of_data}
use Rattle.keep_rounds.proofs.Openings.{NamesDevice, device-names}

module _ {Y : Type 0} (P : Y → Type 0) where
  then-has : {X : Type 0} (o : Option X) (f : X → Option Y) → ((x : X) → IfSome (f x) P) → IfSome (option_and_then f o) P
  then-has None f h = tt
  then-has (Some x) f h = h x

  map-has : {X : Type 0} (o : Option X) (f : X → Y) → ((x : X) → P (f x)) → IfSome (option_map f o) P
  map-has None f h = tt
  map-has (Some x) f h = h x

  map-more : {X : Type 0} (R : X → Type 0) (o : Option X) (f : X → Y) → ((x : X) → R x → P (f x)) → IfSome o R → IfSome (option_map f o) P
  map-more R None f h r = tt
  map-more R (Some x) f h r = h x r

  if-has : (b : Bool) (x y : Option Y) → (b ≡ true → IfSome x P) → IfSome y P → IfSome (if b then x else y) P
  if-has true x y h k = h refl
  if-has false x y h k = k

none-is : {X : Type 0} (o : Option X) → is_none o ≡ true → o ≡ None
none-is None e = refl
none-is (Some x) e = absurd (no e)
  where
    no : false ≡ true → ⊥
    no e = cc

module _ (c : Configuration) where
  abbrev OpeningHas : Option Opening → Type 0
  OpeningHas o = IfSome o (NamesDevice c)

  -- ---- openings of blocks
  put-has : (d : Data) → OpeningHas (put_of_data c d)
  put-has d =
      let last : List ℕ → ℕ → List ℕ → Option (List ℕ) → Option Opening = λ token server bytes hash. if has_members (members_if 6 (is_some hash)) d then Some (Open.Put token server bytes hash) else None in
      let hashed : List ℕ → ℕ → List ℕ → Option Opening = λ token server bytes. option_and_then (last token server bytes) (digest_of_data (get (codes "digest") d)) in
      let filled : List ℕ → ℕ → Option Opening = λ token server. option_and_then (hashed token server) (option_and_then bytes_of_text (text_at (codes "bytes") d)) in
      let served : List ℕ → Option Opening = λ token. option_and_then (filled token) (server_at c d) in
      then-has (NamesDevice c) (text_at (codes "token") d) served (λ token. then-has (NamesDevice c) (server_at c d) (filled token) (λ server. then-has (NamesDevice c) (option_and_then bytes_of_text (text_at (codes "bytes") d)) (hashed token server) (λ bytes.
      then-has (NamesDevice c) (digest_of_data (get (codes "digest") d)) (last token server bytes) (λ hash. if-has (NamesDevice c) (has_members (members_if 6 (is_some hash)) d) (Some (Open.Put token server bytes hash)) None (λ e. tt) tt))))

  get-has : (names : Named Seen) (d : Data) → OpeningHas (get_of_data c names d)
  get-has names d = map-has (NamesDevice c) (block_request_of_data c names d) (λ r. Open.Get r.0 r.1 r.2) (λ r. tt)

  touch-has : (names : Named Seen) (d : Data) → OpeningHas (touch_of_data c names d)
  touch-has names d = map-has (NamesDevice c) (block_request_of_data c names d) (λ r. Open.Touch r.0 r.1 r.2) (λ r. tt)

  untrash-has : (d : Data) → OpeningHas (untrash_of_data c d)
  untrash-has d =
      let last : List ℕ → ℕ → List ℕ → Option Opening = λ token server hash. if has_members 6 d then Some (Open.Untrash token server hash) else None in
      let hashed : List ℕ → ℕ → Option Opening = λ token server. option_and_then (last token server) (digest_at (codes "digest") d) in
      let served : List ℕ → Option Opening = λ token. option_and_then (hashed token) (server_at c d) in
      then-has (NamesDevice c) (text_at (codes "token") d) served (λ token. then-has (NamesDevice c) (server_at c d) (hashed token) (λ server.
      then-has (NamesDevice c) (digest_at (codes "digest") d) (last token server) (λ hash. if-has (NamesDevice c) (has_members 6 d) (Some (Open.Untrash token server hash)) None (λ e. tt) tt)))

  -- ---- openings of the table
  save-has : (names : Named Seen) (d : Data) → OpeningHas (save_of_data names d)
  save-has names d =
      if-has (NamesDevice c) (has_members (members_if 6 (is_some (get (codes "portable") d))) d) (option_map Open.Save (request_of_data names d)) None
      (λ e. map-has (NamesDevice c) (request_of_data names d) Open.Save (λ r. tt)) tt

  update-has : (names : Named Seen) (d : Data) → OpeningHas (update_of_data names d)
  update-has names d =
      let last : List ℕ → Bool → Option Opening = λ collection preserve. option_map (Open.Update collection preserve) (request_of_data names d) in
      let kept : List ℕ → Option Opening = λ collection. option_and_then (last collection) (truth_or false (codes "preserve") d) in
      if-has (NamesDevice c) (has_members (members_if (members_if 7 (is_some (get (codes "portable") d))) (is_some (get (codes "preserve") d))) d) (option_and_then kept (text_at (codes "collection") d)) None
      (λ e. then-has (NamesDevice c) (text_at (codes "collection") d) kept (λ collection. then-has (NamesDevice c) (truth_or false (codes "preserve") d) (last collection) (λ preserve. map-has (NamesDevice c) (request_of_data names d) (Open.Update collection preserve) (λ r. tt)))) tt

  read-has : (d : Data) → OpeningHas (read_of_data d)
  read-has d =
      let last : List ℕ → List ℕ → Option Opening = λ token collection. option_map (Open.Read token collection) (number_of_data (get (codes "version") d)) in
      let named : List ℕ → Option Opening = λ token. option_and_then (last token) (text_at (codes "collection") d) in
      if-has (NamesDevice c) (has_members (members_if 5 (is_some (get (codes "version") d))) d) (option_and_then named (text_at (codes "token") d)) None
      (λ e. then-has (NamesDevice c) (text_at (codes "token") d) named (λ token. then-has (NamesDevice c) (text_at (codes "collection") d) (last token) (λ collection. map-has (NamesDevice c) (number_of_data (get (codes "version") d)) (Open.Read token collection) (λ r. tt)))) tt

  trash-has : (d : Data) → OpeningHas (trash_of_data d)
  trash-has d =
      let last : List ℕ → List ℕ → ℕ → Option Opening = λ token collection trash_at. option_map (Open.Trash token collection trash_at) (time_at (codes "delete_at") d) in
      let timed : List ℕ → List ℕ → Option Opening = λ token collection. option_and_then (last token collection) (time_at (codes "trash_at") d) in
      let named : List ℕ → Option Opening = λ token. option_and_then (timed token) (text_at (codes "collection") d) in
      if-has (NamesDevice c) (has_members 7 d) (option_and_then named (text_at (codes "token") d)) None
      (λ e. then-has (NamesDevice c) (text_at (codes "token") d) named (λ token. then-has (NamesDevice c) (text_at (codes "collection") d) (timed token) (λ collection. then-has (NamesDevice c) (time_at (codes "trash_at") d) (last token collection) (λ trash_at.
      map-has (NamesDevice c) (time_at (codes "delete_at") d) (Open.Trash token collection trash_at) (λ r. tt))))) tt

  restore-has : (d : Data) → OpeningHas (restore_of_data d)
  restore-has d =
      let last : List ℕ → Option Opening = λ token. option_map (Open.Restore token) (text_at (codes "collection") d) in
      if-has (NamesDevice c) (has_members 5 d) (option_and_then last (text_at (codes "token") d)) None
      (λ e. then-has (NamesDevice c) (text_at (codes "token") d) last (λ token. map-has (NamesDevice c) (text_at (codes "collection") d) (Open.Restore token) (λ r. tt))) tt

  table-has : (names : Named Seen) (kind : List ℕ) (d : Data) → OpeningHas (table_opening_of_kind names kind d)
  table-has names kind d =
      let sweep : Option Opening = if bytes_eq kind (codes "sweep") then sweep_of_data d else None in
      let restore : Option Opening = if bytes_eq kind (codes "restore") then restore_of_data d else sweep in
      let trash : Option Opening = if bytes_eq kind (codes "trash") then trash_of_data d else restore in
      let read : Option Opening = if bytes_eq kind (codes "read") then read_of_data d else trash in
      let update : Option Opening = if bytes_eq kind (codes "update") then update_of_data names d else read in
      if-has (NamesDevice c) (bytes_eq kind (codes "save")) (save_of_data names d) update (λ e. save-has names d)
      (if-has (NamesDevice c) (bytes_eq kind (codes "update")) (update_of_data names d) read (λ e. update-has names d)
      (if-has (NamesDevice c) (bytes_eq kind (codes "read")) (read_of_data d) trash (λ e. read-has d)
      (if-has (NamesDevice c) (bytes_eq kind (codes "trash")) (trash_of_data d) restore (λ e. trash-has d)
      (if-has (NamesDevice c) (bytes_eq kind (codes "restore")) (restore_of_data d) sweep (λ e. restore-has d)
      (if-has (NamesDevice c) (bytes_eq kind (codes "sweep")) (sweep_of_data d) None (λ e. if-has (NamesDevice c) (has_members 3 d) (Some Open.Sweep) None (λ e. tt) tt) tt)))))

  -- ---- openings of rounds
  abbrev IsBelow : ℕ → Type 0
  IsBelow device = device < length c.devices

  round-has : (names : Named Seen) (kind : List ℕ) (d : Data) → OpeningHas (round_opening_of_kind c names kind d)
  round-has names kind d =
      let restart : Option Opening = if bytes_eq kind (codes "restart") then option_map Open.Restart (device_of_data c d) else table_opening_of_kind names kind d in
      let empty : Option Opening = if bytes_eq kind (codes "empty_worker") then option_map Open.EmptyWorker (device_of_data c d) else restart in
      let pull : Option Opening = if bytes_eq kind (codes "pull_worker") then option_map Open.PullWorker (device_of_data c d) else empty in
      let trash : Option Opening = if bytes_eq kind (codes "trash_worker") then option_map Open.TrashWorker (device_of_data c d) else pull in
      if-has (NamesDevice c) (bytes_eq kind (codes "balance")) (balance_of_data d) trash (λ e. if-has (NamesDevice c) (has_members 3 d) (Some Open.Balance) None (λ e. tt) tt)
      (if-has (NamesDevice c) (bytes_eq kind (codes "trash_worker")) (option_map Open.TrashWorker (device_of_data c d)) pull (λ e. map-more (NamesDevice c) IsBelow (device_of_data c d) Open.TrashWorker (λ n lt. lt) (device-names c d))
      (if-has (NamesDevice c) (bytes_eq kind (codes "pull_worker")) (option_map Open.PullWorker (device_of_data c d)) empty (λ e. map-more (NamesDevice c) IsBelow (device_of_data c d) Open.PullWorker (λ n lt. lt) (device-names c d))
      (if-has (NamesDevice c) (bytes_eq kind (codes "empty_worker")) (option_map Open.EmptyWorker (device_of_data c d)) restart (λ e. map-more (NamesDevice c) IsBelow (device_of_data c d) Open.EmptyWorker (λ n lt. lt) (device-names c d))
      (if-has (NamesDevice c) (bytes_eq kind (codes "restart")) (option_map Open.Restart (device_of_data c d)) (table_opening_of_kind names kind d) (λ e. map-more (NamesDevice c) IsBelow (device_of_data c d) Open.Restart (λ n lt. lt) (device-names c d))
      (table-has names kind d)))))

  kind-has : (names : Named Seen) (kind : List ℕ) (d : Data) → OpeningHas (opening_of_kind c names kind d)
  kind-has names kind d =
      let untrash : Option Opening = if bytes_eq kind (codes "untrash") then untrash_of_data c d else round_opening_of_kind c names kind d in
      let touch : Option Opening = if bytes_eq kind (codes "touch") then touch_of_data c names d else untrash in
      let get_one : Option Opening = if bytes_eq kind (codes "get") then get_of_data c names d else touch in
      if-has (NamesDevice c) (bytes_eq kind (codes "put")) (put_of_data c d) get_one (λ e. put-has d)
      (if-has (NamesDevice c) (bytes_eq kind (codes "get")) (get_of_data c names d) touch (λ e. get-has names d)
      (if-has (NamesDevice c) (bytes_eq kind (codes "touch")) (touch_of_data c names d) untrash (λ e. touch-has names d)
      (if-has (NamesDevice c) (bytes_eq kind (codes "untrash")) (untrash_of_data c d) (round_opening_of_kind c names kind d) (λ e. untrash-has d) (round-has names kind d))))

  -- ---- commands
  module _ (names : Named Seen) where
    abbrev pub CommandNames : Command → Type 0
    CommandNames (C.Open name reading opening) = (at_name name names ≡ None) × NamesDevice c opening
    CommandNames (C.Step name reading) = ⊤
    CommandNames (C.Finish name reading) = ⊤

    opens-names : (d : Data) → IfSome (opens c names d) CommandNames
    opens-names d =
        let core : List ℕ → ℕ → List ℕ → Option Command = λ name reading kind. if is_none (at_name name names) then option_map (C.Open name reading) (opening_of_kind c names kind d) else None in
        let timed : List ℕ → ℕ → Option Command = λ name reading. option_and_then (core name reading) (text_at (codes "do") d) in
        let called : List ℕ → Option Command = λ name. option_and_then (timed name) (reading_at d) in
        then-has CommandNames (name_at (codes "open") d) called (λ name. then-has CommandNames (reading_at d) (timed name) (λ reading. then-has CommandNames (text_at (codes "do") d) (core name reading) (λ kind.
        if-has CommandNames (is_none (at_name name names)) (option_map (C.Open name reading) (opening_of_kind c names kind d)) None
        (λ e. map-more CommandNames (NamesDevice c) (opening_of_kind c names kind d) (C.Open name reading) (λ opening h. (none-is (at_name name names) e, h)) (kind-has names kind d)) tt)))

    data-names : (d : Data) → IfSome (command_of_data c names d) CommandNames
    data-names d =
        if-has CommandNames (is_some (get (codes "open") d)) (opens c names d) (if is_some (get (codes "step") d) then steps names d else finishes names d) (λ e. opens-names d)
        (if-has CommandNames (is_some (get (codes "step") d)) (steps names d) (finishes names d)
        (λ e. map-has CommandNames (open_named (codes "step") names d) (λ t. C.Step t.0 t.1) (λ t. tt)) (map-has CommandNames (open_named (codes "finish") names d) (λ t. C.Finish t.0 t.1) (λ t. tt)))

    pub command-names : (text : List ℕ) → IfSome (command_of c names text) CommandNames
    unfolding command_of
    command-names text = then-has CommandNames (value_of text) (command_of_data c names) data-names
