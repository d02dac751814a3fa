-- What the readers of messages show.
use Rattle.std.specs.Prelude.{ℕ, List, drop, Option}
use Rattle.std.specs.Io.KnownBytes.{prepend_known}
use Rattle.keep_base.specs.declared.stream.Source.{Ghosts}
use Rattle.keep_wire.specs.declared.message.WireError.{WireError}
use Rattle.keep_wire.specs.declared.reader.Reader.{Reader}
use Rattle.keep_wire.specs.declared.requests.Requests.{Requests}
use Rattle.keep_wire.specs.declared.replies.Replies.{Replies}

-- the bytes of which no message was returned yet, where the source tells its bytes
abbrev pub reader_left : {R : Type 0} {G : Ghosts R} → Reader R G → Option (List ℕ)
reader_left {R} {G} reader = prepend_known (drop reader.start reader.pending.items) (G.left reader.source.now)

-- the error that it returns from now on
abbrev pub reader_failed : {R : Type 0} {G : Ghosts R} → Reader R G → Option WireError
reader_failed reader = reader.failed

-- the source, and the reference to it
abbrev pub reader_source : {R : Type 0} {G : Ghosts R} → Reader R G → R
reader_source reader = reader.source.now

abbrev pub reader_name : {R : Type 0} {G : Ghosts R} → Reader R G → ℕ
reader_name reader = reader.source.ghost_name

-- ---- of requests

abbrev pub requests_left : {R : Type 0} {G : Ghosts R} → Requests R G → Option (List ℕ)
requests_left requests = reader_left requests.reader

abbrev pub requests_failed : {R : Type 0} {G : Ghosts R} → Requests R G → Option WireError
requests_failed requests = reader_failed requests.reader

abbrev pub requests_source : {R : Type 0} {G : Ghosts R} → Requests R G → R
requests_source requests = reader_source requests.reader

abbrev pub requests_name : {R : Type 0} {G : Ghosts R} → Requests R G → ℕ
requests_name requests = reader_name requests.reader

-- ---- of responses

abbrev pub replies_left : {R : Type 0} {G : Ghosts R} → Replies R G → Option (List ℕ)
replies_left replies = reader_left replies.reader

abbrev pub replies_failed : {R : Type 0} {G : Ghosts R} → Replies R G → Option WireError
replies_failed replies = reader_failed replies.reader

abbrev pub replies_source : {R : Type 0} {G : Ghosts R} → Replies R G → R
replies_source replies = reader_source replies.reader

abbrev pub replies_name : {R : Type 0} {G : Ghosts R} → Replies R G → ℕ
replies_name replies = reader_name replies.reader
