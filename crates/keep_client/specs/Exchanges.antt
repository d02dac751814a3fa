-- The exchanges that a link tells, and what each call makes of the last. This project's own form.
use Rattle.std.specs.Prelude.{◌≡◌, ℕ, ◌==◌, ◌&&◌, ◌||◌, not, Bool, true, false, List, [], ◌++◌, length, take, Option, None, Some, Result, Ok, Err, ⊤}
use Rattle.keep_client.specs.declared.link.Exchange.{Exchange}
use Rattle.keep_client.specs.declared.link.Standing.{Standing}
use Rattle.keep_client.specs.declared.link.Standing.TheVariants as standing

-- a link that tells its exchanges tells these
abbrev pub IsTold : List Exchange → Option (List Exchange) → Type 0
IsTold exchanges None = ⊤
IsTold exchanges (Some told) = told ≡ exchanges

-- a link that tells its exchanges tells these after those that it told
abbrev pub Grows : Option (List Exchange) → Option (List Exchange) → List Exchange → Type 0
Grows before now more = (es : List Exchange) → IsTold es before → IsTold (es ++ more) now

abbrev pub begun : ℕ → Bool → Exchange
begun server failed = record { server = server; written = []; read = []; ended = false; failed = failed }

abbrev pub after_write : {E : Type 0} → Result ℕ E → List ℕ → Exchange → Exchange
after_write (Ok n) bytes e = record e { written = e.written ++ take n bytes }
after_write (Err error) bytes e = record e { failed = true }

-- a read into a buffer that isn't empty meets the end where it gives nothing
abbrev pub after_read : {E : Type 0} → Result ℕ E → List ℕ → Exchange → Exchange
after_read (Ok n) buffer e =
    record e { read = e.read ++ take n buffer; ended = e.ended || ((n == 0) && not (length buffer == 0)) }
after_read (Err error) buffer e = record e { failed = true }

-- ---- whether an exchange stands open

-- after an opening
abbrev pub opened : {T E : Type 0} → Result T E → Standing
opened (Ok x) = standing.Open
opened (Err error) = standing.Closed

-- after a call of an exchange that stood open
abbrev pub called : {T E : Type 0} → Result T E → Standing
called (Ok x) = standing.Open
called (Err error) = standing.Failed
