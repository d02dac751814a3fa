-- Requests (RFC 9112, section 3), and the requests of a connection.
use Rattle.std.specs.Prelude.{◌≡◌, ℕ, ◌==◌, ◌||◌, not, Bool, List, ◌++◌, ◌∷◌, codes, Option, Result}
use Rattle.std.specs.Str.{bytes_eq}
use Rattle.httparse.specs.Ascii.{space}
use Rattle.httparse.specs.Grammar.{AllPass, IsToken, LineEnd, print_blank, RequestHead, IsRequestHead, print_request}
use Rattle.keep_wire.specs.Fields.{token_of, range_of, closes}
use Rattle.keep_wire.specs.Messages as messages
use Rattle.keep_wire.specs.Messages.{Grammar, pairs_of, IsMessage}
use Rattle.keep_wire.specs.declared.message.Request.{Request}
use Rattle.keep_wire.specs.declared.message.WireError.{WireError}

-- a byte of a target while it is still being read: neither a space nor the end of a line
abbrev pub is_target_byte : ℕ → Bool
is_target_byte b = not (b == 32 || b == 13 || b == 10)

-- The bytes end inside the target of a request line, whatever bytes it has. A target is judged where it ends.
abbrev pub EndsWithinTarget : List ℕ → Type 0
EndsWithinTarget bytes =
    (blank : List LineEnd) × (method : List ℕ) × (target : List ℕ)
    × IsToken method × AllPass is_target_byte target × (bytes ≡ print_blank blank ++ (method ++ space ∷ target))

-- PUT and POST need a length
abbrev pub needs_length : List ℕ → Bool
needs_length method = bytes_eq method (codes "PUT") || bytes_eq method (codes "POST")

abbrev pub request_grammar : Grammar RequestHead
request_grammar = record {
  valid = IsRequestHead;
  print = print_request;
  fields = λ h. h.fields;
  waits = EndsWithinTarget;
  needs_length = λ h. needs_length h.method;
}

-- the request that a head and a body make
abbrev pub request_of : RequestHead → List ℕ → Request
request_of h body = record {
  method = h.method;
  path = h.target;
  token = token_of (pairs_of request_grammar h);
  range = range_of (pairs_of request_grammar h);
  body = body;
  close = closes h.minor (pairs_of request_grammar h);
}

-- the bytes begin with this request, and these are left
abbrev pub IsRequest : List ℕ → Request → List ℕ → Type 0
IsRequest bytes request left = IsMessage request_grammar request_of bytes request left

-- the next request of known bytes, or why there is none
abbrev pub IsNext : Option (List ℕ) → Result (Option Request) WireError → Option (List ℕ) → Type 0
IsNext known result left = messages.IsNext request_grammar request_of known result left
