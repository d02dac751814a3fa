-- The text of a message (RFC 9112), in the one form that this project writes.
use Rattle.std.specs.Prelude.{◌≡◌, ℕ, ◌<◌, ◌⊎◌, ◌==◌, ◌||◌, ◌&&◌, nat_lt, Bool, false, List, [], ◌∷◌, ◌++◌, length, codes, decimal, unwrap_or, Option, None, Some}
use Rattle.std.specs.Char.{is_ascii_alphanumeric}
use Rattle.httparse.specs.Grammar.{AllPass}
use Rattle.http.specs.StatusCode.{code_digits, reason_phrase}
use Rattle.keep_wire.specs.declared.message.Request.{Request}
use Rattle.keep_wire.specs.declared.message.Response.{Response}

-- a byte of a token that can be written: visible ASCII
abbrev pub is_visible : ℕ → Bool
is_visible b = nat_lt 32 b && nat_lt b 127

abbrev pub is_path_byte : ℕ → Bool
is_path_byte b = is_ascii_alphanumeric b || b == 47 || b == 43 || b == 64 || b == 95 || b == 45

-- what `write_request` accepts
pub record CanBeSent (method path token : List ℕ) : Type 0 where
  pub known : (method ≡ codes "GET") ⊎ (method ≡ codes "PUT") ⊎ (method ≡ codes "TOUCH") ⊎ (method ≡ codes "POST")
  pub path_some : 0 < length path
  pub path_plain : AllPass is_path_byte path
  pub token_visible : AllPass is_visible token

-- a line with the token, unless it is empty
abbrev pub authorization : List ℕ → List ℕ
authorization [] = []
authorization (t ∷ ts) = codes "Authorization: Bearer " ++ (t ∷ ts) ++ codes "\r\n"

abbrev pub length_line : ℕ → List ℕ
length_line n = codes "Content-Length: " ++ decimal n ++ codes "\r\n"

abbrev pub request_head : List ℕ → List ℕ → List ℕ → ℕ → List ℕ
request_head method path token n = method ++ codes " " ++ path ++ codes " HTTP/1.1\r\n" ++ authorization token ++ length_line n ++ codes "\r\n"

abbrev pub request_text : List ℕ → List ℕ → List ℕ → List ℕ → List ℕ
request_text method path token body = request_head method path token (length body) ++ body

abbrev pub sent_token : List ℕ → Option (List ℕ)
sent_token [] = None
sent_token (t ∷ ts) = Some (t ∷ ts)

-- the request that the text reads back as
abbrev pub sent : List ℕ → List ℕ → List ℕ → List ℕ → Request
sent method path token body = record { method = method; path = path; token = sent_token token; range = None; body = body; close = false }

-- ---- responses

-- the canonical phrase of a status that has one
abbrev pub phrase_of : ℕ → List ℕ
phrase_of n = unwrap_or (reason_phrase n) []

abbrev pub response_head : ℕ → ℕ → List ℕ
response_head status n = codes "HTTP/1.1 " ++ code_digits status ++ codes " " ++ phrase_of status ++ codes "\r\n" ++ length_line n ++ codes "\r\n"

abbrev pub response_text : ℕ → List ℕ → List ℕ
response_text status body = response_head status (length body) ++ body

-- the response that the text reads back as
abbrev pub answered : ℕ → List ℕ → Response
answered status body = record { status = status; body = body }
