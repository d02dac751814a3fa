-- Responses (RFC 9112, section 4). A response without a Content-Length is refused, which is this project's own rule.
use Rattle.std.specs.Prelude.{◌≡◌, ◌≤◌, ◌⊎◌, ℕ, true, List, [], length, drop, Option, Result}
use Rattle.httparse.specs.Grammar.{status_code, ResponseHead, IsResponseHead, print_response}
use Rattle.keep_wire.specs.Messages as messages
use Rattle.keep_wire.specs.Messages.{Grammar, HasHead, HasLength, body_length, IsMessage, IsCutHead, IsBadHead, IsLengthRequired, IsBodyTooLong}
use Rattle.keep_wire.specs.declared.beginning.Beginning.{Beginning}
use Rattle.keep_wire.specs.declared.beginning.Beginning.TheVariants.{Open, Head, Broken}
use Rattle.keep_wire.specs.declared.message.TheConstants.{BODY_MAX}
use Rattle.keep_wire.specs.declared.message.Response.{Response}
use Rattle.keep_wire.specs.declared.message.WireError.{WireError}

abbrev pub response_grammar : Grammar ResponseHead
response_grammar = record {
  valid = IsResponseHead;
  print = print_response;
  fields = λ h. h.fields;
  waits = λ bytes. ⊥;
  needs_length = λ h. true;
}

-- the response that a head and a body make
abbrev pub response_of : ResponseHead → List ℕ → Response
response_of h body = record { status = status_code h; body = body }

-- the bytes begin with this response, and these are left
abbrev pub IsResponse : List ℕ → Response → List ℕ → Type 0
IsResponse bytes response left = IsMessage response_grammar response_of bytes response left

-- the next response of known bytes, or why there is none
abbrev pub IsNext : Option (List ℕ) → Result (Option Response) WireError → Option (List ℕ) → Type 0
IsNext known result left = messages.IsNext response_grammar response_of known result left

-- the bytes begin no response, whatever follows them
abbrev pub IsBroken : List ℕ → Type 0
IsBroken bytes =
    IsBadHead response_grammar bytes ⊎ IsLengthRequired response_grammar bytes ⊎ ((n : ℕ) × IsBodyTooLong response_grammar bytes n)

-- the bytes begin with a head of this status and this many bytes, and it says that the body has so many
pub record IsHeadOf (bytes : List ℕ) (status size body : ℕ) : Type 0 where
  pub head : ResponseHead
  pub has : HasHead response_grammar bytes head (drop size bytes)
  pub within : size ≤ length bytes
  pub status_is : status ≡ status_code head
  pub length_there : HasLength response_grammar head
  pub length_is : body ≡ body_length response_grammar head
  pub short : body ≤ BODY_MAX

-- how far some bytes have come towards a response
abbrev pub IsBeginning : List ℕ → Beginning → Type 0
IsBeginning bytes Open = (bytes ≡ []) ⊎ IsCutHead response_grammar bytes
IsBeginning bytes (Head status size body) = IsHeadOf bytes status size body
IsBeginning bytes Broken = IsBroken bytes
