-- A target that the parser still reads.
use Rattle.std.specs.Prelude.{IsTrue}
use Rattle.std.proofs.Common.{◌≡◌, ℕ, true, List, ◌∷◌, inl, inr, ◌⊎◌, ◌∙◌, append_assoc, arith}
use Rattle.std.proofs.lemmas.List.Elements.{All-weaker}
use Rattle.std.proofs.lemmas.Bool.Decides.{nat_tests}
use Rattle.httparse.specs.Grammar.{is_uri_byte, print_blank, MayBecomeRequest, EndsInTarget}
use Rattle.keep_wire.specs.Messages.{MayBecome}
use Rattle.keep_wire.specs.Requests.{is_target_byte, EndsWithinTarget, request_grammar}

-- a byte that httparse takes in a target ends none
uri-target : (b : ℕ) → is_uri_byte b ≡ true → is_target_byte b ≡ true
uri-target b h = grind (arith, nat_tests)

pub within-from_in_target : (bytes : List ℕ) → EndsInTarget bytes → EndsWithinTarget bytes
within-from_in_target bytes (blank, method, target, token, plain, whole) =
    (blank, method, target, token, All-weaker (λ (x : ℕ). IsTrue (is_uri_byte x)) (λ (x : ℕ). IsTrue (is_target_byte x)) uri-target target plain, whole ∙ append_assoc (print_blank blank) method (32 ∷ target))

pub goes_on-from_unfinished : (bytes : List ℕ) → MayBecomeRequest bytes → EndsWithinTarget bytes ⊎ MayBecome request_grammar bytes
goes_on-from_unfinished bytes may = elim may as (λ _. EndsWithinTarget bytes ⊎ MayBecome request_grammar bytes) [ inl h ↦ inr h | inr t ↦ inl (within-from_in_target bytes t) ]
