-- The laws of requests and of responses.
use Rattle.std.specs.Prelude.{IsTrue, Result}
use Rattle.std.proofs.Common.{◌≡◌, ℕ, List, [], ◌∷◌, Option, Some, None, Ok, Err, refl, sym, ap, ◌∙◌, subst, arith, inl, inr}
use Rattle.std.proofs.lemmas.Bool.{false≢true}
use Rattle.std.proofs.lemmas.List.Elements.{All-nil, All-cons}
use Rattle.std.specs.Char.{is_ascii_digit}
use Rattle.httparse.specs.Grammar.{is_token_byte, is_value_byte, IsToken, IsField, lf, ResponseHead, IsResponseHead}
use Rattle.keep_wire.specs.declared.message.Request.{Request}
use Rattle.keep_wire.specs.declared.message.WireError.{WireError}
use Rattle.keep_wire.specs.Messages.{AreDetermined}
use Rattle.keep_wire.specs.Requests.{request_grammar, request_of}
use Rattle.keep_wire.specs.Replies.{response_grammar, response_of}
use Rattle.keep_wire.specs.Sessions.{closed, clean, broken, AreRequests, AreRequestsDetermined}
use Rattle.keep_wire.specs.TargetLaws.{short_head, short_reads}
use Rattle.keep_wire.proofs.Sent.{all_pass}
use Rattle.keep_wire.proofs.Determined.{determined}
use Rattle.keep_wire.proofs.RequestLines.{requests_lined}
use Rattle.keep_wire.proofs.ResponseLines.{responses_lined}

a_token : IsToken (97 ∷ [])
unfolding is_token_byte
a_token = (omega arith, All-cons (λ (x : ℕ). IsTrue (is_token_byte x)) 97 [] refl (All-nil (λ (x : ℕ). IsTrue (is_token_byte x))))

pub next_determined : AreDetermined request_grammar request_of
next_determined = determined request_grammar requests_lined request_of (short_head [] (97 ∷ [])) (short_reads [] (97 ∷ []) a_token).0

-- the shortest response
abbrev short_response : ResponseHead
short_response = record { blank = []; minor = 1; digits = 50 ∷ 48 ∷ 48 ∷ []; reason = None; line_end = lf; fields = []; last = lf }

short_valid : IsResponseHead short_response
short_valid = record {
  minor = omega arith;
  digits = (refl, all_pass is_ascii_digit (50 ∷ 48 ∷ 48 ∷ []) refl);
  reason = All-nil (λ (x : ℕ). IsTrue (is_value_byte x));
  fields = All-nil IsField;
}

pub next_response_determined : AreDetermined response_grammar response_of
next_response_determined = determined response_grammar responses_lined response_of short_response short_valid

-- ---- whole connections

abbrev ended : Result (Option Request) WireError
ended = Ok None

abbrev failed : WireError → Result (Option Request) WireError
failed e = Err e

abbrev given : Request → Result (Option Request) WireError
given q = Ok (Some q)

no_end_error : (e : WireError) → ended ≡ failed e → ⊥
no_end_error e x = cc

no_end_message : (q : Request) → ended ≡ given q → ⊥
no_end_message q x = cc

no_error_message : (e : WireError) (q : Request) → failed e ≡ given q → ⊥
no_error_message e q x = cc

error_same : (e f : WireError) → failed e ≡ failed f → e ≡ f
error_same e f x = cc

message_same : (q r : Request) → given q ≡ given r → q ≡ r
message_same q r x = cc

rest_same : (a b : List ℕ) → Some a ≡ Some b → a ≡ b
rest_same a b x = cc

pub whole_determined : AreRequestsDetermined
whole_determined bytes [] [] closed f x y = absurd x
whole_determined bytes [] [] clean closed x y = absurd y
whole_determined bytes [] [] clean clean x y = (refl, refl)
whole_determined bytes [] [] clean (broken e) x y = absurd (no_end_error e (next_determined bytes (Ok None) (Err e) (Some []) None tt y.0 (x, refl) y.1).0)
whole_determined bytes [] [] (broken e) closed x y = absurd y
whole_determined bytes [] [] (broken e) clean x y = absurd (no_end_error e (next_determined bytes (Ok None) (Err e) (Some []) None tt x.0 (y, refl) x.1).0)
whole_determined bytes [] [] (broken e) (broken f) x y = (refl, ap broken (error_same e f (next_determined bytes (Err e) (Err f) None None x.0 y.0 x.1 y.1).0))
whole_determined bytes [] (r ∷ rs) closed f x y = absurd x
whole_determined bytes [] (r ∷ rs) clean f x (left, is, on) = absurd (no_end_message r (next_determined bytes (Ok None) (Ok (Some r)) (Some []) (Some left) tt tt (x, refl) is).0)
whole_determined bytes [] (r ∷ rs) (broken e) f x (left, is, on) = absurd (no_error_message e r (next_determined bytes (Err e) (Ok (Some r)) None (Some left) x.0 tt x.1 is).0)
whole_determined bytes (q ∷ qs) [] e closed x y = absurd y
whole_determined bytes (q ∷ qs) [] e clean (left, is, on) y = absurd (no_end_message q (next_determined bytes (Ok None) (Ok (Some q)) (Some []) (Some left) tt tt (y, refl) is).0)
whole_determined bytes (q ∷ qs) [] e (broken f) (left, is, on) y = absurd (no_error_message f q (next_determined bytes (Err f) (Ok (Some q)) None (Some left) y.0 tt y.1 is).0)
whole_determined bytes (q ∷ qs) (r ∷ rs) e f (left, is, on) (right, is2, on2) =
    let both = next_determined bytes (Ok (Some q)) (Ok (Some r)) (Some left) (Some right) tt tt is is2 in
    let same : q ≡ r = message_same q r both.0 in
    let rest : left ≡ right = rest_same left right both.1 in
    elim on as (λ _. (q ∷ qs ≡ r ∷ rs) × (e ≡ f)) [
      | inl (close, none, e_is) ↦ elim on2 as (λ _. (q ∷ qs ≡ r ∷ rs) × (e ≡ f)) [
        | inl (close2, none2, f_is) ↦ (heads_same q r qs rs same (none ∙ sym none2), e_is ∙ sym f_is)
        | inr (open2, _) ↦ absurd (false≢true (sym open2 ∙ ap (λ (v : Request). v.close) (sym same) ∙ close))
      ]
      | inr (opens, more) ↦ elim on2 as (λ _. (q ∷ qs ≡ r ∷ rs) × (e ≡ f)) [
        | inl (close2, _, _) ↦ absurd (false≢true (sym opens ∙ ap (λ (v : Request). v.close) same ∙ close2))
        | inr (opens2, more2) ↦
            let tail = whole_determined right qs rs e f (subst (λ (v : List ℕ). AreRequests v qs e) rest more) more2 in
            (heads_same q r qs rs same tail.0, tail.1)
      ]
    ]
  where
    heads_same : (q r : Request) (qs rs : List Request) → q ≡ r → qs ≡ rs → q ∷ qs ≡ r ∷ rs
    heads_same q r qs rs a b = cc
