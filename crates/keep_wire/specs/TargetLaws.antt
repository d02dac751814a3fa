-- Laws: bytes that end within a target.
use Rattle.std.specs.Prelude.{IsTrue}
use Rattle.std.proofs.Common.{◌≡◌, ℕ, List, [], ◌∷◌, ◌++◌, refl, sym, ap, ◌∙◌, subst, arith, inl, inr, append_assoc}
use Rattle.std.proofs.lemmas.List.Elements.{All-nil, All-cons}
use Rattle.httparse.specs.Grammar.{is_uri_byte, AllPass, IsToken, LineEnd, lf, print_blank, print_version, IsField, RequestHead, ReadsRequest}
use Rattle.httparse.proofs.GrammarLemmas.{print_request-append}
use Rattle.keep_wire.specs.Requests.{is_target_byte, request_grammar}
use Rattle.keep_wire.specs.Looks.{NeverWaitsAgain}
use Rattle.keep_wire.specs.Splits.{cuts, All-front}

-- the shortest head with this method
abbrev pub short_head : List LineEnd → List ℕ → RequestHead
short_head blank method = record { blank = blank; method = method; target = 97 ∷ []; minor = 1; line_end = lf; fields = []; last = lf }

abbrev pub short_tail : List ℕ
short_tail = 97 ∷ 32 ∷ (print_version 1 ++ (10 ∷ 10 ∷ []))

pub short_reads : (blank : List LineEnd) (method : List ℕ) → IsToken method → ReadsRequest (print_blank blank ++ (method ++ 32 ∷ short_tail)) (short_head blank method) []
unfolding lib.Utf8.encode
short_reads blank method token = (
  record {
    method = token;
    target = (omega arith, All-cons (λ (x : ℕ). IsTrue (is_uri_byte x)) 97 [] refl (All-nil (λ (x : ℕ). IsTrue (is_uri_byte x))));
    target_text = (97 ∷ [], (refl, refl));
    minor = omega arith;
    fields = All-nil IsField;
  },
  sym (print_request-append (short_head blank method) []),
)

-- a request line that may go on is a part of a head, so its bytes aren't hopeless
pub target_never_again : NeverWaitsAgain request_grammar
target_never_again p m outside never (blank, method, target, token, plain, whole) =
    let s = print_blank blank ++ (method ++ 32 ∷ []) in
    let apart : (t : List ℕ) → s ++ t ≡ print_blank blank ++ (method ++ 32 ∷ t) = λ (t : List ℕ). append_assoc (print_blank blank) (method ++ 32 ∷ []) t ∙ ap (λ (v : List ℕ). print_blank blank ++ v) (append_assoc method (32 ∷ []) t) in
    elim (cuts p m s target (whole ∙ sym (apart target))) as (λ _. ⊥) [
      | inl t ↦ outside (blank, method, t.0, token, All-front (λ (x : ℕ). IsTrue (is_target_byte x)) t.0 m (subst (AllPass is_target_byte) (sym t.2) plain), t.1 ∙ apart t.0)
      | inr t ↦
          let all : p ++ (t.0 ∷ t.1 ++ short_tail) ≡ print_blank blank ++ (method ++ 32 ∷ short_tail) = sym (append_assoc p (t.0 ∷ t.1) short_tail) ∙ ap (λ (v : List ℕ). v ++ short_tail) (sym t.2) ∙ apart short_tail in
          never (t.0 ∷ t.1 ++ short_tail) (short_head blank method) [] (subst (λ (v : List ℕ). ReadsRequest v (short_head blank method) []) (sym all) (short_reads blank method token))
    ]
