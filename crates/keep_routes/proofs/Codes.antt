-- Each code of a response is one of HTTP, and has a phrase.
use Rattle.std.proofs.Common.{◌≡◌, ℕ, ◌<◌, ◌≤◌, List, [], ◌∷◌, Bool, true, false, ◌==◌, refl, subst, sym, ap, ◌∙◌, ◌⊎◌, inl, inr, arith, Option, Some}
use Rattle.std.specs.Prelude.{⊤, IsTrue, IsSome, ◌||◌}
use Rattle.std.specs.List.{list_any}
use Rattle.std.proofs.lemmas.Bool.{eqb-true, or_cases, false≢true}
use Rattle.http.specs.StatusCode.{IsStatusCode, reason_phrase}
use Rattle.keep_routes.specs.Responses.{is_code}

abbrev Each : (ℕ → Type 0) → List ℕ → Type 0
Each P [] = ⊤
Each P (c ∷ cs) = P c × Each P cs

-- what holds of each number of a list holds of a number that is in it
in-list : (P : ℕ → Type 0) (n : ℕ) (cs : List ℕ) → list_any (λ c. n == c) cs ≡ true → Each P cs → P n
in-list P n [] e all = absurd (false≢true e)
in-list P n (c ∷ cs) e all =
    elim (or_cases (n == c) (list_any (λ k. n == k) cs) e) as (λ _. P n) [
      | inl is ↦ subst P (sym (eqb-true n c is)) all.0
      | inr more ↦ in-list P n cs more all.1
    ]

abbrev IsPlain : ℕ → Type 0
IsPlain n = IsStatusCode n × IsSome (reason_phrase n)

plain : (n : ℕ) (below : n < 1000) (above : 100 ≤ n) → IsSome (reason_phrase n) → IsPlain n
plain n below above some = ((above, below), some)

pub code_writable : (n : ℕ) → IsTrue (is_code n) → IsStatusCode n × IsSome (reason_phrase n)
code_writable n h =
    in-list IsPlain n (200 ∷ 400 ∷ 401 ∷ 403 ∷ 404 ∷ 405 ∷ 409 ∷ 411 ∷ 413 ∷ 422 ∷ 500 ∷ 507 ∷ []) h
    (plain 200 (omega arith) (omega arith) refl, (plain 400 (omega arith) (omega arith) refl, (plain 401 (omega arith) (omega arith) refl, (plain 403 (omega arith) (omega arith) refl, (plain 404 (omega arith) (omega arith) refl, (plain 405 (omega arith) (omega arith) refl, (plain 409 (omega arith) (omega arith) refl, (plain 411 (omega arith) (omega arith) refl, (plain 413 (omega arith) (omega arith) refl, (plain 422 (omega arith) (omega arith) refl, (plain 500 (omega arith) (omega arith) refl, (plain 507 (omega arith) (omega arith) refl, tt))))))))))))
