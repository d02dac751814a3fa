-- What signing makes of a token: hints that are no permissions, and a token that is a locator.
-- Laws: `others-cons`, `unsigned-is`, `signed-none`, `signed-some`.
use Rattle.std.proofs.Common.{◌≡◌, ℕ, Bool, true, false, not, List, [], ◌∷◌, ◌++◌, if◌then◌else◌, Result, Ok, Err, inl, inr, refl, sym, ap, ◌∙◌, append_assoc}
use Rattle.std.specs.Prelude.{filter}
use Rattle.std.specs.List.{concat}
use Rattle.std.proofs.lemmas.Bool.{cases_Bool}
use Rattle.std.proofs.lemmas.List.{append-nil}
use Rattle.keep_locator.specs.Parsing.{locator_of}
use Rattle.keep_locator.specs.declared.locator.BadLocator.{BadLocator}
use Rattle.keep_spec.specs.Locator.{is_locator, is_empty_block, locator_prefix_len, digest, is_permission_hint, hints, stripped}
use Rattle.keep_spec.specs.SignedText.{changed, unsigned, permission_hint, signed}

-- Hints that are no permissions.

abbrev pub others : List (List ℕ) → List ℕ
others hs = concat (filter (λ h. not (is_permission_hint h)) hs)

pub others-cons : (h : List ℕ) (hs : List (List ℕ)) → others (h ∷ hs) ≡ (if is_permission_hint h then [] else h) ++ others hs
others-cons h hs =
    let P : Bool → List ℕ = λ b. concat (if not b then h ∷ filter (λ h. not (is_permission_hint h)) hs else filter (λ h. not (is_permission_hint h)) hs) in
    let Q : Bool → List ℕ = λ b. (if b then [] else h) ++ others hs in
    elim (cases_Bool (is_permission_hint h)) [
      | inl is ↦ ap P is ∙ sym (ap Q is)
      | inr isnt ↦ ap P isnt ∙ sym (ap Q isnt)
    ]

pub unsigned-is : (locator : List ℕ) → unsigned locator ≡ stripped locator ++ others (hints locator)
unfolding unsigned
unsigned-is locator = refl

-- A token that is a locator.

abbrev answer : Bool → List ℕ → Result (List ℕ) BadLocator
answer b text = if b then Ok text else Err (record { at = locator_prefix_len text })

read-ok : (b : Bool) (text locator : List ℕ) → Ok locator ≡ answer b text → (b ≡ true) × (locator ≡ text)
read-ok true text locator e = (refl, cc e)
read-ok false text locator e = cc e

changed-locator : (f : List ℕ → List ℕ) (part : List ℕ) → is_locator part ≡ true → changed f part ≡ f part
changed-locator f part is = ap (λ b. if b then f part else part) is

pub signed-none : (part locator old out token secret : List ℕ) (expiry ttl : ℕ) → Ok locator ≡ locator_of part → is_empty_block locator ≡ true → out ≡ old ++ unsigned locator
    → out ≡ old ++ changed (signed token expiry ttl secret) part
unfolding signed
signed-none part locator old out token secret expiry ttl read none pushed =
    let is = read-ok (is_locator part) part locator read in
    let hint = permission_hint (digest locator) token expiry ttl secret in
    pushed
    ∙ ap (λ x. old ++ x) (sym (append-nil (unsigned locator)) ∙ sym (ap (λ b. unsigned locator ++ (if b then [] else hint)) none)
    ∙ ap (signed token expiry ttl secret) is.1 ∙ sym (changed-locator (signed token expiry ttl secret) part is.0))

pub signed-some : (part locator old mid out token secret hash : List ℕ) (expiry ttl : ℕ) → Ok locator ≡ locator_of part → is_empty_block locator ≡ false → mid ≡ old ++ unsigned locator
    → hash ≡ digest locator → out ≡ mid ++ permission_hint hash token expiry ttl secret → out ≡ old ++ changed (signed token expiry ttl secret) part
unfolding signed
signed-some part locator old mid out token secret hash expiry ttl read some pushed same hinted =
    let is = read-ok (is_locator part) part locator read in
    let hint = permission_hint (digest locator) token expiry ttl secret in
    hinted
    ∙ ap (λ d. mid ++ permission_hint d token expiry ttl secret) same
    ∙ ap (λ x. x ++ hint) pushed
    ∙ append_assoc old (unsigned locator) hint
    ∙ ap (λ x. old ++ x) (sym (ap (λ b. unsigned locator ++ (if b then [] else hint)) some) ∙ ap (signed token expiry ttl secret) is.1 ∙ sym (changed-locator (signed token expiry ttl secret) part is.0))
