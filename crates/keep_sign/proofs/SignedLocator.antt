-- A locator with other permission hints.
-- Laws: `with_hints-is`, `only-permission`, `unsigned-locator`, `signed-locator`, `signed-whole`, `signed-stripped`, `signed-valid`,
-- `other-invalid`.
use Rattle.std.proofs.Common.{◌≡◌, ℕ, ◌+◌, ◌^◌, ◌<◌, ◌≤◌, Bool, true, false, not, ◌⊎◌, inl, inr, List, [], ◌∷◌, ◌++◌, length, take, if◌then◌else◌, Option, Some, Result, Ok, Err, refl, sym, ap, ◌∙◌, arith, append_assoc, length-append}
use Rattle.std.specs.Prelude.{filter}
use Rattle.std.specs.List.{list_all, concat}
use Rattle.std.specs.Option.{option_map}
use Rattle.std.specs.Str.{bytes_eq}
use Rattle.std.proofs.lemmas.Bool.{cases_Bool, and_parts, and_from, le-ltb, eqb-true}
use Rattle.std.proofs.lemmas.List.{take_at, append-nil}
use Rattle.std.proofs.lemmas.List.Folds.{concat-append, list_all-append}
use Rattle.std.proofs.lemmas.List.Elements.{filter-append}
use Rattle.std.proofs.lemmas.Slice.Eq.{bytes_eq-Decides}
use Rattle.hex.specs.Hex.{encode_lower}
use Rattle.keep_spec.specs.Times.{nanos}
use Rattle.keep_spec.specs.Digest.{is_lower_digit, bytes_of_digits}
use Rattle.keep_spec.specs.Locator.{is_locator, is_empty_block, is_hint, is_permission_hint, permission_of, digest, stripped, size_digits, hints, permission, only_one, IsJoined}
use Rattle.keep_spec.specs.Sign.{hmac, signed_text, signature_of, judged, verdict}
use Rattle.keep_spec.specs.SignedText.{unsigned, permission_hint, signed}
use Rattle.keep_spec.specs.declared.permission.Permission.{Permission}
use Rattle.keep_spec.specs.declared.unverified.Verified.{Verified}
use Rattle.keep_spec.specs.declared.unverified.Unverified.{Unverified}
use Rattle.keep_spec.specs.declared.unverified.Unverified.TheVariants.{Expired, Invalid}
use Rattle.keep_locator.proofs.JoinedParts.{joined, joined_whole, own_parts}
use Rattle.keep_sign.proofs.HintForm.{bytes-hmac, same-hmac, permission_hint-is, permission_hint-form, permission_hint-says}

abbrev pub is_other : List ℕ → Bool
is_other h = not (is_permission_hint h)

-- A locator with these hints in place of its own.

abbrev pub with_hints : List ℕ → List (List ℕ) → List ℕ
with_hints text hs = stripped text ++ concat hs

stripped-is : (text : List ℕ) → is_locator text ≡ true → stripped text ≡ take 32 text ++ 43 ∷ size_digits text
unfolding stripped
stripped-is text whole =
    let is = joined text whole in
    let front : List ℕ = take 32 text ++ 43 ∷ size_digits text in
    let len₁ : length (take 32 text) ≡ 32 = eqb-true (length (take 32 text)) 32 (and_parts _ (list_all is_lower_digit (take 32 text)) is.a_digest).0 in
    let len : length front ≡ 33 + length (size_digits text) = omega (arith, length-append (take 32 text) (43 ∷ size_digits text), len₁) in
    ap (take (33 + length (size_digits text))) is.joined ∙ take_at front (concat (hints text)) (33 + length (size_digits text)) len

pub record SameLocator (text changed : List ℕ) (hs : List (List ℕ)) : Type 0 where
  pub whole : is_locator changed ≡ true
  pub same_digest : take 32 changed ≡ take 32 text
  pub same_stripped : stripped changed ≡ stripped text
  pub own_hints : hints changed ≡ hs

pub with_hints-is : (text changed : List ℕ) (hs : List (List ℕ)) → is_locator text ≡ true → list_all is_hint hs ≡ true → changed ≡ with_hints text hs → SameLocator text changed hs
with_hints-is text changed hs whole forms e =
    let is = joined text whole in
    let new : IsJoined changed (take 32 text) (size_digits text) hs = record {
      joined = e ∙ ap (λ x. x ++ concat hs) (stripped-is text whole);
      a_digest = is.a_digest;
      a_number = is.a_number;
      each_a_hint = forms;
    } in
    let own = own_parts changed (take 32 text) (size_digits text) hs new in
    let locator = joined_whole changed (take 32 text) (size_digits text) hs new in
    let same : stripped changed ≡ stripped text =
    stripped-is changed locator ∙ ap (λ d. d ++ 43 ∷ size_digits changed) own.digits_are ∙ ap (λ n. take 32 text ++ 43 ∷ n) own.size_is ∙ sym (stripped-is text whole) in
    record { whole = locator; same_digest = own.digits_are; same_stripped = same; own_hints = own.hints_are }

-- Hints that are no permissions, and one that is.

all-filter : (p q : List ℕ → Bool) (hs : List (List ℕ)) → list_all p hs ≡ true → list_all p (filter q hs) ≡ true
all-filter p q [] all = refl
all-filter p q (h ∷ hs) all =
    let parts = and_parts (p h) (list_all p hs) all in
    let ih = all-filter p q hs parts.1 in
    let P : Bool → Bool = λ b. list_all p (if b then h ∷ filter q hs else filter q hs) in
    elim (cases_Bool (q h)) [
      | inl passes ↦ ap P passes ∙ and_from (p h) (list_all p (filter q hs)) parts.0 ih
      | inr fails ↦ ap P fails ∙ ih
    ]

no-permissions : (hs : List (List ℕ)) → filter is_permission_hint (filter is_other hs) ≡ []
no-permissions [] = refl
no-permissions (h ∷ hs) =
    let P : Bool → List (List ℕ) = λ b. filter is_permission_hint (if b then h ∷ filter is_other hs else filter is_other hs) in
    let Q : Bool → List (List ℕ) = λ b. if b then h ∷ filter is_permission_hint (filter is_other hs) else filter is_permission_hint (filter is_other hs) in
    elim (cases_Bool (is_permission_hint h)) [
      | inl is ↦ ap P (ap not is) ∙ no-permissions hs
      | inr isnt ↦ ap P (ap not isnt) ∙ ap Q isnt ∙ no-permissions hs
    ]

pub only-permission : (hs : List (List ℕ)) (h : List ℕ) → is_permission_hint h ≡ true → filter is_permission_hint (filter is_other hs ++ h ∷ []) ≡ h ∷ []
only-permission hs h is =
    filter-append is_permission_hint (filter is_other hs) (h ∷ [])
    ∙ ap (λ x. x ++ filter is_permission_hint (h ∷ [])) (no-permissions hs)
    ∙ ap (λ b. if b then h ∷ [] else []) is

-- Unsigned.

pub unsigned-locator : (text : List ℕ) → is_locator text ≡ true → SameLocator text (unsigned text) (filter is_other (hints text))
unfolding unsigned
unsigned-locator text whole =
    with_hints-is text (unsigned text) (filter is_other (hints text)) whole (all-filter is_hint is_other (hints text) (joined text whole).each_a_hint) refl

-- Signed.

abbrev hint_for : List ℕ → List ℕ → List ℕ → ℕ → ℕ → List ℕ
hint_for text token secret expiry ttl = permission_hint (digest text) token expiry ttl secret

signed-some : (text token secret : List ℕ) (expiry ttl : ℕ) → is_empty_block text ≡ false → signed token expiry ttl secret text ≡ unsigned text ++ hint_for text token secret expiry ttl
unfolding signed
signed-some text token secret expiry ttl some = ap (λ b. unsigned text ++ (if b then [] else hint_for text token secret expiry ttl)) some

signed-none : (text token secret : List ℕ) (expiry ttl : ℕ) → is_empty_block text ≡ true → signed token expiry ttl secret text ≡ unsigned text
unfolding signed
signed-none text token secret expiry ttl none = ap (λ b. unsigned text ++ (if b then [] else hint_for text token secret expiry ttl)) none ∙ append-nil (unsigned text)

pub signed-locator : (text token secret : List ℕ) (expiry ttl : ℕ) → is_locator text ≡ true → is_empty_block text ≡ false
    → SameLocator text (signed token expiry ttl secret text) (filter is_other (hints text) ++ hint_for text token secret expiry ttl ∷ [])
unfolding unsigned
signed-locator text token secret expiry ttl whole some =
    let others = filter is_other (hints text) in
    let h = hint_for text token secret expiry ttl in
    let forms : list_all is_hint (others ++ h ∷ []) ≡ true =
    list_all-append is_hint others (h ∷ [])
    ∙ and_from (list_all is_hint others) (list_all is_hint (h ∷ [])) (all-filter is_hint is_other (hints text) (joined text whole).each_a_hint) (and_from (is_hint h) true (permission_hint-form (digest text) token secret expiry ttl) refl) in
    let tail : concat (others ++ h ∷ []) ≡ concat others ++ h = concat-append others (h ∷ []) ∙ ap (λ x. concat others ++ x) (append-nil h) in
    let e : signed token expiry ttl secret text ≡ with_hints text (others ++ h ∷ []) =
    signed-some text token secret expiry ttl some ∙ append_assoc (stripped text) (concat others) h ∙ ap (λ x. stripped text ++ x) (sym tail) in
    with_hints-is text (signed token expiry ttl secret text) (others ++ h ∷ []) whole forms e

pub signed-whole : (text token secret : List ℕ) (expiry ttl : ℕ) → is_locator text ≡ true → is_locator (signed token expiry ttl secret text) ≡ true
signed-whole text token secret expiry ttl whole =
    elim (cases_Bool (is_empty_block text)) [
      | inl none ↦ ap is_locator (signed-none text token secret expiry ttl none) ∙ (unsigned-locator text whole).whole
      | inr some ↦ (signed-locator text token secret expiry ttl whole some).whole
    ]

pub signed-stripped : (text token secret : List ℕ) (expiry ttl : ℕ) → is_locator text ≡ true → stripped (signed token expiry ttl secret text) ≡ stripped text
signed-stripped text token secret expiry ttl whole =
    elim (cases_Bool (is_empty_block text)) [
      | inl none ↦ ap stripped (signed-none text token secret expiry ttl none) ∙ (unsigned-locator text whole).same_stripped
      | inr some ↦ (signed-locator text token secret expiry ttl whole some).same_stripped
    ]

signed-permission : (text token secret : List ℕ) (expiry ttl : ℕ) → is_locator text ≡ true → is_empty_block text ≡ false → expiry < 2 ^ 32
    → permission (signed token expiry ttl secret text) ≡ Some (record { signature = signature_of (digest text) token expiry ttl secret; expiry = expiry })
unfolding permission
signed-permission text token secret expiry ttl whole some fits =
    let h = hint_for text token secret expiry ttl in
    let say : List (List ℕ) → Option Permission = λ hs. option_map permission_of (only_one hs) in
    let told : Permission → Option Permission = Some in
    ap (λ hs. say (filter is_permission_hint hs)) (signed-locator text token secret expiry ttl whole some).own_hints
    ∙ ap say (only-permission (hints text) h (permission_hint-is (digest text) token secret expiry ttl))
    ∙ ap told (permission_hint-says (digest text) token secret expiry ttl fits)

signed-digest : (text token secret : List ℕ) (expiry ttl : ℕ) → is_locator text ≡ true → is_empty_block text ≡ false → digest (signed token expiry ttl secret text) ≡ digest text
unfolding digest
signed-digest text token secret expiry ttl whole some = ap bytes_of_digits (signed-locator text token secret expiry ttl whole some).same_digest

-- Verdicts.

-- an expiry that hasn't passed leaves the signature to decide
abbrev by_signature : Bool → List ℕ → ℕ → Result Verified Unverified
by_signature b hash expiry = if b then Ok (record { digest = hash; expiry = expiry }) else Err Invalid

judged-in-time : (p : Permission) (hash token secret : List ℕ) (ttl reading : ℕ) → reading ≤ nanos p.expiry
    → judged (Some p) hash token ttl secret reading ≡ by_signature (bytes_eq p.signature (signature_of hash token p.expiry ttl secret)) hash p.expiry
judged-in-time p hash token secret ttl reading in_time =
    let same = bytes_eq p.signature (signature_of hash token p.expiry ttl secret) in
    let wide : Unverified → Result Verified Unverified = Err in
    ap (λ b. if b then wide (Expired p.expiry) else by_signature same hash p.expiry) (le-ltb (nanos p.expiry) reading in_time)

pub signed-valid : (text token secret : List ℕ) (expiry ttl reading : ℕ) → is_locator text ≡ true → is_empty_block text ≡ false → expiry < 2 ^ 32 → reading ≤ nanos expiry
    → verdict (signed token expiry ttl secret text) token ttl secret reading ≡ Ok (record { digest = digest text; expiry = expiry })
signed-valid text token secret expiry ttl reading whole some fits in_time =
    let locator = signed token expiry ttl secret text in
    let sign = signature_of (digest text) token expiry ttl secret in
    let p : Permission = record { signature = sign; expiry = expiry } in
    ap (λ o. judged o (digest locator) token ttl secret reading) (signed-permission text token secret expiry ttl whole some fits)
    ∙ ap (λ d. judged (Some p) d token ttl secret reading) (signed-digest text token secret expiry ttl whole some)
    ∙ judged-in-time p (digest text) token secret ttl reading in_time
    ∙ ap (λ b. by_signature b (digest text) expiry) ((bytes_eq-Decides sign sign).1 refl)

pub other-invalid : (text token secret digest' token' secret' : List ℕ) (expiry ttl expiry' ttl' reading : ℕ)
    → permission text ≡ Some (record { signature = signature_of digest' token' expiry' ttl' secret'; expiry = expiry })
    → reading ≤ nanos expiry
    → (verdict text token ttl secret reading ≡ Err Invalid)
    ⊎ (hmac secret (signed_text (encode_lower (digest text)) token expiry ttl) ≡ hmac secret' (signed_text (encode_lower digest') token' expiry' ttl'))
unfolding signature_of
other-invalid text token secret digest' token' secret' expiry ttl expiry' ttl' reading has in_time =
    let theirs = signature_of digest' token' expiry' ttl' secret' in
    let ours = signature_of (digest text) token expiry ttl secret in
    let p : Permission = record { signature = theirs; expiry = expiry } in
    let judged_by : verdict text token ttl secret reading ≡ by_signature (bytes_eq theirs ours) (digest text) expiry =
    ap (λ o. judged o (digest text) token ttl secret reading) has ∙ judged-in-time p (digest text) token secret ttl reading in_time in
    let text_ours = signed_text (encode_lower (digest text)) token expiry ttl in
    let text_theirs = signed_text (encode_lower digest') token' expiry' ttl' in
    elim (cases_Bool (bytes_eq theirs ours)) [
      | inl same ↦
          inr (same-hmac (hmac secret text_ours) (hmac secret' text_theirs) (bytes-hmac secret text_ours) (bytes-hmac secret' text_theirs) (sym ((bytes_eq-Decides theirs ours).0 same)))
      | inr differ ↦ inl (judged_by ∙ ap (λ b. by_signature b (digest text) expiry) differ)
    ]
