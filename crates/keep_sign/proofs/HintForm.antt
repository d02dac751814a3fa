-- The form of a permission hint.
-- Laws: `length-sha1`, `bytes-sha1`, `bytes-hmac`, `length-signature`, `lower-signature`, `same-hmac`, `value-hex8`, `permission_hint-is`,
-- `permission_hint-form`, `permission_hint-says`.
use Rattle.std.proofs.Common.{◌≡◌, ℕ, zero, suc, ◌+◌, ◌-◌, ◌*◌, ◌/◌, ◌%◌, ◌^◌, ◌<◌, true, ◌==◌, nat_eq, List, [], ◌∷◌, ◌++◌, length, take, drop, slice_index, refl, sym, ap, ◌∙◌, arith, zero-add, length-append, inl, inr}
use Rattle.std.specs.Prelude.{codes}
use Rattle.std.specs.Char.{digit_value}
use Rattle.std.specs.Int.{w32, to_be_bytes}
use Rattle.std.specs.List.{list_all, starts_with}
use Rattle.std.specs.Str.Parse.{digits_value, digits_value_after}
use Rattle.std.proofs.lemmas.Bool.{agree_below_at, and_from, eqb-true, eq-eqb, cases_lt}
use Rattle.std.proofs.lemmas.Bool.Decides.{nat_tests}
use Rattle.std.proofs.lemmas.List.{take_at, drop_at, drop-drop, take_all, get_or_at, get_or_append_left, get_or-append_right}
use Rattle.std.proofs.lemmas.List.Folds.{list_all-append}
use Rattle.sha1.specs.Sha1.{sha1, digest_bytes}
use Rattle.hex.specs.Hex.{lower_digits, encode_with, encode_lower, IsBytes}
use Rattle.hex.proofs.HexLemmas.{length-encode_with}
use Rattle.keep_spec.specs.Digest.{is_lower_digit, bytes_of_digits}
use Rattle.keep_spec.specs.Locator.{is_hint_character, is_hint, is_permission_hint, permission_of}
use Rattle.keep_spec.specs.Sign.{hmac, hex8, signed_text, signature_of}
use Rattle.keep_spec.specs.SignedText.{permission_hint}
use Rattle.keep_spec.specs.declared.permission.Permission.{Permission}
use Rattle.keep_spec.proofs.DigestText.{lower-encode, bytes_of_digits-encode}
use Rattle.keep_locator.proofs.Lists.{list_all-weaker}

-- Bytes.

IsBytes-append : (xs ys : List ℕ) → IsBytes xs → IsBytes ys → IsBytes (xs ++ ys)
IsBytes-append xs ys hx hy k =
    elim (cases_lt k (length xs)) [
      | inl front ↦ omega (arith, get_or_append_left xs ys 0 k front, hx k)
      | inr back ↦ omega (arith, get_or-append_right xs ys (length xs) k 0 refl back, hy (k - length xs))
    ]

four : (a b c d : ℕ) → a < 256 → b < 256 → c < 256 → d < 256 → IsBytes (a ∷ b ∷ c ∷ d ∷ [])
four a b c d ha hb hc hd zero = ha
four a b c d ha hb hc hd (suc zero) = hb
four a b c d ha hb hc hd (suc (suc zero)) = hc
four a b c d ha hb hc hd (suc (suc (suc zero))) = hd
four a b c d ha hb hc hd (suc (suc (suc (suc k)))) = omega arith

word-bytes : (n : ℕ) → IsBytes (to_be_bytes w32 n)
word-bytes n = four _ _ _ _ (omega arith) (omega arith) (omega arith) (omega arith)

digest-bytes : (h : List ℕ) (n : ℕ) → IsBytes (digest_bytes h n)
unfolding digest_bytes
digest-bytes h zero = λ k. omega arith
digest-bytes h (suc n) = IsBytes-append (digest_bytes h n) (to_be_bytes w32 (slice_index h n)) (digest-bytes h n) (word-bytes (slice_index h n))

digest-length : (h : List ℕ) (n : ℕ) → length (digest_bytes h n) ≡ n * 4
unfolding digest_bytes
digest-length h zero = refl
digest-length h (suc n) =
    let word : length (to_be_bytes w32 (slice_index h n)) ≡ 4 = refl in
    omega (arith, digest-length h n, word, length-append (digest_bytes h n) (to_be_bytes w32 (slice_index h n)))

pub length-sha1 : (m : List ℕ) → length (sha1 m) ≡ 20
unfolding sha1
length-sha1 m = digest-length _ 5

pub bytes-sha1 : (m : List ℕ) → IsBytes (sha1 m)
unfolding sha1
bytes-sha1 m = digest-bytes _ 5

pub bytes-hmac : (key text : List ℕ) → IsBytes (hmac key text)
unfolding hmac
bytes-hmac key text = bytes-sha1 _

length-hmac : (key text : List ℕ) → length (hmac key text) ≡ 20
unfolding hmac
length-hmac key text = length-sha1 _

-- Signatures.

pub length-signature : (digest token secret : List ℕ) (expiry ttl : ℕ) → length (signature_of digest token expiry ttl secret) ≡ 40
unfolding signature_of
length-signature digest token secret expiry ttl =
    let mac = hmac secret (signed_text (encode_lower digest) token expiry ttl) in
    omega (arith, length-encode_with lower_digits mac, length-hmac secret (signed_text (encode_lower digest) token expiry ttl))

pub lower-signature : (digest token secret : List ℕ) (expiry ttl : ℕ) → list_all is_lower_digit (signature_of digest token expiry ttl secret) ≡ true
unfolding signature_of
lower-signature digest token secret expiry ttl = lower-encode _ (bytes-hmac secret (signed_text (encode_lower digest) token expiry ttl))

-- two signatures agree only where the HMACs do
pub same-hmac : (a b : List ℕ) → IsBytes a → IsBytes b → encode_lower a ≡ encode_lower b → a ≡ b
same-hmac a b ha hb e = sym (bytes_of_digits-encode a ha) ∙ ap bytes_of_digits e ∙ bytes_of_digits-encode b hb

-- Expiries.

length-hex8 : (n : ℕ) → length (hex8 n) ≡ 8
unfolding hex8
length-hex8 n = length-encode_with lower_digits (to_be_bytes w32 n)

lower-hex8 : (n : ℕ) → list_all is_lower_digit (hex8 n) ≡ true
unfolding hex8
lower-hex8 n = lower-encode (to_be_bytes w32 n) (word-bytes n)

digit-back : (k : ℕ) → k < 16 → digit_value (slice_index lower_digits k) ≡ k
digit-back k lt = eqb-true (digit_value (slice_index lower_digits k)) k (agree_below_at (λ k. digit_value (slice_index lower_digits k) == k) (λ _. true) 16 k refl lt)

value-byte : (n b : ℕ) (bs : List ℕ) → b < 256 → digits_value_after 16 n (encode_lower (b ∷ bs)) ≡ digits_value_after 16 (n * 256 + b) (encode_lower bs)
unfolding encode_with
value-byte n b bs fits =
    let high = digit-back (b / 16) (omega arith) in
    let low = digit-back (b % 16) (omega arith) in
    let whole : (n * 16 + digit_value (slice_index lower_digits (b / 16))) * 16 + digit_value (slice_index lower_digits (b % 16)) ≡ n * 256 + b = omega (arith, high, low) in
    ap (λ m. digits_value_after 16 m (encode_lower bs)) whole

value-four : (a b c d : ℕ) → a < 256 → b < 256 → c < 256 → d < 256 → digits_value 16 (encode_lower (a ∷ b ∷ c ∷ d ∷ [])) ≡ ((a * 256 + b) * 256 + c) * 256 + d
unfolding encode_with
value-four a b c d ha hb hc hd =
    value-byte 0 a (b ∷ c ∷ d ∷ []) ha
    ∙ ap (λ m. digits_value_after 16 m (encode_lower (b ∷ c ∷ d ∷ []))) (zero-add a)
    ∙ value-byte a b (c ∷ d ∷ []) hb
    ∙ value-byte (a * 256 + b) c (d ∷ []) hc
    ∙ value-byte ((a * 256 + b) * 256 + c) d [] hd

pub value-hex8 : (n : ℕ) → n < 2 ^ 32 → digits_value 16 (hex8 n) ≡ n
unfolding hex8
value-hex8 n fits = value-four _ _ _ _ (omega arith) (omega arith) (omega arith) (omega arith) ∙ omega (arith, fits)

-- Hints.

abbrev hint_of : List ℕ → List ℕ → List ℕ
hint_of s x = codes "+A" ++ s ++ 64 ∷ x

tail : (s x : List ℕ) → length s ≡ 40 → drop 41 (s ++ 64 ∷ x) ≡ x
tail s x len = sym (drop-drop 1 40 (s ++ 64 ∷ x)) ∙ ap (drop 1) (drop_at s (64 ∷ x) 40 len)

hint-is : (s x : List ℕ) → length s ≡ 40 → length x ≡ 8 → list_all is_lower_digit s ≡ true → list_all is_lower_digit x ≡ true → is_permission_hint (hint_of s x) ≡ true
unfolding is_permission_hint
hint-is s x ls lx ds dx =
    let h = hint_of s x in
    let len : length h ≡ 51 = omega (arith, length-append s (64 ∷ x), ls, lx) in
    let signature : list_all is_lower_digit (take 40 (drop 2 h)) ≡ true = ap (list_all is_lower_digit) (take_at s (64 ∷ x) 40 ls) ∙ ds in
    let at : (slice_index h 42 == 64) ≡ true = eq-eqb (slice_index h 42) 64 (get_or_at s 64 x 0 40 ls) in
    let expiry : list_all is_lower_digit (take 8 (drop 43 h)) ≡ true = ap (λ y. list_all is_lower_digit (take 8 y)) (tail s x ls) ∙ ap (list_all is_lower_digit) (take_all 8 x (omega arith)) ∙ dx in
    and_from _ _ (and_from _ _ (and_from _ _ (and_from (length h == 51) (starts_with nat_eq h (codes "+A")) (eq-eqb (length h) 51 len) refl) signature) at) expiry

hint-says : (s x : List ℕ) → length s ≡ 40 → length x ≡ 8 → permission_of (hint_of s x) ≡ record { signature = s; expiry = digits_value 16 x }
unfolding permission_of
hint-says s x ls lx =
    let made : List ℕ → ℕ → Permission = λ s e. record { signature = s; expiry = e } in
    ap (λ y. made y (digits_value 16 (take 8 (drop 43 (hint_of s x))))) (take_at s (64 ∷ x) 40 ls)
    ∙ ap (λ y. made s (digits_value 16 (take 8 y))) (tail s x ls)
    ∙ ap (λ y. made s (digits_value 16 y)) (take_all 8 x (omega arith))

lower_character : (c : ℕ) → is_lower_digit c ≡ true → is_hint_character c ≡ true
lower_character c is = grind (arith, nat_tests)

lower_characters : (xs : List ℕ) → list_all is_lower_digit xs ≡ true → list_all is_hint_character xs ≡ true
lower_characters xs all = list_all-weaker is_lower_digit is_hint_character lower_character xs all

hint-form : (s x : List ℕ) → list_all is_lower_digit s ≡ true → list_all is_lower_digit x ≡ true → is_hint (hint_of s x) ≡ true
unfolding is_hint
hint-form s x ds dx = list_all-append is_hint_character s (64 ∷ x) ∙ and_from (list_all is_hint_character s) (list_all is_hint_character x) (lower_characters s ds) (lower_characters x dx)

pub permission_hint-is : (digest token secret : List ℕ) (expiry ttl : ℕ) → is_permission_hint (permission_hint digest token expiry ttl secret) ≡ true
unfolding permission_hint
permission_hint-is digest token secret expiry ttl =
    hint-is (signature_of digest token expiry ttl secret) (hex8 expiry) (length-signature digest token secret expiry ttl) (length-hex8 expiry) (lower-signature digest token secret expiry ttl) (lower-hex8 expiry)

pub permission_hint-form : (digest token secret : List ℕ) (expiry ttl : ℕ) → is_hint (permission_hint digest token expiry ttl secret) ≡ true
unfolding permission_hint
permission_hint-form digest token secret expiry ttl = hint-form (signature_of digest token expiry ttl secret) (hex8 expiry) (lower-signature digest token secret expiry ttl) (lower-hex8 expiry)

pub permission_hint-says : (digest token secret : List ℕ) (expiry ttl : ℕ) → expiry < 2 ^ 32
    → permission_of (permission_hint digest token expiry ttl secret) ≡ record { signature = signature_of digest token expiry ttl secret; expiry = expiry }
unfolding permission_hint
permission_hint-says digest token secret expiry ttl fits =
    let made : ℕ → Permission = λ e. record { signature = signature_of digest token expiry ttl secret; expiry = e } in
    hint-says (signature_of digest token expiry ttl secret) (hex8 expiry) (length-signature digest token secret expiry ttl) (length-hex8 expiry) ∙ ap made (value-hex8 expiry fits)
