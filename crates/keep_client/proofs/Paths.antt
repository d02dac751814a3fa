-- That paths can be sent: each of their bytes is one of a path.
use Rattle.std.proofs.Common.{◌≡◌, ℕ, zero, suc, ◌==◌, ◌&&◌, List, [], ◌∷◌, ◌++◌, Bool, true, false, refl, sym, ap, subst, ◌∙◌, arith, length, ◌<◌, ◌^◌, inl, inr, take, drop, get_or, ◌+◌, take-append-drop}
use Rattle.std.specs.Prelude.{nat_le, decimal, codes, if◌then◌else◌}
use Rattle.std.specs.List.{list_all, concat}
use Rattle.std.specs.Char.{is_ascii_digit, is_ascii_uppercase}
use Rattle.keep_spec.specs.Uuid.{is_uuid, is_uuid_part, is_uuid_character}
use Rattle.std.proofs.lemmas.Fmt.{decimal_is_IsNumeral}
use Rattle.std.proofs.lemmas.List.Folds.{list_all-append}
use Rattle.std.proofs.lemmas.Bool.Decides.{nat_tests}
use Rattle.std.specs.Prelude.{slice_range}
use Rattle.std.proofs.lemmas.List.{drop_more}
use Rattle.std.proofs.Math.Seq.{drop-drop, drop-length}
use Rattle.std.proofs.lemmas.Bool.{and_parts, and_from, eqb-true}
use Rattle.std.specs.Int.{w32, byte_at, bytes_low_first, to_le_bytes}
use Rattle.md5.specs.Md5.{md5, digest_bytes}
use Rattle.keep_locator.proofs.JoinedParts.{joined}
use Rattle.keep_spec.proofs.DigestText.{lower-encode}
use Rattle.hex.specs.Hex.{encode_lower, IsBytes}
use Rattle.keep_spec.specs.Digest.{is_lower_digit}
use Rattle.keep_spec.specs.Locator.{is_locator, size_digits, hints, is_number, is_hint, is_hint_character, IsJoined}
use Rattle.keep_wire.specs.Written.{is_path_byte, is_visible, CanBeSent}
use Rattle.keep_wire.proofs.Sent.{all_pass, are_digits}
use Rattle.keep_client.specs.Answers.{sent_as}

pub each : (p q : ℕ → Bool) → ((b : ℕ) → p b ≡ true → q b ≡ true) → (xs : List ℕ) → list_all p xs ≡ true → list_all q xs ≡ true
each p q f [] h = refl
each p q f (x ∷ xs) h = let parts = and_parts (p x) (list_all p xs) h in and_from (q x) (list_all q xs) (f x parts.0) (each p q f xs parts.1)

lower : (b : ℕ) → is_lower_digit b ≡ true → is_path_byte b ≡ true
lower b h = grind (arith, nat_tests)

digit : (b : ℕ) → is_ascii_digit b ≡ true → is_path_byte b ≡ true
digit b h = grind (arith, nat_tests)

hint_character : (b : ℕ) → is_hint_character b ≡ true → is_path_byte b ≡ true
hint_character b h = grind (arith, nat_tests)

upper : (b : ℕ) → is_ascii_uppercase b ≡ true → is_path_byte b ≡ true
upper b h = grind (arith, nat_tests)

plus_plain : (b : ℕ) → (b == 43) ≡ true → is_path_byte b ≡ true
plus_plain b h = grind (arith, nat_tests)

both : (xs ys : List ℕ) → list_all is_path_byte xs ≡ true → list_all is_path_byte ys ≡ true → list_all is_path_byte (xs ++ ys) ≡ true
both xs ys h k = list_all-append is_path_byte xs ys ∙ and_from (list_all is_path_byte xs) (list_all is_path_byte ys) h k

token_visible : (token : List ℕ) (b : Bool) → list_all is_visible token ≡ b → list_all is_visible (if b then token else []) ≡ true
token_visible token true h = h
token_visible token false h = refl

pub can_get : (path token : List ℕ) → 0 < length path → list_all is_path_byte path ≡ true → CanBeSent (71 ∷ 69 ∷ 84 ∷ []) path (sent_as token)
can_get path token some plain = record {
  known = inl refl;
  path_some = some;
  path_plain = all_pass is_path_byte path plain;
  token_visible = all_pass is_visible (sent_as token) (token_visible token (list_all is_visible token) refl);
}

pub can_put : (path token : List ℕ) → 0 < length path → list_all is_path_byte path ≡ true → CanBeSent (80 ∷ 85 ∷ 84 ∷ []) path (sent_as token)
can_put path token some plain = record {
  known = inr (inl refl);
  path_some = some;
  path_plain = all_pass is_path_byte path plain;
  token_visible = all_pass is_visible (sent_as token) (token_visible token (list_all is_visible token) refl);
}

-- ---- a digest

pub digits_plain : (text : List ℕ) → list_all is_lower_digit text ≡ true → list_all is_path_byte text ≡ true
digits_plain text h = each is_lower_digit is_path_byte lower text h

-- ---- a locator

hint_plain : (hint : List ℕ) → is_hint hint ≡ true → list_all is_path_byte hint ≡ true
unfolding is_hint
hint_plain [] h = refl
hint_plain (plus ∷ []) h = absurd (let wrong : false ≡ true = h in cc)
hint_plain (plus ∷ letter ∷ rest) h =
    let outer = and_parts ((plus == 43) && is_ascii_uppercase letter) (list_all is_hint_character rest) h in
    let inner = and_parts (plus == 43) (is_ascii_uppercase letter) outer.0 in
    and_from (is_path_byte plus) (list_all is_path_byte (letter ∷ rest)) (plus_plain plus inner.0)
    (and_from (is_path_byte letter) (list_all is_path_byte rest) (upper letter inner.1) (each is_hint_character is_path_byte hint_character rest outer.1))

hints_plain : (hints : List (List ℕ)) → list_all is_hint hints ≡ true → list_all is_path_byte (concat hints) ≡ true
hints_plain [] h = refl
hints_plain (x ∷ xs) h =
    let parts = and_parts (is_hint x) (list_all is_hint xs) h in both x (concat xs) (hint_plain x parts.0) (hints_plain xs parts.1)

pub joined_plain : (text digits number : List ℕ) (others : List (List ℕ)) → IsJoined text digits number others → list_all is_path_byte text ≡ true
unfolding is_number
joined_plain text digits number others j =
    let digits_pass = (and_parts (length digits == 32) (list_all is_lower_digit digits) j.a_digest).1 in
    let number_passes = (and_parts (nat_le 1 (length number) && nat_le (length number) 19) (list_all is_ascii_digit number) j.a_number).1 in
    rw j.joined (both (digits ++ (43 ∷ number)) (concat others) (both digits (43 ∷ number) (digits_plain digits digits_pass)
    (each is_ascii_digit is_path_byte digit number number_passes)) (hints_plain others j.each_a_hint))

-- ---- the path of an index

uuid_character : (b : ℕ) → is_uuid_character b ≡ true → is_path_byte b ≡ true
uuid_character b h = grind (arith, nat_tests)

dash : (b : ℕ) → (b == 45) ≡ true → is_path_byte b ≡ true
dash b h = grind (arith, nat_tests)

pub decimal_plain : (n : ℕ) → n < 2 ^ 64 → list_all is_path_byte (decimal n) ≡ true
decimal_plain n small = each is_ascii_digit is_path_byte digit (decimal n) (are_digits.from (decimal n) (decimal_is_IsNumeral n small).0.1)

pub index_plain : (mount round prefix : List ℕ) → list_all is_path_byte mount ≡ true → list_all is_path_byte round ≡ true → list_all is_path_byte prefix ≡ true
    → list_all is_path_byte (codes "/mounts/" ++ mount ++ codes "/blocks/" ++ round ++ 47 ∷ prefix) ≡ true
index_plain mount round prefix m r p =
    both (((codes "/mounts/" ++ mount) ++ codes "/blocks/") ++ round) (47 ∷ prefix)
    (both ((codes "/mounts/" ++ mount) ++ codes "/blocks/") round (both (codes "/mounts/" ++ mount) (codes "/blocks/") (both (codes "/mounts/") mount refl m) refl) r) p

-- ---- a UUID

part_plain : (i j n : ℕ) (u : List ℕ) → i + n ≡ j → list_all is_uuid_character (take n (drop i u)) ≡ true → list_all is_path_byte (drop j u) ≡ true → list_all is_path_byte (drop i u) ≡ true
part_plain i j n u e part rest =
    let again : drop n (drop i u) ≡ drop j u = drop-drop n i u ∙ ap (λ v. drop v u) e in
    subst (λ v. list_all is_path_byte v ≡ true) (take-append-drop n (drop i u))
    (both (take n (drop i u)) (drop n (drop i u)) (each is_uuid_character is_path_byte uuid_character (take n (drop i u)) part) (rw again rest))

dash_plain : (i j : ℕ) (u : List ℕ) → i + 1 ≡ j → i < length u → (get_or u i 0 == 45) ≡ true → list_all is_path_byte (drop j u) ≡ true → list_all is_path_byte (drop i u) ≡ true
dash_plain i j u e within is rest =
    let cut : drop i u ≡ get_or u i 0 ∷ drop j u = drop_more u i 0 within ∙ ap (λ v. get_or u i 0 ∷ drop v u) e in
    subst (λ v. list_all is_path_byte v ≡ true) (sym cut) (and_from (is_path_byte (get_or u i 0)) (list_all is_path_byte (drop j u)) (dash (get_or u i 0) is) rest)

pub uuid_plain : (u : List ℕ) → is_uuid u ≡ true → list_all is_path_byte u ≡ true
uuid_plain u h =
    let p1 = and_parts (((((length u == 27) && is_uuid_part (slice_range u 0 5)) && (get_or u 5 0 == 45)) && is_uuid_part (slice_range u 6 11)) && (get_or u 11 0 == 45)) (is_uuid_part (slice_range u 12 27)) h in
    let p2 = and_parts ((((length u == 27) && is_uuid_part (slice_range u 0 5)) && (get_or u 5 0 == 45)) && is_uuid_part (slice_range u 6 11)) (get_or u 11 0 == 45) p1.0 in
    let p3 = and_parts (((length u == 27) && is_uuid_part (slice_range u 0 5)) && (get_or u 5 0 == 45)) (is_uuid_part (slice_range u 6 11)) p2.0 in
    let p4 = and_parts ((length u == 27) && is_uuid_part (slice_range u 0 5)) (get_or u 5 0 == 45) p3.0 in
    let p5 = and_parts (length u == 27) (is_uuid_part (slice_range u 0 5)) p4.0 in
    let long : length u ≡ 27 = eqb-true (length u) 27 p5.0 in
    let end : list_all is_path_byte (drop 27 u) ≡ true = subst (λ n. list_all is_path_byte (drop n u) ≡ true) long (rw drop-length refl) in
    let l12 = part_plain 12 27 15 u refl p1.1 end in
    let l11 = dash_plain 11 12 u refl (omega (arith, long)) p2.1 l12 in
    let l6 = part_plain 6 11 5 u refl p3.1 l11 in
    let l5 = dash_plain 5 6 u refl (omega (arith, long)) p4.1 l6 in
    part_plain 0 5 5 u refl p5.1 l5

-- ---- a locator's text

pub locator_plain : (text : List ℕ) → is_locator text ≡ true → list_all is_path_byte text ≡ true
locator_plain text h = joined_plain text (take 32 text) (size_digits text) (hints text) (joined text h)

-- ---- a digest's text

small_joined : (xs ys : List ℕ) → IsBytes xs → IsBytes ys → IsBytes (xs ++ ys)
small_joined [] ys hx hy i = hy i
small_joined (x ∷ xs) ys hx hy zero = hx zero
small_joined (x ∷ xs) ys hx hy (suc i) = small_joined xs ys (λ k. hx (suc k)) hy i

byte_small : (i n : ℕ) → byte_at i n < 256
byte_small zero n = omega arith
byte_small (suc i) n = omega arith

low_small : (i k n : ℕ) → IsBytes (bytes_low_first i k n)
low_small i zero n j = omega arith
low_small i (suc k) n zero = byte_small i n
low_small i (suc k) n (suc j) = low_small (suc i) k n j

digest_small : (h : List ℕ) (n : ℕ) → IsBytes (digest_bytes h n)
unfolding digest_bytes
digest_small h zero i = omega arith
digest_small h (suc n) i = small_joined (digest_bytes h n) (to_le_bytes w32 (get_or h n 0)) (digest_small h n) (low_small 0 4 (get_or h n 0)) i

md5_bytes : (m : List ℕ) → IsBytes (md5 m)
unfolding md5
md5_bytes m i = digest_small _ 4 i

pub digest_plain : (block : List ℕ) → list_all is_path_byte (encode_lower (md5 block)) ≡ true
digest_plain block = digits_plain (encode_lower (md5 block)) (lower-encode (md5 block) (md5_bytes block))
