-- The parts of a permission hint.
-- Laws: `permission_parts`, `permission_read`, `found_only`, `found_second`, `sixteen-suc`, `sixteen-le`, `hex-take-more`, `all_at`,
-- `lower-value`, `lower-letter`.
use Rattle.std.proofs.Common.{◌≡◌, ℕ, ◌+◌, ◌*◌, ◌^◌, ◌<◌, ◌≤◌, Bool, true, ◌==◌, ◌&&◌, nat_eq, List, [], ◌∷◌, ◌++◌, map, length, take, drop, get_or, Option, Some, None, if◌then◌else◌, refl, sym, ap, ◌∙◌, arith}
use Rattle.std.specs.Prelude.{codes, filter, is_some}
use Rattle.std.specs.Option.{option_map, option_to_list}
use Rattle.std.specs.Char.{digit_value}
use Rattle.std.specs.List.{list_all, starts_with}
use Rattle.std.specs.Str.Parse.{digits_value}
use Rattle.std.proofs.Math.Nat.{pow-suc, pow-le-pow_right}
use Rattle.std.proofs.lemmas.Bool.{and_parts, eqb-true, false≢true}
use Rattle.std.proofs.lemmas.Bool.Decides.{nat_tests}
use Rattle.std.proofs.lemmas.List.{take_more}
use Rattle.keep_spec.specs.Digest.{is_lower_digit}
use Rattle.keep_spec.specs.Locator.{is_permission_hint, permission_of, permission, hints, cut_before_plus, only_one}
use Rattle.keep_spec.specs.declared.permission.Permission.{Permission}
use Rattle.std.proofs.lemmas.List.Sums.{prefix_len_passes}
use Rattle.keep_spec.proofs.Fronts.{prefix_len-all}
use Rattle.keep_spec.proofs.NumberText.{digits_value_after-push}

pub record PermissionParts (hint : List ℕ) : Type 0 where
  pub len : length hint ≡ 51
  pub signature : list_all is_lower_digit (take 40 (drop 2 hint)) ≡ true
  pub expiry : list_all is_lower_digit (take 8 (drop 43 hint)) ≡ true

pub permission_parts : (hint : List ℕ) → is_permission_hint hint ≡ true → PermissionParts hint
unfolding is_permission_hint
permission_parts hint h =
    let len : Bool = length hint == 51 in
    let front = starts_with nat_eq hint (codes "+A") in
    let signature = list_all is_lower_digit (take 40 (drop 2 hint)) in
    let at : Bool = get_or hint 42 0 == 64 in
    let expiry = list_all is_lower_digit (take 8 (drop 43 hint)) in
    let a = and_parts (((len && front) && signature) && at) expiry h in
    let b = and_parts ((len && front) && signature) at a.0 in
    let c = and_parts (len && front) signature b.0 in
    let d = and_parts len front c.0 in
    record { len = eqb-true (length hint) 51 d.0; signature = c.1; expiry = a.1 }

abbrev pub permission_if : Bool → List ℕ → Option Permission
permission_if b hint = if b then Some (permission_of hint) else None

pub permission_read : (hint signature : List ℕ) (expiry : ℕ) → is_permission_hint hint ≡ true → signature ≡ take 40 (drop 2 hint) → expiry ≡ digits_value 16 (take 8 (drop 43 hint))
    → Some (record { signature = signature; expiry = expiry }) ≡ permission_if (is_permission_hint hint) hint
unfolding permission_of
permission_read hint signature expiry is e f =
    let whole : Permission → Option Permission = Some in
    ap (λ s. whole (record { signature = s; expiry = expiry })) e
    ∙ ap (λ n. whole (record { signature = take 40 (drop 2 hint); expiry = n })) f
    ∙ sym (ap (λ b. if b then whole (permission_of hint) else None) is)

-- The one permission of several hints.

abbrev permissions : List (List ℕ) → List Permission
permissions hints = map permission_of (filter is_permission_hint hints)

only_one-map : (hints : List (List ℕ)) → option_map permission_of (only_one hints) ≡ only_one (map permission_of hints)
only_one-map [] = refl
only_one-map (x ∷ []) = refl
only_one-map (x ∷ y ∷ rest) = refl

permission-is : (text : List ℕ) → permission text ≡ only_one (permissions (hints text))
unfolding permission
permission-is text = only_one-map (filter is_permission_hint (hints text))

only_found : (found : Option Permission) → found ≡ only_one (option_to_list found ++ [])
only_found None = refl
only_found (Some p) = refl

pub found_only : (found : Option Permission) (text rest : List ℕ) → cut_before_plus rest ≡ [] → option_to_list found ++ permissions (cut_before_plus rest) ≡ permissions (hints text) → found ≡ permission text
found_only found text rest none so_far =
    only_found found ∙ ap (λ hs. only_one (option_to_list found ++ permissions hs)) (sym none) ∙ ap only_one so_far ∙ sym (permission-is text)

two : (found : Option Permission) (p : Permission) (rest : List Permission) → is_some found ≡ true → None ≡ only_one (option_to_list found ++ p ∷ rest)
two None p rest some = absurd (false≢true some)
two (Some q) p rest some = refl

pub found_second : (found : Option Permission) (text rest hint behind : List ℕ) → is_some found ≡ true → is_permission_hint hint ≡ true → cut_before_plus rest ≡ hint ∷ cut_before_plus behind
    → option_to_list found ++ permissions (cut_before_plus rest) ≡ permissions (hints text) → None ≡ permission text
found_second found text rest hint behind some is more so_far =
    let here : permissions (cut_before_plus rest) ≡ permission_of hint ∷ permissions (cut_before_plus behind) =
    ap permissions more ∙ ap (λ b. map permission_of (if b then hint ∷ filter is_permission_hint (cut_before_plus behind) else filter is_permission_hint (cut_before_plus behind))) is in
    two found (permission_of hint) (permissions (cut_before_plus behind)) some ∙ ap (λ ps. only_one (option_to_list found ++ ps)) (sym here) ∙ ap only_one so_far ∙ sym (permission-is text)

-- Hexadecimal numbers.

pub sixteen-suc : (n : ℕ) → 16 ^ (n + 1) ≡ 16 ^ n * 16
sixteen-suc n = grind (arith, pow-suc 16 n)

pub sixteen-le : (m n : ℕ) → m ≤ n → 16 ^ m ≤ 16 ^ n
sixteen-le m n le = pow-le-pow_right (omega arith) le

-- one digit more of a text
pub hex-take-more : (text : List ℕ) (i : ℕ) → i < length text → digits_value 16 (take (i + 1) text) ≡ digits_value 16 (take i text) * 16 + digit_value (get_or text i 0)
hex-take-more text i inside = ap (digits_value 16) (take_more text i 0 inside) ∙ digits_value_after-push 16 0 (take i text) (get_or text i 0)

pub all_at : (text : List ℕ) (i : ℕ) → list_all is_lower_digit text ≡ true → i < length text → is_lower_digit (get_or text i 0) ≡ true
all_at text i all inside = prefix_len_passes is_lower_digit text i 0 (omega (arith, prefix_len-all is_lower_digit text all))

pub lower-value : (c : ℕ) → is_lower_digit c ≡ true → digit_value c < 16
lower-value c lower = grind (arith, nat_tests)

pub lower-letter : (c : ℕ) → is_lower_digit c ≡ true → (58 ≤ c) → (97 ≤ c) × (c ≤ 102) × (digit_value c + 87 ≡ c)
lower-letter c lower past = (grind (arith, nat_tests), grind (arith, nat_tests), grind (arith, nat_tests))
