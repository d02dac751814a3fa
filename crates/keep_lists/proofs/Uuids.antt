-- A UUID is plain text.
use Rattle.std.proofs.Common.{◌≡◌, ◌<◌, ◌≤◌, ◌+◌, ◌-◌, ℕ, zero, suc, List, [], ◌∷◌, length, take, drop, get_or, Bool, true, false, ◌&&◌, refl, sym, ◌∙◌, ap, subst, arith, inl, inr, ◌==◌, Result, Ok, Err, rules}
use Rattle.std.specs.Prelude.{◌⊎◌, IsOk, slice_range, slice_index}
use Rattle.std.specs.List.{list_all}
use Rattle.std.specs.Result.{MatchResult}
use Rattle.std.specs.Str.{IsUtf8}
use Rattle.std.proofs.lemmas.Bool.{cases_Bool, cases_lt, and_parts, eqb-true}
use Rattle.std.proofs.lemmas.Bool.Decides.{nat_tests}
use Rattle.std.proofs.lemmas.List.{get_or-take, get_or-drop, length-take, length-drop}
use Rattle.std.proofs.lemmas.List.Folds.{list_all_at}
use Rattle.std.proofs.lemmas.Str.{IsUtf8-from_ascii}
use Rattle.keep_spec.specs.Uuid.{is_uuid, is_uuid_part, is_uuid_character, uuid_kind}

small : (c : ℕ) → is_uuid_character c ≡ true → c < 128
small c h = grind (arith, nat_tests)

all-at : (p : ℕ → Bool) (xs : List ℕ) (i : ℕ) → list_all p xs ≡ true → i < length xs → p (get_or xs i 0) ≡ true
all-at p xs i all lt = by (cases_Bool (p (get_or xs i 0)))
  where
    by : (p (get_or xs i 0) ≡ true) ⊎ (p (get_or xs i 0) ≡ false) → p (get_or xs i 0) ≡ true
    by (inl e) = e
    by (inr e) = (let f = sym all ∙ list_all_at p xs i 0 lt e in cc f)

part : (text : List ℕ) (from until i : ℕ) → is_uuid_part (slice_range text from until) ≡ true → until ≤ length text → from ≤ i → i < until → get_or text i 0 < 128
part text from until i all within low high =
    let inside : i - from < length (take (until - from) (drop from text)) = omega (arith, length-take (until - from) (drop from text), length-drop from text) in
    let place : from + (i - from) ≡ i = omega arith in
    let is = get_or-take (until - from) (drop from text) (i - from) 0 (omega arith) ∙ get_or-drop from text (i - from) 0 ∙ ap (λ k. get_or text k 0) place in
    subst (λ v. v < 128) is (small (get_or (take (until - from) (drop from text)) (i - from) 0) (all-at is_uuid_character (take (until - from) (drop from text)) (i - from) all inside))

past : (xs : List ℕ) (k : ℕ) → length xs ≤ k → get_or xs k 0 ≡ 0
past [] k le = refl
past (x ∷ xs) zero le = absurd (omega arith)
past (x ∷ xs) (suc k) le = past xs k (omega arith)

module _ (text : List ℕ) (h : is_uuid text ≡ true) where
  abbrev a : Bool
  a = length text == 27

  abbrev b : Bool
  b = is_uuid_part (slice_range text 0 5)

  abbrev c : Bool
  c = slice_index text 5 == 45

  abbrev d : Bool
  d = is_uuid_part (uuid_kind text)

  abbrev e : Bool
  e = slice_index text 11 == 45

  abbrev f : Bool
  f = is_uuid_part (slice_range text 12 27)

  by-place : (i : ℕ) → (i < 5) ⊎ (5 ≤ i) → (i < 6) ⊎ (6 ≤ i) → (i < 11) ⊎ (11 ≤ i) → (i < 12) ⊎ (12 ≤ i) → (i < 27) ⊎ (27 ≤ i) → get_or text i 0 < 128
  by-place i p q r s t =
      let p5 = and_parts (a && b && c && d && e) f h in
      let p4 = and_parts (a && b && c && d) e p5.0 in
      let p3 = and_parts (a && b && c) d p4.0 in
      let p2 = and_parts (a && b) c p3.0 in
      let p1 = and_parts a b p2.0 in
      let long = eqb-true (length text) 27 p1.0 in
      let five = eqb-true (slice_index text 5) 45 p2.1 in
      let eleven = eqb-true (slice_index text 11) 45 p4.1 in
      go long five eleven p1.1 p3.1 p5.1 p q r s t
    where
      go : length text ≡ 27 → slice_index text 5 ≡ 45 → slice_index text 11 ≡ 45 → b ≡ true → d ≡ true → f ≡ true
          → (i < 5) ⊎ (5 ≤ i) → (i < 6) ⊎ (6 ≤ i) → (i < 11) ⊎ (11 ≤ i) → (i < 12) ⊎ (12 ≤ i) → (i < 27) ⊎ (27 ≤ i) → get_or text i 0 < 128
      go long five eleven hb hd hf (inl lt) q r s t = part text 0 5 i hb (omega arith) (omega arith) lt
      go long five eleven hb hd hf (inr le) (inl lt) r s t = let k : 5 ≡ i = omega arith in subst (λ v. get_or text v 0 < 128) k (omega arith)
      go long five eleven hb hd hf (inr le) (inr le') (inl lt) s t = part text 6 11 i hd (omega arith) le' lt
      go long five eleven hb hd hf (inr le) (inr le') (inr le2) (inl lt) t = let k : 11 ≡ i = omega arith in subst (λ v. get_or text v 0 < 128) k (omega arith)
      go long five eleven hb hd hf (inr le) (inr le') (inr le2) (inr le3) (inl lt) = part text 12 27 i hf (omega arith) le3 lt
      go long five eleven hb hd hf (inr le) (inr le') (inr le2) (inr le3) (inr le4) = let z = past text i (omega arith) in omega arith

  pub uuid-text : IsUtf8 text
  uuid-text = IsUtf8-from_ascii text (λ i. by-place i (cases_lt i 5) (cases_lt i 6) (cases_lt i 11) (cases_lt i 12) (cases_lt i 27))

pub ok-where : {A E : Type 0} (r : Result A E) (P : A → Type 0) (U : Type 0) (Q : E → Type 0) → MatchResult r P (λ e. (U → ⊥) × Q e) → U → IsOk r
ok-where (Ok x) P U Q h u = search rules
ok-where (Err e) P U Q h u = absurd (h.0 u)
