-- What is accepted a byte at a time is just what is a locator.
-- Laws: `cut-cons`, `accepts-start`, `cut-first`, `cut-none`.
use Rattle.std.proofs.Common.{◌≡◌, ℕ, zero, suc, ◌+◌, ◌<◌, ◌≤◌, Bool, true, false, not, ◌&&◌, nat_lt, nat_le, ◌==◌, inl, inr, List, [], ◌∷◌, length, take, drop, get_or, Option, Some, None, unwrap_or, if◌then◌else◌, refl, sym, ap, ◌∙◌, arith, zero-add}
use Rattle.std.specs.Char.{is_ascii_digit, is_ascii_uppercase}
use Rattle.std.specs.List.{list_all, prefix_len, position_or_len, onto_first}
use Rattle.std.specs.Option.{option_map}
use Rattle.std.proofs.lemmas.Bool.{cases_Bool, cases_lt, lt-ltb, le-ltb, lt-leb, eqb-true, ne_eqb, and_left, and_right, and_from}
use Rattle.std.proofs.lemmas.Bool.Decides.{nat_tests}
use Rattle.std.proofs.lemmas.List.{drop-drop, nil_from_length}
use Rattle.std.proofs.lemmas.List.Folds.{length-prefix_len}
use Rattle.keep_spec.specs.Digest.{is_lower_digit, is_digest}
use Rattle.keep_spec.specs.Locator.{is_hint_character, is_hint, cut_before_plus, is_number, size_digits, hints, is_locator}
use Rattle.keep_spec.proofs.Fronts.{prefix_len-yes, prefix_len-no}
use Rattle.keep_locator.specs.declared.hint_state.HintState.{HintState}
use Rattle.keep_locator.specs.declared.hint_state.HintState.TheVariants.{AfterPlus, InHint}
use Rattle.keep_locator.proofs.ParserStates.{State, digits, counted, placed, step, accepts, accepts-go, accepts-stop}

and_assoc : (a b c : Bool) → (a && (b && c)) ≡ ((a && b) && c)
and_assoc true b c = refl
and_assoc false b c = refl

and_false : (a : Bool) → (a && false) ≡ false
and_false true = refl
and_false false = refl

and_true : (a : Bool) → (a && true) ≡ a
and_true true = refl
and_true false = refl

-- a test that opens the way to a state
choose : {X : Type 0} (f : X → Bool) (b : Bool) (x : X) → unwrap_or (option_map f (if b then Some x else None)) false ≡ (b && f x)
choose f true x = refl
choose f false x = refl

choose-placed : (f : State → Bool) (b : Bool) (p : HintState) → unwrap_or (option_map f (option_map placed (if b then Some p else None))) false ≡ (b && f (placed p))
choose-placed f true p = refl
choose-placed f false p = refl

-- Hints.

abbrev pub not_plus : ℕ → Bool
not_plus c = not (c == 43)

abbrev are_hints : List ℕ → Bool
are_hints xs = list_all is_hint (cut_before_plus xs)

-- the first piece goes up to the next plus
pub cut-cons : (x : ℕ) (ys : List ℕ) → cut_before_plus (x ∷ ys) ≡ (x ∷ take (prefix_len not_plus ys) ys) ∷ cut_before_plus (drop (prefix_len not_plus ys) ys)
unfolding cut_before_plus
cut-cons x [] = refl
cut-cons x (y ∷ ys) =
    let k = prefix_len not_plus ys in
    elim (cases_Bool (y == 43)) [
      | inl plus ↦
          let none = prefix_len-no not_plus y ys (ap not plus) in
          ap (λ b. if b then (x ∷ []) ∷ cut_before_plus (y ∷ ys) else onto_first x (cut_before_plus (y ∷ ys))) plus
          ∙ ap (λ n. (x ∷ take n (y ∷ ys)) ∷ cut_before_plus (drop n (y ∷ ys))) (sym none)
      | inr other ↦
          let more = prefix_len-yes not_plus y ys (ap not other) in
          ap (λ b. if b then (x ∷ []) ∷ cut_before_plus (y ∷ ys) else onto_first x (cut_before_plus (y ∷ ys))) other
          ∙ ap (onto_first x) (cut-cons y ys)
          ∙ ap (λ n. (x ∷ take n (y ∷ ys)) ∷ cut_before_plus (drop n (y ∷ ys))) (sym more)
    ]

are_hints-cons : (x : ℕ) (ys : List ℕ) → are_hints (x ∷ ys) ≡ (is_hint (x ∷ take (prefix_len not_plus ys) ys) && are_hints (drop (prefix_len not_plus ys) ys))
are_hints-cons x ys = ap (list_all is_hint) (cut-cons x ys)

no_letter_plus : (z : ℕ) → z ≡ 43 → is_ascii_uppercase z ≡ false
no_letter_plus z e = ap is_ascii_uppercase e

regroup : (a b c d : Bool) → (((a && b) && c) && d) ≡ (a && (b && (c && d)))
regroup true true c d = refl
regroup true false c d = refl
regroup false b c d = refl

swapped : (a b c : Bool) → ((a && b) && c) ≡ (b && (a && c))
swapped true b c = refl
swapped false true c = refl
swapped false false c = refl

-- what is left of a hint after its letter, and the hints after it
abbrev is_rest : List ℕ → Bool
is_rest zs = list_all is_hint_character (take (prefix_len not_plus zs) zs) && are_hints (drop (prefix_len not_plus zs) zs)

record Hints (zs : List ℕ) : Type 0 where
  rest : accepts (placed InHint) zs ≡ is_rest zs
  front : (c : ℕ) → are_hints (c ∷ zs) ≡ ((c == 43) && accepts (placed AfterPlus) zs)

rest-cons : (z : ℕ) (zs : List ℕ) → Hints zs → accepts (placed InHint) (z ∷ zs) ≡ is_rest (z ∷ zs)
rest-cons z zs h =
    elim (cases_Bool (z == 43)) [
      | inl plus ↦
          let none = prefix_len-no not_plus z zs (ap not plus) in
          let go : step (placed InHint) z ≡ Some (placed AfterPlus) = ap (λ b. option_map placed (if b then Some AfterPlus else (if is_hint_character z then Some InHint else None))) plus in
          accepts-go (placed InHint) (placed AfterPlus) z zs go
          ∙ sym (h.front z ∙ ap (λ b. b && accepts (placed AfterPlus) zs) plus)
          ∙ ap (λ n. list_all is_hint_character (take n (z ∷ zs)) && are_hints (drop n (z ∷ zs))) (sym none)
      | inr other ↦
          let more = prefix_len-yes not_plus z zs (ap not other) in
          let way : step (placed InHint) z ≡ option_map placed (if is_hint_character z then Some InHint else None) = ap (λ b. option_map placed (if b then Some AfterPlus else (if is_hint_character z then Some InHint else None))) other in
          ap (λ o. unwrap_or (option_map (λ t. accepts t zs) o) false) way
          ∙ choose-placed (λ t. accepts t zs) (is_hint_character z) InHint
          ∙ ap (λ b. is_hint_character z && b) h.rest
          ∙ and_assoc (is_hint_character z) _ _
          ∙ ap (λ n. list_all is_hint_character (take n (z ∷ zs)) && are_hints (drop n (z ∷ zs))) (sym more)
    ]

front-cons : (z : ℕ) (zs : List ℕ) → Hints zs → (c : ℕ) → are_hints (c ∷ z ∷ zs) ≡ ((c == 43) && accepts (placed AfterPlus) (z ∷ zs))
unfolding is_hint
front-cons z zs h c =
    let letter : accepts (placed AfterPlus) (z ∷ zs) ≡ (is_ascii_uppercase z && accepts (placed InHint) zs) = choose-placed (λ t. accepts t zs) (is_ascii_uppercase z) InHint in
    elim (cases_Bool (z == 43)) [
      | inl plus ↦
          let none = prefix_len-no not_plus z zs (ap not plus) in
          let no_letter = no_letter_plus z (eqb-true z 43 plus) in
          are_hints-cons c (z ∷ zs)
          ∙ ap (λ n. is_hint (c ∷ take n (z ∷ zs)) && are_hints (drop n (z ∷ zs))) none
          ∙ sym (ap (λ b. (c == 43) && b) (letter ∙ ap (λ b. b && accepts (placed InHint) zs) no_letter) ∙ and_false (c == 43))
      | inr other ↦
          let more = prefix_len-yes not_plus z zs (ap not other) in
          let k = prefix_len not_plus zs in
          let rest : Bool = list_all is_hint_character (take k zs) in
          are_hints-cons c (z ∷ zs)
          ∙ ap (λ n. is_hint (c ∷ take n (z ∷ zs)) && are_hints (drop n (z ∷ zs))) more
          ∙ regroup (c == 43) (is_ascii_uppercase z) rest (are_hints (drop k zs))
          ∙ ap (λ b. (c == 43) && (is_ascii_uppercase z && b)) (sym h.rest)
          ∙ ap (λ b. (c == 43) && b) (sym letter)
    ]

hints_of : (zs : List ℕ) → Hints zs
unfolding cut_before_plus is_hint
hints_of [] = record { rest = refl; front = λ c. sym (and_false (c == 43)) }
hints_of (z ∷ zs) = let h = hints_of zs in record { rest = rest-cons z zs h; front = front-cons z zs h }

-- The size.

abbrev is_count : ℕ → Bool
is_count n = nat_le 1 n && nat_le n 19

counted-end : (n : ℕ) → n ≤ 19 → nat_lt 0 n ≡ (is_count (n + 0) && true)
counted-end n le = grind (arith, nat_tests)

not_digit_plus : (c : ℕ) → is_ascii_digit c ≡ true → (c == 43) ≡ false
not_digit_plus c digit = grind (arith, nat_tests)

accepts-counted : (xs : List ℕ) (n : ℕ) → n ≤ 19 → accepts (counted n) xs ≡ (is_count (n + prefix_len is_ascii_digit xs) && are_hints (drop (prefix_len is_ascii_digit xs) xs))
unfolding cut_before_plus
accepts-counted [] n le = counted-end n le
accepts-counted (c ∷ cs) n le =
    let more : Option State = if (c == 43) && nat_lt 0 n then Some (placed AfterPlus) else None in
    let k = prefix_len is_ascii_digit cs in
    elim (cases_Bool (is_ascii_digit c)) [
      | inl digit ↦
          let len = prefix_len-yes is_ascii_digit c cs digit in
          let sum : n + suc k ≡ n + 1 + k = omega arith in
          elim (cases_lt n 19) [
            | inl below ↦
                let go : step (counted n) c ≡ Some (counted (n + 1)) = ap (λ b. if b then Some (counted (n + 1)) else more) (and_from (is_ascii_digit c) (nat_lt n 19) digit (lt-ltb n 19 below)) in
                accepts-go (counted n) (counted (n + 1)) c cs go
                ∙ accepts-counted cs (n + 1) (omega arith)
                ∙ ap (λ m. is_count m && are_hints (drop k cs)) (sym sum)
                ∙ ap (λ m. is_count (n + m) && are_hints (drop m (c ∷ cs))) (sym len)
            | inr full ↦
                let stop : step (counted n) c ≡ None =
                ap (λ b. if b then Some (counted (n + 1)) else more) (and_right (is_ascii_digit c) (nat_lt n 19) (le-ltb n 19 full))
                ∙ ap (λ b. if b then Some (placed AfterPlus) else None) (and_left (c == 43) (nat_lt 0 n) (not_digit_plus c digit)) in
                let past : is_count (n + suc k) ≡ false = and_right (nat_le 1 (n + suc k)) (nat_le (n + suc k) 19) (lt-leb (n + suc k) 19 (omega arith)) in
                accepts-stop (counted n) c cs stop
                ∙ sym (ap (λ b. b && are_hints (drop k cs)) past)
                ∙ ap (λ m. is_count (n + m) && are_hints (drop m (c ∷ cs))) (sym len)
          ]
      | inr other ↦
          let len = prefix_len-no is_ascii_digit c cs other in
          let way : step (counted n) c ≡ more = ap (λ b. if b then Some (counted (n + 1)) else more) (and_left (is_ascii_digit c) (nat_lt n 19) other) in
          ap (λ o. unwrap_or (option_map (λ t. accepts t cs) o) false) way
          ∙ choose (λ t. accepts t cs) ((c == 43) && nat_lt 0 n) (placed AfterPlus)
          ∙ swapped (c == 43) (nat_lt 0 n) (accepts (placed AfterPlus) cs)
          ∙ ap (λ b. b && ((c == 43) && accepts (placed AfterPlus) cs)) (counted-end n le ∙ and_true (is_count (n + 0)))
          ∙ ap (λ b. is_count (n + 0) && b) (sym ((hints_of cs).front c))
          ∙ ap (λ m. is_count (n + m) && are_hints (drop m (c ∷ cs))) (sym len)
    ]

-- The digest.

taken : (a l d p r : Bool) → (a && (((l && d) && p) && r)) ≡ (((l && (a && d)) && p) && r)
taken true l d p r = refl
taken false true d p r = refl
taken false false d p r = refl

abbrev is_front : ℕ → List ℕ → Bool
is_front k xs = ((length (take k xs) == k) && list_all is_lower_digit (take k xs)) && (get_or xs k 0 == 43)

eqb-suc : (a b : ℕ) → (suc a == suc b) ≡ (a == b)
eqb-suc a b = grind (arith, nat_tests)

accepts-digits : (k n : ℕ) (xs : List ℕ) → k + n ≡ 32 → accepts (digits n) xs ≡ (is_front k xs && accepts (counted 0) (drop (suc k) xs))
accepts-digits zero n [] sum = refl
accepts-digits zero n (c ∷ cs) sum =
    let plus : Option State = if c == 43 then Some (counted 0) else None in
    let lower : Option State = if is_lower_digit c then Some (digits (n + 1)) else None in
    let way : step (digits n) c ≡ plus = ap (λ b. if b then lower else plus) (le-ltb n 32 (omega (arith, sum))) in
    ap (λ o. unwrap_or (option_map (λ t. accepts t cs) o) false) way ∙ choose (λ t. accepts t cs) (c == 43) (counted 0)
accepts-digits (suc k) n [] sum = sym (ap (λ b. ((b && true) && false) && accepts (counted 0) []) (ne_eqb 0 (suc k) (λ e. omega (arith, e))))
accepts-digits (suc k) n (c ∷ cs) sum =
    let plus : Option State = if c == 43 then Some (counted 0) else None in
    let lower : Option State = if is_lower_digit c then Some (digits (n + 1)) else None in
    let way : step (digits n) c ≡ lower = ap (λ b. if b then lower else plus) (lt-ltb n 32 (omega (arith, sum))) in
    ap (λ o. unwrap_or (option_map (λ t. accepts t cs) o) false) way
    ∙ choose (λ t. accepts t cs) (is_lower_digit c) (digits (n + 1))
    ∙ ap (λ b. is_lower_digit c && b) (accepts-digits k (n + 1) cs (omega (arith, sum)))
    ∙ taken (is_lower_digit c) (length (take k cs) == k) (list_all is_lower_digit (take k cs)) (get_or cs k 0 == 43) (accepts (counted 0) (drop (suc k) cs))
    ∙ ap (λ b. ((b && (is_lower_digit c && list_all is_lower_digit (take k cs))) && (get_or cs k 0 == 43)) && accepts (counted 0) (drop (suc k) cs)) (sym (eqb-suc (length (take k cs)) k))

-- The whole.

all_of_take : (p : ℕ → Bool) (xs : List ℕ) → list_all p (take (prefix_len p xs) xs) ≡ true
all_of_take p [] = refl
all_of_take p (x ∷ xs) =
    elim (cases_Bool (p x)) [
      | inl passes ↦ ap (λ n. list_all p (take n (x ∷ xs))) (prefix_len-yes p x xs passes) ∙ and_from (p x) (list_all p (take (prefix_len p xs) xs)) passes (all_of_take p xs)
      | inr fails ↦ ap (λ n. list_all p (take n (x ∷ xs))) (prefix_len-no p x xs fails)
    ]

is_number-front : (ys : List ℕ) → is_number (take (prefix_len is_ascii_digit ys) ys) ≡ is_count (prefix_len is_ascii_digit ys)
unfolding is_number
is_number-front ys =
    ap (λ b. (nat_le 1 (length (take (prefix_len is_ascii_digit ys) ys)) && nat_le (length (take (prefix_len is_ascii_digit ys) ys)) 19) && b) (all_of_take is_ascii_digit ys)
    ∙ and_true _
    ∙ ap is_count (length-prefix_len is_ascii_digit ys)

hints-front : (text : List ℕ) → list_all is_hint (hints text) ≡ are_hints (drop (prefix_len is_ascii_digit (drop 33 text)) (drop 33 text))
unfolding hints size_digits
hints-front text =
    let k = prefix_len is_ascii_digit (drop 33 text) in
    ap (λ n. are_hints (drop (33 + n) text)) (length-prefix_len is_ascii_digit (drop 33 text)) ∙ ap are_hints (sym (drop-drop k 33 text))

pub accepts-start : (text : List ℕ) → accepts (digits 0) text ≡ is_locator text
unfolding is_locator size_digits
accepts-start text =
    let k = prefix_len is_ascii_digit (drop 33 text) in
    let front : Bool = is_digest (take 32 text) && (get_or text 32 0 == 43) in
    accepts-digits 32 0 text refl
    ∙ ap (λ b. front && b) (accepts-counted (drop 33 text) 0 (omega arith) ∙ ap (λ n. is_count n && are_hints (drop k (drop 33 text))) (zero-add k))
    ∙ and_assoc front (is_count k) (are_hints (drop k (drop 33 text)))
    ∙ ap (λ b. (front && b) && are_hints (drop k (drop 33 text))) (sym (is_number-front (drop 33 text)))
    ∙ ap (λ b. (front && is_number (take k (drop 33 text))) && b) (sym (hints-front text))

-- the hints of a text that isn't empty: the first, up to the next plus, and those after it
pub cut-first : (text : List ℕ) (n : ℕ) → 0 < length text → n ≡ position_or_len (λ c. c == 43) (drop 1 text) + 1 → cut_before_plus text ≡ take n text ∷ cut_before_plus (drop n text)
cut-first [] n some is = absurd (omega (arith, some))
cut-first (x ∷ ys) n some is =
    let e : suc (prefix_len not_plus ys) ≡ n = omega (arith, is) in
    cut-cons x ys ∙ ap (λ m. take m (x ∷ ys) ∷ cut_before_plus (drop m (x ∷ ys))) e

pub cut-none : (text : List ℕ) → length text ≡ 0 → cut_before_plus text ≡ []
unfolding cut_before_plus
cut-none text none = ap cut_before_plus (nil_from_length text none)
