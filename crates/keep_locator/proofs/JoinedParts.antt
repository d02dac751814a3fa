-- A locator and its parts, one after another.
-- Laws: `concat-cut`, `cut-concat`, `rest-is`, `joined`, `own_parts`, `joined_whole`.
use Rattle.std.proofs.Common.{◌≡◌, ℕ, ◌+◌, ◌<◌, Bool, true, false, ◌&&◌, ◌==◌, inl, inr, List, [], ◌∷◌, ◌++◌, length, take, drop, get_or, cond, nat_le, if◌then◌else◌, refl, sym, ap, ◌∙◌, arith, append_assoc}
use Rattle.std.specs.Char.{is_ascii_digit, is_ascii_uppercase}
use Rattle.std.specs.List.{list_all, prefix_len, take_while, onto_first, concat}
use Rattle.std.proofs.lemmas.Bool.{and_parts, eqb-true, cases_Bool, false≢true}
use Rattle.std.proofs.lemmas.Bool.Decides.{nat_tests}
use Rattle.std.proofs.lemmas.List.{take-append-drop, drop_more, take_at, drop_at, drop-drop, length-append, get_or_at}
use Rattle.std.proofs.lemmas.List.Folds.{length-prefix_len}
use Rattle.keep_spec.specs.Digest.{is_digest, is_lower_digit}
use Rattle.keep_spec.specs.Locator.{is_hint_character, is_hint, cut_before_plus, is_number, size_digits, stripped, hints, is_locator, IsJoined}
use Rattle.keep_spec.proofs.LocatorText.{locator_parts, locator_from_parts, length-size_digits}
use Rattle.keep_locator.proofs.GrammarStates.{not_plus, cut-cons}
use Rattle.keep_locator.proofs.Lists.{list_all-weaker}

-- Parts of a list that passes a test.

-- what passes, before a list that begins with what doesn't
prefix_len-before : (p : ℕ → Bool) (xs ys : List ℕ) → list_all p xs ≡ true → prefix_len p ys ≡ 0 → prefix_len p (xs ++ ys) ≡ length xs
prefix_len-before p [] ys all none = none
prefix_len-before p (x ∷ xs) ys all none =
    let parts = and_parts (p x) (list_all p xs) all in
    ap (λ b. if b then 1 + prefix_len p (xs ++ ys) else 0) parts.0 ∙ (let ih = prefix_len-before p xs ys parts.1 none in omega (arith, ih))

-- Cutting and joining.

concat-onto_first : (x : ℕ) (ps : List (List ℕ)) → concat (onto_first x ps) ≡ x ∷ concat ps
concat-onto_first x [] = refl
concat-onto_first x (p ∷ ps) = refl

pub concat-cut : (xs : List ℕ) → concat (cut_before_plus xs) ≡ xs
unfolding cut_before_plus
concat-cut [] = refl
concat-cut (x ∷ []) = refl
concat-cut (x ∷ y ∷ rest) =
    let ih = concat-cut (y ∷ rest) in
    let cut : Bool → List (List ℕ) = λ b. if b then (x ∷ []) ∷ cut_before_plus (y ∷ rest) else onto_first x (cut_before_plus (y ∷ rest)) in
    elim (cases_Bool (y == 43)) [
      | inl plus ↦ ap (λ b. concat (cut b)) plus ∙ ap (λ zs. x ∷ zs) ih
      | inr other ↦ ap (λ b. concat (cut b)) other ∙ concat-onto_first x (cut_before_plus (y ∷ rest)) ∙ ap (λ zs. x ∷ zs) ih
    ]

hint_character_plus : (c : ℕ) → is_hint_character c ≡ true → not_plus c ≡ true
hint_character_plus c is = grind (arith, nat_tests)

letter_plus : (c : ℕ) → is_ascii_uppercase c ≡ true → not_plus c ≡ true
letter_plus c is = grind (arith, nat_tests)

all_not_plus : (cs : List ℕ) → list_all is_hint_character cs ≡ true → list_all not_plus cs ≡ true
all_not_plus cs all = list_all-weaker is_hint_character not_plus hint_character_plus cs all

record HintParts (x l : ℕ) (cs : List ℕ) (hs : List (List ℕ)) : Type 0 where
  plus : x ≡ 43
  letter : is_ascii_uppercase l ≡ true
  characters : list_all is_hint_character cs ≡ true
  others : list_all is_hint hs ≡ true

hint_parts : (x l : ℕ) (cs : List ℕ) (hs : List (List ℕ)) → list_all is_hint ((x ∷ l ∷ cs) ∷ hs) ≡ true → HintParts x l cs hs
unfolding is_hint
hint_parts x l cs hs all =
    let plus : Bool = x == 43 in
    let a = and_parts ((plus && is_ascii_uppercase l) && list_all is_hint_character cs) (list_all is_hint hs) all in
    let b = and_parts (plus && is_ascii_uppercase l) (list_all is_hint_character cs) a.0 in
    let c = and_parts plus (is_ascii_uppercase l) b.0 in
    record { plus = eqb-true x 43 c.0; letter = c.1; characters = b.1; others = a.1 }

-- hints begin with a plus, where there are any
hints-front : (p : ℕ → Bool) (hs : List (List ℕ)) → p 43 ≡ false → list_all is_hint hs ≡ true → prefix_len p (concat hs) ≡ 0
unfolding is_hint
hints-front p [] plus all = refl
hints-front p ([] ∷ hs) plus all = absurd (false≢true all)
hints-front p ((x ∷ []) ∷ hs) plus all = absurd (false≢true all)
hints-front p ((x ∷ l ∷ cs) ∷ hs) plus all =
    let parts = hint_parts x l cs hs all in
    ap (λ b. cond b (1 + prefix_len p (l ∷ cs ++ concat hs)) 0) (ap p parts.plus ∙ plus)

pub cut-concat : (hs : List (List ℕ)) → list_all is_hint hs ≡ true → cut_before_plus (concat hs) ≡ hs
unfolding is_hint cut_before_plus
cut-concat [] all = refl
cut-concat ([] ∷ hs) all = absurd (false≢true all)
cut-concat ((x ∷ []) ∷ hs) all = absurd (false≢true all)
cut-concat ((x ∷ l ∷ cs) ∷ hs) all =
    let parts = hint_parts x l cs hs all in
    let rest : List ℕ = l ∷ cs in
    let ys = rest ++ concat hs in
    let others : list_all not_plus rest ≡ true = ap (λ b. b && list_all not_plus cs) (letter_plus l parts.letter) ∙ all_not_plus cs parts.characters in
    let k = prefix_len-before not_plus rest (concat hs) others (hints-front not_plus hs refl parts.others) in
    cut-cons x ys
    ∙ ap (λ n. (x ∷ take n ys) ∷ cut_before_plus (drop n ys)) k
    ∙ ap (λ zs. (x ∷ zs) ∷ cut_before_plus (drop (length rest) ys)) (take_at rest (concat hs) (length rest) refl)
    ∙ ap (λ zs. (x ∷ rest) ∷ cut_before_plus zs) (drop_at rest (concat hs) (length rest) refl)
    ∙ ap (λ zs. (x ∷ rest) ∷ zs) (cut-concat hs parts.others)

-- A text and its parts.

pub rest-is : (text : List ℕ) → stripped text ++ concat (hints text) ≡ text
unfolding stripped hints
rest-is text =
    let n = 33 + length (size_digits text) in
    ap (λ xs. take n text ++ xs) (concat-cut (drop n text)) ∙ take-append-drop n text

behind_digest : (text : List ℕ) → 32 < length text → get_or text 32 0 ≡ 43 → text ≡ take 32 text ++ 43 ∷ drop 33 text
behind_digest text long plus =
    sym (take-append-drop 32 text) ∙ ap (λ xs. take 32 text ++ xs) (drop_more text 32 0 long ∙ ap (λ c. c ∷ drop 33 text) plus)

size-behind : (text : List ℕ) → drop 33 text ≡ size_digits text ++ concat (hints text)
unfolding size_digits hints
size-behind text =
    let ys = drop 33 text in
    let p = prefix_len is_ascii_digit ys in
    let n = length (take p ys) in
    let len : n ≡ p = length-prefix_len is_ascii_digit ys in
    sym (take-append-drop p ys)
    ∙ ap (λ xs. take p ys ++ xs) (ap (λ k. drop k ys) (sym len) ∙ drop-drop n 33 text ∙ sym (concat-cut (drop (33 + n) text)))

pub joined : (text : List ℕ) → is_locator text ≡ true → IsJoined text (take 32 text) (size_digits text) (hints text)
joined text whole =
    let parts = locator_parts text whole in
    record {
      joined = behind_digest text parts.long parts.plus ∙ ap (λ xs. take 32 text ++ 43 ∷ xs) (size-behind text) ∙ sym (append_assoc (take 32 text) (43 ∷ size_digits text) (concat (hints text)));
      a_digest = parts.a_digest;
      a_number = parts.a_number;
      each_a_hint = parts.each_a_hint;
    }

all_digits : (number : List ℕ) → is_number number ≡ true → list_all is_ascii_digit number ≡ true
unfolding is_number
all_digits number h = (and_parts (nat_le 1 (length number) && nat_le (length number) 19) (list_all is_ascii_digit number) h).1

pub record OwnParts (text digits number : List ℕ) (others : List (List ℕ)) : Type 0 where
  pub digits_are : take 32 text ≡ digits
  pub size_is : size_digits text ≡ number
  pub hints_are : hints text ≡ others

pub own_parts : (text digits number : List ℕ) (others : List (List ℕ)) → IsJoined text digits number others → OwnParts text digits number others
unfolding size_digits hints
own_parts text digits number others is =
    let len : length digits ≡ 32 = eqb-true (length digits) 32 (and_parts (length digits == 32) (list_all is_lower_digit digits) is.a_digest).0 in
    let behind : List ℕ = 43 ∷ number ++ concat others in
    let whole : text ≡ digits ++ behind = is.joined ∙ append_assoc digits (43 ∷ number) (concat others) in
    let front : take 32 text ≡ digits = ap (take 32) whole ∙ take_at digits behind 32 len in
    let len₁ : length (digits ++ 43 ∷ []) ≡ 33 = omega (arith, length-append digits (43 ∷ []), len) in
    let rest : drop 33 text ≡ number ++ concat others =
    ap (drop 33) (whole ∙ sym (append_assoc digits (43 ∷ []) (number ++ concat others))) ∙ drop_at (digits ++ 43 ∷ []) (number ++ concat others) 33 len₁ in
    let p = prefix_len-before is_ascii_digit number (concat others) (all_digits number is.a_number) (hints-front is_ascii_digit others refl is.each_a_hint) in
    let size : take_while is_ascii_digit (drop 33 text) ≡ number =
    ap (take_while is_ascii_digit) rest ∙ ap (λ n. take n (number ++ concat others)) p ∙ take_at number (concat others) (length number) refl in
    let last : drop (33 + length (take_while is_ascii_digit (drop 33 text))) text ≡ concat others =
    ap (λ xs. drop (33 + length xs) text) size ∙ sym (drop-drop (length number) 33 text) ∙ ap (drop (length number)) rest ∙ drop_at number (concat others) (length number) refl in
    record { digits_are = front; size_is = size; hints_are = ap cut_before_plus last ∙ cut-concat others is.each_a_hint }

pub joined_whole : (text digits number : List ℕ) (others : List (List ℕ)) → IsJoined text digits number others → is_locator text ≡ true
joined_whole text digits number others is =
    let own = own_parts text digits number others is in
    let len : length digits ≡ 32 = eqb-true (length digits) 32 (and_parts (length digits == 32) (list_all is_lower_digit digits) is.a_digest).0 in
    let behind : List ℕ = number ++ concat others in
    let whole : text ≡ digits ++ 43 ∷ behind = is.joined ∙ append_assoc digits (43 ∷ number) (concat others) in
    let plus : get_or text 32 0 ≡ 43 = ap (λ xs. get_or xs 32 0) whole ∙ get_or_at digits 43 behind 0 32 len in
    let long : 32 < length text = omega (arith, ap length whole, length-append digits (43 ∷ behind), len) in
    locator_from_parts text (record {
      a_digest = ap is_digest own.digits_are ∙ is.a_digest;
      plus = plus;
      a_number = ap is_number own.size_is ∙ is.a_number;
      each_a_hint = ap (list_all is_hint) own.hints_are ∙ is.each_a_hint;
      long = long;
      within = omega (arith, length-size_digits text, long);
    })
