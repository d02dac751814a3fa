-- What is written is read again: numbers, locators without hints, and the lines of an index.
use Rattle.std.proofs.Common.{◌≡◌, ◌<◌, ◌≤◌, ◌+◌, ◌^◌, ℕ, List, [], ◌∷◌, ◌++◌, length, take, drop, Bool, true, false, not, ◌&&◌, Option, None, Some, Ok, refl, sym, ◌∙◌, ap, arith, if◌then◌else◌, eqb, leb, append_assoc, slice_index, rules}
use Rattle.std.specs.Prelude.{◌==◌, ◌||◌, decimal, flat_map, option_and_then}
use Rattle.std.specs.List.{list_all, position_or_len, before_first, after_first, AllByRecursion}
use Rattle.std.specs.Char.{is_ascii_digit}
use Rattle.std.specs.Str.Parse.{digits_value}
use Rattle.std.proofs.lemmas.Bool.{and_parts, and_from, eq-eqb, ne_eqb, not-true, le-leb}
use Rattle.std.proofs.lemmas.Bool.Decides.{nat_tests}
use Rattle.std.proofs.lemmas.List.{take_at, drop_at, drop-drop, length-append}
use Rattle.std.proofs.Math.Seq.{get_or-append_seam}
use Rattle.std.proofs.lemmas.Str.Parse.{IsNumeralModel, numerals_by_value}
use Rattle.std.proofs.lemmas.Fmt.{decimal_is_IsNumeral, length-decimal-le}
use Rattle.hex.specs.Hex.{encode_lower, lower_digits, IsBytes}
use Rattle.hex.proofs.HexLemmas.{length-encode_with}
use Rattle.keep_spec.specs.Digest.{is_digest, is_lower_digit, bytes_of_digits}
use Rattle.keep_spec.specs.Lines.{cut, text_of}
use Rattle.keep_spec.specs.Locator.{is_number, number}
use Rattle.keep_spec.specs.Results.{◌>>=◌}
use Rattle.keep_spec.proofs.DigestText.{lower-encode, bytes_of_digits-encode}
use Rattle.keep_event.specs.Index.{locator_text, bare_locator, index_line, index_text, entry_with, entry_of_line, is_whole, is_empty_line, index_of, IsWritable, Ascend}
use Rattle.keep_event.specs.declared.lists.Entry.{Entry}
use Rattle.keep_lists.proofs.Bad.{result_from, goes-on}

-- ---- numbers
are_digits : IsNumeralModel (λ ds. list_all is_ascii_digit ds ≡ true) (digits_value 10)
are_digits = numerals_by_value _ (search rules)

pub decimal_digits : (n : ℕ) → n < 10 ^ 19 → list_all is_ascii_digit (decimal n) ≡ true
decimal_digits n small = are_digits.from (decimal n) (decimal_is_IsNumeral n (omega arith)).0.1

pub decimal-number : (n : ℕ) → n < 10 ^ 19 → is_number (decimal n) ≡ true
unfolding is_number
decimal-number n small =
    let numeral = decimal_is_IsNumeral n (omega arith) in
    let long = length-decimal-le 19 n (omega arith) small (omega arith) in
    let sizes = and_from (leb 1 (length (decimal n))) (leb (length (decimal n)) 19) (le-leb 1 (length (decimal n)) numeral.0.0) (le-leb (length (decimal n)) 19 long) in
    and_from (leb 1 (length (decimal n)) && leb (length (decimal n)) 19) (list_all is_ascii_digit (decimal n)) sizes (decimal_digits n small)

pub number-decimal : (n : ℕ) → n < 10 ^ 19 → number (decimal n) ≡ n
number-decimal n small = (decimal_is_IsNumeral n (omega arith)).1

-- ---- locators
pub digits-long : (h : List ℕ) → length h ≡ 16 → length (encode_lower h) ≡ 32
digits-long h len = omega (arith, length-encode_with lower_digits h, len)

pub locator-read : (h : List ℕ) (n : ℕ) → length h ≡ 16 → IsBytes h → n < 10 ^ 19 → bare_locator (locator_text h n) ≡ Some (h, n)
locator-read h n len bytes small =
    let digits = encode_lower h in
    let long = digits-long h len in
    let text = locator_text h n in
    let first : take 32 text ≡ digits = take_at digits (43 ∷ decimal n) 32 long in
    let rest : drop 32 text ≡ 43 ∷ decimal n = drop_at digits (43 ∷ decimal n) 32 long in
    let last : drop 33 text ≡ decimal n = sym (drop-drop 1 32 text) ∙ ap (drop 1) rest in
    let plus : slice_index text 32 ≡ 43 = ap (slice_index text) (sym long) ∙ get_or-append_seam digits 43 (decimal n) 0 in
    let in_digits : is_digest (take 32 text) ≡ true = ap is_digest first ∙ and_from (length digits == 32) (list_all is_lower_digit digits) (eq-eqb (length digits) 32 long) (lower-encode h bytes) in
    let in_number : is_number (drop 33 text) ≡ true = ap is_number last ∙ decimal-number n small in
    let front = and_from (is_digest (take 32 text)) (slice_index text 32 == 43) in_digits (eq-eqb (slice_index text 32) 43 plus) in
    ap (λ b. if b then Some (bytes_of_digits (take 32 text), number (drop 33 text)) else None) (and_from (is_digest (take 32 text) && (slice_index text 32 == 43)) (is_number (drop 33 text)) front in_number)
    ∙ ap (λ v. Some (v, number (drop 33 text))) (ap bytes_of_digits first ∙ bytes_of_digits-encode h bytes)
    ∙ ap (λ v. Some (h, v)) (ap number last ∙ number-decimal n small)

-- ---- a text cut at its first space
abbrev pub lacks : ℕ → List ℕ → Bool
lacks c xs = list_all (λ x. not (eqb x c)) xs

list_all-weaker : (p q : ℕ → Bool) → ((x : ℕ) → p x ≡ true → q x ≡ true) → (xs : List ℕ) → list_all p xs ≡ true → list_all q xs ≡ true
list_all-weaker p q w [] h = refl
list_all-weaker p q w (x ∷ xs) h =
    let parts = and_parts (p x) (list_all p xs) h in
    and_from (q x) (list_all q xs) (w x parts.0) (list_all-weaker p q w xs parts.1)

list_all-joined : (p : ℕ → Bool) (xs ys : List ℕ) → list_all p xs ≡ true → list_all p ys ≡ true → list_all p (xs ++ ys) ≡ true
list_all-joined p [] ys h k = k
list_all-joined p (x ∷ xs) ys h k =
    let parts = and_parts (p x) (list_all p xs) h in
    and_from (p x) (list_all p (xs ++ ys)) parts.0 (list_all-joined p xs ys parts.1 k)

first-at : (c : ℕ) (xs ys : List ℕ) → lacks c xs ≡ true → position_or_len (λ b. b == c) (xs ++ c ∷ ys) ≡ length xs
first-at c [] ys h = ap (λ b. if not b then 1 + position_or_len (λ b. b == c) ys else 0) (eq-eqb c c refl)
first-at c (x ∷ xs) ys h =
    let parts = and_parts (not (eqb x c)) (lacks c xs) h in
    let rest = first-at c xs ys parts.1 in
    ap (λ b. if b then 1 + position_or_len (λ b. b == c) (xs ++ c ∷ ys) else 0) parts.0 ∙ omega arith

pub before-joined : (c : ℕ) (xs ys : List ℕ) → lacks c xs ≡ true → before_first (λ b. b == c) (xs ++ c ∷ ys) ≡ xs
before-joined c xs ys h = ap (λ n. take n (xs ++ c ∷ ys)) (first-at c xs ys h) ∙ take_at xs (c ∷ ys) (length xs) refl

pub after-joined : (c : ℕ) (xs ys : List ℕ) → lacks c xs ≡ true → after_first (λ b. b == c) (xs ++ c ∷ ys) ≡ ys
after-joined c xs ys h =
    let place : position_or_len (λ b. b == c) (xs ++ c ∷ ys) + 1 ≡ length xs + 1 = omega (arith, first-at c xs ys h) in
    ap (λ n. drop n (xs ++ c ∷ ys)) place ∙ sym (drop-drop 1 (length xs) (xs ++ c ∷ ys)) ∙ ap (drop 1) (drop_at xs (c ∷ ys) (length xs) refl)

lower-no : (c : ℕ) → c < 48 → (x : ℕ) → is_lower_digit x ≡ true → not (eqb x c) ≡ true
lower-no c lt x h = grind (arith, nat_tests)

digit-no : (c : ℕ) → c < 48 → (x : ℕ) → is_ascii_digit x ≡ true → not (eqb x c) ≡ true
digit-no c lt x h = grind (arith, nat_tests)

plus-no : (c : ℕ) → c < 43 → not (eqb 43 c) ≡ true
plus-no c lt = grind (arith, nat_tests)

locator-lacks : (c : ℕ) → c < 43 → (h : List ℕ) (n : ℕ) → IsBytes h → n < 10 ^ 19 → lacks c (locator_text h n) ≡ true
locator-lacks c lt h n bytes small =
    list_all-joined (λ x. not (eqb x c)) (encode_lower h) (43 ∷ decimal n) (list_all-weaker is_lower_digit (λ x. not (eqb x c)) (lower-no c (omega arith)) (encode_lower h) (lower-encode h bytes))
    (and_from (not (eqb 43 c)) (lacks c (decimal n)) (plus-no c lt) (list_all-weaker is_ascii_digit (λ x. not (eqb x c)) (digit-no c (omega arith)) (decimal n) (decimal_digits n small)))

-- ---- the line of an entry
abbrev line_text : Entry → List ℕ
line_text e = locator_text e.digest e.size ++ 32 ∷ decimal e.mtime

pub line-read : (e : Entry) → IsWritable e → entry_of_line (line_text e) ≡ Some e
unfolding entry_of_line
line-read e w =
    let loc = locator_text e.digest e.size in
    let time = decimal e.mtime in
    let blanks = locator-lacks 32 (omega arith) e.digest e.size w.bytes w.size in
    ap (λ v. option_and_then (entry_with (after_first (λ b. b == 32) (loc ++ 32 ∷ time))) (bare_locator v)) (before-joined 32 loc time blanks)
    ∙ ap (λ v. option_and_then (entry_with v) (bare_locator loc)) (after-joined 32 loc time blanks)
    ∙ ap (λ o. option_and_then (entry_with time) o) (locator-read e.digest e.size w.long w.bytes w.size)
    ∙ ap (λ b. if b then Some (record { digest = e.digest; size = e.size; mtime = number time }) else None) (decimal-number e.mtime w.mtime)
    ∙ ap (λ v. Some (record { digest = e.digest; size = e.size; mtime = v })) (number-decimal e.mtime w.mtime)

line-lacks : (e : Entry) → IsWritable e → lacks 10 (line_text e) ≡ true
line-lacks e w =
    list_all-joined (λ x. not (eqb x 10)) (locator_text e.digest e.size) (32 ∷ decimal e.mtime) (locator-lacks 10 (omega arith) e.digest e.size w.bytes w.size)
    (list_all-weaker is_ascii_digit (λ x. not (eqb x 10)) (digit-no 10 (omega arith)) (decimal e.mtime) (decimal_digits e.mtime w.mtime))

some-long : (e : Entry) → 1 ≤ length (line_text e)
some-long e = omega (arith, length-append (locator_text e.digest e.size) (32 ∷ decimal e.mtime))

-- ---- a text cut behind a line
cut-line : (xs ys : List ℕ) → lacks 10 xs ≡ true → cut (xs ++ 10 ∷ ys) ≡ (xs ++ 10 ∷ []) ∷ cut ys
unfolding cut
cut-line [] ys h = refl
cut-line (x ∷ xs) ys h =
    let parts = and_parts (not (eqb x 10)) (lacks 10 xs) h in
    rw (not-true (eqb x 10) parts.0, cut-line xs ys parts.1) refl

text-line : (xs : List ℕ) → lacks 10 xs ≡ true → text_of (xs ++ 10 ∷ []) ≡ xs
unfolding text_of
text-line [] h = refl
text-line (x ∷ xs) h =
    let parts = and_parts (not (eqb x 10)) (lacks 10 xs) h in
    rw (not-true (eqb x 10) parts.0, text-line xs parts.1) refl

or-last : (b : Bool) → (b || true) ≡ true
or-last true = refl
or-last false = refl

whole-line : (xs : List ℕ) → is_whole (xs ++ 10 ∷ []) ≡ true
whole-line [] = refl
whole-line (x ∷ xs) = ap (λ b. (x == 10) || b) (whole-line xs) ∙ or-last (x == 10)

full-line : (xs : List ℕ) → lacks 10 xs ≡ true → 1 ≤ length xs → is_empty_line (xs ++ 10 ∷ []) ≡ false
full-line xs h some = ap (λ (v : List ℕ). length v == 0) (text-line xs h) ∙ ne_eqb (length xs) 0 (λ e. omega arith)

-- ---- an index
nothing-again : (at : ℕ) (before : Option Entry) → result_from at before (cut (index_text [])) ≡ Ok []
unfolding index_text cut text_of entry_of_line
nothing-again at before = refl

index-more : (e : Entry) (es : List Entry) → index_text (e ∷ es) ≡ line_text e ++ 10 ∷ index_text es
unfolding index_text
index-more e es = append_assoc (index_line e) (flat_map index_line es) (10 ∷ []) ∙ append_assoc (line_text e) (10 ∷ []) (flat_map index_line es ++ 10 ∷ [])

pub again-from : (es : List Entry) (at : ℕ) (before : Option Entry) → AllByRecursion IsWritable es → Ascend before es → result_from at before (cut (index_text es)) ≡ Ok es
again-from [] at before all up = nothing-again at before
again-from (e ∷ es) at before all up =
    let line = line_text e in
    let clear = line-lacks e all.0 in
    let piece = line ++ 10 ∷ [] in
    let long : 1 ≤ length line = some-long e in
    ap (λ t. result_from at before (cut t)) (index-more e es)
    ∙ ap (result_from at before) (cut-line line (index_text es) clear)
    ∙ goes-on piece e (cut (index_text es)) at before (whole-line line) (full-line line clear long) (ap entry_of_line (text-line line clear) ∙ line-read e all.0) up.0
    ∙ ap (λ r. r >>= λ rest. Ok (e ∷ rest)) (again-from es (at + length piece) (Some e) all.1 up.1)

-- what was written is read again
pub index-again : (es : List Entry) → AllByRecursion IsWritable es → Ascend None es → index_of (index_text es) ≡ Ok es
unfolding index_of
index-again es all up = again-from es 0 None all up
