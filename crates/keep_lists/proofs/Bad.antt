-- What the first line of a text says of the text: how an index goes on behind it.
use Rattle.std.proofs.Common.{◌≡◌, ◌<◌, ◌≤◌, ◌+◌, ◌-◌, ℕ, zero, suc, List, [], ◌∷◌, ◌++◌, length, take, drop, get_or, Bool, true, false, Option, None, Some, Result, Ok, Err, refl, sym, ◌∙◌, ap, arith, if◌then◌else◌, ◌&&◌, ◌||◌, append_assoc}
use Rattle.std.specs.Prelude.{◌==◌, nat_lt, slice_get}
use Rattle.std.specs.List.{list_any, filter_map, cons_option, position, position_or_len}
use Rattle.std.proofs.lemmas.Bool.{eqb-true, eq-eqb, eqb-false, ne_eqb, ltb-false}
use Rattle.std.proofs.lemmas.List.{append-nil, length-append, length-drop, length-take-le}
use Rattle.keep_spec.specs.Json.{option_filter}
use Rattle.std.proofs.lemmas.List.Sums.{fails_before_first}
use Rattle.std.proofs.lemmas.List.Quantifiers.{position-Some}
use Rattle.keep_spec.specs.Lines.{cut, text_of}
use Rattle.keep_spec.specs.Results.{◌>>=◌}
use Rattle.keep_base.specs.Ends.{IsPlain}
use Rattle.keep_base.proofs.Cut.{cut-newline, text_of-newline, cut-plain}
use Rattle.keep_event.specs.Index.{is_whole, is_empty_line, is_above, entry_of_line, first_after, bad_line, first_bad, has_ended, Fault, bad, cut_off, index_of_pieces, index_of}
use Rattle.keep_event.specs.declared.lists.Entry.{Entry}
use Rattle.keep_lists.specs.Answers.{ended_at}

-- what pieces say that begin at an offset behind an entry
abbrev pub result_from : ℕ → Option Entry → List (List ℕ) → Result (List Entry) Fault
result_from at before pieces = index_of_pieces pieces (first_bad at before pieces)

-- ---- the first piece of a text
is_plain : (xs : List ℕ) (n : ℕ) → ((k : ℕ) → k < n → ((get_or xs k 0) == 10) ≡ false) → IsPlain xs 0 n
is_plain xs n h k low high = eqb-false (get_or xs k 0) 10 (h k high)

pub record FirstLine (xs : List ℕ) (n : ℕ) : Type 0 where
  pub within : n < length xs
  pub plain : IsPlain xs 0 n
  pub newline : get_or xs n 0 ≡ 10
  pub pieces : cut xs ≡ take (suc n) xs ∷ cut (drop (suc n) xs)
  pub text : text_of (take (suc n) xs) ≡ take n xs
  pub whole : is_whole (take (suc n) xs) ≡ true
  pub long : length (take (suc n) xs) ≡ suc n

any-at : (xs : List ℕ) (n : ℕ) → n < length xs → get_or xs n 0 ≡ 10 → list_any (λ b. b == 10) (take (suc n) xs) ≡ true
any-at [] n lt e = absurd (omega arith)
any-at (x ∷ xs) zero lt e = ap (λ b. b || list_any (λ y. y == 10) []) (eq-eqb x 10 e)
any-at (x ∷ xs) (suc n) lt e = ap (λ b. (x == 10) || b) (any-at xs n (omega arith) e) ∙ or-true (x == 10)
  where
    or-true : (b : Bool) → (b || true) ≡ true
    or-true true = refl
    or-true false = refl

take-long : (xs : List ℕ) (n : ℕ) → n < length xs → length (take (suc n) xs) ≡ suc n
take-long [] n lt = absurd (omega arith)
take-long (x ∷ xs) zero lt = refl
take-long (x ∷ xs) (suc n) lt = ap suc (take-long xs n (omega arith))

pub first-line : (xs : List ℕ) (n : ℕ) → position (λ b. b == 10) xs ≡ Some n → FirstLine xs n
first-line xs n e =
    let p = position-Some (λ b. b == 10) xs n 0 e in
    let plain = is_plain xs n p.2 in
    let at = eqb-true (get_or xs n 0) 10 p.1 in
    record {
      within = p.0;
      plain = plain;
      newline = at;
      pieces = ap cut (sym (append-nil xs)) ∙ cut-newline xs [] n p.0 plain at ∙ ap (λ v. take (suc n) xs ∷ cut v) (append-nil (drop (suc n) xs));
      text = text_of-newline xs n p.0 plain at;
      whole = any-at xs n p.0 at;
      long = take-long xs n p.0;
    }

-- ---- what stands first among pieces
abbrev first_of : Bool → Bool → ℕ → Option Entry → List ℕ → List (List ℕ) → Option Entry → Option ℕ
first_of whole empty at before p ps o =
    if whole then (if empty then first_after (at + length p) ps else bad_line at before o (λ e. first_bad (at + length p) (Some e) ps)) else None

first-is : (p : List ℕ) (ps : List (List ℕ)) (at : ℕ) (before : Option Entry) (whole empty : Bool) (o : Option Entry) → is_whole p ≡ whole → is_empty_line p ≡ empty → entry_of_line (text_of p) ≡ o →
    first_bad at before (p ∷ ps) ≡ first_of whole empty at before p ps o
first-is p ps at before whole empty o w m e =
    ap (λ v. first_of v (is_empty_line p) at before p ps (entry_of_line (text_of p))) w
    ∙ ap (λ v. first_of whole v at before p ps (entry_of_line (text_of p))) m
    ∙ ap (λ v. first_of whole empty at before p ps v) e

-- ---- a text without a newline
or-false : (b c : Bool) → b ≡ false → c ≡ false → (b || c) ≡ false
or-false true c e f = cc e
or-false false c e f = f

plain-none : (xs : List ℕ) → IsPlain xs 0 (length xs) → list_any (λ b. b == 10) xs ≡ false
plain-none [] p = refl
plain-none (x ∷ xs) p = or-false (x == 10) (list_any (λ b. b == 10) xs) (ne_eqb x 10 (p 0 (omega arith) (omega arith))) (plain-none xs (λ k low high. p (suc k) (omega arith) (omega arith)))

position-plain : (xs : List ℕ) → position (λ b. b == 10) xs ≡ None → IsPlain xs 0 (length xs)
position-plain xs e =
    let all = ltb-false (position_or_len (λ b. b == 10) xs) (length xs) (not-less (nat_lt (position_or_len (λ b. b == 10) xs) (length xs)) (position_or_len (λ b. b == 10) xs) e) in
    is_plain xs (length xs) (λ k lt. fails_before_first (λ b. b == 10) xs k 0 (omega (arith, all, lt)))
  where
    not-less : (b : Bool) (n : ℕ) → (if b then Some n else None) ≡ None → b ≡ false
    not-less true n f = cc f
    not-less false n f = refl

-- one piece that isn't whole is no index
cut-one : (p : List ℕ) (at : ℕ) (before : Option Entry) (b : Bool) → is_whole p ≡ b → b ≡ false → result_from at before (p ∷ []) ≡ Err cut_off
cut-one p at before b e f =
    ap (index_of_pieces (p ∷ [])) (first-is p [] at before false (is_empty_line p) (entry_of_line (text_of p)) (e ∙ f) refl refl)
    ∙ ap (λ v. if v && is_empty_line p then Ok (filter_map (λ w. entry_of_line (text_of w)) (p ∷ [])) else Err cut_off) (e ∙ f)

cut-nothing : cut [] ≡ []
unfolding cut
cut-nothing = refl

pub plain-cut : (xs : List ℕ) (at : ℕ) (before : Option Entry) → IsPlain xs 0 (length xs) → result_from at before (cut xs) ≡ Err cut_off
plain-cut [] at before p = ap (result_from at before) cut-nothing
plain-cut (x ∷ xs) at before p = ap (result_from at before) (cut-plain x xs p) ∙ cut-one (x ∷ xs) at before (is_whole (x ∷ xs)) refl (plain-none (x ∷ xs) p)

pub no-line : (xs : List ℕ) (at : ℕ) (before : Option Entry) → position (λ b. b == 10) xs ≡ None → result_from at before (cut xs) ≡ Err cut_off
no-line xs at before e = plain-cut xs at before (position-plain xs e)

-- ---- a line behind which an index goes on
goes-by : (p : List ℕ) (e : Entry) (ps : List (List ℕ)) (o : Option ℕ) → is_empty_line p ≡ false → entry_of_line (text_of p) ≡ Some e → (index_of_pieces (p ∷ ps) o) ≡ (index_of_pieces ps o >>= λ es. Ok (e ∷ es))
goes-by p e ps (Some at) full is = refl
goes-by p e [] None full is = ap (λ b. if b then Ok (filter_map (λ v. entry_of_line (text_of v)) (p ∷ [])) else Err cut_off) (and-false (is_whole p) (is_empty_line p) full)
  where
    and-false : (b c : Bool) → c ≡ false → (b && c) ≡ false
    and-false true c e = e
    and-false false c e = refl
goes-by p e (q ∷ qs) None full is = by (has_ended (q ∷ qs))
  where
    by : (b : Bool) → (if b then Ok (filter_map (λ v. entry_of_line (text_of v)) (p ∷ q ∷ qs)) else Err cut_off) ≡ ((if b then Ok (filter_map (λ v. entry_of_line (text_of v)) (q ∷ qs)) else Err cut_off) >>= λ es. Ok (e ∷ es))
    by true = ap (λ o. Ok (cons_option o (filter_map (λ v. entry_of_line (text_of v)) (q ∷ qs)))) is
    by false = refl

pub goes-on : (p : List ℕ) (e : Entry) (ps : List (List ℕ)) (at : ℕ) (before : Option Entry) → is_whole p ≡ true → is_empty_line p ≡ false → entry_of_line (text_of p) ≡ Some e → is_above before e ≡ true →
    result_from at before (p ∷ ps) ≡ (result_from (at + length p) (Some e) ps >>= λ es. Ok (e ∷ es))
goes-on p e ps at before whole full is above =
    ap (index_of_pieces (p ∷ ps)) (first-is p ps at before true false (Some e) whole full is ∙ ap (λ b. if b then first_bad (at + length p) (Some e) ps else Some at) above)
    ∙ goes-by p e ps (first_bad (at + length p) (Some e) ps) full is

pub bad-line : (p : List ℕ) (ps : List (List ℕ)) (at : ℕ) (before : Option Entry) → is_whole p ≡ true → is_empty_line p ≡ false → entry_of_line (text_of p) ≡ None → result_from at before (p ∷ ps) ≡ Err (bad at)
bad-line p ps at before whole full is = ap (index_of_pieces (p ∷ ps)) (first-is p ps at before true false None whole full is)

pub not-above : (p : List ℕ) (e : Entry) (ps : List (List ℕ)) (at : ℕ) (before : Option Entry) → is_whole p ≡ true → is_empty_line p ≡ false → entry_of_line (text_of p) ≡ Some e → is_above before e ≡ false → result_from at before (p ∷ ps) ≡ Err (bad at)
not-above p e ps at before whole full is above =
    ap (index_of_pieces (p ∷ ps)) (first-is p ps at before true false (Some e) whole full is ∙ ap (λ b. if b then first_bad (at + length p) (Some e) ps else Some at) above)

pub ends : (p : List ℕ) (ps : List (List ℕ)) (at : ℕ) (before : Option Entry) → is_whole p ≡ true → is_empty_line p ≡ true → result_from at before (p ∷ ps) ≡ index_of_pieces (p ∷ ps) (first_after (at + length p) ps)
ends p ps at before whole empty = ap (index_of_pieces (p ∷ ps)) (first-is p ps at before true true (entry_of_line (text_of p)) whole empty refl)

-- ---- what follows the empty line
abbrev pub after_empty : List ℕ → ℕ → List (List ℕ) → Result (List Entry) Fault
after_empty p at ps = index_of_pieces (p ∷ ps) (first_after at ps)

whole-behind : (p q : List ℕ) (qs : List (List ℕ)) (at : ℕ) → is_whole q ≡ true → after_empty p at (q ∷ qs) ≡ Err (bad at)
whole-behind p q qs at w = ap (λ b. index_of_pieces (p ∷ q ∷ qs) (if b then Some at else None)) w

part-behind : (p q : List ℕ) (at : ℕ) → is_whole q ≡ false → after_empty p at (q ∷ []) ≡ Err cut_off
part-behind p q at w =
    ap (λ b. index_of_pieces (p ∷ q ∷ []) (if b then Some at else None)) w
    ∙ ap (λ b. if b && is_empty_line q then Ok (filter_map (λ v. entry_of_line (text_of v)) (p ∷ q ∷ [])) else Err cut_off) w

pub line-behind : (p xs : List ℕ) (n at : ℕ) → position (λ b. b == 10) xs ≡ Some n → after_empty p at (cut xs) ≡ Err (bad at)
line-behind p xs n at e =
    let f = first-line xs n e in
    ap (after_empty p at) f.pieces ∙ whole-behind p (take (suc n) xs) (cut (drop (suc n) xs)) at f.whole

pub rest-behind : (p xs : List ℕ) (at : ℕ) → position (λ b. b == 10) xs ≡ None → 0 < length xs → after_empty p at (cut xs) ≡ Err cut_off
rest-behind p [] at e some = absurd (omega arith)
rest-behind p (x ∷ xs) at e some =
    let plain = position-plain (x ∷ xs) e in
    ap (after_empty p at) (cut-plain x xs plain) ∙ part-behind p (x ∷ xs) at (plain-none (x ∷ xs) plain)

pub none-behind : (at : ℕ) → after_empty (10 ∷ []) at (cut []) ≡ Ok []
unfolding cut text_of entry_of_line
none-behind at = refl

ok-or-cut : (xs : List ℕ) (o : Option ℕ) (p : List ℕ) (at : ℕ) (es : List Entry) → position (λ b. b == 10) xs ≡ o → after_empty p at (cut xs) ≡ Ok es → length xs ≡ 0
ok-or-cut [] o p at es e is = refl
ok-or-cut (x ∷ xs) None p at es e is = (let f = sym (rest-behind p (x ∷ xs) at e (omega arith)) ∙ is in cc f)
ok-or-cut (x ∷ xs) (Some n) p at es e is = (let f = sym (line-behind p (x ∷ xs) n at e) ∙ is in cc f)

-- where an index has ended, no byte is left
pub nothing-left : (p xs : List ℕ) (at : ℕ) (es : List Entry) → after_empty p at (cut xs) ≡ Ok es → length xs ≡ 0
nothing-left p xs at es is = ok-or-cut xs (position (λ b. b == 10) xs) p at es refl is

-- the last of the entries so far
abbrev pub last_entry : List Entry → Option Entry
last_entry es = slice_get es (length es - 1)

-- ---- the loop over the lines
abbrev pub with_entries : List Entry → Result (List Entry) Fault → Result (List Entry) Fault
with_entries es r = r >>= λ rest. Ok (es ++ rest)

with-none : (r : Result (List Entry) Fault) → with_entries [] r ≡ r
with-none (Ok es) = refl
with-none (Err f) = refl

pub start : (text : List ℕ) (es : List Entry) → es ≡ [] → with_entries es (result_from (length text - length text) (last_entry es) (cut text)) ≡ index_of text
unfolding index_of
start text es e =
    let none : length text - length text ≡ 0 = omega arith in
    ap (λ v. with_entries v (result_from (length text - length text) (last_entry v) (cut text))) e
    ∙ ap (λ n. with_entries [] (result_from n None (cut text))) none
    ∙ with-none (result_from 0 None (cut text))

take-newline : (xs : List ℕ) → 0 < length xs → get_or xs 0 0 ≡ 10 → take 1 xs ≡ 10 ∷ []
take-newline [] lt e = absurd (omega arith)
take-newline (x ∷ xs) lt e = ap (λ v. v ∷ []) e

-- the empty line comes first
pub empty-first : (xs : List ℕ) (at : ℕ) (before : Option Entry) → position (λ b. b == 10) xs ≡ Some 0 → result_from at before (cut xs) ≡ ended_at (at + 1) (cut (drop 1 xs))
empty-first xs at before e =
    let f = first-line xs 0 e in
    let one = take-newline xs f.within f.newline in
    let empty : is_empty_line (take 1 xs) ≡ true = ap (λ (v : List ℕ). length v == 0) f.text in
    ap (result_from at before) f.pieces ∙ ends (take 1 xs) (cut (drop 1 xs)) at before f.whole empty
    ∙ ap (λ p. index_of_pieces (p ∷ cut (drop 1 xs)) (first_after (at + length p) (cut (drop 1 xs)))) one

pub full-first : (xs : List ℕ) (n : ℕ) → FirstLine xs n → (n ≡ 0 → ⊥) → is_empty_line (take (suc n) xs) ≡ false
full-first xs n f some =
    let long : length (take n xs) ≡ n = length-take-le n xs (let w = f.within in omega arith) in
    ap (λ (v : List ℕ). length v == 0) f.text ∙ ne_eqb (length (take n xs)) 0 (λ e. some (sym long ∙ e))

-- a line that isn't good comes first
bad-by : (xs : List ℕ) (n at : ℕ) (before : Option Entry) → FirstLine xs n → (n ≡ 0 → ⊥) → (o : Option Entry) → entry_of_line (take n xs) ≡ o → option_filter (is_above before) o ≡ None → result_from at before (cut xs) ≡ Err (bad at)
bad-by xs n at before f some None is e =
    ap (result_from at before) f.pieces ∙ bad-line (take (suc n) xs) (cut (drop (suc n) xs)) at before f.whole (full-first xs n f some) (ap entry_of_line f.text ∙ is)
bad-by xs n at before f some (Some x) is e =
    ap (result_from at before) f.pieces ∙ not-above (take (suc n) xs) x (cut (drop (suc n) xs)) at before f.whole (full-first xs n f some) (ap entry_of_line f.text ∙ is) (low (is_above before x) e)
  where
    low : (b : Bool) → (if b then Some x else None) ≡ None → b ≡ false
    low true g = cc g
    low false g = refl

pub bad-first : (xs : List ℕ) (n at : ℕ) (before : Option Entry) → position (λ b. b == 10) xs ≡ Some n → (n ≡ 0 → ⊥) → option_filter (is_above before) (entry_of_line (take n xs)) ≡ None → result_from at before (cut xs) ≡ Err (bad at)
bad-first xs n at before e some none = bad-by xs n at before (first-line xs n e) some (entry_of_line (take n xs)) refl none

good-by : (xs : List ℕ) (n at : ℕ) (before : Option Entry) (y : Entry) → FirstLine xs n → (n ≡ 0 → ⊥) → (o : Option Entry) → entry_of_line (take n xs) ≡ o → option_filter (is_above before) o ≡ Some y →
    result_from at before (cut xs) ≡ with_entries (y ∷ []) (result_from (at + suc n) (Some y) (cut (drop (suc n) xs)))
good-by xs n at before y f some None is e = cc e
good-by xs n at before y f some (Some x) is e =
    let parts = high (is_above before x) e in
    ap (result_from at before) f.pieces
    ∙ goes-on (take (suc n) xs) y (cut (drop (suc n) xs)) at before f.whole (full-first xs n f some) (ap entry_of_line f.text ∙ is ∙ ap Some parts.0) (ap (is_above before) (sym parts.0) ∙ parts.1)
    ∙ ap (λ k. with_entries (y ∷ []) (result_from (at + k) (Some y) (cut (drop (suc n) xs)))) f.long
  where
    high : (b : Bool) → (if b then Some x else None) ≡ Some y → (x ≡ y) × (b ≡ true)
    high true g = (cc g, refl)
    high false g = cc g

-- a good line comes first
pub good-first : (xs : List ℕ) (n at : ℕ) (before : Option Entry) (y : Entry) → position (λ b. b == 10) xs ≡ Some n → (n ≡ 0 → ⊥) → option_filter (is_above before) (entry_of_line (take n xs)) ≡ Some y →
    result_from at before (cut xs) ≡ with_entries (y ∷ []) (result_from (at + suc n) (Some y) (cut (drop (suc n) xs)))
good-first xs n at before y e some is = good-by xs n at before y (first-line xs n e) some (entry_of_line (take n xs)) refl is

with-more : (es : List Entry) (y : Entry) (r : Result (List Entry) Fault) → with_entries es (with_entries (y ∷ []) r) ≡ with_entries (es ++ y ∷ []) r
with-more es y (Ok rest) = ap Ok (sym (append_assoc es (y ∷ []) rest))
with-more es y (Err f) = refl

last-pushed : (es : List Entry) (y : Entry) → last_entry (es ++ y ∷ []) ≡ Some y
last-pushed es y = ap (slice_get (es ++ y ∷ [])) (let n : length (es ++ y ∷ []) - 1 ≡ length es = omega (arith, length-append es (y ∷ [])) in n) ∙ seam es
  where
    seam : (xs : List Entry) → slice_get (xs ++ y ∷ []) (length xs) ≡ Some y
    seam [] = refl
    seam (x ∷ xs) = seam xs

-- one turn of the loop: es are the entries so far, xs is the rest
pub turn : (text xs : List ℕ) (es : List Entry) (n : ℕ) (y : Entry) → length xs ≤ length text → position (λ b. b == 10) xs ≡ Some n → (n ≡ 0 → ⊥) → option_filter (is_above (last_entry es)) (entry_of_line (take n xs)) ≡ Some y →
    with_entries es (result_from (length text - length xs) (last_entry es) (cut xs)) ≡ index_of text →
    with_entries (es ++ y ∷ []) (result_from (length text - length (drop (suc n) xs)) (last_entry (es ++ y ∷ [])) (cut (drop (suc n) xs))) ≡ index_of text
turn text xs es n y le e some is said =
    let f = first-line xs n e in
    let place : length text - length xs + suc n ≡ length text - length (drop (suc n) xs) = (let w = f.within in omega (arith, length-drop (suc n) xs)) in
    ap (λ o. with_entries (es ++ y ∷ []) (result_from (length text - length (drop (suc n) xs)) o (cut (drop (suc n) xs)))) (last-pushed es y)
    ∙ ap (λ k. with_entries (es ++ y ∷ []) (result_from k (Some y) (cut (drop (suc n) xs)))) (sym place)
    ∙ sym (with-more es y (result_from (length text - length xs + suc n) (Some y) (cut (drop (suc n) xs))))
    ∙ ap (with_entries es) (sym (good-first xs n (length text - length xs) (last_entry es) y e some is))
    ∙ said
