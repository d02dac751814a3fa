-- A text read up to a place.
-- Laws: `accepted`, `along`, `refused`, `place`, `refused_answer`, `refused_longest`, `accepted_answer`, `reads-none`, `reads-step`,
-- `refused-step`, `refused-end`, `refused-whole`, `accepted-end`, `reads-digits`, `refused-digits`, `reads-plus`, `refused-plus`,
-- `reads-counted`, `refused-size`, `reads-size`, `number-behind`, `kept`, `reads-front`, `reads-behind`, `reads-hints`, `final-place`.
use Rattle.std.proofs.Common.{◌≡◌, ℕ, zero, suc, ◌+◌, ◌<◌, ◌≤◌, min, Bool, true, false, ◌&&◌, nat_lt, nat_le, ◌==◌, inl, inr, List, ◌∷◌, length, take, drop, get_or, Option, Some, None, unwrap_or, if◌then◌else◌, Result, Ok, Err, refl, sym, ap, subst, ◌∙◌, arith}
use Rattle.std.proofs.lemmas.Bool.{cases_lt, lt-ltb, le-ltb, eqb-true, and_from, and_parts, leb-true, and_left, and_right}
use Rattle.std.proofs.lemmas.List.{drop_more, drop_all, get_or-drop, get_or_past, length-drop, length-take-le}
use Rattle.std.proofs.lemmas.List.Folds.{length-prefix_len}
use Rattle.std.proofs.lemmas.List.Sums.{prefix_len_passes, prefix_len_stops, prefix_len-le-length}
use Rattle.std.specs.Char.{is_ascii_digit}
use Rattle.std.specs.List.{list_all, prefix_len}
use Rattle.std.specs.Option.{option_map}
use Rattle.keep_spec.specs.Digest.{is_lower_digit, is_digest}
use Rattle.keep_spec.specs.Locator.{is_locator, IsLongestPrefix, locator_prefix_len, is_number, number, is_hint, hints, size, size_digits}
use Rattle.keep_locator.specs.Parsing.{locator_of, IsParsed}
use Rattle.keep_locator.specs.declared.locator.BadLocator.{BadLocator}
use Rattle.keep_locator.specs.declared.hint_state.HintState.{HintState}
use Rattle.keep_locator.specs.declared.hint_state.HintState.TheVariants.{AfterSize, AfterPlus, InHint}
use Rattle.keep_locator.proofs.ParserStates.{State, digits, counted, placed, step, is_final, accepts, advance, accepts-go, accepts-stop, advance-go, advance-stop}
use Rattle.keep_locator.proofs.GrammarStates.{accepts-start}
use Rattle.keep_locator.proofs.LongestPrefix.{far, longest, locator_prefix_len-far}

-- i bytes of the text lead to a state
pub record Reads (text : List ℕ) (s : State) (i : ℕ) : Type 0 where
  pub accepted : is_locator text ≡ accepts s (drop i text)
  pub along : far text ≡ i + advance s (drop i text)

-- the text is no locator, and its first `at` bytes begin one
pub record IsRefused (text : List ℕ) (at : ℕ) : Type 0 where
  pub refused : is_locator text ≡ false
  pub place : far text ≡ at

pub refused_answer : (text : List ℕ) (at : ℕ) → IsRefused text at → ◌≡◌ {A = Result (List ℕ) BadLocator} (Err (record { at = at })) (locator_of text)
refused_answer text at is =
    let e : at ≡ locator_prefix_len text = sym is.place ∙ sym (locator_prefix_len-far text) in
    ap (λ n. Err (record { at = n })) e ∙ sym (ap (λ b. if b then Ok text else Err (record { at = locator_prefix_len text })) is.refused)

pub refused_longest : (text : List ℕ) (at : ℕ) → IsRefused text at → IsLongestPrefix text at
refused_longest text at is = let P : ℕ → Type 0 = IsLongestPrefix text in subst P is.place (longest text)

pub accepted_answer : (text : List ℕ) → is_locator text ≡ true → ◌≡◌ {A = Result (List ℕ) BadLocator} (Ok text) (locator_of text)
accepted_answer text whole = sym (ap (λ b. if b then Ok text else Err (record { at = locator_prefix_len text })) whole)

-- The steps.

pub reads-none : (text : List ℕ) → Reads text (digits 0) 0
reads-none text = record { accepted = sym (accepts-start text); along = omega arith }

pub reads-step : (text : List ℕ) (s t : State) (i : ℕ) → Reads text s i → i < length text → step s (get_or text i 0) ≡ Some t → Reads text t (i + 1)
reads-step text s t i r inside go =
    let more = drop_more text i 0 inside in
    let accepted = r.accepted ∙ ap (accepts s) more ∙ accepts-go s t (get_or text i 0) (drop (i + 1) text) go in
    let along : advance s (drop i text) ≡ advance t (drop (i + 1) text) + 1 = ap (advance s) more ∙ advance-go s t (get_or text i 0) (drop (i + 1) text) go in
    record { accepted = accepted; along = omega (arith, r.along, along) }

pub refused-step : (text : List ℕ) (s : State) (i : ℕ) → Reads text s i → i < length text → step s (get_or text i 0) ≡ None → IsRefused text i
refused-step text s i r inside stop =
    let more = drop_more text i 0 inside in
    let along : advance s (drop i text) ≡ 0 = ap (advance s) more ∙ advance-stop s (get_or text i 0) (drop (i + 1) text) stop in
    record {
      refused = r.accepted ∙ ap (accepts s) more ∙ accepts-stop s (get_or text i 0) (drop (i + 1) text) stop;
      place = omega (arith, r.along, along);
    }

pub refused-end : (text : List ℕ) (s : State) (i : ℕ) → Reads text s i → length text ≤ i → is_final s ≡ false → IsRefused text i
refused-end text s i r past open_end =
    let none = drop_all i text past in
    let along : advance s (drop i text) ≡ 0 = ap (advance s) none in
    record { refused = r.accepted ∙ ap (accepts s) none ∙ open_end; place = omega (arith, r.along, along) }

-- a text that ends where a locator may not
pub refused-whole : (text : List ℕ) (s : State) (i : ℕ) → Reads text s i → length text ≤ i → is_final s ≡ false → IsRefused text (length text)
refused-whole text s i r past open_end =
    let is = refused-end text s i r past open_end in
    record { refused = is.refused; place = omega (arith, is.place, (longest text).within) }

pub accepted-end : (text : List ℕ) (s : State) (i : ℕ) → Reads text s i → length text ≤ i → is_final s ≡ true → is_locator text ≡ true
accepted-end text s i r past final = r.accepted ∙ ap (accepts s) (drop_all i text past) ∙ final

-- The digest.

pub reads-digits : (text : List ℕ) (d : ℕ) → d ≤ 32 → d ≤ prefix_len is_lower_digit text → Reads text (digits d) d
reads-digits text zero small le = reads-none text
reads-digits text (suc d) small le =
    let within = prefix_len-le-length is_lower_digit text in
    let lower : Option State = if is_lower_digit (get_or text d 0) then Some (digits (d + 1)) else None in
    let plus : Option State = if get_or text d 0 == 43 then Some (counted 0) else None in
    let go : step (digits d) (get_or text d 0) ≡ Some (digits (d + 1)) =
    ap (λ b. if b then lower else plus) (lt-ltb d 32 (omega arith)) ∙ ap (λ b. if b then Some (digits (d + 1)) else None) (prefix_len_passes is_lower_digit text d 0 (omega arith)) in
    let P : ℕ → Type 0 = λ n. Reads text (digits n) n in
    let e : d + 1 ≡ suc d = omega arith in
    subst P e (reads-step text (digits d) (digits (d + 1)) d (reads-digits text d (omega arith) (omega arith)) (omega (arith, within)) go)

pub refused-digits : (text : List ℕ) (d : ℕ) → d ≡ min 32 (prefix_len is_lower_digit text) → d < 32 → IsRefused text d
refused-digits text d is small =
    let r = reads-digits text d (omega arith) (omega arith) in
    let lower : Option State = if is_lower_digit (get_or text d 0) then Some (digits (d + 1)) else None in
    let plus : Option State = if get_or text d 0 == 43 then Some (counted 0) else None in
    let front : prefix_len is_lower_digit text ≡ d = omega arith in
    elim (cases_lt d (length text)) [
      | inl inside ↦
          let stops = prefix_len_stops is_lower_digit text 0 (omega (arith, front)) in
          let other : is_lower_digit (get_or text d 0) ≡ false = ap (λ n. is_lower_digit (get_or text n 0)) (sym front) ∙ stops in
          refused-step text (digits d) d r inside (ap (λ b. if b then lower else plus) (lt-ltb d 32 small) ∙ ap (λ b. if b then Some (digits (d + 1)) else None) other)
      | inr past ↦ refused-end text (digits d) d r past refl
    ]

step-plus : (text : List ℕ) (b : Bool) → (get_or text 32 0 == 43) ≡ b → step (digits 32) (get_or text 32 0) ≡ (if b then Some (counted 0) else None)
step-plus text b e = ap (λ b. if b then Some (counted 0) else None) e

pub reads-plus : (text : List ℕ) → Reads text (digits 32) 32 → 32 < length text → (get_or text 32 0 == 43) ≡ true → Reads text (counted 0) 33
reads-plus text r inside plus = reads-step text (digits 32) (counted 0) 32 r inside (step-plus text true plus)

pub refused-plus : (text : List ℕ) → Reads text (digits 32) 32 → (get_or text 32 0 == 43) ≡ false → IsRefused text 32
refused-plus text r other =
    elim (cases_lt 32 (length text)) [
      | inl inside ↦ refused-step text (digits 32) 32 r inside (step-plus text false other)
      | inr past ↦ refused-end text (digits 32) 32 r past refl
    ]

-- The size.

at-behind : (text : List ℕ) (k : ℕ) → get_or (drop 33 text) k 0 ≡ get_or text (33 + k) 0
at-behind text k = get_or-drop 33 text k 0

pub reads-counted : (text : List ℕ) (k : ℕ) → k ≤ 19 → k ≤ prefix_len is_ascii_digit (drop 33 text) → Reads text (counted 0) 33 → Reads text (counted k) (33 + k)
reads-counted text zero small le r = r
reads-counted text (suc k) small le r =
    let rest = drop 33 text in
    let within = prefix_len-le-length is_ascii_digit rest in
    let digit : is_ascii_digit (get_or text (33 + k) 0) ≡ true = ap is_ascii_digit (sym (at-behind text k)) ∙ prefix_len_passes is_ascii_digit rest k 0 (omega arith) in
    let plus : Option State = if (get_or text (33 + k) 0 == 43) && nat_lt 0 k then Some (placed AfterPlus) else None in
    let go : step (counted k) (get_or text (33 + k) 0) ≡ Some (counted (k + 1)) =
    ap (λ b. if b then Some (counted (k + 1)) else plus) (and_from (is_ascii_digit (get_or text (33 + k) 0)) (nat_lt k 19) digit (lt-ltb k 19 (omega arith))) in
    let next = reads-step text (counted k) (counted (k + 1)) (33 + k) (reads-counted text k (omega arith) (omega arith) r) (omega (arith, within, length-drop 33 text)) go in
    let P : ℕ → Type 0 = λ n. Reads text (counted n) (33 + n) in
    let e : k + 1 ≡ suc k = omega arith in
    let Q : ℕ → Type 0 = λ n. Reads text (counted (k + 1)) n in
    let place : 33 + k + 1 ≡ 33 + (k + 1) = omega arith in
    subst P e (subst Q place next)

-- no digit follows the size, or no more than these may
no_more : (text : List ℕ) (k : ℕ) → k ≡ min 19 (prefix_len is_ascii_digit (drop 33 text)) → 33 + k < length text → (is_ascii_digit (get_or text (33 + k) 0) && nat_lt k 19) ≡ false
no_more text k is inside =
    let rest = drop 33 text in
    let c = get_or text (33 + k) 0 in
    elim (cases_lt k 19) [
      | inl below ↦
          let front : prefix_len is_ascii_digit rest ≡ k = omega arith in
          let stops = prefix_len_stops is_ascii_digit rest 0 (omega (arith, front, length-drop 33 text)) in
          and_left (is_ascii_digit c) (nat_lt k 19) (ap is_ascii_digit (sym (at-behind text k)) ∙ ap (λ n. is_ascii_digit (get_or rest n 0)) (sym front) ∙ stops)
      | inr full ↦ and_right (is_ascii_digit c) (nat_lt k 19) (le-ltb k 19 full)
    ]

abbrev behind_size : ℕ → ℕ → Option State
behind_size k c = if (c == 43) && nat_lt 0 k then Some (placed AfterPlus) else None

step-size : (text : List ℕ) (k : ℕ) → k ≡ min 19 (prefix_len is_ascii_digit (drop 33 text)) → 33 + k < length text → step (counted k) (get_or text (33 + k) 0) ≡ behind_size k (get_or text (33 + k) 0)
step-size text k is inside = ap (λ b. if b then Some (counted (k + 1)) else behind_size k (get_or text (33 + k) 0)) (no_more text k is inside)

pub refused-size : (text : List ℕ) → 0 ≡ min 19 (prefix_len is_ascii_digit (drop 33 text)) → Reads text (counted 0) 33 → IsRefused text 33
refused-size text is r =
    elim (cases_lt 33 (length text)) [
      | inl inside ↦
          let c = get_or text 33 0 in
          refused-step text (counted 0) 33 r inside (step-size text 0 is inside ∙ ap (λ b. if b then Some (placed AfterPlus) else None) (and_right (c == 43) (nat_lt 0 0) refl))
      | inr past ↦ refused-end text (counted 0) 33 r past refl
    ]

behind-plus : (plus some : Bool) → some ≡ true → (if plus && some then Some (placed AfterPlus) else None) ≡ option_map placed (if plus then Some AfterPlus else None)
behind-plus true some is = ap (λ b. if b then Some (placed AfterPlus) else None) is
behind-plus false some is = refl

-- after a size of at least one digit only hints may follow
size-behind : (k c : ℕ) → 0 < k → behind_size k c ≡ step (placed AfterSize) c
size-behind k c some = behind-plus (c == 43) (nat_lt 0 k) (lt-ltb 0 k some)

pub reads-size : (text : List ℕ) (k : ℕ) → 0 < k → k ≡ min 19 (prefix_len is_ascii_digit (drop 33 text)) → Reads text (counted k) (33 + k) → Reads text (placed AfterSize) (33 + k)
reads-size text k some is r =
    elim (cases_lt (33 + k) (length text)) [
      | inl inside ↦
          let c = get_or text (33 + k) 0 in
          let cs = drop (33 + k + 1) text in
          let more = drop_more text (33 + k) 0 inside in
          let same : step (counted k) c ≡ step (placed AfterSize) c = step-size text k is inside ∙ size-behind k c some in
          let accepted : accepts (counted k) (c ∷ cs) ≡ accepts (placed AfterSize) (c ∷ cs) = ap (λ o. unwrap_or (option_map (λ t. accepts t cs) o) false) same in
          let along : advance (counted k) (c ∷ cs) ≡ advance (placed AfterSize) (c ∷ cs) = ap (λ o. unwrap_or (option_map (λ t. advance t cs + 1) o) 0) same in
          record {
            accepted = r.accepted ∙ ap (accepts (counted k)) more ∙ accepted ∙ sym (ap (accepts (placed AfterSize)) more);
            along = r.along ∙ ap (λ n. 33 + k + n) (ap (advance (counted k)) more ∙ along ∙ sym (ap (advance (placed AfterSize)) more));
          }
      | inr past ↦
          let none = drop_all (33 + k) text past in
          record {
            accepted = r.accepted ∙ ap (accepts (counted k)) none ∙ lt-ltb 0 k some ∙ sym (ap (accepts (placed AfterSize)) none);
            along = r.along ∙ ap (λ n. 33 + k + n) (ap (advance (counted k)) none ∙ sym (ap (advance (placed AfterSize)) none));
          }
    ]

-- What a locator that was read keeps.

pub number-behind : (text : List ℕ) (k : ℕ) → is_locator text ≡ true → k ≡ min 19 (prefix_len is_ascii_digit (drop 33 text)) → take k (drop 33 text) ≡ size_digits text
unfolding is_locator size_digits is_number
number-behind text k whole is =
    let rest = drop 33 text in
    let front : Bool = is_digest (take 32 text) && (get_or text 32 0 == 43) in
    let digits = take (prefix_len is_ascii_digit rest) rest in
    let a = and_parts (front && is_number digits) (list_all is_hint (hints text)) whole in
    let b = and_parts front (is_number digits) a.0 in
    let c = and_parts (nat_le 1 (length digits) && nat_le (length digits) 19) (list_all is_ascii_digit digits) b.1 in
    let d = and_parts (nat_le 1 (length digits)) (nat_le (length digits) 19) c.0 in
    let short = leb-true (length digits) 19 d.1 in
    let e : k ≡ prefix_len is_ascii_digit rest = omega (arith, short, length-prefix_len is_ascii_digit rest) in
    ap (λ n. take n rest) e

pub kept : (text : List ℕ) (k bytes : ℕ) → is_locator text ≡ true → k ≡ min 19 (prefix_len is_ascii_digit (drop 33 text)) → bytes ≡ number (take k (drop 33 text)) → IsParsed text bytes (33 + k)
unfolding size
kept text k bytes whole is value =
    let digits = number-behind text k whole is in
    let within = prefix_len-le-length is_ascii_digit (drop 33 text) in
    let len : length (take k (drop 33 text)) ≡ k = length-take-le k (drop 33 text) (omega (arith, within)) in
    record { whole = whole; size = value ∙ ap number digits; ends = omega (arith, len, ap length digits) }

-- The steps of parsing, from what the calls return.

pub reads-front : (text : List ℕ) (d : ℕ) → 32 ≤ d → d ≡ min 32 (prefix_len is_lower_digit text) → Reads text (digits 32) 32
reads-front text d whole is = reads-digits text 32 (omega arith) (omega arith)

pub reads-behind : (text : List ℕ) (d : ℕ) → 32 ≤ d → d ≡ min 32 (prefix_len is_lower_digit text) → (get_or text 32 0 == 43) ≡ true → Reads text (counted 0) 33
reads-behind text d whole is plus =
    let r = reads-front text d whole is in
    elim (cases_lt 32 (length text)) [
      | inl inside ↦ reads-plus text r inside plus
      | inr past ↦ absurd (omega (arith, eqb-true (get_or text 32 0) 43 plus, get_or_past text 32 0 past))
    ]

pub reads-hints : (text : List ℕ) (d k : ℕ) → 32 ≤ d → d ≡ min 32 (prefix_len is_lower_digit text) → (get_or text 32 0 == 43) ≡ true
    → (k ≡ 0 → ⊥) → k ≡ min 19 (prefix_len is_ascii_digit (drop 33 text)) → Reads text (placed AfterSize) (33 + k)
reads-hints text d k whole is plus some size =
    reads-size text k (omega arith) size (reads-counted text k (omega arith) (omega arith) (reads-behind text d whole is plus))

pub final-place : (p : HintState) → (p ≡ AfterPlus → ⊥) → is_final (placed p) ≡ true
final-place AfterSize other = refl
final-place AfterPlus other = absurd (other refl)
final-place InHint other = refl
