-- A text that is cut anywhere before its end is no index.
use Rattle.std.proofs.Common.{◌≡◌, ◌<◌, ◌≤◌, ◌+◌, ◌-◌, ℕ, zero, suc, List, [], ◌∷◌, ◌++◌, length, take, drop, get_or, Bool, true, false, Option, None, Some, Result, Ok, Err, refl, sym, ◌∙◌, ap, arith, inl, inr}
use Rattle.std.specs.Prelude.{◌==◌, ◌⊎◌}
use Rattle.std.specs.List.{position}
use Rattle.std.proofs.lemmas.Bool.{cases_lt, eq-eqb, ne_eqb}
use Rattle.std.proofs.lemmas.List.{get_or-take, length-take, length-drop}
use Rattle.std.proofs.Math.Seq.{take-add}
use Rattle.keep_spec.specs.Lines.{cut, text_of}
use Rattle.keep_spec.specs.Results.{◌>>=◌}
use Rattle.keep_base.specs.Ends.{IsPlain}
use Rattle.keep_event.specs.Index.{is_empty_line, is_above, entry_of_line, Fault, cut_off, index_of}
use Rattle.keep_event.specs.declared.lists.Entry.{Entry}
use Rattle.keep_lists.proofs.Bad.{result_from, FirstLine, first-line, no-line, plain-cut, goes-on, bad-line, not-above, ends, nothing-left}

cut-at : (xs s : List ℕ) (k : ℕ) → k < length xs → IsPlain xs 0 k → get_or xs k 0 ≡ 10 → cut (take (suc k) xs ++ s) ≡ take (suc k) xs ∷ cut s
unfolding cut
cut-at [] s k lt p e = absurd (omega arith)
cut-at (x ∷ xs) s zero lt p e = rw (eq-eqb x 10 e) refl
cut-at (x ∷ xs) s (suc k) lt p e = rw (ne_eqb x 10 (p 0 (omega arith) (omega arith)), cut-at xs s k (omega arith) (λ i low high. p (suc i) (omega arith) (omega arith)) e) refl

-- a text that goes on behind its first line, cut further on
cut-further : (xs : List ℕ) (k n : ℕ) → FirstLine xs k → k < n → cut (take n xs) ≡ take (suc k) xs ∷ cut (take (n - suc k) (drop (suc k) xs))
cut-further xs k n f behind =
    let parts : suc k + (n - suc k) ≡ n = omega arith in
    ap (λ v. cut (take v xs)) (sym parts) ∙ ap cut (take-add (suc k) (n - suc k) xs) ∙ cut-at xs (take (n - suc k) (drop (suc k) xs)) k f.within f.plain f.newline

plain-take : (xs : List ℕ) (k n : ℕ) → IsPlain xs 0 k → n ≤ k → IsPlain (take n xs) 0 (length (take n xs))
plain-take xs k n p le i low high =
    let inside : i < n = omega (arith, length-take n xs) in
    λ e. p i (omega arith) (omega arith) (sym (get_or-take n xs i 0 inside) ∙ e)

ok-rest : (e : Entry) (r : Result (List Entry) Fault) (es : List Entry) → (r >>= λ rest. Ok (e ∷ rest)) ≡ Ok es → (rest : List Entry) × (r ≡ Ok rest)
ok-rest e (Ok rest) es is = (rest, refl)
ok-rest e (Err f) es is = cc is

-- what is known of shorter texts
abbrev Known : ℕ → Type 0
Known fuel =
    (xs : List ℕ) (n at : ℕ) (before : Option Entry) (es : List Entry) → length xs ≤ fuel → n < length xs
    → result_from at before (cut xs) ≡ Ok es → result_from at before (cut (take n xs)) ≡ Err cut_off

module _ (fuel : ℕ) (known : Known fuel) (xs : List ℕ) (n at : ℕ) (before : Option Entry) (es : List Entry) (short : length xs ≤ suc fuel) (lt : n < length xs) (k : ℕ) (f : FirstLine xs k) (behind : k < n) where
  abbrev p : List ℕ
  p = take (suc k) xs

  abbrev rest : List ℕ
  rest = drop (suc k) xs

  by-above : (e : Entry) (b : Bool) → is_empty_line p ≡ false → entry_of_line (text_of p) ≡ Some e → is_above before e ≡ b → result_from at before (p ∷ cut rest) ≡ Ok es →
      result_from at before (p ∷ cut (take (n - suc k) rest)) ≡ Err cut_off
  by-above e false full is above ok = (let g = sym (not-above p e (cut rest) at before f.whole full is above) ∙ ok in cc g)
  by-above e true full is above ok =
      let later = ok-rest e (result_from (at + length p) (Some e) (cut rest)) es (sym (goes-on p e (cut rest) at before f.whole full is above) ∙ ok) in
      let shorter = known rest (n - suc k) (at + length p) (Some e) later.0 (omega (arith, length-drop (suc k) xs)) (omega (arith, length-drop (suc k) xs)) later.1 in
      goes-on p e (cut (take (n - suc k) rest)) at before f.whole full is above ∙ ap (λ r. r >>= λ es. Ok (e ∷ es)) shorter

  by-entry : (o : Option Entry) → is_empty_line p ≡ false → entry_of_line (text_of p) ≡ o → result_from at before (p ∷ cut rest) ≡ Ok es → result_from at before (p ∷ cut (take (n - suc k) rest)) ≡ Err cut_off
  by-entry None full is ok = (let g = sym (bad-line p (cut rest) at before f.whole full is) ∙ ok in cc g)
  by-entry (Some e) full is ok = by-above e (is_above before e) full is refl ok

  by-empty : (b : Bool) → is_empty_line p ≡ b → result_from at before (p ∷ cut rest) ≡ Ok es → result_from at before (p ∷ cut (take (n - suc k) rest)) ≡ Err cut_off
  by-empty true empty ok =
      let none = nothing-left p rest (at + length p) es (sym (ends p (cut rest) at before f.whole empty) ∙ ok) in
      absurd (omega (arith, none, length-drop (suc k) xs))
  by-empty false full ok = by-entry (entry_of_line (text_of p)) full refl ok

  further : result_from at before (cut xs) ≡ Ok es → result_from at before (cut (take n xs)) ≡ Err cut_off
  further ok = ap (result_from at before) (cut-further xs k n f behind) ∙ by-empty (is_empty_line p) refl (sym (ap (result_from at before) f.pieces) ∙ ok)

by-place : (fuel : ℕ) → Known fuel → (xs : List ℕ) (n at : ℕ) (before : Option Entry) (es : List Entry) → length xs ≤ suc fuel → n < length xs → (k : ℕ) → FirstLine xs k → (k < n) ⊎ (n ≤ k)
    → result_from at before (cut xs) ≡ Ok es → result_from at before (cut (take n xs)) ≡ Err cut_off
by-place fuel known xs n at before es short lt k f (inl behind) ok = further fuel known xs n at before es short lt k f behind ok
by-place fuel known xs n at before es short lt k f (inr within) ok = plain-cut (take n xs) at before (plain-take xs k n f.plain within)

by-line : (fuel : ℕ) → Known fuel → (o : Option ℕ) (xs : List ℕ) (n at : ℕ) (before : Option Entry) (es : List Entry) → position (λ b. b == 10) xs ≡ o → length xs ≤ suc fuel → n < length xs
    → result_from at before (cut xs) ≡ Ok es → result_from at before (cut (take n xs)) ≡ Err cut_off
by-line fuel known None xs n at before es e short lt ok = (let g = sym (no-line xs at before e) ∙ ok in cc g)
by-line fuel known (Some k) xs n at before es e short lt ok = by-place fuel known xs n at before es short lt k (first-line xs k e) (cases_lt k n) ok

shorter : (fuel : ℕ) → Known fuel
shorter zero xs n at before es short lt ok = absurd (omega arith)
shorter (suc fuel) xs n at before es short lt ok = by-line fuel (shorter fuel) (position (λ b. b == 10) xs) xs n at before es refl short lt ok

-- a text that is cut anywhere before its end is cut off, and no index
pub cut-off : (text : List ℕ) (es : List Entry) (n : ℕ) → index_of text ≡ Ok es → n < length text → index_of (take n text) ≡ Err cut_off
unfolding index_of
cut-off text es n ok lt = shorter (length text) text n 0 None es (omega arith) lt ok
