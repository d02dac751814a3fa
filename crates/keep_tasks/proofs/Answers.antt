-- What was seen after one answer more: `seen-more`.
use Rattle.std.proofs.Common.{◌≡◌, ℕ, ◌<◌, ◌≤◌, ◌-◌, ◌^◌, ◌||◌, Bool, true, false, cond, List, [], ◌∷◌, ◌++◌, length, filter, Option, None, Some, refl, sym, ◌∙◌, ap, arith}
use Rattle.std.specs.Option.{option_or}
use Rattle.std.specs.List.{list_any}
use Rattle.keep_event.specs.declared.event.Answer.{Answer}
use Rattle.keep_history.specs.Tasks.{is_fault, found_in, is_back, is_present, first_found, copies_back}
use Rattle.keep_tasks.specs.Walks.{seen_of, count_if}
use Rattle.keep_tasks.specs.declared.seen.Seen.{Seen}

any-more : (p : Answer → Bool) (xs : List Answer) (a : Answer) → list_any p (xs ++ a ∷ []) ≡ (list_any p xs || p a)
any-more p [] a = or-false (p a)
  where
    or-false : (b : Bool) → (b || false) ≡ b
    or-false true = refl
    or-false false = refl
any-more p (x ∷ xs) a = step (p x) (any-more p xs a)
  where
    step : (b : Bool) → list_any p (xs ++ a ∷ []) ≡ (list_any p xs || p a) → (b || list_any p (xs ++ a ∷ [])) ≡ ((b || list_any p xs) || p a)
    step true e = refl
    step false e = e

found-more : (xs : List Answer) (a : Answer) → first_found (xs ++ a ∷ []) ≡ option_or (first_found xs) (found_in a)
found-more [] a = or-none (found_in a)
  where
    or-none : (o : Option (List ℕ)) → option_or o None ≡ o
    or-none None = refl
    or-none (Some x) = refl
found-more (x ∷ xs) a = step (found_in x) (found-more xs a)
  where
    step : (o : Option (List ℕ)) → first_found (xs ++ a ∷ []) ≡ option_or (first_found xs) (found_in a) → option_or o (first_found (xs ++ a ∷ [])) ≡ option_or (option_or o (first_found xs)) (found_in a)
    step None e = e
    step (Some y) e = refl

back-more : (xs : List Answer) (a : Answer) → copies_back (xs ++ a ∷ []) ≡ count_if (is_back a) (copies_back xs)
back-more [] a = by (is_back a)
  where
    by : (b : Bool) → length (cond b (a ∷ []) []) ≡ count_if b 0
    by true = refl
    by false = refl
back-more (x ∷ xs) a = by (is_back x) (is_back a) (back-more xs a)
  where
    by : (b k : Bool) → copies_back (xs ++ a ∷ []) ≡ count_if k (copies_back xs) → length (cond b (x ∷ filter is_back (xs ++ a ∷ [])) (filter is_back (xs ++ a ∷ []))) ≡ count_if k (length (cond b (x ∷ filter is_back xs) (filter is_back xs)))
    by true true e = omega (arith, e)
    by true false e = omega (arith, e)
    by false k e = e

back-few : (xs : List Answer) → copies_back xs ≤ length xs
back-few [] = omega arith
back-few (x ∷ xs) = by (is_back x) (back-few xs)
  where
    by : (b : Bool) → copies_back xs ≤ length xs → length (cond b (x ∷ filter is_back xs) (filter is_back xs)) ≤ length (x ∷ xs)
    by true e = omega (arith, e)
    by false e = omega (arith, e)

abbrev made : Bool → Option (List ℕ) → ℕ → Bool → Seen
made f o b p = record { fault = f; found = o; back = b; present = p }

alike : (f f' p p' : Bool) (o o' : Option (List ℕ)) (b b' : ℕ) → f ≡ f' → o ≡ o' → b ≡ b' → p ≡ p' → made f o b p ≡ made f' o' b' p'
alike f f' p p' o o' b b' e g h k = rw (e, g, h, k) refl

pub seen-more : (answers : List Answer) (a : Answer) (s new : Seen) → length answers < 2 ^ 64 - 1 → s ≡ seen_of answers → new.fault ≡ (s.fault || is_fault a) → new.found ≡ option_or s.found (found_in a) → (s.back < 2 ^ 64 - 1 → new.back ≡ count_if (is_back a) s.back) → new.present ≡ (s.present || is_present a) → new ≡ seen_of (answers ++ a ∷ [])
seen-more answers a s new few is f o b p =
    let few_back : s.back < 2 ^ 64 - 1 = omega (arith, back-few answers, few, ap (λ (v : Seen). v.back) is) in
    alike new.fault _ new.present _ new.found _ new.back _
    (f ∙ ap (λ (v : Seen). v.fault || is_fault a) is ∙ sym (any-more is_fault answers a))
    (o ∙ ap (λ (v : Seen). option_or v.found (found_in a)) is ∙ sym (found-more answers a))
    (b few_back ∙ ap (λ (v : Seen). count_if (is_back a) v.back) is ∙ sym (back-more answers a))
    (p ∙ ap (λ (v : Seen). v.present || is_present a) is ∙ sym (any-more is_present answers a))
