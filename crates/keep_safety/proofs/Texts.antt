-- A manifest's text with its locators changed, each into a locator of the same block, names the same digests: `same-digests`.
use Rattle.std.proofs.Common.{◌≡◌, ◌≤◌, ◌<◌, ◌+◌, ℕ, zero, suc, List, [], ◌∷◌, ◌++◌, map, filter, take, drop, length, Bool, true, false, cond, not, ◌&&◌, ◌||◌, refl, sym, ◌∙◌, ap, subst, Option, None, Some, option_map, option_and_then, IsSome, codes, arith, nat_eq, eqb, eq-eqb, append_assoc, append-nil, if◌then◌else◌}
use Rattle.std.specs.Prelude.{nat_lt, nat_le}
use Rattle.std.specs.List.{list_all, prefix_len, slice_split, onto_first, join_with_byte, flat_map, AllByRecursion, concat}
use Rattle.std.specs.Option.{option_map_or}
use Rattle.std.specs.Str.{bytes_eq}
use Rattle.std.proofs.lemmas.Bool.{and_parts, and_from, eqb-true, leb-true, not-true, false≢true}
use Rattle.std.proofs.lemmas.Bool.Decides.{nat_tests}
use Rattle.std.proofs.lemmas.Option.{cond_some, option_and_then_some, none-some, same_Some}
use Rattle.std.proofs.lemmas.List.{take_at, drop_at, length-take, length-map, length-append}
use Rattle.std.proofs.lemmas.List.Folds.{list_all-append}
use Rattle.std.proofs.lemmas.List.Splits.{join_with_byte-slice_split}
use Rattle.std.proofs.lemmas.List.Sums.{sum_by-cons}
use Rattle.keep_spec.specs.Digest.{is_lower_digit, bytes_of_digits}
use Rattle.keep_spec.specs.Locator.{is_locator, is_number, number, size, size_digits, digest, is_empty_block, stripped, hints, is_hint}
use Rattle.keep_spec.specs.Manifest.{manifest_of, streams_of, stream_of, stream_of_tokens, stream_of_parts, each, segment_of, segment_form, number_of, cut_at, total_size, named, named_in}
use Rattle.keep_spec.specs.Names.{decode, is_stream_name, octal_value, is_code, is_path}
use Rattle.keep_spec.specs.SignedText.{ends_token, changed, unsigned, with_locators}
use Rattle.keep_spec.specs.declared.manifest.Manifest.{Manifest}
use Rattle.keep_spec.specs.declared.manifest.Stream.{Stream}
use Rattle.keep_spec.specs.declared.manifest.Segment.{Segment}
use Rattle.keep_spec.proofs.LocatorText.{locator_parts}
use Rattle.keep_spec.proofs.TokenText.{first-token, no-token}
use Rattle.keep_locator.proofs.JoinedParts.{joined, own_parts}
use Rattle.keep_locator.proofs.Lists.{list_all-weaker}
use Rattle.keep_manifest.proofs.WrittenBytes.{is_visible, locator_visible, lacks}
use Rattle.keep_sign.proofs.SignedLocator.{unsigned-locator, is_other}
use Rattle.keep_event.specs.Requests.{digests_of, ascending}
use Rattle.keep_manifest.proofs.Agreement.{refused_or_read}
use Rattle.keep_spec.specs.Members.{IsIn}
use Rattle.keep_safety.proofs.Signed.{SameDigests}

abbrev parts : ℕ → List ℕ → List (List ℕ)
parts c xs = slice_split (λ b. eqb b c) xs

abbrev join : ℕ → List (List ℕ) → List ℕ
join c xs = join_with_byte c xs

abbrev AllPass : (ℕ → Bool) → List (List ℕ) → Type 0
AllPass p xs = AllByRecursion (λ t. list_all p t ≡ true) xs

-- ---- what the parts of a text lack
pass-first : (p : ℕ → Bool) (x : ℕ) (ps : List (List ℕ)) → p x ≡ true → AllPass p ps → AllPass p (onto_first x ps)
pass-first p x [] h all = (and_from (p x) true h refl, tt)
pass-first p x (t ∷ ts) h all = (and_from (p x) (list_all p t) h all.0, all.1)

split-pass-by : (p : ℕ → Bool) (x : ℕ) (b : Bool) (ps : List (List ℕ)) → (b ≡ false → p x ≡ true) → AllPass p ps → AllPass p (cond b ([] ∷ ps) (onto_first x ps))
split-pass-by p x true ps h all = (refl, all)
split-pass-by p x false ps h all = pass-first p x ps (h refl) all

-- q is what passes p and isn't c
split-pass : (p q : ℕ → Bool) (c : ℕ) (xs : List ℕ) → ((b : ℕ) → eqb b c ≡ false → p b ≡ true → q b ≡ true) → list_all p xs ≡ true → AllPass q (parts c xs)
split-pass p q c [] f h = (refl, tt)
split-pass p q c (x ∷ xs) f h = let a = and_parts (p x) (list_all p xs) h in split-pass-by q x (eqb x c) (parts c xs) (λ e. f x e a.0) (split-pass p q c xs f a.1)

-- ---- parts that are joined and cut again
split-at-by : (c x : ℕ) (b : Bool) (t rest : List ℕ) (ps : List (List ℕ)) → b ≡ false → ps ≡ t ∷ parts c rest → cond b ([] ∷ ps) (onto_first x ps) ≡ (x ∷ t) ∷ parts c rest
split-at-by c x true t rest ps e h = cc e
split-at-by c x false t rest ps e h = ap (onto_first x) h

split-at : (c : ℕ) (t rest : List ℕ) → lacks c t ≡ true → parts c (t ++ c ∷ rest) ≡ t ∷ parts c rest
split-at c [] rest h = ap (λ b. cond b ([] ∷ parts c rest) (onto_first c (parts c rest))) (eq-eqb c c refl)
split-at c (x ∷ xs) rest h = let a = and_parts (not (eqb x c)) (lacks c xs) h in split-at-by c x (eqb x c) xs rest (parts c (xs ++ c ∷ rest)) (not-true (eqb x c) a.0) (split-at c xs rest a.1)

split-last-by : (x : ℕ) (b : Bool) (t : List ℕ) (ps : List (List ℕ)) → b ≡ false → ps ≡ t ∷ [] → cond b ([] ∷ ps) (onto_first x ps) ≡ (x ∷ t) ∷ []
split-last-by x true t ps e h = cc e
split-last-by x false t ps e h = ap (onto_first x) h

split-last : (c : ℕ) (t : List ℕ) → lacks c t ≡ true → parts c t ≡ t ∷ []
split-last c [] h = refl
split-last c (x ∷ xs) h = let a = and_parts (not (eqb x c)) (lacks c xs) h in split-last-by x (eqb x c) xs (parts c xs) (not-true (eqb x c) a.0) (split-last c xs a.1)

split-join : (c : ℕ) (t : List ℕ) (ts : List (List ℕ)) → AllPass (λ b. not (eqb b c)) (t ∷ ts) → parts c (join c (t ∷ ts)) ≡ t ∷ ts
split-join c t [] h = split-last c t h.0
split-join c t (u ∷ us) h = split-at c t (join c (u ∷ us)) h.0 ∙ ap (λ v. t ∷ v) (split-join c u us h.1)

-- there is always a first part
record First (ps : List (List ℕ)) : Type 0 where
  head : List ℕ
  tail : List (List ℕ)
  is : ps ≡ head ∷ tail

first-onto : (x : ℕ) (ps : List (List ℕ)) → First (onto_first x ps)
first-onto x [] = record { head = x ∷ []; tail = []; is = refl }
first-onto x (p ∷ ps) = record { head = x ∷ p; tail = ps; is = refl }

first-by : (x : ℕ) (b : Bool) (ps : List (List ℕ)) → First (cond b ([] ∷ ps) (onto_first x ps))
first-by x true ps = record { head = []; tail = ps; is = refl }
first-by x false ps = first-onto x ps

first-part : (c : ℕ) (xs : List ℕ) → First (parts c xs)
first-part c [] = record { head = []; tail = []; is = refl }
first-part c (x ∷ xs) = first-by x (eqb x c) (parts c xs)

-- ---- a text token by token
abbrev in_token : ℕ → Bool
in_token c = not (ends_token c)

prefix-all : (p : ℕ → Bool) (t rest : List ℕ) → list_all p t ≡ true → prefix_len p rest ≡ 0 → prefix_len p (t ++ rest) ≡ length t
prefix-all p [] rest h e = e
prefix-all p (x ∷ xs) rest h e =
    let a = and_parts (p x) (list_all p xs) h in
    ap (λ b. cond b (1 + prefix_len p (xs ++ rest)) 0) a.0 ∙ (let i = prefix-all p xs rest a.1 e in omega arith)

prefix-whole : (p : ℕ → Bool) (t : List ℕ) → list_all p t ≡ true → prefix_len p t ≡ length t
prefix-whole p t h = ap (prefix_len p) (sym (append-nil t)) ∙ prefix-all p t [] h refl

module _ (f : List ℕ → List ℕ) where
  token-end : (t : List ℕ) (c : ℕ) (rest : List ℕ) → list_all in_token t ≡ true → ends_token c ≡ true → with_locators f (t ++ c ∷ rest) ≡ changed f t ++ c ∷ with_locators f rest
  token-end t c rest h e =
      let n : prefix_len in_token (t ++ c ∷ rest) ≡ length t = prefix-all in_token t (c ∷ rest) h (ap (λ b. cond b (1 + prefix_len in_token rest) 0) (ap not e)) in
      let front : t ≡ take (prefix_len in_token (t ++ c ∷ rest)) (t ++ c ∷ rest) = sym (ap (λ k. take k (t ++ c ∷ rest)) n ∙ take_at t (c ∷ rest) (length t) refl) in
      let back : c ∷ rest ≡ drop (prefix_len in_token (t ++ c ∷ rest)) (t ++ c ∷ rest) = sym (ap (λ k. drop k (t ++ c ∷ rest)) n ∙ drop_at t (c ∷ rest) (length t) refl) in
      first-token f (t ++ c ∷ rest) t (c ∷ []) rest (some-long t c rest) front (ap (take 1) back) (ap (drop 1) back) ∙ append_assoc (changed f t) (c ∷ []) (with_locators f rest)
    where
      some-long : (t : List ℕ) (c : ℕ) (rest : List ℕ) → 0 < length (t ++ c ∷ rest)
      some-long [] c rest = omega arith
      some-long (x ∷ xs) c rest = omega arith

  changed-nil : changed f [] ≡ []
  unfolding is_locator
  changed-nil = refl

  token-last : (t : List ℕ) → list_all in_token t ≡ true → with_locators f t ≡ changed f t
  token-last [] h = no-token f ∙ sym changed-nil
  token-last (x ∷ xs) h =
      let t : List ℕ = x ∷ xs in
      let n : prefix_len in_token t ≡ length t = prefix-whole in_token t h in
      let front : t ≡ take (prefix_len in_token t) t = sym (ap (λ k. take k t) n ∙ ap (take (length t)) (sym (append-nil t)) ∙ take_at t [] (length t) refl) in
      let back : [] ≡ drop (prefix_len in_token t) t = sym (ap (λ k. drop k t) n ∙ ap (drop (length t)) (sym (append-nil t)) ∙ drop_at t [] (length t) refl) in
      first-token f t t [] [] (omega arith) front (ap (take 1) back) (ap (drop 1) back) ∙ append_assoc (changed f t) [] (with_locators f []) ∙ ap (λ v. changed f t ++ v) (no-token f) ∙ append-nil (changed f t)

  abbrev tokens_through : List (List ℕ) → List (List ℕ)
  tokens_through ts = map (changed f) ts

  line-end : (ts : List (List ℕ)) (rest : List ℕ) → AllPass in_token ts → with_locators f (join 32 ts ++ 10 ∷ rest) ≡ join 32 (tokens_through ts) ++ 10 ∷ with_locators f rest
  line-end [] rest h = token-end [] 10 rest refl refl ∙ ap (λ v. v ++ 10 ∷ with_locators f rest) changed-nil
  line-end (t ∷ []) rest h = token-end t 10 rest h.0 refl
  line-end (t ∷ u ∷ us) rest h =
      ap (with_locators f) (append_assoc t (32 ∷ join 32 (u ∷ us)) (10 ∷ rest)) ∙ token-end t 32 (join 32 (u ∷ us) ++ 10 ∷ rest) h.0 refl
      ∙ ap (λ v. changed f t ++ 32 ∷ v) (line-end (u ∷ us) rest h.1)
      ∙ sym (append_assoc (changed f t) (32 ∷ join 32 (tokens_through (u ∷ us))) (10 ∷ with_locators f rest))

  line-last : (ts : List (List ℕ)) → AllPass in_token ts → with_locators f (join 32 ts) ≡ join 32 (tokens_through ts)
  line-last [] h = no-token f
  line-last (t ∷ []) h = token-last t h.0
  line-last (t ∷ u ∷ us) h = token-end t 32 (join 32 (u ∷ us)) h.0 refl ∙ ap (λ v. changed f t ++ 32 ∷ v) (line-last (u ∷ us) h.1)

  -- a line through the change
  abbrev line_through : List ℕ → List ℕ
  line_through line = join 32 (tokens_through (parts 32 line))

  abbrev Clean : List (List ℕ) → Type 0
  Clean lines = AllByRecursion (λ line. AllPass in_token (parts 32 line)) lines

  lines-through : (lines : List (List ℕ)) → Clean lines → with_locators f (join 10 lines) ≡ join 10 (map line_through lines)
  lines-through [] h = no-token f
  lines-through (l ∷ []) h = ap (with_locators f) (sym (join_with_byte-slice_split 32 l)) ∙ line-last (parts 32 l) h.0
  lines-through (l ∷ m ∷ ms) h =
      ap (λ v. with_locators f (v ++ 10 ∷ join 10 (m ∷ ms))) (sym (join_with_byte-slice_split 32 l)) ∙ line-end (parts 32 l) (join 10 (m ∷ ms)) h.0
      ∙ ap (λ v. line_through l ++ 10 ∷ v) (lines-through (m ∷ ms) h.1)

  -- ---- where f gives locators of the same block
  module _ (keeps : (l : List ℕ) → is_locator l ≡ true → (is_locator (f l) ≡ true) × (size (f l) ≡ size l) × (take 32 (f l) ≡ take 32 l)) where
    ends-not : (b : ℕ) → is_visible b ≡ true → in_token b ≡ true
    ends-not b h = grind (arith, nat_tests)

    changed-by : (p : ℕ → Bool) (t : List ℕ) (b : Bool) → is_locator t ≡ b → ((b : ℕ) → is_visible b ≡ true → p b ≡ true) → list_all p t ≡ true → list_all p (if b then f t else t) ≡ true
    changed-by p t true e w h = list_all-weaker is_visible p w (f t) (locator_visible (f t) (keeps t e).0)
    changed-by p t false e w h = h

    changed-pass : (p : ℕ → Bool) (t : List ℕ) → ((b : ℕ) → is_visible b ≡ true → p b ≡ true) → list_all p t ≡ true → list_all p (changed f t) ≡ true
    changed-pass p t w h = changed-by p t (is_locator t) refl w h

    tokens-pass : (p : ℕ → Bool) (ts : List (List ℕ)) → ((b : ℕ) → is_visible b ≡ true → p b ≡ true) → AllPass p ts → AllPass p (tokens_through ts)
    tokens-pass p [] w h = tt
    tokens-pass p (t ∷ ts) w h = (changed-pass p t w h.0, tokens-pass p ts w h.1)

    same-by : (t : List ℕ) (b : Bool) → is_locator t ≡ b → is_locator (if b then f t else t) ≡ b
    same-by t true e = (keeps t e).0
    same-by t false e = e

    same-locator : (t : List ℕ) → is_locator (changed f t) ≡ is_locator t
    same-locator t = same-by t (is_locator t) refl

    -- ---- the tokens of a line
    prefix-same : (ts : List (List ℕ)) → prefix_len is_locator (tokens_through ts) ≡ prefix_len is_locator ts
    prefix-same [] = refl
    prefix-same (t ∷ ts) = ap (λ b. cond b (1 + prefix_len is_locator (tokens_through ts)) 0) (same-locator t) ∙ ap (λ n. cond (is_locator t) (1 + n) 0) (prefix-same ts)

    abbrev locators_of_tokens : List (List ℕ) → List (List ℕ)
    locators_of_tokens ts = take (prefix_len is_locator ts) ts

    locators-by : (t : List ℕ) (ts : List (List ℕ)) (b : Bool) → is_locator t ≡ b → take (prefix_len is_locator ts) (tokens_through ts) ≡ map f (take (prefix_len is_locator ts) ts) →
        take (cond b (1 + prefix_len is_locator ts) 0) ((if b then f t else t) ∷ tokens_through ts) ≡ map f (take (cond b (1 + prefix_len is_locator ts) 0) (t ∷ ts))
    locators-by t ts true e h = one-more (prefix_len is_locator ts) h
      where
        one-more : (n : ℕ) → take n (tokens_through ts) ≡ map f (take n ts) → take (1 + n) (f t ∷ tokens_through ts) ≡ map f (take (1 + n) (t ∷ ts))
        one-more n h = subst (λ m. take m (f t ∷ tokens_through ts) ≡ map f (take m (t ∷ ts))) (suc-is n) (ap (λ v. f t ∷ v) h)
          where
            suc-is : (n : ℕ) → suc n ≡ 1 + n
            suc-is n = omega arith
    locators-by t ts false e h = refl

    locators-through : (ts : List (List ℕ)) → take (prefix_len is_locator ts) (tokens_through ts) ≡ map f (locators_of_tokens ts)
    locators-through [] = refl
    locators-through (t ∷ ts) = locators-by t ts (is_locator t) refl (locators-through ts)

    drop-through : (n : ℕ) (ts : List (List ℕ)) → drop n (tokens_through ts) ≡ tokens_through (drop n ts)
    drop-through zero ts = refl
    drop-through (suc n) [] = refl
    drop-through (suc n) (t ∷ ts) = drop-through n ts

    all-locators : (ts : List (List ℕ)) → AllByRecursion (λ t. is_locator t ≡ true) (locators_of_tokens ts)
    all-locators [] = tt
    all-locators (t ∷ ts) = by (is_locator t) refl (all-locators ts)
      where
        by : (b : Bool) → is_locator t ≡ b → AllByRecursion (λ t. is_locator t ≡ true) (locators_of_tokens ts) → AllByRecursion (λ t. is_locator t ≡ true) (take (cond b (1 + prefix_len is_locator ts) 0) (t ∷ ts))
        by true e h = subst (λ m. AllByRecursion (λ t. is_locator t ≡ true) (take m (t ∷ ts))) (suc-is (prefix_len is_locator ts)) (e, h)
          where
            suc-is : (n : ℕ) → suc n ≡ 1 + n
            suc-is n = omega arith
        by false e h = tt

    size-sum : (ls : List (List ℕ)) → AllByRecursion (λ t. is_locator t ≡ true) ls → total_size (map f ls) ≡ total_size ls
    size-sum [] h = refl
    size-sum (l ∷ ls) h = sum_by-cons size (f l) (map f ls) ∙ ap (λ n. n + total_size (map f ls)) (keeps l h.0).1 ∙ ap (λ n. size l + n) (size-sum ls h.1) ∙ sym (sum_by-cons size l ls)

-- ---- segments are no locators
cut-long-by : (x n : ℕ) (xs : List ℕ) (b : Bool) (o : Option (List ℕ × List ℕ)) (p : List ℕ × List ℕ) → b ≡ false → ((q : List ℕ × List ℕ) → o ≡ Some q → n ≤ length q.0) → cond {A = Option (List ℕ × List ℕ)} b (Some ([], xs)) (option_map (λ q. (x ∷ q.0, q.1)) o) ≡ Some p → suc n ≤ length p.0
cut-long-by x n xs true o p e h is = cc e
cut-long-by x n xs false None p e h is = absurd (none-some p is)
cut-long-by x n xs false (Some q) p e h is = let k = h q refl in let same = ap (λ (v : List ℕ × List ℕ). length v.0) (sym (same_Some _ _ is)) in omega arith

cut-long : (n : ℕ) (xs : List ℕ) (p : List ℕ × List ℕ) → lacks 58 (take n xs) ≡ true → n ≤ length xs → cut_at 58 xs ≡ Some p → n ≤ length p.0
unfolding cut_at
cut-long zero xs p h le e = omega arith
cut-long (suc n) [] p h le e = absurd (omega arith)
cut-long (suc n) (x ∷ xs) p h le e =
    let a = and_parts (not (eqb x 58)) (lacks 58 (take n xs)) h in
    cut-long-by x n xs (eqb x 58) (cut_at 58 xs) p (not-true (eqb x 58) a.0) (λ q c. cut-long n xs q a.1 (omega arith) c) e

number-short : (digits : List ℕ) (n : ℕ) → number_of digits ≡ Some n → length digits ≤ 19
unfolding is_number
number-short digits n e =
    let found = cond_some (is_number digits) (number digits) n e in
    let a = and_parts (nat_le 1 (length digits) && nat_le (length digits) 19) _ found.0 in
    leb-true (length digits) 19 (and_parts (nat_le 1 (length digits)) (nat_le (length digits) 19) a.0).1

digit-no-colon : (b : ℕ) → is_lower_digit b ≡ true → not (eqb b 58) ≡ true
digit-no-colon b h = grind (arith, nat_tests)

record Digits (token : List ℕ) : Type 0 where
  lower : list_all is_lower_digit (take 32 token) ≡ true
  long : 32 ≤ length token

locator-digits : (token : List ℕ) → is_locator token ≡ true → Digits token
locator-digits token h =
    let d = and_parts (nat_eq (length (take 32 token)) 32) (list_all is_lower_digit (take 32 token)) (locator_parts token h).a_digest in
    let e = eqb-true (length (take 32 token)) 32 d.0 in
    record { lower = d.1; long = omega (arith, length-take 32 token) }

form-no-locator : (token : List ℕ) (s : Segment) → segment_form token ≡ Some s → is_locator token ≡ true → ⊥
unfolding segment_form
form-no-locator token s e h =
    option_and_then_some _ (cut_at 58 token) s e (λ p cut e1.
    option_and_then_some _ (number_of p.0) s e1 (λ position read e2. (
    let d = locator-digits token h in
    let long = cut-long 32 token p (list_all-weaker is_lower_digit (λ b. not (eqb b 58)) digit-no-colon (take 32 token) d.lower) d.long cut in
    let short = number-short p.0 position read in
    omega arith)))

segment-no-locator : (total : ℕ) (token : List ℕ) (s : Segment) → segment_of total token ≡ Some s → is_locator token ≡ true → ⊥
segment-no-locator total token s e h = option_and_then_some _ (segment_form token) s e (λ g form e1. form-no-locator token g form h)

-- ---- a stream's name is no locator
decode-head : (x : ℕ) (xs : List ℕ) → eqb x 92 ≡ false → (rest : List ℕ) × (decode (x ∷ xs) ≡ x ∷ rest)
unfolding decode
decode-head x [] e = ([], refl)
decode-head x (a ∷ []) e = (decode (a ∷ []), ap (λ b. if b && eqb a 92 then 92 ∷ [] else x ∷ decode (a ∷ [])) e)
decode-head x (a ∷ b ∷ []) e = (decode (a ∷ b ∷ []), ap (λ t. if t && eqb a 92 then 92 ∷ decode (b ∷ []) else x ∷ decode (a ∷ b ∷ [])) e)
decode-head x (a ∷ b ∷ c ∷ rest) e = (decode (a ∷ b ∷ c ∷ rest), ap (λ t. if t && is_code a b c then octal_value a b c ∷ decode rest else (if t && eqb a 92 then 92 ∷ decode (b ∷ c ∷ rest) else x ∷ decode (a ∷ b ∷ c ∷ rest))) e)

digit-no-backslash : (b : ℕ) → is_lower_digit b ≡ true → eqb b 92 ≡ false
digit-no-backslash b h = grind (arith, nat_tests)

digit-no-dot : (b : ℕ) → is_lower_digit b ≡ true → eqb b 46 ≡ false
digit-no-dot b h = grind (arith, nat_tests)

starts-by : (x : ℕ) (rest : List ℕ) → eqb x 46 ≡ false → is_stream_name (x ∷ rest) ≡ false
starts-by x [] e = e
starts-by x (a ∷ rest) e = ap (λ b. b && eqb a 47 && is_path rest) e

name-no-locator : (name : List ℕ) → is_stream_name (decode name) ≡ true → is_locator name ≡ true → ⊥
name-no-locator [] s h = absurd (let d = locator-digits [] h in let long = d.long in omega arith)
name-no-locator (x ∷ xs) s h =
    let d = locator-digits (x ∷ xs) h in
    let lower = (and_parts (is_lower_digit x) (list_all is_lower_digit (take 31 xs)) d.lower).0 in
    let head = decode-head x xs (digit-no-backslash x lower) in
    absurd (false≢true (sym (starts-by x head.0 (digit-no-dot x lower)) ∙ ap is_stream_name (sym head.1) ∙ s))

-- ---- streams
not-locator-same : (f : List ℕ → List ℕ) (t : List ℕ) → (is_locator t ≡ true → ⊥) → changed f t ≡ t
not-locator-same f t never = by (is_locator t) refl
  where
    by : (b : Bool) → is_locator t ≡ b → (if b then f t else t) ≡ t
    by true e = absurd (never e)
    by false e = refl

segments-same : (f : List ℕ → List ℕ) (total : ℕ) (ts : List (List ℕ)) (ss : List Segment) → each (segment_of total) ts ≡ Some ss → map (changed f) ts ≡ ts
segments-same f total [] ss e = refl
segments-same f total (t ∷ ts) ss e =
    option_and_then_some _ (segment_of total t) ss e (λ s one e1.
    option_and_then_some _ (each (segment_of total) ts) ss e1 (λ rest more e2.
    ap (λ v. v ∷ map (changed f) ts) (not-locator-same f t (segment-no-locator total t s one)) ∙ ap (λ v. t ∷ v) (segments-same f total ts rest more)))

chosen-some : {X : Type 0} (b : Bool) (o : Option X) (x : X) → cond b o None ≡ Some x → (b ≡ true) × (o ≡ Some x)
chosen-some true o x e = (refl, e)
chosen-some false o x e = absurd (none-some x e)

module _ (f : List ℕ → List ℕ) (keeps : (l : List ℕ) → is_locator l ≡ true → (is_locator (f l) ≡ true) × (size (f l) ≡ size l) × (take 32 (f l) ≡ take 32 l)) where
  abbrev through : Stream → Stream
  through s = record { name = s.name; locators = map f s.locators; segments = s.segments }

  parts-through : (name : List ℕ) (ls segs : List (List ℕ)) (s : Stream) → AllByRecursion (λ t. is_locator t ≡ true) ls → stream_of_parts name ls segs ≡ Some s → (map (changed f) segs ≡ segs) × (is_stream_name name ≡ true) × (stream_of_parts name (map f ls) segs ≡ Some (through s))
  parts-through name ls segs s all e =
      let found = chosen-some (is_stream_name name && nat_lt 0 (length ls) && nat_lt 0 (length segs)) (option_map (λ ss. record { name = name; locators = ls; segments = ss }) (each (segment_of (total_size ls)) segs)) s e in
      let a = and_parts (is_stream_name name && nat_lt 0 (length ls)) (nat_lt 0 (length segs)) found.0 in
      let named = (and_parts (is_stream_name name) (nat_lt 0 (length ls)) a.0).0 in
      option_and_then_some _ (each (segment_of (total_size ls)) segs) s found.1 (λ ss read e1. (
        segments-same f (total_size ls) segs ss read,
        named,
        ap (λ n. if is_stream_name name && nat_lt 0 n && nat_lt 0 (length segs) then option_map (λ ss. record { name = name; locators = map f ls; segments = ss }) (each (segment_of (total_size (map f ls))) segs) else None) (length-map ls f)
            ∙ ap (λ b. if b then option_map (λ ss. record { name = name; locators = map f ls; segments = ss }) (each (segment_of (total_size (map f ls))) segs) else None) found.0
            ∙ ap (λ n. option_map (λ ss. record { name = name; locators = map f ls; segments = ss }) (each (segment_of n) segs)) (size-sum f keeps ls all)
            ∙ ap (λ o. option_map (λ ss. record { name = name; locators = map f ls; segments = ss }) o) read
            ∙ ap (λ (v : Stream). Some (through v)) (same_Some _ _ e1),
      ))

  tokens-stream : (ts : List (List ℕ)) (s : Stream) → stream_of_tokens ts ≡ Some s → stream_of_tokens (map (changed f) ts) ≡ Some (through s)
  tokens-stream [] s e = cc e
  tokens-stream (name ∷ ts) s e =
      let n = prefix_len is_locator ts in
      let p = parts-through (decode name) (take n ts) (drop n ts) s (all-locators f keeps ts) e in
      ap (λ v. stream_of_parts (decode v) (take (prefix_len is_locator (map (changed f) ts)) (map (changed f) ts)) (drop (prefix_len is_locator (map (changed f) ts)) (map (changed f) ts))) (not-locator-same f name (name-no-locator name p.1))
      ∙ ap (λ k. stream_of_parts (decode name) (take k (map (changed f) ts)) (drop k (map (changed f) ts))) (prefix-same f keeps ts)
      ∙ ap (λ v. stream_of_parts (decode name) v (drop n (map (changed f) ts))) (locators-through f keeps ts)
      ∙ ap (λ v. stream_of_parts (decode name) (map f (take n ts)) v) (drop-through f keeps n ts ∙ p.0)
      ∙ p.2

  -- the tokens of a line that was changed
  line-tokens : (line : List ℕ) → AllPass in_token (parts 32 line) → parts 32 (line_through f line) ≡ map (changed f) (parts 32 line)
  line-tokens line h =
      let k = first-part 32 line in
      let pass = tokens-pass f keeps (λ b. not (eqb b 32)) (parts 32 line) visible-no-space (weaker (parts 32 line) h) in
      ap (λ v. parts 32 (join 32 (map (changed f) v))) k.is ∙ split-join 32 (changed f k.head) (map (changed f) k.tail) (subst (λ v. AllPass (λ b. not (eqb b 32)) (map (changed f) v)) k.is pass) ∙ ap (map (changed f)) (sym k.is)
    where
      visible-no-space : (b : ℕ) → is_visible b ≡ true → not (eqb b 32) ≡ true
      visible-no-space b h = grind (arith, nat_tests)

      token-no-space : (b : ℕ) → in_token b ≡ true → not (eqb b 32) ≡ true
      token-no-space b h = grind (arith, nat_tests)

      weaker : (ts : List (List ℕ)) → AllPass in_token ts → AllPass (λ b. not (eqb b 32)) ts
      weaker [] h = tt
      weaker (t ∷ ts) h = (list_all-weaker in_token (λ b. not (eqb b 32)) token-no-space t h.0, weaker ts h.1)

  line-stream : (line : List ℕ) (s : Stream) → AllPass in_token (parts 32 line) → stream_of line ≡ Some s → stream_of (line_through f line) ≡ Some (through s)
  line-stream line s h e = ap stream_of_tokens (line-tokens line h) ∙ tokens-stream (parts 32 line) s e

  lines-streams : (lines : List (List ℕ)) (ss : List Stream) → Clean f lines → streams_of lines ≡ Some ss → streams_of (map (line_through f) lines) ≡ Some (map through ss)
  lines-streams [] ss h e = ap (λ (v : List Stream). Some (map through v)) (same_Some _ _ e)
  lines-streams (l ∷ []) ss h e =
      let found = cond_some (nat_eq (length l) 0) [] ss e in
      ap (λ n. if nat_eq n 0 then Some [] else None) (empty-through l (eqb-true (length l) 0 found.0)) ∙ ap (λ (v : List Stream). Some (map through v)) found.1
    where
      empty-through : (l : List ℕ) → length l ≡ 0 → length (line_through f l) ≡ 0
      empty-through [] e = ap length (changed-nil f)
      empty-through (x ∷ xs) e = absurd (omega arith)
  lines-streams (l ∷ m ∷ ms) ss h e =
      option_and_then_some _ (stream_of l) ss e (λ s one e1.
      option_and_then_some _ (streams_of (m ∷ ms)) ss e1 (λ rest more e2.
      ap (λ o. option_and_then (λ s. option_and_then (λ ss. Some (s ∷ ss)) (streams_of (map (line_through f) (m ∷ ms)))) o) (line-stream l s h.0 one)
      ∙ ap (λ o. option_and_then (λ ss. Some (through s ∷ ss)) o) (lines-streams (m ∷ ms) rest h.1 more)
      ∙ ap (λ (v : List Stream). Some (map through v)) (same_Some _ _ e2)))

  -- ---- the digests that are named
  same-digest : (l : List ℕ) → is_locator l ≡ true → digest (f l) ≡ digest l
  unfolding digest
  same-digest l h = ap (λ v. bytes_of_digits v) (keeps l h).2

  same-empty : (l : List ℕ) → is_locator l ≡ true → is_empty_block (f l) ≡ is_empty_block l
  unfolding is_empty_block
  same-empty l h =
      ap (λ n. nat_eq n 0 && bytes_eq (take 32 (f l)) (codes "d41d8cd98f00b204e9800998ecf8427e")) (keeps l h).1 ∙ ap (λ v. nat_eq (size l) 0 && bytes_eq v (codes "d41d8cd98f00b204e9800998ecf8427e")) (keeps l h).2

  named-by : (l : List ℕ) (ls : List (List ℕ)) (a b : Bool) → a ≡ b → digest (f l) ≡ digest l → map digest (filter (λ l. not (is_empty_block l)) (map f ls)) ≡ map digest (filter (λ l. not (is_empty_block l)) ls) →
      map digest (cond (not a) (f l ∷ filter (λ l. not (is_empty_block l)) (map f ls)) (filter (λ l. not (is_empty_block l)) (map f ls))) ≡ map digest (cond (not b) (l ∷ filter (λ l. not (is_empty_block l)) ls) (filter (λ l. not (is_empty_block l)) ls))
  named-by l ls true true e d h = h
  named-by l ls false false e d h = ap (λ v. v ∷ map digest (filter (λ l. not (is_empty_block l)) (map f ls))) d ∙ ap (λ v. digest l ∷ v) h
  named-by l ls true false e d h = cc e
  named-by l ls false true e d h = cc e

  named-locators : (ls : List (List ℕ)) → AllByRecursion (λ t. is_locator t ≡ true) ls → named_in (map f ls) ≡ named_in ls
  named-locators [] h = refl
  named-locators (l ∷ ls) h = named-by l ls (is_empty_block (f l)) (is_empty_block l) (same-empty l h.0) (same-digest l h.0) (named-locators ls h.1)

  abbrev AreLocated : List Stream → Type 0
  AreLocated ss = AllByRecursion (λ s. AllByRecursion (λ t. is_locator t ≡ true) s.locators) ss

  named-streams : (ss : List Stream) → AreLocated ss → flat_map (λ s. named_in s.locators) (map through ss) ≡ flat_map (λ s. named_in s.locators) ss
  named-streams [] h = refl
  named-streams (s ∷ ss) h = ap (λ v. v ++ flat_map (λ s. named_in s.locators) (map through ss)) (named-locators s.locators h.0) ∙ ap (λ v. named_in s.locators ++ v) (named-streams ss h.1)

  -- the streams of a text have locators
  tokens-located : (ts : List (List ℕ)) (s : Stream) → stream_of_tokens ts ≡ Some s → AllByRecursion (λ t. is_locator t ≡ true) s.locators
  tokens-located [] s e = cc e
  tokens-located (name ∷ ts) s e =
      let n = prefix_len is_locator ts in
      let found = chosen-some (is_stream_name (decode name) && nat_lt 0 (length (take n ts)) && nat_lt 0 (length (drop n ts))) (option_map (λ ss. record { name = decode name; locators = take n ts; segments = ss }) (each (segment_of (total_size (take n ts))) (drop n ts))) s e in
      option_and_then_some _ (each (segment_of (total_size (take n ts))) (drop n ts)) s found.1 (λ ss read e1.
      subst (λ (v : Stream). AllByRecursion (λ t. is_locator t ≡ true) v.locators) (same_Some _ _ e1) (all-locators f keeps ts))

  lines-located : (lines : List (List ℕ)) (ss : List Stream) → streams_of lines ≡ Some ss → AreLocated ss
  lines-located [] ss e = subst AreLocated (same_Some _ _ e) tt
  lines-located (l ∷ []) ss e = subst AreLocated (cond_some (nat_eq (length l) 0) [] ss e).1 tt
  lines-located (l ∷ m ∷ ms) ss e =
      option_and_then_some _ (stream_of l) ss e (λ s one e1.
      option_and_then_some _ (streams_of (m ∷ ms)) ss e1 (λ rest more e2.
      subst AreLocated (same_Some _ _ e2) (tokens-located (parts 32 l) s one, lines-located (m ∷ ms) rest more)))

  -- ---- the whole text
  clean-line : (line : List ℕ) → lacks 10 line ≡ true → AllPass in_token (parts 32 line)
  clean-line line h = split-pass (λ b. not (eqb b 10)) in_token 32 line (λ b e k. both (eqb b 32) (eqb b 10) e k) h
    where
      both : (a b : Bool) → a ≡ false → not b ≡ true → not (a || b) ≡ true
      both true b e k = cc e
      both false b e k = k

  clean-lines : (lines : List (List ℕ)) → AllPass (λ b. not (eqb b 10)) lines → Clean f lines
  clean-lines [] h = tt
  clean-lines (l ∷ ls) h = (clean-line l h.0, clean-lines ls h.1)

  lines-clean : (text : List ℕ) → AllPass (λ b. not (eqb b 10)) (parts 10 text)
  lines-clean text = split-pass (λ b. true) (λ b. not (eqb b 10)) 10 text (λ b e k. ap not e) (all-true text)
    where
      all-true : (xs : List ℕ) → list_all (λ b. true) xs ≡ true
      all-true [] = refl
      all-true (x ∷ xs) = all-true xs

  -- a line that was changed has no newline
  join-lacks : (ts : List (List ℕ)) → AllPass (λ b. not (eqb b 10)) ts → lacks 10 (join 32 ts) ≡ true
  join-lacks [] h = refl
  join-lacks (t ∷ []) h = h.0
  join-lacks (t ∷ u ∷ us) h = list_all-append (λ b. not (eqb b 10)) t (32 ∷ join 32 (u ∷ us)) ∙ and_from (lacks 10 t) (lacks 10 (join 32 (u ∷ us))) h.0 (join-lacks (u ∷ us) h.1)

  token-lacks : (ts : List (List ℕ)) → AllPass in_token ts → AllPass (λ b. not (eqb b 10)) ts
  token-lacks [] h = tt
  token-lacks (t ∷ ts) h = (list_all-weaker in_token (λ b. not (eqb b 10)) no-newline t h.0, token-lacks ts h.1)
    where
      no-newline : (b : ℕ) → in_token b ≡ true → not (eqb b 10) ≡ true
      no-newline b h = grind (arith, nat_tests)

  visible-no-newline : (b : ℕ) → is_visible b ≡ true → not (eqb b 10) ≡ true
  visible-no-newline b h = grind (arith, nat_tests)

  changed-lines : (lines : List (List ℕ)) → Clean f lines → AllPass (λ b. not (eqb b 10)) (map (line_through f) lines)
  changed-lines [] h = tt
  changed-lines (l ∷ ls) h = (join-lacks (map (changed f) (parts 32 l)) (tokens-pass f keeps (λ b. not (eqb b 10)) (parts 32 l) visible-no-newline (token-lacks (parts 32 l) h.0)), changed-lines ls h.1)

  text-lines : (text : List ℕ) → parts 10 (with_locators f text) ≡ map (line_through f) (parts 10 text)
  text-lines text =
      let clean = clean-lines (parts 10 text) (lines-clean text) in
      let k = first-part 10 text in
      ap (λ v. parts 10 (with_locators f v)) (sym (join_with_byte-slice_split 10 text)) ∙ ap (parts 10) (lines-through f (parts 10 text) clean)
      ∙ ap (λ v. parts 10 (join 10 (map (line_through f) v))) k.is ∙ split-join 10 (line_through f k.head) (map (line_through f) k.tail) (subst (λ v. AllPass (λ b. not (eqb b 10)) (map (line_through f) v)) k.is (changed-lines (parts 10 text) clean))
      ∙ ap (map (line_through f)) (sym k.is)

  pub digests-through : (text : List ℕ) (m : Manifest) → manifest_of text ≡ Some m → digests_of (with_locators f text) ≡ digests_of text
  unfolding manifest_of named
  digests-through text m e =
      option_and_then_some _ (streams_of (parts 10 text)) m e (λ ss read e1. (
      let clean = clean-lines (parts 10 text) (lines-clean text) in
      let new = ap streams_of (text-lines text) ∙ lines-streams (parts 10 text) ss clean read in
      let old = named-streams ss (lines-located (parts 10 text) ss read) in
      ap (λ o. option_map_or (λ (m : Manifest). ascending (flat_map (λ s. named_in s.locators) m.streams)) (option_map (λ ss. record { streams = ss }) o) []) new
      ∙ ap ascending old
      ∙ sym (ap (λ o. option_map_or (λ (m : Manifest). ascending (flat_map (λ s. named_in s.locators) m.streams)) (option_map (λ ss. record { streams = ss }) o) []) read)))

-- ---- locators without their permission hints
stripped-parts : (text : List ℕ) → is_locator text ≡ true → stripped text ≡ take 32 text ++ 43 ∷ size_digits text
unfolding stripped
stripped-parts text whole =
    let is = joined text whole in
    let front : List ℕ = take 32 text ++ 43 ∷ size_digits text in
    let d = eqb-true (length (take 32 text)) 32 (and_parts (nat_eq (length (take 32 text)) 32) (list_all is_lower_digit (take 32 text)) is.a_digest).0 in
    let len : length front ≡ 33 + length (size_digits text) = omega (arith, length-append (take 32 text) (43 ∷ size_digits text), d) in
    ap (take (33 + length (size_digits text))) is.joined ∙ take_at front (concat (hints text)) (33 + length (size_digits text)) len

unsigned-size : (l : List ℕ) → is_locator l ≡ true → size (unsigned l) ≡ size l
unfolding size unsigned
unsigned-size l h =
    let s = unsigned-locator l h in
    let is = joined l h in
    let own = own_parts (unsigned l) (take 32 l) (size_digits l) (filter is_other (hints l)) (record {
      joined = ap (λ v. v ++ concat (filter is_other (hints l))) (stripped-parts l h);
      a_digest = is.a_digest;
      a_number = is.a_number;
      each_a_hint = ap (list_all is_hint) (sym s.own_hints) ∙ (joined (unsigned l) s.whole).each_a_hint;
    }) in
    ap number own.size_is

unsigned-keeps : (l : List ℕ) → is_locator l ≡ true → (is_locator (unsigned l) ≡ true) × (size (unsigned l) ≡ size l) × (take 32 (unsigned l) ≡ take 32 l)
unsigned-keeps l h = let s = unsigned-locator l h in (s.whole, unsigned-size l h, s.same_digest)

some-manifest : (o : Option Manifest) → IsSome o → (m : Manifest) × (o ≡ Some m)
some-manifest None h = absurd (cc h)
some-manifest (Some m) h = (m, refl)

-- the text that is stored names what the request's text named
pub same-digests : SameDigests
same-digests text good h i =
    let m = some-manifest (manifest_of text) ((refused_or_read text).0 good) in
    subst (λ v. IsIn h v) (digests-through unsigned unsigned-keeps text m.0 m.1) i
