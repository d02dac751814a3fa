-- What a text reads to is good.
-- Laws: `good_is`, `good_tests`.
use Rattle.std.proofs.Common.{◌≡◌, ℕ, suc, ◌^◌, ◌<◌, eqb, ltb, leb, Bool, true, false, ◌&&◌, cond, List, [], ◌∷◌, length, drop, Option, Some, None, option_map, refl, ap, subst, ◌∙◌, inl, inr, ◌↔◌}
use Rattle.std.specs.Prelude.{take_while}
use Rattle.std.specs.List.{list_all, prefix_len, slice_split}
use Rattle.std.specs.Char.{is_ascii_digit}
use Rattle.std.proofs.lemmas.Bool.{and_parts, and_from, lt-ltb, leb-true, cases_Bool}
use Rattle.std.proofs.lemmas.Option.{cond_some, option_and_then_some, none-some, same_Some}
use Rattle.std.proofs.lemmas.List.Sums.{take_while-cons}
use Rattle.std.proofs.lemmas.Str.Parse.{digits_value_short}
use Rattle.keep_spec.specs.Locator.{is_number, number, is_locator}
use Rattle.keep_spec.specs.Names.{decode, is_stream_name}
use Rattle.keep_spec.specs.Manifest.{number_of, cut_at, segment_form, is_segment, segment_of, each, total_size, stream_of_parts, stream_of_tokens, stream_of, streams_of, manifest_of, text_of, IsGood}
use Rattle.keep_spec.specs.declared.manifest.Manifest.{Manifest}
use Rattle.keep_spec.specs.declared.manifest.Stream.{Stream}
use Rattle.keep_spec.specs.declared.manifest.Segment.{Segment}
use Rattle.keep_manifest.specs.Good.{is_good_segment, is_good_stream, is_good_manifest}
use Rattle.keep_manifest.proofs.WrittenBytes.{are_digits}
use Rattle.keep_manifest.proofs.ReadAgain.{written_reads}

number_small : (digits : List ℕ) (n : ℕ) → number_of digits ≡ Some n → n < 10 ^ 19
unfolding is_number
number_small digits n e =
    let found = cond_some (is_number digits) (number digits) n e in
    let a = and_parts (leb 1 (length digits) && leb (length digits) 19) (list_all is_ascii_digit digits) found.0 in
    let b = and_parts (leb 1 (length digits)) (leb (length digits) 19) a.0 in
    let bound = digits_value_short are_digits digits 19 a.1 (leb-true (length digits) 19 b.1) in
    subst (λ k. k < 10 ^ 19) found.1 bound

form_small : (token : List ℕ) (s : Segment) → segment_form token ≡ Some s → (s.position < 10 ^ 19) × (s.size < 10 ^ 19)
unfolding segment_form
form_small token s e =
    option_and_then_some _ (cut_at 58 token) s e (λ p _ e1.
    option_and_then_some _ (number_of p.0) s e1 (λ position read e2.
    option_and_then_some _ (cut_at 58 p.1) s e2 (λ q _ e3.
    option_and_then_some _ (number_of q.0) s e3 (λ size read2 e4.
    let same = same_Some _ _ e4 in
    (subst (λ g. g.position < 10 ^ 19) same (number_small p.0 position read), subst (λ g. g.size < 10 ^ 19) same (number_small q.0 size read2))))))

segment_good : (total : ℕ) (token : List ℕ) (s : Segment) → segment_of total token ≡ Some s → is_good_segment total s ≡ true
segment_good total token s e =
    option_and_then_some _ (segment_form token) s e (λ g form e1.
    let found = cond_some (is_segment total g) g s e1 in
    let small = form_small token g form in
    let numbers = and_from (ltb g.position (10 ^ 19)) (ltb g.size (10 ^ 19)) (lt-ltb g.position (10 ^ 19) small.0) (lt-ltb g.size (10 ^ 19) small.1) in
    subst (λ h. is_good_segment total h ≡ true) found.1 (and_from (ltb g.position (10 ^ 19) && ltb g.size (10 ^ 19)) (is_segment total g) numbers found.0))

segments_good : (total : ℕ) (tokens : List (List ℕ)) (segments : List Segment) → each (segment_of total) tokens ≡ Some segments → (list_all (is_good_segment total) segments ≡ true) × (length segments ≡ length tokens)
segments_good total [] segments e = subst (λ ss. (list_all (is_good_segment total) ss ≡ true) × (length ss ≡ 0)) (same_Some _ _ e) (refl, refl)
segments_good total (t ∷ ts) segments e =
    option_and_then_some _ (segment_of total t) segments e (λ s one e1.
    option_and_then_some _ (each (segment_of total) ts) segments e1 (λ ss rest e2.
    let more = segments_good total ts ss rest in
    subst (λ all. (list_all (is_good_segment total) all ≡ true) × (length all ≡ suc (length ts))) (same_Some _ _ e2)
    (and_from (is_good_segment total s) (list_all (is_good_segment total) ss) (segment_good total t s one) more.0, ap (λ n. suc n) more.1)))

all_of_front : (p : List ℕ → Bool) (xs : List (List ℕ)) → list_all p (take_while p xs) ≡ true
all_of_front p [] = refl
all_of_front p (x ∷ xs) =
    elim (cases_Bool (p x)) [
      | inl passes ↦ ap (list_all p) (take_while-cons p x xs ∙ ap (λ b. cond b (x ∷ take_while p xs) []) passes) ∙ and_from (p x) (list_all p (take_while p xs)) passes (all_of_front p xs)
      | inr fails ↦ ap (list_all p) (take_while-cons p x xs ∙ ap (λ b. cond b (x ∷ take_while p xs) []) fails)
    ]

chosen_some : {X : Type 0} (b : Bool) (o : Option X) (x : X) → cond b o None ≡ Some x → (b ≡ true) × (o ≡ Some x)
chosen_some true o x e = (refl, e)
chosen_some false o x e = absurd (none-some x e)

stream_good : (name : List ℕ) (locators tokens : List (List ℕ)) (s : Stream) → list_all is_locator locators ≡ true → stream_of_parts name locators tokens ≡ Some s → is_good_stream s ≡ true
stream_good name locators tokens s all e =
    let test = is_stream_name name && ltb 0 (length locators) && ltb 0 (length tokens) in
    let found = chosen_some test (option_map (λ ss. record { name = name; locators = locators; segments = ss }) (each (segment_of (total_size locators)) tokens)) s e in
    let a = and_parts (is_stream_name name && ltb 0 (length locators)) (ltb 0 (length tokens)) found.0 in
    option_and_then_some _ (each (segment_of (total_size locators)) tokens) s found.1 (λ ss read e1.
    let good = segments_good (total_size locators) tokens ss read in
    let some : ltb 0 (length ss) ≡ true = ap (ltb 0) good.1 ∙ a.1 in
    let parts = and_from (is_stream_name name && ltb 0 (length locators) && ltb 0 (length ss)) (list_all is_locator locators) (and_from (is_stream_name name && ltb 0 (length locators)) (ltb 0 (length ss)) a.0 some) all in
    subst (λ g. is_good_stream g ≡ true) (same_Some _ _ e1) (and_from (is_stream_name name && ltb 0 (length locators) && ltb 0 (length ss) && list_all is_locator locators) (list_all (is_good_segment (total_size locators)) ss) parts good.0))

line_good : (line : List ℕ) (s : Stream) → stream_of line ≡ Some s → is_good_stream s ≡ true
line_good line s e = tokens_good (slice_split (λ b. eqb b 32) line) e
  where
    tokens_good : (tokens : List (List ℕ)) → stream_of_tokens tokens ≡ Some s → is_good_stream s ≡ true
    tokens_good [] e = absurd (none-some s e)
    tokens_good (name ∷ tokens) e = stream_good (decode name) (take_while is_locator tokens) (drop (prefix_len is_locator tokens) tokens) s (all_of_front is_locator tokens) e

streams_good : (pieces : List (List ℕ)) (streams : List Stream) → streams_of pieces ≡ Some streams → list_all is_good_stream streams ≡ true
streams_good [] streams e = subst (λ ss. list_all is_good_stream ss ≡ true) (same_Some _ _ e) refl
streams_good (last ∷ []) streams e = subst (λ ss. list_all is_good_stream ss ≡ true) (cond_some (eqb (length last) 0) [] streams e).1 refl
streams_good (line ∷ next ∷ more) streams e =
    option_and_then_some _ (stream_of line) streams e (λ s one e1.
    option_and_then_some _ (streams_of (next ∷ more)) streams e1 (λ ss rest e2.
    subst (λ all. list_all is_good_stream all ≡ true) (same_Some _ _ e2)
    (and_from (is_good_stream s) (list_all is_good_stream ss) (line_good line s one) (streams_good (next ∷ more) ss rest))))

read_good : (text : List ℕ) (m : Manifest) → manifest_of text ≡ Some m → is_good_manifest m ≡ true
unfolding manifest_of
read_good text m e =
    option_and_then_some _ (streams_of (slice_split (λ b. eqb b 10) text)) m e (λ ss read e1.
    subst (λ n. is_good_manifest n ≡ true) (same_Some _ _ e1) (streams_good (slice_split (λ b. eqb b 10) text) ss read))

pub good_is : (m : Manifest) → IsGood m → is_good_manifest m ≡ true
good_is m good = read_good good.0 m good.1

-- a manifest passes the test just where some text reads to it
pub good_tests : (m : Manifest) → (is_good_manifest m ≡ true) ↔ IsGood m
good_tests m = (λ h. (text_of m, written_reads m h), good_is m)
