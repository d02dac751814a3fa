-- What is read is what the definitions say: the value and the first refusal, of which just one is there.
-- Laws: `text_agrees`, `text_read`, `text_bad`, `refused_or_read`.
use Rattle.std.proofs.Common.{◌≡◌, ℕ, suc, ◌+◌, eqb, Bool, true, false, ◌&&◌, cond, List, [], ◌∷◌, ◌++◌, length, drop, Option, Some, None, option_map, option_and_then, Result, Ok, Err, refl, ap, sym, subst, ◌∙◌, append_assoc, append-nil, zero-add, arith, ◌↔◌, IsSome}
use Rattle.std.proofs.Math.Dec.{eqb-suc-zero}
use Rattle.std.proofs.lemmas.Bool.{lt-ltb, false≢true}
use Rattle.std.proofs.lemmas.Option.{none-some}
use Rattle.std.proofs.lemmas.List.Sums.{take_while-cons, sum_by-append}
use Rattle.std.specs.Prelude.{take_while}
use Rattle.std.specs.List.{slice_split, prefix_len}
use Rattle.std.specs.Option.{option_or}
use Rattle.keep_spec.specs.Names.{decode, is_stream_name}
use Rattle.keep_spec.specs.Locator.{is_locator, size}
use Rattle.keep_spec.specs.Manifest.{segment_form, is_named, is_within, is_segment, segment_of, total_size, each, stream_of_parts, stream_of_tokens, stream_of, streams_of, manifest_of}
use Rattle.keep_spec.specs.Refusals.{refused, bad_form, bad_segment, bad_segments, bad_rest, bad_locators, bad_tokens, bad_line, bad_pieces, bad}
use Rattle.keep_spec.specs.declared.manifest.Stream.{Stream}
use Rattle.keep_spec.specs.declared.manifest.Manifest.{Manifest}
use Rattle.keep_spec.specs.declared.manifest.Segment.{Segment}
use Rattle.keep_spec.specs.declared.manifest.Refusal.{Refusal}
use Rattle.keep_spec.specs.declared.manifest.Kind.TheVariants.{BadStream, BadLocator}
use Rattle.keep_spec.specs.Results.{◌>>=◌}
use Rattle.keep_manifest.specs.Tokens.{lines_of}
use Rattle.keep_manifest.specs.Parsing.{Parts, no_parts, with_segment, refuse, judged, segment_at, token_at, tokens_at, whole, named_at, line_at, pieces_at}

-- parsing returns the value, or the refusal
abbrev pub Agrees : {X : Type 0} → Result X Refusal → Option X → Option Refusal → Type 0
Agrees (Ok x) value refusal = (value ≡ Some x) × (refusal ≡ None)
Agrees (Err f) value refusal = (value ≡ None) × (refusal ≡ Some f)

agrees_as : {X : Type 0} (r r' : Result X Refusal) (v v' : Option X) (b b' : Option Refusal) → r ≡ r' → v ≡ v' → b ≡ b' → Agrees r' v' b' → Agrees r v b
agrees_as r r' v v' b b' e f g h = rw (e, f, g) h

-- one parse after another
then_agrees : {X Y : Type 0} (r : Result X Refusal) (v : Option X) (b c : Option Refusal) (f : X → Result Y Refusal) (g : X → Option Y) → Agrees r v b → ((x : X) → Agrees (f x) (g x) c) → Agrees (r >>= f) (option_and_then g v) (option_or b c)
then_agrees (Ok x) v b c f g h k = rw (h.0, h.1) (k x)
then_agrees (Err e) v b c f g h k = rw (h.0, h.1) (refl, refl)

-- a segment's token

judged_chosen : (at total : ℕ) (s : Segment) (n w : Bool) → is_named s ≡ n → is_within total s ≡ w → Agrees (judged at total (Some s)) (cond (is_segment total s) (Some s) None) (option_map (λ k. record { at = at; kind = k }) (bad_form total (Some s)))
judged_chosen at total s true true e f = rw (e, f) (refl, refl)
judged_chosen at total s true false e f = rw (e, f) (refl, refl)
judged_chosen at total s false w e f = rw e (refl, refl)

judged_agrees : (at total : ℕ) (o : Option Segment) → Agrees (judged at total o) (option_and_then (λ s. cond (is_segment total s) (Some s) None) o) (option_map (λ k. record { at = at; kind = k }) (bad_form total o))
judged_agrees at total None = (refl, refl)
judged_agrees at total (Some s) = judged_chosen at total s (is_named s) (is_within total s) refl refl

segment_agrees : (at total : ℕ) (token : List ℕ) → Agrees (segment_at at total token) (segment_of total token) (option_map (λ k. record { at = at; kind = k }) (bad_segment total token))
unfolding segment_at
segment_agrees at total token = judged_agrees at total (segment_form token)

-- the segments of a line

segments_at : ℕ → ℕ → List (List ℕ) → Result (List Segment) Refusal
segments_at at total [] = Ok []
segments_at at total (token ∷ tokens) = segment_at at total token >>= λ s. segments_at (at + length token + 1) total tokens >>= λ ss. Ok (s ∷ ss)

segments_agree : (at total : ℕ) (tokens : List (List ℕ)) → Agrees (segments_at at total tokens) (each (segment_of total) tokens) (bad_segments at total tokens)
unfolding segments_at
segments_agree at total [] = (refl, refl)
segments_agree at total (token ∷ tokens) =
    then_agrees _ _ _ _ _ _ (segment_agrees at total token) (λ s. more_agrees s _ _ _ (segments_agree (at + length token + 1) total tokens))
  where
    more_agrees : (s : Segment) (r : Result (List Segment) Refusal) (v : Option (List Segment)) (b : Option Refusal) → Agrees r v b → Agrees (r >>= λ ss. Ok (s ∷ ss)) (option_and_then (λ ss. Some (s ∷ ss)) v) b
    more_agrees s (Ok ss) v b h = rw (h.0, h.1) (refl, refl)
    more_agrees s (Err e) v b h = rw (h.0, h.1) (refl, refl)

-- the tokens of a line that follow its locators add their segments

abbrev saying : List (List ℕ) → List Segment → Parts
saying locators segments = record { locators = locators; segments = segments }

abbrev adding : List (List ℕ) → List Segment → Result (List Segment) Refusal → Result Parts Refusal
adding locators segments r = r >>= λ ss. Ok (saying locators (segments ++ ss))

adding_more : (locators : List (List ℕ)) (segments : List Segment) (s : Segment) (r : Result (List Segment) Refusal) → adding locators (segments ++ s ∷ []) r ≡ adding locators segments (r >>= λ ss. Ok (s ∷ ss))
adding_more locators segments s (Ok ss) = ap (λ all. Ok (saying locators all)) (append_assoc segments (s ∷ []) ss)
adding_more locators segments s (Err e) = refl

adding_first : (locators : List (List ℕ)) (segments : List Segment) (r : Result Segment Refusal) (f : Parts → Result Parts Refusal) (g : Result (List Segment) Refusal) → ((s : Segment) → f (saying locators (segments ++ s ∷ [])) ≡ adding locators (segments ++ s ∷ []) g) → ((r >>= λ s. Ok (with_segment (saying locators segments) s)) >>= f) ≡ adding locators segments (r >>= λ s. g >>= λ ss. Ok (s ∷ ss))
adding_first locators segments (Ok s) f g h = h s ∙ adding_more locators segments s g
adding_first locators segments (Err e) f g h = refl

segment_token : (at : ℕ) (token l : List ℕ) (ls : List (List ℕ)) (segments : List Segment) → (eqb (length segments) 0 && is_locator token) ≡ false → token_at at token (saying (l ∷ ls) segments) ≡ (segment_at at (total_size (l ∷ ls)) token >>= λ s. Ok (with_segment (saying (l ∷ ls) segments) s))
unfolding token_at
segment_token at token l ls segments e = rw (e, eqb-suc-zero (length ls))

pushed_filled : (segments : List Segment) (s : Segment) (b : Bool) → (eqb (length (segments ++ s ∷ [])) 0 && b) ≡ false
pushed_filled [] s b = refl
pushed_filled (x ∷ xs) s b = rw (eqb-suc-zero (length (xs ++ s ∷ [])))

segments_follow : (at : ℕ) (tokens : List (List ℕ)) (l : List ℕ) (ls : List (List ℕ)) (segments : List Segment) → ((b : Bool) → (eqb (length segments) 0 && b) ≡ false) → tokens_at at tokens (saying (l ∷ ls) segments) ≡ adding (l ∷ ls) segments (segments_at at (total_size (l ∷ ls)) tokens)
unfolding tokens_at segments_at
segments_follow at [] l ls segments e = ap (λ all. Ok (saying (l ∷ ls) all)) (sym (append-nil segments))
segments_follow at (token ∷ tokens) l ls segments e =
    ap (λ r. r >>= tokens_at (at + length token + 1) tokens) (segment_token at token l ls segments (e (is_locator token)))
    ∙ adding_first (l ∷ ls) segments _ _ _ (λ s. segments_follow (at + length token + 1) tokens l ls (segments ++ s ∷ []) (pushed_filled segments s))

-- the first of them is no locator
segments_begin : (at : ℕ) (token : List ℕ) (tokens : List (List ℕ)) (l : List ℕ) (ls : List (List ℕ)) → is_locator token ≡ false → tokens_at at (token ∷ tokens) (saying (l ∷ ls) []) ≡ adding (l ∷ ls) [] (segments_at at (total_size (l ∷ ls)) (token ∷ tokens))
unfolding tokens_at segments_at
segments_begin at token tokens l ls other =
    ap (λ r. r >>= tokens_at (at + length token + 1) tokens) (segment_token at token l ls [] other)
    ∙ adding_first (l ∷ ls) [] _ _ _ (λ s. segments_follow (at + length token + 1) tokens l ls (s ∷ []) (pushed_filled [] s))

-- the parts of a line

stream_no_locators : (name : List ℕ) (tokens : List (List ℕ)) → stream_of_parts name [] tokens ≡ None
stream_no_locators name tokens = by_name (is_stream_name name) name tokens refl
  where
    by_name : (b : Bool) (name : List ℕ) (tokens : List (List ℕ)) → is_stream_name name ≡ b → stream_of_parts name [] tokens ≡ None
    by_name true name tokens e = rw e
    by_name false name tokens e = rw e

stream_no_segments : (name : List ℕ) (l : List ℕ) (ls : List (List ℕ)) → stream_of_parts name (l ∷ ls) [] ≡ None
stream_no_segments name l ls = by_name (is_stream_name name) refl
  where
    by_name : (b : Bool) → is_stream_name name ≡ b → stream_of_parts name (l ∷ ls) [] ≡ None
    by_name true e = rw (e, lt-ltb 0 (length (l ∷ ls)) (omega arith))
    by_name false e = rw e

stream_unnamed : (name : List ℕ) (locators segments : List (List ℕ)) → is_stream_name name ≡ false → stream_of_parts name locators segments ≡ None
stream_unnamed name locators segments e = rw e

abbrev with_segments : List ℕ → List (List ℕ) → List Segment → Stream
with_segments name locators segments = record { name = name; locators = locators; segments = segments }

stream_whole : (name l : List ℕ) (ls : List (List ℕ)) (t : List ℕ) (ts : List (List ℕ)) → is_stream_name name ≡ true → stream_of_parts name (l ∷ ls) (t ∷ ts) ≡ option_map (with_segments name (l ∷ ls)) (each (segment_of (total_size (l ∷ ls))) (t ∷ ts))
stream_whole name l ls t ts e = rw (e, lt-ltb 0 (length (l ∷ ls)) (omega arith), lt-ltb 0 (length (t ∷ ts)) (omega arith))

front_yes : (t : List ℕ) (ts : List (List ℕ)) → is_locator t ≡ true → take_while is_locator (t ∷ ts) ≡ t ∷ take_while is_locator ts
front_yes t ts e = take_while-cons is_locator t ts ∙ rw e

front_no : (t : List ℕ) (ts : List (List ℕ)) → is_locator t ≡ false → take_while is_locator (t ∷ ts) ≡ []
front_no t ts e = take_while-cons is_locator t ts ∙ rw e

behind_yes : (t : List ℕ) (ts : List (List ℕ)) → is_locator t ≡ true → drop (prefix_len is_locator (t ∷ ts)) (t ∷ ts) ≡ drop (prefix_len is_locator ts) ts
behind_yes t ts e =
    let one : prefix_len is_locator (t ∷ ts) ≡ suc (prefix_len is_locator ts) = rw e (omega arith) in
    ap (λ n. drop n (t ∷ ts)) one

behind_no : (t : List ℕ) (ts : List (List ℕ)) → is_locator t ≡ false → drop (prefix_len is_locator (t ∷ ts)) (t ∷ ts) ≡ t ∷ ts
behind_no t ts e = let none : prefix_len is_locator (t ∷ ts) ≡ 0 = rw e in ap (λ n. drop n (t ∷ ts)) none

-- what is refused after these locators
bad_from : ℕ → ℕ → List (List ℕ) → List (List ℕ) → Option Refusal
bad_from at end [] tokens = bad_locators at end tokens
bad_from at end (l ∷ ls) tokens = bad_rest at end (total_size (l ∷ ls)) tokens

bad_from_more : (at end : ℕ) (ls : List (List ℕ)) (t : List ℕ) (ts : List (List ℕ)) → is_locator t ≡ true → bad_from at end ls (t ∷ ts) ≡ bad_from (at + length t + 1) end (ls ++ t ∷ []) ts
unfolding bad_from
bad_from_more at end [] t ts e = rw e (ap (λ n. bad_rest (at + length t + 1) end n ts) (sym (zero-add (size t))))
bad_from_more at end (l ∷ ls) t ts e =
    let sum : total_size (l ∷ ls) + size t ≡ total_size (l ∷ ls ++ t ∷ []) = omega (arith, sum_by-append size (l ∷ ls) (t ∷ [])) in
    rw e (ap (λ n. bad_rest (at + length t + 1) end n ts) sum)

-- segments after the locators
segments_end : (at end : ℕ) (name l : List ℕ) (ls : List (List ℕ)) (t : List ℕ) (ts : List (List ℕ)) → is_stream_name name ≡ true → is_locator t ≡ false → Agrees (tokens_at at (t ∷ ts) (saying (l ∷ ls) []) >>= whole end name) (stream_of_parts name (l ∷ ls) (t ∷ ts)) (bad_segments at (total_size (l ∷ ls)) (t ∷ ts))
unfolding segments_at whole
segments_end at end name l ls t ts named other =
    rw (segments_begin at t ts l ls other, stream_whole name l ls t ts named) (ended (segment_at at (total_size (l ∷ ls)) t) (segments_at (at + length t + 1) (total_size (l ∷ ls)) ts) _ _ (segments_agree at (total_size (l ∷ ls)) (t ∷ ts)))
  where
    ended : (r : Result Segment Refusal) (q : Result (List Segment) Refusal) (v : Option (List Segment)) (b : Option Refusal) → Agrees (r >>= λ s. q >>= λ ss. Ok (s ∷ ss)) v b → Agrees (adding (l ∷ ls) [] (r >>= λ s. q >>= λ ss. Ok (s ∷ ss)) >>= whole end name) (option_map (with_segments name (l ∷ ls)) v) b
    ended (Ok s) (Ok ss) v b h = rw (h.0, h.1, eqb-suc-zero (length ls), eqb-suc-zero (length ss)) (refl, refl)
    ended (Ok s) (Err e) v b h = rw (h.0, h.1) (refl, refl)
    ended (Err e) q v b h = rw (h.0, h.1) (refl, refl)

abbrev front : List (List ℕ) → List (List ℕ)
front tokens = take_while is_locator tokens

abbrev behind : List (List ℕ) → List (List ℕ)
behind tokens = drop (prefix_len is_locator tokens) tokens

abbrev AgreesFrom : ℕ → ℕ → List ℕ → List (List ℕ) → List (List ℕ) → Type 0
AgreesFrom at end name ls tokens = Agrees (tokens_at at tokens (saying ls []) >>= whole end name) (stream_of_parts name (ls ++ front tokens) (behind tokens)) (bad_from at end ls tokens)

locator_taken : (at end : ℕ) (name : List ℕ) (ls : List (List ℕ)) (t : List ℕ) (ts : List (List ℕ)) → is_locator t ≡ true → AgreesFrom (at + length t + 1) end name (ls ++ t ∷ []) ts → AgreesFrom at end name ls (t ∷ ts)
unfolding tokens_at token_at
locator_taken at end name ls t ts e h =
    let taken : tokens_at at (t ∷ ts) (saying ls []) ≡ tokens_at (at + length t + 1) ts (saying (ls ++ t ∷ []) []) = tokens_taken in
    let parts : ls ++ front (t ∷ ts) ≡ (ls ++ t ∷ []) ++ front ts = ap (λ xs. ls ++ xs) (front_yes t ts e) ∙ sym (append_assoc ls (t ∷ []) (front ts)) in
    rw (taken, parts, behind_yes t ts e, bad_from_more at end ls t ts e) h
  where
    tokens_taken : tokens_at at (t ∷ ts) (saying ls []) ≡ tokens_at (at + length t + 1) ts (saying (ls ++ t ∷ []) [])
    tokens_taken = rw e

no_token : (at : ℕ) (t : List ℕ) (ts : List (List ℕ)) → is_locator t ≡ false → tokens_at at (t ∷ ts) (saying [] []) ≡ refuse at BadLocator
unfolding tokens_at token_at
no_token at t ts e = rw e

bad_first : (at end : ℕ) (t : List ℕ) (ts : List (List ℕ)) → is_locator t ≡ false → bad_from at end [] (t ∷ ts) ≡ refused at BadLocator
unfolding bad_from
bad_first at end t ts e = rw e

bad_later : (at end : ℕ) (l : List ℕ) (ls : List (List ℕ)) (t : List ℕ) (ts : List (List ℕ)) → is_locator t ≡ false → bad_from at end (l ∷ ls) (t ∷ ts) ≡ bad_segments at (total_size (l ∷ ls)) (t ∷ ts)
unfolding bad_from
bad_later at end l ls t ts e = rw e

locator_missing : (at end : ℕ) (name : List ℕ) (ls : List (List ℕ)) (t : List ℕ) (ts : List (List ℕ)) → is_stream_name name ≡ true → is_locator t ≡ false → AgreesFrom at end name ls (t ∷ ts)
locator_missing at end name [] t ts named e =
    agrees_as _ (refuse at BadLocator) _ None _ (refused at BadLocator)
    (ap (λ r. r >>= whole end name) (no_token at t ts e))
    (ap (λ xs. stream_of_parts name xs (behind (t ∷ ts))) (front_no t ts e) ∙ stream_no_locators name (behind (t ∷ ts)))
    (bad_first at end t ts e) (refl, refl)
locator_missing at end name (l ∷ ls) t ts named e =
    agrees_as _ (tokens_at at (t ∷ ts) (saying (l ∷ ls) []) >>= whole end name) _ (stream_of_parts name (l ∷ ls) (t ∷ ts)) _ (bad_segments at (total_size (l ∷ ls)) (t ∷ ts))
    refl
    (ap (λ xs. stream_of_parts name ((l ∷ ls) ++ xs) (behind (t ∷ ts))) (front_no t ts e) ∙ ap (λ xs. stream_of_parts name xs (behind (t ∷ ts))) (append-nil (l ∷ ls)) ∙ ap (stream_of_parts name (l ∷ ls)) (behind_no t ts e))
    (bad_later at end l ls t ts e) (segments_end at end name l ls t ts named e)

locators_only : (at end : ℕ) (name l : List ℕ) (ls : List (List ℕ)) → AgreesFrom at end name (l ∷ ls) []
unfolding tokens_at whole bad_from
locators_only at end name l ls =
    rw (eqb-suc-zero (length ls)) (ap (λ xs. stream_of_parts name xs []) (append-nil (l ∷ ls)) ∙ stream_no_segments name l ls, refl)

-- the tokens after these locators
tokens_agree : (at end : ℕ) (name : List ℕ) (ls tokens : List (List ℕ)) → is_stream_name name ≡ true → AgreesFrom at end name ls tokens
unfolding tokens_at whole bad_from
tokens_agree at end name [] [] named = (stream_no_locators name [], refl)
tokens_agree at end name (l ∷ ls) [] named = locators_only at end name l ls
tokens_agree at end name ls (t ∷ ts) named = by_locator (is_locator t) refl (tokens_agree (at + length t + 1) end name (ls ++ t ∷ []) ts named)
  where
    by_locator : (b : Bool) → is_locator t ≡ b → AgreesFrom (at + length t + 1) end name (ls ++ t ∷ []) ts → AgreesFrom at end name ls (t ∷ ts)
    by_locator true e h = locator_taken at end name ls t ts e h
    by_locator false e h = locator_missing at end name ls t ts named e

named_agrees : (at end : ℕ) (tokens : List (List ℕ)) → Agrees (named_at at end tokens) (stream_of_tokens tokens) (bad_tokens at end tokens)
unfolding named_at bad_from
named_agrees at end [] = (refl, refl)
named_agrees at end (name ∷ tokens) = by_name (is_stream_name (decode name)) refl
  where
    by_name : (b : Bool) → is_stream_name (decode name) ≡ b → Agrees (named_at at end (name ∷ tokens)) (stream_of_tokens (name ∷ tokens)) (bad_tokens at end (name ∷ tokens))
    by_name true e =
        agrees_as _ (tokens_at (at + length name + 1) tokens no_parts >>= whole end (decode name)) _ (stream_of_tokens (name ∷ tokens)) _ (bad_locators (at + length name + 1) end tokens)
        (rw e) refl (rw e) (tokens_agree (at + length name + 1) end (decode name) [] tokens e)
    by_name false e =
        agrees_as _ (refuse at BadStream) _ None _ (refused at BadStream) (rw e) (stream_unnamed (decode name) (take_while is_locator tokens) (drop (prefix_len is_locator tokens) tokens) e) (rw e) (refl, refl)

-- a line
line_agrees : (at : ℕ) (line : List ℕ) → Agrees (line_at at line) (stream_of line) (bad_line at line)
unfolding line_at
line_agrees at line = named_agrees at (at + length line) (slice_split (λ b. eqb b 32) line)

unfinished_agrees : (r : Result Stream Refusal) (v : Option Stream) (b c : Option Refusal) (f : Refusal) → Agrees r v b → c ≡ Some f → Agrees {X = List Stream} (r >>= λ _. Err f) None (option_or b c)
unfinished_agrees (Ok s) v b c f h e = rw (h.1, e) (refl, refl)
unfinished_agrees (Err g) v b c f h e = rw h.1 (refl, refl)

last_agrees : (at : ℕ) (last : List ℕ) (b : Bool) → eqb (length last) 0 ≡ b → Agrees (pieces_at at (last ∷ [])) (streams_of (last ∷ [])) (bad_pieces at (last ∷ []))
unfolding pieces_at
last_agrees at last true e = rw e (refl, refl)
last_agrees at last false e = rw e (unfinished_agrees (line_at at last) _ _ _ _ (line_agrees at last) refl)

-- the pieces of a text between newlines
pieces_agree : (at : ℕ) (pieces : List (List ℕ)) → Agrees (pieces_at at pieces) (streams_of pieces) (bad_pieces at pieces)
unfolding pieces_at
pieces_agree at [] = (refl, refl)
pieces_agree at (last ∷ []) = last_agrees at last (eqb (length last) 0) refl
pieces_agree at (line ∷ next ∷ more) =
    then_agrees _ _ _ _ _ _ (line_agrees at line) (λ s. more_agrees s _ _ _ (pieces_agree (at + length line + 1) (next ∷ more)))
  where
    more_agrees : (s : Stream) (r : Result (List Stream) Refusal) (v : Option (List Stream)) (b : Option Refusal) → Agrees r v b → Agrees (r >>= λ ss. Ok (s ∷ ss)) (option_and_then (λ ss. Some (s ∷ ss)) v) b
    more_agrees s (Ok ss) v b h = rw (h.0, h.1) (refl, refl)
    more_agrees s (Err e) v b h = rw (h.0, h.1) (refl, refl)

-- a text
abbrev pub manifest_with : List Stream → Manifest
manifest_with streams = record { streams = streams }

whole_agrees : (r : Result (List Stream) Refusal) (v : Option (List Stream)) (b : Option Refusal) → Agrees r v b → Agrees (r >>= λ ss. Ok (manifest_with ss)) (option_map manifest_with v) b
whole_agrees (Ok ss) v b h = rw (h.0, h.1) (refl, refl)
whole_agrees (Err e) v b h = rw (h.0, h.1) (refl, refl)

pub text_agrees : (text : List ℕ) → Agrees (pieces_at 0 (lines_of text) >>= λ ss. Ok (manifest_with ss)) (manifest_of text) (bad text)
unfolding manifest_of bad
text_agrees text = whole_agrees (pieces_at 0 (lines_of text)) _ _ (pieces_agree 0 (lines_of text))

pub text_read : (text : List ℕ) (streams : List Stream) → pieces_at 0 (lines_of text) ≡ Ok streams → manifest_of text ≡ Some (manifest_with streams)
text_read text streams e = (subst (λ r. Agrees (r >>= λ ss. Ok (manifest_with ss)) (manifest_of text) (bad text)) e (text_agrees text)).0

pub text_bad : (text : List ℕ) (f : Refusal) → pieces_at 0 (lines_of text) ≡ Err f → bad text ≡ Some f
text_bad text f e = (subst (λ r. Agrees (r >>= λ ss. Ok (manifest_with ss)) (manifest_of text) (bad text)) e (text_agrees text)).1

-- each text is a manifest or is refused, and none is both
one_of_both : {X : Type 0} (r : Result X Refusal) (v : Option X) (b : Option Refusal) → Agrees r v b → (b ≡ None) ↔ IsSome v
one_of_both (Ok x) v b h = (λ _. rw h.0 refl, λ _. h.1)
one_of_both (Err f) v b h = (λ e. absurd (none-some f (sym e ∙ h.1)), λ s. absurd (false≢true (rw h.0 at s)))

pub refused_or_read : (text : List ℕ) → (bad text ≡ None) ↔ IsSome (manifest_of text)
refused_or_read text = one_of_both _ _ _ (text_agrees text)
