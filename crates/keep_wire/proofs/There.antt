-- Something comes next of known bytes, and they have a list of requests with its end.
use Rattle.std.specs.Prelude.{IsSome, unwrap_or, Result}
use Rattle.std.proofs.Common.{◌≡◌, ℕ, zero, suc, ◌<◌, ◌≤◌, true, List, [], ◌∷◌, ◌++◌, length, take, drop, Option, Some, None, Ok, Err, refl, sym, ap, ◌∙◌, subst, arith, inl, inr, append_assoc, append-nil, length-append}
use Rattle.std.proofs.lemmas.Bool.{cases_Bool, cases_lt, false≢true}
use Rattle.std.proofs.lemmas.List.{take-append-drop, length-take, length-take-le}
use Rattle.std.specs.List.{flat_map}
use Rattle.httparse.specs.Grammar.{print_end, Field, print_field}
use Rattle.keep_wire.specs.declared.message.Request.{Request}
use Rattle.keep_wire.specs.declared.message.WireError.{WireError}
use Rattle.keep_wire.specs.declared.message.WireError.TheVariants.{ReadFault, BadHead, LengthRequired, BodyTooLong, CutBody, NoMemory}
use Rattle.keep_wire.specs.Fields.{is_framed, length_of}
use Rattle.keep_wire.specs.Messages.{Grammar, Reads, HasNone, NeverHas, pairs_of, HasManyFields, IsLongHead, IsBadHead, HasHead, IsCutHead, HasLength, body_length, IsMessage, IsNext, IsDecided, IsSomethingNext}
use Rattle.keep_wire.specs.Requests.{request_grammar, request_of}
use Rattle.keep_wire.specs.Sessions.{closed, clean, broken, Ending, AreRequests, AreRequestsThere}
use Rattle.keep_wire.specs.Splits.{cuts}
use Rattle.keep_wire.proofs.HeadLines.{Lined}
use Rattle.keep_wire.proofs.Longer.{reads-longer}
use Rattle.keep_wire.proofs.Many.{many_here}
use Rattle.keep_wire.proofs.Apart.{nothing_read}
use Rattle.keep_wire.proofs.RequestLines.{requests_lined}

-- ---- no head

none_in_front : {H : Type 0} (g : Grammar H) (bytes : List ℕ) → HasNone g bytes → HasNone g (take 65536 bytes)
none_in_front g bytes none h rest reads =
    none h (rest ++ drop 65536 bytes) (subst (λ (v : List ℕ). Reads g v h (rest ++ drop 65536 bytes)) (take-append-drop 65536 bytes) (reads-longer g (take 65536 bytes) (drop 65536 bytes) h rest reads))

-- bytes that begin with no head are refused or cut
headless : {H : Type 0} (g : Grammar H) (bytes : List ℕ) → 0 < length bytes → HasNone g bytes → ¬ (IsBadHead g bytes) → ¬ (IsCutHead g bytes) → ⊥
headless g bytes some none bad cut =
    elim (cases_lt 65536 (length bytes)) as (λ _. ⊥) [
      | inl long ↦ bad (inr (inr (inl (long, none_in_front g bytes none))))
      | inr short ↦ bad (inl (outside short, never short))
    ]
  where
    outside : length bytes ≤ 65536 → ¬ (g.waits bytes)
    outside short within = cut (record { some = some; short = short; none = none; few = λ many. bad (inr (inl many)); goes_on = inl within })

    never : length bytes ≤ 65536 → NeverHas g bytes
    never short more h rest reads =
        elim (cuts bytes more (g.print h) rest reads.1) as (λ _. ⊥) [
          | inl t ↦ none h t.0 (reads.0, t.1)
          | inr t ↦ cut (record { some = some; short = short; none = none; few = λ many. bad (inr (inl many)); goes_on = inr (t.0 ∷ t.1, h, (reads.0, sym t.2 ∙ sym (append-nil (g.print h)))) })
        ]

-- ---- a head that isn't refused

first_part : (n : ℕ) (fs : List Field) (tail : List ℕ) → (rest : List ℕ) × (flat_map print_field fs ++ tail ≡ flat_map print_field (take n fs) ++ rest)
first_part zero fs tail = (flat_map print_field fs ++ tail, refl)
first_part (suc n) [] tail = (tail, refl)
first_part (suc n) (f ∷ fs) tail =
    let t = first_part n fs tail in
    (t.0, append_assoc (print_field f) (flat_map print_field fs) tail ∙ ap (λ (v : List ℕ). print_field f ++ v) t.1 ∙ sym (append_assoc (print_field f) (flat_map print_field (take n fs)) t.0))

many_there : {H : Type 0} (g : Grammar H) (l : Lined g) (bytes rest : List ℕ) (h : H) → Reads g bytes h rest → 64 < length (g.fields h) → HasManyFields g bytes
many_there g l bytes rest h reads many =
    let tail : List ℕ = print_end (l.last h) ++ rest in
    let part = first_part 65 (g.fields h) tail in
    many_here g l bytes (flat_map print_field (g.fields h) ++ tail) part.0 h reads.0 (reads.1 ∙ l.apart h rest) (omega (arith, many)) part.1

long_there : {H : Type 0} (g : Grammar H) (l : Lined g) (bytes rest : List ℕ) (h : H) → Reads g bytes h rest → 65536 < length (g.print h) → IsLongHead g bytes
long_there g l bytes rest h reads long = (omega (arith, long, ap length reads.1, length-append (g.print h) rest), none)
  where
    none : HasNone g (take 65536 bytes)
    none k r front =
        let longer = subst (λ (v : List ℕ). Reads g v k (r ++ drop 65536 bytes)) (take-append-drop 65536 bytes) (reads-longer g (take 65536 bytes) (drop 65536 bytes) k r front) in
        let same = l.unique bytes h k rest (r ++ drop 65536 bytes) reads longer in
        let size = ap (λ j. length (g.print j)) same.0 in
        let fits = ap length front.1 in
        omega (arith, long, size, fits, length-append (g.print k) r, length-take 65536 bytes)

head_there : {H : Type 0} (g : Grammar H) (l : Lined g) (bytes rest : List ℕ) (h : H) → Reads g bytes h rest → ¬ (IsBadHead g bytes) → HasHead g bytes h rest
head_there g l bytes rest h reads bad = record { reads = reads; short = short; few = few; framed = framed }
  where
    short : length (g.print h) ≤ 65536
    short = elim (cases_lt 65536 (length (g.print h))) as (λ _. length (g.print h) ≤ 65536) [
      | inl long ↦ absurd (bad (inr (inr (inl (long_there g l bytes rest h reads long)))))
      | inr le ↦ le
    ]

    few : length (g.fields h) ≤ 64
    few = elim (cases_lt 64 (length (g.fields h))) as (λ _. length (g.fields h) ≤ 64) [
      | inl many ↦ absurd (bad (inr (inl (many_there g l bytes rest h reads many))))
      | inr le ↦ le
    ]

    framed : is_framed (pairs_of g h) ≡ true
    framed = elim (cases_Bool (is_framed (pairs_of g h))) as (λ _. is_framed (pairs_of g h) ≡ true) [
      | inl holds ↦ holds
      | inr unframed ↦ absurd (bad (inr (inr (inr (h, rest, reads, unframed)))))
    ]

-- ---- after a head

abbrev NothingNext : {H M : Type 0} → Grammar H → (H → List ℕ → M) → List ℕ → Type 0
NothingNext {H} {M} g make bytes = (r : Result (Option M) WireError) (left : Option (List ℕ)) → IsDecided r → ¬ (IsNext g make (Some bytes) r left)

with_body : {H M : Type 0} (g : Grammar H) (make : H → List ℕ → M) (bytes rest : List ℕ) (h : H) → HasHead g bytes h rest → HasLength g h → body_length g h ≤ 67108864 → NothingNext g make bytes → ⊥
with_body g make bytes rest h has there short none =
    let n : ℕ = body_length g h in
    elim (cases_lt (length rest) n) as (λ _. ⊥) [
      | inl cut ↦ none (Err CutBody) None tt (inr (h, rest, has, there, short, cut))
      | inr fits ↦ none (Ok (Some (make h (take n rest)))) (Some (drop n rest)) tt (record {
        head = h;
        body = take n rest;
        has = subst (λ (v : List ℕ). HasHead g bytes h v) (sym (take-append-drop n rest)) has;
        length_there = there;
        length_is = length-take-le n rest fits;
        short = omega (arith, short, length-take-le n rest fits);
        made = refl;
      })
    ]

after_head : {H M : Type 0} (g : Grammar H) (make : H → List ℕ → M) (bytes rest : List ℕ) (h : H) → HasHead g bytes h rest → NothingNext g make bytes → ⊥
after_head g make bytes rest h has none = by_length (length_of (pairs_of g h)) refl
  where
    by_length : (o : Option ℕ) → length_of (pairs_of g h) ≡ o → ⊥
    by_length None is =
        elim (cases_Bool (g.needs_length h)) as (λ _. ⊥) [
          | inl needed ↦ none (Err LengthRequired) None tt (h, rest, has, needed, is)
          | inr free ↦
              let size : body_length g h ≡ 0 = ap (λ (o : Option ℕ). unwrap_or o 0) is in
              with_body g make bytes rest h has (λ needed. absurd (false≢true (sym free ∙ needed))) (omega (arith, size)) none
        ]
    by_length (Some n) is =
        let size : body_length g h ≡ n = ap (λ (o : Option ℕ). unwrap_or o 0) is in
        elim (cases_lt 67108864 n) as (λ _. ⊥) [
          | inl long ↦ none (Err (BodyTooLong n)) None tt (h, rest, has, is, long)
          | inr short ↦ with_body g make bytes rest h has (λ _. subst (λ (o : Option ℕ). IsSome o) (sym is) refl) (omega (arith, size, short)) none
        ]

pub something_next : {H M : Type 0} (g : Grammar H) → Lined g → (make : H → List ℕ → M) → IsSomethingNext g make
something_next g l make [] none = none (Ok None) (Some []) tt (refl, refl)
something_next g l make (x ∷ bytes) none = headless g (x ∷ bytes) (omega arith) no_head bad (λ cut. none (Err CutBody) None tt (inl cut))
  where
    bad : ¬ (IsBadHead g (x ∷ bytes))
    bad refused = none (Err BadHead) None tt refused

    no_head : HasNone g (x ∷ bytes)
    no_head h rest reads = after_head g make (x ∷ bytes) rest h (head_there g l (x ∷ bytes) rest h reads bad) none

-- ---- whole connections

shorter : {H M : Type 0} (g : Grammar H) → Lined g → (make : H → List ℕ → M) (bytes left : List ℕ) (m : M) → IsMessage g make bytes m left → length left < length bytes
shorter g l make bytes left m x = by_head (g.print x.head) refl
  where
    by_head : (p : List ℕ) → g.print x.head ≡ p → length left < length bytes
    by_head [] is = absurd (nothing_read g l x.head [] (x.has.reads.0, sym (append-nil (g.print x.head) ∙ is)))
    by_head (b ∷ p) is = omega (arith, ap length is, ap length x.has.reads.1, length-append (g.print x.head) (x.body ++ left), length-append x.body left)

-- what is left says nothing of an error
any_left : {H M : Type 0} (g : Grammar H) (make : H → List ℕ → M) (bytes : List ℕ) (e : WireError) (a : Option (List ℕ)) → IsNext g make (Some bytes) (Err e) a → IsNext g make (Some bytes) (Err e) None
any_left g make bytes ReadFault a x = x
any_left g make bytes BadHead a x = x
any_left g make bytes LengthRequired a x = x
any_left g make bytes (BodyTooLong n) a x = x
any_left g make bytes CutBody a x = x
any_left g make bytes NoMemory a x = x

abbrev Unlisted : List ℕ → Type 0
Unlisted bytes = (qs : List Request) (end : Ending) → ¬ (AreRequests bytes qs end)

from_next : (bytes : List ℕ) → ((left : List ℕ) → length left < length bytes → ¬ (Unlisted left)) → Unlisted bytes → (r : Result (Option Request) WireError) (a : Option (List ℕ)) → IsDecided r → IsNext request_grammar request_of (Some bytes) r a → ⊥
from_next bytes before none (Ok None) a d x = none [] clean x.0
from_next bytes before none (Ok (Some q)) None d x = absurd x
from_next bytes before none (Ok (Some q)) (Some left) d x =
    elim (cases_Bool q.close) as (λ _. ⊥) [
      | inl close ↦ none (q ∷ []) closed (left, x, inl (close, refl, refl))
      | inr open_still ↦ before left (shorter request_grammar requests_lined request_of bytes left q x) (λ qs end more. none (q ∷ qs) end (left, x, inr (open_still, more)))
    ]
from_next bytes before none (Err e) a d x = none [] (broken e) (d, any_left request_grammar request_of bytes e a x)

listed_within : (n : ℕ) (bytes : List ℕ) → length bytes ≤ n → ¬ (Unlisted bytes)
listed_within zero bytes le none = something_next request_grammar requests_lined request_of bytes (from_next bytes (λ left lt. absurd (omega (arith, lt, le))) none)
listed_within (suc n) bytes le none = something_next request_grammar requests_lined request_of bytes (from_next bytes (λ left lt. listed_within n left (omega (arith, lt, le))) none)

pub requests_there : AreRequestsThere
requests_there bytes none = listed_within (length bytes) bytes (omega arith) none
