-- Sorted mentions, digest by digest.
use Rattle.std.proofs.Common.{◌≡◌, ◌<◌, ◌+◌, ℕ, zero, suc, List, [], ◌∷◌, ◌++◌, length, map, take, drop, Bool, true, false, cond, refl, sym, ap, ◌∙◌, subst, arith, Option, None, Some, inl, inr, get_or, if◌then◌else◌, Ordering, Less, Equal, Greater, append_assoc}
use Rattle.std.specs.Prelude.{filter_map, option_to_list, bytes_eq, slice_get}
use Rattle.std.specs.List.{prefix_len, cons_option, AllByRecursion}
use Rattle.std.specs.List.Sorted.{IsSortedBy, IsSortedByKey}
use Rattle.std.specs.Ordering.{nat_cmp, is_lt, is_eq, ordering_reverse, match_ordering}
use Rattle.std.specs.Cmp.Lexicographic.{slice_cmp, bytes_decides}
use Rattle.std.proofs.lemmas.Cmp.{nat_list_cmp_total, tied_itself}
use Rattle.std.proofs.lemmas.List.{append-nil, take_all, length-drop, length-map}
use Rattle.keep_order.proofs.ByWeight.{length-numbers}
use Rattle.std.proofs.lemmas.List.Elements.{filter-append, filter_map-append}
use Rattle.std.proofs.lemmas.List.Sorted.{sorted_far, ranks_by}
use Rattle.std.proofs.lemmas.Map.Text.{is_eq-slice_cmp}
use Rattle.keep_spec.specs.Config.{Configuration}
use Rattle.keep_spec.specs.Members.{IsIn, numbers_from}
use Rattle.keep_event.specs.Requests.{ascending, inserted}
use Rattle.keep_event.specs.declared.lists.Lists.{Lists}
use Rattle.keep_event.specs.Plan.{Holding, trash_item, pull_item, is_lost}
use Rattle.keep_plan.specs.declared.mentions.Mention.{Mention}
use Rattle.keep_plan.specs.Drafted.{with_digest, each_from}
use Rattle.keep_plan.specs.Mentions.{of_digest, holding_by}
use Rattle.keep_plan.specs.Planned.{digests_in, holding_in, lists_by, lost_by}
use Rattle.keep_plan.proofs.Numbers.{each-number, map-numbers}

abbrev Text : Type 0
Text = List ℕ

abbrev order : Text → Text → Ordering
order x y = slice_cmp nat_cmp x y

-- ---- the order of digests
texts-equal : (x y : Text) → order x y ≡ Equal → x ≡ y
texts-equal x y e = (bytes_decides x y).0 (sym (is_eq-slice_cmp x y) ∙ ap is_eq e)

flipped : (x y : Text) (o : Ordering) → order x y ≡ o → order y x ≡ ordering_reverse o
flipped x y o e = nat_list_cmp_total.antisymm y x ∙ ap ordering_reverse e

order-same : (x : Text) → order x x ≡ Equal
order-same x = tied_itself nat_list_cmp_total x

above-by : (h x : Text) (o : Ordering) → order x h ≡ o → is_lt o ≡ false → (x ≡ h → ⊥) → order h x ≡ Less
above-by h x Less e not_below other = cc not_below
above-by h x Equal e not_below other = absurd (other (texts-equal x h e))
above-by h x Greater e not_below other = flipped x h Greater e

strictly-above : (h x : Text) → is_lt (order x h) ≡ false → (x ≡ h → ⊥) → order h x ≡ Less
strictly-above h x = above-by h x (order x h) refl

tie-by : (x y : Text) (o : Ordering) → order x y ≡ o → is_lt o ≡ false → is_lt (ordering_reverse o) ≡ false → x ≡ y
tie-by x y Less e a b = cc a
tie-by x y Equal e a b = texts-equal x y e
tie-by x y Greater e a b = cc b

tie : (x y : Text) → is_lt (order x y) ≡ false → is_lt (order y x) ≡ false → x ≡ y
tie x y a b = tie-by x y (order x y) refl a (ap is_lt (sym (flipped x y (order x y) refl)) ∙ b)

same-text : (x : Text) → bytes_eq x x ≡ true
same-text x = (bytes_decides x x).1 refl

-- ---- mentions in order
abbrev AtLeast : Text → List Mention → Type 0
AtLeast h ms = AllByRecursion (λ m. is_lt (order m.digest h) ≡ false) ms

abbrev pub Ascends : List Mention → Type 0
Ascends [] = Unit {0}
Ascends (m ∷ ms) = AtLeast m.digest ms × Ascends ms

by-place : (P : Mention → Type 0) (ms : List Mention) (d : Mention) → ((k : ℕ) → k < length ms → P (get_or ms k d)) → AllByRecursion P ms
by-place P [] d f = tt
by-place P (m ∷ ms) d f = (f 0 (omega arith), by-place P ms d (λ k lt. f (suc k) (omega arith)))

abbrev before : Mention → Mention → Bool
before x y = is_lt (order x.digest y.digest)

tail-sorted : (m : Mention) (ms : List Mention) → IsSortedBy before (m ∷ ms) → IsSortedBy before ms
tail-sorted m ms up k d low high =
    let z : suc k + 1 ≡ suc (k + 1) = omega arith in
    subst (λ j. before (get_or (m ∷ ms) j d) (get_or ms k d) ≡ false) z (up (suc k) d (omega arith) (omega arith))

pub from-sorted : (ms : List Mention) → IsSortedByKey (λ (m : Mention). m.digest) (slice_cmp nat_cmp) ms → Ascends ms
from-sorted [] up = tt
from-sorted (m ∷ ms) up = (
  by-place (λ x. is_lt (order x.digest m.digest) ≡ false) ms m (λ k lt. sorted_far before (ranks_by nat_list_cmp_total (λ (x : Mention). x.digest)) (m ∷ ms) up 0 (suc k) m (omega arith) (omega arith)),
  from-sorted ms (tail-sorted m ms up),
)

tail-ascends : (n : ℕ) (ms : List Mention) → Ascends ms → Ascends (drop n ms)
tail-ascends zero ms h = h
tail-ascends (suc n) [] h = tt
tail-ascends (suc n) (m ∷ ms) h = tail-ascends n ms h.1

-- ---- the mentions of the first digest
abbrev is_of : Text → Mention → Bool
is_of h m = bytes_eq h m.digest

abbrev pub run : Text → List Mention → ℕ
run h ms = prefix_len (is_of h) ms

of-first : (h : Text) (m : Mention) → is_of h m ≡ true → h ≡ m.digest
of-first h m e = (bytes_decides h m.digest).0 e

other-than : (h x : Text) (b : Bool) → bytes_eq h x ≡ b → b ≡ false → x ≡ h → ⊥
other-than h x b e f same = let t : b ≡ true = sym e ∙ ap (bytes_eq h) same ∙ same-text h in let z = sym t ∙ f in cc z

not-of : (h x : Text) (b : Bool) → bytes_eq h x ≡ b → (h ≡ x → ⊥) → b ≡ false
not-of h x true e ne = absurd (ne ((bytes_decides h x).0 e))
not-of h x false e ne = refl

none-of : (h : Text) (ms : List Mention) → AllByRecursion (λ x. is_of h x ≡ false) ms → of_digest h ms ≡ []
none-of h [] a = refl
none-of h (m ∷ ms) a = ap (λ b. cond b (m ∷ of_digest h ms) (of_digest h ms)) a.0 ∙ none-of h ms a.1

-- where the first isn't of the digest, and all are at least it, none is
later-others : (h y : Text) (ms : List Mention) → is_lt (order y h) ≡ false → (y ≡ h → ⊥) → AtLeast y ms → AllByRecursion (λ x. is_of h x ≡ false) ms
later-others h y [] low other a = tt
later-others h y (m ∷ ms) low other a =
    (not-of h m.digest (bytes_eq h m.digest) refl (λ same. other (tie y h low (subst (λ v. is_lt (order v y) ≡ false) (sym same) a.0))), later-others h y ms low other a.1)

front : (h : Text) (ms : List Mention) → AtLeast h ms → Ascends ms → take (run h ms) ms ≡ of_digest h ms
front h [] low up = refl
front h (m ∷ ms) low up = by (is_of h m) refl (front h ms low.1 up.1)
  where
    by : (b : Bool) → is_of h m ≡ b → take (run h ms) ms ≡ of_digest h ms → take (cond b (1 + run h ms) 0) (m ∷ ms) ≡ cond b (m ∷ of_digest h ms) (of_digest h ms)
    by true e rest = let z : 1 + run h ms ≡ suc (run h ms) = omega arith in ap (λ n. take n (m ∷ ms)) z ∙ ap (λ l. m ∷ l) rest
    by false e rest = sym (none-of h ms (later-others h m.digest ms low.0 (other-than h m.digest false e refl) up.0))

above-all : (h y : Text) (ms : List Mention) → is_lt (order y h) ≡ false → (y ≡ h → ⊥) → AtLeast h ms → AtLeast y ms → AllByRecursion (λ (x : Text). order h x ≡ Less) (map (λ m. m.digest) ms)
above-all h y [] low other a b = tt
above-all h y (m ∷ ms) low other a b =
    (strictly-above h m.digest a.0 (λ same. other (tie y h low (subst (λ v. is_lt (order v y) ≡ false) same b.0))), above-all h y ms low other a.1 b.1)

-- what comes behind the run is above it
behind : (h : Text) (ms : List Mention) → AtLeast h ms → Ascends ms → AllByRecursion (λ (x : Text). order h x ≡ Less) (map (λ m. m.digest) (drop (run h ms) ms))
behind h [] low up = tt
behind h (m ∷ ms) low up = by (is_of h m) refl (behind h ms low.1 up.1)
  where
    by : (b : Bool) → is_of h m ≡ b → AllByRecursion (λ (x : Text). order h x ≡ Less) (map (λ x. x.digest) (drop (run h ms) ms)) → AllByRecursion (λ (x : Text). order h x ≡ Less) (map (λ x. x.digest) (drop (cond b (1 + run h ms) 0) (m ∷ ms)))
    by true e rest = let z : suc (run h ms) ≡ 1 + run h ms = omega arith in subst (λ n. AllByRecursion (λ (x : Text). order h x ≡ Less) (map (λ x. x.digest) (drop n (m ∷ ms)))) z rest
    by false e rest =
        let other = other-than h m.digest false e refl in
        (strictly-above h m.digest low.0 other, above-all h m.digest ms low.0 other low.1 up.0)

all-inserted-by : (P : Text → Type 0) (x y : Text) (ys : List Text) (o : Ordering) → P x → P y × AllByRecursion P ys → AllByRecursion P (inserted x ys) → AllByRecursion P (match_ordering o (x ∷ y ∷ ys) (y ∷ ys) (y ∷ inserted x ys))
all-inserted-by P x y ys Less p h rest = (p, h)
all-inserted-by P x y ys Equal p h rest = h
all-inserted-by P x y ys Greater p h rest = (h.0, rest)

all-inserted : (P : Text → Type 0) (x : Text) (ys : List Text) → P x → AllByRecursion P ys → AllByRecursion P (inserted x ys)
all-inserted P x [] p h = (p, tt)
all-inserted P x (y ∷ ys) p h = all-inserted-by P x y ys (order x y) p h (all-inserted P x ys p h.1)

all-ascending : (P : Text → Type 0) (xs : List Text) → AllByRecursion P xs → AllByRecursion P (ascending xs)
all-ascending P [] h = tt
all-ascending P (x ∷ xs) h = all-inserted P x (ascending xs) h.0 (all-ascending P xs h.1)

first-inserted : (h : Text) (ys : List Text) → AllByRecursion (λ y. order h y ≡ Less) ys → inserted h ys ≡ h ∷ ys
first-inserted h [] a = refl
first-inserted h (y ∷ ys) a = ap (λ o. match_ordering o (h ∷ y ∷ ys) (y ∷ ys) (y ∷ inserted h ys)) a.0

again-inserted : (h : Text) (ys : List Text) → inserted h (h ∷ ys) ≡ h ∷ ys
again-inserted h ys = ap (λ o. match_ordering o (h ∷ h ∷ ys) (h ∷ ys) (h ∷ inserted h ys)) (order-same h)

digests-behind : (h : Text) (ms : List Mention) → AtLeast h ms → Ascends ms → inserted h (digests_in ms) ≡ h ∷ digests_in (drop (run h ms) ms)
digests-behind h [] low up = refl
digests-behind h (m ∷ ms) low up = by (is_of h m) refl (behind h (m ∷ ms) low up) (digests-behind h ms low.1 up.1)
  where
    by : (b : Bool) → is_of h m ≡ b → AllByRecursion (λ (x : Text). order h x ≡ Less) (map (λ x. x.digest) (drop (cond b (1 + run h ms) 0) (m ∷ ms))) → inserted h (digests_in ms) ≡ h ∷ digests_in (drop (run h ms) ms) →
        inserted h (inserted m.digest (digests_in ms)) ≡ h ∷ digests_in (drop (cond b (1 + run h ms) 0) (m ∷ ms))
    by true e above rest =
        let z : suc (run h ms) ≡ 1 + run h ms = omega arith in
        ap (λ v. inserted h (inserted v (digests_in ms))) (sym (of-first h m e)) ∙ ap (inserted h) rest ∙ again-inserted h (digests_in (drop (run h ms) ms)) ∙ ap (λ n. h ∷ digests_in (drop n (m ∷ ms))) z
    by false e above rest = first-inserted h (digests_in (m ∷ ms)) (all-ascending (λ y. order h y ≡ Less) (map (λ x. x.digest) (m ∷ ms)) above)

others-stay : (h k : Text) (ms : List Mention) → (k ≡ h → ⊥) → of_digest k (drop (run h ms) ms) ≡ of_digest k ms
others-stay h k [] other = refl
others-stay h k (m ∷ ms) other = by (is_of h m) refl (others-stay h k ms other)
  where
    by : (b : Bool) → is_of h m ≡ b → of_digest k (drop (run h ms) ms) ≡ of_digest k ms → of_digest k (drop (cond b (1 + run h ms) 0) (m ∷ ms)) ≡ of_digest k (m ∷ ms)
    by true e rest =
        let z : 1 + run h ms ≡ suc (run h ms) = omega arith in
        ap (λ n. of_digest k (drop n (m ∷ ms))) z ∙ rest ∙ sym (ap (λ b. cond b (m ∷ of_digest k ms) (of_digest k ms)) (not-of k m.digest (is_of k m) refl (λ same. other (same ∙ sym (of-first h m e)))))
    by false e rest = refl

all-in : (P : Text → Type 0) (x : Text) (xs : List Text) → AllByRecursion P xs → IsIn x xs → P x
all-in P x [] h i = absurd i
all-in P x (y ∷ ys) h (inl e) = subst P (sym e) h.0
all-in P x (y ∷ ys) h (inr i) = all-in P x ys h.1 i

below-itself : (h : Text) → order h h ≡ Less → ⊥
below-itself h e = let z = sym e ∙ order-same h in cc z

-- ---- what a digest adds
add-items : {X : Type 0} (o : Option X) (xs : List X) → xs ++ option_to_list o ≡ xs ++ cons_option o []
add-items None xs = refl
add-items (Some x) xs = refl

add-lost : (b : Bool) (h : Text) → (if b then h ∷ [] else []) ≡ cond b (h ∷ []) []
add-lost true h = refl
add-lost false h = refl

more-lists : (holding : Text → Holding) (threshold : ℕ) (done : List Text) (h : Text) (d : ℕ) → with_digest threshold (holding h) d (lists_by holding threshold done d) ≡ lists_by holding threshold (done ++ h ∷ []) d
more-lists holding threshold done h d =
    let t = λ (g : Text). trash_item (holding g) threshold d in
    let p = λ (g : Text). pull_item (holding g) d in
    ap (λ l. record { trash = l; pull = filter_map p done ++ option_to_list (p h) }) (add-items (t h) (filter_map t done) ∙ sym (filter_map-append t done (h ∷ [])))
    ∙ ap (λ l. record { trash = filter_map t (done ++ h ∷ []); pull = l }) (add-items (p h) (filter_map p done) ∙ sym (filter_map-append p done (h ∷ [])))

-- ---- the mentions planned so far, and the rest
pub record SoFar (c : Configuration) (threshold : ℕ) (ms rest : List Mention) (lists : List Lists) (lost : List (List ℕ)) : Type 0 where
  pub done : List (List ℕ)
  pub split : done ++ digests_in rest ≡ digests_in ms
  pub same : (h : List ℕ) → IsIn h (map (λ m. m.digest) rest) → of_digest h rest ≡ of_digest h ms
  pub ascends : Ascends rest
  pub lists_are : lists ≡ map (lists_by (holding_in c ms) threshold done) (numbers_from 0 (length c.devices))
  pub lost_are : lost ≡ lost_by (holding_in c ms) done

in-dropped : (n : ℕ) (x : Text) (ms : List Mention) → IsIn x (map (λ m. m.digest) (drop n ms)) → IsIn x (map (λ m. m.digest) ms)
in-dropped zero x ms i = i
in-dropped (suc n) x [] i = absurd i
in-dropped (suc n) x (m ∷ ms) i = inr (in-dropped n x ms i)

not-below-itself : (h : Text) → is_lt (order h h) ≡ false
not-below-itself h = ap is_lt (order-same h)

module _ (c : Configuration) (threshold : ℕ) (ms : List Mention) (m : Mention) (rest : List Mention) (lists : List Lists) (lost : List (List ℕ)) (s : SoFar c threshold ms (m ∷ rest) lists lost) where
  abbrev h : Text
  h = m.digest

  all-low : AtLeast h (m ∷ rest)
  all-low = (not-below-itself h, s.ascends.0)

  group : take (run h (m ∷ rest)) (m ∷ rest) ≡ of_digest h ms
  group = front h (m ∷ rest) all-low s.ascends ∙ s.same h (inl refl)

  held : holding_by c h (take (run h (m ∷ rest)) (m ∷ rest)) ≡ holding_in c ms h
  held = ap (holding_by c h) group

  digests : digests_in (m ∷ rest) ≡ h ∷ digests_in (drop (run h (m ∷ rest)) (m ∷ rest))
  digests = sym (again (digests_in rest) ∙ refl) ∙ digests-behind h (m ∷ rest) all-low s.ascends
    where
      again-by : (h y : Text) (ys : List Text) (o : Ordering) → order h y ≡ o → inserted h (inserted h ys) ≡ inserted h ys → inserted h (match_ordering o (h ∷ y ∷ ys) (y ∷ ys) (y ∷ inserted h ys)) ≡ match_ordering o (h ∷ y ∷ ys) (y ∷ ys) (y ∷ inserted h ys)
      again-by h y ys Less e r = again-inserted h (y ∷ ys)
      again-by h y ys Equal e r = ap (λ o. match_ordering o (h ∷ y ∷ ys) (y ∷ ys) (y ∷ inserted h ys)) e
      again-by h y ys Greater e r = ap (λ o. match_ordering o (h ∷ y ∷ inserted h ys) (y ∷ inserted h ys) (y ∷ inserted h (inserted h ys))) e ∙ ap (λ l. y ∷ l) r

      again : (ys : List Text) → inserted h (inserted h ys) ≡ inserted h ys
      again [] = again-inserted h []
      again (y ∷ ys) = again-by h y ys (order h y) refl (again ys)

  pub one-more-digest : (lists' : List Lists) (lost' : List (List ℕ)) →
      lists' ≡ each_from 0 (with_digest threshold (holding_by c h (take (run h (m ∷ rest)) (m ∷ rest)))) lists →
      lost' ≡ lost ++ (if is_lost (holding_by c h (take (run h (m ∷ rest)) (m ∷ rest))) then h ∷ [] else []) →
      SoFar c threshold ms (drop (run h (m ∷ rest)) (m ∷ rest)) lists' lost'
  one-more-digest lists' lost' l k =
      let n = length c.devices in
      let by = holding_in c ms in
      record {
        done = s.done ++ h ∷ [];
        split = append_assoc s.done (h ∷ []) (digests_in (drop (run h (m ∷ rest)) (m ∷ rest))) ∙ ap (λ v. s.done ++ v) (sym digests) ∙ s.split;
        same = λ x i.
            others-stay h x (m ∷ rest) (λ e. below-itself h (subst (λ v. order h v ≡ Less) e (all-in (λ y. order h y ≡ Less) x (map (λ y. y.digest) (drop (run h (m ∷ rest)) (m ∷ rest))) (behind h (m ∷ rest) all-low s.ascends) i)))
            ∙ s.same x (in-dropped (run h (m ∷ rest)) x (m ∷ rest) i);
        ascends = tail-ascends (run h (m ∷ rest)) (m ∷ rest) s.ascends;
        lists_are =
            l ∙ ap (λ (v : Holding). each_from 0 (with_digest threshold v) lists) held
            ∙ ap (each_from 0 (with_digest threshold (by h))) s.lists_are
            ∙ each-number (with_digest threshold (by h)) (lists_by by threshold s.done) 0 n
            ∙ map-numbers (λ d. with_digest threshold (by h) d (lists_by by threshold s.done d)) (lists_by by threshold (s.done ++ h ∷ [])) 0 n (λ d low high. more-lists by threshold s.done h d);
        lost_are =
            k ∙ ap (λ (v : Holding). lost ++ (if is_lost v then h ∷ [] else [])) held
            ∙ ap (λ v. v ++ (if is_lost (by h) then h ∷ [] else [])) s.lost_are
            ∙ ap (λ v. lost_by by s.done ++ v) (add-lost (is_lost (by h)) h)
            ∙ sym (filter-append (λ g. is_lost (by g)) s.done (h ∷ []));
      }

-- ---- a step of the loop
abbrev pub no_lists : List Lists → Configuration → Type 0
no_lists lists c = lists ≡ map (λ d. record { trash = []; pull = [] }) (numbers_from 0 (length c.devices))

pub at-first : (c : Configuration) (threshold : ℕ) (ms : List Mention) (lists : List Lists) (lost : List (List ℕ)) → IsSortedByKey (λ (m : Mention). m.digest) (slice_cmp nat_cmp) ms → no_lists lists c → lost ≡ [] → SoFar c threshold ms ms lists lost
at-first c threshold ms lists lost up empty none = record { done = []; split = refl; same = λ h i. refl; ascends = from-sorted ms up; lists_are = empty; lost_are = none }

pub one-more-run : (c : Configuration) (threshold : ℕ) (ms all : List Mention) (lists : List Lists) (lost : List (List ℕ)) (m : Mention) (n : ℕ) (front later : List Mention) (lists' : List Lists) (lost' : List (List ℕ)) →
    SoFar c threshold ms all lists lost → slice_get all 0 ≡ Some m → n ≡ run m.digest all → front ≡ take n all → later ≡ drop n all →
    lists' ≡ each_from 0 (with_digest threshold (holding_by c m.digest front)) lists →
    lost' ≡ lost ++ (if is_lost (holding_by c m.digest front) then m.digest ∷ [] else []) →
    SoFar c threshold ms later lists' lost'
one-more-run c threshold ms [] lists lost m n front later lists' lost' s first count is_front is_later l k = cc first
one-more-run c threshold ms (x ∷ rest) lists lost m n front later lists' lost' s first count is_front is_later l k =
    let same : x ≡ m = cc first in
    let counted : n ≡ run x.digest (x ∷ rest) = count ∙ ap (λ (y : Mention). run y.digest (x ∷ rest)) (sym same) in
    let fronts : front ≡ take (run x.digest (x ∷ rest)) (x ∷ rest) = is_front ∙ ap (λ v. take v (x ∷ rest)) counted in
    let laters : later ≡ drop (run x.digest (x ∷ rest)) (x ∷ rest) = is_later ∙ ap (λ v. drop v (x ∷ rest)) counted in
    let holds : holding_by c m.digest front ≡ holding_by c x.digest (take (run x.digest (x ∷ rest)) (x ∷ rest)) = ap (λ (y : Mention). holding_by c y.digest front) (sym same) ∙ ap (holding_by c x.digest) fronts in
    subst (λ (v : List Mention). SoFar c threshold ms v lists' lost') (sym laters)
    (one-more-digest c threshold ms x rest lists lost s lists' lost'
    (l ∙ ap (λ (v : Holding). each_from 0 (with_digest threshold v) lists) holds)
    (k ∙ ap (λ (v : Holding). lost ++ (if is_lost v then m.digest ∷ [] else [])) holds
    ∙ ap (λ (y : Mention). lost ++ (if is_lost (holding_by c x.digest (take (run x.digest (x ∷ rest)) (x ∷ rest))) then y.digest ∷ [] else [])) (sym same)))

run-some : (m : Mention) (rest : List Mention) → run m.digest (m ∷ rest) ≡ 1 + run m.digest rest
run-some m rest = ap (λ b. cond b (1 + run m.digest rest) 0) (same-text m.digest)

pub shorter : (all : List Mention) (m : Mention) (n : ℕ) (later : List Mention) → slice_get all 0 ≡ Some m → n ≡ run m.digest all → later ≡ drop n all → length later < length all
shorter [] m n later first count is = cc first
shorter (x ∷ rest) m n later first count is =
    let same : x ≡ m = cc first in
    let counted : n ≡ 1 + run x.digest rest = count ∙ ap (λ (y : Mention). run y.digest (x ∷ rest)) (sym same) ∙ run-some x rest in
    let z : 1 + run x.digest rest ≡ suc (run x.digest rest) = omega arith in
    let long : length later ≡ length (drop (run x.digest rest) rest) = ap length (is ∙ ap (λ v. drop v (x ∷ rest)) (counted ∙ z)) in
    let dropped = length-drop (run x.digest rest) rest in
    omega arith

pub lists-long : (c : Configuration) (threshold : ℕ) (ms all : List Mention) (lists : List Lists) (lost : List (List ℕ)) → SoFar c threshold ms all lists lost → length lists ≡ length c.devices
lists-long c threshold ms all lists lost s = ap length s.lists_are ∙ length-map (numbers_from 0 (length c.devices)) (lists_by (holding_in c ms) threshold s.done) ∙ length-numbers 0 (length c.devices)

-- at the end all is planned
pub at-end : (c : Configuration) (threshold : ℕ) (ms all : List Mention) (lists : List Lists) (lost : List (List ℕ)) → SoFar c threshold ms all lists lost → slice_get all 0 ≡ None →
    (lists ≡ map (lists_by (holding_in c ms) threshold (digests_in ms)) (numbers_from 0 (length c.devices))) × (lost ≡ lost_by (holding_in c ms) (digests_in ms))
at-end c threshold ms [] lists lost s none =
    let all : s.done ≡ digests_in ms = sym (append-nil s.done) ∙ s.split in
    (s.lists_are ∙ ap (λ (v : List Text). map (lists_by (holding_in c ms) threshold v) (numbers_from 0 (length c.devices))) all, s.lost_are ∙ ap (lost_by (holding_in c ms)) all)
at-end c threshold ms (x ∷ rest) lists lost s none = cc none

-- what a slice of a vector leaves in it
pub written-back : {X : Type 0} (n : ℕ) (xs ys : List X) → length ys ≡ length xs → n ≡ length xs → take n (ys ++ drop (length ys) xs) ≡ ys
written-back n xs ys same long =
    ap (λ k. take n (ys ++ drop k xs)) same
    ∙ ap (λ l. take n (ys ++ l)) (drop-all xs)
    ∙ ap (take n) (append-nil ys)
    ∙ take_all n ys (omega arith)
  where
    drop-all : {X : Type 0} (zs : List X) → drop (length zs) zs ≡ []
    drop-all [] = refl
    drop-all (z ∷ zs) = drop-all zs
