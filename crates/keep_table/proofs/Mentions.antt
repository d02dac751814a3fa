-- What is counted of digests: one count more or less, a list of digests, and the greatest number of copies.
use Rattle.std.proofs.Common.{◌≡◌, ◌<◌, ◌≤◌, ◌+◌, ◌++◌, ℕ, List, [], ◌∷◌, Bool, true, false, cond, not, map, filter, max, nat_eq, nat_cmp, length, take, get_or, Option, Some, None, refl, ap, sym, subst, ◌∙◌, arith, ⊎_elim, zero, suc}
use Rattle.std.specs.Prelude.{unwrap_or, IsSome}
use Rattle.std.specs.List.{find}
use Rattle.std.specs.Str.{bytes_eq}
use Rattle.std.specs.Map.{lookup}
use Rattle.std.specs.BTreeMap.{is_at}
use Rattle.std.specs.BTreeMap.Range.{IsInRange}
use Rattle.std.specs.declared.ops.Bound.TheVariants.{Included}
use Rattle.std.specs.Cmp.Lexicographic.{slice_cmp}
use Rattle.std.specs.Ordering.{is_eq, is_lt, is_gt, ordering_then, ordering_reverse}
use Rattle.std.specs.declared.cmp.Ordering.{Ordering}
use Rattle.std.specs.declared.cmp.Ordering.TheVariants.{Less, Equal, Greater}
use Rattle.std.proofs.lemmas.Bool.{and_parts, and_from, eqb-true, eq-eqb, both_ways, or_cases, or_left, or_right}
use Rattle.std.proofs.lemmas.Bool.Decides.{nat_tests}
use Rattle.std.proofs.lemmas.Cmp.{nat_list_eq_equiv, nat_list_cmp_total, tied_itself}
use Rattle.std.proofs.lemmas.List.Sums.{sum_by_more_le}
use Rattle.std.proofs.lemmas.Slice.Eq.{bytes_eq-Decides}
use Rattle.std.proofs.lemmas.Map.Text.{is_eq-slice_cmp}
use Rattle.keep_spec.specs.Members.{names}
use Rattle.keep_event.specs.Plan.{wanted_in}
use Rattle.keep_event.specs.Table.{row_of}
use Rattle.keep_event.specs.declared.table.Standing.{Standing}
use Rattle.keep_event.specs.declared.table.Record.{Record}
use Rattle.keep_table.specs.Contents.{RisesAbove}
use Rattle.keep_table.specs.Maps.{marked, standing_as, revisions_of}
use Rattle.keep_table.specs.Wants.{want_cmp, counted, is_mention, mentions, mentioned, AreCounts}
use Rattle.keep_table.proofs.Counts.{count-cons, bit}
use Rattle.keep_table.proofs.Keyed.{at-eq, without-none}
use Rattle.keep_table.proofs.Triples.{eq-then}

abbrev Entries : Type 0
Entries = List ((List ℕ × ℕ) × ℕ)

-- ---- keys

swap-eq : (a b : ℕ) → nat_eq a b ≡ nat_eq b a
swap-eq a b = grind (arith, nat_tests)

pub at-want : (h : List ℕ) (n : ℕ) (d : List ℕ) (w : ℕ) → is_at (want_cmp (d, w)) (h, n) ≡ is_mention h n w d
at-want h n d w = rw (eq-then (slice_cmp nat_cmp d h) (nat_cmp w n), is_eq-slice_cmp d h, at-eq w n, swap-eq n w, nat_list_eq_equiv.symm d h) refl

pub same-key : (h : List ℕ) (n : ℕ) (d : List ℕ) (w : ℕ) → is_mention h n w d ≡ true → (h ≡ d) × (w ≡ n)
same-key h n d w e = let parts = and_parts (bytes_eq h d) (nat_eq w n) e in ((bytes_eq-Decides h d).0 parts.0, eqb-true w n parts.1)

pub own-key : (h : List ℕ) (n : ℕ) → is_mention h n n h ≡ true
own-key h n = and_from (bytes_eq h h) (nat_eq n n) ((bytes_eq-Decides h h).1 refl) (eq-eqb n n refl)

-- ---- one count

changed-cond : (h : List ℕ) (n : ℕ) (d : List ℕ) (w : ℕ) (old new : Entries) (count : Option ℕ) (b : Bool) → is_mention h n w d ≡ b →
    lookup (is_at (want_cmp (h, n))) new ≡ cond b count (lookup (is_at (want_cmp (h, n))) old) → counted new h n ≡ cond b (unwrap_or count 0) (counted old h n)
changed-cond h n d w old new count true is e = ap (λ o. unwrap_or o 0) e
changed-cond h n d w old new count false is e = ap (λ o. unwrap_or o 0) e

-- the count of a key is another, and of any other key the same
pub changed : (h : List ℕ) (n : ℕ) (d : List ℕ) (w : ℕ) (old new : Entries) (count : Option ℕ) →
    ((q : List ℕ × ℕ) → lookup (is_at (want_cmp q)) new ≡ cond (is_at (want_cmp (d, w)) q) count (lookup (is_at (want_cmp q)) old)) →
    counted new h n ≡ cond (is_mention h n w d) (unwrap_or count 0) (counted old h n)
changed h n d w old new count e = changed-cond h n d w old new count (is_mention h n w d) refl (e (h, n) ∙ ap (λ b. cond b count (lookup (is_at (want_cmp (h, n))) old)) (at-want h n d w))

count-there : (h : List ℕ) (n : ℕ) (d : List ℕ) (w : ℕ) (es : Entries) → is_mention h n w d ≡ true → counted es h n ≡ counted es d w
count-there h n d w es e = let same = same-key h n d w e in ap (λ (k : List ℕ). counted es k n) same.0 ∙ ap (λ (k : ℕ). counted es d k) (sym same.1)

raised-cond : (h : List ℕ) (n : ℕ) (d : List ℕ) (w : ℕ) (old : Entries) (count new : ℕ) (b : Bool) → is_mention h n w d ≡ b → count ≡ counted old d w + 1 → new ≡ cond b count (counted old h n) → new ≡ counted old h n + cond b 1 0
raised-cond h n d w old count new true is more e = let there = count-there h n d w old is in omega arith
raised-cond h n d w old count new false is more e = omega arith

pub raised : (h : List ℕ) (n : ℕ) (d : List ℕ) (w : ℕ) (old new : Entries) (count : ℕ) → count ≡ counted old d w + 1 →
    ((q : List ℕ × ℕ) → lookup (is_at (want_cmp q)) new ≡ cond (is_at (want_cmp (d, w)) q) (Some count) (lookup (is_at (want_cmp q)) old)) →
    counted new h n ≡ counted old h n + cond (is_mention h n w d) 1 0
raised h n d w old new count more e = raised-cond h n d w old count (counted new h n) (is_mention h n w d) refl more (changed h n d w old new (Some count) e)

lowered-cond : (h : List ℕ) (n : ℕ) (d : List ℕ) (w : ℕ) (old : Entries) (count new : ℕ) (b : Bool) → is_mention h n w d ≡ b → count + 1 ≡ counted old d w → new ≡ cond b count (counted old h n) → new + cond b 1 0 ≡ counted old h n
lowered-cond h n d w old count new true is less e = let there = count-there h n d w old is in omega arith
lowered-cond h n d w old count new false is less e = omega arith

pub lowered : (h : List ℕ) (n : ℕ) (d : List ℕ) (w : ℕ) (old new : Entries) (count : Option ℕ) → unwrap_or count 0 + 1 ≡ counted old d w →
    ((q : List ℕ × ℕ) → lookup (is_at (want_cmp q)) new ≡ cond (is_at (want_cmp (d, w)) q) count (lookup (is_at (want_cmp q)) old)) →
    counted new h n + cond (is_mention h n w d) 1 0 ≡ counted old h n
lowered h n d w old new count less e = lowered-cond h n d w old (unwrap_or count 0) (counted new h n) (is_mention h n w d) refl less (changed h n d w old new count e)

-- ---- the counts stay positive, and their numbers of copies small

positive-cond : (h : List ℕ) (n : ℕ) (count old new : Option ℕ) (b : Bool) → (count ≡ Some 0 → ⊥) → (old ≡ Some 0 → ⊥) → new ≡ cond b count old → new ≡ Some 0 → ⊥
positive-cond h n count old new true c o e is = c (sym e ∙ is)
positive-cond h n count old new false c o e is = o (sym e ∙ is)

bounded-cond : (h : List ℕ) (n : ℕ) (d : List ℕ) (w : ℕ) (old : Entries) (count new : ℕ) (b : Bool) → is_mention h n w d ≡ b → w < 256 → (0 < counted old h n → n < 256) → new ≡ cond b count (counted old h n) → 0 < new → n < 256
bounded-cond h n d w old count new true is small o e more = let same = (same-key h n d w is).1 in omega arith
bounded-cond h n d w old count new false is small o e more = o (omega arith)

pub still-counts : (d : List ℕ) (w : ℕ) (old new : Entries) (count : Option ℕ) → w < 256 → (count ≡ Some 0 → ⊥) →
    ((q : List ℕ × ℕ) → lookup (is_at (want_cmp q)) new ≡ cond (is_at (want_cmp (d, w)) q) count (lookup (is_at (want_cmp q)) old)) → AreCounts old → AreCounts new
still-counts d w old new count small positive e h = record {
  positive = λ k n. positive-cond k n count (lookup (is_at (want_cmp (k, n))) old) (lookup (is_at (want_cmp (k, n))) new) (is_at (want_cmp (d, w)) (k, n)) positive (h.positive k n) (e (k, n));
  bounded = λ k n. bounded-cond k n d w old (unwrap_or count 0) (counted new k n) (is_mention k n w d) refl small (h.bounded k n) (changed k n d w old new count e);
}

pub not-zero : (m : ℕ) (o : Option ℕ) → o ≡ Some m → (o ≡ Some 0 → ⊥) → 1 ≤ m
not-zero zero o e positive = absurd (positive e)
not-zero (suc m) o e positive = omega arith

pub some-more : (m : ℕ) → 0 < m → Some m ≡ Some 0 → ⊥
some-more m more e = let none : m ≡ 0 = cc in absurd (omega arith)

written-over : (t : Bool) (a b o new mid : Option ℕ) → new ≡ cond t a mid → mid ≡ cond t b o → new ≡ cond t a o
written-over true a b o new mid e was = e
written-over false a b o new mid e was = e ∙ was

pub is-some : (o : Option ℕ) (m : ℕ) → o ≡ Some m → IsSome o
is-some o m e = rw e refl

pub some-counted : (o : Option ℕ) → 0 < unwrap_or o 0 → IsSome o
some-counted None more = absurd (omega arith)
some-counted (Some m) more = refl

-- a count that is taken out after another was written
pub emptied : (d : List ℕ) (w : ℕ) (old mid new : Entries) (count : Option ℕ) →
    ((q : List ℕ × ℕ) → lookup (is_at (want_cmp q)) new ≡ cond (is_at (want_cmp (d, w)) q) None (lookup (is_at (want_cmp q)) mid)) →
    ((q : List ℕ × ℕ) → lookup (is_at (want_cmp q)) mid ≡ cond (is_at (want_cmp (d, w)) q) count (lookup (is_at (want_cmp q)) old)) →
    (q : List ℕ × ℕ) → lookup (is_at (want_cmp q)) new ≡ cond (is_at (want_cmp (d, w)) q) None (lookup (is_at (want_cmp q)) old)
emptied d w old mid new count e was q = written-over (is_at (want_cmp (d, w)) q) None count (lookup (is_at (want_cmp q)) old) (lookup (is_at (want_cmp q)) new) (lookup (is_at (want_cmp q)) mid) (e q) (was q)

-- ---- a list of digests

-- the next digest of a list that is counted is counted
pub next-counted : (d : List ℕ) (w i : ℕ) (ds : List (List ℕ)) (before now : ℕ) → i < length ds → d ≡ get_or ds i d → now + mentions d w w (take i ds) ≡ before → mentions d w w ds ≤ before → 0 < now
next-counted d w i ds before now lt is sum enough =
    let most : mentions d w w (take i ds) + bit (is_mention d w w (get_or ds i d)) ≤ mentions d w w ds = sum_by_more_le (λ x. cond (is_mention d w w x) 1 0) ds i d lt in
    let own : bit (is_mention d w w (get_or ds i d)) ≡ 1 = ap (λ (x : List ℕ). bit (is_mention d w w x)) (sym is) ∙ ap bit (own-key d w) in
    omega arith

-- ---- records

pub mentioned-push : (h : List ℕ) (n : ℕ) (rs : List Record) (r : Record) → mentioned h n (rs ++ r ∷ []) ≡ mentioned h n rs + mentions h n r.made.want r.made.named
mentioned-push h n [] r = omega arith
mentioned-push h n (q ∷ rs) r = let rest = mentioned-push h n rs r in omega arith

mentioned-standing : (h : List ℕ) (n : ℕ) (standing : Standing) (b : Bool) (r : Record) (rs : List Record) → mentioned h n (cond b (standing_as standing r) r ∷ rs) ≡ mentioned h n (r ∷ rs)
mentioned-standing h n standing true r rs = refl
mentioned-standing h n standing false r rs = refl

pub mentioned-marked : (h : List ℕ) (n k : ℕ) (standing : Standing) (rs : List Record) → mentioned h n (map (marked k standing) rs) ≡ mentioned h n rs
mentioned-marked h n k standing [] = refl
mentioned-marked h n k standing (r ∷ rs) =
    mentioned-standing h n standing (nat_eq r.revision k) r (map (marked k standing) rs) ∙ ap (λ m. mentions h n r.made.want r.made.named + m) (mentioned-marked h n k standing rs)

without-cond : (h : List ℕ) (n k : ℕ) (b : Bool) (r row : Record) (rs : List Record) → nat_eq r.revision k ≡ b → RisesAbove r.revision (revisions_of rs) →
    (find (λ r. nat_eq r.revision k) rs ≡ Some row → mentioned h n (filter (λ r. not (nat_eq r.revision k)) rs) + mentions h n row.made.want row.made.named ≡ mentioned h n rs) →
    cond b (Some r) (find (λ r. nat_eq r.revision k) rs) ≡ Some row →
    mentioned h n (cond (not b) (r ∷ filter (λ r. not (nat_eq r.revision k)) rs) (filter (λ r. not (nat_eq r.revision k)) rs)) + mentions h n row.made.want row.made.named ≡ mentioned h n (r ∷ rs)
without-cond h n k true r row rs is rises rest e =
    let same : row ≡ r = cc in
    let at : r.revision ≡ k = eqb-true r.revision k is in
    rw (same, ← at, without-none (λ r. r.revision) r.revision r.revision rs (omega arith) rises) (omega arith)
without-cond h n k false r row rs is rises rest e = let there = rest e in omega arith

-- a record that goes takes what it names with it
pub mentioned-without : (h : List ℕ) (n k low : ℕ) (rs : List Record) (row : Record) → RisesAbove low (revisions_of rs) → find (λ r. nat_eq r.revision k) rs ≡ Some row →
    mentioned h n (filter (λ r. not (nat_eq r.revision k)) rs) + mentions h n row.made.want row.made.named ≡ mentioned h n rs
mentioned-without h n k low [] row rises e = absurd (cc)
mentioned-without h n k low (r ∷ rs) row rises e = without-cond h n k (nat_eq r.revision k) r row rs refl rises.1 (λ e. mentioned-without h n k r.revision rs row rises.1 e) e

pub taken : (rest more before old new : ℕ) → rest + more ≡ before → old ≡ before → new + more ≡ old → new ≡ rest
taken rest more before old new less was e = omega arith

-- what was counted once more, or not at all
pub counted-more : (now before more : ℕ) (ok : Bool) (was : ℕ) → now ≡ before + cond ok more 0 → ok ≡ true → before ≡ was → now ≡ was + more
counted-more now before more true was e is h = omega arith
counted-more now before more false was e is h = absurd (cc)

pub counted-same : (now before more : ℕ) (ok : Bool) (was : ℕ) → now ≡ before + cond ok more 0 → ok ≡ false → before ≡ was → now ≡ was
counted-same now before more false was e is h = omega arith
counted-same now before more true was e is h = absurd (cc)

pub counted-back : (now mid before more : ℕ) (ok : Bool) (was : ℕ) → mid ≡ before + cond ok more 0 → ok ≡ true → now + more ≡ mid → before ≡ was → now ≡ was
counted-back now mid before more true was e is back h = omega arith
counted-back now mid before more false was e is back h = absurd (cc)

-- some digest of a list that names this one is counted
named-counted : (h : List ℕ) (n want : ℕ) (ds : List (List ℕ)) → names h ds ≡ true → want ≡ n → 0 < mentions h n want ds
named-counted h n want [] e same = absurd (cc)
named-counted h n want (d ∷ ds) e same =
    rw (count-cons (is_mention h n want) d ds) (⊎_elim
    (λ here. let one : is_mention h n want d ≡ true = and_from (bytes_eq h d) (nat_eq want n) here (eq-eqb want n same) in rw one (omega arith))
    (λ there. let rest = named-counted h n want ds there same in omega arith) (or_cases (bytes_eq h d) (names h ds) e))

counted-named : (h : List ℕ) (n want : ℕ) (ds : List (List ℕ)) → 0 < mentions h n want ds → (names h ds ≡ true) × (want ≡ n)
counted-named h n want [] more = absurd (omega arith)
counted-named h n want (d ∷ ds) more = first (is_mention h n want d) refl (rw (count-cons (is_mention h n want) d ds) at more) (λ more. counted-named h n want ds more)
  where
    first : (b : Bool) → is_mention h n want d ≡ b → 0 < bit b + mentions h n want ds → (0 < mentions h n want ds → (names h ds ≡ true) × (want ≡ n)) → (names h (d ∷ ds) ≡ true) × (want ≡ n)
    first true is more rest =
        let parts = and_parts (bytes_eq h d) (nat_eq want n) is in
        (or_left (bytes_eq h d) (names h ds) parts.0, eqb-true want n parts.1)
    first false is more rest =
        let there = rest (omega arith) in
        (or_right (bytes_eq h d) (names h ds) there.0, there.1)

-- what is counted is wanted
wanted-upto : (h : List ℕ) (k : ℕ) (rs : List Record) → ((n : ℕ) → 0 < mentioned h n rs → n ≤ k) → wanted_in h (map row_of rs) ≤ k
wanted-upto h k [] most = omega arith
wanted-upto h k (r ∷ rs) most =
    let rest = wanted-upto h k rs (λ n more. most n (omega arith)) in
    here (names h r.made.named) refl rest
  where
    here : (b : Bool) → names h r.made.named ≡ b → wanted_in h (map row_of rs) ≤ k → max (cond b r.made.want 0) (wanted_in h (map row_of rs)) ≤ k
    here true is rest =
        let one = named-counted h r.made.want r.made.want r.made.named is refl in
        let small = most r.made.want (omega arith) in
        omega arith
    here false is rest = omega arith

wanted-from : (h : List ℕ) (k : ℕ) (rs : List Record) → 0 < mentioned h k rs → k ≤ wanted_in h (map row_of rs)
wanted-from h k [] more = absurd (omega arith)
wanted-from h k (r ∷ rs) more = first (mentions h k r.made.want r.made.named) refl (λ more. wanted-from h k rs more)
  where
    first : (m : ℕ) → mentions h k r.made.want r.made.named ≡ m → (0 < mentioned h k rs → k ≤ wanted_in h (map row_of rs)) → k ≤ max (cond (names h r.made.named) r.made.want 0) (wanted_in h (map row_of rs))
    first zero e rest = let there = rest (omega arith) in omega arith
    first (suc m) e rest =
        let there = counted-named h k r.made.want r.made.named (omega arith) in
        rw there.0 (omega (arith, there.1))

pub wanted-is : (h : List ℕ) (k : ℕ) (rs : List Record) → (0 < k → 0 < mentioned h k rs) → ((n : ℕ) → 0 < mentioned h n rs → n ≤ k) → k ≡ wanted_in h (map row_of rs)
wanted-is h k rs here most = is k refl
  where
    is : (m : ℕ) → k ≡ m → k ≡ wanted_in h (map row_of rs)
    is zero e = let upto = wanted-upto h k rs most in omega arith
    is (suc m) e = let upto = wanted-upto h k rs most in let from = wanted-from h k rs (here (omega arith)) in omega arith

-- ---- the greatest number of copies of a digest, by what a range of the map has

tie : (x y : Ordering) → is_gt (ordering_then x y) ≡ false → is_gt x ≡ false
tie Less y e = refl
tie Equal y e = refl
tie Greater y e = e

-- a key from a digest's least to its greatest is of that digest
pub of-digest : (d k : List ℕ) (n : ℕ) → is_gt (want_cmp (d, 0) (k, n)) ≡ false → is_gt (want_cmp (k, n) (d, 255)) ≡ false → k ≡ d
of-digest d k n from upto =
    let a = tie (slice_cmp nat_cmp d k) (nat_cmp 0 n) from in
    let b = tie (slice_cmp nat_cmp k d) (nat_cmp n 255) upto in
    let e : slice_cmp nat_cmp k d ≡ Equal = both (slice_cmp nat_cmp d k) (slice_cmp nat_cmp k d) (nat_list_cmp_total.antisymm d k) a b in
    (bytes_eq-Decides k d).0 (sym (is_eq-slice_cmp k d) ∙ ap is_eq e)
  where
    both : (x y : Ordering) → x ≡ ordering_reverse y → is_gt x ≡ false → is_gt y ≡ false → y ≡ Equal
    both x Less e a b = absurd (both_ways (is_gt x) a (ap is_gt e))
    both x Equal e a b = refl
    both x Greater e a b = absurd (both_ways true b refl)

-- a digest with a number of copies lies between its least and its greatest
pub digest-from : (d : List ℕ) (n : ℕ) → is_gt (want_cmp (d, 0) (d, n)) ≡ false
digest-from d n = rw (tied_itself nat_list_cmp_total d) (nat-from n)
  where
    nat-from : (n : ℕ) → is_gt (nat_cmp 0 n) ≡ false
    nat-from n = grind (arith, nat_tests)

pub digest-upto : (d : List ℕ) (n m : ℕ) → n ≤ m → is_gt (want_cmp (d, n) (d, m)) ≡ false
digest-upto d n m le = rw (tied_itself nat_list_cmp_total d) (nat-upto n m le)
  where
    nat-upto : (n m : ℕ) → n ≤ m → is_gt (nat_cmp n m) ≡ false
    nat-upto n m le = grind (arith, nat_tests)

pub number-upto : (d : List ℕ) (n m : ℕ) → is_lt (want_cmp (d, n) (d, m)) ≡ false → m ≤ n
number-upto d n m e = nat-upto n m (rw (tied_itself nat_list_cmp_total d) at e)
  where
    nat-upto : (n m : ℕ) → is_lt (nat_cmp n m) ≡ false → m ≤ n
    nat-upto n m e = grind (arith, nat_tests)

abbrev IsOfDigest : List ℕ → List ℕ × ℕ → Type 0
IsOfDigest d k = IsInRange want_cmp (Included (d, 0)) (Included (d, 255)) k

pub last-counted : (d : List ℕ) (k : List ℕ × ℕ) (v : ℕ) (es : Entries) → AreCounts es → IsOfDigest d k → lookup (is_at (want_cmp k)) es ≡ Some v → 0 < counted es d k.1
last-counted d k v es h within there =
    let same = of-digest d k.0 k.1 within.0 within.1 in
    let count : counted es k.0 k.1 ≡ v = ap (λ o. unwrap_or o 0) there in
    let least = not-zero v (lookup (is_at (want_cmp k)) es) there (h.positive k.0 k.1) in
    subst (λ (x : List ℕ). 0 < counted es x k.1) same (omega arith)

digest-within : (d : List ℕ) (n : ℕ) (es : Entries) → AreCounts es → 0 < counted es d n → IsOfDigest d (d, n)
digest-within d n es h more = let small = h.bounded d n more in (digest-from d n, digest-upto d n 255 (omega arith))

pub last-greatest : (d : List ℕ) (n : ℕ) (k : List ℕ × ℕ) (es : Entries) → AreCounts es → 0 < counted es d n → IsOfDigest d k →
    ((q : List ℕ × ℕ) → IsOfDigest d q → IsSome (lookup (is_at (want_cmp q)) es) → is_lt (want_cmp k q) ≡ false) → n ≤ k.1
last-greatest d n k es h more within last =
    let same = of-digest d k.0 k.1 within.0 within.1 in
    let least = last (d, n) (digest-within d n es h more) (some-counted (lookup (is_at (want_cmp (d, n))) es) more) in
    number-upto d k.1 n (subst (λ (x : List ℕ). is_lt (want_cmp (x, k.1) (d, n)) ≡ false) same least)

pub none-greatest : (d : List ℕ) (n : ℕ) (es : Entries) → AreCounts es → 0 < counted es d n →
    ((q : List ℕ × ℕ) → IsOfDigest d q → lookup (is_at (want_cmp q)) es ≡ None) → ⊥
none-greatest d n es h more none =
    let count : counted es d n ≡ 0 = ap (λ o. unwrap_or o 0) (none (d, n) (digest-within d n es h more)) in
    omega arith
