-- The mentions of a digest say of it what was gathered.
use Rattle.std.proofs.Common.{◌≡◌, ℕ, List, [], ◌∷◌, ◌++◌, map, filter, reverse, Bool, true, false, not, ◌&&◌, cond, refl, sym, ap, ◌∙◌, subst, arith, Option, None, Some, inl, inr, nat_eq, if◌then◌else◌, Ordering, Less, Equal, Greater}
use Rattle.std.specs.Prelude.{◌⊎◌, ◌||◌, max, filter_map, bytes_eq}
use Rattle.std.specs.List.{flat_map, last_or, cons_option, AllByRecursion}
use Rattle.std.specs.List.Sorted.{IsStableByKey, ties}
use Rattle.std.specs.Option.{option_or}
use Rattle.std.specs.Ordering.{nat_cmp, is_lt, is_eq, ordering_reverse, match_ordering}
use Rattle.std.specs.Cmp.Lexicographic.{slice_cmp, bytes_decides}
use Rattle.std.proofs.Math.Path.{fun_ext}
use Rattle.std.proofs.lemmas.Cmp.{nat_list_cmp_total}
use Rattle.std.proofs.lemmas.List.{map-append, append-nil}
use Rattle.std.proofs.lemmas.List.Concat.{flat_map-append}
use Rattle.std.proofs.lemmas.List.Elements.{filter-append}
use Rattle.std.proofs.lemmas.Map.Text.{is_eq-slice_cmp}
use Rattle.keep_spec.specs.Config.{Configuration}
use Rattle.keep_spec.specs.Members.{IsIn, names}
use Rattle.keep_event.specs.Requests.{ascending, inserted}
use Rattle.keep_event.specs.declared.lists.Entry.{Entry}
use Rattle.keep_event.specs.declared.table.ScanRow.{ScanRow}
use Rattle.keep_event.specs.Plan.{Page, Scan, Gathered, entry_on, entry_of, wanted_in, gathered_rows, holding, digests_on, digests_gathered}
use Rattle.keep_order.proofs.Lists.{map-in, in-left, in-right, in-either, in-joined, joined-in, in-filter}
use Rattle.keep_plan.specs.declared.mentions.Mention.{Mention}
use Rattle.keep_plan.specs.declared.mentions.Place.TheVariants.{Wanted}
use Rattle.keep_plan.specs.Mentions.{held_at, wanted_at, on_page, in_row, mentions_of, of_digest, last_entry, greatest_want, holding_by}
use Rattle.keep_plan.specs.Planned.{digests_in, holding_in}
use Rattle.keep_plan.proofs.Given.{reverse-cons}
use Rattle.keep_plan.proofs.Noted.{last_entry-append, greatest-append, entry_of_mention}

abbrev Text : Type 0
Text = List ℕ

abbrev order : Text → Text → Ordering
order x y = slice_cmp nat_cmp x y

-- ---- a stable sort leaves the mentions of each digest as they were
tie-test-by : (o : Ordering) → is_eq o ≡ (not (is_lt o) && not (is_lt (ordering_reverse o)))
tie-test-by Less = refl
tie-test-by Equal = refl
tie-test-by Greater = refl

tie-test : (x y : Text) → bytes_eq x y ≡ (not (is_lt (order x y)) && not (is_lt (order y x)))
tie-test x y = sym (is_eq-slice_cmp x y) ∙ tie-test-by (order x y) ∙ ap (λ o. not (is_lt (order x y)) && not (is_lt o)) (sym (nat_list_cmp_total.antisymm y x))

pub stable-at : (xs ys : List Mention) → IsStableByKey (λ (m : Mention). m.digest) (slice_cmp nat_cmp) xs ys → (h : Text) → of_digest h ys ≡ of_digest h xs
stable-at xs ys stable h =
    let x : Mention = record { digest = h; place = Wanted 0 } in
    let tests : (λ (m : Mention). bytes_eq h m.digest) ≡ (λ (m : Mention). ties (λ (a b : Mention). is_lt (order a.digest b.digest)) x m) = fun_ext (λ (m : Mention). tie-test h m.digest) in
    ap (λ (p : Mention → Bool). filter p ys) tests ∙ stable x ∙ sym (ap (λ (p : Mention → Bool). filter p xs) tests)

-- ---- the entry that a device gave
no-rows-one : (d : ℕ) (h : Text) (w : ℕ) (ds : List Text) → filter_map (entry_of_mention d) (of_digest h (map (wanted_at w) ds)) ≡ []
no-rows-one d h w [] = refl
no-rows-one d h w (x ∷ ds) = by (bytes_eq h x) (no-rows-one d h w ds)
  where
    by : (b : Bool) → filter_map (entry_of_mention d) (of_digest h (map (wanted_at w) ds)) ≡ [] → filter_map (entry_of_mention d) (cond b (wanted_at w x ∷ of_digest h (map (wanted_at w) ds)) (of_digest h (map (wanted_at w) ds))) ≡ []
    by true rest = rest
    by false rest = rest

no-rows : (d : ℕ) (h : Text) (rows : List ScanRow) → last_entry d (of_digest h (flat_map in_row rows)) ≡ None
no-rows d h [] = refl
no-rows d h (r ∷ rows) =
    ap (last_entry d) (filter-append (λ m. bytes_eq h m.digest) (in_row r) (flat_map in_row rows))
    ∙ last_entry-append d (of_digest h (in_row r)) (of_digest h (flat_map in_row rows))
    ∙ ap (λ o. option_or o (last_entry d (of_digest h (in_row r)))) (no-rows d h rows)
    ∙ ap (last_or None) (no-rows-one d h r.want r.digests)

entries-by : (dev d : ℕ) (h : Text) (b : Bool) → nat_eq dev d ≡ b → (es : List Entry) →
    filter_map (entry_of_mention d) (of_digest h (map (held_at dev) es)) ≡ (if b then filter (λ e. bytes_eq h e.digest) es else [])
entries-by dev d h true is [] = refl
entries-by dev d h false is [] = refl
entries-by dev d h true is (e ∷ es) = by (bytes_eq h e.digest) (entries-by dev d h true is es)
  where
    by : (b : Bool) → filter_map (entry_of_mention d) (of_digest h (map (held_at dev) es)) ≡ filter (λ x. bytes_eq h x.digest) es →
        filter_map (entry_of_mention d) (cond b (held_at dev e ∷ of_digest h (map (held_at dev) es)) (of_digest h (map (held_at dev) es))) ≡ cond b (e ∷ filter (λ x. bytes_eq h x.digest) es) (filter (λ x. bytes_eq h x.digest) es)
    by true rest = ap (λ v. cons_option (if v then Some (record { digest = e.digest; size = e.size; mtime = e.mtime }) else None) (filter_map (entry_of_mention d) (of_digest h (map (held_at dev) es)))) is ∙ ap (λ l. e ∷ l) rest
    by false rest = rest
entries-by dev d h false is (e ∷ es) = by (bytes_eq h e.digest) (entries-by dev d h false is es)
  where
    by : (b : Bool) → filter_map (entry_of_mention d) (of_digest h (map (held_at dev) es)) ≡ [] →
        filter_map (entry_of_mention d) (cond b (held_at dev e ∷ of_digest h (map (held_at dev) es)) (of_digest h (map (held_at dev) es))) ≡ []
    by true rest = ap (λ v. cons_option (if v then Some (record { digest = e.digest; size = e.size; mtime = e.mtime }) else None) (filter_map (entry_of_mention d) (of_digest h (map (held_at dev) es)))) is ∙ rest
    by false rest = rest

page-entry : (d : ℕ) (h : Text) (p : Page) (earlier : Option Entry) (b : Bool) → nat_eq p.device d ≡ b → option_or (last_entry d (of_digest h (on_page p))) earlier ≡ (if b then option_or (entry_on h p.entries) earlier else earlier)
page-entry d h p earlier true is = ap (λ l. option_or (last_or None l) earlier) (entries-by p.device d h true is p.entries)
page-entry d h p earlier false is = ap (λ l. option_or (last_or None l) earlier) (entries-by p.device d h false is p.entries)

pages-entry : (d : ℕ) (h : Text) (ps : List Page) → last_entry d (of_digest h (flat_map on_page (reverse ps))) ≡ entry_of d h ps
pages-entry d h [] = refl
pages-entry d h (p ∷ ps) =
    let old = flat_map on_page (reverse ps) in
    let split : flat_map on_page (reverse (p ∷ ps)) ≡ old ++ on_page p = ap (flat_map on_page) (reverse-cons p ps) ∙ flat_map-append on_page (reverse ps) (p ∷ []) ∙ ap (λ l. old ++ l) (append-nil (on_page p)) in
    ap (λ l. last_entry d (of_digest h l)) split
    ∙ ap (last_entry d) (filter-append (λ m. bytes_eq h m.digest) old (on_page p))
    ∙ last_entry-append d (of_digest h old) (of_digest h (on_page p))
    ∙ ap (option_or (last_entry d (of_digest h (on_page p)))) (pages-entry d h ps)
    ∙ page-entry d h p (entry_of d h ps) (nat_eq p.device d) refl

abbrev rows_in : Gathered → List ScanRow
rows_in g = gathered_rows (reverse g.scans)

split-of : (h : Text) (g : Gathered) → of_digest h (mentions_of g) ≡ of_digest h (flat_map on_page (reverse g.pages)) ++ of_digest h (flat_map in_row (rows_in g))
split-of h g = filter-append (λ m. bytes_eq h m.digest) (flat_map on_page (reverse g.pages)) (flat_map in_row (rows_in g))

entry-is : (d : ℕ) (h : Text) (g : Gathered) → last_entry d (of_digest h (mentions_of g)) ≡ entry_of d h g.pages
entry-is d h g =
    ap (last_entry d) (split-of h g)
    ∙ last_entry-append d (of_digest h (flat_map on_page (reverse g.pages))) (of_digest h (flat_map in_row (rows_in g)))
    ∙ ap (λ o. option_or o (last_entry d (of_digest h (flat_map on_page (reverse g.pages))))) (no-rows d h (rows_in g))
    ∙ pages-entry d h g.pages

-- ---- the greatest want
no-want-one : (h : Text) (dev : ℕ) (es : List Entry) → greatest_want (of_digest h (map (held_at dev) es)) ≡ 0
no-want-one h dev [] = refl
no-want-one h dev (e ∷ es) = by (bytes_eq h e.digest) (no-want-one h dev es)
  where
    by : (b : Bool) → greatest_want (of_digest h (map (held_at dev) es)) ≡ 0 → greatest_want (cond b (held_at dev e ∷ of_digest h (map (held_at dev) es)) (of_digest h (map (held_at dev) es))) ≡ 0
    by true rest = omega arith
    by false rest = rest

no-want : (h : Text) (ps : List Page) → greatest_want (of_digest h (flat_map on_page ps)) ≡ 0
no-want h [] = refl
no-want h (p ∷ ps) =
    let first = no-want-one h p.device p.entries in
    let rest = no-want h ps in
    let both = ap greatest_want (filter-append (λ m. bytes_eq h m.digest) (on_page p) (flat_map on_page ps)) ∙ greatest-append (of_digest h (on_page p)) (of_digest h (flat_map on_page ps)) in
    both ∙ ap (λ n. max n (greatest_want (of_digest h (flat_map on_page ps)))) first ∙ ap (max 0) rest

row-want : (h : Text) (w : ℕ) (ds : List Text) → greatest_want (of_digest h (map (wanted_at w) ds)) ≡ (if names h ds then w else 0)
row-want h w [] = refl
row-want h w (x ∷ ds) = by (bytes_eq h x) (names h ds) (row-want h w ds)
  where
    by : (b n : Bool) → greatest_want (of_digest h (map (wanted_at w) ds)) ≡ (if n then w else 0) → greatest_want (cond b (wanted_at w x ∷ of_digest h (map (wanted_at w) ds)) (of_digest h (map (wanted_at w) ds))) ≡ (if b || n then w else 0)
    by true true rest = omega arith
    by true false rest = omega arith
    by false n rest = rest

rows-want : (h : Text) (rows : List ScanRow) → greatest_want (of_digest h (flat_map in_row rows)) ≡ wanted_in h rows
rows-want h [] = refl
rows-want h (r ∷ rows) =
    ap greatest_want (filter-append (λ m. bytes_eq h m.digest) (in_row r) (flat_map in_row rows))
    ∙ greatest-append (of_digest h (in_row r)) (of_digest h (flat_map in_row rows))
    ∙ ap (λ n. max n (greatest_want (of_digest h (flat_map in_row rows)))) (row-want h r.want r.digests)
    ∙ ap (max (if names h r.digests then r.want else 0)) (rows-want h rows)

wanted-append : (h : Text) (xs ys : List ScanRow) → wanted_in h (xs ++ ys) ≡ max (wanted_in h xs) (wanted_in h ys)
wanted-append h [] ys = omega arith
wanted-append h (x ∷ xs) ys =
    let rest = wanted-append h xs ys in
    ap (max (if names h x.digests then x.want else 0)) rest ∙ around (if names h x.digests then x.want else 0) (wanted_in h xs) (wanted_in h ys)
  where
    around : (a b c : ℕ) → max a (max b c) ≡ max (max a b) c
    around a b c = omega arith

turned-want : (h : Text) (ss : List Scan) → wanted_in h (gathered_rows (reverse ss)) ≡ wanted_in h (gathered_rows ss)
turned-want h [] = refl
turned-want h (s ∷ ss) =
    ap (λ l. wanted_in h (gathered_rows l)) (reverse-cons s ss)
    ∙ ap (wanted_in h) (flat_map-append (λ (x : Scan). x.rows) (reverse ss) (s ∷ []))
    ∙ wanted-append h (gathered_rows (reverse ss)) (s.rows ++ [])
    ∙ ap (λ n. max n (wanted_in h (s.rows ++ []))) (turned-want h ss)
    ∙ ap (λ l. max (wanted_in h (gathered_rows ss)) (wanted_in h l)) (append-nil s.rows)
    ∙ either-way (wanted_in h (gathered_rows ss)) (wanted_in h s.rows)
    ∙ sym (wanted-append h s.rows (gathered_rows ss))
  where
    either-way : (a b : ℕ) → max a b ≡ max b a
    either-way a b = omega arith

want-is : (h : Text) (g : Gathered) → greatest_want (of_digest h (mentions_of g)) ≡ wanted_in h (gathered_rows g.scans)
want-is h g =
    ap greatest_want (split-of h g)
    ∙ greatest-append (of_digest h (flat_map on_page (reverse g.pages))) (of_digest h (flat_map in_row (rows_in g)))
    ∙ ap (λ n. max n (greatest_want (of_digest h (flat_map in_row (rows_in g))))) (no-want h (reverse g.pages))
    ∙ only (greatest_want (of_digest h (flat_map in_row (rows_in g))))
    ∙ rows-want h (rows_in g)
    ∙ turned-want h g.scans
  where
    only : (n : ℕ) → max 0 n ≡ n
    only n = omega arith

pub holding-is : (c : Configuration) (g : Gathered) (ms : List Mention) → ((h : Text) → of_digest h ms ≡ of_digest h (mentions_of g)) → holding_in c ms ≡ holding c g
holding-is c g ms same = fun_ext (λ (h : Text). ap (holding_by c h) (same h)
    ∙ ap (λ (f : ℕ → Option Entry). record { digest = h; entry = f; writable = (holding c g h).writable; order = (holding c g h).order; want = greatest_want (of_digest h (mentions_of g)) }) (fun_ext (λ (d : ℕ). entry-is d h g))
    ∙ ap (λ (n : ℕ). record { digest = h; entry = (holding c g h).entry; writable = (holding c g h).writable; order = (holding c g h).order; want = n }) (want-is h g))

-- ---- of two ascending lists with the same members there is one
in-inserted-by : (h x y : Text) (ys : List Text) (o : Ordering) → IsIn h (match_ordering o (x ∷ y ∷ ys) (y ∷ ys) (y ∷ inserted x ys)) → (IsIn h (inserted x ys) → (h ≡ x) ⊎ IsIn h ys) → (h ≡ x) ⊎ IsIn h (y ∷ ys)
in-inserted-by h x y ys Less i rest = i
in-inserted-by h x y ys Equal i rest = inr i
in-inserted-by h x y ys Greater (inl e) rest = inr (inl e)
in-inserted-by h x y ys Greater (inr i) rest = behind (rest i)
  where
    behind : (h ≡ x) ⊎ IsIn h ys → (h ≡ x) ⊎ ((h ≡ y) ⊎ IsIn h ys)
    behind (inl e) = inl e
    behind (inr j) = inr (inr j)

in-inserted : (h x : Text) (ys : List Text) → IsIn h (inserted x ys) → (h ≡ x) ⊎ IsIn h ys
in-inserted h x [] i = i
in-inserted h x (y ∷ ys) i = in-inserted-by h x y ys (order x y) i (in-inserted h x ys)

either : (h x : Text) (P Q : Type 0) → (P → Q) → (h ≡ x) ⊎ P → (h ≡ x) ⊎ Q
either h x P Q f (inl e) = inl e
either h x P Q f (inr p) = inr (f p)

in-ascending : (h : Text) (xs : List Text) → IsIn h (ascending xs) → IsIn h xs
in-ascending h [] i = i
in-ascending h (x ∷ xs) i = either h x (IsIn h (ascending xs)) (IsIn h xs) (in-ascending h xs) (in-inserted h x (ascending xs) i)

texts-equal : (x y : Text) → order x y ≡ Equal → x ≡ y
texts-equal x y e = (bytes_decides x y).0 (sym (is_eq-slice_cmp x y) ∙ ap is_eq e)

inserted-in-by : (h x y : Text) (ys : List Text) (o : Ordering) → order x y ≡ o → (h ≡ x) ⊎ ((h ≡ y) ⊎ IsIn h ys) → ((h ≡ x) ⊎ IsIn h ys → IsIn h (inserted x ys)) → IsIn h (match_ordering o (x ∷ y ∷ ys) (y ∷ ys) (y ∷ inserted x ys))
inserted-in-by h x y ys Less e i rest = i
inserted-in-by h x y ys Equal e (inl same) rest = inl (same ∙ texts-equal x y e)
inserted-in-by h x y ys Equal e (inr i) rest = i
inserted-in-by h x y ys Greater e (inl same) rest = inr (rest (inl same))
inserted-in-by h x y ys Greater e (inr (inl same)) rest = inl same
inserted-in-by h x y ys Greater e (inr (inr i)) rest = inr (rest (inr i))

inserted-in : (h x : Text) (ys : List Text) → (h ≡ x) ⊎ IsIn h ys → IsIn h (inserted x ys)
inserted-in h x [] i = i
inserted-in h x (y ∷ ys) i = inserted-in-by h x y ys (order x y) refl i (inserted-in h x ys)

ascending-in : (h : Text) (xs : List Text) → IsIn h xs → IsIn h (ascending xs)
ascending-in h [] i = i
ascending-in h (x ∷ xs) i = inserted-in h x (ascending xs) (either h x (IsIn h xs) (IsIn h (ascending xs)) (ascending-in h xs) i)

abbrev Rises : List Text → Type 0
Rises [] = Unit {0}
Rises (x ∷ xs) = AllByRecursion (λ y. order x y ≡ Less) xs × Rises xs

above-all : (x y : Text) (ys : List Text) → order x y ≡ Less → AllByRecursion (λ z. order y z ≡ Less) ys → AllByRecursion (λ z. order x z ≡ Less) ys
above-all x y [] lt h = tt
above-all x y (z ∷ zs) lt h = (nat_list_cmp_total.trans x y z lt h.0, above-all x y zs lt h.1)

all-inserted-by : (P : Text → Type 0) (x y : Text) (ys : List Text) (o : Ordering) → P x → P y × AllByRecursion P ys → AllByRecursion P (inserted x ys) → AllByRecursion P (match_ordering o (x ∷ y ∷ ys) (y ∷ ys) (y ∷ inserted x ys))
all-inserted-by P x y ys Less p h rest = (p, h)
all-inserted-by P x y ys Equal p h rest = h
all-inserted-by P x y ys Greater p h rest = (h.0, rest)

all-inserted : (P : Text → Type 0) (x : Text) (ys : List Text) → P x → AllByRecursion P ys → AllByRecursion P (inserted x ys)
all-inserted P x [] p h = (p, tt)
all-inserted P x (y ∷ ys) p h = all-inserted-by P x y ys (order x y) p h (all-inserted P x ys p h.1)

flipped : (x y : Text) (o : Ordering) → order x y ≡ o → order y x ≡ ordering_reverse o
flipped x y o e = nat_list_cmp_total.antisymm y x ∙ ap ordering_reverse e

inserted-rises-by : (x y : Text) (ys : List Text) (o : Ordering) → order x y ≡ o → Rises (y ∷ ys) → Rises (inserted x ys) → Rises (match_ordering o (x ∷ y ∷ ys) (y ∷ ys) (y ∷ inserted x ys))
inserted-rises-by x y ys Less e h rest = ((e, above-all x y ys e h.0), h)
inserted-rises-by x y ys Equal e h rest = h
inserted-rises-by x y ys Greater e h rest = (all-inserted (λ z. order y z ≡ Less) x ys (flipped x y Greater e) h.0, rest)

inserted-rises : (x : Text) (ys : List Text) → Rises ys → Rises (inserted x ys)
inserted-rises x [] h = (tt, tt)
inserted-rises x (y ∷ ys) h = inserted-rises-by x y ys (order x y) refl h (inserted-rises x ys h.1)

rises : (xs : List Text) → Rises (ascending xs)
rises [] = tt
rises (x ∷ xs) = inserted-rises x (ascending xs) (rises xs)

all-in : (P : Text → Type 0) (x : Text) (xs : List Text) → AllByRecursion P xs → IsIn x xs → P x
all-in P x [] h i = absurd i
all-in P x (y ∷ ys) h (inl e) = subst P (sym e) h.0
all-in P x (y ∷ ys) h (inr i) = all-in P x ys h.1 i

never-both : (x y : Text) → order x y ≡ Less → order y x ≡ Less → ⊥
never-both x y e f = let z = sym (flipped x y Less e) ∙ f in cc z

never-itself : (x : Text) → order x x ≡ Less → ⊥
never-itself x e = never-both x x e e

same-first : (x y : Text) (xs ys : List Text) → Rises (x ∷ xs) → Rises (y ∷ ys) → IsIn x (y ∷ ys) → IsIn y (x ∷ xs) → x ≡ y
same-first x y xs ys a b (inl e) j = e
same-first x y xs ys a b (inr i) (inl e) = sym e
same-first x y xs ys a b (inr i) (inr j) = absurd (never-both x y (all-in (λ z. order x z ≡ Less) y xs a.0 j) (all-in (λ z. order y z ≡ Less) x ys b.0 i))

not-first : (h x : Text) (xs ys : List Text) → order x h ≡ Less → (h ≡ x) ⊎ IsIn h ys → IsIn h ys
not-first h x xs ys e (inl same) = absurd (never-itself x (subst (λ v. order x v ≡ Less) same e))
not-first h x xs ys e (inr i) = i

one-list : (xs ys : List Text) → Rises xs → Rises ys → ((h : Text) → IsIn h xs → IsIn h ys) → ((h : Text) → IsIn h ys → IsIn h xs) → xs ≡ ys
one-list [] [] a b f g = refl
one-list [] (y ∷ ys) a b f g = absurd (g y (inl refl))
one-list (x ∷ xs) [] a b f g = absurd (f x (inl refl))
one-list (x ∷ xs) (y ∷ ys) a b f g =
    let same = same-first x y xs ys a b (f x (inl refl)) (g y (inl refl)) in
    let rest = one-list xs ys a.1 b.1
    (λ h i. not-first h y xs ys (subst (λ v. order v h ≡ Less) same (all-in (λ z. order x z ≡ Less) h xs a.0 i)) (f h (inr i)))
    (λ h i. not-first h x ys xs (subst (λ v. order v h ≡ Less) (sym same) (all-in (λ z. order y z ≡ Less) h ys b.0 i)) (g h (inr i))) in
    ap (λ v. v ∷ xs) same ∙ ap (λ l. y ∷ l) rest

ascending-same : (xs ys : List Text) → ((h : Text) → IsIn h xs → IsIn h ys) → ((h : Text) → IsIn h ys → IsIn h xs) → ascending xs ≡ ascending ys
ascending-same xs ys f g = one-list (ascending xs) (ascending ys) (rises xs) (rises ys) (λ h i. ascending-in h ys (f h (in-ascending h xs i))) (λ h i. ascending-in h xs (g h (in-ascending h ys i)))

-- ---- the digests that were gathered
in-reversed : {X : Type 0} (x : X) (xs : List X) → IsIn x (reverse xs) → IsIn x xs
in-reversed x [] i = i
in-reversed x (y ∷ ys) i = by (in-either x (reverse ys) (y ∷ []) (subst (IsIn x) (reverse-cons y ys) i)) (in-reversed x ys)
  where
    by : IsIn x (reverse ys) ⊎ IsIn x (y ∷ []) → (IsIn x (reverse ys) → IsIn x ys) → IsIn x (y ∷ ys)
    by (inl j) rest = inr (rest j)
    by (inr (inl e)) rest = inl e
    by (inr (inr j)) rest = absurd j

reversed-in : {X : Type 0} (x : X) (xs : List X) → IsIn x xs → IsIn x (reverse xs)
reversed-in x [] i = i
reversed-in x (y ∷ ys) (inl e) = subst (IsIn x) (sym (reverse-cons y ys)) (in-right x (reverse ys) (y ∷ []) (inl e))
reversed-in x (y ∷ ys) (inr i) = subst (IsIn x) (sym (reverse-cons y ys)) (in-left x (reverse ys) (y ∷ []) (reversed-in x ys i))

turned-joined : {X Y : Type 0} (f : X → List Y) (y : Y) (xs : List X) → IsIn y (flat_map f (reverse xs)) → IsIn y (flat_map f xs)
turned-joined f y xs i = let j = in-joined f y (reverse xs) i in joined-in f j.from y xs (in-reversed j.from xs j.member) j.has

joined-turned : {X Y : Type 0} (f : X → List Y) (y : Y) (xs : List X) → IsIn y (flat_map f xs) → IsIn y (flat_map f (reverse xs))
joined-turned f y xs i = let j = in-joined f y xs i in joined-in f j.from y (reverse xs) (reversed-in j.from xs j.member) j.has

abbrev digest_of_mention : Mention → Text
digest_of_mention m = m.digest

page-digests : (dev : ℕ) (es : List Entry) → map digest_of_mention (map (held_at dev) es) ≡ map (λ e. e.digest) es
page-digests dev [] = refl
page-digests dev (e ∷ es) = ap (λ l. e.digest ∷ l) (page-digests dev es)

row-digests : (w : ℕ) (ds : List Text) → map digest_of_mention (map (wanted_at w) ds) ≡ ds
row-digests w [] = refl
row-digests w (x ∷ ds) = ap (λ l. x ∷ l) (row-digests w ds)

pages-digests : (ps : List Page) → map digest_of_mention (flat_map on_page ps) ≡ digests_on ps
pages-digests [] = refl
pages-digests (p ∷ ps) = map-append digest_of_mention (on_page p) (flat_map on_page ps) ∙ ap (λ l. l ++ map digest_of_mention (flat_map on_page ps)) (page-digests p.device p.entries) ∙ ap (λ l. map (λ e. e.digest) p.entries ++ l) (pages-digests ps)

abbrev digests_of_scan : Scan → List Text
digests_of_scan s = flat_map (λ r. r.digests) s.rows

rows-digests : (rs : List ScanRow) → map digest_of_mention (flat_map in_row rs) ≡ flat_map (λ r. r.digests) rs
rows-digests [] = refl
rows-digests (r ∷ rs) = map-append digest_of_mention (in_row r) (flat_map in_row rs) ∙ ap (λ l. l ++ map digest_of_mention (flat_map in_row rs)) (row-digests r.want r.digests) ∙ ap (λ l. r.digests ++ l) (rows-digests rs)

scans-digests : (ss : List Scan) → flat_map (λ (r : ScanRow). r.digests) (gathered_rows ss) ≡ flat_map digests_of_scan ss
scans-digests [] = refl
scans-digests (s ∷ ss) = flat_map-append (λ (r : ScanRow). r.digests) s.rows (gathered_rows ss) ∙ ap (λ l. digests_of_scan s ++ l) (scans-digests ss)

mentioned : (g : Gathered) → map digest_of_mention (mentions_of g) ≡ digests_on (reverse g.pages) ++ flat_map digests_of_scan (reverse g.scans)
mentioned g =
    map-append digest_of_mention (flat_map on_page (reverse g.pages)) (flat_map in_row (rows_in g))
    ∙ ap (λ l. l ++ map digest_of_mention (flat_map in_row (rows_in g))) (pages-digests (reverse g.pages))
    ∙ ap (λ l. digests_on (reverse g.pages) ++ l) (rows-digests (rows_in g) ∙ scans-digests (reverse g.scans))

given-digests : (g : Gathered) → digests_on g.pages ++ flat_map (λ r. r.digests) (gathered_rows g.scans) ≡ digests_on g.pages ++ flat_map digests_of_scan g.scans
given-digests g = ap (λ l. digests_on g.pages ++ l) (scans-digests g.scans)

abbrev digests_of_page : Page → List Text
digests_of_page p = map (λ e. e.digest) p.entries

there : (h : Text) (g : Gathered) → IsIn h (digests_on (reverse g.pages) ++ flat_map digests_of_scan (reverse g.scans)) → IsIn h (digests_on g.pages ++ flat_map digests_of_scan g.scans)
there h g i = by (in-either h (digests_on (reverse g.pages)) (flat_map digests_of_scan (reverse g.scans)) i)
  where
    by : IsIn h (digests_on (reverse g.pages)) ⊎ IsIn h (flat_map digests_of_scan (reverse g.scans)) → IsIn h (digests_on g.pages ++ flat_map digests_of_scan g.scans)
    by (inl j) = in-left h (digests_on g.pages) (flat_map digests_of_scan g.scans) (turned-joined digests_of_page h g.pages j)
    by (inr j) = in-right h (digests_on g.pages) (flat_map digests_of_scan g.scans) (turned-joined digests_of_scan h g.scans j)

back : (h : Text) (g : Gathered) → IsIn h (digests_on g.pages ++ flat_map digests_of_scan g.scans) → IsIn h (digests_on (reverse g.pages) ++ flat_map digests_of_scan (reverse g.scans))
back h g i = by (in-either h (digests_on g.pages) (flat_map digests_of_scan g.scans) i)
  where
    by : IsIn h (digests_on g.pages) ⊎ IsIn h (flat_map digests_of_scan g.scans) → IsIn h (digests_on (reverse g.pages) ++ flat_map digests_of_scan (reverse g.scans))
    by (inl j) = in-left h (digests_on (reverse g.pages)) (flat_map digests_of_scan (reverse g.scans)) (joined-turned digests_of_page h g.pages j)
    by (inr j) = in-right h (digests_on (reverse g.pages)) (flat_map digests_of_scan (reverse g.scans)) (joined-turned digests_of_scan h g.scans j)

gathered-is : (g : Gathered) → digests_in (mentions_of g) ≡ digests_gathered g
gathered-is g =
    ap ascending (mentioned g)
    ∙ ascending-same (digests_on (reverse g.pages) ++ flat_map digests_of_scan (reverse g.scans)) (digests_on g.pages ++ flat_map digests_of_scan g.scans) (λ h i. there h g i) (λ h i. back h g i)
    ∙ ap ascending (sym (given-digests g))

in-own : (h : Text) (ms : List Mention) → IsIn h (map digest_of_mention ms) → (m : Mention) × IsIn m (of_digest h ms)
in-own h [] i = absurd i
in-own h (m ∷ ms) i = by (bytes_eq h m.digest) refl i (in-own h ms)
  where
    by : (b : Bool) → bytes_eq h m.digest ≡ b → (h ≡ m.digest) ⊎ IsIn h (map digest_of_mention ms) → (IsIn h (map digest_of_mention ms) → (x : Mention) × IsIn x (of_digest h ms)) → (x : Mention) × IsIn x (cond b (m ∷ of_digest h ms) (of_digest h ms))
    by true e j rest = (m, inl refl)
    by false e (inl same) rest = absurd (let z = sym ((bytes_decides h m.digest).1 same) ∙ e in cc z)
    by false e (inr j) rest = rest j

own-in : (h : Text) (ms : List Mention) (m : Mention) → IsIn m (of_digest h ms) → IsIn h (map digest_of_mention ms)
own-in h ms m i =
    let at = in-filter (λ (x : Mention). bytes_eq h x.digest) m ms i in
    subst (λ v. IsIn v (map digest_of_mention ms)) (sym ((bytes_decides h m.digest).0 at.1)) (map-in digest_of_mention m ms at.0)

pub digests-are : (g : Gathered) (ms : List Mention) → ((h : Text) → of_digest h ms ≡ of_digest h (mentions_of g)) → digests_in ms ≡ digests_gathered g
digests-are g ms same =
    ascending-same (map digest_of_mention ms) (map digest_of_mention (mentions_of g))
    (λ h i. (let m = in-own h ms i in own-in h (mentions_of g) m.0 (subst (IsIn m.0) (same h) m.1)))
    (λ h i. (let m = in-own h (mentions_of g) i in own-in h ms m.0 (subst (IsIn m.0) (sym (same h)) m.1)))
    ∙ gathered-is g
