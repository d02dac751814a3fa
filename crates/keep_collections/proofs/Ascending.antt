-- Ascending lists of digests: of two with the same members there is one.
use Rattle.std.proofs.Common.{◌≡◌, ◌⊎◌, inl, inr, ℕ, List, [], ◌∷◌, refl, sym, ap, ◌∙◌, subst, arith, ◌↔◌}
use lib.Pointwise.{bytes_decides}
use Rattle.std.specs.declared.cmp.Ordering.{Ordering}
use Rattle.std.specs.declared.cmp.Ordering.TheVariants.{Less, Equal, Greater}
use Rattle.std.specs.Ordering.{nat_cmp, match_ordering, ordering_reverse, is_eq}
use Rattle.std.specs.Cmp.Lexicographic.{slice_cmp}
use Rattle.std.specs.List.{AllByRecursion, Contains}
use Rattle.std.specs.List.Sorted.{IsStrictlySortedBy}
use Rattle.std.proofs.lemmas.Cmp.{nat_list_cmp_total}
use Rattle.std.proofs.lemmas.Map.Text.{is_eq-slice_cmp}
use Rattle.std.proofs.lemmas.List.Elements.{Contains-append_left, Contains-append_right, Contains-append_cases, Contains-push_cases, Contains-push}
use Rattle.keep_event.specs.Requests.{inserted, ascending}

abbrev Text : Type 0
Text = List ℕ

abbrev order : Text → Text → Ordering
order x y = slice_cmp nat_cmp x y

abbrev IsAscending : List Text → Type 0
IsAscending xs = IsStrictlySortedBy order xs

-- ---- the order

equal-is : (x y : Text) → order x y ≡ Equal → x ≡ y
equal-is x y e = (bytes_decides x y).0 (sym (is_eq-slice_cmp x y) ∙ ap is_eq e)

level : (o : Ordering) → o ≡ ordering_reverse o → o ≡ Equal
level Less e = absurd (cc)
level Equal e = refl
level Greater e = absurd (cc)

order-same : (x : Text) → order x x ≡ Equal
order-same x = level (order x x) (nat_list_cmp_total.antisymm x x)

turned : (x y : Text) → order x y ≡ Greater → order y x ≡ Less
turned x y e = nat_list_cmp_total.antisymm y x ∙ ap ordering_reverse e

not-below : (x y : Text) → order x y ≡ Less → x ≡ y → ⊥
not-below x y e same = let equal : order x y ≡ Equal = subst (λ z. order x z ≡ Equal) same (order-same x) in cc

not-both : (x y : Text) → order x y ≡ Less → order y x ≡ Less → ⊥
not-both x y e f = let again : order x y ≡ Greater = nat_list_cmp_total.antisymm x y ∙ ap ordering_reverse f in cc

-- ---- members

member-cases : (x h : Text) (xs : List Text) → Contains (x ∷ xs) h → (x ≡ h) ⊎ Contains xs h
member-cases x h xs m = elim (Contains-append_cases (x ∷ []) xs h m) [ inl one ↦ inl (only one) | inr more ↦ inr more ]
  where
    nowhere : Contains {X = Text} [] h → x ≡ h
    nowhere m = absurd (omega (arith, m.1))

    only : Contains (x ∷ []) h → x ≡ h
    only one = elim (Contains-push_cases [] x h one) [ inl none ↦ nowhere none | inr same ↦ same ]

here : (x : Text) (xs : List Text) → Contains (x ∷ xs) x
here x xs = Contains-append_left (x ∷ []) xs x (Contains-push [] x)

there : (x h : Text) (xs : List Text) → Contains xs h → Contains (x ∷ xs) h
there x h xs m = Contains-append_right (x ∷ []) xs h m

all-at : (P : Text → Type 0) (xs : List Text) (h : Text) → AllByRecursion P xs → Contains xs h → P h
all-at P [] h a m = absurd (omega (arith, m.1))
all-at P (x ∷ xs) h a m = elim (member-cases x h xs m) [ inl same ↦ subst P same a.0 | inr more ↦ all-at P xs h a.1 more ]

-- ---- insertion

all-above : (x y : Text) (ys : List Text) → order x y ≡ Less → AllByRecursion (λ z. order y z ≡ Less) ys → AllByRecursion (λ z. order x z ≡ Less) ys
all-above x y [] e a = tt
all-above x y (z ∷ zs) e a = (nat_list_cmp_total.trans x y z e a.0, all-above x y zs e a.1)

all-chosen : (P : Text → Type 0) (o : Ordering) (x y : Text) (ys zs : List Text) → P x → P y → AllByRecursion P ys → AllByRecursion P zs → AllByRecursion P (match_ordering o (x ∷ y ∷ ys) (y ∷ ys) (y ∷ zs))
all-chosen P Less x y ys zs p q a b = (p, (q, a))
all-chosen P Equal x y ys zs p q a b = (q, a)
all-chosen P Greater x y ys zs p q a b = (q, b)

all-inserted : (P : Text → Type 0) (x : Text) (ys : List Text) → P x → AllByRecursion P ys → AllByRecursion P (inserted x ys)
all-inserted P x [] p a = (p, tt)
all-inserted P x (y ∷ ys) p a = all-chosen P (order x y) x y ys (inserted x ys) p a.0 a.1 (all-inserted P x ys p a.1)

inserted-chosen : (o : Ordering) (x y : Text) (ys : List Text) → order x y ≡ o → IsAscending (y ∷ ys) → IsAscending (inserted x ys) → IsAscending (match_ordering o (x ∷ y ∷ ys) (y ∷ ys) (y ∷ inserted x ys))
unfolding IsStrictlySortedBy
inserted-chosen Less x y ys e h i = ((e, all-above x y ys e h.0), h)
inserted-chosen Equal x y ys e h i = h
inserted-chosen Greater x y ys e h i = (all-inserted (λ z. order y z ≡ Less) x ys (turned x y e) h.0, i)

inserted-ascends : (x : Text) (ys : List Text) → IsAscending ys → IsAscending (inserted x ys)
unfolding IsStrictlySortedBy
inserted-ascends x [] h = (tt, tt)
inserted-ascends x (y ∷ ys) h = inserted-chosen (order x y) x y ys refl h (inserted-ascends x ys h.1)

pub ascending-ascends : (xs : List Text) → IsAscending (ascending xs)
unfolding IsStrictlySortedBy
ascending-ascends [] = tt
ascending-ascends (x ∷ xs) = inserted-ascends x (ascending xs) (ascending-ascends xs)

chosen-has : (o : Ordering) (x y h : Text) (ys : List Text) → (y ≡ h) ⊎ Contains ys h → (Contains ys h → Contains (inserted x ys) h) → Contains (match_ordering o (x ∷ y ∷ ys) (y ∷ ys) (y ∷ inserted x ys)) h
chosen-has Less x y h ys m next = there x h (y ∷ ys) (elim m [ inl same ↦ subst (λ z. Contains (y ∷ ys) z) same (here y ys) | inr more ↦ there y h ys more ])
chosen-has Equal x y h ys m next = elim m [ inl same ↦ subst (λ z. Contains (y ∷ ys) z) same (here y ys) | inr more ↦ there y h ys more ]
chosen-has Greater x y h ys m next = elim m [ inl same ↦ subst (λ z. Contains (y ∷ inserted x ys) z) same (here y (inserted x ys)) | inr more ↦ there y h (inserted x ys) (next more) ]

inserted-keeps : (x h : Text) (ys : List Text) → Contains ys h → Contains (inserted x ys) h
inserted-keeps x h [] m = absurd (omega (arith, m.1))
inserted-keeps x h (y ∷ ys) m = chosen-has (order x y) x y h ys (member-cases y h ys m) (inserted-keeps x h ys)

chosen-takes : (o : Ordering) (x y : Text) (ys : List Text) → order x y ≡ o → Contains (inserted x ys) x → Contains (match_ordering o (x ∷ y ∷ ys) (y ∷ ys) (y ∷ inserted x ys)) x
chosen-takes Less x y ys e i = here x (y ∷ ys)
chosen-takes Equal x y ys e i = subst (λ z. Contains (y ∷ ys) z) (sym (equal-is x y e)) (here y ys)
chosen-takes Greater x y ys e i = there y x (inserted x ys) i

inserted-takes : (x : Text) (ys : List Text) → Contains (inserted x ys) x
inserted-takes x [] = here x []
inserted-takes x (y ∷ ys) = chosen-takes (order x y) x y ys refl (inserted-takes x ys)

chosen-only : (o : Ordering) (x y h : Text) (ys : List Text) → (Contains (inserted x ys) h → Contains (x ∷ ys) h) → Contains (match_ordering o (x ∷ y ∷ ys) (y ∷ ys) (y ∷ inserted x ys)) h → Contains (x ∷ y ∷ ys) h
chosen-only Less x y h ys next m = m
chosen-only Equal x y h ys next m = there x h (y ∷ ys) m
chosen-only Greater x y h ys next m = elim (member-cases y h (inserted x ys) m) [ inl same ↦ there x h (y ∷ ys) (subst (λ z. Contains (y ∷ ys) z) same (here y ys)) | inr more ↦ behind (member-cases x h ys (next more)) ]
  where
    behind : (x ≡ h) ⊎ Contains ys h → Contains (x ∷ y ∷ ys) h
    behind m = elim m [ inl same ↦ subst (λ z. Contains (x ∷ y ∷ ys) z) same (here x (y ∷ ys)) | inr more ↦ there x h (y ∷ ys) (there y h ys more) ]

inserted-only : (x h : Text) (ys : List Text) → Contains (inserted x ys) h → Contains (x ∷ ys) h
inserted-only x h [] m = m
inserted-only x h (y ∷ ys) m = chosen-only (order x y) x y h ys (inserted-only x h ys) m

pub ascending-keeps : (xs : List Text) (h : Text) → Contains xs h → Contains (ascending xs) h
ascending-keeps [] h m = m
ascending-keeps (x ∷ xs) h m = elim (member-cases x h xs m) [ inl same ↦ subst (λ z. Contains (inserted x (ascending xs)) z) same (inserted-takes x (ascending xs)) | inr more ↦ inserted-keeps x h (ascending xs) (ascending-keeps xs h more) ]

pub ascending-only : (xs : List Text) (h : Text) → Contains (ascending xs) h → Contains xs h
ascending-only [] h m = m
ascending-only (x ∷ xs) h m = elim (member-cases x h (ascending xs) (inserted-only x h (ascending xs) m)) [ inl same ↦ subst (λ z. Contains (x ∷ xs) z) same (here x xs) | inr more ↦ there x h xs (ascending-only xs h more) ]

-- ---- two ascending lists

-- the first of each is the other's first
heads-same : (x y : Text) (xs ys : List Text) → AllByRecursion (λ z. order x z ≡ Less) xs → AllByRecursion (λ z. order y z ≡ Less) ys → Contains (y ∷ ys) x → Contains (x ∷ xs) y → x ≡ y
heads-same x y xs ys a b m n = elim (member-cases y x ys m) [ inl same ↦ sym same | inr more ↦ elim (member-cases x y xs n) [ inl same ↦ same | inr less ↦ absurd (not-both x y (all-at (λ z. order x z ≡ Less) xs y a less) (all-at (λ z. order y z ≡ Less) ys x b more)) ] ]

tail-member : (x y h : Text) (xs ys : List Text) → AllByRecursion (λ z. order x z ≡ Less) xs → x ≡ y → Contains xs h → Contains (y ∷ ys) h → Contains ys h
tail-member x y h xs ys a same m n = elim (member-cases y h ys n) [ inl again ↦ absurd (not-below x h (all-at (λ z. order x z ≡ Less) xs h a m) (same ∙ again)) | inr more ↦ more ]

pub ascending-same : (xs ys : List Text) → IsAscending xs → IsAscending ys → ((h : Text) → Contains xs h → Contains ys h) → ((h : Text) → Contains ys h → Contains xs h) → xs ≡ ys
unfolding IsStrictlySortedBy
ascending-same [] [] a b f g = refl
ascending-same [] (y ∷ ys) a b f g = absurd (omega (arith, (g y (here y ys)).1))
ascending-same (x ∷ xs) [] a b f g = absurd (omega (arith, (f x (here x xs)).1))
ascending-same (x ∷ xs) (y ∷ ys) a b f g =
    let same : x ≡ y = heads-same x y xs ys a.0 b.0 (f x (here x xs)) (g y (here y ys)) in
    let rest : xs ≡ ys = ascending-same xs ys a.1 b.1
    (λ h m. tail-member x y h xs ys a.0 same m (f h (there x h xs m)))
    (λ h m. tail-member y x h ys xs b.0 (sym same) m (g h (there y h ys m))) in
    cc

-- an ascending list is the one of its members
pub is-ascending : (ds xs : List Text) → IsAscending ds → ((h : Text) → Contains ds h ↔ Contains xs h) → ds ≡ ascending xs
is-ascending ds xs a same = ascending-same ds (ascending xs) a (ascending-ascends xs) (λ h m. ascending-keeps xs h ((same h).0 m)) (λ h m. (same h).1 (ascending-only xs h m))
