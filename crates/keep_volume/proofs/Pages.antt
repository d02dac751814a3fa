-- What a page is picked from.
use Rattle.std.proofs.Common.{◌≡◌, ℕ, zero, suc, ◌/◌, ◌%◌, List, [], ◌∷◌, ◌++◌, length, map, take, Bool, true, false, cond, Option, Some, None, refl, sym, ◌∙◌, ap, subst, arith, append_assoc, append-nil}
use Rattle.std.specs.Prelude.{◌&&◌, slice_index, is_none, is_some, IfSome}
use Rattle.std.specs.declared.cmp.Ordering.{Ordering}
use Rattle.std.specs.declared.cmp.Ordering.TheVariants.{Equal}
use Rattle.std.specs.Ordering.{ordering_then, is_eq}
use Rattle.std.specs.List.{filter, last_or}
use Rattle.std.proofs.lemmas.List.{map-append}
use Rattle.std.proofs.lemmas.List.Elements.{filter-append}
use Rattle.std.specs.Str.{bytes_eq}
use Rattle.std.proofs.lemmas.Slice.Eq.{bytes_eq-Decides}
use Rattle.std.proofs.lemmas.Cmp.{nat_cmp_total, tied_itself}
use Rattle.hex.specs.Hex.{encode_with, encode_lower, lower_digits}
use Rattle.keep_event.specs.Device as machine
use Rattle.keep_event.specs.declared.names.Name.{Name}
use Rattle.keep_event.specs.declared.names.Metadata.{Metadata}
use Rattle.keep_volume.specs.Digits.{nibbles, order_of, order_then, digit_value, is_within}

-- both tests, one after the other
filter-and : {X : Type 0} (p q : X → Bool) (b : Bool) (x : X) (xs : List X) → q x ≡ b → filter p (filter q xs) ≡ filter (λ x. q x && p x) xs → filter p (cond b (x ∷ filter q xs) (filter q xs)) ≡ cond (b && p x) (x ∷ filter (λ x. q x && p x) xs) (filter (λ x. q x && p x) xs)
filter-and p q true x xs e h = ap (λ v. cond (p x) (x ∷ v) v) h
filter-and p q false x xs e h = h

pub filter-both : {X : Type 0} (p q : X → Bool) (xs : List X) → filter p (filter q xs) ≡ filter (λ x. q x && p x) xs
filter-both p q [] = refl
filter-both p q (x ∷ xs) = filter-and p q (q x) x xs refl (filter-both p q xs)

-- a test that only passes what another passes
filter-in : {X : Type 0} (p q : X → Bool) (b c : Bool) (x : X) (xs : List X) → p x ≡ c → (c ≡ true → b ≡ true) → filter p (filter q xs) ≡ filter p xs → filter p (cond b (x ∷ filter q xs) (filter q xs)) ≡ cond c (x ∷ filter p xs) (filter p xs)
filter-in p q true c x xs e f h = ap (λ d. cond d (x ∷ filter p (filter q xs)) (filter p (filter q xs))) e ∙ ap (λ v. cond c (x ∷ v) v) h
filter-in p q false true x xs e f h = let k = f refl in cc k
filter-in p q false false x xs e f h = h

pub filter-within : {X : Type 0} (p q : X → Bool) (xs : List X) → ((x : X) → p x ≡ true → q x ≡ true) → filter p (filter q xs) ≡ filter p xs
filter-within p q [] f = refl
filter-within p q (x ∷ xs) f = filter-in p q (q x) (p x) x xs refl (f x) (filter-within p q xs f)

-- ---- digits that begin with a prefix are in order with it
-- the digit of a number is that number's
equal-digit : (n : ℕ) (w : Option ℕ) (r : Ordering) → w ≡ Some n → r ≡ Equal → order_then n r w ≡ Equal
equal-digit n w r e h = ap (order_then n r) e ∙ ap (λ o. ordering_then o r) (tied_itself nat_cmp_total n) ∙ h

digit-equal : (n : ℕ) (r : Ordering) → r ≡ Equal → order_then n r (digit_value (slice_index lower_digits n)) ≡ Equal
digit-equal zero r h = equal-digit 0 _ r refl h
digit-equal (suc zero) r h = equal-digit 1 _ r refl h
digit-equal (suc (suc zero)) r h = equal-digit 2 _ r refl h
digit-equal (suc (suc (suc zero))) r h = equal-digit 3 _ r refl h
digit-equal (suc (suc (suc (suc zero)))) r h = equal-digit 4 _ r refl h
digit-equal (suc (suc (suc (suc (suc zero))))) r h = equal-digit 5 _ r refl h
digit-equal (suc (suc (suc (suc (suc (suc zero)))))) r h = equal-digit 6 _ r refl h
digit-equal (suc (suc (suc (suc (suc (suc (suc zero))))))) r h = equal-digit 7 _ r refl h
digit-equal (suc (suc (suc (suc (suc (suc (suc (suc zero)))))))) r h = equal-digit 8 _ r refl h
digit-equal (suc (suc (suc (suc (suc (suc (suc (suc (suc zero))))))))) r h = equal-digit 9 _ r refl h
digit-equal (suc (suc (suc (suc (suc (suc (suc (suc (suc (suc zero)))))))))) r h = equal-digit 10 _ r refl h
digit-equal (suc (suc (suc (suc (suc (suc (suc (suc (suc (suc (suc zero))))))))))) r h = equal-digit 11 _ r refl h
digit-equal (suc (suc (suc (suc (suc (suc (suc (suc (suc (suc (suc (suc zero)))))))))))) r h = equal-digit 12 _ r refl h
digit-equal (suc (suc (suc (suc (suc (suc (suc (suc (suc (suc (suc (suc (suc zero))))))))))))) r h = equal-digit 13 _ r refl h
digit-equal (suc (suc (suc (suc (suc (suc (suc (suc (suc (suc (suc (suc (suc (suc zero)))))))))))))) r h = equal-digit 14 _ r refl h
digit-equal (suc (suc (suc (suc (suc (suc (suc (suc (suc (suc (suc (suc (suc (suc (suc zero))))))))))))))) r h = equal-digit 15 _ r refl h
digit-equal (suc (suc (suc (suc (suc (suc (suc (suc (suc (suc (suc (suc (suc (suc (suc (suc n)))))))))))))))) r h = refl

order-digit : (n c : ℕ) (r : Ordering) → slice_index lower_digits n ≡ c → r ≡ Equal → order_then n r (digit_value c) ≡ Equal
order-digit n c r e h = ap (λ v. order_then n r (digit_value v)) (sym e) ∙ digit-equal n r h

order-begins : (bs p : List ℕ) → take (length p) (encode_with lower_digits bs) ≡ p → order_of (nibbles bs) p ≡ Equal
unfolding encode_with
order-begins [] [] h = refl
order-begins [] (c ∷ cs) h = cc h
order-begins (b ∷ bs) [] h = refl
order-begins (b ∷ bs) (c ∷ []) h = order-digit (b / 16) c _ (let e : slice_index lower_digits (b / 16) ≡ c = cc h in e) refl
order-begins (b ∷ bs) (c ∷ d ∷ cs) h =
    order-digit (b / 16) c _ (let e : slice_index lower_digits (b / 16) ≡ c = cc h in e)
    (order-digit (b % 16) d _ (let e : slice_index lower_digits (b % 16) ≡ d = cc h in e)
    (order-begins bs cs (let e : take (length cs) (encode_with lower_digits bs) ≡ cs = cc h in e)))

same-bytes : (xs ys : List ℕ) → bytes_eq xs ys ≡ true → xs ≡ ys
same-bytes xs ys h = (bytes_eq-Decides xs ys).0 h

pub begins-within : (prefix digest : List ℕ) → machine.begins prefix digest ≡ true → is_within prefix digest ≡ true
begins-within prefix digest h = ap is_eq (order-begins digest prefix (same-bytes (take (length prefix) (encode_lower digest)) prefix h))

paged-begins : (prefix : List ℕ) (n : Name) (b c : Bool) → (b && c) ≡ true → b ≡ true
paged-begins prefix n true c h = refl
paged-begins prefix n false c h = h

pub paged-within : (prefix : List ℕ) (n : Name) → machine.is_paged prefix n ≡ true → is_within prefix n.digest ≡ true
paged-within prefix n h = begins-within prefix n.digest (paged-begins prefix n (machine.begins prefix n.digest) (is_none n.deadline) h)

-- a page from one bucket more
pub page-step : {A B : Type 0} (f : A → B) (p : A → Bool) (out new : List B) (xs ys zs : List A) → new ≡ out ++ map f (filter p xs) → zs ≡ xs ++ ys → new ++ map f (filter p ys) ≡ out ++ map f (filter p zs)
page-step f p out new xs ys zs e z =
    ap (λ v. v ++ map f (filter p ys)) e ∙ append_assoc out (map f (filter p xs)) (map f (filter p ys))
    ∙ ap (λ v. out ++ v) (sym (map-append f (filter p xs) (filter p ys)) ∙ ap (map f) (sym (filter-append p xs ys) ∙ ap (filter p) (sym z)))

pub page-end : {A B : Type 0} (f : A → B) (p : A → Bool) (out : List B) (xs : List A) → xs ≡ [] → out ≡ out ++ map f (filter p xs)
page-end f p out xs e = sym (append-nil out) ∙ ap (λ v. out ++ map f (filter p v)) (sym e)

-- ---- the copies of a digest
first-true : (b c : Bool) → (b && c) ≡ true → b ≡ true
first-true true c h = refl
first-true false c h = h

pub no-copy : (digest : List ℕ) (es : List (Name × Metadata)) → filter (λ e. bytes_eq e.0.digest digest) es ≡ [] → None ≡ last_or None (filter (λ e. machine.is_copy_of digest e.0) es)
no-copy digest es h = ap (λ (v : List (Name × Metadata)). last_or None (filter (λ e. is_some e.0.deadline) v)) (sym h) ∙ ap (last_or None) (filter-both (λ e. is_some e.0.deadline) (λ e. bytes_eq e.0.digest digest) es)

digest-step : (digest : List ℕ) (b : Bool) (o : Option (Name × Metadata)) (e : Name × Metadata) (es : List (Name × Metadata)) → (b ≡ true → e.0.digest ≡ digest) → IfSome o (λ e. e.0.digest ≡ digest)
    → ((o : Option (Name × Metadata)) → IfSome o (λ e. e.0.digest ≡ digest) → IfSome (last_or o es) (λ e. e.0.digest ≡ digest)) → IfSome (last_or o (cond b (e ∷ es) es)) (λ e. e.0.digest ≡ digest)
digest-step digest true o e es own h rest = rest (Some e) (own refl)
digest-step digest false o e es own h rest = rest o h

last-from : (digest : List ℕ) (es : List (Name × Metadata)) (o : Option (Name × Metadata)) → IfSome o (λ e. e.0.digest ≡ digest) → IfSome (last_or o (filter (λ e. machine.is_copy_of digest e.0) es)) (λ e. e.0.digest ≡ digest)
last-from digest [] o h = h
last-from digest (e ∷ es) o h = digest-step digest (machine.is_copy_of digest e.0) o e (filter (λ e. machine.is_copy_of digest e.0) es) (λ t. same-bytes e.0.digest digest (first-true (bytes_eq e.0.digest digest) (is_some e.0.deadline) t)) h (last-from digest es)

pub last-digest : (digest : List ℕ) (es : List (Name × Metadata)) (last : Option (Name × Metadata)) → last ≡ last_or None (filter (λ e. machine.is_copy_of digest e.0) es) → IfSome last (λ e. e.0.digest ≡ digest)
last-digest digest es last is = subst (λ (o : Option (Name × Metadata)). IfSome o (λ e. e.0.digest ≡ digest)) (sym is) (last-from digest es None tt)

pub none-later : (p : Name × Metadata → Bool) (o : Option (Name × Metadata)) (es : List (Name × Metadata)) → length es ≡ 0 → o ≡ last_or o (filter p es)
none-later p o [] e = refl
none-later p o (x ∷ es) e = absurd (omega arith)
