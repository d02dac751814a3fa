-- The pages that a round asks for: each device and each prefix once.
use Rattle.std.proofs.Common.{◌≡◌, ◌<◌, ℕ, zero, suc, List, [], ◌∷◌, ◌++◌, length, map, count_by, Bool, true, false, refl, sym, ◌∙◌, ap, subst, arith, nat_eq, if◌then◌else◌}
use Rattle.std.specs.Prelude.{◌==◌}
use Rattle.std.specs.Str.{bytes_eq}
use Rattle.std.proofs.lemmas.Bool.{eq-eqb, eqb-true}
use Rattle.keep_spec.specs.Config.{Configuration}
use Rattle.keep_spec.specs.Members.{IsIn, numbers_from}
use Rattle.keep_history.specs.Rounds.{digits, longer, prefixes}
use Rattle.keep_order.proofs.Distinct.{numbers-distinct, number-bounds, number-in}
use Rattle.keep_order.proofs.Lists.{in-map, map-in, in-joined, joined-in}
use Rattle.keep_safety.proofs.Names.{bytes-eq, bytes-same}
use Rattle.keep_history.specs.Balance.{device_numbers, page_on, all_pages}
use Rattle.keep_rounds.proofs.Apart.{AreApart, numbers-apart, apart-mapped, apart-joined-two, apart-joined, once-counted}

-- ---- prefixes
pub record Ends (p q : List ℕ) (x y : ℕ) : Type 0 where
  pub front : p ≡ q
  pub last : x ≡ y

abbrev head_or : ℕ → List ℕ → ℕ
head_or d [] = d
head_or d (x ∷ xs) = x

abbrev tail_of : List ℕ → List ℕ
tail_of [] = []
tail_of (x ∷ xs) = xs

not-empty : (p : List ℕ) (x : ℕ) → p ++ x ∷ [] ≡ [] → ⊥
not-empty [] x e = cc e
not-empty (a ∷ p) x e = cc e

later-same : (a b x y : ℕ) (p q : List ℕ) → a ≡ b → Ends p q x y → Ends (a ∷ p) (b ∷ q) x y
later-same a b x y p q e r = record { front = ap (λ v. v ∷ p) e ∙ ap (λ v. b ∷ v) r.front; last = r.last }

last-same : (p q : List ℕ) (x y : ℕ) → p ++ x ∷ [] ≡ q ++ y ∷ [] → Ends p q x y
last-same [] [] x y e = record { front = refl; last = ap (head_or 0) e }
last-same [] (b ∷ q) x y e = absurd (not-empty q y (sym (ap tail_of e)))
last-same (a ∷ p) [] x y e = absurd (not-empty p x (ap tail_of e))
last-same (a ∷ p) (b ∷ q) x y e = later-same a b x y p q (ap (head_or 0) e) (last-same p q x y (ap tail_of e))

digits-apart : AreApart digits
digits-apart =
    apart-joined-two (numbers_from 48 10) (numbers_from 97 6)
    (numbers-apart (numbers_from 48 10) (numbers-distinct 48 10))
    (numbers-apart (numbers_from 97 6) (numbers-distinct 97 6))
    (λ z i j. (let low = number-bounds 48 10 z i in let high = number-bounds 97 6 z j in omega (arith, low.1, high.0)))

longer-apart : (ps : List (List ℕ)) → AreApart ps → AreApart (longer ps)
longer-apart ps h =
    apart-joined (λ p. map (λ x. p ++ x ∷ []) digits) ps
    (λ p. apart-mapped (λ x. p ++ x ∷ []) digits (λ a b e. (last-same p p a b e).last) digits-apart)
    (λ p q z i j. (let a = in-map (λ x. p ++ x ∷ []) z digits i in let b = in-map (λ x. q ++ x ∷ []) z digits j in (last-same p q a.from b.from (sym a.is ∙ b.is)).front))
    h

pub prefixes-apart : (n : ℕ) → AreApart (prefixes n)
prefixes-apart zero = (λ i. i, tt)
prefixes-apart (suc n) = longer-apart (prefixes n) (prefixes-apart n)

-- ---- pages
page-device : (d k : ℕ) (p q : List ℕ) → page_on d p ≡ page_on k q → d ≡ k
page-device d k p q e = ap (λ (x : ℕ × List ℕ). x.0) e

page-prefix : (d k : ℕ) (p q : List ℕ) → page_on d p ≡ page_on k q → p ≡ q
page-prefix d k p q e = ap (λ (x : ℕ × List ℕ). x.1) e

pages-apart : (c : Configuration) → AreApart (all_pages c)
pages-apart c =
    apart-joined (λ d. map (page_on d) (prefixes c.index_digits)) (device_numbers c)
    (λ d. apart-mapped (page_on d) (prefixes c.index_digits) (λ p q e. page-prefix d d p q e) (prefixes-apart c.index_digits))
    (λ d k z i j. (let a = in-map (page_on d) z (prefixes c.index_digits) i in let b = in-map (page_on k) z (prefixes c.index_digits) j in page-device d k a.from b.from (sym a.is ∙ b.is)))
    (numbers-apart (device_numbers c) (numbers-distinct 0 (length c.devices)))

pub device-in : (c : Configuration) (d : ℕ) → d < length c.devices → IsIn d (device_numbers c)
device-in c d lt = number-in 0 (length c.devices) d (omega arith) (omega arith)

page-in : (c : Configuration) (d : ℕ) (prefix : List ℕ) → d < length c.devices → IsIn prefix (prefixes c.index_digits) → IsIn (page_on d prefix) (all_pages c)
page-in c d prefix lt i = joined-in (λ d. map (page_on d) (prefixes c.index_digits)) d (page_on d prefix) (device_numbers c) (device-in c d lt) (map-in (page_on d) prefix (prefixes c.index_digits) i)

pub prefix-in : (c : Configuration) (x : ℕ × List ℕ) → IsIn x (all_pages c) → IsIn x.1 (prefixes c.index_digits)
prefix-in c x i =
    let o = in-joined (λ d. map (page_on d) (prefixes c.index_digits)) x (device_numbers c) i in
    let a = in-map (page_on o.from) x (prefixes c.index_digits) o.has in
    subst (λ (v : ℕ × List ℕ). IsIn v.1 (prefixes c.index_digits)) (sym a.is) a.member

abbrev pub is_wanted : ℕ → List ℕ → ℕ × List ℕ → Bool
is_wanted d prefix x = if x.0 == d then bytes_eq x.1 prefix else false

wanted-is : (d : ℕ) (prefix : List ℕ) (x : ℕ × List ℕ) → is_wanted d prefix x ≡ true → page_on d prefix ≡ x
wanted-is d prefix x e = by (nat_eq x.0 d) refl e
  where
    by : (b : Bool) → nat_eq x.0 d ≡ b → (if b then bytes_eq x.1 prefix else false) ≡ true → page_on d prefix ≡ x
    by true same e = ap (λ v. page_on v prefix) (sym (eqb-true x.0 d same)) ∙ ap (page_on x.0) (sym (bytes-same x.1 prefix e))
    by false same e = cc e

is-wanted : (d : ℕ) (prefix : List ℕ) → is_wanted d prefix (page_on d prefix) ≡ true
is-wanted d prefix = ap (λ b. if b then bytes_eq prefix prefix else false) (eq-eqb d d refl) ∙ bytes-eq prefix prefix refl

pub wanted-once : (c : Configuration) (d : ℕ) (prefix : List ℕ) → d < length c.devices → IsIn prefix (prefixes c.index_digits) → count_by (is_wanted d prefix) (all_pages c) ≡ 1
wanted-once c d prefix lt i =
    once-counted (is_wanted d prefix) (page_on d prefix) (λ y e. wanted-is d prefix y e) (is-wanted d prefix) (all_pages c) (pages-apart c) (page-in c d prefix lt i)
