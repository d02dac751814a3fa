-- For code that counts: devices and prefixes by their numbers.
use Rattle.std.proofs.Common.{◌≡◌, ◌<◌, ◌+◌, ◌-◌, ◌*◌, ◌/◌, ◌%◌, ◌^◌, ℕ, zero, suc, List, [], ◌∷◌, ◌++◌, map, drop, get_or, refl, sym, ◌∙◌, ap, arith}
use Rattle.std.proofs.lemmas.Nat.{div-mul-add, mod-mul-add}
use Rattle.keep_spec.specs.Members.{numbers_from}
use Rattle.keep_history.specs.Rounds.{digits, longer, prefixes}

-- ---- numbers
pub drop-numbers : (k i n : ℕ) → drop k (numbers_from i n) ≡ numbers_from (i + k) (n - k)
drop-numbers zero i n = (let e : i + 0 ≡ i = omega arith in let f : n - 0 ≡ n = omega arith in rw (e, f) refl)
drop-numbers (suc k) i zero = (let f : 0 - suc k ≡ 0 = omega arith in rw f refl)
drop-numbers (suc k) i (suc n) =
    (let e : i + 1 + k ≡ i + suc k = omega arith in
    let f : n - k ≡ suc n - suc k = omega arith in
    drop-numbers k (i + 1) n ∙ ap (λ v. numbers_from v (n - k)) e ∙ ap (numbers_from (i + suc k)) f)

pub numbers-split : (a b i : ℕ) → numbers_from i (a + b) ≡ numbers_from i a ++ numbers_from (i + a) b
numbers-split zero b i = (let e : 0 + b ≡ b = omega arith in let f : i + 0 ≡ i = omega arith in rw (e, f) refl)
numbers-split (suc a) b i =
    (let e : suc a + b ≡ suc (a + b) = omega arith in
    let f : i + 1 + a ≡ i + suc a = omega arith in
    ap (numbers_from i) e ∙ ap (λ v. i ∷ v) (numbers-split a b (i + 1) ∙ ap (λ v. numbers_from (i + 1) a ++ numbers_from v b) f))

-- ---- the text of a prefix by its number
abbrev pub digit_of : ℕ → ℕ
digit_of x = get_or digits x 0

abbrev pub prefix_text : ℕ → ℕ → List ℕ
prefix_text zero j = []
prefix_text (suc n) j = prefix_text n (j / 16) ++ digit_of (j % 16) ∷ []

map-append : {X Y : Type 0} (f : X → Y) (xs ys : List X) → map f (xs ++ ys) ≡ map f xs ++ map f ys
map-append f [] ys = refl
map-append f (x ∷ xs) ys = ap (λ v. f x ∷ v) (map-append f xs ys)

-- sixteen texts that begin alike
last-digits : (n i k m : ℕ) → k + m ≡ 16 → map (prefix_text (suc n)) (numbers_from (i * 16 + k) m) ≡ map (λ x. prefix_text n i ++ digit_of x ∷ []) (numbers_from k m)
last-digits n i k zero e = refl
last-digits n i k (suc m) e =
    (let lt : k < 16 = omega arith in
    let next : i * 16 + k + 1 ≡ i * 16 + (k + 1) = omega arith in
    ap (λ v. v ∷ map (prefix_text (suc n)) (numbers_from (i * 16 + k + 1) m))
    (ap (λ v. prefix_text n v ++ digit_of ((i * 16 + k) % 16) ∷ []) (div-mul-add i 16 k lt) ∙ ap (λ v. prefix_text n i ++ digit_of v ∷ []) (mod-mul-add i 16 k lt))
    ∙ ap (λ v. (prefix_text n i ++ digit_of k ∷ []) ∷ map (prefix_text (suc n)) (numbers_from v m)) next
    ∙ ap (λ v. (prefix_text n i ++ digit_of k ∷ []) ∷ v) (last-digits n i (k + 1) m (omega arith)))

all-longer : (n m i : ℕ) → map (prefix_text (suc n)) (numbers_from (i * 16) (m * 16)) ≡ longer (map (prefix_text n) (numbers_from i m))
all-longer n zero i = refl
all-longer n (suc m) i =
    (let e : suc m * 16 ≡ 16 + m * 16 = omega arith in
    let f : i * 16 + 16 ≡ (i + 1) * 16 = omega arith in
    let g : i * 16 ≡ i * 16 + 0 = omega arith in
    ap (λ v. map (prefix_text (suc n)) (numbers_from (i * 16) v)) e
    ∙ ap (map (prefix_text (suc n))) (numbers-split 16 (m * 16) (i * 16))
    ∙ map-append (prefix_text (suc n)) (numbers_from (i * 16) 16) (numbers_from (i * 16 + 16) (m * 16))
    ∙ ap (λ v. map (prefix_text (suc n)) (numbers_from v 16) ++ map (prefix_text (suc n)) (numbers_from (i * 16 + 16) (m * 16))) g
    ∙ ap (λ v. v ++ map (prefix_text (suc n)) (numbers_from (i * 16 + 16) (m * 16))) (last-digits n i 0 16 refl)
    ∙ ap (λ v. map (λ x. prefix_text n i ++ digit_of x ∷ []) (numbers_from 0 16) ++ map (prefix_text (suc n)) (numbers_from v (m * 16))) f
    ∙ ap (λ v. map (λ x. prefix_text n i ++ digit_of x ∷ []) (numbers_from 0 16) ++ v) (all-longer n m (i + 1)))

-- the prefixes of so many digits are the texts of the numbers below 16 to that power
pub prefixes-numbered : (n : ℕ) → prefixes n ≡ map (prefix_text n) (numbers_from 0 (16 ^ n))
prefixes-numbered zero = refl
prefixes-numbered (suc n) =
    (let e : 16 ^ suc n ≡ 16 ^ n * 16 = omega arith in
    ap longer (prefixes-numbered n) ∙ sym (all-longer n (16 ^ n) 0) ∙ ap (λ v. map (prefix_text (suc n)) (numbers_from 0 v)) (sym e))
