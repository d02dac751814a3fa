-- Where blocks begin among others.
-- Laws: `start-le`, `missing`, `start-push`, `total-push`.
use Rattle.std.proofs.Common.{◌≡◌, ℕ, ◌+◌, ◌≤◌, Bool, true, false, cond, List, [], ◌∷◌, ◌++◌, Option, Some, None, option_map, refl, ap, sym, ◌∙◌, arith, zero-add}
use Rattle.std.specs.Str.{bytes_eq}
use Rattle.std.proofs.lemmas.Bool.{false≢true}
use Rattle.std.proofs.lemmas.List.Sums.{sum_by-cons, sum_by-append}
use Rattle.std.proofs.lemmas.Option.{none-some, same_Some}
use lib.Pointwise.{bytes_decides}
use Rattle.keep_spec.specs.Locator.{size}
use Rattle.keep_spec.specs.Manifest.{total_size}
use Rattle.keep_normal.specs.Normal.{start_at}

-- the start among a block and others, by whether it is that block
abbrev pub start_by : ℕ → Bool → Option ℕ → Option ℕ
start_by n b o = cond b (Some 0) (option_map (λ k. n + k) o)

least_by : (b : List ℕ) (bs : List (List ℕ)) (l : List ℕ) (n : ℕ) (e : Bool) (o : Option ℕ) → bytes_eq b l ≡ e → start_at bs l ≡ o → ((k : ℕ) → o ≡ Some k → k ≤ total_size bs) → start_at (b ∷ bs) l ≡ Some n → n ≤ total_size (b ∷ bs)
least_by b bs l n true o e h₂ rest h = let zero : 0 ≡ n = same_Some 0 n (sym (ap (λ t. start_by (size b) t (start_at bs l)) e) ∙ h) in omega (arith, zero)
least_by b bs l n false None e h₂ rest h = absurd (none-some n (sym (ap (λ t. start_by (size b) t (start_at bs l)) e ∙ ap (start_by (size b) false) h₂) ∙ h))
least_by b bs l n false (Some k) e h₂ rest h =
    let here : size b + k ≡ n = same_Some (size b + k) n (sym (ap (λ t. start_by (size b) t (start_at bs l)) e ∙ ap (start_by (size b) false) h₂) ∙ h) in
    omega (arith, here, rest k refl, sum_by-cons size b bs)

pub start-le : (bs : List (List ℕ)) (l : List ℕ) (n : ℕ) → start_at bs l ≡ Some n → n ≤ total_size bs
start-le [] l n h = absurd (none-some n h)
start-le (b ∷ bs) l n h = least_by b bs l n (bytes_eq b l) (start_at bs l) refl refl (start-le bs l) h

-- a block that is none of these
pub missing : (b : List ℕ) (bs : List (List ℕ)) (l : List ℕ) → start_at (b ∷ bs) l ≡ None → (bytes_eq b l ≡ false) × (start_at bs l ≡ None)
missing b bs l h = by_first (bytes_eq b l) refl (start_at bs l) refl
  where
    by_first : (e : Bool) → bytes_eq b l ≡ e → (o : Option ℕ) → start_at bs l ≡ o → (bytes_eq b l ≡ false) × (start_at bs l ≡ None)
    by_first true e o h₂ = absurd (none-some 0 (sym h ∙ ap (λ t. start_by (size b) t (start_at bs l)) e))
    by_first false e None h₂ = (e, h₂)
    by_first false e (Some k) h₂ = absurd (none-some (size b + k) (sym h ∙ ap (λ t. start_by (size b) t (start_at bs l)) e ∙ ap (start_by (size b) false) h₂))

pushed_by : (n total : ℕ) (here new : Bool) (o : Option ℕ) → (new ≡ true → here ≡ false) → start_by n here (cond new (Some total) o) ≡ cond new (Some (n + total)) (start_by n here o)
pushed_by n total true true o apart = absurd (false≢true (sym (apart refl)))
pushed_by n total false true o apart = refl
pushed_by n total true false o apart = refl
pushed_by n total false false o apart = refl

-- a new block lies after the others
pub start-push : (bs : List (List ℕ)) (l q : List ℕ) → start_at bs l ≡ None → start_at (bs ++ l ∷ []) q ≡ cond (bytes_eq l q) (Some (total_size bs)) (start_at bs q)
start-push [] l q h = refl
start-push (b ∷ bs) l q h =
    let parts = missing b bs l h in
    let apart : bytes_eq l q ≡ true → bytes_eq b q ≡ false = λ e. ap (bytes_eq b) (sym ((bytes_decides l q).0 e)) ∙ parts.0 in
    ap (start_by (size b) (bytes_eq b q)) (start-push bs l q parts.1)
    ∙ pushed_by (size b) (total_size bs) (bytes_eq b q) (bytes_eq l q) (start_at bs q) apart
    ∙ ap (λ n. cond (bytes_eq l q) (Some n) (start_at (b ∷ bs) q)) (sym (sum_by-cons size b bs))

pub total-push : (bs : List (List ℕ)) (l : List ℕ) → total_size (bs ++ l ∷ []) ≡ total_size bs + size l
total-push bs l = sum_by-append size bs (l ∷ []) ∙ ap (λ n. total_size bs + n) (zero-add (size l))
