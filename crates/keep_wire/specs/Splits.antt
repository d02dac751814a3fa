-- Laws: two ways to cut one list.
use Rattle.std.proofs.Common.{◌≡◌, ℕ, List, [], ◌∷◌, ◌++◌, refl, inl, inr, ◌⊎◌, All}
use Rattle.std.proofs.lemmas.List.Elements.{All-head, All-tail, All-nil, All-cons}

-- the second list begins with the first, or the first with the second
abbrev pub Cuts : List ℕ → List ℕ → List ℕ → List ℕ → Type 0
Cuts a b c d = ((e : List ℕ) × (a ≡ c ++ e) × (e ++ b ≡ d)) ⊎ ((x : ℕ) × (e : List ℕ) × (c ≡ a ++ x ∷ e) × (b ≡ x ∷ e ++ d))

pub cuts : (a b c d : List ℕ) → a ++ b ≡ c ++ d → Cuts a b c d
cuts [] b [] d h = inl ([], refl, h)
cuts [] b (y ∷ c) d h = inr (y, c, refl, h)
cuts (x ∷ a) b [] d h = inl (x ∷ a, refl, h)
cuts (x ∷ a) b (y ∷ c) d h =
    let head : x ≡ y = cc in
    let tail : a ++ b ≡ c ++ d = cc in
    elim (cuts a b c d tail) as (λ _. Cuts (x ∷ a) b (y ∷ c) d) [
      | inl t ↦ inl (t.0, cc (t.1), t.2)
      | inr t ↦ inr (t.0, t.1, cc (t.2), t.3)
    ]

pub All-front : (P : ℕ → Type 0) (a b : List ℕ) → All P (a ++ b) → All P a
All-front P [] b all = All-nil P
All-front P (x ∷ a) b all = All-cons P x a (All-head P x (a ++ b) all) (All-front P a b (All-tail P x (a ++ b) all))
