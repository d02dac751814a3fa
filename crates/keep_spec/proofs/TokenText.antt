-- The first token of a text, and a text with each of its locators changed, token by token.
use Rattle.std.proofs.Common.{◌≡◌, ℕ, suc, ◌+◌, ◌<◌, Bool, not, List, [], ◌∷◌, ◌++◌, length, take, drop, if◌then◌else◌, inl, inr, refl, sym, ap, ◌∙◌, arith, append-nil}
use Rattle.std.specs.List.{prefix_len, onto_first, flat_map}
use Rattle.std.proofs.lemmas.Bool.{cases_Bool}
use Rattle.std.proofs.lemmas.List.{drop-take, take-take, drop-drop}
use Rattle.std.proofs.lemmas.List.Folds.{length-prefix_len}
use Rattle.keep_spec.specs.SignedText.{ends_token, cut_tokens, token_of, changed, with_locators}
use Rattle.keep_spec.proofs.Fronts.{prefix_len-yes, prefix_len-no, prefix_len-take}

abbrev in_token : ℕ → Bool
in_token c = not (ends_token c)

-- the first piece goes up to and with what ends it
abbrev IsFirst : ℕ → List ℕ → Type 0
IsFirst x xs = cut_tokens (x ∷ xs) ≡ take (suc (prefix_len in_token (x ∷ xs))) (x ∷ xs) ∷ cut_tokens (drop (suc (prefix_len in_token (x ∷ xs))) (x ∷ xs))

first-by : (x : ℕ) (xs : List ℕ) → onto_first x (cut_tokens xs) ≡ (x ∷ take (suc (prefix_len in_token xs)) xs) ∷ cut_tokens (drop (suc (prefix_len in_token xs)) xs) → IsFirst x xs
unfolding cut_tokens
first-by x xs onto =
    let cut : Bool → List (List ℕ) = λ b. if b then (x ∷ []) ∷ cut_tokens xs else onto_first x (cut_tokens xs) in
    elim (cases_Bool (ends_token x)) [
      | inl ends ↦ ap cut ends ∙ sym (ap (λ n. take (suc n) (x ∷ xs) ∷ cut_tokens (drop (suc n) (x ∷ xs))) (prefix_len-no in_token x xs (ap not ends)))
      | inr goes ↦ ap cut goes ∙ onto ∙ sym (ap (λ n. take (suc n) (x ∷ xs) ∷ cut_tokens (drop (suc n) (x ∷ xs))) (prefix_len-yes in_token x xs (ap not goes)))
    ]

cut-first : (x : ℕ) (xs : List ℕ) → IsFirst x xs
unfolding cut_tokens
cut-first x [] = first-by x [] refl
cut-first x (y ∷ ys) = first-by x (y ∷ ys) (ap (onto_first x) (cut-first y ys))

-- what becomes of a piece
abbrev piece_through : (List ℕ → List ℕ) → List ℕ → List ℕ
piece_through f piece = changed f (token_of piece) ++ drop (length (token_of piece)) piece

token-front : (text : List ℕ) → token_of (take (suc (prefix_len in_token text)) text) ≡ take (prefix_len in_token text) text
token-front text =
    let k = prefix_len in_token text in
    let piece = take (suc k) text in
    ap (λ n. take n piece) (prefix_len-take in_token (suc k) text ∙ omega arith) ∙ take-take k (suc k) text (omega arith)

token-end : (text : List ℕ) → drop (length (token_of (take (suc (prefix_len in_token text)) text))) (take (suc (prefix_len in_token text)) text) ≡ take 1 (drop (prefix_len in_token text) text)
token-end text =
    let k = prefix_len in_token text in
    let one : suc k ≡ k + 1 = omega arith in
    ap (λ t. drop (length t) (take (suc k) text)) (token-front text)
    ∙ ap (λ n. drop n (take (suc k) text)) (length-prefix_len in_token text)
    ∙ ap (λ n. drop k (take n text)) one ∙ drop-take k 1 text

-- a text that isn't empty: its first token, what ends it, and the text behind
pub first-token : (f : List ℕ → List ℕ) (text token end behind : List ℕ) → 0 < length text
    → token ≡ take (prefix_len in_token text) text
    → end ≡ take 1 (drop (prefix_len in_token text) text)
    → behind ≡ drop 1 (drop (prefix_len in_token text) text)
    → with_locators f text ≡ changed f token ++ end ++ with_locators f behind
unfolding with_locators
first-token f [] token end behind some e₁ e₂ e₃ = absurd (omega (arith, some))
first-token f (x ∷ xs) token end behind some e₁ e₂ e₃ =
    let text : List ℕ = x ∷ xs in
    let k = prefix_len in_token text in
    let rest : List ℕ → List ℕ = λ zs. flat_map (piece_through f) (cut_tokens zs) in
    let one : k + 1 ≡ suc k = omega arith in
    let back : behind ≡ drop (suc k) text = e₃ ∙ drop-drop 1 k text ∙ ap (λ n. drop n text) one in
    let piece : piece_through f (take (suc k) text) ≡ changed f token ++ end =
    ap (λ t. changed f t ++ drop (length (token_of (take (suc k) text))) (take (suc k) text)) (token-front text ∙ sym e₁)
    ∙ ap (λ t. changed f token ++ t) (token-end text ∙ sym e₂) in
    ap (flat_map (piece_through f)) (cut-first x xs)
    ∙ ap (λ t. t ++ rest (drop (suc k) text)) piece
    ∙ ap (λ t. changed f token ++ end ++ rest t) (sym back)

pub no-token : (f : List ℕ → List ℕ) → with_locators f [] ≡ []
unfolding with_locators cut_tokens
no-token f = refl

-- nothing is left
pub all-through : (f : List ℕ → List ℕ) (out rest text : List ℕ) → rest ≡ [] → out ++ with_locators f rest ≡ with_locators f text → out ≡ with_locators f text
all-through f out rest text none so_far = sym (append-nil out) ∙ ap (λ x. out ++ x) (sym (ap (with_locators f) none ∙ no-token f)) ∙ so_far
