-- The past of one event more: `past-next`; how long it is: `past-length`.
use Rattle.std.proofs.Common.{◌≡◌, ◌+◌, ◌<◌, ℕ, List, [], ◌∷◌, length, take, reverse, sym, ◌∙◌, ap, get_or, arith}
use Rattle.std.proofs.lemmas.List.{reverse-append, take_more, length-reverse, length-take-le}

pub past-next : {X : Type 0} (xs : List X) (i : ℕ) (x : X) → i < length xs → x ≡ get_or xs i x → reverse (take (i + 1) xs) ≡ x ∷ reverse (take i xs)
past-next xs i x lt e =
    ap reverse (take_more xs i x lt) ∙ reverse-append (take i xs) (get_or xs i x ∷ []) ∙ ap (λ v. v ∷ reverse (take i xs)) (sym e)

pub past-length : {X : Type 0} (xs : List X) (i : ℕ) → i < length xs → length (reverse (take i xs)) ≡ i
past-length xs i lt = length-reverse (take i xs) ∙ length-take-le i xs (omega arith)
