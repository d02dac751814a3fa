-- The number of a token of a configuration is at most the number of its tokens.
use Rattle.std.proofs.Common.{◌≡◌, ◌≤◌, ◌<◌, ◌+◌, ℕ, Bool, true, false, cond, List, [], ◌∷◌, length, arith, Option, Some, None, refl}
use Rattle.std.specs.Prelude.{option_map, bytes_eq}
use Rattle.std.specs.List.{position_from}
use Rattle.keep_spec.specs.Config.{Configuration, token_of}
use Rattle.keep_spec.specs.declared.token.TokenId.{TokenId}

found-below : (b : Bool) (i n most : ℕ) (rest : Option ℕ) → i < most → (rest ≡ Some n → n < most) → cond b (Some i) rest ≡ Some n → n < most
found-below true i n most rest here next e = let same : i ≡ n = cc in omega arith
found-below false i n most rest here next e = next e

position-below : {X : Type 0} (test : X → Bool) (i n : ℕ) (xs : List X) → position_from test i xs ≡ Some n → n < i + length xs
position-below test i n [] e = absurd (cc)
position-below test i n (x ∷ xs) e = found-below (test x) i n (i + length (x ∷ xs)) (position_from test (i + 1) xs) (omega arith) (λ f. (let below = position-below test (i + 1) n xs f in omega arith)) e

numbered : (o : Option ℕ) (owner : TokenId) (most : ℕ) → ((n : ℕ) → o ≡ Some n → n < most) → option_map (λ n. record { number = n }) o ≡ Some owner → owner.number < most
numbered None owner most below e = absurd (cc)
numbered (Some n) owner most below e = let same : n ≡ owner.number = cc in let less = below n refl in omega arith

pub token-below : (c : Configuration) (text : List ℕ) (owner : TokenId) → token_of c text ≡ Some owner → owner.number ≤ length c.tokens
token-below c text owner e =
    let less = numbered (position_from (bytes_eq text) 0 (c.system_token ∷ c.tokens)) owner (length (c.system_token ∷ c.tokens)) (λ n f. (let below = position-below (bytes_eq text) 0 n (c.system_token ∷ c.tokens) f in omega arith)) e in
    omega arith
