-- A key filled with zeros to one block and xored with a pad.
-- Laws: `padded_is`.
use Rattle.std.proofs.Common.{◌≡◌, ℕ, ◌+◌, ◌-◌, ◌<◌, ◌≤◌, List, ◌++◌, length, replicate, get_or, bit_xor, arith, refl, sym, ◌∙◌, ap, inl, inr, length-append}
use Rattle.std.proofs.lemmas.Bool.{cases_lt}
use Rattle.std.proofs.lemmas.List.{ext_get_or, length-map, length-replicate, get_or-map, get_or-replicate, get_or_append_left, get_or-append_right, get_or_past}
use Rattle.keep_spec.specs.Sign.{padded_key}

-- a key is read as if zeros followed
get_or-zeros : (key : List ℕ) (n k : ℕ) → k < length key + n → get_or (key ++ replicate n 0) k 0 ≡ get_or key k 0
get_or-zeros key n k lt =
    elim (cases_lt k (length key)) as (λ _. get_or (key ++ replicate n 0) k 0 ≡ get_or key k 0) [
      | inl in_key ↦ get_or_append_left key (replicate n 0) 0 k in_key
      | inr past ↦ get_or-append_right key (replicate n 0) (length key) k 0 refl past ∙ get_or-replicate n (k - length key) 0 0 (omega arith) ∙ sym (get_or_past key k 0 past)
    ]

length-zeros : (key : List ℕ) → length key ≤ 64 → length (key ++ replicate (64 - length key) 0) ≡ 64
length-zeros key le = omega (arith, length-append key (replicate (64 - length key) 0), length-replicate {A = ℕ} (64 - length key) 0)

pub padded_is : (block key : List ℕ) (pad : ℕ) → length key ≤ 64 → length block ≡ 64 → ((k : ℕ) → k < 64 → get_or block k 0 ≡ bit_xor (get_or key k 0) pad) → block ≡ padded_key key pad
padded_is block key pad le len done =
    let zeros = key ++ replicate (64 - length key) 0 in
    let whole : length zeros ≡ 64 = length-zeros key le in
    ext_get_or 0 block (padded_key key pad) (len ∙ sym (length-map zeros (λ b. bit_xor b pad) ∙ whole))
    (λ k lt.
    done k (omega arith)
    ∙ ap (λ b. bit_xor b pad) (sym (get_or-zeros key (64 - length key) k (omega arith)))
    ∙ sym (get_or-map (λ b. bit_xor b pad) zeros k 0 0 (omega arith)))
