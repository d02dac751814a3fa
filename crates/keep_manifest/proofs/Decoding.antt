-- What names written in a manifest stand for.
-- Laws: `decode_escape`, `decode_double`, `decode_plain`, `decode_nothing`, `decode_encode`.
use Rattle.std.proofs.Common.{◌≡◌, ℕ, ◌+◌, ◌/◌, ◌%◌, ◌<◌, eqb, Bool, true, false, cond, List, [], ◌∷◌, ◌++◌, length, drop, get_or, refl, ap, ◌∙◌, arith}
use Rattle.std.proofs.lemmas.Bool.Decides.{nat_tests}
use Rattle.keep_spec.specs.Names.{decode, octal_value, is_code, encode, encode_byte, is_escaped}
use Rattle.keep_manifest.specs.Escapes.{begins_escape, begins_double}

pub decode_escape : (text : List ℕ) → begins_escape text ≡ true → decode text ≡ octal_value (get_or text 1 0) (get_or text 2 0) (get_or text 3 0) ∷ decode (drop 4 text)
unfolding decode
decode_escape [] e = cc
decode_escape (x ∷ []) e = cc
decode_escape (x ∷ a ∷ []) e = cc
decode_escape (x ∷ a ∷ b ∷ []) e = cc
decode_escape (x ∷ a ∷ b ∷ c ∷ rest) e = rw e

pub decode_double : (text : List ℕ) → begins_escape text ≡ false → begins_double text ≡ true → decode text ≡ 92 ∷ decode (drop 2 text)
unfolding decode
decode_double [] f e = cc
decode_double (x ∷ []) f e = cc
decode_double (x ∷ a ∷ []) f e = rw e
decode_double (x ∷ a ∷ b ∷ []) f e = rw e
decode_double (x ∷ a ∷ b ∷ c ∷ rest) f e = rw (f, e)

pub decode_plain : (text : List ℕ) → 0 < length text → begins_escape text ≡ false → begins_double text ≡ false → decode text ≡ get_or text 0 0 ∷ decode (drop 1 text)
unfolding decode
decode_plain [] some f e = absurd (omega arith)
decode_plain (x ∷ []) some f e = refl
decode_plain (x ∷ a ∷ []) some f e = rw e
decode_plain (x ∷ a ∷ b ∷ []) some f e = rw e
decode_plain (x ∷ a ∷ b ∷ c ∷ rest) some f e = rw (f, e)

pub decode_nothing : (text : List ℕ) → length text ≡ 0 → decode text ≡ []
unfolding decode
decode_nothing [] e = refl
decode_nothing (x ∷ xs) e = absurd (omega arith)

plain_byte : (b : ℕ) (rest : List ℕ) → eqb b 92 ≡ false → decode (b ∷ rest) ≡ b ∷ decode rest
plain_byte b [] e = decode_plain (b ∷ []) (omega arith) refl refl
plain_byte b (a ∷ []) e = decode_plain (b ∷ a ∷ []) (omega arith) refl (rw e)
plain_byte b (a ∷ x ∷ []) e = decode_plain (b ∷ a ∷ x ∷ []) (omega arith) refl (rw e)
plain_byte b (a ∷ x ∷ y ∷ rest) e = decode_plain (b ∷ a ∷ x ∷ y ∷ rest) (omega arith) (rw e) (rw e)

escaped_byte : (b : ℕ) (rest : List ℕ) → b < 93 → decode (92 ∷ (b / 64 + 48) ∷ (b / 8 % 8 + 48) ∷ (b % 8 + 48) ∷ rest) ≡ b ∷ decode rest
escaped_byte b rest small =
    let value : octal_value (b / 64 + 48) (b / 8 % 8 + 48) (b % 8 + 48) ≡ b = omega arith in
    let code : is_code (b / 64 + 48) (b / 8 % 8 + 48) (b % 8 + 48) ≡ true = grind (arith, nat_tests) in
    decode_escape (92 ∷ (b / 64 + 48) ∷ (b / 8 % 8 + 48) ∷ (b % 8 + 48) ∷ rest) code ∙ ap (λ x. x ∷ decode rest) value

small_escaped : (b : ℕ) → is_escaped b ≡ true → b < 93
small_escaped b e = grind (arith, nat_tests)

plain_unescaped : (b : ℕ) → is_escaped b ≡ false → eqb b 92 ≡ false
plain_unescaped b e = grind (arith, nat_tests)

chosen_byte : (e : Bool) (b : ℕ) (rest : List ℕ) → is_escaped b ≡ e → decode (cond e (92 ∷ (b / 64 + 48) ∷ (b / 8 % 8 + 48) ∷ (b % 8 + 48) ∷ []) (b ∷ []) ++ rest) ≡ b ∷ decode rest
chosen_byte true b rest e = escaped_byte b rest (small_escaped b e)
chosen_byte false b rest e = plain_byte b rest (plain_unescaped b e)

decode_byte : (b : ℕ) (rest : List ℕ) → decode (encode_byte b ++ rest) ≡ b ∷ decode rest
decode_byte b rest = chosen_byte (is_escaped b) b rest refl

-- what was written stands for what it was written of
pub decode_encode : (name : List ℕ) → decode (encode name) ≡ name
decode_encode [] = decode_nothing [] refl
decode_encode (b ∷ rest) = decode_byte b (encode rest) ∙ ap (λ xs. b ∷ xs) (decode_encode rest)
