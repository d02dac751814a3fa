use Rattle.std.proofs.Common.{◌≡◌, ◌++◌, ◌∷◌, [], List, ℕ, ap, ◌∙◌, append_assoc}
use Rattle.hex.specs.Hex.{encode_lower}
use Rattle.keep_spec.specs.Sign.{hmac, hex8, without_zeros, signed_text}
use Rattle.keep_sign.proofs.signature.signed_hash.Goals as goal

joined : (d t e l : List ℕ) → (((((d ++ 64 ∷ []) ++ t) ++ 64 ∷ []) ++ e) ++ 64 ∷ []) ++ l ≡ d ++ 64 ∷ t ++ 64 ∷ e ++ 64 ∷ l
joined d t e l = simp append_assoc

pub returns : goal.returns
unfolding signed_text
returns c =
    let s = c.args.secret.now in
    let t = c.args.token.now in
    let d = c.write.result in
    let e = c.hex8.result in
    let l = c.without_zeros.result.now in
    let digits = encode_lower c.args.digest.now in
    let time = hex8 c.args.expiry in
    c.finalize.ensures s _
    (c.update-7.ensures s _ (c.update-6.ensures s _ (c.update-5.ensures s _ (c.update-4.ensures s _ (c.update-3.ensures s _ (c.update-2.ensures s _ (c.update.ensures s [] c.new-mac.ensures)))))))
    ∙ ap (hmac s)
    (joined d t e l
    ∙ ap (λ x. x ++ 64 ∷ t ++ 64 ∷ e ++ 64 ∷ l) c.write.ensures
    ∙ ap (λ x. digits ++ 64 ∷ t ++ 64 ∷ x ++ 64 ∷ l) c.hex8.ensures
    ∙ ap (λ x. digits ++ 64 ∷ t ++ 64 ∷ time ++ 64 ∷ x) (c.without_zeros.ensures ∙ ap without_zeros c.hex8-2.ensures))
