use Rattle.std.proofs.Common.{◌≡◌, ◌+◌, ◌-◌, ◌∷◌, ◌++◌, arith, ap, ◌∙◌, length, take, drop, replicate}
use Rattle.std.specs.Prelude.{decimal}
use Rattle.std.proofs.lemmas.List.{take_at, drop_at}
use Rattle.hex.specs.Hex.{encode_lower}
use Rattle.keep_spec.proofs.PortableText.{put-all, length-portable}
use Rattle.keep_spec.proofs.portable.Portable.write.Goals as goal

pub returns-clause-text : goal.returns-clause-text
returns-clause-text c =
    let d = c.write.result in
    let s = c.as_bytes-length.result.now in
    let len : length d ≡ 32 = omega arith in
    let size : s ≡ decimal c.args.self.now.size = c.as_bytes-length.ensures.value ∙ c.format.ensures.text in
    ap (take (33 + length s)) (put-all d s _ _ _ len c.put_at.ensures c.put_at-2.ensures c.put_at-3.ensures)
    ∙ take_at (d ++ 43 ∷ s) (replicate (53 - (33 + length s)) 0) (33 + length s) (length-portable d s len)
    ∙ ap (λ x. x ++ 43 ∷ s) c.write.ensures ∙ ap (λ x. encode_lower c.args.self.now.digest ++ 43 ∷ x) size

pub returns-clause-rest : goal.returns-clause-rest
returns-clause-rest c =
    let d = c.write.result in
    let s = c.as_bytes-length.result.now in
    let len : length d ≡ 32 = omega arith in
    ap (drop (33 + length s)) (put-all d s _ _ _ len c.put_at.ensures c.put_at-2.ensures c.put_at-3.ensures)
    ∙ drop_at (d ++ 43 ∷ s) (replicate (53 - (33 + length s)) 0) (33 + length s) (length-portable d s len)
