use Rattle.std.proofs.Common.{◌≡◌, ◌++◌, List, [], ℕ, ap, ◌∙◌, refl, drop, length, arith, Bool, true, false, ◌&&◌}
use Rattle.std.proofs.lemmas.Bool.{eqb-true}
use Rattle.std.proofs.lemmas.Grind.{common_steps}
use Rattle.std.proofs.lemmas.List.{take_all, length-drop}
use Rattle.hex.specs.Hex.{encode_lower}
use Rattle.md5.specs.Md5.{md5}
use borrow.Rule.Slice.PartMut.{mid_of}
use Rattle.keep_order.proofs.weights.weight.Goals as goal

first-of : (a b c d e f : Bool) → (a && b && c && d && e && f) ≡ true → a ≡ true
first-of true b c d e f h = refl
first-of false b c d e f h = cc h

-- the last 15 of 27
last-of : (xs : List ℕ) → length xs ≡ 27 → mid_of 12 15 xs ≡ drop 12 xs
last-of xs long = take_all 15 (drop 12 xs) (omega (arith, length-drop 12 xs, long))

pub returns : goal.returns
returns c =
    let hashed = c.finalize-hash.ensures _ (c.update-2.ensures _ (c.update.ensures [] c.new-hasher.ensures)) in
    let digits : c.encode_to_slice.new.output ≡ encode_lower c.as_slice-2.result.now = grind (arith, common_steps, c.encode_to_slice.ensures.fits) in
    let uuid = c.args.uuid.now in
    let text = c.as_bytes.ensures.text in
    let long : length c.as_bytes.result.now ≡ 27 = ap length text ∙ eqb-true (length uuid) 27 (first-of _ _ _ _ _ _ c.as_bytes.ensures.form) in
    digits
    ∙ ap encode_lower (c.as_slice-2.ensures ∙ hashed
    ∙ ap md5 (ap (λ v. v ++ mid_of 12 15 c.as_bytes.result.now) (c.as_slice.ensures ∙ c.write.ensures)
    ∙ ap (λ v. encode_lower c.args.digest.now ++ v) (last-of c.as_bytes.result.now long ∙ ap (drop 12) text)))
