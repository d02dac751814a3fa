use Rattle.std.proofs.Common.{◌≡◌, arith, sym, ◌∙◌, ap, drop, get_or, ◌+◌}
use Rattle.std.specs.declared.cmp.Ordering.TheVariants.{Less, Equal}
use Rattle.std.specs.Ordering.{ordering_then, nat_cmp}
use Rattle.keep_volume.specs.Digits.{nibbles, order_of, order_then}
use Rattle.keep_volume.proofs.Nibbles.{order-at, order-end, length-nibbles}
use Rattle.keep_volume.proofs.digits.digits_order.Goals as goal

pub returns-then-i-ge32 : goal.returns-then-i-ge32
returns-then-i-ge32 c =
    let ns = nibbles c.to_md5-bytes.result in
    let over : Less ≡ order_of ns c.args.prefix.now = sym (order-end ns c.args.prefix.now c.loop-i.i (omega (arith, length-nibbles c.to_md5-bytes.result)) c.loop-i-test.true) ∙ c.loop-i.invariant in
    over ∙ ap (λ v. order_of (nibbles v) c.args.prefix.now) c.to_md5-bytes.ensures

pub returns-in_default : goal.returns-in_default
returns-in_default c =
    let ns = nibbles c.to_md5-bytes.result in
    let p = c.args.prefix.now in
    let i = c.loop-i.i in
    let here : order_of (drop i ns) (drop i p) ≡ Equal =
    order-at ns p i (omega (arith, length-nibbles c.to_md5-bytes.result)) c.loop-i-test.true
    ∙ ap (λ w. order_then (get_or ns i 0) (order_of (drop (i + 1) ns) (drop (i + 1) p)) w) (sym c.in_default.ensures) in
    sym here ∙ c.loop-i.invariant ∙ ap (λ v. order_of (nibbles v) p) c.to_md5-bytes.ensures

pub loop-i-preserved : goal.loop-i-preserved
loop-i-preserved c =
    let ns = nibbles c.to_md5-bytes.result in
    let p = c.args.prefix.now in
    let i = c.loop-i.i in
    let equal : nat_cmp (get_or ns i 0) c.in-Some.wanted ≡ Equal = ap (λ v. nat_cmp v c.in-Some.wanted) (sym c.nibble_at.ensures) ∙ sym c.in-Equal.ensures in
    let here : order_of (drop i ns) (drop i p) ≡ order_of (drop (i + 1) ns) (drop (i + 1) p) =
    order-at ns p i (omega (arith, length-nibbles c.to_md5-bytes.result)) c.loop-i-test.true
    ∙ ap (λ w. order_then (get_or ns i 0) (order_of (drop (i + 1) ns) (drop (i + 1) p)) w) (sym c.in-Some.ensures)
    ∙ ap (λ o. ordering_then o (order_of (drop (i + 1) ns) (drop (i + 1) p))) equal in
    sym here ∙ c.loop-i.invariant
