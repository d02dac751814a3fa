use Rattle.std.proofs.Common.{drop, arith, sym, ◌∙◌}
use Rattle.std.proofs.lemmas.List.{length-take}
use Rattle.keep_locator.proofs.HintText.{permission_parts, permission_read}
use Rattle.keep_locator.proofs.hint.read_permission.Goals as goal

pub slice_bounds-copy_from_slice-end-2 : goal.slice_bounds-copy_from_slice-end-2
slice_bounds-copy_from_slice-end-2 c = let parts = permission_parts c.args.hint.now (sym c.is_permission_hint.ensures ∙ c.if-not-is_permission_hint.false) in omega (arith, parts.len)

pub slice_bounds-hex_number-end : goal.slice_bounds-hex_number-end
slice_bounds-hex_number-end c = let parts = permission_parts c.args.hint.now (sym c.is_permission_hint.ensures ∙ c.if-not-is_permission_hint.false) in omega (arith, parts.len)

pub hex_number-requires-clause-few : goal.hex_number-requires-clause-few
hex_number-requires-clause-few c = omega (arith, length-take 8 (drop 43 c.args.hint.now))

pub hex_number-requires-clause-digits : goal.hex_number-requires-clause-digits
hex_number-requires-clause-digits c = (permission_parts c.args.hint.now (sym c.is_permission_hint.ensures ∙ c.if-not-is_permission_hint.false)).expiry

pub returns : goal.returns
returns c = permission_read c.args.hint.now _ _ (sym c.is_permission_hint.ensures ∙ c.if-not-is_permission_hint.false) c.copy_from_slice.ensures.after c.hex_number.ensures
