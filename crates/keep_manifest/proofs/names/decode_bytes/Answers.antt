use Rattle.std.proofs.Common.{◌≡◌, ◌++◌, [], ◌∙◌, ap, sym, append-nil, arith}
use Rattle.std.proofs.lemmas.Bool.Decides.{nat_tests}
use Rattle.keep_spec.specs.Names.{decode}
use Rattle.keep_manifest.proofs.Decoding.{decode_nothing}
use Rattle.keep_manifest.proofs.names.decode_bytes.Goals as goal

pub returns : goal.returns
returns c =
    let end : decode c.loop-rest.rest.now ≡ [] = decode_nothing c.loop-rest.rest.now (grind (arith, nat_tests)) in
    sym (append-nil c.loop-rest.name.items) ∙ ap (λ xs. c.loop-rest.name.items ++ xs) (sym end) ∙ c.loop-rest.invariant
