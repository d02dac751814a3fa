use Rattle.std.proofs.Common.{◌≡◌, true}
use Rattle.keep_manifest.specs.Escapes.{begins_escape}
use Rattle.keep_manifest.proofs.Decoding.{decode_escape, decode_double, decode_plain}
use Rattle.keep_manifest.proofs.names.first_byte.Goals as goal

pub returns-then-begins_escape-clause-byte : goal.returns-then-begins_escape-clause-byte
returns-then-begins_escape-clause-byte c =
    let text = c.args.text.now in
    let escape : begins_escape text ≡ true = cc in
    rw c.octal_value.ensures (decode_escape text escape)

pub returns-then-begins_double-clause-byte : goal.returns-then-begins_double-clause-byte
returns-then-begins_double-clause-byte c = decode_double c.args.text.now (cc) (cc)

pub returns-else-begins_double-clause-byte : goal.returns-else-begins_double-clause-byte
returns-else-begins_double-clause-byte c = decode_plain c.args.text.now c.requires (cc) (cc)
