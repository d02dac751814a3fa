use Rattle.keep_manifest.proofs.Decoding.{decode_encode}
use Rattle.keep_manifest.proofs.names.encode_name.Goals as goal

pub returns-clause-read_again : goal.returns-clause-read_again
returns-clause-read_again c = rw (c.of.ensures, c.in_ok-text.ensures) (decode_encode c.args.name.now)
