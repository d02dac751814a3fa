use Rattle.keep_manifest.proofs.ReadAgain.{written_reads}
use Rattle.keep_manifest.proofs.GoodManifests.{good_is}
use Rattle.keep_manifest.proofs.writing.write.Goals as goal

pub returns-clause-read_again : goal.returns-clause-read_again
returns-clause-read_again c = rw (c.of.ensures, c.in_ok-text.ensures) (written_reads c.args.manifest.now (good_is c.args.manifest.now c.requires))
