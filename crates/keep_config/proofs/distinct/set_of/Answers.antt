use Rattle.std.specs.BTreeSet.{IsFromIterResult}
use Rattle.std.proofs.lemmas.Iterator.{YieldsList-from_slice}
use Rattle.std.proofs.lemmas.Iterator.Adapters.{fact_from_collect}
use Rattle.std.proofs.lemmas.Iterator.Consumers.{YieldsList-at, YieldsList-from_copied}
use Rattle.keep_config.specs.Texts.{text_cmp}
use Rattle.keep_config.proofs.distinct.set_of.Goals as goal

pub returns : goal.returns
returns c = fact_from_collect (IsFromIterResult text_cmp) c.collect.result c.collect.ensures.ran (YieldsList-from_copied (YieldsList-at c.copied.ensures.source (YieldsList-from_slice c.args.names.now cc)))
