use Rattle.std.proofs.Common.{rules, tests}
use Rattle.std.proofs.lemmas.Iterator.Search.{all_from_yields_List}
use Rattle.std.proofs.lemmas.Iterator.Splits.{YieldsList-from_slice_split}
use Rattle.keep_spec.specs.Names.{is_component, is_path}
use Rattle.keep_files.proofs.path.is_path.Goals as goal

pub returns : goal.returns
unfolding is_path
returns c = all_from_yields_List is_component _ _ _ c.all.ensures.ran (YieldsList-from_slice_split _ _ c.args.path.now c.split.ensures.rest c.split.ensures.done c.split.ensures.closure (λ x b q k. search (rules, tests))) (λ x b q k. search (rules, tests))
