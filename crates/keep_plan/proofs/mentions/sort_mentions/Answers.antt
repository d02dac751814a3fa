use Rattle.std.proofs.Common.{rules}
use Rattle.std.proofs.lemmas.List.Sorted.{answers_always}
use Rattle.keep_plan.proofs.mentions.sort_mentions.Goals as goal

pub returns-in-Ok-clause-sorted : goal.returns-in-Ok-clause-sorted
returns-in-Ok-clause-sorted c = c.in-Ok.ensures.sorted (λ m. m.digest) (answers_always _ _ _ (λ f a r g h. search rules))

pub returns-in-Ok-clause-stable : goal.returns-in-Ok-clause-stable
returns-in-Ok-clause-stable c = c.sort_by_key.ensures.stable (λ m. m.digest) (answers_always _ _ _ (λ f a r g h. search rules))
