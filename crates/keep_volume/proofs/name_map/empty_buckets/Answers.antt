use Rattle.std.proofs.Common.{◌≡◌, [], ◌∷◌, ◌++◌, arith, inr, ◌∙◌, length-append}
use Rattle.std.proofs.lemmas.Grind.{common_steps}
use Rattle.keep_store.proofs.Order.{nothing-ascends}
use Rattle.keep_volume.proofs.Buckets.{entries-more, placed-more}
use Rattle.keep_volume.proofs.name_map.empty_buckets.Goals as goal

pub returns-clause-buckets : goal.returns-clause-buckets
returns-clause-buckets c = record { number = inr (omega arith); placed = c.loop.invariant.placed; ascending = nothing-ascends _ c.loop.invariant.none }

pub loop-preserved : goal.loop-preserved
loop-preserved c =
    let pushed : c.push.new.self.items ≡ c.loop.buckets.items ++ c.new.result ∷ [] = grind (arith, common_steps) in
    rw pushed (record {
      number = omega (arith, length-append c.loop.buckets.items (c.new.result ∷ []));
      placed = placed-more 0 c.loop.buckets.items c.new.result c.new.ensures c.loop.invariant.placed;
      none = entries-more c.loop.buckets.items c.new.result c.new.ensures ∙ c.loop.invariant.none;
    })
