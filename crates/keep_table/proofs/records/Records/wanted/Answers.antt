use Rattle.std.specs.Map.{values_of}
use Rattle.keep_table.proofs.Mentions.{wanted-is}
use Rattle.keep_table.proofs.records.Records.wanted.Goals as goal

pub returns : goal.returns
returns c =
    rw (← c.self.view_is) (wanted-is c.args.digest.now c.greatest.result (values_of c.self.inside.rows.entries)
    (λ more. (rw c.self.invariant.of_wants at c.greatest.ensures.counted) more)
    (λ n more. c.greatest.ensures.greatest n (rw c.self.invariant.of_wants more)))
