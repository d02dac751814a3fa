use Rattle.std.proofs.Common.{◌≡◌, ◌+◌, ◌++◌, ◌∷◌, [], arith, rules}
use Rattle.keep_event.specs.Table as machine
use Rattle.keep_plain_table.proofs.Versions.{versions-pushed}
use Rattle.keep_plain_table.proofs.table.PlainTable.create.Goals as goal

pub invariant_of-self-2 : goal.invariant_of-self-2
invariant_of-self-2 c =
    let pushed : c.push.new.self.items ≡ c.self.inside.records.items ++ machine.new_record (c.self.inside.numbers + 1) 1 (c.self.inside.revisions + 1) c.args.made ∷ [] = search rules in
    rw pushed (versions-pushed c.self.inside.revisions c.self.inside.records.items _ (omega arith) c.self.invariant)
