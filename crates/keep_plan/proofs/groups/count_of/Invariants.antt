use Rattle.std.proofs.Common.{◌≡◌, ◌+◌, drop}
use Rattle.std.specs.Prelude.{bytes_eq}
use Rattle.std.specs.List.{prefix_len}
use Rattle.keep_plan.proofs.groups.count_of.Given as goal

abbrev pub invariant-loop-count : goal.invariant-loop-count
invariant-loop-count l = l.count + prefix_len (λ m. bytes_eq l.digest m.digest) (drop l.count l.mentions) ≡ prefix_len (λ m. bytes_eq l.digest m.digest) l.mentions
