use Rattle.std.proofs.Common.{◌≡◌, map, take, length}
use Rattle.keep_spec.specs.Members.{numbers_from}
use Rattle.keep_plan.specs.Mentions.{last_entry, greatest_want}
use Rattle.keep_plan.proofs.decide.note.Given as goal

abbrev pub invariant-loop-mention : goal.invariant-loop-mention
invariant-loop-mention l = record {
  entries : l.entries ≡ map (λ d. last_entry d (take l.mention-index l.mentions)) (numbers_from 0 (length l.fn.entries));
  want : l.greatest ≡ greatest_want (take l.mention-index l.mentions);
}
