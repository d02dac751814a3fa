use Rattle.std.proofs.Common.{◌≡◌, take}
use Rattle.keep_normal.specs.Normal.{spans}
use Rattle.keep_normal.proofs.segments.spans_of.Given as goal

abbrev pub invariant-loop-part : goal.invariant-loop-part
invariant-loop-part l = l.spans.items ≡ spans l.blocks.locators.items (take l.part-index l.parts)
