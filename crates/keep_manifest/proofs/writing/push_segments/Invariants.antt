use Rattle.std.proofs.Common.{◌≡◌, ◌++◌, take}
use Rattle.std.specs.List.{flat_map}
use Rattle.keep_spec.specs.Manifest.{follow, segment_text}
use Rattle.keep_manifest.proofs.writing.push_segments.Given as goal

abbrev pub invariant-loop-segment : goal.invariant-loop-segment
invariant-loop-segment l = l.text.items ≡ l.initial.text.items ++ flat_map (λ g. follow (segment_text g)) (take l.segment-index l.segments)
