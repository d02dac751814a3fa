use Rattle.std.proofs.Common.{◌≡◌, take}
use Rattle.std.specs.List.{flat_map}
use Rattle.keep_spec.specs.Manifest.{stream_text}
use Rattle.keep_manifest.proofs.writing.write_bytes.Given as goal

abbrev pub invariant-loop-stream : goal.invariant-loop-stream
invariant-loop-stream l = l.text.items ≡ flat_map stream_text (take l.stream-index l.stream-items)
