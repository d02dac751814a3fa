-- Whether a manifest can be written, as a test: `IsGood` says that some text reads to it.
use Rattle.std.specs.Prelude.{ℕ, ◌^◌, ◌&&◌, nat_lt, Bool, length}
use Rattle.std.specs.List.{list_all}
use Rattle.keep_spec.specs.Names.{is_stream_name}
use Rattle.keep_spec.specs.Locator.{is_locator}
use Rattle.keep_spec.specs.Manifest.{is_segment, total_size}
use Rattle.keep_spec.specs.declared.manifest.Manifest.{Manifest}
use Rattle.keep_spec.specs.declared.manifest.Stream.{Stream}
use Rattle.keep_spec.specs.declared.manifest.Segment.{Segment}

-- its numbers have at most 19 digits
abbrev pub is_good_segment : ℕ → Segment → Bool
is_good_segment total s = nat_lt s.position (10 ^ 19) && nat_lt s.size (10 ^ 19) && is_segment total s

abbrev pub is_good_stream : Stream → Bool
is_good_stream s =
    is_stream_name s.name && nat_lt 0 (length s.locators) && nat_lt 0 (length s.segments)
    && list_all is_locator s.locators && list_all (is_good_segment (total_size s.locators)) s.segments

abbrev pub is_good_manifest : Manifest → Bool
is_good_manifest m = list_all is_good_stream m.streams
