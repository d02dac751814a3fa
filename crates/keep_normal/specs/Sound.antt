-- What the parts of a good manifest's files have in common.
use Rattle.std.specs.Prelude.{◌+◌, ◌&&◌, nat_lt, nat_le, Bool, List}
use Rattle.std.specs.List.{list_all}
use Rattle.keep_spec.specs.Locator.{is_locator, size}
use Rattle.keep_normal.specs.declared.part.Part.{Part}

-- at least one byte, and all within the block
abbrev pub is_sound : Part → Bool
is_sound p = is_locator p.locator && nat_lt 0 p.length && nat_le (p.offset + p.length) (size p.locator)

abbrev pub are_sound : List Part → Bool
are_sound ps = list_all is_sound ps
