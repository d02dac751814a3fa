-- Blocks: which bytes may be one. Their greatest size is that of Arvados, 64 MiB.
use Rattle.std.specs.Prelude.{ℕ, List, length, nat_lt, Result, Ok, Err, if◌then◌else◌}
use Rattle.keep_event.specs.declared.block.TooLong.{TooLong}

-- a block is its bytes; above 67,108,864 of them there is none
abbrev pub block_of : List ℕ → Result (List ℕ) TooLong
block_of bytes = if nat_lt 67108864 (length bytes) then Err (record { bytes = bytes }) else Ok bytes
