-- Readings of clocks, and the spans of time that follow from the lifetime of signatures and the skew of clocks. This is the project's own rule.
-- Readings are in nanoseconds since 1970 (UTC), lifetimes and skews in seconds, spans in nanoseconds.
use Rattle.std.specs.Prelude.{ℕ, ◌+◌, ◌-◌, ◌*◌, ◌/◌, ◌^◌, ◌<◌, min}
use Rattle.keep_spec.specs.declared.times.TheConstants.{NANOS_PER_SECOND, READING_END}

-- a reading of a clock
abbrev pub IsReading : ℕ → Type 0
IsReading n = n < READING_END

abbrev pub nanos : ℕ → ℕ
nanos seconds = seconds * NANOS_PER_SECOND

-- twice the skew: by at most this much can two readings of a steady history be out of order
abbrev pub guard : ℕ → ℕ
guard skew = 2 * skew * NANOS_PER_SECOND

-- how long a block must be kept after the reading at which it was signed: the lifetime of its signature and the guard
abbrev pub grace : ℕ → ℕ → ℕ
grace ttl skew = ttl * NANOS_PER_SECOND + guard skew

-- what is older than this may be trashed by a round that starts at a reading
abbrev pub threshold : ℕ → ℕ → ℕ → ℕ
threshold ttl skew start = start - grace ttl skew

-- the expiry, in seconds, of a signature that is made at a reading: a locator has room for 32 bits of it
abbrev pub expiry_at : ℕ → ℕ → ℕ
expiry_at ttl reading = min (reading / NANOS_PER_SECOND + ttl) (2 ^ 32 - 1)
