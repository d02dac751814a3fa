-- What is seen of a source and a sink in memory: their bytes, how many calls were made and failed, and the numbers of the calls that are to fail. This is the project's own rule.
use Rattle.std.specs.Prelude.{ℕ, List, drop, Bool, true, false, ◌≡◌, Result, Ok, Err}
use Rattle.keep_spec.specs.Causes.{counted}
use Rattle.keep_base.specs.declared.memory.ByteSource.{ByteSource}
use Rattle.keep_base.specs.declared.memory.ByteSink.{ByteSink}

-- the bytes that are left
abbrev pub source_left : ByteSource → List ℕ
source_left s = drop s.at s.bytes

abbrev pub source_faults : ByteSource → ℕ
source_faults s = s.calls.faults

abbrev pub source_calls : ByteSource → ℕ
source_calls s = s.calls.made

abbrev pub source_failing : ByteSource → List ℕ
source_failing s = s.calls.failing.items

-- the bytes that were taken
abbrev pub sink_taken : ByteSink → List ℕ
sink_taken s = s.bytes.items

abbrev pub sink_faults : ByteSink → ℕ
sink_faults s = s.calls.faults

abbrev pub sink_calls : ByteSink → ℕ
sink_calls s = s.calls.made

abbrev pub sink_failing : ByteSink → List ℕ
sink_failing s = s.calls.failing.items

-- how many calls failed for want of memory
abbrev pub sink_refused : ByteSink → ℕ
sink_refused s = s.refused

-- a call that is listed fails, and no other, unless memory is refused to it, which is counted
abbrev pub FailsAsListed : {T E : Type 0} → Bool → ℕ → ℕ → Result T E → Type 0
FailsAsListed listed refused refused' (Ok x) = (listed ≡ false) × (refused' ≡ refused)
FailsAsListed true refused refused' (Err e) = refused' ≡ refused
FailsAsListed false refused refused' (Err e) = refused' ≡ counted refused
