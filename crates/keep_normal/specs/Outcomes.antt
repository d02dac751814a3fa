-- What a call returns that may find a number too large.
use Rattle.std.specs.Prelude.{Bool, true, false, List, Result, Ok, Err, Vec, ◌≡◌}
use Rattle.keep_normal.specs.declared.fault.NormalError.{NormalError}
use Rattle.keep_normal.specs.declared.fault.NormalError.TheVariants.{NoMemory, TooLarge}

-- TooLarge comes exactly where not all numbers are small; NoMemory may come at any time
abbrev pub Fails : NormalError → Bool → Type 0
Fails TooLarge small = small ≡ false
Fails NoMemory small = Unit {0}

-- the call returns this value where all numbers are small
abbrev pub ReturnsIf : {X : Type 0} → Result X NormalError → X → Bool → Type 0
ReturnsIf (Ok x) value small = (x ≡ value) × (small ≡ true)
ReturnsIf (Err e) value small = Fails e small

-- the call leaves this value where all numbers are small
abbrev pub LeavesIf : {X Y : Type 0} → Result Y NormalError → X → X → Bool → Type 0
LeavesIf (Ok y) now value small = (now ≡ value) × (small ≡ true)
LeavesIf (Err e) now value small = Fails e small

-- the call returns a vector of these items where all numbers are small
abbrev pub CollectsIf : {X A : Type 0} → Result (Vec X A) NormalError → List X → Bool → Type 0
CollectsIf (Ok v) items small = (v.items ≡ items) × (small ≡ true)
CollectsIf (Err e) items small = Fails e small
