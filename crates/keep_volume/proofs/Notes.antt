-- The note of a device's store: it is told or not for good (`noted-still`), and where it is told it is the round (`note-is`).
use Rattle.std.proofs.Common.{◌≡◌, ℕ, Option, None, Some, IfSome, Result, Ok, Err, refl, ap}
use Rattle.std.specs.Prelude.{OnOk, OnErr, is_some, if◌then◌else◌}
use Rattle.keep_event.specs.Store.{Becomes, Stays}

-- a call that sets it, or fails
pub noted-still : {A E : Type 0} (old new : Option ℕ) (f : ℕ → ℕ) (r : Result A E) → OnOk r (Becomes old new f) → OnErr r (Stays old new) → is_some new ≡ is_some old
noted-still None new f (Ok a) becomes stays = ap is_some becomes
noted-still (Some n) new f (Ok a) becomes stays = ap is_some becomes
noted-still old new f (Err e) becomes stays = ap is_some stays

pub note-is : (noted : Option ℕ) (round : ℕ) → IfSome noted (λ n. n ≡ round) → noted ≡ (if is_some noted then Some round else None)
note-is None round h = refl
note-is (Some n) round h = ap Some h
