-- Calls that are to fail: `sum-rises`, `planned-call`, `passed-call`.
use Rattle.std.proofs.Common.{◌≡◌, ◌≤◌, ◌+◌, ℕ, Bool, true, false, Result, Err, refl, arith}
use Rattle.keep_spec.specs.Causes.{Rose, counted}
use Rattle.keep_event.specs.Port.{IsCalled, HasFailed}
use Rattle.keep_event.specs.declared.port.Reply.{Reply}
use Rattle.keep_event.specs.declared.port.PortError.{PortError}
use Rattle.keep_event.specs.declared.port.PortError.TheVariants as E

-- the sum of two counts rises where one of them does
pub sum-rises : (below own now : ℕ) → own ≤ now → now ≡ counted own → Rose (below + own) (below + now) × (below + own ≤ below + now)
sum-rises below own now later rose = (omega (arith, later, rose), omega (arith, later))

pub planned-call : (fails : Bool) (below : ℕ) → fails ≡ true → IsCalled fails below below (Err E.Failed)
planned-call true below e = (refl, refl)
planned-call false below e = cc e

pub passed-call : (fails : Bool) (before now : ℕ) (result : Result Reply PortError) → fails ≡ false → HasFailed before now result → IsCalled fails before now result
passed-call true before now result e h = cc e
passed-call false before now result e h = h
