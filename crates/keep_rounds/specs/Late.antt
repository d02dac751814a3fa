-- Where a balance task ends because of two ticks out of order.
use Rattle.std.specs.Prelude.{◌≡◌, ◌≤◌, ◌↔◌, ℕ, List, ◌∷◌, Bool, true, false, Some}
use Rattle.keep_spec.specs.Config.{Configuration}
use Rattle.keep_event.specs.declared.device.DeviceQuery.TheVariants as DQ
use Rattle.keep_event.specs.declared.device.DeviceAnswer.TheVariants as D
use Rattle.keep_event.specs.declared.table.TableQuery.TheVariants as TQ
use Rattle.keep_event.specs.declared.table.TableAnswer.TheVariants as T
use Rattle.keep_event.specs.declared.event.Query.{Query}
use Rattle.keep_event.specs.declared.event.Query.TheVariants as Q
use Rattle.keep_event.specs.declared.event.Answer.{Answer}
use Rattle.keep_event.specs.declared.event.Answer.TheVariants as A
use Rattle.keep_history.specs.Next.{Answered, asks}
use Rattle.keep_history.specs.declared.task.Outcome.TheVariants.{Disordered}
use Rattle.keep_rounds.specs.Balance.{standing, next}

-- a page, or rows, as they were asked for
abbrev pub gives : Query → Answer → Bool
gives (Q.Device d (DQ.Page round prefix)) (A.Device (D.Page entries)) = true
gives (Q.Table (TQ.Scan round after limit)) (A.Table (T.Rows rows last)) = true
gives _ _ = false

-- it came with a tick that isn't above the greatest of the round's clears
pub record IsLate (c : Configuration) (earlier : List Answered) (q : Query) (x : Answered) (before after : ℕ) : Type 0 where
  pub given : gives q x.answer ≡ true
  pub cleared : before ≡ (standing c earlier).cleared_at
  pub came : after ≡ x.tick
  pub late : after ≤ before

-- exactly there
abbrev pub DisorderIsLate : Configuration → Type 0
DisorderIsLate c = (earlier : List Answered) (q : Query) (x : Answered) (before after : ℕ) → next c earlier ≡ asks q →
    ((standing c (x ∷ earlier)).ended ≡ Some (Disordered before after)) ↔ IsLate c earlier q x before after
