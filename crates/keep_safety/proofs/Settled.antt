-- After an event of a round no event of it with a lower stage comes, so what a round gave stays from its first accept on: `settled`.
use Rattle.std.proofs.Common.{◌≡◌, ◌≤◌, ◌<◌, ℕ, [], ◌∷◌, Bool, true, false, refl, ◌∙◌, ap, subst, arith, inl, inr, nat_eq, if◌then◌else◌}
use Rattle.std.specs.Prelude.{◌⊎◌}
use Rattle.std.proofs.lemmas.Bool.{eqb-true}
use Rattle.keep_event.specs.declared.device.DeviceQuery.{DeviceQuery}
use Rattle.keep_event.specs.declared.device.DeviceQuery.TheVariants as DQ
use Rattle.keep_event.specs.declared.device.DeviceAnswer.{DeviceAnswer}
use Rattle.keep_event.specs.declared.device.DeviceAnswer.TheVariants as D
use Rattle.keep_event.specs.declared.table.TableQuery.{TableQuery}
use Rattle.keep_event.specs.declared.table.TableQuery.TheVariants as TQ
use Rattle.keep_event.specs.declared.table.TableAnswer.{TableAnswer}
use Rattle.keep_event.specs.declared.table.TableAnswer.TheVariants as T
use Rattle.keep_event.specs.declared.event.Query.{Query}
use Rattle.keep_event.specs.declared.event.Query.TheVariants as Q
use Rattle.keep_event.specs.declared.event.Answer.{Answer}
use Rattle.keep_event.specs.declared.event.Answer.TheVariants as A
use Rattle.keep_safety.specs.Past.{Past}
use Rattle.keep_history.specs.Rounds.{Round, gave, device_gave, table_gave, with_cleared, with_page, with_started, with_scan}
use Rattle.keep_safety.specs.Rounds.{round_in, stage, at_stage, MayPrecede, IsInOrder}

-- an event of the round and the stage has happened
abbrev pub HasStage : ℕ → ℕ → Past → Type 0
HasStage r k [] = ⊥
HasStage r k (e ∷ past) = (stage e.query e.answer ≡ at_stage r k) ⊎ HasStage r k past

pub late : (r k j : ℕ) (past : Past) (q : Query) (a : Answer) → HasStage r k past → IsInOrder past q a → stage q a ≡ at_stage r j → k ≤ j
late r k j [] q a h o is = absurd h
late r k j (e ∷ past) q a (inl at) o is =
    let before : MayPrecede (at_stage r k) (stage q a) = subst (λ v. MayPrecede v (stage q a)) at o.0 in
    let both : MayPrecede (at_stage r k) (at_stage r j) = subst (λ v. MayPrecede (at_stage r k) v) is before in
    both refl
late r k j (e ∷ past) q a (inr h) o is = late r k j past q a h o.1 is

module _ (r : ℕ) (g : Round) where
  abbrev pub IsLate : Query → Answer → Type 0
  IsLate q a = (k : ℕ) → stage q a ≡ at_stage r k → 3 ≤ k

  unchanged : (n j : ℕ) (b : Bool) (x : Round) → nat_eq n r ≡ b → (n ≡ r → ⊥) → (if b then x else g) ≡ g
  unchanged n j true x e never = absurd (never (eqb-true n r e))
  unchanged n j false x e never = refl

  not-now : (n j : ℕ) (q : Query) (a : Answer) → j < 3 → stage q a ≡ at_stage n j → IsLate q a → n ≡ r → ⊥
  not-now n j q a lt is l same = let high = l j (is ∙ ap (λ m. at_stage m j) same) in omega arith

  device-settled : (d : ℕ) (q : DeviceQuery) (a : DeviceAnswer) → IsLate (Q.Device d q) (A.Device a) → device_gave r d q a g ≡ g
  device-settled d (DQ.Clear n) a l = by a (not-now n 1 (Q.Device d (DQ.Clear n)) (A.Device a) (omega arith) refl l)
    where
      by : (a : DeviceAnswer) → (n ≡ r → ⊥) → device_gave r d (DQ.Clear n) a g ≡ g
      by D.Cleared never = unchanged n 1 (nat_eq n r) (with_cleared d g) refl never
      by _ never = refl
  device-settled d (DQ.Page n prefix) a l = by a (not-now n 2 (Q.Device d (DQ.Page n prefix)) (A.Device a) (omega arith) refl l)
    where
      by : (a : DeviceAnswer) → (n ≡ r → ⊥) → device_gave r d (DQ.Page n prefix) a g ≡ g
      by (D.Page entries) never = unchanged n 2 (nat_eq n r) (with_page (record { device = d; prefix = prefix; entries = entries }) g) refl never
      by _ never = refl
  device-settled d _ a l = refl

  table-settled : (q : TableQuery) (a : TableAnswer) → IsLate (Q.Table q) (A.Table a) → table_gave r q a g ≡ g
  table-settled TQ.BeginRound a l = by a l
    where
      by : (a : TableAnswer) → IsLate (Q.Table TQ.BeginRound) (A.Table a) → table_gave r TQ.BeginRound a g ≡ g
      by (T.Round n started) l = unchanged n 0 (nat_eq n r) (with_started started g) refl (not-now n 0 (Q.Table TQ.BeginRound) (A.Table (T.Round n started)) (omega arith) refl l)
      by _ l = refl
  table-settled (TQ.Scan n after limit) a l = by a (not-now n 2 (Q.Table (TQ.Scan n after limit)) (A.Table a) (omega arith) refl l)
    where
      by : (a : TableAnswer) → (n ≡ r → ⊥) → table_gave r (TQ.Scan n after limit) a g ≡ g
      by (T.Rows rows last) never = unchanged n 2 (nat_eq n r) (with_scan (record { after = after; rows = rows; last = last }) g) refl never
      by _ never = refl
  table-settled _ a l = refl

  pub all-settled : (q : Query) (a : Answer) → IsLate q a → gave r q a g ≡ g
  all-settled (Q.Device d q) (A.Device a) l = device-settled d q a l
  all-settled (Q.Device d q) (A.Table a) l = refl
  all-settled (Q.Table q) (A.Table a) l = table-settled q a l
  all-settled (Q.Table q) (A.Device a) l = refl

pub settled : (r : ℕ) (past : Past) (q : Query) (a : Answer) → HasStage r 3 past → IsInOrder past q a → gave r q a (round_in r past) ≡ round_in r past
settled r past q a h o = all-settled r (round_in r past) q a (λ k is. late r 3 k past q a h o is)
