-- A balance task ends Disordered exactly where a page or rows came with a tick that isn't above its clears'.
use Rattle.std.proofs.Common.{◌≡◌, ◌≤◌, ℕ, List, ◌∷◌, Bool, true, false, refl, sym, ◌∙◌, ap, Option, None, Some, arith, if◌then◌else◌}
use Rattle.std.specs.Prelude.{nat_lt}
use Rattle.std.proofs.lemmas.Bool.{ltb-true, ltb-false}
use Rattle.keep_spec.specs.Config.{Configuration}
use Rattle.keep_event.specs.declared.device.DeviceQuery.{DeviceQuery}
use Rattle.keep_event.specs.declared.device.DeviceQuery.TheVariants as DQ
use Rattle.keep_event.specs.declared.device.DeviceAnswer.{DeviceAnswer}
use Rattle.keep_event.specs.declared.device.DeviceAnswer.TheVariants as D
use Rattle.keep_event.specs.declared.table.TableQuery.{TableQuery}
use Rattle.keep_event.specs.declared.table.TableQuery.TheVariants as TQ
use Rattle.keep_event.specs.declared.table.TableAnswer.{TableAnswer}
use Rattle.keep_event.specs.declared.table.TableAnswer.TheVariants as T
use Rattle.keep_event.specs.declared.event.Query.{Query}
use Rattle.keep_event.specs.declared.event.Query.TheVariants as Q
use Rattle.keep_event.specs.declared.event.Answer.{Answer}
use Rattle.keep_event.specs.declared.event.Answer.TheVariants as A
use Rattle.keep_history.specs.declared.task.Outcome.{Outcome}
use Rattle.keep_history.specs.declared.task.Outcome.TheVariants.{Disordered}
use Rattle.keep_rounds.specs.Balance.{standing, after_next}
use Rattle.keep_history.specs.Balance.{round_refused, disordered, page_end, balance_end}
use Rattle.keep_rounds.specs.Late.{gives, IsLate, DisorderIsLate}

abbrev before_of : Option Outcome → ℕ
before_of None = 0
before_of (Some (Disordered x y)) = x
before_of (Some _) = 0

abbrev after_of : Option Outcome → ℕ
after_of None = 0
after_of (Some (Disordered x y)) = y
after_of (Some _) = 0

module _ (low tick x y : ℕ) where
  record Late (b : Bool) : Type 0 where
    pub given : b ≡ true
    pub low_is : x ≡ low
    pub tick_is : y ≡ tick
    pub late : tick ≤ low

  late-of : disordered low tick ≡ Some (Disordered x y) → Late true
  late-of e = by (nat_lt low tick) refl e
    where
      by : (b : Bool) → nat_lt low tick ≡ b → (if b then None else Some (Disordered low tick)) ≡ Some (Disordered x y) → Late true
      by true is e = cc e
      by false is e = record { given = refl; low_is = sym (ap before_of e); tick_is = sym (ap after_of e); late = ltb-false low tick is }

  refused-never : (d : ℕ) (a : DeviceAnswer) (b : Bool) → round_refused d a ≡ Some (Disordered x y) → Late b
  refused-never d (D.Stale held) b e = cc e
  refused-never d D.StoreFault b e = cc e
  refused-never d _ b e = cc e

  page-late : (d round : ℕ) (prefix : List ℕ) (a : DeviceAnswer) → page_end low tick d a ≡ Some (Disordered x y) → Late (gives (Q.Device d (DQ.Page round prefix)) (A.Device a))
  page-late d round prefix (D.Page entries) e = late-of e
  page-late d round prefix a e = refused-never d a (gives (Q.Device d (DQ.Page round prefix)) (A.Device a)) e

  rows-late : (round after limit : ℕ) (a : TableAnswer) → balance_end low tick (Q.Table (TQ.Scan round after limit)) (A.Table a) ≡ Some (Disordered x y) → Late (gives (Q.Table (TQ.Scan round after limit)) (A.Table a))
  rows-late round after limit (T.Rows rows last) e = late-of e
  rows-late round after limit _ e = cc e

  device-late : (d : ℕ) (q : DeviceQuery) (a : DeviceAnswer) → balance_end low tick (Q.Device d q) (A.Device a) ≡ Some (Disordered x y) → Late (gives (Q.Device d q) (A.Device a))
  device-late d (DQ.Clear round) a e = refused-never d a (gives (Q.Device d (DQ.Clear round)) (A.Device a)) e
  device-late d (DQ.Page round prefix) a e = page-late d round prefix a e
  device-late d _ a e = cc e

  table-late : (q : TableQuery) (a : TableAnswer) → balance_end low tick (Q.Table q) (A.Table a) ≡ Some (Disordered x y) → Late (gives (Q.Table q) (A.Table a))
  table-late (TQ.Scan round after limit) a e = rows-late round after limit a e
  table-late _ a e = cc e

  other-late : (d : ℕ) (q : DeviceQuery) (a : TableAnswer) → balance_end low tick (Q.Device d q) (A.Table a) ≡ Some (Disordered x y) → Late (gives (Q.Device d q) (A.Table a))
  other-late d (DQ.Clear round) a e = cc e
  other-late d (DQ.Page round prefix) a e = cc e
  other-late d _ a e = cc e

  else-late : (q : TableQuery) (a : DeviceAnswer) → balance_end low tick (Q.Table q) (A.Device a) ≡ Some (Disordered x y) → Late (gives (Q.Table q) (A.Device a))
  else-late (TQ.Scan round after limit) a e = cc e
  else-late _ a e = cc e

  all-late : (q : Query) (a : Answer) → balance_end low tick q a ≡ Some (Disordered x y) → Late (gives q a)
  all-late (Q.Device d q) (A.Device a) e = device-late d q a e
  all-late (Q.Device d q) (A.Table a) e = other-late d q a e
  all-late (Q.Table q) (A.Table a) e = table-late q a e
  all-late (Q.Table q) (A.Device a) e = else-late q a e

module _ (low tick : ℕ) (le : tick ≤ low) where
  is-disordered : disordered low tick ≡ Some (Disordered low tick)
  is-disordered = by (nat_lt low tick) refl
    where
      by : (b : Bool) → nat_lt low tick ≡ b → (if b then None else Some (Disordered low tick)) ≡ Some (Disordered low tick)
      by true is = absurd (let lt = ltb-true low tick is in omega arith)
      by false is = refl

  page-ends : (d round : ℕ) (prefix : List ℕ) (a : DeviceAnswer) → gives (Q.Device d (DQ.Page round prefix)) (A.Device a) ≡ true → page_end low tick d a ≡ Some (Disordered low tick)
  page-ends d round prefix (D.Page entries) e = is-disordered
  page-ends d round prefix _ e = cc e

  rows-ends : (round after limit : ℕ) (a : TableAnswer) → gives (Q.Table (TQ.Scan round after limit)) (A.Table a) ≡ true → balance_end low tick (Q.Table (TQ.Scan round after limit)) (A.Table a) ≡ Some (Disordered low tick)
  rows-ends round after limit (T.Rows rows last) e = is-disordered
  rows-ends round after limit _ e = cc e

  device-ends : (d : ℕ) (q : DeviceQuery) (a : Answer) → gives (Q.Device d q) a ≡ true → balance_end low tick (Q.Device d q) a ≡ Some (Disordered low tick)
  device-ends d (DQ.Page round prefix) (A.Device a) e = page-ends d round prefix a e
  device-ends d (DQ.Page round prefix) (A.Table a) e = cc e
  device-ends d _ a e = cc e

  table-ends : (q : TableQuery) (a : Answer) → gives (Q.Table q) a ≡ true → balance_end low tick (Q.Table q) a ≡ Some (Disordered low tick)
  table-ends (TQ.Scan round after limit) (A.Table a) e = rows-ends round after limit a e
  table-ends (TQ.Scan round after limit) (A.Device a) e = cc e
  table-ends _ a e = cc e

  all-ends : (q : Query) (a : Answer) → gives q a ≡ true → balance_end low tick q a ≡ Some (Disordered low tick)
  all-ends (Q.Device d q) a e = device-ends d q a e
  all-ends (Q.Table q) a e = table-ends q a e

pub disorder-is-late : (c : Configuration) → DisorderIsLate c
disorder-is-late c earlier q x before after e = (there, back)
  where
    ended-is : (standing c (x ∷ earlier)).ended ≡ balance_end (standing c earlier).cleared_at x.tick q x.answer
    ended-is = ap (λ v. (after_next v x (standing c earlier)).ended) e

    there : (standing c (x ∷ earlier)).ended ≡ Some (Disordered before after) → IsLate c earlier q x before after
    there f =
        let l = all-late (standing c earlier).cleared_at x.tick before after q x.answer (sym ended-is ∙ f) in
        record { given = l.given; cleared = l.low_is; came = l.tick_is; late = (let a = l.low_is in let b = l.tick_is in let d = l.late in omega arith) }

    back : IsLate c earlier q x before after → (standing c (x ∷ earlier)).ended ≡ Some (Disordered before after)
    back l =
        ended-is ∙ all-ends (standing c earlier).cleared_at x.tick (let a = l.cleared in let b = l.came in let d = l.late in omega arith) q x.answer l.given
        ∙ ap (λ v. Some (Disordered v x.tick)) (sym l.cleared) ∙ ap (λ v. Some (Disordered before v)) (sym l.came)
