-- A balance task alone, whatever it is answered: it asks in order, and sends the lists of a whole round.
use Rattle.std.proofs.Common.{◌≡◌, ℕ, List, [], ◌∷◌, Bool, refl, sym, ◌∙◌, ap, subst, Option, None, Some, if◌then◌else◌}
use Rattle.std.proofs.lemmas.Bool.{eq-eqb}
use Rattle.keep_spec.specs.Config.{Configuration}
use Rattle.keep_event.specs.declared.lists.Lists.{Lists}
use Rattle.keep_event.specs.declared.device.DeviceQuery.TheVariants as DQ
use Rattle.keep_event.specs.declared.table.TableQuery.TheVariants as TQ
use Rattle.keep_event.specs.declared.table.TableAnswer.{TableAnswer}
use Rattle.keep_event.specs.declared.table.TableAnswer.TheVariants as T
use Rattle.keep_event.specs.declared.device.DeviceQuery.{DeviceQuery}
use Rattle.keep_event.specs.declared.event.Query.{Query}
use Rattle.keep_event.specs.declared.event.Query.TheVariants as Q
use Rattle.keep_event.specs.declared.event.Answer.{Answer}
use Rattle.keep_event.specs.declared.event.Answer.TheVariants as A
use Rattle.keep_safety.specs.Allowed.{ArePlanned}
use Rattle.keep_history.specs.Rounds.{Round, no_round, gave, with_started}
use Rattle.keep_event.specs.Plan.{reached}
use Rattle.keep_history.specs.Next.{Answered, Next, asks, ends}
use Rattle.keep_rounds.specs.Balance.{lists_for, next_of, after_next, standing, next}
use Rattle.keep_history.specs.Balance.{number_after, round_after}
use Rattle.keep_rounds.specs.Order.{SendsPlanned, RoundsAreInOrder}
use Rattle.keep_rounds.proofs.Asked.{Asked, begins, clears, pages, scans, accepts, asked-next, clear-case, page-case, scan-case, accept-case}
use Rattle.keep_rounds.proofs.Shapes.{IsShaped, shaped-begun, shaped-clear, shaped-page, shaped-scan, shaped-gathered}

abbrev ShapedSo : Configuration → Option ℕ → Round → Type 0
ShapedSo c None g = g ≡ no_round
ShapedSo c (Some r) g = IsShaped c g

module _ (c : Configuration) (a : Answer) where
  abbrev Keeps : Option ℕ → Round → Query → Type 0
  Keeps o g q = ShapedSo c o g → ShapedSo c (number_after q a o) (round_after (number_after q a o) q a g)

  keeps-by : (o p : Option ℕ) (g : Round) (q r : Query) → o ≡ p → q ≡ r → Keeps p g r → Keeps o g q
  keeps-by o p g q r e f h = subst (λ v. Keeps v g q) (sym e) (subst (λ v. Keeps p g v) (sym f) h)

started-shape : (c : Configuration) (r start : ℕ) (g : Round) → g ≡ no_round → IsShaped c (gave r (Q.Table TQ.BeginRound) (A.Table (T.Round r start)) g)
started-shape c r start g e =
    subst (λ v. IsShaped c (gave r (Q.Table TQ.BeginRound) (A.Table (T.Round r start)) v)) (sym e)
    (subst (λ b. IsShaped c (if b then with_started start no_round else no_round)) (sym (eq-eqb r r refl)) (shaped-begun c start))

begin-keeps : (c : Configuration) (a : Answer) (g : Round) → Keeps c a None g (Q.Table TQ.BeginRound)
begin-keeps c (A.Device a) g e = e
begin-keeps c (A.Table a) g e = by a
  where
    by : (a : TableAnswer) → ShapedSo c (number_after (Q.Table TQ.BeginRound) (A.Table a) None) (round_after (number_after (Q.Table TQ.BeginRound) (A.Table a) None) (Q.Table TQ.BeginRound) (A.Table a) g)
    by (T.Round r start) = started-shape c r start g e
    by _ = e

keeps : (c : Configuration) (a : Answer) (o : Option ℕ) (g : Round) (k : List Bool) (q : Query) → Asked c o g k q → Keeps c a o g q
keeps c a o g k q (begins none is) = keeps-by c a o None g q (Q.Table TQ.BeginRound) none is (begin-keeps c a g)
keeps c a o g k q (clears r d ds some left is) =
    keeps-by c a o (Some r) g q (Q.Device d (DQ.Clear r)) some is (λ h. clear-case r d g (λ x t. IsShaped c x) 0 0 (shaped-clear c g d ds h left) h a)
keeps c a o g k q (pages r d prefix xs some cleared left is) =
    keeps-by c a o (Some r) g q (Q.Device d (DQ.Page r prefix)) some is (λ h. page-case r d g prefix (λ x. IsShaped c x) (λ entries. shaped-page c g d prefix xs entries h cleared left) h a)
keeps c a o g k q (scans r some cleared paged more is) =
    keeps-by c a o (Some r) g q (Q.Table (TQ.Scan r (reached g.scans) c.scan_limit)) some is (λ h. scan-case r 0 g (reached g.scans) c.scan_limit (λ x. IsShaped c x) (λ rows last. shaped-scan c g rows last h paged more) h a)
keeps c a o g k q (accepts r d ds some cleared paged done left is) =
    keeps-by c a o (Some r) g q (Q.Device d (DQ.Accept r (lists_for c r g d))) some is (λ h. accept-case r d g (lists_for c r g d) (λ x. IsShaped c x) h a)

shaped : (c : Configuration) (replies : List Answered) → ShapedSo c (standing c replies).number (standing c replies).round
shaped c [] = refl
shaped c (x ∷ earlier) = by (next_of c (standing c earlier)) refl (shaped c earlier)
  where
    by : (m : Next) → next_of c (standing c earlier) ≡ m → ShapedSo c (standing c earlier).number (standing c earlier).round →
        ShapedSo c (after_next m x (standing c earlier)).number (after_next m x (standing c earlier)).round
    by (ends o) e h = h
    by (asks q) e h =
        keeps c x.answer (standing c earlier).number (standing c earlier).round (standing c earlier).refusals q
        (asked-next c (standing c earlier).round (standing c earlier).refusals q (standing c earlier).ended (standing c earlier).number e) h

-- ---- the lists that it sends
abbrev device_of : Query → ℕ
device_of (Q.Device d q) = d
device_of (Q.Table q) = 0

abbrev query_at : Query → DeviceQuery
query_at (Q.Device d q) = q
query_at (Q.Table q) = DQ.TrashNext

abbrev round_sent : DeviceQuery → ℕ
round_sent (DQ.Accept r lists) = r
round_sent _ = 0

abbrev lists_sent : Lists → DeviceQuery → Lists
lists_sent none (DQ.Accept r lists) = lists
lists_sent none _ = none

sends : (c : Configuration) (o : Option ℕ) (g : Round) (refusals : List Bool) (d r : ℕ) (lists : Lists) → ShapedSo c o g → Asked c o g refusals (Q.Device d (DQ.Accept r lists)) → (o ≡ Some r) × ArePlanned c r g d lists
sends c o g refusals d r lists h (begins none is) = cc is
sends c o g refusals d r lists h (clears s k ds some left is) = absurd (no-clear (ap query_at is))
  where
    no-clear : DQ.Accept r lists ≡ DQ.Clear s → ⊥
    no-clear e = cc e
sends c o g refusals d r lists h (pages s k prefix xs some cleared left is) = absurd (no-page (ap query_at is))
  where
    no-page : DQ.Accept r lists ≡ DQ.Page s prefix → ⊥
    no-page e = cc e
sends c o g refusals d r lists h (scans s some cleared paged more is) = cc is
sends c o g refusals d r lists h (accepts s k ds some cleared paged done left is) =
    let whole = shaped-gathered c g (subst (λ v. ShapedSo c v g) some h) cleared paged done in
    let to : d ≡ k = ap device_of is in
    let what : lists ≡ lists_for c s g k = ap (λ v. lists_sent lists (query_at v)) is in
    let number : r ≡ s = ap (λ v. round_sent (query_at v)) is in
    (some ∙ ap Some (sym number), record { whole = whole; are = what ∙ (ap (lists_for c s g) (sym to) ∙ ap (λ v. lists_for c v g d) (sym number)) })

sends-planned : (c : Configuration) (replies : List Answered) (d r : ℕ) (lists : Lists) → next c replies ≡ asks (Q.Device d (DQ.Accept r lists)) → SendsPlanned c replies d r lists
sends-planned c replies d r lists e =
    let both = sends c (standing c replies).number (standing c replies).round (standing c replies).refusals d r lists (shaped c replies)
    (asked-next c (standing c replies).round (standing c replies).refusals (Q.Device d (DQ.Accept r lists)) (standing c replies).ended (standing c replies).number e) in
    record { number = both.0; planned = both.1 }

pub rounds-in-order : (c : Configuration) → RoundsAreInOrder c
rounds-in-order c = record {
  ordered = λ replies r e. (let s = subst (λ o. ShapedSo c o (standing c replies).round) e (shaped c replies) in s.ordered);
  planned = sends-planned c;
}
