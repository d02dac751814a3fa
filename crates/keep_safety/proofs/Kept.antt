-- A trash step leaves what its round's plan kept: `kept-held`, `copies-left`; no device keeps a lower round then: `trashed-low`.
use Rattle.std.proofs.Common.{◌≡◌, ◌≤◌, ◌<◌, ◌+◌, ℕ, List, [], ◌∷◌, length, count_by, Bool, true, false, refl, sym, ◌∙◌, subst, is_some, arith, inl, inr}
use Rattle.std.specs.Prelude.{◌⊎◌, ◌==◌}
use Rattle.std.proofs.lemmas.Bool.{eqb-true}
use Rattle.keep_spec.specs.Config.{Configuration}
use Rattle.keep_spec.specs.Times.{threshold}
use Rattle.keep_event.specs.Device.{replica_of}
use Rattle.keep_event.specs.Plan.{wanted_in, gathered_rows}
use Rattle.keep_plan.specs.Laws.{IsOfOther}
use Rattle.keep_event.specs.declared.device.DeviceQuery.{DeviceQuery}
use Rattle.keep_event.specs.declared.event.Event.{Event}
use Rattle.keep_safety.specs.Allowed.{IsAllowed}
use Rattle.keep_safety.specs.Holds.{holds, copies}
use Rattle.keep_spec.specs.Members.{IsIn, numbers_from}
use Rattle.keep_event.specs.World.{device_rules}
use Rattle.keep_safety.specs.Past.{Past, device_after}
use Rattle.keep_history.specs.Rounds.{Round}
use Rattle.keep_safety.specs.Rounds.{round_in, IsGathered}
use Rattle.keep_safety.proofs.Devices.{device-facts, HasTrashed, IsListed}
use Rattle.keep_order.proofs.Distinct.{number-in}
use Rattle.keep_safety.proofs.Distinct.{no-more}
use Rattle.keep_safety.proofs.Lines.{Goes}
use Rattle.keep_safety.proofs.Places.{line_at}
use Rattle.keep_safety.proofs.Items.{told, item-is}
use Rattle.keep_safety.proofs.KeptHolders.{kept_of, kept-gave, kept-enough, kept-distinct}
use Rattle.keep_table.proofs.Counts.{bit, count-cons}

-- ---- a test that one passes has one that passes
some-counted-by : (p : ℕ → Bool) (x : ℕ) (xs : List ℕ) (b : Bool) → p x ≡ b → bit b + count_by p xs ≡ 1 → (count_by p xs ≡ 1 → (y : ℕ) × IsIn y xs × (p y ≡ true)) → (y : ℕ) × IsIn y (x ∷ xs) × (p y ≡ true)
some-counted-by p x xs true is e rest = (x, inl refl, is)
some-counted-by p x xs false is e rest = let r = rest (omega arith) in (r.0, inr r.1, r.2)

some-counted : (p : ℕ → Bool) (xs : List ℕ) → count_by p xs ≡ 1 → (y : ℕ) × IsIn y xs × (p y ≡ true)
some-counted p [] e = absurd (omega arith)
some-counted p (x ∷ xs) e = some-counted-by p x xs (p x) refl (sym (count-cons p x xs) ∙ e) (some-counted p xs)

-- each device of a round that is whole was cleared for it
pub was-cleared : (c : Configuration) (g : Round) (d : ℕ) → IsGathered c g → d < length c.devices → IsIn d g.cleared
was-cleared c g d whole lt =
    let s = some-counted (λ x. x == d) g.cleared (whole.cleared d lt) in
    subst (λ v. IsIn v g.cleared) (eqb-true s.0 d s.2) s.1

-- once a round has trashed, no device keeps a lower round
pub trashed-low : (c : Configuration) (past : Past) (d k m : ℕ) (h : List ℕ) → IsAllowed c past → k < length c.devices → HasTrashed d h m past → m ≤ (device_after c k past).round
trashed-low c past d k m h allowed lt t =
    let was = (device-facts c d past allowed).trashed h m t in
    (device-facts c k past allowed).cleared m (was-cleared c (round_in m past) k was.1.is.whole lt)

-- ---- a trash step
module _ (c : Configuration) (past : Past) (reading d : ℕ) (h : List ℕ) (x : DeviceQuery) (allowed : IsAllowed c past) (configured : d < length c.devices)
    (goes : Goes (device_rules c d) reading h (device_after c d past) (line_at c d past reading x)) where
  abbrev pub round_now : ℕ
  round_now = (device_after c d past).round

  abbrev pub gathered_now : Round
  gathered_now = round_in round_now past

  pub listed-now : IsListed c gathered_now d goes.item
  listed-now = ((device-facts c d past allowed).listed goes.item goes.listed).1

  abbrev pub threshold_now : ℕ
  threshold_now = threshold c.ttl c.skew listed-now.whole.start

  pub item-now : IsOfOther c (told gathered_now) threshold_now d goes.item
  item-now = item-is c gathered_now threshold_now d goes.item listed-now.listed

  other-now : IsIn d (kept_of c gathered_now h) → ⊥
  other-now kept = item-now.other (subst (λ v. IsIn d (kept_of c gathered_now v)) (sym goes.digest) kept)

  -- no round above this one has trashed
  pub none-above : (k m : ℕ) (y : List ℕ) → HasTrashed k y m past → m ≤ round_now
  none-above k m y t = trashed-low c past k d m y allowed configured t

  not-by-round : (k : ℕ) → IsIn k (kept_of c gathered_now h) → HasTrashed k h round_now past → ⊥
  not-by-round k kept t =
      let was = ((device-facts c k past allowed).trashed h round_now t).1 in
      let other = item-is c gathered_now (threshold c.ttl c.skew was.is.whole.start) k was.item was.is.listed in
      other.other (subst (λ v. IsIn k (kept_of c gathered_now v)) (sym was.digest) kept)

  still-held : (k : ℕ) → IsIn k (kept_of c gathered_now h) → (is_some (replica_of h (device_after c k past)) ≡ true) ⊎ ((m : ℕ) × (round_now ≤ m) × HasTrashed k h m past) → is_some (replica_of h (device_after c k past)) ≡ true
  still-held k kept (inl some) = some
  still-held k kept (inr t) =
      let low = none-above k t.0 h t.2 in
      let same : t.0 ≡ round_now = omega (arith, t.1) in
      absurd (not-by-round k kept (subst (λ m. HasTrashed k h m past) same t.2))

  -- a kept holder holds the digest still, and is another device
  pub record Keeps (k : ℕ) : Type 0 where
    pub exists : k < length c.devices
    pub held : is_some (replica_of h (device_after c k past)) ≡ true
    pub other : k ≡ d → ⊥

  pub kept-held : (k : ℕ) → IsIn k (kept_of c gathered_now h) → Keeps k
  kept-held k kept =
      let g = kept-gave c gathered_now h k kept in
      let p = (device-facts c k past allowed).paged round_now g.given.page g.given.member g.given.device in
      let s = p.1 g.entry g.given.listed in
      let is = subst (λ v. (is_some (replica_of v (device_after c k past)) ≡ true) ⊎ ((m : ℕ) × (round_now ≤ m) × HasTrashed k v m past)) g.given.digest s.is in
      record {
        exists = g.configured;
        held = still-held k kept is;
        other = λ same. other-now (subst (λ v. IsIn v (kept_of c gathered_now h)) same kept);
      }

  pub enough-kept : wanted_in h (gathered_rows gathered_now.scans) ≤ length (kept_of c gathered_now h)
  enough-kept = subst (λ v. wanted_in v (gathered_rows gathered_now.scans) ≤ length (kept_of c gathered_now v)) goes.digest (kept-enough c gathered_now threshold_now d goes.item listed-now.listed)

  -- so many copies are left, by whatever event this is
  pub copies-left : (e : Event) → ((k : ℕ) → Keeps k → holds k h (e ∷ past) ≡ true) → wanted_in h (gathered_rows gathered_now.scans) ≤ copies c h (e ∷ past)
  copies-left e still =
      let most = no-more (λ k. holds k h (e ∷ past)) (numbers_from 0 (length c.devices)) (kept_of c gathered_now h) (kept-distinct c gathered_now h)
      (λ k i. (let s = kept-held k i in (number-in 0 (length c.devices) k (omega arith) (omega (arith, s.exists)), still k s))) in
      omega (arith, enough-kept)
