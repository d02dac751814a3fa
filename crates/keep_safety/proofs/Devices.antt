-- What is known of each device after any past that may happen: `device-facts`, a step of it `device-next`.
use Rattle.std.proofs.Common.{◌≡◌, ◌≤◌, ℕ, List, [], ◌∷◌, Bool, true, false, refl, sym, ◌∙◌, ap, subst, is_some, arith, inl, inr, nat_eq, if◌then◌else◌}
use Rattle.std.specs.Prelude.{◌⊎◌}
use Rattle.std.proofs.lemmas.Bool.{eqb-true, eqb-false}
use Rattle.keep_spec.specs.Config.{Configuration}
use Rattle.keep_spec.specs.Times.{threshold}
use Rattle.keep_event.specs.Device.{State, replica_of}
use Rattle.keep_event.specs.declared.lists.Entry.{Entry}
use Rattle.keep_event.specs.Plan.{trash_list, planned}
use Rattle.keep_event.specs.declared.lists.Lists.{Lists}
use Rattle.keep_event.specs.declared.lists.TrashItem.{TrashItem}
use Rattle.keep_event.specs.declared.device.DeviceQuery.{DeviceQuery}
use Rattle.keep_event.specs.declared.device.DeviceQuery.TheVariants as DQ
use Rattle.keep_event.specs.declared.device.DeviceAnswer.{DeviceAnswer}
use Rattle.keep_event.specs.declared.device.DeviceAnswer.TheVariants as D
use Rattle.keep_event.specs.declared.table.TableQuery.{TableQuery}
use Rattle.keep_event.specs.declared.table.TableQuery.TheVariants as TQ
use Rattle.keep_event.specs.declared.table.TableAnswer.{TableAnswer}
use Rattle.keep_event.specs.declared.table.TableAnswer.TheVariants as T
use Rattle.keep_event.specs.declared.event.Event.{Event}
use Rattle.keep_event.specs.declared.event.Query.{Query}
use Rattle.keep_event.specs.declared.event.Query.TheVariants as Q
use Rattle.keep_event.specs.declared.event.Answer.{Answer}
use Rattle.keep_event.specs.declared.event.Answer.TheVariants as A
use Rattle.keep_safety.specs.Allowed.{IsAllowed, MayFollow, IsPlanned, TakesPlanned}
use Rattle.keep_safety.specs.Holds.{holds, holds_after, held_after}
use Rattle.keep_spec.specs.Members.{IsIn}
use Rattle.keep_event.specs.World.{device_rules}
use Rattle.keep_safety.specs.Past.{Past, left_by, device_after, IsAnswered}
use Rattle.keep_safety.proofs.Items.{told}
use Rattle.keep_history.specs.Rounds.{Round, Given, gave, device_gave, table_gave, with_cleared, with_page, with_started, with_scan}
use Rattle.keep_safety.specs.Rounds.{round_in, IsGathered, stage, at_stage, IsInOrder}
use Rattle.keep_safety.specs.Signatures.{digest_named}
use Rattle.keep_safety.proofs.Lines.{Goes, Does, step-does}
use Rattle.keep_safety.proofs.Names.{bytes-self}
use Rattle.keep_safety.proofs.Places.{at-self, at-other, line_at, left-line, left-fault, left-away, by-place}
use Rattle.keep_safety.proofs.Settled.{HasStage, settled}
use Rattle.keep_safety.proofs.Sound.{IsSound, step-sound, nothing-sound}
use Rattle.keep_safety.proofs.Steps.{Moves, step-moves, cleared-round, paged-holds}

-- a device trashed a digest for a round
abbrev pub Trashes : ℕ → List ℕ → ℕ → Query → Answer → Type 0
Trashes d h r (Q.Device n q) (A.Device (D.Trashed x deadline m)) = (n ≡ d) × (x ≡ h) × (m ≡ r)
Trashes d h r _ _ = ⊥

abbrev pub HasTrashed : ℕ → List ℕ → ℕ → Past → Type 0
HasTrashed d h r [] = ⊥
HasTrashed d h r (e ∷ past) = Trashes d h r e.query e.answer ⊎ HasTrashed d h r past

-- an item of the plan of what a round gave
pub record IsListed (c : Configuration) (g : Round) (d : ℕ) (x : TrashItem) : Type 0 where
  pub whole : IsGathered c g
  pub listed : IsIn x (trash_list c (told g) (threshold c.ttl c.skew whole.start) d)

-- a digest that was trashed was in the plan
pub record WasListed (c : Configuration) (g : Round) (d : ℕ) (h : List ℕ) : Type 0 where
  pub item : TrashItem
  pub digest : item.digest ≡ h
  pub is : IsListed c g d item

-- what a page told is there still, or was trashed for a round that isn't lower
pub record StillHolds (h : List ℕ) (r : ℕ) (s : State) (Trashed : ℕ → Type 0) : Type 0 where
  pub is : (is_some (replica_of h s) ≡ true) ⊎ ((m : ℕ) × (r ≤ m) × Trashed m)

pub record DeviceFacts (c : Configuration) (d : ℕ) (past : Past) : Type 0 where
  pub sound : IsSound (device_after c d past).held
  pub holds_is : (h : List ℕ) → holds d h past ≡ is_some (replica_of h (device_after c d past))
  pub cleared : (r : ℕ) → IsIn d (round_in r past).cleared → r ≤ (device_after c d past).round
  pub paged : (r : ℕ) (p : Given) → IsIn p (round_in r past).pages → p.device ≡ d →
      (r ≤ (device_after c d past).round) × ((x : Entry) → IsIn x p.entries → StillHolds x.digest r (device_after c d past) (λ m. HasTrashed d x.digest m past))
  pub listed : (x : TrashItem) → IsIn x (device_after c d past).trash →
      HasStage (device_after c d past).round 3 past × IsListed c (round_in (device_after c d past).round past) d x
  pub trashed : (h : List ℕ) (r : ℕ) → HasTrashed d h r past → HasStage r 3 past × WasListed c (round_in r past) d h

-- ---- what an answer to a clear or a page adds
added-cleared : (r x d : ℕ) (q : DeviceQuery) (a : DeviceAnswer) (g : Round) → IsIn x (device_gave r d q a g).cleared → IsIn x g.cleared ⊎ ((x ≡ d) × (q ≡ DQ.Clear r) × (a ≡ D.Cleared))
added-cleared r x d (DQ.Clear n) a g i = by a i
  where
    at : (b : Bool) → nat_eq n r ≡ b → IsIn x (if b then with_cleared d g else g).cleared → IsIn x g.cleared ⊎ ((x ≡ d) × (DQ.Clear n ≡ DQ.Clear r) × (D.Cleared ≡ D.Cleared))
    at true e (inl same) = inr (same, ap DQ.Clear (eqb-true n r e), refl)
    at true e (inr i) = inl i
    at false e i = inl i

    by : (a : DeviceAnswer) → IsIn x (device_gave r d (DQ.Clear n) a g).cleared → IsIn x g.cleared ⊎ ((x ≡ d) × (DQ.Clear n ≡ DQ.Clear r) × (a ≡ D.Cleared))
    by D.Cleared i = at (nat_eq n r) refl i
    by (D.Page entries) i = inl i
    by _ i = inl i
added-cleared r x d (DQ.Page n prefix) a g i = by a i
  where
    by : (a : DeviceAnswer) → IsIn x (device_gave r d (DQ.Page n prefix) a g).cleared → IsIn x g.cleared ⊎ ((x ≡ d) × (DQ.Page n prefix ≡ DQ.Clear r) × (a ≡ D.Cleared))
    by (D.Page entries) i = page (nat_eq n r) i
      where
        page : (b : Bool) → IsIn x (if b then with_page (record { device = d; prefix = prefix; entries = entries }) g else g).cleared → IsIn x g.cleared ⊎ ((x ≡ d) × (DQ.Page n prefix ≡ DQ.Clear r) × (D.Page entries ≡ D.Cleared))
        page true i = inl i
        page false i = inl i
    by _ i = inl i
added-cleared r x d _ a g i = inl i

pub record AddsPage (r : ℕ) (p : Given) (d : ℕ) (q : DeviceQuery) (a : DeviceAnswer) : Type 0 where
  pub device : p.device ≡ d
  pub asked : q ≡ DQ.Page r p.prefix
  pub answered : a ≡ D.Page p.entries

added-page : (r : ℕ) (p : Given) (d : ℕ) (q : DeviceQuery) (a : DeviceAnswer) (g : Round) → IsIn p (device_gave r d q a g).pages → IsIn p g.pages ⊎ AddsPage r p d q a
added-page r p d (DQ.Page n prefix) a g i = by a i
  where
    by : (a : DeviceAnswer) → IsIn p (device_gave r d (DQ.Page n prefix) a g).pages → IsIn p g.pages ⊎ AddsPage r p d (DQ.Page n prefix) a
    by (D.Page entries) i = page (nat_eq n r) refl i
      where
        page : (b : Bool) → nat_eq n r ≡ b → IsIn p (if b then with_page (record { device = d; prefix = prefix; entries = entries }) g else g).pages → IsIn p g.pages ⊎ AddsPage r p d (DQ.Page n prefix) (D.Page entries)
        page true e (inl same) = inr (record {
          device = ap (λ (v : Given). v.device) same;
          asked = ap (λ m. DQ.Page m prefix) (eqb-true n r e) ∙ ap (λ (v : Given). DQ.Page r v.prefix) (sym same);
          answered = ap (λ (v : Given). D.Page v.entries) (sym same);
        })
        page true e (inr i) = inl i
        page false e i = inl i
    by _ i = inl i
added-page r p d (DQ.Clear n) a g i = by a i
  where
    at : (a : DeviceAnswer) (b : Bool) → IsIn p (if b then with_cleared d g else g).pages → IsIn p g.pages ⊎ AddsPage r p d (DQ.Clear n) a
    at a true i = inl i
    at a false i = inl i

    by : (a : DeviceAnswer) → IsIn p (device_gave r d (DQ.Clear n) a g).pages → IsIn p g.pages ⊎ AddsPage r p d (DQ.Clear n) a
    by D.Cleared i = at D.Cleared (nat_eq n r) i
    by _ i = inl i
added-page r p d _ a g i = inl i

-- the table gives a round no clear and no page
record SamePlaces (x g : Round) : Type 0 where
  cleared : x.cleared ≡ g.cleared
  pages : x.pages ≡ g.pages

same-if : (b : Bool) (x g : Round) → SamePlaces x g → SamePlaces (if b then x else g) g
same-if true x g h = h
same-if false x g h = record { cleared = refl; pages = refl }

table-clears : (r : ℕ) (q : TableQuery) (a : TableAnswer) (g : Round) → SamePlaces (table_gave r q a g) g
table-clears r TQ.BeginRound a g = by a
  where
    by : (a : TableAnswer) → SamePlaces (table_gave r TQ.BeginRound a g) g
    by (T.Round n started) = same-if (nat_eq n r) (with_started started g) g (record { cleared = refl; pages = refl })
    by _ = record { cleared = refl; pages = refl }
table-clears r (TQ.Scan n after limit) a g = by a
  where
    by : (a : TableAnswer) → SamePlaces (table_gave r (TQ.Scan n after limit) a g) g
    by (T.Rows rows last) = same-if (nat_eq n r) (with_scan (record { after = after; rows = rows; last = last }) g) g (record { cleared = refl; pages = refl })
    by _ = record { cleared = refl; pages = refl }
table-clears r _ a g = record { cleared = refl; pages = refl }

pub other-number : (n d : ℕ) → nat_eq n d ≡ false → n ≡ d → ⊥
other-number n d e same = eqb-false n d e same

pub trashed-round : (x y : List ℕ) (t u m n : ℕ) → D.Trashed x t m ≡ D.Trashed y u n → m ≡ n
trashed-round x y t u m n e = cc e

trashes-by : (d : ℕ) (h : List ℕ) (m n : ℕ) (x : List ℕ) (t k : ℕ) → (n ≡ d) × (x ≡ h) × (k ≡ m) → D.Trashed x t k ≡ D.Trashed h t m
trashes-by d h m n x t k e = ap (λ v. D.Trashed v t k) e.1 ∙ ap (λ v. D.Trashed h t v) e.2

pub trashes-is : (d : ℕ) (h : List ℕ) (m n : ℕ) (q : DeviceQuery) (a : DeviceAnswer) → Trashes d h m (Q.Device n q) (A.Device a) → (deadline : ℕ) × (a ≡ D.Trashed h deadline m)
trashes-is d h m n q (D.Trashed x t k) e = (t, trashes-by d h m n x t k e)
trashes-is d h m n q _ e = absurd e

pub trashes-at : (d : ℕ) (h : List ℕ) (m n : ℕ) (q : DeviceQuery) (a : DeviceAnswer) → Trashes d h m (Q.Device n q) (A.Device a) → n ≡ d
trashes-at d h m n q (D.Trashed x t k) e = e.0
trashes-at d h m n q _ e = absurd e

-- ---- one event more
module _ (c : Configuration) (d : ℕ) (past : Past) (reading : ℕ) (f : DeviceFacts c d past) where
  abbrev now_state : State
  now_state = device_after c d past

  abbrev after : Query → Answer → State
  after q a = left_by c d reading q a now_state

  does : (h : List ℕ) (q : DeviceQuery) → Does (device_rules c d) reading now_state f.sound.ascends h q (line_at c d past reading q)
  does h q = step-does (device_rules c d) reading now_state f.sound.ascends h q

  moves : (q : DeviceQuery) → Moves now_state q (line_at c d past reading q)
  moves q = step-moves (device_rules c d) reading now_state q

  rises : (q : DeviceQuery) → now_state.round ≤ (line_at c d past reading q).state.round
  rises q = by (moves q)
    where
      by : Moves now_state q (line_at c d past reading q) → now_state.round ≤ (line_at c d past reading q).state.round
      by (inl k) = omega (arith, k.round)
      by (inr (inl k)) = k.round
      by (inr (inr k)) = omega (arith, k.round)

  -- what holds of the state before and of a line's state holds after any event
  by-state : (P : State → Type 0) (q : Query) (a : Answer) → IsAnswered c past reading q a → P now_state → ((x : DeviceQuery) → P (line_at c d past reading x).state) → P (after q a)
  by-state P q a answered before line = by-place c d past reading (λ q a. P (after q a))
      (λ x configured. subst P (sym (left-line c d past reading x)) (line x))
      (λ x. subst P (sym (left-fault c d past reading x)) before)
      (λ n x a e. subst P (sym (left-away c d past reading n x a e)) before)
      (λ x a e. before)
      q a answered

  sound-next : (q : Query) (a : Answer) → IsAnswered c past reading q a → IsSound (after q a).held
  sound-next q a answered = by-state (λ s. IsSound s.held) q a answered f.sound (λ x. step-sound (device_rules c d) reading now_state f.sound x)

  rises-next : (q : Query) (a : Answer) → IsAnswered c past reading q a → now_state.round ≤ (after q a).round
  rises-next q a answered = by-state (λ s. now_state.round ≤ s.round) q a answered (omega arith) rises

  -- ---- who holds
  says : (h : List ℕ) (q : DeviceQuery) → held_after h (digest_named q) (line_at c d past reading q).answer (holds d h past) ≡ is_some (replica_of h (line_at c d past reading q).state)
  says h q = by (does h q)
    where
      by : Does (device_rules c d) reading now_state f.sound.ascends h q (line_at c d past reading q) → held_after h (digest_named q) (line_at c d past reading q).answer (holds d h past) ≡ is_some (replica_of h (line_at c d past reading q).state)
      by (inl k) = k.said (holds d h past) ∙ f.holds_is h ∙ ap is_some (sym k.same)
      by (inr (inl k)) = k.said (holds d h past) (f.holds_is h) ∙ ap is_some (sym k.there)
      by (inr (inr k)) = ap (λ x. held_after h (digest_named q) x (holds d h past)) k.answered ∙ ap (λ b. if b then false else holds d h past) (bytes-self h) ∙ ap is_some (sym k.gone)

  fault-says : (h : List ℕ) (x : DeviceQuery) → holds_after d h (Q.Device d x) (A.Device D.StoreFault) (holds d h past) ≡ holds d h past
  fault-says h x = both (nat_eq d d) (holds d h past)
    where
      both : (b x : Bool) → (if b then x else x) ≡ x
      both true x = refl
      both false x = refl

  holds-next : (h : List ℕ) (q : Query) (a : Answer) → IsAnswered c past reading q a → holds_after d h q a (holds d h past) ≡ is_some (replica_of h (after q a))
  holds-next h = by-place c d past reading (λ q a. holds_after d h q a (holds d h past) ≡ is_some (replica_of h (after q a)))
      (λ x configured. at-self d (held_after h (digest_named x) (line_at c d past reading x).answer (holds d h past)) (holds d h past) ∙ says h x ∙ ap (λ s. is_some (replica_of h s)) (sym (left-line c d past reading x)))
      (λ x. fault-says h x ∙ f.holds_is h ∙ ap (λ s. is_some (replica_of h s)) (sym (left-fault c d past reading x)))
      (λ n x a e. at-other n d (held_after h (digest_named x) a (holds d h past)) (holds d h past) e ∙ f.holds_is h ∙ ap (λ s. is_some (replica_of h s)) (sym (left-away c d past reading n x a e)))
      (λ x a e. f.holds_is h)

  -- ---- clears
  line-cleared : (r : ℕ) (x : DeviceQuery) → IsIn d (device_gave r d x (line_at c d past reading x).answer (round_in r past)).cleared → r ≤ (line_at c d past reading x).state.round
  line-cleared r x i = by (added-cleared r d d x (line_at c d past reading x).answer (round_in r past) i)
    where
      by : IsIn d (round_in r past).cleared ⊎ ((d ≡ d) × (x ≡ DQ.Clear r) × ((line_at c d past reading x).answer ≡ D.Cleared)) → r ≤ (line_at c d past reading x).state.round
      by (inl old) = let le = f.cleared r old in let up = rises x in omega arith
      by (inr new) =
          let keeps = cleared-round (device_rules c d) reading now_state r (subst (λ y. (line_at c d past reading y).answer ≡ D.Cleared) new.1 new.2) in
          subst (λ y. r ≤ (line_at c d past reading y).state.round) (sym new.1) (omega arith)

  cleared-next : (r : ℕ) (q : Query) (a : Answer) → IsAnswered c past reading q a → IsIn d (gave r q a (round_in r past)).cleared → r ≤ (after q a).round
  cleared-next r = by-place c d past reading (λ q a. IsIn d (gave r q a (round_in r past)).cleared → r ≤ (after q a).round)
      (λ x configured i. subst (λ s. r ≤ s.round) (sym (left-line c d past reading x)) (line-cleared r x i))
      (λ x i. subst (λ s. r ≤ s.round) (sym (left-fault c d past reading x)) (faulty x (added-cleared r d d x D.StoreFault (round_in r past) i)))
      (λ n x a e i. subst (λ s. r ≤ s.round) (sym (left-away c d past reading n x a e)) (elsewhere n x a e (added-cleared r d n x a (round_in r past) i)))
      (λ x a e i. f.cleared r (subst (λ v. IsIn d v) (table-clears r x a (round_in r past)).cleared i))
    where
      faulty : (x : DeviceQuery) → IsIn d (round_in r past).cleared ⊎ ((d ≡ d) × (x ≡ DQ.Clear r) × (D.StoreFault ≡ D.Cleared)) → r ≤ now_state.round
      faulty x (inl old) = f.cleared r old
      faulty x (inr new) = cc new.2

      elsewhere : (n : ℕ) (x : DeviceQuery) (a : DeviceAnswer) → nat_eq n d ≡ false → IsIn d (round_in r past).cleared ⊎ ((d ≡ n) × (x ≡ DQ.Clear r) × (a ≡ D.Cleared)) → r ≤ now_state.round
      elsewhere n x a e (inl old) = f.cleared r old
      elsewhere n x a e (inr new) = absurd (other-number n d e (sym new.0))

  -- ---- pages
  abbrev Held : (h : List ℕ) → ℕ → Query → Answer → State → Type 0
  Held h r q a s = StillHolds h r s (λ m. Trashes d h m q a ⊎ HasTrashed d h m past)

  line-held : (h : List ℕ) (r : ℕ) (x : DeviceQuery) → r ≤ now_state.round → StillHolds h r now_state (λ m. HasTrashed d h m past) → Held h r (Q.Device d x) (A.Device (line_at c d past reading x).answer) (line_at c d past reading x).state
  line-held h r x le b = by b.is (does h x)
    where
      goes : Goes (device_rules c d) reading h now_state (line_at c d past reading x) → (m : ℕ) × (r ≤ m) × (Trashes d h m (Q.Device d x) (A.Device (line_at c d past reading x).answer) ⊎ HasTrashed d h m past)
      goes k = (now_state.round, le, inl (subst (λ a. Trashes d h now_state.round (Q.Device d x) (A.Device a)) (sym k.answered) (refl, refl, refl)))

      by : (is_some (replica_of h now_state) ≡ true) ⊎ ((m : ℕ) × (r ≤ m) × HasTrashed d h m past) → Does (device_rules c d) reading now_state f.sound.ascends h x (line_at c d past reading x) →
          Held h r (Q.Device d x) (A.Device (line_at c d past reading x).answer) (line_at c d past reading x).state
      by (inr t) k = record { is = inr (t.0, t.1, inr t.2) }
      by (inl some) (inl k) = record { is = inl (ap is_some k.same ∙ some) }
      by (inl some) (inr (inl k)) = record { is = inl (ap is_some k.there) }
      by (inl some) (inr (inr k)) = record { is = inr (goes k) }

  still : (h : List ℕ) (r : ℕ) (q : Query) (a : Answer) → StillHolds h r now_state (λ m. HasTrashed d h m past) → Held h r q a now_state
  still h r q a b = by b.is
    where
      by : (is_some (replica_of h now_state) ≡ true) ⊎ ((m : ℕ) × (r ≤ m) × HasTrashed d h m past) → Held h r q a now_state
      by (inl some) = record { is = inl some }
      by (inr t) = record { is = inr (t.0, t.1, inr t.2) }

  abbrev PagedAt : ℕ → Given → Query → Answer → State → Type 0
  PagedAt r p q a s = (r ≤ s.round) × ((x : Entry) → IsIn x p.entries → Held x.digest r q a s)

  old-page : (r : ℕ) (p : Given) (q : Query) (a : Answer) → IsIn p (round_in r past).pages → p.device ≡ d → PagedAt r p q a now_state
  old-page r p q a i is = let was = f.paged r p i is in (was.0, λ x j. still x.digest r q a (was.1 x j))

  line-paged : (r : ℕ) (p : Given) (x : DeviceQuery) → IsIn p (device_gave r d x (line_at c d past reading x).answer (round_in r past)).pages → p.device ≡ d →
      PagedAt r p (Q.Device d x) (A.Device (line_at c d past reading x).answer) (line_at c d past reading x).state
  line-paged r p x i is = by (added-page r p d x (line_at c d past reading x).answer (round_in r past) i)
    where
      old : IsIn p (round_in r past).pages → PagedAt r p (Q.Device d x) (A.Device (line_at c d past reading x).answer) (line_at c d past reading x).state
      old i = let was = f.paged r p i is in let up = rises x in (omega (arith, was.0), λ e j. line-held e.digest r x was.0 (was.1 e j))

      new : AddsPage r p d x (line_at c d past reading x).answer → PagedAt r p (Q.Device d x) (A.Device (line_at c d past reading x).answer) (line_at c d past reading x).state
      new k =
          let told = paged-holds (device_rules c d) reading now_state f.sound.ascends r p.prefix p.entries (subst (λ y. (line_at c d past reading y).answer ≡ D.Page p.entries) k.asked k.answered) in
          let up = rises x in
          let low : r ≤ now_state.round = omega (arith, told.kept) in
          (omega arith, λ e j. line-held e.digest r x low (record { is = inl (ap is_some (told.held e j).1) }))

      by : IsIn p (round_in r past).pages ⊎ AddsPage r p d x (line_at c d past reading x).answer → PagedAt r p (Q.Device d x) (A.Device (line_at c d past reading x).answer) (line_at c d past reading x).state
      by (inl i) = old i
      by (inr k) = new k

  paged-next : (r : ℕ) (p : Given) (q : Query) (a : Answer) → IsAnswered c past reading q a → IsIn p (gave r q a (round_in r past)).pages → p.device ≡ d → PagedAt r p q a (after q a)
  paged-next r p = by-place c d past reading (λ q a. IsIn p (gave r q a (round_in r past)).pages → p.device ≡ d → PagedAt r p q a (after q a))
      (λ x configured i is. subst (λ s. PagedAt r p (Q.Device d x) (A.Device (line_at c d past reading x).answer) s) (sym (left-line c d past reading x)) (line-paged r p x i is))
      (λ x i is. subst (λ s. PagedAt r p (Q.Device d x) (A.Device D.StoreFault) s) (sym (left-fault c d past reading x)) (faulty x is (added-page r p d x D.StoreFault (round_in r past) i)))
      (λ n x a e i is. subst (λ s. PagedAt r p (Q.Device n x) (A.Device a) s) (sym (left-away c d past reading n x a e)) (elsewhere n x a e is (added-page r p n x a (round_in r past) i)))
      (λ x a e i is. old-page r p (Q.Table x) (A.Table a) (subst (λ v. IsIn p v) (table-clears r x a (round_in r past)).pages i) is)
    where
      faulty : (x : DeviceQuery) → p.device ≡ d → IsIn p (round_in r past).pages ⊎ AddsPage r p d x D.StoreFault → PagedAt r p (Q.Device d x) (A.Device D.StoreFault) now_state
      faulty x is (inl i) = old-page r p (Q.Device d x) (A.Device D.StoreFault) i is
      faulty x is (inr k) = cc k.answered

      elsewhere : (n : ℕ) (x : DeviceQuery) (a : DeviceAnswer) → nat_eq n d ≡ false → p.device ≡ d → IsIn p (round_in r past).pages ⊎ AddsPage r p n x a → PagedAt r p (Q.Device n x) (A.Device a) now_state
      elsewhere n x a e is (inl i) = old-page r p (Q.Device n x) (A.Device a) i is
      elsewhere n x a e is (inr k) = absurd (other-number n d e (sym k.device ∙ is))

  -- ---- lists
  abbrev ListedAt : Query → Answer → State → TrashItem → Type 0
  ListedAt q a s x = ((stage q a ≡ at_stage s.round 3) ⊎ HasStage s.round 3 past) × IsListed c (gave s.round q a (round_in s.round past)) d x

  still-listed : (q : Query) (a : Answer) (x : TrashItem) → IsInOrder past q a → IsIn x now_state.trash → ListedAt q a now_state x
  still-listed q a x o i =
      let was = f.listed x i in
      (inr was.0, subst (λ g. IsListed c g d x) (sym (settled now_state.round past q a was.0 o)) was.1)

  of-round : (q : Query) (a : Answer) (x : TrashItem) (m n : ℕ) → m ≡ n → ((stage q a ≡ at_stage m 3) ⊎ HasStage m 3 past) × IsListed c (gave m q a (round_in m past)) d x →
      ((stage q a ≡ at_stage n 3) ⊎ HasStage n 3 past) × IsListed c (gave n q a (round_in n past)) d x
  of-round q a x m n e h = subst (λ k. ((stage q a ≡ at_stage k 3) ⊎ HasStage k 3 past) × IsListed c (gave k q a (round_in k past)) d x) e h

  taken-listed : (y : TrashItem) (lists : Lists) (x : DeviceQuery) (a : DeviceAnswer) (t p : ℕ) → x ≡ DQ.Accept now_state.round lists → a ≡ D.Accepted t p → IsIn y lists.trash → IsPlanned c past (Q.Device d x) (A.Device a) →
      ((stage (Q.Device d x) (A.Device a) ≡ at_stage now_state.round 3) ⊎ HasStage now_state.round 3 past) × IsListed c (gave now_state.round (Q.Device d x) (A.Device a) (round_in now_state.round past)) d y
  taken-listed y lists x a t p asked answered i planned =
      let done : TakesPlanned c past d (DQ.Accept now_state.round lists) (D.Accepted t p) = subst (λ a. TakesPlanned c past d (DQ.Accept now_state.round lists) a) answered (subst (λ x. TakesPlanned c past d x a) asked planned) in
      subst (λ x. ((stage (Q.Device d x) (A.Device a) ≡ at_stage now_state.round 3) ⊎ HasStage now_state.round 3 past) × IsListed c (gave now_state.round (Q.Device d x) (A.Device a) (round_in now_state.round past)) d y) (sym asked)
      (inl refl, record { whole = done.whole; listed = subst (λ (v : Lists). IsIn y v.trash) done.are i })

  line-listed : (x : DeviceQuery) (y : TrashItem) → IsInOrder past (Q.Device d x) (A.Device (line_at c d past reading x).answer) → IsPlanned c past (Q.Device d x) (A.Device (line_at c d past reading x).answer) → IsIn y (line_at c d past reading x).state.trash →
      ListedAt (Q.Device d x) (A.Device (line_at c d past reading x).answer) (line_at c d past reading x).state y
  line-listed x y o planned i = by (moves x)
    where
      by : Moves now_state x (line_at c d past reading x) → ListedAt (Q.Device d x) (A.Device (line_at c d past reading x).answer) (line_at c d past reading x).state y
      by (inl k) = of-round (Q.Device d x) (A.Device (line_at c d past reading x).answer) y now_state.round (line_at c d past reading x).state.round (sym k.round)
          (still-listed (Q.Device d x) (A.Device (line_at c d past reading x).answer) y o (k.within y i))
      by (inr (inl k)) = absurd (subst (λ v. IsIn y v) k.empty i)
      by (inr (inr k)) = of-round (Q.Device d x) (A.Device (line_at c d past reading x).answer) y now_state.round (line_at c d past reading x).state.round (sym k.round)
          (taken-listed y k.lists x (line_at c d past reading x).answer _ _ k.asked k.answered (subst (λ v. IsIn y v) k.trash i) planned)

  listed-next : (q : Query) (a : Answer) → IsAnswered c past reading q a → IsInOrder past q a → IsPlanned c past q a → (y : TrashItem) → IsIn y (after q a).trash → ListedAt q a (after q a) y
  listed-next = by-place c d past reading (λ q a. IsInOrder past q a → IsPlanned c past q a → (y : TrashItem) → IsIn y (after q a).trash → ListedAt q a (after q a) y)
      (λ x configured o planned y. subst (λ s. IsIn y s.trash → ListedAt (Q.Device d x) (A.Device (line_at c d past reading x).answer) s y) (sym (left-line c d past reading x)) (line-listed x y o planned))
      (λ x o planned y. subst (λ s. IsIn y s.trash → ListedAt (Q.Device d x) (A.Device D.StoreFault) s y) (sym (left-fault c d past reading x)) (still-listed (Q.Device d x) (A.Device D.StoreFault) y o))
      (λ n x a e o planned y. subst (λ s. IsIn y s.trash → ListedAt (Q.Device n x) (A.Device a) s y) (sym (left-away c d past reading n x a e)) (still-listed (Q.Device n x) (A.Device a) y o))
      (λ x a e o planned y. still-listed (Q.Table x) (A.Table a) y o)

  -- ---- what was trashed
  abbrev TrashedAt : List ℕ → ℕ → Query → Answer → Type 0
  TrashedAt h m q a = ((stage q a ≡ at_stage m 3) ⊎ HasStage m 3 past) × WasListed c (gave m q a (round_in m past)) d h

  old-trashed : (h : List ℕ) (m : ℕ) (q : Query) (a : Answer) → IsInOrder past q a → HasTrashed d h m past → TrashedAt h m q a
  old-trashed h m q a o t =
      let was = f.trashed h m t in
      (inr was.0, subst (λ g. WasListed c g d h) (sym (settled m past q a was.0 o)) was.1)

  line-trashed : (h : List ℕ) (m deadline : ℕ) (x : DeviceQuery) → IsInOrder past (Q.Device d x) (A.Device (line_at c d past reading x).answer) → (line_at c d past reading x).answer ≡ D.Trashed h deadline m →
      TrashedAt h m (Q.Device d x) (A.Device (line_at c d past reading x).answer)
  line-trashed h m deadline x o is = by (does h x)
    where
      goes : Goes (device_rules c d) reading h now_state (line_at c d past reading x) → TrashedAt h m (Q.Device d x) (A.Device (line_at c d past reading x).answer)
      goes k =
          let was = still-listed (Q.Device d x) (A.Device (line_at c d past reading x).answer) k.item o k.listed in
          let same : now_state.round ≡ m = trashed-round h h k.deadline deadline now_state.round m (sym k.answered ∙ is) in
          subst (λ n. TrashedAt h n (Q.Device d x) (A.Device (line_at c d past reading x).answer)) same (was.0, record { item = k.item; digest = k.digest; is = was.1 })

      by : Does (device_rules c d) reading now_state f.sound.ascends h x (line_at c d past reading x) → TrashedAt h m (Q.Device d x) (A.Device (line_at c d past reading x).answer)
      by (inl k) = absurd (k.keeps deadline m is)
      by (inr (inl k)) = absurd (k.keeps h deadline m is)
      by (inr (inr k)) = goes k

  trashed-next : (h : List ℕ) (m : ℕ) (q : Query) (a : Answer) → IsAnswered c past reading q a → IsInOrder past q a → Trashes d h m q a ⊎ HasTrashed d h m past → TrashedAt h m q a
  trashed-next h m = by-place c d past reading (λ q a. IsInOrder past q a → Trashes d h m q a ⊎ HasTrashed d h m past → TrashedAt h m q a)
      (λ x configured o t. line x o t)
      (λ x o t. fault x o t)
      (λ n x a e o t. elsewhere n x a e o t)
      (λ x a e o t. table x a o t)
    where
      line : (x : DeviceQuery) → IsInOrder past (Q.Device d x) (A.Device (line_at c d past reading x).answer) → Trashes d h m (Q.Device d x) (A.Device (line_at c d past reading x).answer) ⊎ HasTrashed d h m past → TrashedAt h m (Q.Device d x) (A.Device (line_at c d past reading x).answer)
      line x o (inl t) = let is = trashes-is d h m d x (line_at c d past reading x).answer t in line-trashed h m is.0 x o is.1
      line x o (inr t) = old-trashed h m (Q.Device d x) (A.Device (line_at c d past reading x).answer) o t

      fault : (x : DeviceQuery) → IsInOrder past (Q.Device d x) (A.Device D.StoreFault) → ⊥ ⊎ HasTrashed d h m past → TrashedAt h m (Q.Device d x) (A.Device D.StoreFault)
      fault x o (inl t) = absurd t
      fault x o (inr t) = old-trashed h m (Q.Device d x) (A.Device D.StoreFault) o t

      elsewhere : (n : ℕ) (x : DeviceQuery) (a : DeviceAnswer) → nat_eq n d ≡ false → IsInOrder past (Q.Device n x) (A.Device a) → Trashes d h m (Q.Device n x) (A.Device a) ⊎ HasTrashed d h m past → TrashedAt h m (Q.Device n x) (A.Device a)
      elsewhere n x a e o (inl t) = absurd (other-number n d e (trashes-at d h m n x a t))
      elsewhere n x a e o (inr t) = old-trashed h m (Q.Device n x) (A.Device a) o t

      table : (x : TableQuery) (a : TableAnswer) → IsInOrder past (Q.Table x) (A.Table a) → ⊥ ⊎ HasTrashed d h m past → TrashedAt h m (Q.Table x) (A.Table a)
      table x a o (inl t) = absurd t
      table x a o (inr t) = old-trashed h m (Q.Table x) (A.Table a) o t

pub device-next : (c : Configuration) (d : ℕ) (past : Past) (e : Event) → DeviceFacts c d past → MayFollow c past e → DeviceFacts c d (e ∷ past)
device-next c d past e f m = record {
  sound = sound-next c d past e.reading f e.query e.answer m.answered;
  holds_is = λ h. holds-next c d past e.reading f h e.query e.answer m.answered;
  cleared = λ r. cleared-next c d past e.reading f r e.query e.answer m.answered;
  paged = λ r p. paged-next c d past e.reading f r p e.query e.answer m.answered;
  listed = listed-next c d past e.reading f e.query e.answer m.answered m.in_order m.planned;
  trashed = λ h r. trashed-next c d past e.reading f h r e.query e.answer m.answered m.in_order;
}

pub device-facts : (c : Configuration) (d : ℕ) (past : Past) → IsAllowed c past → DeviceFacts c d past
device-facts c d [] a = record {
  sound = nothing-sound;
  holds_is = λ h. refl;
  cleared = λ r i. absurd i;
  paged = λ r p i is. absurd i;
  listed = λ x i. absurd i;
  trashed = λ h r t. absurd t;
}
device-facts c d (e ∷ past) a = device-next c d past e (device-facts c d past a.1) a.0
