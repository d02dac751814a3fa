-- What is known of a past, the world and the tasks is known again after a task was asked: `asked-holds`.
use Rattle.std.proofs.Common.{◌≡◌, ◌≤◌, ◌<◌, ℕ, zero, suc, ◌+◌, ◌==◌, Bool, true, false, List, [], ◌∷◌, ◌++◌, length, map, reverse, Option, None, Some, refl, sym, ◌∙◌, ap, subst, arith, if◌then◌else◌}
use Rattle.std.specs.Prelude.{⊤}
use Rattle.std.specs.List.{AllByRecursion}
use Rattle.std.proofs.lemmas.Bool.{eq-eqb, ne_eqb}
use Rattle.std.proofs.lemmas.List.{reverse-append}
use Rattle.keep_spec.specs.Config.{Configuration}
use Rattle.keep_event.specs.World.{World}
use Rattle.keep_event.specs.declared.event.Event.{Event}
use Rattle.keep_event.specs.declared.event.Query.{Query}
use Rattle.keep_safety.specs.Past.{Past}
use Rattle.keep_history.specs.declared.task.Outcome.{Outcome}
use Rattle.keep_history.specs.Effects.{Asked, Made, Standing, after_made, answered_by, asked_on, event_of, events_max, is_failed, with_answer}
use Rattle.keep_history.specs.Next.{Answered, Next, asks, ends}
use Rattle.keep_history.specs.Tasks.{next}
use Rattle.keep_rounds.specs.Finish.{actor_of}
use Rattle.keep_rounds.specs.Interleaved.{AreSteps, replies_to}
use Rattle.keep_rounds.proofs.Moves.{IsKnown, event-steps}
use Rattle.keep_rounds.proofs.There.{asks-there}
use Rattle.keep_rounds.proofs.Worlds.{WorldIs, world-next}

-- a past, and events after it
abbrev pub past_with : List Made → Past → Past
past_with [] past = past
past_with (m ∷ ms) past = past_with ms (m.event ∷ past)

-- each event left the world that it leaves behind all before it
abbrev pub AreLeft : Configuration → Past → List Made → Type 0
AreLeft c past [] = ⊤
AreLeft c past (m ∷ ms) = WorldIs c (m.event ∷ past) m.left × AreLeft c (m.event ∷ past) ms

abbrev pub AreActors : ℕ → Past → Type 0
AreActors k past = AllByRecursion (λ x. x.actor < k) past

pub all-below : (f : Event → ℕ) (m k : ℕ) (past : Past) → m ≤ k → AllByRecursion (λ x. f x < m) past → AllByRecursion (λ x. f x < k) past
all-below f m k [] le h = tt
all-below f m k (e ∷ past) le h = (let lt = h.0 in omega (arith, le, lt), all-below f m k past le h.1)

module _ (c : Configuration) (balances : ℕ → Bool) where
  -- what is known between two events
  pub record Holds (past : Past) (n : ℕ) (w : World) : Type 0 where
    pub numbered : AllByRecursion (λ x. x.tick < n) past
    pub world : WorldIs c past w
    pub steps : AreSteps c actor_of balances past

  abbrev pub replies_of : ℕ → Past → List Answered
  replies_of m past = replies_to c actor_of balances m past

  -- what asking a task leaves: only its actor made events
  pub record AskedHolds (past : Past) (n : ℕ) (s : Standing) (a : Asked) : Type 0 where
    pub holds : Holds (past_with a.made past) (n + length a.made) a.world
    pub known : IsKnown c balances (past_with a.made past) a.standing
    pub actor : a.standing.actor ≡ s.actor
    pub others : (m : ℕ) → (s.actor ≡ m → ⊥) → replies_of m (past_with a.made past) ≡ replies_of m past
    pub actors : (k : ℕ) → s.actor < k → AreActors k past → AreActors k (past_with a.made past)
    pub left : AreLeft c past a.made

  none-asked : (past : Past) (n : ℕ) (w : World) (s : Standing) (o : Option Outcome) (spent : Bool) → Holds past n w → IsKnown c balances past s → AskedHolds past n s (record { made = []; world = w; standing = s; outcome = o; spent = spent })
  none-asked past n w s o spent h k = record {
    holds = let same : n ≡ n + 0 = omega arith in subst (λ m. Holds past m w) same h;
    known = k;
    actor = refl;
    others = λ m never. refl;
    actors = λ m lt all. all;
    left = tt;
  }

  either-asked : (P : Asked → Type 0) (b : Bool) (x y : Asked) → P x → P y → P (if b then x else y)
  either-asked P true x y p q = p
  either-asked P false x y p q = q

  module _ (failed : List ℕ) (reading : ℕ) (past : Past) (n : ℕ) (w : World) (s : Standing) (q : Query) where
    abbrev made_now : Made
    made_now = event_of failed reading s.actor n q w

    abbrev past_now : Past
    past_now = made_now.event ∷ past

    event-holds : next c s.task s.answers ≡ asks q → Holds past n w → IsKnown c balances past s → Holds past_now (n + 1) made_now.left
    event-holds e h k =
        let leaves = world-next c past w h.world n reading s.actor (is_failed failed n) q (asks-there c s.task s.answers q k.devices e) in
        record {
          numbered = let lt : n < n + 1 = omega arith in let le : n ≤ n + 1 = omega arith in (lt, all-below (λ x. x.tick) n (n + 1) past le h.numbered);
          world = leaves.world;
          steps = (event-steps c balances past failed reading n w s q h.world h.numbered k e, h.steps);
        }

    event-known : IsKnown c balances past s → IsKnown c balances past_now (with_answer s made_now.event)
    event-known k = record {
      kind = k.kind;
      replies =
          ap (λ b. if b then answered_by made_now.event ∷ replies_of s.actor past else replies_of s.actor past) (eq-eqb s.actor s.actor refl)
          ∙ (ap (λ r. answered_by made_now.event ∷ r) k.replies ∙ sym (reverse-append s.answers (answered_by made_now.event ∷ [])));
      devices = k.devices;
    }

    event-others : (m : ℕ) → (s.actor ≡ m → ⊥) → replies_of m past_now ≡ replies_of m past
    event-others m never = ap (λ b. if b then answered_by made_now.event ∷ replies_of m past else replies_of m past) (ne_eqb s.actor m never)

    event-then : (rest : Asked) → WorldIs c past_now made_now.left → AskedHolds past_now (n + 1) (with_answer s made_now.event) rest → AskedHolds past n s (after_made made_now rest)
    event-then rest leaves k = record {
      holds = let same : n + 1 + length rest.made ≡ n + suc (length rest.made) = omega arith in subst (λ m. Holds (past_with rest.made past_now) m rest.world) same k.holds;
      known = k.known;
      actor = k.actor;
      others = λ m never. k.others m never ∙ event-others m never;
      actors = λ m lt all. k.actors m lt (lt, all);
      left = (leaves, k.left);
    }

  pub asked-holds : (failed : List ℕ) (turns reading n : ℕ) (w : World) (s : Standing) (nx : Next) (past : Past) → nx ≡ next c s.task s.answers → Holds past n w → IsKnown c balances past s
      → AskedHolds past n s (asked_on turns c failed reading n w s nx)
  unfolding asked_on
  asked-holds failed zero reading n w s (ends outcome) past e h k = none-asked past n w s (Some outcome) false h k
  asked-holds failed (suc turns) reading n w s (ends outcome) past e h k = none-asked past n w s (Some outcome) false h k
  asked-holds failed zero reading n w s (asks q) past e h k = none-asked past n w s None false h k
  asked-holds failed (suc turns) reading n w s (asks q) past e h k =
      let m = event_of failed reading s.actor n q w in
      let after = with_answer s m.event in
      let held = event-holds failed reading past n w s q (sym e) h k in
      let rest = asked_on turns c failed reading (n + 1) m.left after (next c after.task after.answers) in
      either-asked (AskedHolds past n s) (n == events_max) (record { made = []; world = w; standing = s; outcome = None; spent = true }) (after_made m rest)
      (none-asked past n w s None true h k)
      (event-then failed reading past n w s q rest held.world
      (asked-holds failed turns reading (n + 1) m.left after (next c after.task after.answers) (m.event ∷ past) refl held (event-known failed reading past n w s q k)))
