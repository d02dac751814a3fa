-- The history after each line of a run is good: `lines-good`. Between lines the scene is what the past leaves, and each task that stands open is known.
use Rattle.std.proofs.Common.{◌≡◌, ◌≤◌, ◌<◌, ℕ, suc, ◌==◌, Bool, true, false, List, [], ◌∷◌, ◌++◌, cond, length, map, reverse, Option, None, Some, IfSome, Result, Ok, Err, refl, sym, ◌∙◌, ap, subst, arith, if◌then◌else◌, option_and_then}
use Rattle.std.specs.Prelude.{⊤, take, drop}
use Rattle.std.specs.List.{AllByRecursion}
use Rattle.std.specs.Ordering.{nat_cmp}
use Rattle.std.specs.Cmp.Lexicographic.{slice_cmp}
use Rattle.std.specs.BTreeMap.{is_at}
use Rattle.std.specs.Str.{bytes_eq}
use Rattle.std.proofs.lemmas.Bool.{eq-eqb, ne_eqb}
use Rattle.std.proofs.lemmas.List.{append-nil, append_assoc, map-append, reverse-append, take-append-drop}
use Rattle.keep_spec.specs.Config.{Configuration, IsGood}
use Rattle.keep_spec.specs.Lines.{text_of}
use Rattle.keep_event.specs.declared.event.Event.{Event}
use Rattle.keep_safety.specs.History.{past_of}
use Rattle.keep_safety.specs.Past.{Past}
use Rattle.keep_safety.proofs.Theorem.{theorem}
use Rattle.keep_history.specs.declared.task.Command.{Command}
use Rattle.keep_history.specs.declared.task.Command.TheVariants as C
use Rattle.keep_history.specs.declared.task.Outcome.{Outcome}
use Rattle.keep_history.specs.declared.task.Task.{Task}
use Rattle.keep_history.specs.declared.task.TaskState.{TaskState}
use Rattle.keep_history.specs.declared.task.TaskState.TheVariants as S
use Rattle.keep_history.specs.Effects.{Asked, Effect, Made, Scene, Standing, answered_by, asked_effect, asked_in, asking_effect, command_in, effect_of_command, effect_of_line, finish_turns, open_effect, state_after, state_of, step_turns}
use Rattle.keep_history.specs.Names.{Named, at_name, seen, seen_names, with_name}
use Rattle.keep_history.specs.Run.{Progress, and_then, at_start, history_of}
use Rattle.keep_history.specs.Tasks.{next, opened}
use Rattle.keep_history.proofs.Lines.{fresh, some-more}
use Rattle.keep_history.proofs.Names.{after-end}
use Rattle.keep_history.proofs.Openings.{OkHas}
use Rattle.keep_rounds.specs.Finish.{actor_of}
use Rattle.keep_rounds.specs.Histories.{EachBeginning}
use Rattle.keep_rounds.specs.Interleaved.{AreSteps, replies_to}
use Rattle.keep_rounds.proofs.Commands.{CommandNames, command-names}
use Rattle.keep_rounds.proofs.Moves.{IsKnown, is_balance, replies-same, steps-same}
use Rattle.keep_rounds.proofs.Opened.{IsOpenAt, IsOwn, NamesHold, length-kept, length-new, names-set}
use Rattle.keep_rounds.proofs.Openings.{opening-there}
use Rattle.keep_rounds.proofs.Theorem.{runs-are-allowed}
use Rattle.keep_rounds.proofs.There.{TaskThere}
use Rattle.keep_rounds.proofs.Turns.{AreActors, AreLeft, AskedHolds, Holds, all-below, asked-holds, past_with}
use Rattle.keep_rounds.proofs.Worlds.{WorldIs, world-first}

-- ---- states of names
open-same : {s t : Standing} → S.Open s ≡ S.Open t → s ≡ t
open-same e = cc

never-open : (s : Standing) (o : Outcome) → state_after o ≡ S.Open s → ⊥
never-open s o = after-end (λ st. st ≡ S.Open s → ⊥) (λ locator. located locator) (λ text. row text) ended o
  where
    located : (locator : List ℕ) → S.Located locator ≡ S.Open s → ⊥
    located locator e = cc

    row : (text : List ℕ) → S.Row text ≡ S.Open s → ⊥
    row text e = cc

    ended : S.Ended ≡ S.Open s → ⊥
    ended e = cc

open-is : (s : Standing) (o : Option Outcome) (t : Standing) → state_of s o ≡ S.Open t → s ≡ t
open-is s None t e = open-same e
open-is s (Some outcome) t e = absurd (never-open t outcome e)

-- a name that isn't seen isn't there
seen-none : (a : List ℕ) (names : Named (TaskState Standing)) → at_name a (seen_names names) ≡ None → at_name a names ≡ None
seen-none a [] e = refl
seen-none a (x ∷ xs) e = by (is_at (slice_cmp nat_cmp a) x.0) (seen-none a xs) e
  where
    no : Some (seen x.1) ≡ None → ⊥
    no e = cc

    by : (b : Bool) → (at_name a (seen_names xs) ≡ None → at_name a xs ≡ None) → cond b (Some (seen x.1)) (at_name a (seen_names xs)) ≡ None → cond b (Some x.1) (at_name a xs) ≡ None
    by true ih e = absurd (no e)
    by false ih e = ih e

module _ (c : Configuration) where
  -- what is known between two lines, by which actors are balance tasks
  pub record Stands (past : Past) (scene : Scene) : Type 0 where
    pub balances : ℕ → Bool
    pub holds : Holds c balances past scene.count scene.world
    pub names : NamesHold c balances past scene.names

  -- ---- a task that was opened
  module _ (balances : ℕ → Bool) (k : ℕ) (task : Task) where
    -- one more actor is known
    abbrev with_actor : ℕ → Bool
    with_actor n = if n == k then is_balance task else balances n

    actor-stays : (n : ℕ) → n < k → balances n ≡ with_actor n
    actor-stays n lt = sym (ap (λ b. if b then is_balance task else balances n) (ne_eqb n k (λ e. omega (arith, lt, e))))

    actors-stay : (past : Past) → AreActors k past → AllByRecursion (λ e. balances (actor_of e) ≡ with_actor (actor_of e)) past
    actors-stay [] h = tt
    actors-stay (e ∷ past) h = (actor-stays e.actor h.0, actors-stay past h.1)

    no-replies : (past : Past) → AreActors k past → replies_to c actor_of with_actor k past ≡ []
    no-replies [] h = refl
    no-replies (e ∷ past) h =
        ap (λ b. if b then answered_by e ∷ replies_to c actor_of with_actor k past else replies_to c actor_of with_actor k past) (ne_eqb e.actor k (λ same. let lt : e.actor < k = h.0 in omega (arith, lt, same)))
        ∙ no-replies past h.1

    known-stays : (past : Past) (s : Standing) → s.actor < k → IsKnown c balances past s → IsKnown c with_actor past s
    known-stays past s lt h = record {
      kind = sym (actor-stays s.actor lt) ∙ h.kind;
      replies = sym (replies-same c actor_of balances with_actor s.actor past) ∙ h.replies;
      devices = h.devices;
    }

    fresh-known : (past : Past) → AreActors k past → TaskThere c task → IsKnown c with_actor past (fresh task k)
    fresh-known past h there = record {
      kind = ap (λ b. if b then is_balance task else balances k) (eq-eqb k k refl);
      replies = no-replies past h;
      devices = there;
    }

  module _ (past : Past) (scene : Scene) (name : List ℕ) (task : Task) (h : Stands past scene) where
    abbrev actor_now : ℕ
    actor_now = length scene.names

    abbrev balances_now : ℕ → Bool
    balances_now = with_actor h.balances actor_now task

    abbrev names_now : Named (TaskState Standing)
    names_now = with_name name (S.Open (fresh task actor_now)) scene.names

    fresh-own : at_name name scene.names ≡ None → TaskThere c task → IsOwn c balances_now past name scene.names names_now (fresh task actor_now)
    fresh-own none there = record {
      below = let more : length names_now ≡ suc actor_now = length-new name (S.Open (fresh task actor_now)) scene.names none in let lt : actor_now < length names_now = omega (arith, more) in lt;
      known = fresh-known h.balances actor_now task past h.names.actors there;
      apart = λ a t n e same. let lt : t.actor < actor_now = h.names.below a t e in let is : t.actor ≡ actor_now = same in omega (arith, lt, is);
    }

    begun-names : at_name name scene.names ≡ None → TaskThere c task → NamesHold c balances_now past names_now
    begun-names none there = names-set c h.balances balances_now past past name (S.Open (fresh task actor_now)) scene.names h.names
        (all-below (λ x. x.actor) actor_now (length names_now) past (length-kept name (S.Open (fresh task actor_now)) scene.names) h.names.actors)
        (λ a s n e. known-stays h.balances actor_now task past s (h.names.below a s e) (h.names.known a s e))
        (λ s e. subst (IsOwn c balances_now past name scene.names names_now) (open-same e) (fresh-own none there))

    begun-scene : at_name name scene.names ≡ None → TaskThere c task → Stands past (open_effect scene name (Ok task)).scene
    begun-scene none there = record {
      balances = balances_now;
      holds = record {
        numbered = h.holds.numbered;
        world = h.holds.world;
        steps = steps-same c actor_of h.balances balances_now past (actors-stay h.balances actor_now task past h.names.actors) h.holds.steps;
      };
      names = begun-names none there;
    }

  -- what an effect leaves, and each of its events
  pub record EffectStands (past : Past) (e : Effect) : Type 0 where
    pub stands : Stands (past_with e.made past) e.scene
    pub left : AreLeft c past e.made

  opened-stands : (past : Past) (scene : Scene) (name : List ℕ) (r : Result Task Outcome) → at_name name scene.names ≡ None → OkHas (TaskThere c) r → Stands past scene → EffectStands past (open_effect scene name r)
  opened-stands past scene name (Ok task) none there h = record { stands = begun-scene past scene name task h none there; left = tt }
  opened-stands past scene name (Err outcome) none there h = record {
    stands = record {
      balances = h.balances;
      holds = h.holds;
      names = names-set c h.balances h.balances past past name (state_after outcome) scene.names h.names
          (all-below (λ x. x.actor) (length scene.names) (length (with_name name (state_after outcome) scene.names)) past (length-kept name (state_after outcome) scene.names) h.names.actors)
          (λ a s n e. h.names.known a s e)
          (λ s e. absurd (never-open s outcome e));
    };
    left = tt;
  }

  -- ---- a task that was asked
  module _ (past : Past) (scene : Scene) (name : List ℕ) (s : Standing) (a : Asked) (there : IsOpenAt scene.names name s) (h : Stands past scene) (k : AskedHolds c h.balances past scene.count s a) where
    abbrev later : Past
    later = past_with a.made past

    abbrev set_names : Named (TaskState Standing)
    set_names = with_name name (state_of a.standing a.outcome) scene.names

    actor-below : s.actor < length set_names
    actor-below =
        let lt : s.actor < length scene.names = h.names.below name s there in
        let le : length scene.names ≤ length set_names = length-kept name (state_of a.standing a.outcome) scene.names in
        omega (arith, lt, le)

    other-known : (b : List ℕ) (t : Standing) → bytes_eq b name ≡ false → IsOpenAt scene.names b t → IsKnown c h.balances later t
    other-known b t n e =
        let known = h.names.known b t e in
        record {
          kind = known.kind;
          replies = k.others t.actor (λ same. h.names.apart b name t s e there n (sym same)) ∙ known.replies;
          devices = known.devices;
        }

    own-asked : IsOwn c h.balances later name scene.names set_names a.standing
    own-asked = record {
      below = subst (λ n. n < length set_names) (sym k.actor) actor-below;
      known = k.known;
      apart = λ b t n e same. h.names.apart b name t s e there n (same ∙ k.actor);
    }

    asked-names : NamesHold c h.balances later set_names
    asked-names = names-set c h.balances h.balances past later name (state_of a.standing a.outcome) scene.names h.names
        (k.actors (length set_names) actor-below (all-below (λ x. x.actor) (length scene.names) (length set_names) past (length-kept name (state_of a.standing a.outcome) scene.names) h.names.actors))
        other-known
        (λ t e. subst (IsOwn c h.balances later name scene.names set_names) (open-is a.standing a.outcome t e) own-asked)

    asked-scene : Stands later (asked_effect scene name a).scene
    asked-scene = record { balances = h.balances; holds = k.holds; names = asked-names }

  module _ (failed : List ℕ) where
    abbrev EffectsStand : Past → Option Effect → Type 0
    EffectsStand past o = IfSome o (EffectStands past)

    asking-stands : (turns reading : ℕ) (past : Past) (scene : Scene) (name : List ℕ) (st : Option (TaskState Standing)) → at_name name scene.names ≡ st → Stands past scene → EffectsStand past (asking_effect turns c failed scene name reading st)
    asking-stands turns reading past scene name (Some (S.Open s)) there h =
        let k = asked-holds c h.balances failed turns reading scene.count scene.world s (next c s.task s.answers) past refl h.holds (h.names.known name s there) in
        record { stands = asked-scene past scene name s (asked_in turns c failed reading scene s) there h k; left = k.left }
    asking-stands turns reading past scene name _ there h = tt

    module _ (good : IsGood c) where
      command-stands : (past : Past) (scene : Scene) (command : Command) → CommandNames c (seen_names scene.names) command → Stands past scene → EffectsStand past (effect_of_command c failed scene command)
      unfolding effect_of_command
      command-stands past scene (C.Open name reading opening) names h =
          opened-stands past scene name (opened c opening reading) (seen-none name scene.names names.0) (opening-there c good opening reading names.1) h
      command-stands past scene (C.Step name reading) names h = asking-stands step_turns reading past scene name (at_name name scene.names) refl h
      command-stands past scene (C.Finish name reading) names h = asking-stands finish_turns reading past scene name (at_name name scene.names) refl h

      given-stands : (past : Past) (scene : Scene) (o : Option Command) → IfSome o (CommandNames c (seen_names scene.names)) → Stands past scene → EffectsStand past (option_and_then (effect_of_command c failed scene) o)
      given-stands past scene None names h = tt
      given-stands past scene (Some command) names h = command-stands past scene command names h

      line-stands : (past : Past) (scene : Scene) (text : List ℕ) → Stands past scene → EffectsStand past (effect_of_line c failed scene text)
      line-stands past scene [] h = record { stands = h; left = tt }
      line-stands past scene (x ∷ xs) h = given-stands past scene (command_in c scene (x ∷ xs)) (command-names c (seen_names scene.names) (x ∷ xs)) h

-- ---- histories

module _ (c : Configuration) (balances : ℕ → Bool) where
  later-steps : (later past : Past) → AreSteps c actor_of balances (later ++ past) → AreSteps c actor_of balances past
  later-steps [] past h = h
  later-steps (e ∷ later) past h = later-steps later past h.1

  first-steps : (events : List Event) (n : ℕ) → AreSteps c actor_of balances (past_of events) → AreSteps c actor_of balances (past_of (take n events))
  first-steps events n h =
      later-steps (reverse (drop n events)) (reverse (take n events))
      (subst (AreSteps c actor_of balances) (ap reverse (sym (take-append-drop n events)) ∙ reverse-append (take n events) (drop n events)) h)

  pub each-beginning : (events : List Event) → AreSteps c actor_of balances (past_of events) → EachBeginning c events
  each-beginning events h = λ n.
      let run = runs-are-allowed c actor_of balances (past_of (take n events)) (first-steps events n h) in
      let t = theorem c (past_of (take n events)) run.allowed in record { allowed = run.allowed; kept = t.0; safe = t.1 }

abbrev event_in : Made → Event
event_in m = m.event

one-more : (xs : List Made) (m : Made) → reverse (map event_in (xs ++ m ∷ [])) ≡ m.event ∷ reverse (map event_in xs)
one-more xs m = ap reverse (map-append event_in xs (m ∷ [])) ∙ reverse-append (map event_in xs) (m.event ∷ [])

pub past-more : (xs ms : List Made) → past_with ms (reverse (map event_in xs)) ≡ reverse (map event_in (xs ++ ms))
past-more xs [] = ap (λ l. reverse (map event_in l)) (sym (append-nil xs))
past-more xs (m ∷ ms) = ap (past_with ms) (sym (one-more xs m)) ∙ (past-more (xs ++ m ∷ []) ms ∙ ap (λ l. reverse (map event_in l)) (append_assoc xs (m ∷ []) ms))

abbrev pub past_at : Progress → Past
past_at sofar = past_of (history_of (Some sofar))

-- what was done so far is a good history, and left the world
pub record IsGoodAt (c : Configuration) (sofar : Progress) : Type 0 where
  pub beginnings : EachBeginning c (history_of (Some sofar))
  pub world : WorldIs c (past_at sofar) sofar.scene.world

pub record IsGoodLine (c : Configuration) (sofar : Progress) (e : Effect) : Type 0 where
  pub after : IsGoodAt c (and_then sofar e)
  pub left : AreLeft c (past_at sofar) e.made

-- so after each line, from what was done before on
abbrev pub LinesAreGood : Configuration → List ℕ → Progress → List (List ℕ) → Type 0
LinesAreGood c failed sofar [] = ⊤
LinesAreGood c failed sofar (piece ∷ rest) =
    IfSome (effect_of_line c failed sofar.scene (text_of piece)) (λ e. IsGoodLine c sofar e × LinesAreGood c failed (and_then sofar e) rest)

module _ (c : Configuration) (failed : List ℕ) (good : IsGood c) where
  done-line : (sofar : Progress) (e : Effect) → Stands c (past_with e.made (past_at sofar)) e.scene → Stands c (past_at (and_then sofar e)) e.scene
  done-line sofar e h = subst (λ past. Stands c past e.scene) (past-more sofar.made e.made) h

  good-line : (sofar : Progress) (e : Effect) → EffectStands c (past_at sofar) e → Stands c (past_at (and_then sofar e)) e.scene → IsGoodLine c sofar e
  good-line sofar e k after = record {
    after = record { beginnings = each-beginning c after.balances (history_of (Some (and_then sofar e))) after.holds.steps; world = after.holds.world };
    left = k.left;
  }

  pub lines-good : (sofar : Progress) (pieces : List (List ℕ)) → Stands c (past_at sofar) sofar.scene → LinesAreGood c failed sofar pieces
  lines-good sofar [] h = tt
  lines-good sofar (piece ∷ rest) h =
      some-more (EffectStands c (past_at sofar)) _ (effect_of_line c failed sofar.scene (text_of piece))
      (λ e k. let after = done-line sofar e k.stands in (good-line sofar e k after, lines-good (and_then sofar e) rest after))
      (line-stands c failed good (past_at sofar) sofar.scene (text_of piece) h)

pub stands-first : (c : Configuration) → Stands c [] (at_start c).scene
stands-first c = record {
  balances = λ n. false;
  holds = record { numbered = tt; world = world-first c; steps = tt };
  names = record {
    actors = tt;
    below = λ a s e. absurd (none s e);
    known = λ a s e. absurd (none s e);
    apart = λ a b s t e f n same. none s e;
  };
}
  where
    none : (s : Standing) → None ≡ Some (S.Open s) → ⊥
    none s e = cc
