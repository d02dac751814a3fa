-- A task is followed from line to line: `goes-well` where each asking with fair events keeps what is known of it or ends it well.
use Rattle.std.proofs.Common.{◌≡◌, ℕ, zero, suc, ◌+◌, Bool, true, false, List, [], ◌∷◌, cond, length, Option, None, Some, IfSome, Result, Ok, Err, refl, sym, ◌∙◌, ap, subst, option_and_then}
use Rattle.std.specs.Prelude.{⊤, ◌==◌, is_none, is_some, option_map, if◌then◌else◌, MatchOption, codes}
use Rattle.std.specs.Bool.{MatchBool}
use Rattle.std.specs.Str.{bytes_eq}
use Rattle.std.proofs.lemmas.Slice.Eq.{bytes_eq-Decides}
use Rattle.std.proofs.lemmas.Map.Text.{is_eq-slice_cmp}
use Rattle.std.specs.Ordering.{match_ordering, nat_cmp, is_eq}
use Rattle.std.specs.Cmp.Lexicographic.{slice_cmp}
use Rattle.std.specs.BTreeMap.{is_at}
use Rattle.std.specs.declared.cmp.Ordering.{Ordering}
use Rattle.std.specs.declared.cmp.Ordering.TheVariants.{Less, Equal, Greater}
use Rattle.serde_json.specs.Data.{Data}
use Rattle.keep_spec.specs.Config.{Configuration}
use Rattle.serde_json.specs.Find.{get}
use Rattle.keep_spec.specs.Json.{text_at, value_of}
use Rattle.keep_spec.specs.Lines.{text_of}
use Rattle.keep_event.specs.World.{World}
use Rattle.keep_event.specs.declared.event.Query.{Query}
use Rattle.keep_history.specs.declared.task.Command.{Command}
use Rattle.keep_history.specs.declared.task.Command.TheVariants as C
use Rattle.keep_history.specs.declared.task.Outcome.{Outcome}
use Rattle.keep_history.specs.declared.task.Task.{Task}
use Rattle.keep_history.specs.declared.task.TaskState.{TaskState}
use Rattle.keep_history.specs.declared.task.TaskState.TheVariants as S
use Rattle.keep_history.specs.Effects.{Scene, Standing, Effect, Ending, Asked, Made, after_made, asked_on, asked_in, asked_effect, asking_effect, command_in, effect_of_command, effect_of_line, event_of, events_max, finish_turns, is_failed, open_effect, state_after, state_of, step_turns, with_answer}
use Rattle.keep_history.specs.Names.{Named, Seen, at_name, is_open, seen, seen_names, with_name}
use Rattle.keep_history.specs.Script.{command_of, command_of_data, finishes, name_at, open_named, opening_of_kind, opens, reading_at, steps}
use Rattle.keep_history.specs.Next.{Next, asks, ends}
use Rattle.keep_history.specs.Tasks.{next, opened}
use Rattle.keep_history.specs.Whole.{AreFair, EndsWell, command_at, is_asked}
use Rattle.keep_history.proofs.Collisions.{IsWorldOf, SceneTakes, asked-world, scene-takes}
use Rattle.keep_history.proofs.Lines.{both-some, some-more}

-- ---- names

is-at : (a b : List ℕ) → is_at (slice_cmp nat_cmp a) b ≡ bytes_eq a b
is-at a b = is_eq-slice_cmp a b

same-bytes : (a b : List ℕ) → bytes_eq a b ≡ true → a ≡ b
same-bytes a b e = (bytes_eq-Decides a b).0 e

other-bytes : (a b : List ℕ) → bytes_eq a b ≡ false → bytes_eq b a ≡ false
other-bytes a b e = by (bytes_eq b a) refl
  where
    no : true ≡ false → ⊥
    no x = cc

    by : (x : Bool) → bytes_eq b a ≡ x → x ≡ false
    by true f = absurd (no (sym ((bytes_eq-Decides a b).1 (sym (same-bytes b a f))) ∙ e))
    by false f = refl

module _ {X : Type 0} where
  -- a name that was set
  pub at-same : (a : List ℕ) (x : X) (names : Named X) → at_name a (with_name a x names) ≡ Some x
  at-same a x [] = rw (is-at a a, (bytes_eq-Decides a a).1 refl) refl
  at-same a x (e ∷ es) = by (slice_cmp nat_cmp a e.0) refl (at-same a x es)
    where
      by : (o : Ordering) → slice_cmp nat_cmp a e.0 ≡ o → at_name a (with_name a x es) ≡ Some x → at_name a (match_ordering o ((a, x) ∷ e ∷ es) ((e.0, x) ∷ es) (e ∷ with_name a x es)) ≡ Some x
      by Less c ih = rw (is-at a a, (bytes_eq-Decides a a).1 refl) refl
      by Equal c ih = rw c refl
      by Greater c ih = rw c ih

  -- another name stays
  pub at-other : (a b : List ℕ) (x : X) (names : Named X) → bytes_eq a b ≡ false → at_name a (with_name b x names) ≡ at_name a names
  at-other a b x [] n = rw (is-at a b, n) refl
  at-other a b x (e ∷ es) n = by (slice_cmp nat_cmp b e.0) refl (at-other a b x es n)
    where
      equal : slice_cmp nat_cmp b e.0 ≡ Equal → is_at (slice_cmp nat_cmp a) e.0 ≡ false
      equal c =
          let s : b ≡ e.0 = same-bytes b e.0 (sym (is_eq-slice_cmp b e.0) ∙ ap is_eq c) in
          is-at a e.0 ∙ (ap (bytes_eq a) (sym s) ∙ n)

      by : (o : Ordering) → slice_cmp nat_cmp b e.0 ≡ o → at_name a (with_name b x es) ≡ at_name a es → at_name a (match_ordering o ((b, x) ∷ e ∷ es) ((e.0, x) ∷ es) (e ∷ with_name b x es)) ≡ at_name a (e ∷ es)
      by Less c ih = rw (is-at a b, n) refl
      by Equal c ih = rw (equal c) refl
      by Greater c ih = ap (λ r. cond (is_at (slice_cmp nat_cmp a) e.0) (Some e.1) r) ih

at-seen : {T : Type 0} (a : List ℕ) (names : Named (TaskState T)) → at_name a (seen_names names) ≡ option_map seen (at_name a names)
at-seen a [] = refl
at-seen a (e ∷ es) = by (is_at (slice_cmp nat_cmp a) e.0) (at-seen a es)
  where
    by : (b : Bool) → at_name a (seen_names es) ≡ option_map seen (at_name a es) → cond b (Some (seen e.1)) (at_name a (seen_names es)) ≡ option_map seen (cond b (Some e.1) (at_name a es))
    by true ih = refl
    by false ih = ih

-- ---- an opening has a name that no line has opened

module _ (names : Named Seen) where
  abbrev IsNew : Option Command → Type 0
  IsNew (Some (C.Open name reading opening)) = at_name name names ≡ None
  IsNew _ = ⊤

  new-then : {X : Type 0} (o : Option X) (f : X → Option Command) → ((x : X) → IsNew (f x)) → IsNew (option_and_then f o)
  new-then None f h = tt
  new-then (Some x) f h = h x

  new-map : {X : Type 0} (o : Option X) (f : X → Command) → ((x : X) → IsNew (Some (f x))) → IsNew (option_map f o)
  new-map None f h = tt
  new-map (Some x) f h = h x

  new-if : (b : Bool) (x y : Option Command) → (b ≡ true → IsNew x) → IsNew y → IsNew (if b then x else y)
  new-if true x y h k = h refl
  new-if false x y h k = k

  none-is : {X : Type 0} (o : Option X) → is_none o ≡ true → o ≡ None
  none-is None e = refl
  none-is (Some x) e = absurd (no e)
    where
      no : false ≡ true → ⊥
      no e = cc

  opens-new : (c : Configuration) (d : Data) → IsNew (opens c names d)
  opens-new c d =
      let core : List ℕ → ℕ → List ℕ → Option Command = λ name reading kind. if is_none (at_name name names) then option_map (C.Open name reading) (opening_of_kind c names kind d) else None in
      let timed : List ℕ → ℕ → Option Command = λ name reading. option_and_then (core name reading) (text_at (codes "do") d) in
      let called : List ℕ → Option Command = λ name. option_and_then (timed name) (reading_at d) in
      new-then (name_at (codes "open") d) called (λ name. new-then (reading_at d) (timed name) (λ reading. new-then (text_at (codes "do") d) (core name reading) (λ kind.
      new-if (is_none (at_name name names)) (option_map (C.Open name reading) (opening_of_kind c names kind d)) None (λ e. new-map (opening_of_kind c names kind d) (C.Open name reading) (λ opening. none-is (at_name name names) e)) tt)))

  steps-new : (d : Data) → IsNew (steps names d)
  steps-new d = new-map (open_named (codes "step") names d) (λ t. C.Step t.0 t.1) (λ t. tt)

  finishes-new : (d : Data) → IsNew (finishes names d)
  finishes-new d = new-map (open_named (codes "finish") names d) (λ t. C.Finish t.0 t.1) (λ t. tt)

  data-new : (c : Configuration) (d : Data) → IsNew (command_of_data c names d)
  data-new c d =
      new-if (is_some (get (codes "open") d)) (opens c names d) (if is_some (get (codes "step") d) then steps names d else finishes names d) (λ e. opens-new c d)
      (new-if (is_some (get (codes "step") d)) (steps names d) (finishes names d) (λ e. steps-new d) (finishes-new d))

  command-new : (c : Configuration) (text : List ℕ) → IsNew (command_of c names text)
  unfolding command_of
  command-new c text = new-then (value_of text) (command_of_data c names) (λ d. data-new c d)

-- ---- asking

-- an end is good; a query says nothing
abbrev pub IsGoodNext : (Outcome → Type 0) → Next → Type 0
IsGoodNext IsGood (asks q) = ⊤
IsGoodNext IsGood (ends outcome) = IsGood outcome

module _ (c : Configuration) (failed : List ℕ) (IsFair : World → Made → Type 0) (IsGood : Outcome → Type 0) (IsFine : Standing → Type 0)
    (good : (s : Standing) → IsFine s → IsGoodNext IsGood (next c s.task s.answers))
    (more : (s : Standing) (q : Query) (w : World) (reading n : ℕ) → IsFine s → next c s.task s.answers ≡ asks q → IsWorldOf c w → IsFair w (event_of failed reading s.actor n q w) → IsFine (with_answer s (event_of failed reading s.actor n q w).event)) where
  abbrev AskedWell : World → Asked → Type 0
  AskedWell w a = AreFair IsFair w a.made → MatchOption a.outcome (IsFine a.standing) IsGood

  either-well : (w : World) (b : Bool) (x y : Asked) → AskedWell w x → AskedWell w y → AskedWell w (if b then x else y)
  either-well w true x y p q = p
  either-well w false x y p q = q

  asked-well : (turns reading n : ℕ) (w : World) (s : Standing) (nx : Next) → IsWorldOf c w → IsFine s → nx ≡ next c s.task s.answers → AskedWell w (asked_on turns c failed reading n w s nx)
  unfolding asked_on
  asked-well turns reading n w s (ends outcome) h f e = ended turns
    where
      ended : (turns : ℕ) → AskedWell w (asked_on turns c failed reading n w s (ends outcome))
      ended zero = λ fair. subst (IsGoodNext IsGood) (sym e) (good s f)
      ended (suc k) = λ fair. subst (IsGoodNext IsGood) (sym e) (good s f)
  asked-well zero reading n w s (asks q) h f e = λ fair. f
  asked-well (suc turns) reading n w s (asks q) h f e =
      let m = event_of failed reading s.actor n q w in
      let after = with_answer s m.event in
      let rest = asked_on turns c failed reading (n + 1) m.left after (next c after.task after.answers) in
      either-well w (n == events_max) (record { made = []; world = w; standing = s; outcome = None; spent = true }) (after_made m rest)
      (λ fair. f)
      (λ fair. asked-well turns reading (n + 1) m.left after (next c after.task after.answers) (asked-world c (is_failed failed n) reading q w h) (more s q w reading n f (sym e) h fair.0) refl fair.1)

  -- ---- lines

  module _ (name : List ℕ) where
    pub record Goes (scene : Scene) : Type 0 where
      pub takes : SceneTakes c failed scene
      pub standing : Standing
      pub there : at_name name scene.names ≡ Some (S.Open standing)
      pub fine : IsFine standing

    -- what a line does to the task: where it asks it with fair events, it stays fine or ends well; else it stays
    abbrev LineWell : Scene → Option Command → Effect → Type 0
    LineWell scene o e = SceneTakes c failed e.scene → MatchBool (is_asked name o) (AreFair IsFair scene.world e.made → MatchOption e.ended (Goes e.scene) (λ ending. IsGood ending.outcome)) (Goes e.scene)

    match-either : (b : Bool) (P Q : Type 0) → P → Q → MatchBool b P Q
    match-either true P Q p q = p
    match-either false P Q p q = q

    stays-open : (scene : Scene) (n : List ℕ) (st : TaskState Standing) (e : Scene) → Goes scene → bytes_eq name n ≡ false → e.names ≡ with_name n st scene.names → SceneTakes c failed e → Goes e
    stays-open scene n st e g o is k = record {
      takes = k;
      standing = g.standing;
      there = ap (at_name name) is ∙ (at-other name n st scene.names o ∙ g.there);
      fine = g.fine;
    }

    new-name : (scene : Scene) (n : List ℕ) → Goes scene → at_name n (seen_names scene.names) ≡ None → bytes_eq name n ≡ false
    new-name scene n g e = by (bytes_eq name n) refl
      where
        no : Some is_open ≡ None → ⊥
        no e = cc

        by : (b : Bool) → bytes_eq name n ≡ b → b ≡ false
        by true s = absurd (no (sym (at-seen name scene.names ∙ ap (option_map seen) g.there) ∙ (ap (λ x. at_name x (seen_names scene.names)) (same-bytes name n s) ∙ e)))
        by false s = refl

    open-goes : (scene : Scene) (n : List ℕ) (r : Result Task Outcome) → Goes scene → bytes_eq name n ≡ false → SceneTakes c failed (open_effect scene n r).scene → Goes (open_effect scene n r).scene
    open-goes scene n (Ok task) g o k = stays-open scene n (S.Open (record { task = task; actor = length scene.names; answers = [] })) _ g o refl k
    open-goes scene n (Err outcome) g o k = stays-open scene n (state_after outcome) _ g o refl k

    ended-well : (scene : Scene) (a : Asked) (o : Option Outcome) → a.outcome ≡ o → SceneTakes c failed (asked_effect scene name a).scene → MatchOption o (IsFine a.standing) IsGood → MatchOption {T = Ending} (option_map (λ outcome. record { task = a.standing.task; outcome = outcome }) o) (Goes (asked_effect scene name a).scene) (λ ending. IsGood ending.outcome)
    ended-well scene a None e k f = record {
      takes = k;
      standing = a.standing;
      there = rw e (at-same name (S.Open a.standing) scene.names);
      fine = f;
    }
    ended-well scene a (Some outcome) e k f = f

    asked-same : (turns reading : ℕ) (scene : Scene) (n : List ℕ) → Goes scene → n ≡ name → IfSome (asking_effect turns c failed scene n reading (at_name n scene.names)) (λ e. SceneTakes c failed e.scene → AreFair IsFair scene.world e.made → MatchOption e.ended (Goes e.scene) (λ ending. IsGood ending.outcome))
    asked-same turns reading scene n g e =
        let a = asked_in turns c failed reading scene g.standing in
        rw (e, g.there) (λ k fair. ended-well scene a a.outcome refl k (asked-well turns reading scene.count scene.world g.standing (next c g.standing.task g.standing.answers) g.takes.world g.fine refl fair))

    asked-other : (turns reading : ℕ) (scene : Scene) (n : List ℕ) (st : Option (TaskState Standing)) → Goes scene → bytes_eq name n ≡ false → IfSome (asking_effect turns c failed scene n reading st) (λ e. SceneTakes c failed e.scene → Goes e.scene)
    asked-other turns reading scene n (Some (S.Open s)) g o =
        let a = asked_in turns c failed reading scene s in
        (λ k. stays-open scene n (state_of a.standing a.outcome) _ g o refl k)
    asked-other turns reading scene n _ g o = tt

    asked-line : (turns reading : ℕ) (scene : Scene) (n : List ℕ) → Goes scene → IfSome (asking_effect turns c failed scene n reading (at_name n scene.names)) (λ e. SceneTakes c failed e.scene → MatchBool (bytes_eq n name) (AreFair IsFair scene.world e.made → MatchOption e.ended (Goes e.scene) (λ ending. IsGood ending.outcome)) (Goes e.scene))
    asked-line turns reading scene n g = by (bytes_eq n name) refl
      where
        by : (b : Bool) → bytes_eq n name ≡ b → IfSome (asking_effect turns c failed scene n reading (at_name n scene.names)) (λ e. SceneTakes c failed e.scene → MatchBool b (AreFair IsFair scene.world e.made → MatchOption e.ended (Goes e.scene) (λ ending. IsGood ending.outcome)) (Goes e.scene))
        by true e = asked-same turns reading scene n g (same-bytes n name e)
        by false e = asked-other turns reading scene n (at_name n scene.names) g (other-bytes n name e)

    done-line : (scene : Scene) (command : Command) → Goes scene → IsNew (seen_names scene.names) (Some command) → IfSome (effect_of_command c failed scene command) (λ e. LineWell scene (Some command) e)
    unfolding effect_of_command
    done-line scene (C.Open n reading opening) g new = λ k. open-goes scene n (opened c opening reading) g (new-name scene n g new) k
    done-line scene (C.Step n reading) g new = asked-line step_turns reading scene n g
    done-line scene (C.Finish n reading) g new = asked-line finish_turns reading scene n g

    given-line : (scene : Scene) (o : Option Command) → Goes scene → IsNew (seen_names scene.names) o → IfSome (option_and_then (effect_of_command c failed scene) o) (λ e. LineWell scene o e)
    given-line scene None g new = tt
    given-line scene (Some command) g new = done-line scene command g new

    follow-line : (scene : Scene) (text : List ℕ) → Goes scene → IfSome (effect_of_line c failed scene text) (λ e. LineWell scene (command_at c scene text) e)
    follow-line scene [] g = λ k. g
    follow-line scene (x ∷ xs) g = given-line scene (command_in c scene (x ∷ xs)) g (command-new (seen_names scene.names) c (x ∷ xs))

    pub goes-well : (scene : Scene) (pieces : List (List ℕ)) → Goes scene → EndsWell IsFair IsGood c failed name scene pieces
    goes-well scene [] g = tt
    goes-well scene (piece ∷ rest) g =
        some-more _ _ (effect_of_line c failed scene (text_of piece)) (λ e both. step (λ e g. goes-well e rest g) (is_asked name (command_at c scene (text_of piece))) scene e (both.1 both.0))
        (both-some _ _ (effect_of_line c failed scene (text_of piece)) (scene-takes c failed scene (text_of piece) g.takes) (follow-line scene (text_of piece) g))
      where
        on-ended : ((e : Scene) → Goes e → EndsWell IsFair IsGood c failed name e rest) → (o : Option Ending) (e : Scene) → MatchOption o (Goes e) (λ ending. IsGood ending.outcome) → MatchOption o (EndsWell IsFair IsGood c failed name e rest) (λ ending. IsGood ending.outcome)
        on-ended go None e g = go e g
        on-ended go (Some ending) e g = g

        step : ((e : Scene) → Goes e → EndsWell IsFair IsGood c failed name e rest) → (b : Bool) (scene : Scene) (e : Effect) → MatchBool b (AreFair IsFair scene.world e.made → MatchOption e.ended (Goes e.scene) (λ ending. IsGood ending.outcome)) (Goes e.scene)
            → MatchBool b (AreFair IsFair scene.world e.made → MatchOption e.ended (EndsWell IsFair IsGood c failed name e.scene rest) (λ ending. IsGood ending.outcome)) (EndsWell IsFair IsGood c failed name e.scene rest)
        step go true scene e m = λ fair. on-ended go e.ended e.scene (m fair)
        step go false scene e m = go e.scene m
