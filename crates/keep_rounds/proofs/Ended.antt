-- What a run did, however it ended, is good work: `ended-well`. A run that was stopped did a beginning of what its lines do.
use Rattle.std.proofs.Common.{◌≡◌, ◌<◌, ℕ, zero, suc, ◌+◌, Bool, true, false, List, [], ◌∷◌, ◌++◌, length, map, Option, None, Some, IfSome, Result, Ok, Err, inl, inr, ◌⊎◌, refl, sym, ◌∙◌, ap, subst, arith, if◌then◌else◌, option_and_then}
use Rattle.std.specs.Prelude.{⊤, drop, take, option_map, slice_index_or}
use Rattle.std.proofs.Math.Seq.{take-append-add}
use Rattle.std.proofs.lemmas.List.{take-map}
use Rattle.keep_spec.specs.Config.{Configuration, IsGood}
use Rattle.keep_spec.specs.Lines.{Verdict, fits, line_too_long, input_too_long, cut, text_of}
use Rattle.keep_spec.specs.declared.config.Field.{Field}
use Rattle.keep_spec.specs.declared.status.Status.{Status}
use Rattle.keep_spec.specs.declared.status.Status.TheVariants as St
use Rattle.keep_event.specs.Device.{initial}
use Rattle.keep_event.specs.World.{World}
use Rattle.keep_event.specs.declared.event.Event.{Event}
use Rattle.keep_safety.specs.History.{past_of}
use Rattle.keep_safety.specs.Past.{Past, device_after}
use Rattle.keep_history.specs.Effects.{Effect, Made, effect_of_line}
use Rattle.keep_history.specs.Ended.{Begun, HowEnded, IsBetween, IsCutOff, IsOwn, IsUnwritten, IsWithin, OneMore, Place, Work, begun_by, begun_of, done_after, effect_of_piece, effect_within, left_after, place_after, place_in, script_place, with_line, work_of, work_with, work_within}
use Rattle.keep_history.specs.Run.{End, Kept, Progress, after_line, and_then, at_start, by_verdict, config_for, ended_by, first_filled, history_of, kept_by, left_in, run_configured, run_from, run_lines, run_of, run_opened, run_pieces, verdict_on}
use Rattle.keep_history.proofs.Lines.{some-more}
use Rattle.keep_rounds.specs.Histories.{AreLeftBy, DidWell, EachBeginning, IsGoodHistory, IsGoodWork, events_of}
use Rattle.keep_rounds.proofs.Openings.{good-begun}
use Rattle.keep_rounds.proofs.Runs.{IsGoodAt, IsGoodLine, LinesAreGood, each-beginning, lines-good, past-more, past_at, stands-first}
use Rattle.keep_rounds.proofs.Turns.{AreLeft, past_with}
use Rattle.keep_rounds.proofs.Worlds.{WorldIs, world-first}

-- ---- beginnings

-- the first of the first are the first
first-of : {A : Type 0} (m n : ℕ) (l : List A) → (k : ℕ) × (take m (take n l) ≡ take k l)
first-of zero n l = (zero, refl)
first-of (suc m) zero l = (zero, refl)
first-of (suc m) (suc n) [] = (zero, refl)
first-of (suc m) (suc n) (x ∷ l) = let r = first-of m n l in (suc r.0, ap (λ k. x ∷ k) r.1)

abbrev event_in : Made → Event
event_in m = m.event

-- a store among the first, of those that keep what devices have
index-mapped : {X Y : Type 0} (f : X → Y) (xs : List X) (ys : List Y) (d : ℕ) (x : X) (y : Y) → d < length xs → slice_index_or (map f xs ++ ys) d y ≡ f (slice_index_or xs d x)
index-mapped f [] ys d x y lt = absurd (omega (arith, lt))
index-mapped f (z ∷ zs) ys zero x y lt = refl
index-mapped f (z ∷ zs) ys (suc d) x y lt = index-mapped f zs ys d x y (omega (arith, lt))

module _ (c : Configuration) where
  none-made : EachBeginning c []
  none-made = each-beginning c (λ n. false) [] tt

  some-first : (events : List Event) (m : ℕ) → EachBeginning c events → EachBeginning c (take m events)
  some-first events m h = λ n. let r = first-of n m events in subst (λ l. IsGoodHistory c l) (sym r.1) (h r.0)

  -- what was done before a line, and the first events of the line
  some-within : (before made : List Made) (count : ℕ) → EachBeginning c (events_of (before ++ made)) → EachBeginning c (events_of (before ++ take count made))
  some-within before made count h =
      subst (EachBeginning c)
      (take-map event_in (length before + count) (before ++ made) ∙ ap (map event_in) (take-append-add before made count))
      (some-first (events_of (before ++ made)) (length before + count) h)

  -- ---- what is left
  left-kept : (events : List Event) (w : World) (starts : List Kept) → WorldIs c (past_of events) w → AreLeftBy c events (left_in w starts)
  left-kept events w starts h = λ d lt.
      index-mapped kept_by w.devices (drop (length w.devices) starts) d initial (kept_by initial) (let same = h.count in omega (arith, same, lt))
      ∙ ap kept_by (h.devices d)

  left-within : (past : Past) (made : List Made) (w : World) (count : ℕ) → WorldIs c past w → AreLeft c past made → WorldIs c (past_with (take count made) past) (left_after w (take count made))
  unfolding left_after
  left-within past made w zero h l = h
  left-within past [] w (suc count) h l = h
  left-within past (m ∷ ms) w (suc count) h l = left-within (m.event ∷ past) ms m.left count l.0 l.1

  -- what is known of what was done, where anything was
  abbrev IsGoodDid : Option Progress → Type 0
  IsGoodDid None = ⊤
  IsGoodDid (Some p) = IsGoodAt c p

  at-first : IsGoodAt c (at_start c)
  at-first = record { beginnings = none-made; world = world-first c }

  did-well : (starts : List Kept) (did : Option Progress) → IsGoodDid did → IsGoodWork c starts (work_of starts did)
  did-well starts None h = record { beginnings = none-made; left = inl (refl, refl) }
  did-well starts (Some p) h = record { beginnings = h.beginnings; left = inr (left-kept (events_of p.made) p.scene.world starts h.world) }

  within-line : (starts : List Kept) (p : Progress) (e : Effect) (count : ℕ) → IsGoodAt c p → IsGoodLine c p e → IsGoodWork c starts (work_within starts p e count)
  within-line starts p e count before h = record {
    beginnings = some-within p.made e.made count h.after.beginnings;
    left = inr (left-kept (events_of (p.made ++ take count e.made)) (left_after p.scene.world (take count e.made)) starts (
        subst (λ past. WorldIs c past (left_after p.scene.world (take count e.made))) (past-more p.made (take count e.made)) (left-within (past_at p) e.made p.scene.world count before.world h.left)
        ));
  }

  with-whole-line : (starts : List Kept) (p : Progress) (e : Effect) (count : ℕ) → IsGoodLine c p e → IsGoodWork c starts (work_with starts p e count)
  with-whole-line starts p e count h = record { beginnings = h.after.beginnings; left = inr (left-kept (events_of (p.made ++ e.made)) e.scene.world starts h.after.world) }

module _ (c : Configuration) (failed : List ℕ) where
  abbrev GoesOn : Progress → List (List ℕ) → Effect → Type 0
  GoesOn sofar rest e = IsGoodLine c sofar e × LinesAreGood c failed (and_then sofar e) rest

  -- ---- the run's own end
  abbrev EndsWell : End → Type 0
  EndsWell end = IsGoodDid c end.did

  after-well : (number : ℕ) (sofar : Progress) (rest : List (List ℕ)) (o : Option Effect) (go : Progress → End) → IsGoodAt c sofar → IfSome o (GoesOn sofar rest)
      → ((p : Progress) → IsGoodAt c p → LinesAreGood c failed p rest → EndsWell (go p)) → EndsWell (after_line number sofar o go)
  after-well number sofar rest None go g h on = g
  after-well number sofar rest (Some e) go g h on = by e.spent
    where
      by : (spent : Bool) → EndsWell (if spent then ended_by St.PortFault (and_then sofar e) else go (and_then sofar e))
      by true = let k = h.0 in k.after
      by false = let k = h.0 in on (and_then sofar e) k.after h.1

  verdict-well : (v : Verdict) (number : ℕ) (sofar : Progress) (rest : List (List ℕ)) (o : Option Effect) (go : Progress → End) → IsGoodAt c sofar → IfSome o (GoesOn sofar rest)
      → ((p : Progress) → IsGoodAt c p → LinesAreGood c failed p rest → EndsWell (go p)) → EndsWell (by_verdict v number sofar o go)
  verdict-well fits number sofar rest o go g h on = after-well number sofar rest o go g h on
  verdict-well line_too_long number sofar rest o go g h on = g
  verdict-well input_too_long number sofar rest o go g h on = g

  lines-end-well : (taken number : ℕ) (sofar : Progress) (pieces : List (List ℕ)) → IsGoodAt c sofar → LinesAreGood c failed sofar pieces → EndsWell (run_lines c failed taken number sofar pieces)
  unfolding run_lines
  lines-end-well taken number sofar [] g h = g
  lines-end-well taken number sofar (piece ∷ rest) g h =
      verdict-well (verdict_on taken piece) (number + 1) sofar rest (effect_of_line c failed sofar.scene (text_of piece)) (λ after. run_lines c failed (taken + length piece) (number + 1) after rest) g h
      (λ p k l. lines-end-well (taken + length piece) (number + 1) p rest k l)

  -- ---- lines that are done
  pub record StandsWell (at : Place) : Type 0 where
    pub good : IsGoodAt c at.sofar
    pub lines : LinesAreGood c failed at.sofar at.rest

  module _ (sofar : Progress) (rest : List (List ℕ)) (go : Progress → Option Place) (on : (p : Progress) → IsGoodAt c p → LinesAreGood c failed p rest → IfSome (go p) StandsWell) where
    spent-well : (e : Effect) (spent : Bool) → GoesOn sofar rest e → IfSome (option_and_then go (if spent then None else Some (and_then sofar e))) StandsWell
    spent-well e true k = tt
    spent-well e false k = let line = k.0 in on (and_then sofar e) line.after k.1

    done-effect-well : (o : Option Effect) → IfSome o (GoesOn sofar rest) → IfSome (option_and_then go (option_and_then (with_line sofar) o)) StandsWell
    done-effect-well None k = tt
    done-effect-well (Some e) k = spent-well e e.spent k

    done-piece-well : (v : Verdict) (o : Option Effect) → IfSome o (GoesOn sofar rest) → IfSome (option_and_then go (option_and_then (with_line sofar) (effect_within v o))) StandsWell
    done-piece-well fits o k = done-effect-well o k
    done-piece-well line_too_long o k = tt
    done-piece-well input_too_long o k = tt

  place-well : (n taken : ℕ) (sofar : Progress) (pieces : List (List ℕ)) → IsGoodAt c sofar → LinesAreGood c failed sofar pieces → IfSome (place_after c failed n taken sofar pieces) StandsWell
  unfolding place_after
  place-well zero taken sofar pieces g h = record { good = g; lines = h }
  place-well (suc n) taken sofar [] g h = tt
  place-well (suc n) taken sofar (piece ∷ rest) g h =
      done-piece-well sofar rest (λ after. place_after c failed n (taken + length piece) after rest) (λ p k l. place-well n (taken + length piece) p rest k l) (verdict_on taken piece) (effect_of_line c failed sofar.scene (text_of piece)) h

  -- one line more, where it is a script line
  effect-well : (v : Verdict) (o : Option Effect) (sofar : Progress) (rest : List (List ℕ)) (e : Effect) → effect_within v o ≡ Some e → IfSome o (GoesOn sofar rest) → IsGoodLine c sofar e
  effect-well fits o sofar rest e is h = let k : GoesOn sofar rest e = subst (λ o. IfSome o (GoesOn sofar rest)) is h in k.0
  effect-well line_too_long o sofar rest e is h = absurd (none is)
    where
      none : None ≡ Some e → ⊥
      none is = cc
  effect-well input_too_long o sofar rest e is h = absurd (none is)
    where
      none : None ≡ Some e → ⊥
      none is = cc

-- ---- the beginning of an input

module _ (failed : List ℕ) where
  begun-well : (b : Begun) → IsGood b.config → LinesAreGood b.config failed (at_start b.config) b.rest
  begun-well b good = lines-good b.config failed good (at_start b.config) b.rest (stands-first b.config)

  opened-well : (b : Begun) (taken : ℕ) (filled : Option ℕ) → IsGood b.config → IsGoodDid b.config (run_opened b.config failed taken filled b.rest).did
  opened-well b taken (Some device) good = tt
  opened-well b taken None good = lines-end-well b.config failed taken 1 (at_start b.config) b.rest (at-first b.config) (begun-well b good)

  pieces-well : (starts : List Kept) (pieces : List (List ℕ)) → IfSome (begun_of (length starts) pieces) (λ (b : Begun). IsGoodDid b.config (run_pieces failed starts pieces).did)
  pieces-well starts [] = tt
  pieces-well starts (piece ∷ rest) = by (verdict_on 0 piece) (config_for (length starts) (text_of piece)) (good-begun (length starts) (piece ∷ rest))
    where
      by : (v : Verdict) (r : Result Configuration Field) → IfSome (begun_by (length piece) rest v r) (λ (b : Begun). IsGood b.config)
          → IfSome (begun_by (length piece) rest v r) (λ (b : Begun). IsGoodDid b.config (run_from v r failed (length piece) starts rest).did)
      by fits (Ok c) good = opened-well (record { config = c; taken = length piece; rest = rest }) (length piece) (first_filled (take (length c.devices) starts)) good
      by fits (Err field) good = tt
      by line_too_long r good = tt
      by input_too_long r good = tt

  place-in-well : (n : ℕ) (filled : Option ℕ) (b : Begun) → IsGood b.config → IfSome (place_in failed n filled b) (StandsWell b.config failed)
  place-in-well n (Some device) b good = tt
  place-in-well n None b good = place-well b.config failed n b.taken (at_start b.config) b.rest (at-first b.config) (begun-well b good)

  abbrev PlaceIsGood : List Kept → ℕ → Begun → Type 0
  PlaceIsGood starts n b = IfSome (place_in failed n (first_filled (take (length b.config.devices) starts)) b) (StandsWell b.config failed)

  places-well : (starts : List Kept) (n : ℕ) (o : Option Begun) → IfSome o (λ (b : Begun). IsGood b.config) → IfSome o (PlaceIsGood starts n)
  places-well starts n None good = tt
  places-well starts n (Some b) good = place-in-well n (first_filled (take (length b.config.devices) starts)) b good

-- ---- how a run ended

module _ (failed : List ℕ) (starts : List Kept) (bytes : List ℕ) where
  abbrev begun_now : Option Begun
  begun_now = begun_of (length starts) (cut bytes)

  abbrev DidIsGood : Option Progress → Type 0
  DidIsGood did = IfSome begun_now (λ (b : Begun). IsGoodDid b.config did)

  work-well : (did : Option Progress) (work : Work) → work ≡ work_of starts did → DidIsGood did → DidWell starts bytes work
  work-well did work is h = subst (DidWell starts bytes) (sym is) (some-more (λ (b : Begun). IsGoodDid b.config did) (λ (b : Begun). IsGoodWork b.config starts (work_of starts did)) begun_now (λ b k. did-well b.config starts did k) h)

  nothing-done : DidIsGood None
  nothing-done = by begun_now
    where
      by : (o : Option Begun) → IfSome o (λ (b : Begun). IsGoodDid b.config None)
      by None = tt
      by (Some b) = tt

  own-well : (status : Status) (work : Work) → IsOwn (run_of failed starts bytes) starts status work → DidWell starts bytes work
  unfolding run_of
  own-well status work h = work-well (run_of failed starts bytes).did work h.1 (pieces-well failed starts (cut bytes))

  -- ---- between two lines
  place-done : (c : Configuration) (o : Option Place) (did : Option Progress) → IfSome o (StandsWell c failed) → option_map (λ (at : Place). Some at.sofar) o ≡ Some did → IsGoodDid c did
  place-done c None did h is = absurd (none is)
    where
      none : None ≡ Some did → ⊥
      none is = cc
  place-done c (Some at) did h is = subst (IsGoodDid c) (same is) h.good
    where
      same : Some (Some at.sofar) ≡ Some did → Some at.sofar ≡ did
      same is = cc

  place-done-in : (n : ℕ) (did : Option Progress) (o : Option Begun) → IfSome o (PlaceIsGood failed starts n)
      → option_map (λ (at : Place). Some at.sofar) (option_and_then (λ (b : Begun). place_in failed n (first_filled (take (length b.config.devices) starts)) b) o) ≡ Some did → IfSome o (λ (b : Begun). IsGoodDid b.config did)
  place-done-in n did None h is = tt
  place-done-in n did (Some b) h is = place-done b.config (place_in failed n (first_filled (take (length b.config.devices) starts)) b) did h is

  places : (n : ℕ) → IfSome begun_now (PlaceIsGood failed starts n)
  places n = places-well failed starts n begun_now (good-begun (length starts) (cut bytes))

  done-well : (lines : ℕ) (did : Option Progress) → done_after failed starts bytes lines ≡ Some did → DidIsGood did
  done-well zero did is = subst DidIsGood (same is) nothing-done
    where
      same : Some None ≡ Some did → None ≡ did
      same is = cc
  done-well (suc n) did is = place-done-in n did begun_now (places n) is

  -- ---- within a line
  module _ (m : OneMore failed starts bytes) where
    abbrev filled_in : Begun → Option ℕ
    filled_in b = first_filled (take (length b.config.devices) starts)

    place-begun : place_in failed m.lines (filled_in m.begun) m.begun ≡ Some m.place
    place-begun = subst (λ (o : Option Begun). option_and_then (λ (b : Begun). place_in failed m.lines (filled_in b) b) o ≡ Some m.place) m.begins m.comes_to

    place-stands : StandsWell m.begun.config failed m.place
    place-stands = subst (λ o. IfSome o (StandsWell m.begun.config failed)) place-begun (subst (λ o. IfSome o (PlaceIsGood failed starts m.lines)) m.begins (places m.lines))

    piece-stands : LinesAreGood m.begun.config failed m.place.sofar (m.piece ∷ m.rest)
    piece-stands = let h = place-stands in subst (LinesAreGood m.begun.config failed m.place.sofar) m.next_piece h.lines

    line-well : IsGoodLine m.begun.config m.place.sofar m.effect
    line-well = effect-well m.begun.config failed (verdict_on m.place.taken m.piece) (effect_of_line m.begun.config failed m.place.sofar.scene (text_of m.piece)) m.place.sofar m.rest m.effect m.does piece-stands

    in-begun : (work : Work) → IsGoodWork m.begun.config starts work → DidWell starts bytes work
    in-begun work h = subst (λ o. IfSome o (λ (b : Begun). IsGoodWork b.config starts work)) (sym m.begins) h

  unwritten-well : (work : Work) → IsUnwritten failed starts bytes work → DidWell starts bytes work
  unwritten-well work h =
      let m = h.more in
      subst (DidWell starts bytes) (sym h.work_is) (in-begun m (work_with starts m.place.sofar m.effect h.count) (with-whole-line m.begun.config starts m.place.sofar m.effect h.count (line-well m)))

  within-well : (work : Work) → IsWithin failed starts bytes work → DidWell starts bytes work
  within-well work h =
      let m = h.more in
      let stands = place-stands m in
      subst (DidWell starts bytes) (sym h.work_is) (in-begun m (work_within starts m.place.sofar m.effect h.count) (within-line m.begun.config starts m.place.sofar m.effect h.count stands.good (line-well m)))

  memory-well : (work : Work) → IsBetween failed starts bytes work ⊎ IsWithin failed starts bytes work → DidWell starts bytes work
  memory-well work (inl h) = work-well h.did work h.work_is (done-well h.lines h.did h.are_done)
  memory-well work (inr h) = within-well work h

  cut-well : (left : List ℕ) (work : Work) → IsCutOff failed starts bytes left work → DidWell starts bytes work
  cut-well left work h = work-well h.did work h.work_is (done-well h.lines h.did h.are_done)

  pub ended-well : (status : Status) (unread : Option (List ℕ)) (work : Work) → HowEnded status failed starts bytes unread work → DidWell starts bytes work
  ended-well St.Done unread work h = own-well St.Done work h.0
  ended-well (St.BadConfig field) unread work h = own-well (St.BadConfig field) work h
  ended-well (St.BadLine n) unread work h = own-well (St.BadLine n) work h
  ended-well (St.LineTooLong n) unread work h = own-well (St.LineTooLong n) work h
  ended-well St.InputTooLong unread work h = own-well St.InputTooLong work h
  ended-well (St.NotEmpty device) unread work h = own-well (St.NotEmpty device) work h
  ended-well St.PortFault unread work h = own-well St.PortFault work h
  ended-well (St.StoreFault device) unread work h = work-well None work h.work_is nothing-done
  ended-well St.ReadFault unread work h = cut-well h.0 work h.1.1
  ended-well St.WriteFault unread work h = unwritten-well work h
  ended-well St.NoMemory unread work h = memory-well work h
  ended-well _ unread work h = absurd h
