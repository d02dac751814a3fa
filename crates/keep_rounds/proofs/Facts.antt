-- A balance task among others: what it has had is what its round is in the past, and its next query keeps all that is in order.
use Rattle.std.proofs.Common.{◌≡◌, ◌≤◌, ◌<◌, ◌+◌, ℕ, List, [], ◌∷◌, Bool, true, false, max, refl, sym, ◌∙◌, ap, subst, Option, None, Some, arith, inl, inr, if◌then◌else◌}
use Rattle.std.specs.Prelude.{◌⊎◌}
use Rattle.std.specs.List.{AllByRecursion}
use Rattle.keep_spec.specs.Config.{Configuration}
use Rattle.keep_event.specs.declared.device.DeviceQuery.TheVariants as DQ
use Rattle.keep_event.specs.declared.device.DeviceAnswer.{DeviceAnswer}
use Rattle.keep_event.specs.declared.device.DeviceAnswer.TheVariants as D
use Rattle.keep_event.specs.declared.table.TableQuery.TheVariants as TQ
use Rattle.keep_event.specs.declared.table.TableAnswer.{TableAnswer}
use Rattle.keep_event.specs.declared.table.TableAnswer.TheVariants as T
use Rattle.keep_event.specs.declared.event.Event.{Event}
use Rattle.keep_event.specs.declared.event.Query.{Query}
use Rattle.keep_event.specs.declared.event.Query.TheVariants as Q
use Rattle.keep_event.specs.declared.event.Answer.{Answer}
use Rattle.keep_event.specs.declared.event.Answer.TheVariants as A
use Rattle.keep_safety.specs.Allowed.{ArePlanned, IsPlanned}
use Rattle.keep_safety.specs.Past.{Past, table_after, IsAnswered}
use Rattle.keep_history.specs.Rounds.{Round, no_round, gave, with_started, with_cleared, with_page}
use Rattle.keep_safety.specs.Rounds.{Stage, round_in, stage, at_stage, MayPrecede, IsInOrder}
use Rattle.keep_event.specs.Plan.{reached}
use Rattle.keep_safety.proofs.Orders.{RoundIs, IsElsewhere, own-in-order, other-event, own-event, fresh-round}
use Rattle.std.proofs.lemmas.Bool.{eq-eqb}
use Rattle.keep_history.specs.declared.task.Outcome.TheVariants.{Disordered}
use Rattle.keep_history.specs.Balance.{to_clear, to_page, page_on, number_after, round_after, cleared_after, balance_end}
use Rattle.keep_event.specs.Plan.{has_ended}
use Rattle.keep_rounds.specs.Balance.{lists_for}
use Rattle.keep_rounds.proofs.Asked.{Asked, begins, clears, pages, scans, accepts, clear-case, page-case, scan-case, accept-case, ordered-end}
use Rattle.keep_rounds.proofs.Drawn.{begin-answer, begin-drawn, drawn-grows}
use Rattle.keep_rounds.proofs.Shapes.{IsShaped, place, place_of, clear-place, after-clears, shaped-begun, shaped-clear, shaped-page, shaped-scan, shaped-gathered}

-- an event of its parts
abbrev pub event : ℕ → ℕ → ℕ → Query → Answer → Event
event tick reading actor q a = record { tick = tick; reading = reading; actor = actor; query = q; answer = a }

-- ---- stages may come later than is asked for
later-stage : (o : Option Stage) (r k j : ℕ) → k ≤ j → MayPrecede o (at_stage r k) → MayPrecede o (at_stage r j)
later-stage None r k j le h = tt
later-stage (Some s) r k j le h = λ e. (let low = h e in omega arith)

later-stages : (past : Past) (r k j : ℕ) → k ≤ j → AllByRecursion (λ x. MayPrecede (stage x.query x.answer) (at_stage r k)) past → AllByRecursion (λ x. MayPrecede (stage x.query x.answer) (at_stage r j)) past
later-stages [] r k j le h = tt
later-stages (e ∷ past) r k j le h = (later-stage (stage e.query e.answer) r k j le h.0, later-stages past r k j le h.1)

lifted : (r k j : ℕ) (past : Past) (g : Round) → k ≤ j → RoundIs r past g k → RoundIs r past g j
lifted r k j past g le h = record { given = h.given; stages = later-stages past r k j le h.stages }

-- ---- a round that has begun, of a task by its number
pub record IsBegun (c : Configuration) (task_of : Event → ℕ) (past : Past) (n r : ℕ) (g : Round) (cleared_at : ℕ) : Type 0 where
  pub shape : IsShaped c g
  pub is : RoundIs r past g (place c g)
  pub drawn : r ≤ (table_after c past).rounds
  pub below : (t : ℕ) → AllByRecursion (λ x. x.tick < t) past → cleared_at < t
  pub own : AllByRecursion (λ x. (j : ℕ) → stage x.query x.answer ≡ at_stage r j → task_of x ≡ n) past

abbrev pub StandsSo : Configuration → (Event → ℕ) → Past → ℕ → Option ℕ → Round → ℕ → Type 0
StandsSo c task_of past n None g cleared_at = (g ≡ no_round) × (cleared_at ≡ 0)
StandsSo c task_of past n (Some r) g cleared_at = IsBegun c task_of past n r g cleared_at

-- no event of a round that wasn't drawn yet
abbrev pub AreDrawn : Configuration → Past → Type 0
AreDrawn c past = (r : ℕ) → (table_after c past).rounds < r → AllByRecursion (λ x. IsElsewhere r x.query x.answer) past

elsewhere-owned : (task_of : Event → ℕ) (n r : ℕ) (past : Past) → AllByRecursion (λ x. IsElsewhere r x.query x.answer) past → AllByRecursion (λ x. (j : ℕ) → stage x.query x.answer ≡ at_stage r j → task_of x ≡ n) past
elsewhere-owned task_of n r [] h = tt
elsewhere-owned task_of n r (e ∷ past) h = (λ j is. absurd (h.0 j is), elsewhere-owned task_of n r past h.1)

-- ---- another's event
pub stands-still : (c : Configuration) (task_of : Event → ℕ) (past : Past) (n : ℕ) (o : Option ℕ) (g : Round) (cleared_at : ℕ) (e : Event) →
    ((r : ℕ) → o ≡ Some r → IsElsewhere r e.query e.answer) → StandsSo c task_of past n o g cleared_at → StandsSo c task_of (e ∷ past) n o g cleared_at
stands-still c task_of past n None g cleared_at e never h = h
stands-still c task_of past n (Some r) g cleared_at e never h = record {
  shape = h.shape;
  is = other-event r (place c g) past g e h.is (never r refl);
  drawn = (let grows = drawn-grows c e.reading (table_after c past) e.query in let low = h.drawn in omega arith);
  below = λ t all. h.below t all.1;
  own = (λ j is. absurd (never r refl j is), h.own);
}

-- ---- its own event
-- the round and the stage of the event, and what is known before and after it
pub record Steps (c : Configuration) (task_of : Event → ℕ) (past : Past) (n : ℕ) (o : Option ℕ) (g : Round) (cleared_at : ℕ) (e : Event) : Type 0 where
  pub round : ℕ
  pub stage_at : ℕ
  pub is : stage e.query e.answer ≡ at_stage round stage_at
  pub new : (o ≡ Some round) ⊎ ((table_after c past).rounds < round)
  pub drawn : round ≤ (table_after c (e ∷ past)).rounds
  pub number : number_after e.query e.answer o ≡ Some round
  pub planned : IsPlanned c past e.query e.answer
  pub in_order : IsInOrder past e.query e.answer
  pub stands : StandsSo c task_of (e ∷ past) n (number_after e.query e.answer o) (round_after (number_after e.query e.answer o) e.query e.answer g) (cleared_after e.tick e.query e.answer cleared_at)
  pub ordered : (x y : ℕ) → balance_end cleared_at e.tick e.query e.answer ≡ Some (Disordered x y) → ⊥

module _ (c : Configuration) (task_of : Event → ℕ) (past : Past) (n : ℕ) (tick reading actor : ℕ) (a : Answer) (ticks : AllByRecursion (λ x. x.tick < tick) past) where
  abbrev of_query : Query → Event
  of_query q = event tick reading actor q a

  -- what an answer makes of the round
  record Adds (r j : ℕ) (q : Query) (g : Round) (cleared_at : ℕ) : Type 0 where
    pub shape : IsShaped c g
    pub placed : j ≤ place c g
    pub below : (t : ℕ) → tick < t → cleared_at < t

  owned-by : (r : ℕ) (g : Round) (cleared_at j : ℕ) (q : Query) → IsBegun c task_of past n r g cleared_at → task_of (of_query q) ≡ n → place c g ≡ j → stage q a ≡ at_stage r j →
      number_after q a (Some r) ≡ Some r → Adds r j q (gave r q a g) (cleared_after tick q a cleared_at) → IsPlanned c past q a →
      Steps c task_of past n (Some r) g cleared_at (of_query q)
  owned-by r g cleared_at j q h mine at is same adds planned =
      let grows = drawn-grows c reading (table_after c past) q in
      let low = h.drawn in
      record {
        round = r;
        stage_at = j;
        is = is;
        new = inl refl;
        drawn = omega arith;
        number = same;
        planned = planned;
        in_order = own-in-order r (place c g) j past g q a h.is (omega arith) is;
        stands = subst (λ o. StandsSo c task_of (of_query q ∷ past) n o (round_after o q a g) (cleared_after tick q a cleared_at)) (sym same) (record {
          shape = adds.shape;
          is = lifted r j (place c (gave r q a g)) (of_query q ∷ past) (gave r q a g) adds.placed (own-event r (place c g) j past g (of_query q) h.is (omega arith) is);
          drawn = omega arith;
          below = λ t all. adds.below t all.0;
          own = (λ k e. mine, h.own);
        });
        ordered = λ x y e. ordered-end cleared_at tick x y q a (h.below tick ticks) e;
      }

  still-below : (cleared_at t : ℕ) → cleared_at < tick → tick < t → cleared_at < t
  still-below cleared_at t lt up = omega arith

  max-below : (x y t : ℕ) → x < t → y < t → max x y < t
  max-below x y t l m = omega arith

  at-clear : (r d : ℕ) (ds : List ℕ) (g : Round) (cleared_at : ℕ) → to_clear c g ≡ d ∷ ds → IsBegun c task_of past n r g cleared_at → task_of (of_query (Q.Device d (DQ.Clear r))) ≡ n →
      Steps c task_of past n (Some r) g cleared_at (of_query (Q.Device d (DQ.Clear r)))
  at-clear r d ds g cleared_at left h mine =
      owned-by r g cleared_at 1 (Q.Device d (DQ.Clear r)) h mine (at-place (to_clear c g) left) refl refl
      (clear-case r d g (λ x t. Adds r 1 (Q.Device d (DQ.Clear r)) x t) tick cleared_at
      (record { shape = shaped-clear c g d ds h.shape left; placed = clear-place (to_clear c (with_cleared d g)) (to_page c g) (has_ended g.scans); below = λ t up. max-below cleared_at tick t (still-below cleared_at t (h.below tick ticks) up) up })
      (record { shape = h.shape; placed = clear-place (to_clear c g) (to_page c g) (has_ended g.scans); below = λ t up. still-below cleared_at t (h.below tick ticks) up })
      a)
      (nothing-planned a)
    where
      at-place : (xs : List ℕ) → xs ≡ d ∷ ds → place_of xs (to_page c g) (has_ended g.scans) ≡ 1
      at-place [] e = cc e
      at-place (x ∷ xs) e = refl

      nothing-planned : (a : Answer) → IsPlanned c past (Q.Device d (DQ.Clear r)) a
      nothing-planned (A.Device a) = tt
      nothing-planned (A.Table a) = tt

  at-page : (r d : ℕ) (prefix : List ℕ) (xs : List (ℕ × List ℕ)) (g : Round) (cleared_at : ℕ) → to_clear c g ≡ [] → to_page c g ≡ page_on d prefix ∷ xs → IsBegun c task_of past n r g cleared_at →
      task_of (of_query (Q.Device d (DQ.Page r prefix))) ≡ n → Steps c task_of past n (Some r) g cleared_at (of_query (Q.Device d (DQ.Page r prefix)))
  at-page r d prefix xs g cleared_at cleared left h mine =
      owned-by r g cleared_at 2 (Q.Device d (DQ.Page r prefix)) h mine (at-place (to_clear c g) (to_page c g) cleared left) refl refl
      (page-case r d g prefix (λ x. Adds r 2 (Q.Device d (DQ.Page r prefix)) x cleared_at)
      (λ entries. record { shape = shaped-page c g d prefix xs entries h.shape cleared left; placed = after-clears (to_clear c g) (to_page c (with_page (record { device = d; prefix = prefix; entries = entries }) g)) (has_ended g.scans) cleared; below = λ t up. still-below cleared_at t (h.below tick ticks) up })
      (record { shape = h.shape; placed = after-clears (to_clear c g) (to_page c g) (has_ended g.scans) cleared; below = λ t up. still-below cleared_at t (h.below tick ticks) up })
      a)
      (nothing-planned a)
    where
      at-place : (ds : List ℕ) (ps : List (ℕ × List ℕ)) → ds ≡ [] → ps ≡ page_on d prefix ∷ xs → place_of ds ps (has_ended g.scans) ≡ 2
      at-place (x ∷ ds) ps e f = cc e
      at-place [] [] e f = cc f
      at-place [] (p ∷ ps) e f = refl

      nothing-planned : (a : Answer) → IsPlanned c past (Q.Device d (DQ.Page r prefix)) a
      nothing-planned (A.Device a) = tt
      nothing-planned (A.Table a) = tt

  at-scan : (r : ℕ) (g : Round) (cleared_at : ℕ) → to_clear c g ≡ [] → to_page c g ≡ [] → has_ended g.scans ≡ false → IsBegun c task_of past n r g cleared_at →
      task_of (of_query (Q.Table (TQ.Scan r (reached g.scans) c.scan_limit))) ≡ n → Steps c task_of past n (Some r) g cleared_at (of_query (Q.Table (TQ.Scan r (reached g.scans) c.scan_limit)))
  at-scan r g cleared_at cleared paged more h mine =
      owned-by r g cleared_at 2 (Q.Table (TQ.Scan r (reached g.scans) c.scan_limit)) h mine (at-place (to_clear c g) (to_page c g) (has_ended g.scans) cleared more) refl refl
      (scan-case r 0 g (reached g.scans) c.scan_limit (λ x. Adds r 2 (Q.Table (TQ.Scan r (reached g.scans) c.scan_limit)) x cleared_at)
      (λ rows last. record { shape = shaped-scan c g rows last h.shape paged more; placed = after-clears (to_clear c g) (to_page c g) last cleared; below = λ t up. still-below cleared_at t (h.below tick ticks) up })
      (record { shape = h.shape; placed = after-clears (to_clear c g) (to_page c g) (has_ended g.scans) cleared; below = λ t up. still-below cleared_at t (h.below tick ticks) up })
      a)
      tt
    where
      at-place : (ds : List ℕ) (ps : List (ℕ × List ℕ)) (b : Bool) → ds ≡ [] → b ≡ false → place_of ds ps b ≡ 2
      at-place (x ∷ ds) ps b e f = cc e
      at-place [] (p ∷ ps) b e f = refl
      at-place [] [] true e f = cc f
      at-place [] [] false e f = refl

  at-accept : (r d : ℕ) (g : Round) (cleared_at : ℕ) → to_clear c g ≡ [] → to_page c g ≡ [] → has_ended g.scans ≡ true → IsBegun c task_of past n r g cleared_at →
      task_of (of_query (Q.Device d (DQ.Accept r (lists_for c r g d)))) ≡ n → Steps c task_of past n (Some r) g cleared_at (of_query (Q.Device d (DQ.Accept r (lists_for c r g d))))
  at-accept r d g cleared_at cleared paged done h mine =
      owned-by r g cleared_at 3 (Q.Device d (DQ.Accept r (lists_for c r g d))) h mine at-place refl refl
      (accept-case r d g (lists_for c r g d) (λ x. Adds r 3 (Q.Device d (DQ.Accept r (lists_for c r g d))) x cleared_at)
      (record { shape = h.shape; placed = (let three = at-place in omega arith); below = λ t up. still-below cleared_at t (h.below tick ticks) up })
      a)
      (lists-planned a)
    where
      at-place-by : (ds : List ℕ) (ps : List (ℕ × List ℕ)) (b : Bool) → ds ≡ [] → ps ≡ [] → b ≡ true → place_of ds ps b ≡ 3
      at-place-by (x ∷ ds) ps b e f i = cc e
      at-place-by [] (p ∷ ps) b e f i = cc f
      at-place-by [] [] true e f i = refl
      at-place-by [] [] false e f i = cc i

      at-place : place c g ≡ 3
      at-place = at-place-by (to_clear c g) (to_page c g) (has_ended g.scans) cleared paged done

      are-planned : ArePlanned c r (round_in r past) d (lists_for c r g d)
      are-planned = subst (λ x. ArePlanned c r x d (lists_for c r g d)) (sym h.is.given) (record { whole = shaped-gathered c g h.shape cleared paged done; are = refl })

      lists-planned : (a : Answer) → IsPlanned c past (Q.Device d (DQ.Accept r (lists_for c r g d))) a
      lists-planned (A.Table a) = tt
      lists-planned (A.Device a) = by a
        where
          by : (a : DeviceAnswer) → IsPlanned c past (Q.Device d (DQ.Accept r (lists_for c r g d))) (A.Device a)
          by (D.Accepted trash pull) = are-planned
          by _ = tt

-- ---- the table draws a round
module _ (c : Configuration) (task_of : Event → ℕ) (past : Past) (n : ℕ) (tick reading actor : ℕ) (drawn : AreDrawn c past) where
  abbrev next_round : ℕ
  next_round = (table_after c past).rounds + 1

  abbrev begin_event : TableAnswer → Event
  begin_event x = event tick reading actor (Q.Table TQ.BeginRound) (A.Table x)

  gives-started : gave next_round (Q.Table TQ.BeginRound) (A.Table (T.Round next_round reading)) no_round ≡ with_started reading no_round
  gives-started = ap (λ b. if b then with_started reading no_round else no_round) (eq-eqb next_round next_round refl)

  fresh : RoundIs next_round past no_round 0
  fresh = fresh-round next_round past (drawn next_round (omega arith))

  begin-here : task_of (begin_event (T.Round next_round reading)) ≡ n → Steps c task_of past n None no_round 0 (begin_event (T.Round next_round reading))
  begin-here mine =
      let grown = begin-drawn c reading (table_after c past) in
      record {
        round = next_round;
        stage_at = 0;
        is = refl;
        new = inr (omega arith);
        drawn = omega arith;
        number = refl;
        planned = tt;
        in_order = own-in-order next_round 0 0 past no_round (Q.Table TQ.BeginRound) (A.Table (T.Round next_round reading)) fresh (omega arith) refl;
        stands = subst (λ x. IsBegun c task_of (begin_event (T.Round next_round reading) ∷ past) n next_round x 0) (sym gives-started) (record {
          shape = shaped-begun c reading;
          is = lifted next_round 0 (place c (with_started reading no_round)) (begin_event (T.Round next_round reading) ∷ past) (with_started reading no_round) (omega arith)
              (subst (λ x. RoundIs next_round (begin_event (T.Round next_round reading) ∷ past) x 0) gives-started (own-event next_round 0 0 past no_round (begin_event (T.Round next_round reading)) fresh (omega arith) refl));
          drawn = omega arith;
          below = λ t all. (let up = all.0 in omega arith);
          own = (λ j e. mine, elsewhere-owned task_of n next_round past (drawn next_round (omega arith)));
        });
        ordered = λ x y e. cc e;
      }

  begin-round : (a : Answer) (g : Round) (cleared_at : ℕ) → IsAnswered c past reading (Q.Table TQ.BeginRound) a → g ≡ no_round → cleared_at ≡ 0 → task_of (event tick reading actor (Q.Table TQ.BeginRound) a) ≡ n →
      Steps c task_of past n None g cleared_at (event tick reading actor (Q.Table TQ.BeginRound) a)
  begin-round (A.Device a) g cleared_at answered none zero mine = absurd answered
  begin-round (A.Table x) g cleared_at answered none zero mine =
      subst (λ v. task_of (begin_event v) ≡ n → Steps c task_of past n None g cleared_at (begin_event v)) (sym (answered ∙ begin-answer c reading (table_after c past)))
      (subst (λ v. task_of (begin_event (T.Round next_round reading)) ≡ n → Steps c task_of past n None v cleared_at (begin_event (T.Round next_round reading))) (sym none)
      (subst (λ v. task_of (begin_event (T.Round next_round reading)) ≡ n → Steps c task_of past n None no_round v (begin_event (T.Round next_round reading))) (sym zero) begin-here))
      mine

-- ---- whatever it asks
module _ (c : Configuration) (task_of : Event → ℕ) (past : Past) (n : ℕ) (drawn : AreDrawn c past) (tick reading actor : ℕ) (a : Answer) (ticks : AllByRecursion (λ x. x.tick < tick) past) where
  abbrev Goes : Option ℕ → Round → ℕ → Query → Type 0
  Goes o g cleared_at q = IsAnswered c past reading q a → StandsSo c task_of past n o g cleared_at → task_of (event tick reading actor q a) ≡ n → Steps c task_of past n o g cleared_at (event tick reading actor q a)

  goes-by : (o : Option ℕ) (g : Round) (cleared_at : ℕ) (q r : Query) (p : Option ℕ) → o ≡ p → q ≡ r → Goes p g cleared_at r → Goes o g cleared_at q
  goes-by o g cleared_at q r p e f h = subst (λ v. Goes v g cleared_at q) (sym e) (subst (λ v. Goes p g cleared_at v) (sym f) h)

  pub own-step : (o : Option ℕ) (g : Round) (k : List Bool) (cleared_at : ℕ) (q : Query) → Asked c o g k q → Goes o g cleared_at q
  own-step o g k cleared_at q (begins none is) =
      goes-by o g cleared_at q (Q.Table TQ.BeginRound) None none is (λ answered stands mine. begin-round c task_of past n tick reading actor drawn a g cleared_at answered stands.0 stands.1 mine)
  own-step o g k cleared_at q (clears r d ds some left is) =
      goes-by o g cleared_at q (Q.Device d (DQ.Clear r)) (Some r) some is (λ answered stands mine. at-clear c task_of past n tick reading actor a ticks r d ds g cleared_at left stands mine)
  own-step o g k cleared_at q (pages r d prefix xs some cleared left is) =
      goes-by o g cleared_at q (Q.Device d (DQ.Page r prefix)) (Some r) some is (λ answered stands mine. at-page c task_of past n tick reading actor a ticks r d prefix xs g cleared_at cleared left stands mine)
  own-step o g k cleared_at q (scans r some cleared paged more is) =
      goes-by o g cleared_at q (Q.Table (TQ.Scan r (reached g.scans) c.scan_limit)) (Some r) some is (λ answered stands mine. at-scan c task_of past n tick reading actor a ticks r g cleared_at cleared paged more stands mine)
  own-step o g k cleared_at q (accepts r d ds some cleared paged done left is) =
      goes-by o g cleared_at q (Q.Device d (DQ.Accept r (lists_for c r g d))) (Some r) some is (λ answered stands mine. at-accept c task_of past n tick reading actor a ticks r d g cleared_at cleared paged done stands mine)
