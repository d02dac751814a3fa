-- Where an answer takes a balance task while its round is gathered: `begun`, `cleared` and `paged`.
use Rattle.std.proofs.Common.{◌≡◌, ◌<◌, ◌≤◌, ◌+◌, max, ℕ, zero, suc, List, [], ◌∷◌, length, map, flat_map, drop, Option, None, Some, inl, inr, refl, sym, ◌∙◌, ap, subst, arith, if◌then◌else◌}
use Rattle.std.proofs.lemmas.Bool.{eq-eqb}
use Rattle.keep_spec.specs.Config.{Configuration}
use Rattle.keep_spec.specs.Members.{numbers_from}
use Rattle.keep_event.specs.Plan.{Gathered, has_ended, nothing_gathered, reached, with_page}
use Rattle.keep_event.specs.declared.device.DeviceQuery.TheVariants as DQ
use Rattle.keep_event.specs.declared.device.DeviceAnswer.TheVariants as D
use Rattle.keep_event.specs.declared.table.TableQuery.TheVariants as TQ
use Rattle.keep_event.specs.declared.table.TableAnswer.TheVariants as T
use Rattle.keep_event.specs.declared.event.Query.{Query}
use Rattle.keep_event.specs.declared.event.Query.TheVariants as Q
use Rattle.keep_event.specs.declared.event.Answer.{Answer}
use Rattle.keep_event.specs.declared.event.Answer.TheVariants as A
use Rattle.keep_event.specs.declared.lists.Entry.{Entry}
use Rattle.keep_history.specs.Next.{ends, ends_or}
use Rattle.keep_history.specs.Rounds as rounds
use Rattle.keep_history.specs.Rounds.{Round, no_round, prefixes}
use Rattle.keep_history.specs.Balance.{Balancing, all_gathered, all_pages, balance_after, balance_end, balance_next, device_numbers, disordered, new_balance, page_on, round_next, to_clear, to_page}
use Rattle.keep_history.specs.declared.task.Outcome.{Outcome}
use Rattle.keep_balance.specs.Gathering.{HasMoved, IsClearAfter, IsClearFirst, IsPageFrom, TakesBegun, TakesCleared, TakesPage, TakesPaged}
use Rattle.keep_balance.specs.Standing.{AsksPage, Gathers, IsAfter, IsClearing, IsPaging, Shows, ShowsAt, given, pages_from}
use Rattle.keep_balance.specs.declared.task.BalanceTask.{BalanceTask}
use Rattle.keep_balance.specs.declared.task.Place.{Place}
use Rattle.keep_balance.specs.declared.task.Place.TheVariants.{Begin, Clear, Page, Scan, Accept}

-- ---- where a round stands while it is gathered

abbrev gathering : ℕ → Round → ℕ → Balancing
gathering number g tick = record { number = Some number; round = g; cleared_at = tick; refusals = []; ended = None }

is-gathering : (g : Gathered) (tick : ℕ) (s : Balancing) → Gathers g tick s → s ≡ gathering g.round s.round tick
is-gathering g tick s h =
    ap (λ n. record { number = n; round = s.round; cleared_at = s.cleared_at; refusals = s.refusals; ended = s.ended }) h.number
    ∙ (ap (λ n. record { number = Some g.round; round = s.round; cleared_at = n; refusals = s.refusals; ended = s.ended }) h.tick
    ∙ (ap (λ rs. record { number = Some g.round; round = s.round; cleared_at = tick; refusals = rs; ended = s.ended }) h.none_refused
    ∙ ap (λ e. record { number = Some g.round; round = s.round; cleared_at = tick; refusals = []; ended = e }) h.still))

-- a list of which the first came
drop-next : {X : Type 0} (n : ℕ) (xs : List X) (y : X) (ys : List X) → drop n xs ≡ y ∷ ys → drop (suc n) xs ≡ ys
drop-next zero [] y ys e = cc e
drop-next zero (x ∷ xs) y ys e = cc e
drop-next (suc n) [] y ys e = cc e
drop-next (suc n) (x ∷ xs) y ys e = drop-next n xs y ys e

first-number : (n : ℕ) → 0 < n → (left : ℕ) × ((0 + 1 + left ≡ n) × (numbers_from 0 n ≡ 0 ∷ numbers_from (0 + 1) left))
first-number zero h = absurd (omega (arith, h))
first-number (suc n) h = (n, (omega arith, refl))

module _ (old new : BalanceTask) (gather : Gathered) (tick : ℕ) (moved : HasMoved old new gather tick) where
  texts-stay : (s : Balancing) → Shows old s → new.prefixes.items ≡ prefixes new.config.index_digits
  texts-stay s shows = moved.prefixes ∙ (shows.texts ∙ ap (λ c. prefixes c.index_digits) (sym moved.config))

  gathers-on : (number : ℕ) (g : Round) → gather ≡ all_gathered number g → Gathers new.gather new.cleared_at (gathering number g tick)
  gathers-on number g is =
      let round_is : number ≡ new.gather.round = sym (ap (λ x. x.round) (moved.gather_is ∙ is)) in
      record {
        number = ap (λ n. Some n) round_is;
        gather = moved.gather_is ∙ (is ∙ ap (λ n. all_gathered n g) round_is);
        tick = sym moved.tick;
        none_refused = refl;
        still = refl;
      }

-- the page that is asked next, or the first rows
module _ (new : BalanceTask) (number tick : ℕ) (g : Round) (gathers : Gathers new.gather new.cleared_at (gathering number g tick)) (cleared : to_clear new.config g ≡ []) (none : g.scans ≡ []) where
  shows-next : (place : Place) (query : Query) (missing : List (ℕ × List ℕ)) → new.query ≡ query → to_page new.config g ≡ missing
      → AsksPage new.prefixes.items (length new.config.devices) new.gather.round new.config.scan_limit missing place query → ShowsAt place new (gathering number g tick)
  shows-next Begin query missing same is h = absurd h
  shows-next (Clear d) query missing same is h = absurd h
  shows-next (Accept d) query missing same is h = absurd h
  shows-next (Page d next) query missing same is h = record {
    gathers = gathers;
    cleared = cleared;
    page = record { prefix = h.prefix; left = h.left; all = h.all; missing_is = is ∙ h.missing_is; query_is = same ∙ h.query_is };
    no_scans = none;
  }
  shows-next Scan query missing same is h = record {
    gathers = gathers;
    cleared = cleared;
    paged = is ∙ h.0;
    more = ap has_ended none;
    query = same ∙ (h.1 ∙ ap (λ scans. Q.Table (TQ.Scan new.gather.round (reached scans) new.config.scan_limit)) (sym none));
  }

asks-moved : (old new : BalanceTask) (gather : Gathered) (tick : ℕ) → HasMoved old new gather tick → gather.round ≡ old.gather.round → (missing : List (ℕ × List ℕ)) (place : Place) (query : Query)
    → AsksPage old.prefixes.items (length old.config.devices) old.gather.round old.config.scan_limit missing place query → AsksPage new.prefixes.items (length new.config.devices) new.gather.round new.config.scan_limit missing place query
asks-moved old new gather tick moved same missing place query h =
    let round_is : new.gather.round ≡ old.gather.round = ap (λ x. x.round) moved.gather_is ∙ same in
    rw (moved.config, moved.prefixes, round_is) h

-- ---- the number of the round

module _ (old new : BalanceTask) (number started : ℕ) (moved : HasMoved old new (nothing_gathered number started) 0) where
  abbrev begun_round : Round
  begun_round = rounds.with_started started no_round

  begun-at : (place : Place) → IsClearFirst (length old.config.devices) number old.config.scan_limit place new.query → ShowsAt place new (gathering number begun_round 0)
  begun-at Begin h = absurd h
  begun-at (Page d next) h = absurd h
  begun-at (Accept d) h = absurd h
  begun-at (Clear d) h =
      let gathers = gathers-on old new (nothing_gathered number started) 0 moved number begun_round refl in
      let first = first-number (length old.config.devices) h.1.0 in
      let same : length new.config.devices ≡ length old.config.devices = ap (λ c. length c.devices) moved.config in
      subst (λ k. IsClearing new k (gathering number begun_round 0)) (sym h.0) (record {
        gathers = gathers;
        left = first.0;
        all = first.1.0 ∙ sym same;
        missing = ap (numbers_from 0) same ∙ first.1.1;
        no_pages = refl;
        no_scans = refl;
        query = h.1.1 ∙ ap (λ n. Q.Device 0 (DQ.Clear n)) (sym (ap (λ x. x.round) moved.gather_is));
      })
  begun-at Scan h =
      let none : length new.config.devices ≡ 0 = ap (λ c. length c.devices) moved.config ∙ h.0 in
      record {
        gathers = gathers-on old new (nothing_gathered number started) 0 moved number begun_round refl;
        cleared = ap (numbers_from 0) none;
        paged = ap (λ n. flat_map (λ d. map (page_on d) (prefixes new.config.index_digits)) (numbers_from 0 n)) none;
        more = refl;
        query = h.1
            ∙ (ap (λ n. Q.Table (TQ.Scan n 0 old.config.scan_limit)) (sym (ap (λ x. x.round) moved.gather_is))
            ∙ ap (λ n. Q.Table (TQ.Scan new.gather.round 0 n)) (sym (ap (λ c. c.scan_limit) moved.config)));
      }

  begun-shows : (s : Balancing) (tick : ℕ) → IsClearFirst (length old.config.devices) number old.config.scan_limit new.place new.query → Shows old s → s ≡ new_balance → old.query ≡ Q.Table TQ.BeginRound
      → Shows new (balance_after old.query (given tick (A.Table (T.Round number started))) s)
  begun-shows s tick first shows is asked =
      subst (λ q. Shows new (balance_after q (given tick (A.Table (T.Round number started))) s)) (sym asked)
      (subst (λ x. Shows new (balance_after (Q.Table TQ.BeginRound) (given tick (A.Table (T.Round number started))) x)) (sym is)
      (subst (λ b. Shows new (gathering number (if b then begun_round else no_round) 0)) (sym (eq-eqb number number refl))
      (record { texts = texts-stay old new (nothing_gathered number started) 0 moved s shows; at = begun-at new.place first })))

ended-ends : (c : Configuration) (s : Balancing) (outcome : Outcome) → s.ended ≡ Some outcome → balance_next c s ≡ ends outcome
ended-ends c s outcome e = ap (λ end. ends_or end (round_next c s.number s.round s.refusals)) e

module _ (old new : BalanceTask) (s : Balancing) (tick : ℕ) (shows : Shows old s) where
  -- nothing has changed
  waits : (a : Answer) → new ≡ old → balance_after old.query (given tick a) s ≡ s → IsAfter old (given tick a) s new None
  waits a same is = subst (λ t. Shows t (balance_after old.query (given tick a) s)) (sym same) (subst (λ x. Shows old x) (sym is) shows)

  ends-by : (a : Answer) (outcome : Outcome) → new ≡ old → balance_end s.cleared_at tick old.query a ≡ Some outcome → IsAfter old (given tick a) s new (Some outcome)
  ends-by a outcome same e = (ended-ends old.config (balance_after old.query (given tick a) s) outcome e, ap (λ t. t.query) same)

  module _ (at : old.place ≡ Begin) where
    stood-begun : (s ≡ new_balance) × (old.query ≡ Q.Table TQ.BeginRound)
    stood-begun = subst (λ p. ShowsAt p old s) at shows.at

    begun-other : (a : Answer) → balance_after (Q.Table TQ.BeginRound) (given tick a) new_balance ≡ new_balance → balance_after old.query (given tick a) s ≡ s
    begun-other a is = ap (λ q. balance_after q (given tick a) s) stood-begun.1 ∙ (ap (λ x. balance_after (Q.Table TQ.BeginRound) (given tick a) x) stood-begun.0 ∙ (is ∙ sym stood-begun.0))

    pub begun : (a : Answer) → TakesBegun a old new → IsAfter old (given tick a) s new None
    begun (A.Table (T.Round number started)) h = begun-shows old new number started h.0 s tick h.1 shows stood-begun.0 stood-begun.1
    begun a same = waits a same (begun-other a refl)

-- ---- a device's clear

positive : (n : ℕ) → 0 < n → (m : ℕ) × (n ≡ suc m)
positive zero h = absurd (omega (arith, h))
positive (suc n) h = (n, refl)

module _ (old new : BalanceTask) (d tick : ℕ) (s : Balancing) (shows : Shows old s) (c : IsClearing old d s) (moved : HasMoved old new old.gather (max old.cleared_at tick)) where
  abbrev cleared_round : Round
  cleared_round = rounds.with_cleared d s.round

  abbrev cleared_on : Balancing
  cleared_on = gathering old.gather.round cleared_round (max old.cleared_at tick)

  left-to-clear : to_clear new.config cleared_round ≡ numbers_from (d + 1) c.left
  left-to-clear = ap (λ x. to_clear x cleared_round) moved.config ∙ drop-next (length s.round.cleared) (device_numbers old.config) d (numbers_from (d + 1) c.left) c.missing

  cleared-gathers : Gathers new.gather new.cleared_at cleared_on
  cleared-gathers = gathers-on old new old.gather (max old.cleared_at tick) moved old.gather.round cleared_round c.gathers.gather

  devices-stay : length new.config.devices ≡ length old.config.devices
  devices-stay = ap (λ x. length x.devices) moved.config

  next-clears : d + 1 < length old.config.devices → new.query ≡ Q.Device (d + 1) (DQ.Clear old.gather.round) → IsClearing new (d + 1) cleared_on
  next-clears below asked =
      let more : 0 < c.left = omega (arith, below, c.all) in
      let left = positive c.left more in
      record {
        gathers = cleared-gathers;
        left = left.0;
        all = omega (arith, c.all, left.1, devices-stay);
        missing = left-to-clear ∙ ap (numbers_from (d + 1)) left.1;
        no_pages = c.no_pages;
        no_scans = c.no_scans;
        query = asked ∙ ap (λ n. Q.Device (d + 1) (DQ.Clear n)) (sym (ap (λ x. x.round) moved.gather_is));
      }

  all-cleared : length old.config.devices ≤ d + 1 → IsPageFrom old 0 0 new.place new.query → ShowsAt new.place new cleared_on
  all-cleared few asked =
      let none : c.left ≡ 0 = omega (arith, few, c.all) in
      let some : 0 < length old.config.devices = omega (arith, c.all) in
      let first = first-number (length old.config.devices) some in
      let no_scans : old.gather.scans ≡ [] = ap (λ x. x.scans) c.gathers.gather ∙ c.no_scans in
      let pages : to_page new.config cleared_round ≡ pages_from old.prefixes.items 0 first.0 (drop 0 old.prefixes.items)
      = ap (λ x. to_page x cleared_round) moved.config
      ∙ (ap (λ ps. drop (length ps) (all_pages old.config)) c.no_pages
      ∙ (ap (flat_map (λ e. map (page_on e) (prefixes old.config.index_digits))) first.1.1
      ∙ sym (ap (λ ts. pages_from ts 0 first.0 ts) shows.texts))) in
      shows-next new old.gather.round (max old.cleared_at tick) cleared_round cleared-gathers (left-to-clear ∙ ap (numbers_from (d + 1)) none) c.no_scans new.place new.query
      (pages_from old.prefixes.items 0 first.0 (drop 0 old.prefixes.items)) refl pages
      (asks-moved old new old.gather (max old.cleared_at tick) moved refl (pages_from old.prefixes.items 0 first.0 (drop 0 old.prefixes.items)) new.place new.query (asked first.0 first.1.0 no_scans))

  cleared-at : IsClearAfter old d new.place new.query → ShowsAt new.place new cleared_on
  cleared-at (inl h) = subst (λ p. ShowsAt p new cleared_on) (sym h.0) (next-clears h.1.0 h.1.1)
  cleared-at (inr h) = all-cleared h.0 h.1

  clear-taken : IsClearAfter old d new.place new.query → Shows new (balance_after old.query (given tick (A.Device D.Cleared)) s)
  clear-taken h =
      subst (λ q. Shows new (balance_after q (given tick (A.Device D.Cleared)) s)) (sym c.query)
      (subst (λ x. Shows new (balance_after (Q.Device d (DQ.Clear old.gather.round)) (given tick (A.Device D.Cleared)) x)) (sym (is-gathering old.gather old.cleared_at s c.gathers))
      (subst (λ b. Shows new (gathering old.gather.round (if b then cleared_round else s.round) (max old.cleared_at tick))) (sym (eq-eqb old.gather.round old.gather.round refl))
      (record { texts = texts-stay old new old.gather (max old.cleared_at tick) moved s shows; at = cleared-at h })))

module _ (old new : BalanceTask) (d : ℕ) (s : Balancing) (tick : ℕ) (shows : Shows old s) (at : old.place ≡ Clear d) where
  stood-clearing : IsClearing old d s
  stood-clearing = subst (λ p. ShowsAt p old s) at shows.at

  clear-other : (a : Answer) → balance_after (Q.Device d (DQ.Clear old.gather.round)) (given tick a) (gathering old.gather.round s.round old.cleared_at) ≡ gathering old.gather.round s.round old.cleared_at
      → balance_after old.query (given tick a) s ≡ s
  clear-other a is =
      let stood = is-gathering old.gather old.cleared_at s stood-clearing.gathers in
      ap (λ q. balance_after q (given tick a) s) stood-clearing.query ∙ (ap (λ x. balance_after (Q.Device d (DQ.Clear old.gather.round)) (given tick a) x) stood ∙ (is ∙ sym stood))

  clear-ends : (a : Answer) (outcome : Outcome) → new ≡ old → balance_end s.cleared_at tick (Q.Device d (DQ.Clear old.gather.round)) a ≡ Some outcome → IsAfter old (given tick a) s new (Some outcome)
  clear-ends a outcome same e = ends-by old new s tick shows a outcome same (ap (λ q. balance_end s.cleared_at tick q a) stood-clearing.query ∙ e)

  pub cleared : (a : Answer) (end : Option Outcome) → TakesCleared d tick a old new end → IsAfter old (given tick a) s new end
  cleared (A.Device D.Cleared) end h = subst (λ e. IsAfter old (given tick (A.Device D.Cleared)) s new e) (sym h.0) (clear-taken old new d tick s shows stood-clearing h.1.0 h.1.1)
  cleared (A.Device (D.Stale held)) end h = subst (λ e. IsAfter old (given tick (A.Device (D.Stale held))) s new e) (sym h.0) (clear-ends (A.Device (D.Stale held)) _ h.1 refl)
  cleared (A.Device D.StoreFault) end h = subst (λ e. IsAfter old (given tick (A.Device D.StoreFault)) s new e) (sym h.0) (clear-ends (A.Device D.StoreFault) _ h.1 refl)
  cleared a end h = subst (λ e. IsAfter old (given tick a) s new e) (sym h.0) (waits old new s tick shows a h.1 (clear-other a refl))

-- ---- a device's page

module _ (old new : BalanceTask) (d next : ℕ) (entries : List Entry) (s : Balancing) (shows : Shows old s) (c : IsPaging old d next s) (moved : HasMoved old new (with_page (record { device = d; entries = entries }) old.gather) old.cleared_at) where
  abbrev paged_round : Round
  paged_round = rounds.with_page (record { device = d; prefix = c.page.prefix; entries = entries }) s.round

  abbrev kept : Gathered
  kept = with_page (record { device = d; entries = entries }) old.gather

  paged-at : IsPageFrom old d next new.place new.query → ShowsAt new.place new (gathering old.gather.round paged_round old.cleared_at)
  paged-at asked =
      let no_scans : old.gather.scans ≡ [] = ap (λ x. x.scans) c.gathers.gather ∙ c.no_scans in
      let rest = pages_from old.prefixes.items d c.page.left (drop next old.prefixes.items) in
      let pages : to_page new.config paged_round ≡ pages_from old.prefixes.items d c.page.left (drop next old.prefixes.items)
      = ap (λ x. to_page x paged_round) moved.config
      ∙ drop-next (length s.round.pages) (all_pages old.config) (page_on d c.page.prefix) (pages_from old.prefixes.items d c.page.left (drop next old.prefixes.items)) c.page.missing_is in
      shows-next new old.gather.round old.cleared_at paged_round
      (gathers-on old new kept old.cleared_at moved old.gather.round paged_round (ap (with_page (record { device = d; entries = entries })) c.gathers.gather))
      (ap (λ x. to_clear x paged_round) moved.config ∙ c.cleared) c.no_scans new.place new.query rest refl pages
      (asks-moved old new kept old.cleared_at moved refl rest new.place new.query (asked c.page.left c.page.all no_scans))

  page-kept : (tick : ℕ) → disordered old.cleared_at tick ≡ None → IsPageFrom old d next new.place new.query → Shows new (balance_after old.query (given tick (A.Device (D.Page entries))) s)
  page-kept tick none h =
      subst (λ q. Shows new (balance_after q (given tick (A.Device (D.Page entries))) s)) (sym c.page.query_is)
      (subst (λ x. Shows new (balance_after (Q.Device d (DQ.Page old.gather.round c.page.prefix)) (given tick (A.Device (D.Page entries))) x)) (sym (is-gathering old.gather old.cleared_at s c.gathers))
      (subst (λ b. Shows new (record { number = Some old.gather.round; round = if b then paged_round else s.round; cleared_at = old.cleared_at; refusals = []; ended = disordered old.cleared_at tick })) (sym (eq-eqb old.gather.round old.gather.round refl))
      (subst (λ o. Shows new (record { number = Some old.gather.round; round = paged_round; cleared_at = old.cleared_at; refusals = []; ended = o })) (sym none)
      (record { texts = texts-stay old new kept old.cleared_at moved s shows; at = paged-at h }))))

module _ (old new : BalanceTask) (d next : ℕ) (s : Balancing) (tick : ℕ) (shows : Shows old s) (at : old.place ≡ Page d next) where
  stood-paging : IsPaging old d next s
  stood-paging = subst (λ p. ShowsAt p old s) at shows.at

  abbrev page_query : Query
  page_query = Q.Device d (DQ.Page old.gather.round stood-paging.page.prefix)

  page-other : (a : Answer) → balance_after page_query (given tick a) (gathering old.gather.round s.round old.cleared_at) ≡ gathering old.gather.round s.round old.cleared_at → balance_after old.query (given tick a) s ≡ s
  page-other a is =
      let stood = is-gathering old.gather old.cleared_at s stood-paging.gathers in
      ap (λ q. balance_after q (given tick a) s) stood-paging.page.query_is ∙ (ap (λ x. balance_after page_query (given tick a) x) stood ∙ (is ∙ sym stood))

  page-ends : (a : Answer) (outcome : Outcome) → new ≡ old → balance_end s.cleared_at tick page_query a ≡ Some outcome → IsAfter old (given tick a) s new (Some outcome)
  page-ends a outcome same e = ends-by old new s tick shows a outcome same (ap (λ q. balance_end s.cleared_at tick q a) stood-paging.page.query_is ∙ e)

  page-taken : (entries : List Entry) (o end : Option Outcome) → disordered old.cleared_at tick ≡ o → TakesPage d next entries o old new end → IsAfter old (given tick (A.Device (D.Page entries))) s new end
  page-taken entries (Some outcome) end is h =
      subst (λ e. IsAfter old (given tick (A.Device (D.Page entries))) s new e) (sym h.0)
      (page-ends (A.Device (D.Page entries)) outcome h.1 (ap (λ n. disordered n tick) stood-paging.gathers.tick ∙ is))
  page-taken entries None end is h =
      subst (λ e. IsAfter old (given tick (A.Device (D.Page entries))) s new e) (sym h.0)
      (page-kept old new d next entries s shows stood-paging h.1.0 tick is h.1.1)

  pub paged : (a : Answer) (end : Option Outcome) → TakesPaged d next tick a old new end → IsAfter old (given tick a) s new end
  paged (A.Device (D.Page entries)) end h = page-taken entries (disordered old.cleared_at tick) end refl h
  paged (A.Device (D.Stale held)) end h = subst (λ e. IsAfter old (given tick (A.Device (D.Stale held))) s new e) (sym h.0) (page-ends (A.Device (D.Stale held)) _ h.1 refl)
  paged (A.Device D.StoreFault) end h = subst (λ e. IsAfter old (given tick (A.Device D.StoreFault)) s new e) (sym h.0) (page-ends (A.Device D.StoreFault) _ h.1 refl)
  paged a end h = subst (λ e. IsAfter old (given tick a) s new e) (sym h.0) (waits old new s tick shows a h.1 (page-other a refl))
