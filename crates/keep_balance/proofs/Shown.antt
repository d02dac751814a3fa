-- A balance task whose fields show where it stands: what it asks there, `shown-asks` and `round-asks`; that a port has the device of it, `shown-may-ask`; that it stands there whether or not it has ended, `with-ended`; where an answer takes it, `round-taken` and `round-may-ask`; how it begins, `round-opens` and `round-ready`.
use Rattle.std.proofs.Common.{◌≡◌, ◌<◌, ◌≤◌, ℕ, nat_le, Bool, false, List, [], ◌∷◌, ◌++◌, length, is_some, Option, None, Some, Ok, refl, sym, ◌∙◌, ap, subst, arith}
use Rattle.std.proofs.lemmas.Bool.{and_parts, leb-true}
use Rattle.keep_spec.specs.Config.{Configuration, IsGood}
use Rattle.keep_event.specs.Port.{MayAsk}
use Rattle.keep_event.specs.declared.table.TableQuery.TheVariants as TQ
use Rattle.keep_event.specs.declared.event.Query.TheVariants as Q
use Rattle.keep_history.specs.Next.{Answered, GoesFrom, Next, asks, ends_or}
use Rattle.keep_history.specs.Rounds.{prefixes}
use Rattle.keep_history.specs.Balance.{Balancing, new_balance, balance_next, balance_after, to_clear, to_page, round_next, clear_next, page_next, scan_next, accept_next}
use Rattle.keep_history.specs.Tasks.{next, opened}
use Rattle.keep_history.specs.declared.task.Opening.TheVariants as Open
use Rattle.keep_history.specs.declared.task.Outcome.{Outcome}
use Rattle.keep_history.specs.declared.task.Task.TheVariants as T
use Rattle.keep_history.proofs.Going.{goes-after, goes-asks}
use Rattle.keep_steps.specs.Steps.{IsReady, IsTaken}
use Rattle.keep_balance.specs.Gathering.{BalanceMayAsk}
use Rattle.keep_balance.specs.Standing.{IsAfter, Shows, ShowsAt, Stands}
use Rattle.keep_balance.specs.declared.task.BalanceTask.{BalanceTask}
use Rattle.keep_balance.specs.declared.task.Place.{Place}
use Rattle.keep_balance.specs.declared.task.Place.TheVariants.{Begin, Clear, Page, Scan, Accept}

-- ---- what it asks

module _ (c : Configuration) (s : Balancing) (number : ℕ) (numbered : s.number ≡ Some number) (still : s.ended ≡ None) where
  clears-there : balance_next c s ≡ clear_next c number s.round s.refusals (to_clear c s.round)
  clears-there = ap (λ o. ends_or o (round_next c s.number s.round s.refusals)) still ∙ ap (λ n. round_next c n s.round s.refusals) numbered

  pages-there : to_clear c s.round ≡ [] → balance_next c s ≡ page_next c number s.round s.refusals (to_page c s.round)
  pages-there cleared = clears-there ∙ ap (clear_next c number s.round s.refusals) cleared

module _ (t : BalanceTask) (s : Balancing) where
  asks-at : (p : Place) → ShowsAt p t s → balance_next t.config s ≡ asks t.query
  asks-at Begin h = ap (balance_next t.config) h.0 ∙ ap asks (sym h.1)
  asks-at (Clear d) h =
      clears-there t.config s t.gather.round h.gathers.number h.gathers.still
      ∙ ap (clear_next t.config t.gather.round s.round s.refusals) h.missing ∙ ap asks (sym h.query)
  asks-at (Page d n) h =
      pages-there t.config s t.gather.round h.gathers.number h.gathers.still h.cleared
      ∙ ap (page_next t.config t.gather.round s.round s.refusals) h.page.missing_is ∙ ap asks (sym h.page.query_is)
  asks-at Scan h =
      pages-there t.config s t.gather.round h.gathers.number h.gathers.still h.cleared
      ∙ ap (page_next t.config t.gather.round s.round s.refusals) h.paged
      ∙ ap (scan_next t.config t.gather.round s.round s.refusals) h.more ∙ ap asks (sym h.query)
  asks-at (Accept d) h =
      pages-there t.config s t.gather.round h.number h.still h.cleared
      ∙ ap (page_next t.config t.gather.round s.round s.refusals) h.paged
      ∙ ap (scan_next t.config t.gather.round s.round s.refusals) h.scanned
      ∙ ap (accept_next t.config t.gather.round s.round s.refusals) h.missing ∙ ap asks (sym h.query)

  pub shown-asks : Shows t s → balance_next t.config s ≡ asks t.query
  shown-asks h = asks-at t.place h.at

  module _ (n : ℕ) (devices : length t.config.devices ≡ n) (limit : 0 < t.config.scan_limit) where
    may-ask-at : (p : Place) → ShowsAt p t s → MayAsk n t.query
    may-ask-at Begin h = rw h.1 tt
    may-ask-at (Clear d) h = subst (MayAsk n) (sym h.query) (omega (arith, h.all, devices))
    may-ask-at (Page d k) h = subst (MayAsk n) (sym h.page.query_is) (omega (arith, h.page.all, devices))
    may-ask-at Scan h = subst (MayAsk n) (sym h.query) limit
    may-ask-at (Accept d) h = subst (MayAsk n) (sym h.query) (omega (arith, h.all, devices))

    pub shown-may-ask : Shows t s → MayAsk n t.query
    shown-may-ask h = may-ask-at t.place h.at

-- ---- whether it has ended

module _ (t : BalanceTask) (ended : Bool) (s : Balancing) where
  ended-at : (p : Place) → ShowsAt p t s → ShowsAt p (record t { ended = ended }) s
  ended-at Begin h = h
  ended-at (Clear d) h =
      record { gathers = h.gathers; left = h.left; all = h.all; missing = h.missing; no_pages = h.no_pages; no_scans = h.no_scans; query = h.query }
  ended-at (Page d n) h = record { gathers = h.gathers; cleared = h.cleared; page = h.page; no_scans = h.no_scans }
  ended-at Scan h = record { gathers = h.gathers; cleared = h.cleared; paged = h.paged; more = h.more; query = h.query }
  ended-at (Accept d) h = record {
    number = h.number;
    still = h.still;
    cleared = h.cleared;
    paged = h.paged;
    scanned = h.scanned;
    left = h.left;
    all = h.all;
    missing = h.missing;
    lists = h.lists;
    query = h.query;
    trash = h.trash;
    pull = h.pull;
    lost = h.lost;
    stale = h.stale;
    few = h.few;
  }

  pub with-ended : Shows t s → Shows (record t { ended = ended }) s
  with-ended h = record { texts = h.texts; at = ended-at t.place h.at }

-- ---- where an answer takes it

pub round-asks : (t : BalanceTask) (by : List Answered → Next) (answers : List Answered) → Stands t by answers → by answers ≡ asks t.query
round-asks t by answers h = goes-asks (balance_next t.config) balance_after h.state by answers h.goes ∙ shown-asks t h.state h.shows

module _ (old mid : BalanceTask) (a : Answered) (config : mid.config ≡ old.config) where
  pub round-taken : (end : Option Outcome) → ((s : Balancing) → Shows old s → IsAfter old a s mid end)
      → (by : List Answered → Next) (answers : List Answered) → Stands old by answers → IsTaken by (answers ++ a ∷ []) end (Stands (record mid { ended = is_some end }) by)
  round-taken (Some outcome) after by answers h =
      goes-asks (balance_next old.config) balance_after (balance_after old.query a h.state) by (answers ++ a ∷ [])
      (goes-after (balance_next old.config) balance_after h.state by answers h.goes old.query a (shown-asks old h.state h.shows))
      ∙ (after h.state h.shows).0
  round-taken None after by answers h = record {
    state = balance_after old.query a h.state;
    shows = with-ended mid false (balance_after old.query a h.state) (after h.state h.shows);
    goes = subst (λ c. GoesFrom (balance_next c) balance_after (balance_after old.query a h.state) by (answers ++ a ∷ [])) (sym config)
        (goes-after (balance_next old.config) balance_after h.state by answers h.goes old.query a (shown-asks old h.state h.shows));
  }

  pub round-may-ask : (end : Option Outcome) → ((s : Balancing) → Shows old s → IsAfter old a s mid end) → old.ended ≡ false
      → (n : ℕ) → BalanceMayAsk old n → BalanceMayAsk (record mid { ended = is_some end }) n
  round-may-ask (Some outcome) after open_ n h =
      let stood = h.stands open_ in
      record {
        devices = ap (λ c. length c.devices) config ∙ h.devices;
        query = subst (MayAsk n) (sym (after stood.0 stood.1).1) h.query;
        limit = subst (λ c. 0 < c.scan_limit) (sym config) h.limit;
        stands = λ e. absurd (cc e);
      }
  round-may-ask None after open_ n h =
      let stood = h.stands open_ in
      let s : Balancing = balance_after old.query a stood.0 in
      let shows : Shows mid s = after stood.0 stood.1 in
      let devices : length mid.config.devices ≡ n = ap (λ (c : Configuration). length c.devices) config ∙ h.devices in
      let limit : 0 < mid.config.scan_limit = subst (λ (c : Configuration). 0 < c.scan_limit) (sym config) h.limit in
      record {
        devices = devices;
        query = shown-may-ask mid s n devices limit shows;
        limit = limit;
        stands = λ e. (s, with-ended mid false s shows);
      }

-- ---- how it begins

pub round-opens : (c : Configuration) (reading : ℕ) → opened c Open.Balance reading ≡ Ok T.Balance
unfolding opened
round-opens c reading = refl

first-shown : (t : BalanceTask) → t.prefixes.items ≡ prefixes t.config.index_digits → t.place ≡ Begin → t.query ≡ Q.Table TQ.BeginRound → Shows t new_balance
first-shown t texts placed asked = record { texts = texts; at = subst (λ p. ShowsAt p t new_balance) (sym placed) (refl, asked) }

round-begins : (t : BalanceTask) → t.prefixes.items ≡ prefixes t.config.index_digits → t.place ≡ Begin → t.query ≡ Q.Table TQ.BeginRound → Stands t (next t.config T.Balance) []
unfolding next
round-begins t texts placed asked = record { state = new_balance; shows = first-shown t texts placed asked; goes = λ more. refl }

first-may-ask : (t : BalanceTask) → IsGood t.config → t.prefixes.items ≡ prefixes t.config.index_digits → t.place ≡ Begin → t.query ≡ Q.Table TQ.BeginRound → BalanceMayAsk t (length t.config.devices)
first-may-ask t good texts placed asked =
    let limit : 1 ≤ t.config.scan_limit =
    leb-true 1 t.config.scan_limit (and_parts (nat_le 1 t.config.scan_limit) (nat_le t.config.scan_limit 100000) good.scan_limit).0 in
    record {
      devices = refl;
      query = subst (MayAsk (length t.config.devices)) (sym asked) tt;
      limit = omega (arith, limit);
      stands = λ e. (new_balance, first-shown t texts placed asked);
    }

pub round-ready : (c : Configuration) (t : BalanceTask) → t.config ≡ c → IsGood c → t.prefixes.items ≡ prefixes c.index_digits → t.place ≡ Begin → t.query ≡ Q.Table TQ.BeginRound → t.ended ≡ false
    → IsReady t.ended (Stands t) (BalanceMayAsk t) c T.Balance
round-ready c t config good texts placed asked open_ =
    let own : t.prefixes.items ≡ prefixes t.config.index_digits = texts ∙ ap (λ (c : Configuration). prefixes c.index_digits) (sym config) in
    let begins : Stands t (next c T.Balance) [] = subst (λ (c : Configuration). Stands t (next c T.Balance) []) config (round-begins t own placed asked) in
    let may_ask : BalanceMayAsk t (length c.devices) = subst (λ (c : Configuration). BalanceMayAsk t (length c.devices)) config (first-may-ask t (subst IsGood (sym config) good) own placed asked) in
    (open_, (begins, may_ask))
