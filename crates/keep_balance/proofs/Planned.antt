-- A round from its last rows on: rows that were kept, `rows-read`; the plan of what was gathered, `planned-ends`; lists that are handed on, `handed` and `all-handed`; and what a device answers to its lists, `accepted-hands` and `refused-hands`. `few-devices` is of a configuration.
use Rattle.std.proofs.Common.{◌≡◌, ◌≤◌, ◌+◌, ℕ, zero, suc, Bool, true, false, if◌then◌else◌, List, [], ◌∷◌, length, map, nat_le, drop, reverse, count_by, sum_by, Option, None, Some, refl, sym, ◌∙◌, ap, subst, arith}
use Rattle.std.specs.List.{list_all}
use Rattle.std.proofs.lemmas.Bool.{and_parts, eq-eqb, leb-true}
use Rattle.std.proofs.lemmas.List.Sums.{sum_by-cons}
use Rattle.keep_spec.specs.Config.{Configuration, IsGood, is_device, is_within}
use Rattle.keep_spec.specs.Members.{numbers_from}
use Rattle.keep_event.specs.Plan.{Gathered, planned_lists, lost, reached, has_ended, last_revision}
use Rattle.keep_event.specs.Plan as plan
use Rattle.keep_event.specs.declared.device.DeviceQuery.TheVariants as DQ
use Rattle.keep_event.specs.declared.device.DeviceAnswer.{DeviceAnswer}
use Rattle.keep_event.specs.declared.device.DeviceAnswer.TheVariants as D
use Rattle.keep_event.specs.declared.table.TableQuery.TheVariants as TQ
use Rattle.keep_event.specs.declared.table.TableAnswer.TheVariants as T
use Rattle.keep_event.specs.declared.table.ScanRow.{ScanRow}
use Rattle.keep_event.specs.declared.event.Query.TheVariants as Q
use Rattle.keep_event.specs.declared.event.Answer.TheVariants as A
use Rattle.keep_event.specs.declared.lists.Lists.{Lists}
use Rattle.keep_history.specs.Next.{ends, ends_or}
use Rattle.keep_history.specs.Rounds.{Round, with_scan}
use Rattle.keep_history.specs.Balance.{Balancing, balance_next, balance_after, balanced, to_clear, to_page, to_accept, round_next, clear_next, page_next, scan_next, accept_next, round_after, refusals_after, disordered}
use Rattle.keep_history.specs.declared.task.Outcome.{Outcome}
use Rattle.keep_history.specs.declared.task.Outcome.TheVariants as O
use Rattle.keep_balance.specs.Standing.{given, lists_for, Gathers, HandsOn, HasPlan, IsAccepting, IsAfter, IsAt, IsGathered, IsHanding, IsPlanned, IsRead, IsScanning, Shows, ShowsAt, with_rows}
use Rattle.keep_balance.specs.declared.task.BalanceTask.{BalanceTask}
use Rattle.keep_balance.specs.declared.task.Place.TheVariants.{Accept, Scan}

-- ---- lists

drop-next : {X : Type 0} (n : ℕ) (xs : List X) (y : X) (ys : List X) → drop n xs ≡ y ∷ ys → drop (suc n) xs ≡ ys
drop-next zero [] y ys e = cc e
drop-next zero (x ∷ xs) y ys e = cc e
drop-next (suc n) [] y ys e = cc e
drop-next (suc n) (x ∷ xs) y ys e = drop-next n xs y ys e

-- the first of the lists of some devices in a row, and those after it
record FirstOf (f : ℕ → Lists) (k left : ℕ) (first : Lists) (rest : List Lists) : Type 0 where
  after : ℕ
  more : left ≡ suc after
  first_is : first ≡ f k
  rest_is : rest ≡ map f (numbers_from (k + 1) after)

first-of : (f : ℕ → Lists) (k left : ℕ) (first : Lists) (rest : List Lists) → map f (numbers_from k left) ≡ first ∷ rest → FirstOf f k left first rest
first-of f k zero first rest e = absurd (cc e)
first-of f k (suc after) first rest e = record { after = after; more = refl; first_is = cc e; rest_is = cc e }

none-of : (f : ℕ → Lists) (k left : ℕ) → map f (numbers_from k left) ≡ [] → numbers_from k left ≡ []
none-of f k zero e = refl
none-of f k (suc left) e = absurd (cc e)

-- ---- lists that are handed on

-- where no device is to take lists any more, the round is balanced
nothing-missing : (c : Configuration) (s : Balancing) (number : ℕ) → s.number ≡ Some number → s.ended ≡ None → to_clear c s.round ≡ [] → to_page c s.round ≡ [] → has_ended s.round.scans ≡ true → to_accept c s.refusals ≡ []
    → balance_next c s ≡ ends (balanced c number s.round s.refusals)
nothing-missing c s number numbered still cleared paged scanned accepted =
    ap (λ o. ends_or o (round_next c s.number s.round s.refusals)) still
    ∙ ap (λ n. round_next c n s.round s.refusals) numbered
    ∙ ap (clear_next c number s.round s.refusals) cleared
    ∙ ap (page_next c number s.round s.refusals) paged
    ∙ ap (scan_next c number s.round s.refusals) scanned
    ∙ ap (accept_next c number s.round s.refusals) accepted

module _ (k : ℕ) (t : BalanceTask) (s : Balancing) (h : IsHanding t k s) where
  balanced-there : to_accept t.config s.refusals ≡ [] → balance_next t.config s ≡ ends (O.Balanced t.gather.round t.trash t.pull t.lost t.stale)
  balanced-there none =
      let trash = h.trash in
      let pull = h.pull in
      let lost_ = h.lost in
      let stale = h.stale in
      let e : balanced t.config t.gather.round s.round s.refusals ≡ O.Balanced t.gather.round t.trash t.pull t.lost t.stale = rw (trash, pull, lost_, stale) refl in
      nothing-missing t.config s t.gather.round h.number h.still h.cleared h.paged h.scanned none ∙ ap ends e

  -- no device is left
  pub all-handed : length t.config.devices ≤ k → balance_next t.config s ≡ ends (O.Balanced t.gather.round t.trash t.pull t.lost t.stale)
  all-handed few =
      let none : h.left ≡ 0 = omega (arith, h.all) in
      balanced-there (h.missing ∙ ap (numbers_from k) none)

  -- the device takes the first of the lists
  one-handed : (new : BalanceTask) (first : Lists) → reverse t.left.items ≡ first ∷ reverse new.left.items
      → Shows (record t { place = Accept k; query = Q.Device k (DQ.Accept t.gather.round first); left = new.left }) s
  one-handed new first is =
      let f : FirstOf (lists_for t.config t.gather.round s.round) k h.left first (reverse new.left.items) = first-of _ _ _ _ _ (sym h.lists ∙ is) in
      record {
        texts = h.texts;
        at = record {
          number = h.number;
          still = h.still;
          cleared = h.cleared;
          paged = h.paged;
          scanned = h.scanned;
          left = f.after;
          all = omega (arith, h.all, f.more);
          missing = h.missing ∙ ap (numbers_from k) f.more;
          lists = f.rest_is;
          query = ap (λ lists. Q.Device k (DQ.Accept t.gather.round lists)) f.first_is;
          trash = h.trash;
          pull = h.pull;
          lost = h.lost;
          stale = h.stale;
          few = h.few;
        };
      }

  pub handed : (new : BalanceTask) (end : Option Outcome) → HandsOn k t new end → IsAt t s new end
  handed new (Some outcome) o =
      let none : to_accept t.config s.refusals ≡ [] = h.missing ∙ none-of (lists_for t.config t.gather.round s.round) k h.left (sym h.lists ∙ ap reverse o.0) in
      (balanced-there none ∙ ap ends (sym o.2), o.1)
  handed new None o = subst (λ v. Shows v s) (sym o.new_is) (one-handed new o.first o.lists)

-- ---- the plan

module _ (old : BalanceTask) (s : Balancing) (h : IsGathered old s) where
  planned-hands : (new : BalanceTask) → HasPlan old new → IsHanding new 0 s
  planned-hands new p =
      let gathered = h.gathers in
      let c = old.config in
      subst (λ v. IsHanding v 0 s) (sym p.new_is) (record {
        texts = h.texts;
        number = gathered.number;
        still = gathered.still;
        cleared = h.cleared;
        paged = h.paged;
        scanned = h.scanned;
        left = length c.devices;
        all = omega arith;
        missing = ap (to_accept c) gathered.none_refused;
        lists = p.lists ∙ ap (planned_lists c) gathered.gather;
        trash = ap (λ g. sum_by (λ lists. length lists.trash) (planned_lists c g)) gathered.gather;
        pull = ap (λ g. sum_by (λ lists. length lists.pull) (planned_lists c g)) gathered.gather;
        lost = ap (λ g. length (lost c g)) gathered.gather;
        stale = sym (ap (count_by (λ refused. refused)) gathered.none_refused);
        few = omega arith;
      })

  pub planned-ends : (new : BalanceTask) (end : Option Outcome) → IsPlanned old new end → IsAt old s new end
  planned-ends new end p =
      subst (λ v. IsAt v s new end) p.planned.new_is (handed 0 p.with_plan s (planned-hands p.with_plan p.planned) new end p.handed)

-- ---- rows

-- where rows take a round
abbrev with_rows_of : List ScanRow → Bool → Option Outcome → Balancing → Balancing
with_rows_of rows last end s = record { number = s.number; round = with_scan (record { after = reached s.round.scans; rows = rows; last = last }) s.round; cleared_at = s.cleared_at; refusals = s.refusals; ended = end }

rows-after : (s : Balancing) (number limit tick : ℕ) (rows : List ScanRow) (last : Bool) → s.number ≡ Some number
    → balance_after (Q.Table (TQ.Scan number (reached s.round.scans) limit)) (given tick (A.Table (T.Rows rows last))) s ≡ with_rows_of rows last (disordered s.cleared_at tick) s
rows-after s number limit tick rows last numbered =
    let q = Q.Table (TQ.Scan number (reached s.round.scans) limit) in
    let given_ : Round = with_scan (record { after = reached s.round.scans; rows = rows; last = last }) s.round in
    let round : round_after s.number q (A.Table (T.Rows rows last)) s.round ≡ given_ =
    ap (λ n. round_after n q (A.Table (T.Rows rows last)) s.round) numbered ∙ ap (λ b. if b then given_ else s.round) (eq-eqb number number refl) in
    ap (λ g. record { number = s.number; round = g; cleared_at = s.cleared_at; refusals = s.refusals; ended = disordered s.cleared_at tick }) round

module _ (old : BalanceTask) (s : Balancing) (rows : List ScanRow) (last : Bool) (tick : ℕ) (h : IsScanning old s) where
  rows-take : balance_after old.query (given tick (A.Table (T.Rows rows last))) s ≡ with_rows_of rows last (disordered old.cleared_at tick) s
  rows-take =
      ap (λ q. balance_after q (given tick (A.Table (T.Rows rows last))) s) h.query
      ∙ rows-after s old.gather.round old.config.scan_limit tick rows last h.gathers.number
      ∙ ap (λ n. with_rows_of rows last (disordered n tick) s) h.gathers.tick

  rows-gather : Gathers (with_rows rows last old).gather old.cleared_at (with_rows_of rows last None s)
  rows-gather = record {
    number = h.gathers.number;
    gather = ap (λ g. plan.with_scan (record { after = reached g.scans; rows = rows; last = last }) g) h.gathers.gather;
    tick = h.gathers.tick;
    none_refused = h.gathers.none_refused;
    still = refl;
  }

pub scanning : (t : BalanceTask) (s : Balancing) → Shows t s → t.place ≡ Scan → IsScanning t s
scanning t s h placed = subst (λ p. ShowsAt p t s) placed h.at

-- rows in order are kept
pub rows-read : (old new : BalanceTask) (s : Balancing) (rows : List ScanRow) (last : Bool) (tick : ℕ) (end : Option Outcome) → Shows old s → old.place ≡ Scan → disordered old.cleared_at tick ≡ None
    → IsRead last rows old new end → IsAfter old (given tick (A.Table (T.Rows rows last))) s new end
rows-read old new s rows last tick end shows placed ordered read =
    let h = scanning old s shows placed in
    subst (λ v. IsAt old v new end) (sym (rows-take old s rows last tick h ∙ ap (λ o. with_rows_of rows last o s) ordered)) (by last read h)
  where
    by : (last : Bool) → IsRead last rows old new end → IsScanning old s → IsAt old (with_rows_of rows last None s) new end
    by true read h =
        planned-ends (with_rows rows true old) (with_rows_of rows true None s)
        (record { texts = shows.texts; gathers = rows-gather old s rows true tick h; cleared = h.cleared; paged = h.paged; scanned = refl }) new end read
    by false read h =
        let query : Q.Table (TQ.Scan old.gather.round (last_revision (reached old.gather.scans) rows) old.config.scan_limit) ≡ Q.Table (TQ.Scan old.gather.round (last_revision (reached s.round.scans) rows) old.config.scan_limit) =
        ap (λ g. Q.Table (TQ.Scan old.gather.round (last_revision (reached g.scans) rows) old.config.scan_limit)) h.gathers.gather in
        let to : BalanceTask = record (with_rows rows false old) { query = Q.Table (TQ.Scan old.gather.round (last_revision (reached old.gather.scans) rows) old.config.scan_limit) } in
        let at : IsScanning to (with_rows_of rows false None s) =
        record { gathers = rows-gather old s rows false tick h; cleared = h.cleared; paged = h.paged; more = refl; query = query } in
        subst (λ o. IsAt old (with_rows_of rows false None s) new o) (sym read.0)
        (subst (λ t. Shows t (with_rows_of rows false None s)) (sym read.1)
        (record { texts = shows.texts; at = subst (λ p. ShowsAt p to (with_rows_of rows false None s)) (sym placed) at }))

-- ---- what a device answers to its lists

-- where an answer to lists takes a round
abbrev with_refusal : Bool → Balancing → Balancing
with_refusal refused s = record { number = s.number; round = s.round; cleared_at = s.cleared_at; refusals = refused ∷ s.refusals; ended = None }

given-none : (n : Option ℕ) (d number : ℕ) (lists : Lists) (answer : DeviceAnswer) (g : Round) → round_after n (Q.Device d (DQ.Accept number lists)) (A.Device answer) g ≡ g
given-none None d number lists answer g = refl
given-none (Some n) d number lists answer g = refl

pub accepting : (t : BalanceTask) (d : ℕ) (s : Balancing) → Shows t s → t.place ≡ Accept d → IsAccepting t d s
accepting t d s h placed = subst (λ p. ShowsAt p t s) placed h.at

module _ (t : BalanceTask) (d : ℕ) (s : Balancing) (shows : Shows t s) (placed : t.place ≡ Accept d) where
  -- the answer is counted
  answered-hands : (refused : Bool) (stale : ℕ) → stale ≡ count_by (λ refused. refused) (refused ∷ s.refusals) → stale ≤ d + 1 → IsHanding (record t { stale = stale }) (d + 1) (with_refusal refused s)
  answered-hands refused stale counted few =
      let h = accepting t d s shows placed in
      record {
        texts = shows.texts;
        number = h.number;
        still = refl;
        cleared = h.cleared;
        paged = h.paged;
        scanned = h.scanned;
        left = h.left;
        all = h.all;
        missing = drop-next (length s.refusals) (numbers_from 0 (length t.config.devices)) d (numbers_from (d + 1) h.left) h.missing;
        lists = h.lists;
        trash = h.trash;
        pull = h.pull;
        lost = h.lost;
        stale = counted;
        few = few;
      }

  answered-after : (answer : DeviceAnswer) (tick : ℕ) (after : List Bool) → ((lists : Lists) → refusals_after (Q.Device d (DQ.Accept t.gather.round lists)) (A.Device answer) s.refusals ≡ after)
      → balance_after t.query (given tick (A.Device answer)) s ≡ record { number = s.number; round = s.round; cleared_at = s.cleared_at; refusals = after; ended = None }
  answered-after answer tick after refused =
      let h = accepting t d s shows placed in
      let lists : Lists = lists_for t.config t.gather.round s.round d in
      let q = Q.Device d (DQ.Accept t.gather.round lists) in
      ap (λ q. balance_after q (given tick (A.Device answer)) s) h.query
      ∙ ap (λ g. record { number = s.number; round = g; cleared_at = s.cleared_at; refusals = refusals_after q (A.Device answer) s.refusals; ended = None }) (given-none s.number d t.gather.round lists answer s.round)
      ∙ ap (λ rs. record { number = s.number; round = s.round; cleared_at = s.cleared_at; refusals = rs; ended = None }) (refused lists)

  -- a device took its lists: what goes on from there
  pub accepted-hands : (trash pull tick : ℕ) (new : BalanceTask) (end : Option Outcome) → ((s : Balancing) → IsHanding t (d + 1) s → IsAt t s new end) → IsAfter t (given tick (A.Device (D.Accepted trash pull))) s new end
  accepted-hands trash pull tick new end goes =
      let h = accepting t d s shows placed in
      subst (λ v. IsAt t v new end) (sym (answered-after (D.Accepted trash pull) tick (false ∷ s.refusals) (λ lists. refl)))
      (goes (with_refusal false s) (answered-hands false t.stale h.stale (omega (arith, h.few))))

  -- a device refused its lists
  pub refused-hands : (held tick : ℕ) (new : BalanceTask) (end : Option Outcome) → ((s : Balancing) → IsHanding (record t { stale = t.stale + 1 }) (d + 1) s → IsAt (record t { stale = t.stale + 1 }) s new end) → IsAfter t (given tick (A.Device (D.Stale held))) s new end
  refused-hands held tick new end goes =
      let h = accepting t d s shows placed in
      let count : count_by (λ refused. refused) (true ∷ s.refusals) ≡ 1 + count_by (λ refused. refused) s.refusals = sum_by-cons _ true s.refusals in
      subst (λ v. IsAt t v new end) (sym (answered-after (D.Stale held) tick (true ∷ s.refusals) (λ lists. refl)))
      (goes (with_refusal true s) (answered-hands true (t.stale + 1) (omega (arith, h.stale, count)) (omega (arith, h.few))))

pub none-here : (o : Option Outcome) → ((outcome : Outcome) → o ≡ Some outcome → ⊥) → o ≡ None
none-here None never = refl
none-here (Some outcome) never = absurd (never outcome refl)

-- a configuration has few devices
pub few-devices : (c : Configuration) → IsGood c → length c.devices ≤ 64
few-devices c good =
    let devices = and_parts (is_within 1 64 (length c.devices)) (list_all is_device c.devices) good.devices in
    leb-true (length c.devices) 64 (and_parts (nat_le 1 (length c.devices)) (nat_le (length c.devices) 64) devices.0).1
