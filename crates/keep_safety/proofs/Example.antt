-- A past that may happen, in which a block that nothing names is put, listed by a round and trashed: `allowed`. So the theorem doesn't speak of nothing.
use Rattle.std.proofs.Common.{◌≡◌, ◌<◌, ℕ, zero, suc, List, [], ◌∷◌, true, false, refl, sym, ap, None, Some, arith, inl, inr, codes, count_by}
use Rattle.std.specs.Prelude.{◌==◌}
use Rattle.md5.proofs.StandardFacts.{digest_of_abc}
use Rattle.keep_spec.specs.Config.{Configuration}
use Rattle.keep_event.specs.Device as machine
use Rattle.keep_event.specs.Device.{State, replica}
use Rattle.keep_event.specs.Table as tables
use Rattle.keep_event.specs.declared.lists.Lists.{Lists}
use Rattle.keep_event.specs.declared.lists.TrashItem.{TrashItem}
use Rattle.keep_event.specs.declared.device.DeviceQuery.TheVariants as DQ
use Rattle.keep_event.specs.declared.device.DeviceAnswer.TheVariants as D
use Rattle.keep_event.specs.declared.table.TableQuery.TheVariants as TQ
use Rattle.keep_event.specs.declared.table.TableAnswer.TheVariants as T
use Rattle.keep_event.specs.declared.event.Event.{Event}
use Rattle.keep_event.specs.declared.event.Query.{Query}
use Rattle.keep_event.specs.declared.event.Query.TheVariants as Q
use Rattle.keep_event.specs.declared.event.Answer.{Answer}
use Rattle.keep_event.specs.declared.event.Answer.TheVariants as A
use Rattle.keep_safety.specs.Allowed.{IsAllowed, MayFollow}
use Rattle.keep_safety.specs.Holds.{holds, held_after}
use Rattle.keep_spec.specs.Members.{IsIn}
use Rattle.keep_event.specs.World.{device_rules}
use Rattle.keep_safety.specs.Past.{Past, device_after}
use Rattle.keep_safety.specs.Rounds.{round_in, IsGathered, is_page_of}

-- one device, signatures of a second, clocks that agree
abbrev pub c : Configuration
c = record {
  cluster = codes "zzzzz";
  ttl = 1;
  skew = 0;
  secret = codes "s";
  system_token = codes "t";
  tokens = codes "alice" ∷ [];
  devices = record { capacity = 1000; read_only = false } ∷ [];
  servers = [];
  mounts = [];
  versions = 1;
  trash_life = 1;
  index_digits = 0;
  scan_limit = 1000;
}

-- the MD5 of `abc`
abbrev pub h : List ℕ
h = 144 ∷ 1 ∷ 80 ∷ 152 ∷ 60 ∷ 210 ∷ 79 ∷ 176 ∷ 214 ∷ 150 ∷ 63 ∷ 125 ∷ 40 ∷ 225 ∷ 127 ∷ 114 ∷ []

abbrev item : TrashItem
item = record { digest = h; size = 3; mtime = 1000 }

abbrev lists : Lists
lists = record { trash = item ∷ []; pull = [] }

abbrev event : ℕ → ℕ → Query → Answer → Event
event tick reading q a = record { tick = tick; reading = reading; actor = 0; query = q; answer = a }

abbrev put : Event
put = event 0 1000 (Q.Device 0 (DQ.Write (codes "abc") None)) (A.Device (D.Written 1000))

abbrev begin : Event
begin = event 1 2000000000 (Q.Table TQ.BeginRound) (A.Table (T.Round 1 2000000000))

abbrev clear : Event
clear = event 2 2000000000 (Q.Device 0 (DQ.Clear 1)) (A.Device D.Cleared)

abbrev page : Event
page = event 3 2000000000 (Q.Device 0 (DQ.Page 1 [])) (A.Device (D.Page (record { digest = h; size = 3; mtime = 1000 } ∷ [])))

abbrev scan : Event
scan = event 4 2000000000 (Q.Table (TQ.Scan 1 0 1000)) (A.Table (T.Rows [] true))

abbrev accept : Event
accept = event 5 2000000000 (Q.Device 0 (DQ.Accept 1 lists)) (A.Device (D.Accepted 1 0))

abbrev trash : Event
trash = event 6 3000000000 (Q.Device 0 DQ.TrashNext) (A.Device (D.Trashed h 4000000000 1))

abbrev past_1 : Past
past_1 = put ∷ []

abbrev past_6 : Past
past_6 = accept ∷ scan ∷ page ∷ clear ∷ begin ∷ past_1

-- ---- the device
abbrev holding : ℕ → List TrashItem → State
holding round items = record { held = (replica h, record { mtime = 1000; bytes = codes "abc" }) ∷ []; round = round; trash = items; pull = [] }

put_state : (machine.write (device_rules c 0) (codes "abc") 1000 machine.initial).state ≡ holding 0 []
unfolding machine.write
put_state = ap (λ v. record { held = (replica v, record { mtime = 1000; bytes = codes "abc" }) ∷ []; round = 0; trash = []; pull = [] }) digest_of_abc

after_put : device_after c 0 past_1 ≡ holding 0 []
after_put = put_state

after_clear : device_after c 0 (clear ∷ begin ∷ past_1) ≡ holding 1 []
unfolding machine.clear
after_clear = ap (λ s. (machine.clear 1 s).state) after_put

after_page : device_after c 0 (scan ∷ page ∷ clear ∷ begin ∷ past_1) ≡ holding 1 []
unfolding machine.page
after_page = ap (λ s. (machine.page [] 1 s).state) after_clear

after_accept : device_after c 0 past_6 ≡ holding 1 (item ∷ [])
unfolding machine.accept
after_accept = ap (λ s. (machine.accept 1 lists s).state) after_page

-- ---- each event may come
may_put : MayFollow c [] put
unfolding machine.write
may_put = record { tick = tt; answered = (omega arith, inl refl); planned = tt; in_order = tt }

may_begin : MayFollow c past_1 begin
unfolding tables.begin_round
may_begin = record { tick = (omega arith, tt); answered = refl; planned = tt; in_order = (tt, tt) }

may_clear : MayFollow c (begin ∷ past_1) clear
unfolding machine.clear
may_clear = record {
  tick = (omega arith, (omega arith, tt));
  answered = (omega arith, inl (sym (ap (λ s. (machine.clear 1 s).answer) after_put)));
  planned = tt;
  in_order = ((λ e. omega arith), (tt, tt));
}

may_page : MayFollow c (clear ∷ begin ∷ past_1) page
unfolding machine.page
may_page = record {
  tick = (omega arith, (omega arith, (omega arith, tt)));
  answered = (omega arith, inl (sym (ap (λ s. (machine.page [] 1 s).answer) after_clear)));
  planned = tt;
  in_order = ((λ e. omega arith), ((λ e. omega arith), (tt, tt)));
}

may_scan : MayFollow c (page ∷ clear ∷ begin ∷ past_1) scan
unfolding tables.scan tables.begin_round
may_scan = record {
  tick = (omega arith, (omega arith, (omega arith, (omega arith, tt))));
  answered = refl;
  planned = tt;
  in_order = ((λ e. omega arith), ((λ e. omega arith), ((λ e. omega arith), (tt, tt))));
}

cleared_once : (d : ℕ) → d < 1 → count_by (λ x. x == d) (0 ∷ []) ≡ 1
cleared_once zero lt = refl
cleared_once (suc d) lt = absurd (omega arith)

paged_once : (d : ℕ) (prefix : List ℕ) → d < 1 → IsIn prefix ([] ∷ []) → count_by (is_page_of d prefix) (record { device = 0; prefix = []; entries = record { digest = h; size = 3; mtime = 1000 } ∷ [] } ∷ []) ≡ 1
paged_once zero [] lt i = refl
paged_once zero (x ∷ xs) lt (inl e) = cc e
paged_once zero (x ∷ xs) lt (inr i) = absurd i
paged_once (suc d) prefix lt i = absurd (omega arith)

abbrev whole : IsGathered c (round_in 1 (scan ∷ page ∷ clear ∷ begin ∷ past_1))
whole = record {
  start = 2000000000;
  began = refl;
  cleared = cleared_once;
  paged = λ d lt prefix i. paged_once d prefix lt i;
  asked = (inl refl, tt);
  scanned = (refl, refl, tt);
}

may_accept : MayFollow c (scan ∷ page ∷ clear ∷ begin ∷ past_1) accept
unfolding machine.accept
may_accept = record {
  tick = (omega arith, (omega arith, (omega arith, (omega arith, (omega arith, tt)))));
  answered = (omega arith, inl (sym (ap (λ s. (machine.accept 1 lists s).answer) after_page)));
  planned = record { whole = whole; are = refl };
  in_order = ((λ e. omega arith), ((λ e. omega arith), ((λ e. omega arith), ((λ e. omega arith), (tt, tt)))));
}

may_trash : MayFollow c past_6 trash
unfolding machine.trash_next machine.trash_item
may_trash = record {
  tick = (omega arith, (omega arith, (omega arith, (omega arith, (omega arith, (omega arith, tt))))));
  answered = (omega arith, inl (sym (ap (λ s. (machine.trash_next (device_rules c 0) 3000000000 s).answer) after_accept)));
  planned = tt;
  in_order = ((tt, (tt, (tt, (tt, (tt, (tt, tt)))))));
}

pub allowed : IsAllowed c (trash ∷ past_6)
allowed = (may_trash, (may_accept, (may_scan, (may_page, (may_clear, (may_begin, (may_put, tt)))))))

-- it is held until it is trashed
held_before : holds 0 h past_6 ≡ true
held_before = ap (λ v. held_after h (Some v) (D.Written 1000) false) digest_of_abc

not_after : holds 0 h (trash ∷ past_6) ≡ false
not_after = refl
