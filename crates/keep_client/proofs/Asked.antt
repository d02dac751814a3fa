-- Servers asked one after another, and what was counted of them.
use Rattle.std.proofs.Common.{◌≡◌, ℕ, ◌+◌, ◌<◌, ◌≤◌, ◌==◌, ◌&&◌, cond, List, [], ◌∷◌, ◌++◌, length, take, drop, Option, None, Some, Bool, true, false, refl, sym, ap, subst, ◌∙◌, arith, length-append, take-append-drop, append-nil, get_or}
use Rattle.std.specs.Prelude.{count_by}
use Rattle.std.specs.List.{filter_map, list_all}
use Rattle.std.proofs.lemmas.List.{take-append-le, take_more}
use Rattle.std.proofs.lemmas.List.Sums.{count_by-le-length, sum_by-append}
use Rattle.keep_spec.specs.Causes.{Rose}
use Rattle.keep_client.specs.declared.said.Said.TheVariants as kind
use Rattle.keep_client.specs.declared.put.PutDone.{PutDone}
use Rattle.keep_client.specs.declared.put.Tally.{Tally}
use Rattle.std.proofs.lemmas.List.Elements.{filter_map-append}
use Rattle.keep_client.specs.declared.link.Exchange.{Exchange}
use Rattle.keep_client.specs.declared.said.Said.{Said}
use Rattle.keep_client.specs.Saying.{Says}
use Rattle.keep_client.specs.Asking.{IsAsked, AreAsked, HaveSaid}
use Rattle.std.proofs.lemmas.Bool.{ne_eqb, eqb-true, eqb-false}
use Rattle.std.specs.Prelude.{⊤, OnOk, Result, Ok, Err, if◌then◌else◌, Vec}
use Rattle.std.specs.declared.alloc.Global.{Global}
use Rattle.keep_spec.specs.declared.memory.NoMemory.{NoMemory}
use Rattle.keep_client.specs.declared.error.ClientError.{ClientError}
use Rattle.keep_client.specs.declared.error.ClientError.TheVariants as error
use Rattle.keep_client.specs.declared.get.Miss.{Miss}
use Rattle.keep_client.specs.declared.get.Miss.TheVariants as miss
use Rattle.keep_client.specs.declared.get.Misses.{Misses}
use Rattle.keep_client.specs.Answers.{StopsAt, Asks, ButForMemory, BlamesLink, IsGot, IsPut, given, acknowledged, declines, is_failed, is_missing, is_wrong, is_refusal}
use Rattle.keep_client.specs.Tallies.{IsHeard, AreMissed, AreTallied, with_miss, none_counted, error_of, with_miss_of, end_of}
use Rattle.keep_client.specs.Steps.{HasSaid}
use Rattle.keep_client.proofs.Told.{grows-none, grows-then}

asked-more : (servers request : List ℕ) (es : List Exchange) (said : List Said) (server : ℕ) (e : Exchange) (s : Said)
    → AreAsked servers request es said → IsAsked server request e → Says e s → AreAsked (servers ++ server ∷ []) request (es ++ e ∷ []) (said ++ s ∷ [])
asked-more [] request [] [] server e s before asked says = (asked, says, tt)
asked-more [] request [] (s' ∷ said) server e s before asked says = absurd before
asked-more [] request (e' ∷ es) said server e s before asked says = absurd before
asked-more (server' ∷ servers) request [] said server e s before asked says = absurd before
asked-more (server' ∷ servers) request (e' ∷ es) [] server e s before asked says = absurd before
asked-more (server' ∷ servers) request (e' ∷ es) (s' ∷ said) server e s before asked says =
    (before.0, before.1, asked-more servers request es said server e s before.2 asked says)

pub have-none : (request : List ℕ) (told : Option (List Exchange)) → HaveSaid [] request told told []
have-none request told = record { exchanges = []; asked = tt; told = grows-none told }

pub have-more : (servers request : List ℕ) (server : ℕ) (a b c : Option (List Exchange)) (said : List Said) (s : Said)
    → HaveSaid servers request a b said → HasSaid server request b c s → HaveSaid (servers ++ server ∷ []) request a c (said ++ s ∷ [])
have-more servers request server a b c said s before now = record {
  exchanges = before.exchanges ++ now.exchange ∷ [];
  asked = asked-more servers request before.exchanges said server now.exchange s before.asked now.asked now.says;
  told = grows-then a b c before.exchanges (now.exchange ∷ []) before.told now.told;
}

pub length-more : (said : List Said) (s : Said) (i : ℕ) → length said ≡ i → length (said ++ s ∷ []) ≡ i + 1
length-more said s i e = omega (arith, length-append said (s ∷ []), e)

-- a prefix gives no more than the whole
pub fewer : {X : Type 0} (f : Said → Option X) (said : List Said) (k : ℕ) → length (filter_map f (take k said)) ≤ length (filter_map f said)
fewer f said k =
    omega (
      arith,
      length-append (filter_map f (take k said)) (filter_map f (drop k said)),
      ap length (filter_map-append f (take k said) (drop k said)),
      ap (λ v. length (filter_map f v)) (take-append-drop k said),
    )

pub stops-none : {X : Type 0} (f : Said → Option X) (n : ℕ) → StopsAt f n []
stops-none f n k h = absurd (omega arith)

pub stops-more : {X : Type 0} (f : Said → Option X) (n : ℕ) (said : List Said) (s : Said) → length (filter_map f said) < n → StopsAt f n (said ++ s ∷ [])
stops-more f n said s few k h =
    let within : k ≤ length said = omega (arith, length-append said (s ∷ []), h) in
    let same : take k (said ++ s ∷ []) ≡ take k said = take-append-le k said (s ∷ []) within in
    rw same (omega (arith, fewer f said k, few))

-- ---- counts

pub count_yes : (p : Said → Bool) (xs : List Said) (x : Said) → p x ≡ true → count_by p (xs ++ x ∷ []) ≡ count_by p xs + 1
count_yes p xs x is =
    let alone : count_by p (x ∷ []) ≡ 1 = rw is refl in sum_by-append (λ y. cond (p y) 1 0) xs (x ∷ []) ∙ ap (λ v. count_by p xs + v) alone

pub count_no : (p : Said → Bool) (xs : List Said) (x : Said) → p x ≡ false → count_by p (xs ++ x ∷ []) ≡ count_by p xs
count_no p xs x is_not =
    let alone : count_by p (x ∷ []) ≡ 0 = rw is_not refl in
    sum_by-append (λ y. cond (p y) 1 0) xs (x ∷ []) ∙ ap (λ v. count_by p xs + v) alone ∙ omega arith

pub gives_no : {X : Type 0} (f : Said → Option X) (xs : List Said) (x : Said) → f x ≡ None → filter_map f (xs ++ x ∷ []) ≡ filter_map f xs
gives_no f xs x is_not =
    let alone : filter_map f (x ∷ []) ≡ [] = rw is_not refl in
    filter_map-append f xs (x ∷ []) ∙ ap (λ v. filter_map f xs ++ v) alone ∙ append-nil (filter_map f xs)

pub gives_yes : {X : Type 0} (f : Said → Option X) (xs : List Said) (x : Said) (y : X) → f x ≡ Some y → filter_map f (xs ++ x ∷ []) ≡ filter_map f xs ++ y ∷ []
gives_yes f xs x y is =
    let alone : filter_map f (x ∷ []) ≡ y ∷ [] = rw is refl in
    filter_map-append f xs (x ∷ []) ∙ ap (λ v. filter_map f xs ++ v) alone

all_more : (p : Said → Bool) (xs : List Said) (x : Said) → list_all p (xs ++ x ∷ []) ≡ (list_all p xs && p x)
all_more p [] x = grind arith
all_more p (y ∷ ys) x = let more = all_more p ys x in grind (arith, more)

-- ---- a get

zero_no : (n : ℕ) → (n + 1 == 0) ≡ false
zero_no n = ne_eqb (n + 1) 0 (λ h. omega arith)

no_one_missed : (block : List ℕ) → AreMissed block [] (record { wrong = 0; failed = 0; refused = 0 })
no_one_missed block = record { none = refl; missing = refl; wrong = refl; failed = refl; refused = refl }

pub missed-start : (block : List ℕ) → AreMissed block [] (record { wrong = 0; failed = 0; refused = 0 })
missed-start block = no_one_missed block

pub missed-more : (block : List ℕ) (said : List Said) (m : Misses) (s : Said) (why : Miss) → AreMissed block said m → IsHeard block s (Err why) → AreMissed block (said ++ s ∷ []) (with_miss m why)
missed-more block said m s miss.Missing a h = record {
  none = gives_no (given block) said s h.none ∙ a.none;
  missing = all_more is_missing said s ∙ grind (arith, h.lacks, a.missing);
  wrong = a.wrong ∙ sym (count_no (is_wrong block) said s h.errs);
  failed = a.failed ∙ sym (count_no is_failed said s h.fails);
  refused = a.refused ∙ sym (count_no is_refusal said s h.refuses);
}
missed-more block said m s miss.Wrong a h = record {
  none = gives_no (given block) said s h.none ∙ a.none;
  missing = all_more is_missing said s ∙ grind (arith, h.lacks, a.missing, zero_no m.wrong);
  wrong = ap (λ v. v + 1) a.wrong ∙ sym (count_yes (is_wrong block) said s h.errs);
  failed = a.failed ∙ sym (count_no is_failed said s h.fails);
  refused = a.refused ∙ sym (count_no is_refusal said s h.refuses);
}
missed-more block said m s miss.Failed a h = record {
  none = gives_no (given block) said s h.none ∙ a.none;
  missing = all_more is_missing said s ∙ grind (arith, h.lacks, a.missing, zero_no m.failed);
  wrong = a.wrong ∙ sym (count_no (is_wrong block) said s h.errs);
  failed = ap (λ v. v + 1) a.failed ∙ sym (count_yes is_failed said s h.fails);
  refused = a.refused ∙ sym (count_no is_refusal said s h.refuses);
}
missed-more block said m s miss.Refused a h = record {
  none = gives_no (given block) said s h.none ∙ a.none;
  missing = all_more is_missing said s ∙ grind (arith, h.lacks, a.missing, zero_no m.refused);
  wrong = a.wrong ∙ sym (count_no (is_wrong block) said s h.errs);
  failed = a.failed ∙ sym (count_no is_failed said s h.fails);
  refused = ap (λ v. v + 1) a.refused ∙ sym (count_yes is_refusal said s h.refuses);
}

got_by : (block : List ℕ) (n : ℕ) (said : List Said) (m : Misses) → AreMissed block said m → length said ≡ n → (b : Bool) → none_counted m ≡ b
    → IsGot block n said (Err (if b then error.NotFound else error.Unread m.wrong m.failed m.refused))
got_by block n said m a all true e = (all, a.missing ∙ e)
got_by block n said m a all false e = (all, a.none, a.missing ∙ e, a.wrong, a.failed, a.refused)

-- what it comes to where nobody gave the block
pub got-none : (block : List ℕ) (n : ℕ) (said : List Said) (m : Misses) → AreMissed block said m → length said ≡ n → IsGot block n said (Err (error_of m))
got-none block n said m a all = got_by block n said m a all (none_counted m) refl

pub got-one : (block : List ℕ) (n : ℕ) (said : List Said) (m : Misses) (s : Said) (bytes : List ℕ) → AreMissed block said m → given block s ≡ Some bytes → IsGot block n (said ++ s ∷ []) (Ok bytes)
got-one block n said m s bytes a e =
    let none : length (filter_map (given block) said) < 1 = rw a.none (omega arith) in
    (gives_yes (given block) said s bytes e ∙ ap (λ v. v ++ bytes ∷ []) a.none, stops-more (given block) 1 said s none)

-- ---- a put

pub tallied-start : (block : List ℕ) (locators : Vec (List ℕ) Global) → locators.items ≡ [] → AreTallied block [] (record { locators = locators; failed = 0; refused = 0 })
tallied-start block locators e = record { acked = e; failed = refl; refused = refl }

is_none_failed : (block : List ℕ) (s : Said) (text : List ℕ) → acknowledged block s ≡ Some text → is_failed s ≡ false
is_none_failed block kind.Failed text h = absurd (cc h)
is_none_failed block kind.Broken text h = refl
is_none_failed block (kind.Answered r) text h = refl

no_decline : (block : List ℕ) (s : Said) (text : List ℕ) → acknowledged block s ≡ Some text → declines block s ≡ false
no_decline block s text h = rw (h, is_none_failed block s text h) refl

pub tallied-ack : (block : List ℕ) (said : List Said) (t now : Tally) (s : Said) (text : List ℕ) → AreTallied block said t → acknowledged block s ≡ Some text
    → now.locators.items ≡ t.locators.items ++ text ∷ [] → now.failed ≡ t.failed → now.refused ≡ t.refused → AreTallied block (said ++ s ∷ []) now
tallied-ack block said t now s text a h l f r = record {
  acked = l ∙ ap (λ v. v ++ text ∷ []) a.acked ∙ sym (gives_yes (acknowledged block) said s text h);
  failed = f ∙ a.failed ∙ sym (count_no is_failed said s (is_none_failed block s text h));
  refused = r ∙ a.refused ∙ sym (count_no (declines block) said s (no_decline block s text h));
}

pub tallied-miss : (block : List ℕ) (said : List Said) (t : Tally) (s : Said) → AreTallied block said t → acknowledged block s ≡ None → AreTallied block (said ++ s ∷ []) (with_miss_of t s)
tallied-miss block said t kind.Failed a h = record {
  acked = a.acked ∙ sym (gives_no (acknowledged block) said kind.Failed h);
  failed = ap (λ v. v + 1) a.failed ∙ sym (count_yes is_failed said kind.Failed refl);
  refused = a.refused ∙ sym (count_no (declines block) said kind.Failed refl);
}
tallied-miss block said t kind.Broken a h = record {
  acked = a.acked ∙ sym (gives_no (acknowledged block) said kind.Broken h);
  failed = a.failed ∙ sym (count_no is_failed said kind.Broken refl);
  refused = ap (λ v. v + 1) a.refused ∙ sym (count_yes (declines block) said kind.Broken refl);
}
tallied-miss block said t (kind.Answered r) a h = record {
  acked = a.acked ∙ sym (gives_no (acknowledged block) said (kind.Answered r) h);
  failed = a.failed ∙ sym (count_no is_failed said (kind.Answered r) refl);
  refused = ap (λ v. v + 1) a.refused ∙ sym (count_yes (declines block) said (kind.Answered r) (rw h refl));
}

-- ---- loops

-- the first servers of an order were asked, and none of them gave the block
pub record IsAsking (order request : List ℕ) (i : ℕ) (block : List ℕ) (a b : Option (List Exchange)) (m : Misses) : Type 0 where
  pub said : List Said
  pub count : length said ≡ i
  pub heard : HaveSaid (take i order) request a b said
  pub missed : AreMissed block said m

pub asking-start : (order request block : List ℕ) (told : Option (List Exchange)) → IsAsking order request 0 block told told (record { wrong = 0; failed = 0; refused = 0 })
asking-start order request block told = record { said = []; count = refl; heard = have-none request told; missed = missed-start block }

more_heard : (order request : List ℕ) (i : ℕ) (a b c : Option (List Exchange)) (said : List Said) (s : Said) → i < length order
    → HaveSaid (take i order) request a b said → HasSaid (get_or order i 0) request b c s → HaveSaid (take (i + 1) order) request a c (said ++ s ∷ [])
more_heard order request i a b c said s within before now =
    subst (λ v. HaveSaid v request a c (said ++ s ∷ [])) (sym (take_more order i 0 within)) (have-more (take i order) request (get_or order i 0) a b c said s before now)

pub asking-more : (order request : List ℕ) (i : ℕ) (block : List ℕ) (a b c : Option (List Exchange)) (m : Misses) (s : Said) (why : Miss) → i < length order
    → IsAsking order request i block a b m → HasSaid (get_or order i 0) request b c s → IsHeard block s (Err why) → IsAsking order request (i + 1) block a c (with_miss m why)
asking-more order request i block a b c m s why within before now h = record {
  said = before.said ++ s ∷ [];
  count = length-more before.said s i before.count;
  heard = more_heard order request i a b c before.said s within before.heard now;
  missed = missed-more block before.said m s why before.missed h;
}

pub asking-got : (order request : List ℕ) (i : ℕ) (block : List ℕ) (a b c : Option (List Exchange)) (m : Misses) (s : Said) (bytes : List ℕ) → i < length order
    → IsAsking order request i block a b m → HasSaid (get_or order i 0) request b c s → given block s ≡ Some bytes
    → Asks order request a c (λ said. IsGot block (length order) said (Ok bytes))
asking-got order request i block a b c m s bytes within before now h = record {
  said = before.said ++ s ∷ [];
  heard = subst (λ v. HaveSaid (take v order) request a c (before.said ++ s ∷ [])) (sym (length-more before.said s i before.count))
      (more_heard order request i a b c before.said s within before.heard now);
  comes_to = got-one block (length order) before.said m s bytes before.missed h;
}

but : (m : Misses) (P : Type 0) (b : Bool) → P → ButForMemory {X = List ℕ} (Err (if b then error.NotFound else error.Unread m.wrong m.failed m.refused)) P
but m P true p = p
but m P false p = p

pub asking-none : (order request block : List ℕ) (a b : Option (List Exchange)) (m : Misses) → IsAsking order request (length order) block a b m
    → ButForMemory {X = List ℕ} (Err (error_of m)) (Asks order request a b (λ said. IsGot block (length order) said (Err (error_of m))))
asking-none order request block a b m x = but m _ (none_counted m) (record {
  said = x.said;
  heard = subst (λ v. HaveSaid (take v order) request a b x.said) (sym x.count) x.heard;
  comes_to = got-none block (length order) x.said m x.missed x.count;
})

-- room for one more
pub few_missed : (order request : List ℕ) (i : ℕ) (block : List ℕ) (a b : Option (List Exchange)) (m : Misses) → IsAsking order request i block a b m → (m.wrong ≤ i) × (m.failed ≤ i) × (m.refused ≤ i)
few_missed order request i block a b m x = (
  omega (arith, count_by-le-length (is_wrong block) x.said, x.missed.wrong, x.count),
  omega (arith, count_by-le-length is_failed x.said, x.missed.failed, x.count),
  omega (arith, count_by-le-length is_refusal x.said, x.missed.refused, x.count),
)

-- ---- whose fault

has_failed : (s : Said) → is_failed s ≡ true → s ≡ kind.Failed
has_failed kind.Failed h = refl
has_failed kind.Broken h = absurd (let wrong : false ≡ true = h in cc)
has_failed (kind.Answered r) h = absurd (let wrong : false ≡ true = h in cc)

later : (f g h : ℕ) → Rose f g → g ≤ h → Rose f h
later f g h r le = omega arith

earlier : (f g h : ℕ) → f ≤ g → Rose g h → Rose f h
earlier f g h le r = omega arith

pub blames-more : (block : List ℕ) (m : Misses) (s : Said) (why : Miss) (f g h : ℕ) → (0 < m.failed → Rose f g) → f ≤ g → g ≤ h → (s ≡ kind.Failed → Rose g h)
    → IsHeard block s (Err why) → 0 < (with_miss m why).failed → Rose f h
blames-more block m s miss.Missing f g h before le le2 now heard some = later f g h (before some) le2
blames-more block m s miss.Wrong f g h before le le2 now heard some = later f g h (before some) le2
blames-more block m s miss.Failed f g h before le le2 now heard some = earlier f g h le (now (has_failed s heard.fails))
blames-more block m s miss.Refused f g h before le le2 now heard some = later f g h (before some) le2

blamed : (m : Misses) (b : Bool) → BlamesLink (if b then error.NotFound else error.Unread m.wrong m.failed m.refused) → 0 < m.failed
blamed m true h = absurd h
blamed m false h = h

pub blames : (m : Misses) → BlamesLink (error_of m) → 0 < m.failed
blames m h = blamed m (none_counted m) h

-- ---- a put

-- the first servers of an order were asked, and too few of them have acknowledged the block, or just enough
pub record IsStoring (order request : List ℕ) (i : ℕ) (block : List ℕ) (copies : ℕ) (a b : Option (List Exchange)) (t : Tally) : Type 0 where
  pub said : List Said
  pub count : length said ≡ i
  pub heard : HaveSaid (take i order) request a b said
  pub tallied : AreTallied block said t
  pub stops : StopsAt (acknowledged block) copies said
  pub within : length t.locators.items ≤ copies

pub storing-start : (order request block : List ℕ) (copies : ℕ) (told : Option (List Exchange)) (t : Tally) → AreTallied block [] t → IsStoring order request 0 block copies told told t
storing-start order request block copies told t tallied = record {
  said = [];
  count = refl;
  heard = have-none request told;
  tallied = tallied;
  stops = stops-none (acknowledged block) copies;
  within = rw tallied.acked (omega arith);
}

at_most_one : (block : List ℕ) (o : Option (List ℕ)) (s : Said) → acknowledged block s ≡ o → length (filter_map (acknowledged block) (s ∷ [])) ≤ 1
at_most_one block None s h = rw h (omega arith)
at_most_one block (Some text) s h = rw h (omega arith)

one_more : (block : List ℕ) (said : List Said) (s : Said) (t now : Tally) → AreTallied block said t → AreTallied block (said ++ s ∷ []) now
    → length now.locators.items ≤ length t.locators.items + 1
one_more block said s t now a b =
    omega (
      arith,
      ap length a.acked,
      ap length b.acked,
      ap length (filter_map-append (acknowledged block) said (s ∷ [])),
      length-append (filter_map (acknowledged block) said) (filter_map (acknowledged block) (s ∷ [])),
      at_most_one block (acknowledged block s) s refl,
    )

pub storing-more : (order request : List ℕ) (i : ℕ) (block : List ℕ) (copies : ℕ) (a b c : Option (List Exchange)) (t now : Tally) (s : Said) → i < length order
    → (length t.locators.items ≡ copies → ⊥) → IsStoring order request i block copies a b t → HasSaid (get_or order i 0) request b c s
    → ((before : List Said) → AreTallied block before t → AreTallied block (before ++ s ∷ []) now) → IsStoring order request (i + 1) block copies a c now
storing-more order request i block copies a b c t now s within open_still x asked taken =
    let tallied = taken x.said x.tallied in
    let few : length t.locators.items < copies = omega (arith, x.within, open_still) in
    record {
      said = x.said ++ s ∷ [];
      count = length-more x.said s i x.count;
      heard = more_heard order request i a b c x.said s within x.heard asked;
      tallied = tallied;
      stops = stops-more (acknowledged block) copies x.said s (omega (arith, ap length x.tallied.acked, few));
      within = omega (arith, one_more block x.said s t now x.tallied tallied, few);
    }

whole_heard : (order request : List ℕ) (i : ℕ) (block : List ℕ) (copies : ℕ) (a b : Option (List Exchange)) (t : Tally) (x : IsStoring order request i block copies a b t)
    → HaveSaid (take (length x.said) order) request a b x.said
whole_heard order request i block copies a b t x = subst (λ v. HaveSaid (take v order) request a b x.said) (sym x.count) x.heard

pub storing-done : (order request : List ℕ) (i : ℕ) (block : List ℕ) (copies : ℕ) (a b : Option (List Exchange)) (t : Tally) (done : PutDone) → length t.locators.items ≡ copies
    → done.locators ≡ t.locators.items → IsStoring order request i block copies a b t → Asks order request a b (λ said. IsPut block copies (length order) said (Ok done))
storing-done order request i block copies a b t done enough same x = record {
  said = x.said;
  heard = whole_heard order request i block copies a b t x;
  comes_to = (same ∙ x.tallied.acked, ap length same ∙ enough, x.stops);
}

end_by : (order request block : List ℕ) (copies : ℕ) (a b : Option (List Exchange)) (t : Tally) → IsStoring order request (length order) block copies a b t → (q : Bool)
    → (length t.locators.items == copies) ≡ q
    → ButForMemory {X = PutDone} (if q then Ok (record { locators = t.locators.items }) else Err (error.TooFew (length t.locators.items) t.failed t.refused))
    (Asks order request a b (λ said. IsPut block copies (length order) said (if q then Ok (record { locators = t.locators.items }) else Err (error.TooFew (length t.locators.items) t.failed t.refused))))
end_by order request block copies a b t x true e = storing-done order request (length order) block copies a b t (record { locators = t.locators.items }) (eqb-true (length t.locators.items) copies e) refl x
end_by order request block copies a b t x false e =
    let few : length t.locators.items < copies = omega (arith, x.within, eqb-false (length t.locators.items) copies e) in
    record {
      said = x.said;
      heard = whole_heard order request (length order) block copies a b t x;
      comes_to = (x.count, few, ap length x.tallied.acked, x.tallied.failed, x.tallied.refused);
    }

pub storing-end : (order request block : List ℕ) (copies : ℕ) (a b : Option (List Exchange)) (t : Tally) → IsStoring order request (length order) block copies a b t
    → ButForMemory {X = PutDone} (end_of t copies) (Asks order request a b (λ said. IsPut block copies (length order) said (end_of t copies)))
storing-end order request block copies a b t x = end_by order request block copies a b t x (length t.locators.items == copies) refl

pub few_tallied : (order request : List ℕ) (i : ℕ) (block : List ℕ) (copies : ℕ) (a b : Option (List Exchange)) (t : Tally) → IsStoring order request i block copies a b t → (t.failed ≤ i) × (t.refused ≤ i)
few_tallied order request i block copies a b t x = (
  omega (arith, count_by-le-length is_failed x.said, x.tallied.failed, x.count),
  omega (arith, count_by-le-length (declines block) x.said, x.tallied.refused, x.count),
)

pub put_blames : (order request : List ℕ) (i : ℕ) (block : List ℕ) (copies : ℕ) (a b : Option (List Exchange)) (t now : Tally) (s : Said) (f g h : ℕ)
    → IsStoring order request i block copies a b t → ((before : List Said) → AreTallied block before t → AreTallied block (before ++ s ∷ []) now)
    → (0 < t.failed → Rose f g) → f ≤ g → g ≤ h → (s ≡ kind.Failed → Rose g h) → 0 < now.failed → Rose f h
put_blames order request i block copies a b t now kind.Failed f g h x taken before le le2 rose some = earlier f g h le (rose refl)
put_blames order request i block copies a b t now kind.Broken f g h x taken before le le2 rose some =
    later f g h (before (omega (arith, x.tallied.failed, (taken x.said x.tallied).failed, count_no is_failed x.said kind.Broken refl, some))) le2
put_blames order request i block copies a b t now (kind.Answered r) f g h x taken before le le2 rose some =
    later f g h (before (omega (arith, x.tallied.failed, (taken x.said x.tallied).failed, count_no is_failed x.said (kind.Answered r) refl, some))) le2

-- ---- an index

pub but_all : (X : Type 0) (result : Result X ClientError) (P : Type 0) → P → ButForMemory result P
but_all X (Ok x) P p = p
but_all X (Err error.NoMemory) P p = tt
but_all X (Err e) P p = p

pub one-said : (server : ℕ) (request : List ℕ) (a b : Option (List Exchange)) (s : Said) → HasSaid server request a b s → HaveSaid (server ∷ []) request a b (s ∷ [])
one-said server request a b s h = have-more [] request server a a b [] s (have-none request a) h

pub keep_tallied : (block : List ℕ) (t now : Tally) (s : Said) (text : List ℕ) (result : Result ⊤ NoMemory) → acknowledged block s ≡ Some text
    → OnOk result ((now.locators.items ≡ t.locators.items ++ text ∷ []) × (now.failed ≡ t.failed) × (now.refused ≡ t.refused))
    → OnOk result ((before : List Said) → AreTallied block before t → AreTallied block (before ++ s ∷ []) now)
keep_tallied block t now s text (Ok x) h kept = λ before a. tallied-ack block before t now s text a h kept.0 kept.1 kept.2
keep_tallied block t now s text (Err e) h kept = tt
