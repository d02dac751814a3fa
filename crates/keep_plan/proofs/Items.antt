-- What the plan says of a trash item, of the holders that are kept, and of a pull item.
use Rattle.std.proofs.Common.{◌≡◌, ℕ, zero, suc, List, [], ◌∷◌, length, filter, take, Bool, true, false, not, ◌&&◌, refl, sym, ◌∙◌, ap, subst, Option, None, Some, is_some, arith, inl, inr, nat_eq, if◌then◌else◌}
use Rattle.std.specs.Prelude.{nat_lt, ◌||◌}
use Rattle.std.specs.Option.{option_or}
use Rattle.std.specs.Str.{bytes_eq}
use Rattle.std.specs.Cmp.Lexicographic.{bytes_decides}
use Rattle.std.proofs.lemmas.Bool.{and_parts, ltb-true, eqb-true, eq-eqb}
use Rattle.keep_spec.specs.Config.{Configuration}
use Rattle.keep_spec.specs.Members.{IsIn, AreDistinct, numbers_from}
use Rattle.keep_spec.specs.Order.{device_order, device_weight}
use Rattle.keep_event.specs.declared.lists.Entry.{Entry}
use Rattle.keep_event.specs.declared.lists.TrashItem.{TrashItem}
use Rattle.keep_event.specs.declared.lists.PullItem.{PullItem}
use Rattle.keep_event.specs.Plan.{Page, Gathered, entry_on, entry_of, is_member, is_holder, holders, kept, others, targets, trash_item_with, trash_item, trash_list, size_given, pull_item_with, pull_item, pull_list, holding, digests_gathered}
use Rattle.keep_order.proofs.Lists.{in-given, in-filter, last-in}
use Rattle.keep_order.proofs.Distinct.{in-take, distinct-filter, distinct-take, number-bounds, in-by_weight, by_weight-distinct}
use Rattle.keep_plan.specs.Laws.{Gives, GaveDigest, IsOfOther, AreEnough, FillsGap}

-- ---- what was gathered
bytes-same : (x y : List ℕ) → bytes_eq x y ≡ true → x ≡ y
bytes-same x y e = (bytes_decides x y).0 e

on-page : (h : List ℕ) (e : Entry) (entries : List Entry) → entry_on h entries ≡ Some e → IsIn e entries × (e.digest ≡ h)
on-page h e entries is = let at = in-filter (λ (x : Entry). bytes_eq h x.digest) e entries (last-in e (filter (λ (x : Entry). bytes_eq h x.digest) entries) is) in (at.0, sym (bytes-same h e.digest at.1))

more-pages : (d : ℕ) (h : List ℕ) (e : Entry) (p : Page) (ps : List Page) → Gives d h e ps → Gives d h e (p ∷ ps)
more-pages d h e p ps g = record { page = g.page; member = inr g.member; device = g.device; listed = g.listed; digest = g.digest }

this-or : (d : ℕ) (h : List ℕ) (e : Entry) (p : Page) (ps : List Page) (o : Option Entry) → entry_on h p.entries ≡ o → p.device ≡ d → (entry_of d h ps ≡ Some e → Gives d h e ps) → option_or o (entry_of d h ps) ≡ Some e → Gives d h e (p ∷ ps)
this-or d h e p ps None was at rest is = more-pages d h e p ps (rest is)
this-or d h e p ps (Some x) was at rest is = let on = on-page h e p.entries (was ∙ is) in record { page = p; member = inl refl; device = at; listed = on.0; digest = on.1 }

page-by : (d : ℕ) (h : List ℕ) (e : Entry) (p : Page) (ps : List Page) (b : Bool) → nat_eq p.device d ≡ b → (entry_of d h ps ≡ Some e → Gives d h e ps) →
    (if b then option_or (entry_on h p.entries) (entry_of d h ps) else entry_of d h ps) ≡ Some e → Gives d h e (p ∷ ps)
page-by d h e p ps true is rest = this-or d h e p ps (entry_on h p.entries) refl (eqb-true p.device d is) rest
page-by d h e p ps false is rest = λ was. more-pages d h e p ps (rest was)

pub entry-given : (d : ℕ) (h : List ℕ) (e : Entry) (ps : List Page) → entry_of d h ps ≡ Some e → Gives d h e ps
entry-given d h e [] is = cc is
entry-given d h e (p ∷ ps) is = page-by d h e p ps (nat_eq p.device d) refl (entry-given d h e ps) is

-- ---- members of a list of numbers
member-by : (d x : ℕ) (xs : List ℕ) (b : Bool) → nat_eq x d ≡ b → (is_member d xs ≡ true → IsIn d xs) → (if b then true else is_member d xs) ≡ true → IsIn d (x ∷ xs)
member-by d x xs true e rest is = inl (sym (eqb-true x d e))
member-by d x xs false e rest is = inr (rest is)

or-if : (b c : Bool) → (b || c) ≡ (if b then true else c)
or-if true c = refl
or-if false c = refl

pub member-in : (d : ℕ) (xs : List ℕ) → is_member d xs ≡ true → IsIn d xs
member-in d [] is = cc is
member-in d (x ∷ xs) is = member-by d x xs (nat_eq x d) refl (member-in d xs) (sym (or-if (nat_eq x d) (is_member d xs)) ∙ is)

later-member : (b c : Bool) → c ≡ true → (b || c) ≡ true
later-member true c e = refl
later-member false c e = e

pub in-member : (d : ℕ) (xs : List ℕ) → IsIn d xs → is_member d xs ≡ true
in-member d [] i = absurd i
in-member d (x ∷ xs) (inl e) = or-if (nat_eq x d) (is_member d xs) ∙ ap (λ b. if b then true else is_member d xs) (eq-eqb x d (sym e))
in-member d (x ∷ xs) (inr i) = later-member (nat_eq x d) (is_member d xs) (in-member d xs i)

-- where one isn't among the first n, there are n of these
pub all-taken : (n d : ℕ) (xs : List ℕ) → IsIn d xs → (IsIn d (take n xs) → ⊥) → length (take n xs) ≡ n
all-taken zero d xs i never = refl
all-taken (suc n) d [] i never = absurd i
all-taken (suc n) d (x ∷ xs) (inl e) never = absurd (never (inl e))
all-taken (suc n) d (x ∷ xs) (inr i) never = ap suc (all-taken n d xs i (λ j. never (inr j)))

-- ---- the holders of a digest
pub order-distinct : (c : Configuration) (h : List ℕ) → AreDistinct (device_order c h)
order-distinct c h = by_weight-distinct (device_weight c h) (numbers_from 0 (length c.devices))

there : (o : Option Entry) → is_some o ≡ true → (e : Entry) × (o ≡ Some e)
there None e = cc e
there (Some x) e = (x, refl)

module _ (c : Configuration) (g : Gathered) (h : List ℕ) where
  pub holder-gave : (k : ℕ) → IsIn k (holders (holding c g h)) → GaveDigest c g h k
  holder-gave k i =
      let at = in-filter (is_holder (holding c g h)) k (device_order c h) i in
      let bounds = number-bounds 0 (length c.devices) k (in-by_weight (device_weight c h) k (numbers_from 0 (length c.devices)) at.0) in
      let e = there (entry_of k h g.pages) at.1 in
      record { configured = omega (arith, bounds.1); entry = e.0; gives = entry-given k h e.0 g.pages e.1 }

  pub kept-gave : (k : ℕ) → IsIn k (kept (holding c g h)) → GaveDigest c g h k
  kept-gave k i = holder-gave k (in-take (holding c g h).want k (holders (holding c g h)) i)

  pub kept-distinct : AreDistinct (kept (holding c g h))
  kept-distinct = distinct-take (holding c g h).want (holders (holding c g h)) (distinct-filter (is_holder (holding c g h)) (device_order c h) (order-distinct c h))

not-true : (b : Bool) → not b ≡ true → b ≡ true → ⊥
not-true true e f = cc e
not-true false e f = cc f

-- ---- a trash item
module _ (c : Configuration) (g : Gathered) (threshold : ℕ) (h : List ℕ) (d : ℕ) (x : TrashItem) where
  item-parts : (e : Entry) (b : Bool) → (if b then Some (record { digest = h; size = e.size; mtime = e.mtime }) else None) ≡ Some x → (b ≡ true) × (x ≡ record { digest = h; size = e.size; mtime = e.mtime })
  item-parts e true is = (refl, cc is)
  item-parts e false is = cc is

  item-by : (o : Option Entry) → entry_of d h g.pages ≡ o → trash_item_with (holding c g h) threshold d o ≡ Some x → IsOfOther c g threshold d x
  item-by None was is = cc is
  item-by (Some e) was is =
      let p = item-parts e (is_member d (others (holding c g h)) && (holding c g h).writable d && nat_lt e.mtime threshold) is in
      let first = and_parts (is_member d (others (holding c g h)) && (holding c g h).writable d) (nat_lt e.mtime threshold) p.0 in
      let second = and_parts (is_member d (others (holding c g h))) ((holding c g h).writable d) first.0 in
      let old = ltb-true e.mtime threshold first.1 in
      let same : x.digest ≡ h = ap (λ (y : TrashItem). y.digest) p.1 in
      let time : x.mtime ≡ e.mtime = ap (λ (y : TrashItem). y.mtime) p.1 in
      let behind = in-filter (λ y. not (is_member y (kept (holding c g h)))) d (holders (holding c g h)) (member-in d (others (holding c g h)) second.0) in
      record {
        entry = e;
        gave = ap (λ v. entry_of d v g.pages) same ∙ was;
        given = subst (λ v. Gives d v e g.pages) (sym same) (entry-given d h e g.pages was);
        time = time;
        holder = subst (λ v. IsIn d (holders (holding c g v))) (sym same) behind.0;
        other = λ i. not-true (is_member d (kept (holding c g h))) behind.1 (in-member d (kept (holding c g h)) (subst (λ v. IsIn d (kept (holding c g v))) same i));
        old = omega arith;
      }

pub item-is : (c : Configuration) (g : Gathered) (threshold d : ℕ) (x : TrashItem) → IsIn x (trash_list c g threshold d) → IsOfOther c g threshold d x
item-is c g threshold d x i =
    let from = in-given (λ h. trash_item (holding c g h) threshold d) x (digests_gathered g) i in
    item-by c g threshold from.from d x (entry_of d from.from g.pages) refl from.gave

pub kept-enough : (c : Configuration) (g : Gathered) (threshold d : ℕ) (x : TrashItem) → IsIn x (trash_list c g threshold d) → AreEnough c g x.digest
kept-enough c g threshold d x i =
    let is = item-is c g threshold d x i in
    let all = all-taken (holding c g x.digest).want d (holders (holding c g x.digest)) is.holder is.other in
    record { enough = omega arith; distinct = kept-distinct c g x.digest; each_gave = kept-gave c g x.digest }

-- ---- a pull item
module _ (c : Configuration) (g : Gathered) (h : List ℕ) (d : ℕ) (x : PullItem) where
  pull-parts : (first : ℕ) (later : List ℕ) (b : Bool) → (if b then Some (record { digest = h; size = size_given (holding c g h) first; sources = first ∷ later }) else None) ≡ Some x →
      (b ≡ true) × (x ≡ record { digest = h; size = size_given (holding c g h) first; sources = first ∷ later })
  pull-parts first later true is = (refl, cc is)
  pull-parts first later false is = cc is

  lacking : (b : Bool) → not b ≡ true → b ≡ false
  lacking true e = cc e
  lacking false e = refl

  pull-by : (hs : List ℕ) → holders (holding c g h) ≡ hs → pull_item_with (holding c g h) d hs ≡ Some x → FillsGap c g d x
  pull-by [] was is = cc is
  pull-by (first ∷ later) was is =
      let p = pull-parts first later (is_member d (targets (holding c g h)) && not (is_holder (holding c g h) d)) is in
      let parts = and_parts (is_member d (targets (holding c g h))) (not (is_holder (holding c g h) d)) p.0 in
      let same : x.digest ≡ h = ap (λ (y : PullItem). y.digest) p.1 in
      let from : x.sources ≡ first ∷ later = ap (λ (y : PullItem). y.sources) p.1 in
      let all : x.sources ≡ holders (holding c g h) = from ∙ sym was in
      record {
        sources = all ∙ ap (λ v. holders (holding c g v)) (sym same);
        each_gave = λ k i. subst (λ v. GaveDigest c g v k) (sym same) (holder-gave c g h k (subst (λ (v : List ℕ). IsIn k v) all i));
        some = λ e. (let f = sym from ∙ e in cc f);
        target = subst (λ v. IsIn d (targets (holding c g v))) (sym same) (member-in d (targets (holding c g h)) parts.0);
        lacks = subst (λ v. is_holder (holding c g v) d ≡ false) (sym same) (lacking (is_holder (holding c g h) d) parts.1);
      }

pub pull-is : (c : Configuration) (g : Gathered) (d : ℕ) (x : PullItem) → IsIn x (pull_list c g d) → FillsGap c g d x
pull-is c g d x i =
    let from = in-given (λ h. pull_item (holding c g h) d) x (digests_gathered g) i in
    pull-by c g from.from d x (holders (holding c g from.from)) refl from.gave
