-- What is decided of a digest is what the definition of the plan says.
use Rattle.std.proofs.Common.{◌≡◌, ◌<◌, ◌+◌, ℕ, zero, suc, List, [], ◌∷◌, length, map, filter, take, Bool, true, false, not, ◌&&◌, cond, refl, sym, ap, ◌∙◌, arith, Option, None, Some, is_some, inl, inr, if◌then◌else◌}
use Rattle.std.specs.Prelude.{◌⊎◌, ◌||◌, ◌==◌, nat_lt}
use Rattle.std.specs.Option.{option_map_or}
use Rattle.std.proofs.lemmas.Bool.{lt-ltb}
use Rattle.keep_spec.specs.Config.{Configuration}
use Rattle.keep_spec.specs.Members.{IsIn, numbers_from}
use Rattle.keep_spec.specs.Order.{device_order, device_weight}
use Rattle.keep_event.specs.declared.lists.Entry.{Entry}
use Rattle.keep_event.specs.declared.lists.Lists.{Lists}
use Rattle.keep_event.specs.Plan.{Holding, is_holder, holders, kept, others, targets, trash_item_with, trash_item, size_given, pull_item_with, pull_item, is_lost, is_member, is_writable}
use Rattle.keep_order.proofs.Lists.{in-filter}
use Rattle.keep_order.proofs.Distinct.{number-bounds, in-by_weight}
use Rattle.keep_plan.specs.Mentions.{last_entry, holding_by}
use Rattle.keep_plan.specs.declared.mentions.Mention.{Mention}
use Rattle.keep_plan.specs.declared.decision.Decision.{Decision}
use Rattle.keep_plan.specs.Decided.{sources_of, first_size, Decides, trashed, pulled, entry_or, size_of_first, with_decided}
use Rattle.keep_plan.specs.Drafted.{with_items, with_digest}
use Rattle.keep_plan.proofs.Items.{member-in, in-member}
use Rattle.keep_plan.proofs.Numbers.{at-number}
use Rattle.keep_plan.proofs.Placed.{in-device-order}

filter-same : (p q : ℕ → Bool) (xs : List ℕ) → ((x : ℕ) → IsIn x xs → p x ≡ q x) → filter p xs ≡ filter q xs
filter-same p q [] same = refl
filter-same p q (x ∷ xs) same = ap (λ b. cond b (x ∷ filter p xs) (filter p xs)) (same x (inl refl)) ∙ ap (λ l. cond (q x) (x ∷ l) l) (filter-same p q xs (λ y i. same y (inr i)))

filter-in-by : (p : ℕ → Bool) (d x : ℕ) (xs : List ℕ) (b : Bool) → p x ≡ b → p d ≡ true → (d ≡ x) ⊎ IsIn d xs → (IsIn d xs → IsIn d (filter p xs)) → IsIn d (cond b (x ∷ filter p xs) (filter p xs))
filter-in-by p d x xs true e t (inl same) rest = inl same
filter-in-by p d x xs true e t (inr i) rest = inr (rest i)
filter-in-by p d x xs false e t (inl same) rest = absurd (let f = sym t ∙ ap p same ∙ e in cc f)
filter-in-by p d x xs false e t (inr i) rest = rest i

filter-in : (p : ℕ → Bool) (d : ℕ) (xs : List ℕ) → IsIn d xs → p d ≡ true → IsIn d (filter p xs)
filter-in p d [] i t = absurd i
filter-in p d (x ∷ xs) i t = filter-in-by p d x xs (p x) refl t i (λ j. filter-in p d xs j t)

not-member : (p : ℕ → Bool) (d : ℕ) (xs : List ℕ) (b : Bool) → is_member d (filter p xs) ≡ b → p d ≡ false → b ≡ false
not-member p d xs true e f = let g = sym (in-filter p d xs (member-in d (filter p xs) e)).1 ∙ f in cc g
not-member p d xs false e f = refl

member-by : (p : ℕ → Bool) (d : ℕ) (xs : List ℕ) (b : Bool) → p d ≡ b → IsIn d xs → is_member d (filter p xs) ≡ b
member-by p d xs true e i = in-member d (filter p xs) (filter-in p d xs i e)
member-by p d xs false e i = not-member p d xs (is_member d (filter p xs)) refl e

-- ---- what devices gave
module _ (c : Configuration) (h : List ℕ) (ms : List Mention) (entries : List (Option Entry)) (are : entries ≡ map (λ d. last_entry d ms) (numbers_from 0 (length c.devices))) where
  pub at-number-of : (d : ℕ) → d < length c.devices → entry_or entries d ≡ last_entry d ms
  at-number-of d lt =
      let z : 0 + d ≡ d = omega arith in
      ap (λ (l : List (Option Entry)). entry_or l d) are ∙ at-number (λ k. last_entry k ms) 0 (length c.devices) d None lt ∙ ap (λ k. last_entry k ms) z

  at-device : (d : ℕ) → IsIn d (device_order c h) → entry_or entries d ≡ last_entry d ms
  at-device d i =
      let bounds = number-bounds 0 (length c.devices) d (in-by_weight (device_weight c h) d (numbers_from 0 (length c.devices)) i) in
      let high = bounds.1 in
      at-number-of d (omega arith)

  pub holders-are : filter (λ d. is_some (entry_or entries d)) (device_order c h) ≡ holders (holding_by c h ms)
  holders-are = filter-same (λ d. is_some (entry_or entries d)) (is_holder (holding_by c h ms)) (device_order c h) (λ d i. ap is_some (at-device d i))

  pub targets-are : (n : ℕ) → n ≡ (holding_by c h ms).want → take n (filter (λ d. is_writable c d || is_some (entry_or entries d)) (device_order c h)) ≡ targets (holding_by c h ms)
  targets-are n e =
      ap (λ m. take m (filter (λ d. is_writable c d || is_some (entry_or entries d)) (device_order c h))) e
      ∙ ap (take (holding_by c h ms).want) (filter-same (λ d. is_writable c d || is_some (entry_or entries d)) (λ d. is_writable c d || is_holder (holding_by c h ms) d) (device_order c h) (λ d i. ap (λ o. is_writable c d || is_some o) (at-device d i)))

  size-of : (hs : List ℕ) → ((x : ℕ) → IsIn x hs → IsIn x (device_order c h)) → size_of_first entries hs ≡ first_size (holding_by c h ms) hs
  size-of [] all = refl
  size-of (first ∷ others) all = ap (λ (o : Option Entry). option_map_or (λ e. e.size) o 0) (at-device first (all first (inl refl)))

  pub size-is : size_of_first entries (holders (holding_by c h ms)) ≡ first_size (holding_by c h ms) (holders (holding_by c h ms))
  size-is = size-of (holders (holding_by c h ms)) (λ x i. (in-filter (is_holder (holding_by c h ms)) x (device_order c h) i).0)

pub some-wanted : (n : ℕ) (hs : List ℕ) → (n ≡ 0 → ⊥) → (if nat_lt 0 n then hs else []) ≡ hs
some-wanted n hs ne = ap (λ b. if b then hs else []) (lt-ltb 0 n (omega arith))

-- ---- the items of a device
kept-by : (n : ℕ) (hs : List ℕ) → take n (if nat_lt 0 n then hs else []) ≡ take n hs
kept-by zero hs = refl
kept-by (suc n) hs = ap (λ b. take (suc n) (if b then hs else [])) (lt-ltb 0 (suc n) (omega arith))

trash-same : (h : Holding) (threshold d : ℕ) (o : Option Entry) → h.entry d ≡ o → IsIn d h.order → trashed h.digest (kept h) (h.writable d) threshold d o ≡ trash_item_with h threshold d o
trash-same h threshold d None e i = refl
trash-same h threshold d (Some x) e i =
    let holds : IsIn d (holders h) = filter-in (is_holder h) d h.order i (ap is_some e) in
    ap (λ b. if b && h.writable d && nat_lt x.mtime threshold then Some (record { digest = h.digest; size = x.size; mtime = x.mtime }) else None) (sym (member-by (λ k. not (is_member k (kept h))) d (holders h) (not (is_member d (kept h))) refl holds))

and-true : (b : Bool) → b ≡ (b && true)
and-true true = refl
and-true false = refl

and-false : (b : Bool) → (b && false) ≡ false
and-false true = refl
and-false false = refl

pull-same : (h : Holding) (d : ℕ) (o : Option Entry) (hs : List ℕ) → h.entry d ≡ o → pulled h.digest (targets h) (first_size h hs) hs d o ≡ pull_item_with h d hs
pull-same h d None [] e = refl
pull-same h d (Some x) [] e = refl
pull-same h d None (first ∷ later) e =
    ap (λ b. if b && is_member d (targets h) then Some (record { digest = h.digest; size = size_given h first; sources = first ∷ later }) else None) (lt-ltb 0 (length (first ∷ later)) (omega arith))
    ∙ ap (λ b. if b then Some (record { digest = h.digest; size = size_given h first; sources = first ∷ later }) else None) (and-true (is_member d (targets h)) ∙ ap (λ v. is_member d (targets h) && not (is_some v)) (sym e))
pull-same h d (Some x) (first ∷ later) e =
    sym (ap (λ b. if b then Some (record { digest = h.digest; size = size_given h first; sources = first ∷ later }) else None) (ap (λ v. is_member d (targets h) && not (is_some v)) e ∙ and-false (is_member d (targets h))))

none-wanted : (h : Holding) (d : ℕ) (o : Option Entry) (hs : List ℕ) → h.want ≡ 0 → pulled h.digest (targets h) (first_size h []) [] d o ≡ pull_item_with h d hs
none-wanted h d None [] e = refl
none-wanted h d (Some x) [] e = refl
none-wanted h d None (first ∷ later) e = sym (ap (λ n. if is_member d (take n (filter (λ k. h.writable k || is_holder h k) h.order)) && not (is_holder h d) then Some (record { digest = h.digest; size = size_given h first; sources = first ∷ later }) else None) e)
none-wanted h d (Some x) (first ∷ later) e = sym (ap (λ n. if is_member d (take n (filter (λ k. h.writable k || is_holder h k) h.order)) && not (is_holder h d) then Some (record { digest = h.digest; size = size_given h first; sources = first ∷ later }) else None) e)

pull-by : (h : Holding) (d n : ℕ) (o : Option Entry) → h.want ≡ n → h.entry d ≡ o → pulled h.digest (targets h) (first_size h (if nat_lt 0 n then holders h else [])) (if nat_lt 0 n then holders h else []) d o ≡ pull_item h d
pull-by h d zero o e is = none-wanted h d o (holders h) e
pull-by h d (suc n) o e is =
    ap (λ b. pulled h.digest (targets h) (first_size h (if b then holders h else [])) (if b then holders h else []) d o) (lt-ltb 0 (suc n) (omega arith)) ∙ pull-same h d o (holders h) is

lost-by : (b : Bool) (hs : List ℕ) → (b && (length (if b then hs else []) == 0)) ≡ (b && (length hs == 0))
lost-by true hs = refl
lost-by false hs = refl

pub lost-is : (h : Holding) (x : Decision) → Decides h x → (nat_lt 0 x.want && (length x.sources.items == 0)) ≡ is_lost h
lost-is h x is =
    ap (λ n. nat_lt 0 n && (length x.sources.items == 0)) is.want
    ∙ ap (λ (l : List ℕ). nat_lt 0 h.want && (length l == 0)) is.sources
    ∙ lost-by (nat_lt 0 h.want) (holders h)

module _ (c : Configuration) (h : List ℕ) (ms : List Mention) (entries : List (Option Entry)) (are : entries ≡ map (λ d. last_entry d ms) (numbers_from 0 (length c.devices))) (x : Decision) (is : Decides (holding_by c h ms) x) (threshold d : ℕ) (lt : d < length c.devices) where
  abbrev held : Holding
  held = holding_by c h ms

  trash-is : trashed x.digest (take x.want x.sources.items) (is_writable c d) threshold d (entry_or entries d) ≡ trash_item held threshold d
  trash-is =
      ap (λ (v : List ℕ). trashed v (take x.want x.sources.items) (is_writable c d) threshold d (entry_or entries d)) is.digest
      ∙ ap (λ n. trashed h (take n x.sources.items) (is_writable c d) threshold d (entry_or entries d)) is.want
      ∙ ap (λ (l : List ℕ). trashed h (take held.want l) (is_writable c d) threshold d (entry_or entries d)) is.sources
      ∙ ap (λ (l : List ℕ). trashed h l (is_writable c d) threshold d (entry_or entries d)) (kept-by held.want (holders held))
      ∙ ap (trashed h (kept held) (is_writable c d) threshold d) (at-number-of c h ms entries are d lt)
      ∙ trash-same held threshold d (last_entry d ms) refl (in-device-order c h d lt)

  pull-is-given : pulled x.digest x.targets.items x.size x.sources.items d (entry_or entries d) ≡ pull_item held d
  pull-is-given =
      ap (λ (v : List ℕ). pulled v x.targets.items x.size x.sources.items d (entry_or entries d)) is.digest
      ∙ ap (λ (l : List ℕ). pulled h l x.size x.sources.items d (entry_or entries d)) is.targets
      ∙ ap (λ n. pulled h (targets held) n x.sources.items d (entry_or entries d)) is.size
      ∙ ap (λ (l : List ℕ). pulled h (targets held) (first_size held (sources_of held)) l d (entry_or entries d)) is.sources
      ∙ ap (pulled h (targets held) (first_size held (sources_of held)) (sources_of held) d) (at-number-of c h ms entries are d lt)
      ∙ pull-by held d held.want (last_entry d ms) refl refl

  pub items-are : (l : Lists) → with_decided x c threshold entries d l ≡ with_digest threshold held d l
  items-are l = ap (λ t. with_items t (pulled x.digest x.targets.items x.size x.sources.items d (entry_or entries d)) l) trash-is ∙ ap (λ p. with_items (trash_item held threshold d) p l) pull-is-given
