-- A tree's entries around those of a node: what a call on one side makes of all.
use Rattle.std.proofs.Common.{◌≡◌, ℕ, List, [], ◌∷◌, ◌++◌, map, Option, None, Some, option_map, refl, sym, ◌∙◌, ap, subst, append_assoc, append-nil, Box}
use Rattle.std.specs.List.{AllByRecursion}
use Rattle.std.specs.declared.cmp.Ordering.TheVariants.{Less, Equal, Greater}
use Rattle.keep_event.specs.Store.{Cut, cut, onto, name_cmp, find, put, without, change, above, IsAscending}
use Rattle.keep_event.specs.declared.names.Name.{Name}
use Rattle.keep_event.specs.declared.names.Stored.{Stored}
use Rattle.keep_store.specs.Tree.{entries, order_after}
use Rattle.keep_store.specs.declared.name_tree.NameTree.{NameTree}
use Rattle.keep_store.specs.declared.name_tree.Node.{Node}
use Rattle.keep_store.specs.declared.name_tree.Node.TheVariants.{Fork}
use Rattle.std.specs.declared.alloc.Global.{Global}
use Rattle.keep_store.proofs.Order.{order, past-equal, past-greater, nothing-ascends, all-map, tail-ascends, head-below, cons-ascends, ascending-put, ascending-without}
use Rattle.keep_store.proofs.Cuts.{within, step, cut-below, cut-above}

-- ---- parts of an ascending list
all-front : {X : Type 0} (P : Name → Type 0) (xs ys : List (Name × X)) → AllByRecursion P (map (λ e. e.0) (xs ++ ys)) → AllByRecursion P (map (λ e. e.0) xs)
all-front P [] ys h = tt
all-front P (x ∷ xs) ys h = (h.0, all-front P xs ys h.1)

all-back : {X : Type 0} (P : Name → Type 0) (xs ys : List (Name × X)) → AllByRecursion P (map (λ e. e.0) (xs ++ ys)) → AllByRecursion P (map (λ e. e.0) ys)
all-back P [] ys h = h
all-back P (x ∷ xs) ys h = all-back P xs ys h.1

pub front-ascends : {X : Type 0} (xs ys : List (Name × X)) → IsAscending (xs ++ ys) → IsAscending xs
front-ascends {X = X} [] ys s = nothing-ascends {X = X} [] refl
front-ascends (x ∷ xs) ys s = cons-ascends x xs (all-front (λ m. name_cmp x.0 m ≡ Less) xs ys (head-below x (xs ++ ys) s)) (front-ascends xs ys (tail-ascends x (xs ++ ys) s))

pub back-ascends : {X : Type 0} (xs ys : List (Name × X)) → IsAscending (xs ++ ys) → IsAscending ys
back-ascends [] ys s = s
back-ascends (x ∷ xs) ys s = back-ascends xs ys (tail-ascends x (xs ++ ys) s)

below-all : {X : Type 0} (xs : List (Name × X)) (e : Name × X) (ys : List (Name × X)) → IsAscending (xs ++ e ∷ ys) → AllByRecursion (λ m. name_cmp m e.0 ≡ Less) (map (λ e. e.0) xs)
below-all [] e ys s = tt
below-all {X = X} (x ∷ xs) e ys s =
    let rest : AllByRecursion (λ m. name_cmp x.0 m ≡ Less) (map (λ e. e.0) (e ∷ ys)) = all-back (λ m. name_cmp x.0 m ≡ Less) xs (e ∷ ys) (head-below x (xs ++ e ∷ ys) s) in
    (rest.0, below-all xs e ys (tail-ascends x (xs ++ e ∷ ys) s))

change-ascends : {X : Type 0} (f : X → X) (n : Name) (es : List (Name × X)) (o : Option X) → IsAscending es → IsAscending (change f n es o)
change-ascends f n es None s = s
change-ascends f n es (Some x) s = ascending-put n (f x) es s

-- ---- the entries below a node's own, and those above it
module _ {X : Type 0} (l : List (Name × X)) (e : Name × X) (r : List (Name × X)) (s : IsAscending (l ++ e ∷ r)) where
  above-all : AllByRecursion (λ m. name_cmp e.0 m ≡ Less) (map (λ e. e.0) r)
  above-all = head-below e r (back-ascends l (e ∷ r) s)

  module _ (n : Name) where
    -- a name below the node's own
    module _ (less : name_cmp n e.0 ≡ Less) where
      pub cut-low : cut n (l ++ e ∷ r) ≡ within [] (cut n l) (e ∷ r)
      cut-low = cut-above n l (e ∷ r) (less, all-map (λ m. name_cmp e.0 m ≡ Less) (λ m. name_cmp n m ≡ Less) (map (λ e. e.0) r) (λ m k. order.trans n e.0 m less k) above-all)

      pub at_low : (cut n (l ++ e ∷ r)).at ≡ (cut n l).at
      at_low = ap (λ (c : Cut X). c.at) cut-low

      pub find-low : find n (l ++ e ∷ r) ≡ find n l
      find-low = ap (option_map (λ (e : Name × X). e.1)) at_low

      pub put-low : (x : X) → put n x (l ++ e ∷ r) ≡ put n x l ++ e ∷ r
      put-low x = ap (λ (c : Cut X). c.front ++ (n, x) ∷ c.back) cut-low ∙ sym (append_assoc (cut n l).front ((n, x) ∷ (cut n l).back) (e ∷ r))

      pub put-low-ascends : (x : X) → IsAscending (put n x l ++ e ∷ r)
      put-low-ascends x = subst IsAscending (put-low x) (ascending-put n x (l ++ e ∷ r) s)

      pub without-low : without n (l ++ e ∷ r) ≡ without n l ++ e ∷ r
      without-low = ap (λ (c : Cut X). c.front ++ c.back) cut-low ∙ sym (append_assoc (cut n l).front (cut n l).back (e ∷ r))

      pub without-low-ascends : IsAscending (without n l ++ e ∷ r)
      without-low-ascends = subst IsAscending without-low (ascending-without n (l ++ e ∷ r) s)

      pub change-low : (f : X → X) → change f n (l ++ e ∷ r) (find n (l ++ e ∷ r)) ≡ change f n l (find n l) ++ e ∷ r
      change-low f = ap (change f n (l ++ e ∷ r)) find-low ∙ of_found (find n l)
        where
          of_found : (o : Option X) → change f n (l ++ e ∷ r) o ≡ change f n l o ++ e ∷ r
          of_found None = refl
          of_found (Some x) = put-low (f x)

      pub change-low-ascends : (f : X → X) → IsAscending (change f n l (find n l) ++ e ∷ r)
      change-low-ascends f = subst IsAscending (change-low f) (change-ascends f n (l ++ e ∷ r) (find n (l ++ e ∷ r)) s)

    -- the node's own
    module _ (equal : name_cmp n e.0 ≡ Equal) where
      pub cut-own : cut n (l ++ e ∷ r) ≡ record { front = l; at = Some e; back = r }
      cut-own =
          cut-below n l (e ∷ r) (all-map (λ m. name_cmp m e.0 ≡ Less) (λ m. name_cmp n m ≡ Greater) (map (λ e. e.0) l) (λ m k. past-equal n m e.0 k equal) (below-all l e r s))
          ∙ ap (onto l) (step n e r Equal equal) ∙ ap (λ v. record { front = v; at = Some e; back = r }) (append-nil l)

      pub find-own : find n (l ++ e ∷ r) ≡ Some e.1
      find-own = ap (λ (c : Cut X). option_map (λ (e : Name × X). e.1) c.at) cut-own

      pub put-own : (x : X) → put n x (l ++ e ∷ r) ≡ l ++ (n, x) ∷ r
      put-own x = ap (λ (c : Cut X). c.front ++ (n, x) ∷ c.back) cut-own

      pub put-own-ascends : (x : X) → IsAscending (l ++ (n, x) ∷ r)
      put-own-ascends x = subst IsAscending (put-own x) (ascending-put n x (l ++ e ∷ r) s)

      pub without-own : without n (l ++ e ∷ r) ≡ l ++ r
      without-own = ap (λ (c : Cut X). c.front ++ c.back) cut-own

      pub without-own-ascends : IsAscending (l ++ r)
      without-own-ascends = subst IsAscending without-own (ascending-without n (l ++ e ∷ r) s)

      pub change-own : (f : X → X) → change f n (l ++ e ∷ r) (find n (l ++ e ∷ r)) ≡ l ++ (n, f e.1) ∷ r
      change-own f = ap (change f n (l ++ e ∷ r)) find-own ∙ put-own (f e.1)

      pub change-own-ascends : (f : X → X) → IsAscending (l ++ (n, f e.1) ∷ r)
      change-own-ascends f = subst IsAscending (change-own f) (change-ascends f n (l ++ e ∷ r) (find n (l ++ e ∷ r)) s)

    -- a name above it
    module _ (greater : name_cmp n e.0 ≡ Greater) where
      pub cut-high : cut n (l ++ e ∷ r) ≡ record { front = l ++ e ∷ (cut n r).front; at = (cut n r).at; back = (cut n r).back }
      cut-high =
          cut-below n l (e ∷ r) (all-map (λ m. name_cmp m e.0 ≡ Less) (λ m. name_cmp n m ≡ Greater) (map (λ e. e.0) l) (λ m k. past-greater n m e.0 k greater) (below-all l e r s))
          ∙ ap (onto l) (step n e r Greater greater)

      pub at_high : (cut n (l ++ e ∷ r)).at ≡ (cut n r).at
      at_high = ap (λ (c : Cut X). c.at) cut-high

      pub find-high : find n (l ++ e ∷ r) ≡ find n r
      find-high = ap (option_map (λ (e : Name × X). e.1)) at_high

      pub put-high : (x : X) → put n x (l ++ e ∷ r) ≡ l ++ e ∷ put n x r
      put-high x = ap (λ (c : Cut X). c.front ++ (n, x) ∷ c.back) cut-high ∙ append_assoc l (e ∷ (cut n r).front) ((n, x) ∷ (cut n r).back)

      pub put-high-ascends : (x : X) → IsAscending (l ++ e ∷ put n x r)
      put-high-ascends x = subst IsAscending (put-high x) (ascending-put n x (l ++ e ∷ r) s)

      pub without-high : without n (l ++ e ∷ r) ≡ l ++ e ∷ without n r
      without-high = ap (λ (c : Cut X). c.front ++ c.back) cut-high ∙ append_assoc l (e ∷ (cut n r).front) (cut n r).back

      pub without-high-ascends : IsAscending (l ++ e ∷ without n r)
      without-high-ascends = subst IsAscending without-high (ascending-without n (l ++ e ∷ r) s)

      pub change-high : (f : X → X) → change f n (l ++ e ∷ r) (find n (l ++ e ∷ r)) ≡ l ++ e ∷ change f n r (find n r)
      change-high f = ap (change f n (l ++ e ∷ r)) find-high ∙ of_found (find n r)
        where
          of_found : (o : Option X) → change f n (l ++ e ∷ r) o ≡ l ++ e ∷ change f n r o
          of_found None = refl
          of_found (Some x) = put-high (f x)

      pub change-high-ascends : (f : X → X) → IsAscending (l ++ e ∷ change f n r (find n r))
      change-high-ascends f = subst IsAscending (change-high f) (change-ascends f n (l ++ e ∷ r) (find n (l ++ e ∷ r)) s)

  -- what is above a name, or the place before all
  pub above-low : (after : Option Name) → order_after after e.0 ≡ Less → above after (l ++ e ∷ r) ≡ above after l ++ e ∷ r
  above-low None less = refl
  above-low (Some n) less = ap (λ (c : Cut X). c.back) (cut-low n less)

  pub above-own : (after : Option Name) → order_after after e.0 ≡ Equal → above after (l ++ e ∷ r) ≡ r
  above-own None equal = cc equal
  above-own (Some n) equal = ap (λ (c : Cut X). c.back) (cut-own n equal)

  pub above-high : (after : Option Name) → order_after after e.0 ≡ Greater → above after (l ++ e ∷ r) ≡ above after r
  above-high None greater = cc greater
  above-high (Some n) greater = ap (λ (c : Cut X). c.back) (cut-high n greater)

-- ---- three sides with the entries between them
module _ {X : Type 0} (a : List (Name × X)) (x : Name × X) (b : List (Name × X)) (y : Name × X) (c : List (Name × X)) (s : IsAscending (a ++ x ∷ (b ++ y ∷ c))) where
  pub last-two : IsAscending (b ++ y ∷ c)
  last-two = tail-ascends x (b ++ y ∷ c) (back-ascends a (x ∷ (b ++ y ∷ c)) s)

  pub first-two : IsAscending (a ++ x ∷ b)
  first-two = front-ascends (a ++ x ∷ b) (y ∷ c) (subst IsAscending (sym (append_assoc a (x ∷ b) (y ∷ c))) s)

-- the middle side is a fork itself
module _ {X : Type 0} (a : List (Name × X)) (x : Name × X) (b l : List (Name × X)) (m : Name × X) (r : List (Name × X)) (y : Name × X) (c : List (Name × X)) (is : b ≡ l ++ m ∷ r) (s : IsAscending (a ++ x ∷ (b ++ y ∷ c))) where
  regrouped : a ++ x ∷ (b ++ y ∷ c) ≡ a ++ x ∷ (l ++ m ∷ (r ++ y ∷ c))
  regrouped = ap (λ v. a ++ x ∷ (v ++ y ∷ c)) is ∙ ap (λ v. a ++ x ∷ v) (append_assoc l (m ∷ r) (y ∷ c))

  pub parted-low : IsAscending (a ++ x ∷ l)
  parted-low = first-two a x l m (r ++ y ∷ c) (subst IsAscending regrouped s)

  pub parted-high : IsAscending (r ++ y ∷ c)
  parted-high = tail-ascends m (r ++ y ∷ c) (back-ascends l (m ∷ (r ++ y ∷ c)) (last-two a x l m (r ++ y ∷ c) (subst IsAscending regrouped s)))

-- ---- an entry alone
pub one-ascends : {X : Type 0} (l r : List (Name × X)) (e : Name × X) → l ≡ [] → r ≡ [] → IsAscending (l ++ e ∷ r)
one-ascends {X = X} l r e none nothing = rw (none, nothing) (cons-ascends e [] tt (nothing-ascends {X = X} [] refl))

-- ---- a node that is a fork
pub record AtFork (d l : List (Name × Stored)) (e : Name × Stored) (r : List (Name × Stored)) : Type 0 where
  pub is : d ≡ l ++ e ∷ r
  pub ascending : IsAscending (l ++ e ∷ r)

pub at_fork : {n : Node} {d : List (Name × Stored)} {below above : Box NameTree Global} {e : Name × Stored} {h : ℕ} → entries n ≡ d → IsAscending (entries n) → n ≡ Fork below e h above → AtFork d below.value e above.value
at_fork view_is s is = record { is = sym view_is ∙ ap entries is; ascending = subst IsAscending (ap entries is) s }
