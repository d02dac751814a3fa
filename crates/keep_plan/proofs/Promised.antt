-- The laws of the plan, on the lists of a plan.
use Rattle.std.proofs.Common.{◌≡◌, ◌+◌, ℕ, zero, suc, List, map, length, ap, ◌∙◌, subst, arith, Some}
use Rattle.std.specs.Prelude.{slice_get}
use Rattle.keep_spec.specs.Config.{Configuration}
use Rattle.keep_spec.specs.Members.{IsIn, numbers_from}
use Rattle.keep_spec.specs.Times.{threshold}
use Rattle.keep_event.specs.declared.lists.Lists.{Lists}
use Rattle.keep_event.specs.Plan.{Gathered, planned, planned_lists}
use Rattle.keep_plan.specs.Laws.{TrashIsOfOthers, TrashLeavesEnough, PullFillsGaps}
use Rattle.keep_plan.proofs.Items.{item-is, kept-enough, pull-is}

got-number : {X : Type 0} (f : ℕ → X) (k n d : ℕ) (x : X) → slice_get (map f (numbers_from k n)) d ≡ Some x → x ≡ f (k + d)
got-number f k zero d x e = cc e
got-number f k (suc n) zero x e = let z : k ≡ k + 0 = omega arith in let first : x ≡ f k = cc e in first ∙ ap f z
got-number f k (suc n) (suc d) x e = let z : (k + 1) + d ≡ k + suc d = omega arith in got-number f (k + 1) n d x e ∙ ap f z

module _ (c : Configuration) (g : Gathered) (lists : List Lists) (are : lists ≡ planned_lists c g) where
  list-at : (d : ℕ) (l : Lists) → slice_get lists d ≡ Some l → l ≡ planned c g (threshold c.ttl c.skew g.started) d
  list-at d l e =
      let z : 0 + d ≡ d = omega arith in
      got-number (planned c g (threshold c.ttl c.skew g.started)) 0 (length c.devices) d l (subst (λ (v : List Lists). slice_get v d ≡ Some l) are e) ∙ ap (planned c g (threshold c.ttl c.skew g.started)) z

  pub trash-promised : TrashIsOfOthers c g lists
  trash-promised d l x e i = item-is c g (threshold c.ttl c.skew g.started) d x (subst (λ (v : Lists). IsIn x v.trash) (list-at d l e) i)

  pub kept-promised : TrashLeavesEnough c g lists
  kept-promised d l x e i = kept-enough c g (threshold c.ttl c.skew g.started) d x (subst (λ (v : Lists). IsIn x v.trash) (list-at d l e) i)

  pub pull-promised : PullFillsGaps c g lists
  pull-promised d l x e i = pull-is c g d x (subst (λ (v : Lists). IsIn x v.pull) (list-at d l e) i)
