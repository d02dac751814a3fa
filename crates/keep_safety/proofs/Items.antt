-- What the plan of a round says of a trash item: it names a gathered holder that isn't kept, with its gathered time, which is below the threshold (`item-is`).
use Rattle.std.proofs.Common.{◌≡◌, ℕ, List, map, sym, ◌∙◌, ap, subst}
use Rattle.keep_spec.specs.Config.{Configuration}
use Rattle.keep_spec.specs.Members.{IsIn}
use Rattle.keep_event.specs.Plan.{Gathered, trash_list}
use Rattle.keep_event.specs.declared.lists.Entry.{Entry}
use Rattle.keep_event.specs.declared.lists.TrashItem.{TrashItem}
use Rattle.keep_order.proofs.Lists.{in-map}
use Rattle.keep_plan.specs.Laws.{Gives, IsOfOther}
use Rattle.keep_plan.proofs.Items as plan
use Rattle.keep_history.specs.Rounds.{Round, Given, gathered, page_of}

-- what the lists are made of: they don't depend on the round's number, nor on its start but for the threshold
abbrev pub told : Round → Gathered
told g = gathered 0 0 g

-- a page of the device lists the entry, which is of the digest
pub record IsGiven (d : ℕ) (h : List ℕ) (e : Entry) (pages : List Given) : Type 0 where
  pub page : Given
  pub member : IsIn page pages
  pub device : page.device ≡ d
  pub listed : IsIn e page.entries
  pub digest : e.digest ≡ h

pub given-by : (d : ℕ) (h : List ℕ) (e : Entry) (pages : List Given) → Gives d h e (map page_of pages) → IsGiven d h e pages
given-by d h e pages g =
    let from = in-map page_of g.page pages g.member in
    record {
      page = from.from;
      member = from.member;
      device = sym (ap (λ p. p.device) from.is) ∙ g.device;
      listed = subst (λ p. IsIn e p.entries) from.is g.listed;
      digest = g.digest;
    }

pub item-is : (c : Configuration) (g : Round) (threshold d : ℕ) (x : TrashItem) → IsIn x (trash_list c (told g) threshold d) → IsOfOther c (told g) threshold d x
item-is c g threshold d x i = plan.item-is c (told g) threshold d x i
