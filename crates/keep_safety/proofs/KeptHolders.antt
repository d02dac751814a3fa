-- What the plan of a round says of the holders that it keeps of a digest: they are distinct devices of the configuration, each of which gave the digest (`kept-gave`, `kept-distinct`), and where an item names the digest, as many as the gathered rows want (`kept-enough`).
use Rattle.std.proofs.Common.{◌≤◌, ◌<◌, ℕ, List, length}
use Rattle.keep_spec.specs.Config.{Configuration}
use Rattle.keep_spec.specs.Members.{IsIn, AreDistinct}
use Rattle.keep_event.specs.Plan.{trash_list, wanted_in, gathered_rows, kept, holding}
use Rattle.keep_event.specs.declared.lists.Entry.{Entry}
use Rattle.keep_event.specs.declared.lists.TrashItem.{TrashItem}
use Rattle.keep_plan.proofs.Items as plan
use Rattle.keep_history.specs.Rounds.{Round}
use Rattle.keep_safety.proofs.Items.{told, IsGiven, given-by}

abbrev pub kept_of : Configuration → Round → List ℕ → List ℕ
kept_of c g h = kept (holding c (told g) h)

-- the device is configured, and a page of it lists the digest
pub record GaveHere (c : Configuration) (g : Round) (h : List ℕ) (k : ℕ) : Type 0 where
  pub configured : k < length c.devices
  pub entry : Entry
  pub given : IsGiven k h entry g.pages

pub kept-gave : (c : Configuration) (g : Round) (h : List ℕ) (k : ℕ) → IsIn k (kept_of c g h) → GaveHere c g h k
kept-gave c g h k i =
    let gave = plan.kept-gave c (told g) h k i in
    record { configured = gave.configured; entry = gave.entry; given = given-by k h gave.entry g.pages gave.gives }

pub kept-distinct : (c : Configuration) (g : Round) (h : List ℕ) → AreDistinct (kept_of c g h)
kept-distinct c g h = plan.kept-distinct c (told g) h

pub kept-enough : (c : Configuration) (g : Round) (threshold d : ℕ) (x : TrashItem) → IsIn x (trash_list c (told g) threshold d) → wanted_in x.digest (gathered_rows g.scans) ≤ length (kept_of c g x.digest)
kept-enough c g threshold d x i = (plan.kept-enough c (told g) threshold d x i).enough
