-- What the plan promises, without a step of any machine: the safety of blocks rests on these. This is the project's own rule.
use Rattle.std.specs.Prelude.{◌≡◌, ◌≤◌, ◌<◌, ℕ, List, [], length, Some, false, slice_get}
use Rattle.keep_spec.specs.Times.{threshold}
use Rattle.keep_spec.specs.Config.{Configuration}
use Rattle.keep_spec.specs.Members.{IsIn, AreDistinct}
use Rattle.keep_event.specs.Plan.{Gathered, Page, entry_of, holding, holders, is_holder, kept, targets, trash_list, pull_list, wanted_in, gathered_rows}
use Rattle.keep_event.specs.declared.lists.Entry.{Entry}
use Rattle.keep_event.specs.declared.lists.TrashItem.{TrashItem}
use Rattle.keep_event.specs.declared.lists.PullItem.{PullItem}
use Rattle.keep_event.specs.declared.lists.Lists.{Lists}

-- an entry of a digest stands on a page of the device
pub record Gives (d : ℕ) (h : List ℕ) (e : Entry) (pages : List Page) : Type 0 where
  pub page : Page
  pub member : IsIn page pages
  pub device : page.device ≡ d
  pub listed : IsIn e page.entries
  pub digest : e.digest ≡ h

-- the device is configured, and gave an entry of the digest
pub record GaveDigest (c : Configuration) (g : Gathered) (h : List ℕ) (d : ℕ) : Type 0 where
  pub configured : d < length c.devices
  pub entry : Entry
  pub gives : Gives d h entry g.pages

-- a trash item names a gathered holder that isn't kept, with its gathered time, which is below the threshold
pub record IsOfOther (c : Configuration) (g : Gathered) (threshold d : ℕ) (x : TrashItem) : Type 0 where
  pub entry : Entry
  pub gave : entry_of d x.digest g.pages ≡ Some entry
  pub given : Gives d x.digest entry g.pages
  pub time : x.mtime ≡ entry.mtime
  pub holder : IsIn d (holders (holding c g x.digest))
  pub other : IsIn d (kept (holding c g x.digest)) → ⊥
  pub old : x.mtime < threshold

abbrev pub TrashItemsAreOfOthers : Type 0
TrashItemsAreOfOthers =
    (c : Configuration) (g : Gathered) (threshold d : ℕ) (x : TrashItem) → IsIn x (trash_list c g threshold d) → IsOfOther c g threshold d x

-- where a trash item names a digest, at least as many devices are kept as the gathered rows want: distinct ones, each of which gave the digest
pub record AreEnough (c : Configuration) (g : Gathered) (h : List ℕ) : Type 0 where
  pub enough : wanted_in h (gathered_rows g.scans) ≤ length (kept (holding c g h))
  pub distinct : AreDistinct (kept (holding c g h))
  pub each_gave : (k : ℕ) → IsIn k (kept (holding c g h)) → GaveDigest c g h k

abbrev pub KeptHoldersAreEnough : Type 0
KeptHoldersAreEnough =
    (c : Configuration) (g : Gathered) (threshold d : ℕ) (x : TrashItem) → IsIn x (trash_list c g threshold d) → AreEnough c g x.digest

-- a pull item names all holders, each of which gave the digest, and goes to a target that lacks the block
pub record FillsGap (c : Configuration) (g : Gathered) (d : ℕ) (x : PullItem) : Type 0 where
  pub sources : x.sources ≡ holders (holding c g x.digest)
  pub each_gave : (k : ℕ) → IsIn k x.sources → GaveDigest c g x.digest k
  pub some : x.sources ≡ [] → ⊥
  pub target : IsIn d (targets (holding c g x.digest))
  pub lacks : is_holder (holding c g x.digest) d ≡ false

abbrev pub PullItemsFillGaps : Type 0
PullItemsFillGaps = (c : Configuration) (g : Gathered) (d : ℕ) (x : PullItem) → IsIn x (pull_list c g d) → FillsGap c g d x

-- ---- the same of the lists of a plan, device by device

abbrev pub TrashIsOfOthers : Configuration → Gathered → List Lists → Type 0
TrashIsOfOthers c g lists =
    (d : ℕ) (l : Lists) (x : TrashItem) → slice_get lists d ≡ Some l → IsIn x l.trash → IsOfOther c g (threshold c.ttl c.skew g.started) d x

abbrev pub TrashLeavesEnough : Configuration → Gathered → List Lists → Type 0
TrashLeavesEnough c g lists = (d : ℕ) (l : Lists) (x : TrashItem) → slice_get lists d ≡ Some l → IsIn x l.trash → AreEnough c g x.digest

abbrev pub PullFillsGaps : Configuration → Gathered → List Lists → Type 0
PullFillsGaps c g lists = (d : ℕ) (l : Lists) (x : PullItem) → slice_get lists d ≡ Some l → IsIn x l.pull → FillsGap c g d x
