use Rattle.std.proofs.Common.{◌≡◌, ◌++◌, take}
use Rattle.std.specs.List.{flat_map}
use Rattle.keep_gather.specs.Shown.{page_of}
use Rattle.keep_plan.specs.Mentions.{on_page}
use Rattle.keep_plan.proofs.mentions.push_pages.Given as goal

abbrev pub invariant-loop-page : goal.invariant-loop-page
invariant-loop-page l = l.mentions.items ≡ l.initial.mentions.items ++ flat_map (λ p. on_page (page_of p)) (take l.page-index l.pages)
