use Rattle.std.proofs.Common.{◌≡◌, ◌++◌, List, reverse, ap, ◌∙◌}
use Rattle.std.specs.List.{flat_map}
use Rattle.keep_gather.specs.Shown.{page_of, scan_of}
use Rattle.keep_plan.specs.Mentions.{on_page, in_row}
use Rattle.keep_plan.specs.declared.mentions.Mention.{Mention}
use Rattle.keep_plan.proofs.Given.{pages-given, scans-given}
use Rattle.keep_plan.proofs.mentions.mentions.Goals as goal

pub returns : goal.returns
returns c =
    let pages = pages-given c.pages.result.now c.args.gather.now.pages c.pages.ensures in
    let scans = scans-given c.scans.result.now c.args.gather.now.scans c.scans.ensures in
    let first : c.push_pages.new.mentions.items ≡ flat_map (λ p. on_page (page_of p)) c.pages.result.now =
    c.in_ok-push_pages.ensures ∙ ap (λ (l : List Mention). l ++ flat_map (λ p. on_page (page_of p)) c.pages.result.now) c.new-mentions.ensures.items in
    c.in_ok-push_scans.ensures
    ∙ ap (λ (l : List Mention). l ++ flat_map (λ s. flat_map in_row (scan_of s).rows) c.scans.result.now) (first ∙ pages)
    ∙ ap (λ (l : List Mention). flat_map on_page (reverse c.args.gather.now.pages) ++ l) scans
