use Rattle.std.proofs.Common.{◌+◌, ℕ, List, drop, sym, ◌∙◌, ap}
use Rattle.std.specs.Prelude.{option_and_then}
use Rattle.std.proofs.lemmas.List.{drop-drop}
use Rattle.keep_event.specs.Index.{entry_with, bare_locator}
use Rattle.keep_lists.proofs.Locators.{no-space, at-space}
use Rattle.keep_lists.proofs.index.read_line.Goals as goal

pub returns-in-Some : goal.returns-in-Some
returns-in-Some c =
    let line = c.args.line.now in
    let n = c.in-Some.space in
    let last = c.after_first.ensures ∙ ap (drop 1) c.split_at.ensures.back ∙ drop-drop 1 n line in
    c.entry_of.ensures
    ∙ ap (λ (v : List ℕ). option_and_then (entry_with v) (bare_locator c.split_at.result.0.now)) last
    ∙ ap (λ (v : List ℕ). option_and_then (entry_with (drop (n + 1) line)) (bare_locator v)) c.split_at.ensures.front
    ∙ at-space line n (sym c.in-Some.ensures)

pub returns-in-None : goal.returns-in-None
returns-in-None c = no-space c.args.line.now (sym c.in-None.ensures)
