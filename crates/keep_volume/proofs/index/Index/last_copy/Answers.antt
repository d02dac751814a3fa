use Rattle.std.proofs.Common.{ap, ◌∙◌, None, ◌≡◌}
use Rattle.std.specs.Slice.Iter.{iter_rest}
use Rattle.std.specs.Prelude.{is_some}
use Rattle.std.specs.List.{last_or, filter}
use Rattle.std.specs.Str.{bytes_eq}
use Rattle.keep_volume.proofs.Pages.{filter-both, no-copy, none-later, last-digest}
use Rattle.keep_volume.proofs.index.Index.last_copy.Goals as goal

pub returns-in_default-clause-value : goal.returns-in_default-clause-value
returns-in_default-clause-value c = rw (← c.self.view_is) (no-copy c.args.digest.now c.self.inside.names.entries c.in_default.ensures)

pub loop-entry-init : goal.loop-entry-init
loop-entry-init c = let begun : iter_rest c.into_iter-entry-iterator.result ≡ filter (λ e. bytes_eq e.0.digest c.args.digest.now) c.self.inside.names.entries = ap iter_rest c.into_iter-entry-iterator.ensures.into_iter_gives ∙ c.in-Some.ensures in rw (← c.self.view_is) (ap (λ v. last_or None (filter (λ e. is_some e.0.deadline) v)) begun ∙ ap (last_or None) (filter-both (λ e. is_some e.0.deadline) (λ e. bytes_eq e.0.digest c.args.digest.now) c.self.inside.names.entries))

pub returns-clause-digest : goal.returns-clause-digest
returns-clause-digest c = last-digest c.args.digest.now c.args.self.now.entries c.loop-entry.last (none-later (λ e. is_some e.0.deadline) c.loop-entry.last (iter_rest c.loop-entry.entry-iterator) c.in-None.ensures.steps.0 ∙ c.loop-entry.invariant)
