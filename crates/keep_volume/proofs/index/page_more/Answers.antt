use Rattle.std.proofs.Common.{rules, ◌∙◌, ◌++◌, ap, map}
use Rattle.std.specs.List.{filter}
use Rattle.keep_event.specs.Device.{is_paged}
use Rattle.keep_volume.specs.Digits.{is_within}
use Rattle.keep_volume.specs.Index.{sized_entry}
use Rattle.keep_volume.proofs.Pages.{filter-within, paged-within}
use Rattle.keep_volume.proofs.index.page_more.Goals as goal

pub loop-item-init : goal.loop-item-init
loop-item-init c = ap (λ v. c.args.entries.now.items ++ map sized_entry (filter (λ e. is_paged c.args.prefix.now e.0) v)) (search rules)
    ∙ ap (λ v. c.args.entries.now.items ++ map sized_entry v) (filter-within (λ e. is_paged c.args.prefix.now e.0) (λ e. is_within c.args.prefix.now e.0.digest) c.args.names.now.entries (λ e h. paged-within c.args.prefix.now e.0 h))
