use Rattle.std.proofs.Common.{ap, ◌∙◌, ◌+◌, drop, map, None}
use Rattle.std.specs.List.{filter}
use Rattle.keep_event.specs.Device.{is_paged}
use Rattle.keep_volume.specs.Buckets.{entries_above}
use Rattle.keep_volume.proofs.Buckets.{above-step, none-above}
use Rattle.keep_volume.specs.Index.{sized_entry}
use Rattle.keep_volume.proofs.Pages.{page-step, page-end}
use Rattle.keep_volume.proofs.index.Index.page.Goals as goal

pub loop-bucket-init : goal.loop-bucket-init
loop-bucket-init c = rw (c.new-entries.ensures.items, ← c.self.view_is) (ap (λ v. map sized_entry (filter (λ e. is_paged c.args.prefix.now e.0) v)) c.above-bucket-items.ensures.rest)

pub loop-bucket-preserved : goal.loop-bucket-preserved
loop-bucket-preserved c =
    let bs = c.above-bucket-items.result.now in
    let i = c.loop-bucket.bucket-index in
    let l = c.bucket-item.result in
    page-step sized_entry (λ e. is_paged c.args.prefix.now e.0) c.loop-bucket.entries.items c.page_more.new.entries.items l.entries (entries_above None (drop (i + 1) bs)) (entries_above None (drop i bs))
    c.in_ok-page_more.ensures (above-step None bs i l c.loop-bucket-test.true c.bucket-item.is) ∙ c.loop-bucket.invariant

pub returns : goal.returns
returns c =
    let bs = c.above-bucket-items.result.now in
    let i = c.loop-bucket.bucket-index in
    page-end sized_entry (λ e. is_paged c.args.prefix.now e.0) c.loop-bucket.entries.items (entries_above None (drop i bs)) (none-above None bs i c.loop-bucket-test.false) ∙ c.loop-bucket.invariant
