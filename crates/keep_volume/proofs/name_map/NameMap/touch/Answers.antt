use Rattle.std.proofs.Common.{◌<◌, ◌∙◌, length, refl, ap, rules}
use Rattle.std.specs.Prelude.{is_some}
use Rattle.keep_event.specs.Store.{with_mtime}
use Rattle.keep_volume.proofs.Buckets.{find-bucket, change-bucket, change-buckets, read-at}
use Rattle.keep_volume.proofs.name_map.NameMap.touch.Goals as goal

pub invariant_of-self : goal.invariant_of-self
invariant_of-self c =
    let bs = c.self.inside.buckets.items in
    let b = c.bucket_of-place.result in
    let l = c.index_mut-bucket.result.now in
    let lt : b < length bs = search rules in
    change-buckets c.args.name.now b l bs c.self.invariant c.bucket_of-place.ensures.value (read-at bs bs b l refl lt c.index_mut-bucket.ensures.value) c.touch.new.self (with_mtime c.args.mtime) c.touch.ensures.after

pub returns-clause-value : goal.returns-clause-value
returns-clause-value c =
    let bs = c.self.inside.buckets.items in
    let b = c.bucket_of-place.result in
    let l = c.index_mut-bucket.result.now in
    let lt : b < length bs = search rules in
    rw (← c.self.view_is) (c.touch.ensures.value ∙ ap is_some (find-bucket c.args.name.now b l bs c.self.invariant c.bucket_of-place.ensures.value (read-at bs bs b l refl lt c.index_mut-bucket.ensures.value)))

pub returns-clause-after : goal.returns-clause-after
returns-clause-after c =
    let bs = c.self.inside.buckets.items in
    let b = c.bucket_of-place.result in
    let l = c.index_mut-bucket.result.now in
    let lt : b < length bs = search rules in
    rw (← c.self.view_is) (change-bucket c.args.name.now b l bs c.self.invariant c.bucket_of-place.ensures.value (read-at bs bs b l refl lt c.index_mut-bucket.ensures.value) c.touch.new.self (with_mtime c.args.mtime) c.touch.ensures.after)
