use Rattle.std.proofs.Common.{◌<◌, ◌∙◌, length, refl, ap, rules, inl}
use Rattle.std.specs.Prelude.{is_some}
use Rattle.keep_volume.proofs.Buckets.{find-bucket, without-bucket, without-buckets, room-set, read-at}
use Rattle.keep_volume.proofs.name_map.NameMap.remove.Goals as goal

pub invariant_of-self : goal.invariant_of-self
invariant_of-self c =
    let bs = c.self.inside.buckets.items in
    let b = c.bucket_of-place.result in
    let l = c.index_mut-bucket.result.now in
    let lt : b < length bs = search rules in
    without-buckets c.args.name.now b l bs c.self.invariant c.bucket_of-place.ensures.value (read-at bs bs b l refl lt c.index_mut-bucket.ensures.value) c.remove.new.self c.remove.ensures.after

pub returns-clause-value : goal.returns-clause-value
returns-clause-value c =
    let bs = c.self.inside.buckets.items in
    let b = c.bucket_of-place.result in
    let l = c.index_mut-bucket.result.now in
    let lt : b < length bs = search rules in
    rw (← c.self.view_is) (c.remove.ensures.value ∙ find-bucket c.args.name.now b l bs c.self.invariant c.bucket_of-place.ensures.value (read-at bs bs b l refl lt c.index_mut-bucket.ensures.value))

pub returns-clause-after : goal.returns-clause-after
returns-clause-after c =
    let bs = c.self.inside.buckets.items in
    let b = c.bucket_of-place.result in
    let l = c.index_mut-bucket.result.now in
    let lt : b < length bs = search rules in
    rw (← c.self.view_is) (without-bucket c.args.name.now b l bs c.self.invariant c.bucket_of-place.ensures.value (read-at bs bs b l refl lt c.index_mut-bucket.ensures.value) c.remove.new.self c.remove.ensures.after)

pub returns-clause-room : goal.returns-clause-room
returns-clause-room c =
    let bs = c.self.inside.buckets.items in
    let b = c.bucket_of-place.result in
    let l = c.index_mut-bucket.result.now in
    let lt : b < length bs = search rules in
    let same = ap is_some (find-bucket c.args.name.now b l bs c.self.invariant c.bucket_of-place.ensures.value (read-at bs bs b l refl lt c.index_mut-bucket.ensures.value)) in
    rw (← c.self.view_is) (λ there. room-set bs b _ c.remove.new.self lt (c.remove.ensures.room (same ∙ there)) (inl c.bucket_of-place.ensures.value))
