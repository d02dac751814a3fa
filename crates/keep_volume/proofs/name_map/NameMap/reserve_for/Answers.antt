use Rattle.std.proofs.Common.{◌<◌, ◌∙◌, length, refl, rules, inl}
use Rattle.keep_volume.proofs.Buckets.{same-bucket, same-buckets, room-set, read-at, on-ok}
use Rattle.keep_volume.proofs.name_map.NameMap.reserve_for.Goals as goal

pub invariant_of-self : goal.invariant_of-self
invariant_of-self c =
    let bs = c.self.inside.buckets.items in
    let b = c.bucket_of.result in
    let l = c.index_mut-bucket.result.now in
    let lt : b < length bs = search rules in
    same-buckets c.args.name.now b l bs c.self.invariant c.bucket_of.ensures.value (read-at bs bs b l refl lt c.index_mut-bucket.ensures.value) c.reserve_one.new.self c.reserve_one.ensures.unchanged

pub returns-clause-unchanged : goal.returns-clause-unchanged
returns-clause-unchanged c =
    let bs = c.self.inside.buckets.items in
    let b = c.bucket_of.result in
    let l = c.index_mut-bucket.result.now in
    let lt : b < length bs = search rules in
    same-bucket c.args.name.now b l bs c.self.invariant c.bucket_of.ensures.value (read-at bs bs b l refl lt c.index_mut-bucket.ensures.value) c.reserve_one.new.self c.reserve_one.ensures.unchanged ∙ search rules

pub returns-clause-ok : goal.returns-clause-ok
returns-clause-ok c =
    let bs = c.self.inside.buckets.items in
    let b = c.bucket_of.result in
    let lt : b < length bs = search rules in
    on-ok c.reserve_one.result (λ room. room-set bs b _ c.reserve_one.new.self lt room (inl c.bucket_of.ensures.value)) c.reserve_one.ensures.ok
