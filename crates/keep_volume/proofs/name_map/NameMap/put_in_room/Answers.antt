use Rattle.std.proofs.Common.{◌<◌, length, refl, rules}
use Rattle.keep_volume.proofs.Buckets.{put-bucket, put-buckets, read-at}
use Rattle.keep_volume.proofs.name_map.NameMap.put_in_room.Goals as goal

pub invariant_of-self : goal.invariant_of-self
invariant_of-self c =
    let bs = c.self.inside.buckets.items in
    let b = c.bucket_of.result in
    let l = c.index_mut-bucket.result.now in
    let lt : b < length bs = search rules in
    put-buckets c.args.name.now b l bs c.self.invariant c.bucket_of.ensures.value (read-at bs bs b l refl lt c.index_mut-bucket.ensures.value) c.put_in_room.new.self c.args.value c.put_in_room.ensures

pub returns : goal.returns
returns c =
    let bs = c.self.inside.buckets.items in
    let b = c.bucket_of.result in
    let l = c.index_mut-bucket.result.now in
    let lt : b < length bs = search rules in
    rw (← c.self.view_is) (put-bucket c.args.name.now b l bs c.self.invariant c.bucket_of.ensures.value (read-at bs bs b l refl lt c.index_mut-bucket.ensures.value) c.put_in_room.new.self c.args.value c.put_in_room.ensures)
