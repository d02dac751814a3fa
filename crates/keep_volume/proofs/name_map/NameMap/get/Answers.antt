use Rattle.std.proofs.Common.{◌∙◌}
use Rattle.keep_volume.proofs.Buckets.{find-bucket, read-at}
use Rattle.keep_volume.proofs.name_map.NameMap.get.Goals as goal

pub returns-in-Some : goal.returns-in-Some
returns-in-Some c =
    let bs = c.self.inside.buckets.items in
    let b = c.bucket_of.result in
    let l = c.in-Some.bucket.now in
    let found = c.in-Some.ensures.lookup in
    rw (← c.self.view_is) (c.get-in-Some.ensures ∙ find-bucket c.args.name.now b l bs c.self.invariant c.bucket_of.ensures.value (read-at bs c.deref.result.now b l c.deref.ensures.value found.3.0 found.1))
