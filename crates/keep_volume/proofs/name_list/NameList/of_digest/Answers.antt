use Rattle.std.proofs.Common.{rules, ◌∙◌}
use Rattle.std.specs.Ordering.{nat_cmp, is_lt, is_le, is_eq}
use Rattle.std.specs.Cmp.Lexicographic.{slice_cmp}
use Rattle.std.specs.Str.{bytes_eq}
use Rattle.std.proofs.lemmas.Fn.{always_returns_same}
use Rattle.std.proofs.lemmas.Map.Text.{is_eq-slice_cmp}
use Rattle.keep_volume.proofs.Nibbles.{digests-rise}
use Rattle.keep_volume.proofs.Parts.{between, filter-same}
use Rattle.keep_volume.proofs.name_list.NameList.of_digest.Goals as goal

pub returns : goal.returns
returns c =
    let digest = c.args.digest.now in
    let es = c.self.inside.items.items in
    rw (← c.self.view_is) (c.iter.ensures.rest
    ∙ between (λ e. slice_cmp nat_cmp e.0.digest digest) es c.deref.result.now c.deref-2.result.now c.partition_point-start.result c.partition_point-end.result c.deref.ensures.value c.deref-2.ensures.value
    (digests-rise digest es c.self.invariant) c.partition_point-start.ensures.bound c.partition_point-end.ensures.bound
    (c.partition_point-start.ensures.partitioned (λ e. is_lt (slice_cmp nat_cmp e.0.digest digest)) (always_returns_same _ _ _ (λ a r f k. search rules)))
    (c.partition_point-end.ensures.partitioned (λ e. is_le (slice_cmp nat_cmp e.0.digest digest)) (always_returns_same _ _ _ (λ a r f k. search rules)))
    ∙ filter-same (λ e. is_eq (slice_cmp nat_cmp e.0.digest digest)) (λ e. bytes_eq e.0.digest digest) es (λ e. is_eq-slice_cmp e.0.digest digest))
