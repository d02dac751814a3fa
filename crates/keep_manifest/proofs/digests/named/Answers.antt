use Rattle.std.proofs.lemmas.List.Filters.{dedup_is}
use Rattle.std.proofs.lemmas.List.Kept.{Contains-from_dedup}
use Rattle.std.proofs.lemmas.List.Sorted.{Contains-permutation, IsPermutation-sym}
use Rattle.keep_manifest.proofs.DistinctDigests.{dedup_ascends, dedup_keeps}
use Rattle.keep_manifest.proofs.GoodManifests.{good_is}
use Rattle.keep_manifest.proofs.digests.named.Goals as goal

pub collect_named-requires : goal.collect_named-requires
collect_named-requires c = good_is c.args.manifest.now c.requires

pub returns-clause-ascending : goal.returns-clause-ascending
returns-clause-ascending c =
    let is = dedup_is _ _ _ c.dedup.ensures.filtered in
    rw is (dedup_ascends c.sort_unstable.new.self.items c.sort_unstable.ensures.sorted)

pub returns-clause-named : goal.returns-clause-named
returns-clause-named c =
    let is = dedup_is _ _ _ c.dedup.ensures.filtered in
    let moved = c.sort_unstable.ensures.permutation in
    λ h.
    rw (is, ← c.in_ok-digests.ensures) (
      λ in_result. Contains-permutation _ _ h (IsPermutation-sym _ _ moved) (Contains-from_dedup _ c.sort_unstable.new.self.items h in_result),
      λ in_text. dedup_keeps c.sort_unstable.new.self.items h (Contains-permutation _ _ h moved in_text),
    )
