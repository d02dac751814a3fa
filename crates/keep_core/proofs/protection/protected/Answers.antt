use Rattle.std.proofs.Common.{◌≡◌, ◌++◌, reverse, ap, ◌∙◌, sym, subst}
use Rattle.std.specs.List.{flat_map, Contains}
use Rattle.std.proofs.lemmas.List.Filters.{dedup_is}
use Rattle.std.proofs.lemmas.List.Kept.{Contains-from_dedup}
use Rattle.std.proofs.lemmas.List.Sorted.{Contains-permutation, IsPermutation-sym}
use Rattle.keep_manifest.proofs.DistinctDigests.{dedup_ascends, dedup_keeps}
use Rattle.keep_collections.proofs.Ascending.{is-ascending}
use Rattle.keep_safety.specs.Safe.{protected}
use Rattle.keep_core.specs.Seen.{live_of}
use Rattle.keep_safety.specs.Times.{now}
use Rattle.keep_core.proofs.LiveDigests.{to-protected, from-protected, in-contains, contains-in}
use Rattle.keep_core.proofs.protection.protected.Goals as goal

pub returns : goal.returns
returns c =
    let config = c.args.config.now in
    let events = c.args.events.now in
    let past = reverse events in
    let sorted = c.sort_unstable.new.self.items in
    let is = dedup_is _ _ _ c.dedup.ensures.filtered in
    let moved = c.sort_unstable.ensures.permutation in
    let gathered : c.push_signed.new.digests.items ≡ c.in_ok-digests.digests.items ++ flat_map (live_of config (now past)) events =
    c.in_ok-push_signed.ensures
    ∙ ap (λ n. c.in_ok-digests.digests.items ++ flat_map (live_of config n) events) c.latest.ensures in
    rw is (is-ascending _ (protected config past) (dedup_ascends sorted c.sort_unstable.ensures.sorted) (λ h. (
      λ found. in-contains h (protected config past) (to-protected config events c.in_ok-digests.digests.items c.in_ok-digests.ensures h (contains-in h _ (subst (λ v. Contains v h) gathered (Contains-permutation _ _ h (IsPermutation-sym _ _ moved) (Contains-from_dedup _ sorted h found))))),
      λ given. dedup_keeps sorted h (Contains-permutation _ _ h moved (subst (λ v. Contains v h) (sym gathered) (in-contains h _ (from-protected config events c.in_ok-digests.digests.items c.in_ok-digests.ensures h (contains-in h (protected config past) given))))),
    )))
