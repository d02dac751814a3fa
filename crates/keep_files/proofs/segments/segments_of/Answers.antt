use Rattle.std.proofs.Common.{◌≡◌, ◌+◌, ◌<◌, ◌∙◌, ltb, ap, arith, length, get_or}
use Rattle.std.proofs.lemmas.Bool.{ltb-true}
use Rattle.std.proofs.lemmas.List.{get_or_default}
use Rattle.keep_normal.proofs.BlockPlaces.{all_at}
use Rattle.keep_files.specs.Places.{file_at}
use Rattle.keep_files.proofs.LaidSegments.{segments_turn, total_turn, segments_end}
use Rattle.keep_files.proofs.segments.segments_of.Goals as goal

pub loop-place-preserved : goal.loop-place-preserved
loop-place-preserved c =
    let fs = c.args.files.now in
    let places = c.args.places.now in
    let i = c.loop-place.place-index in
    let f = c.index-files-place.result in
    let inside : i < length places = omega (arith, c.loop-place-test.true) in
    let place : get_or places i 0 < length fs = ltb-true (get_or places i 0) (length fs) (all_at (λ n. ltb n (length fs)) places i 0 c.requires inside) in
    let at : f ≡ file_at fs (get_or places i 0) = c.index-files-place.is ∙ get_or_default fs (get_or places i 0) _ _ place in
    record {
      segments = segments_turn fs places i c.loop-place.position c.in_ok-position.position _ c.push.new.self.items _ _ f inside at c.in_ok-segment_of.ensures c.in_ok-push.ensures.items (c.in_ok-position.ensures.value ∙ ap (λ n. c.loop-place.position + n) c.len.ensures) c.loop-place.invariant.segments;
      total = omega (arith, total_turn fs places i f inside at, c.loop-place.invariant.total, c.in_ok-position.ensures.value, c.len.ensures);
      bound = c.in_ok-position.ensures.bound;
    }

pub returns-clause-segments : goal.returns-clause-segments
returns-clause-segments c =
    segments_end c.args.files.now c.args.places.now c.loop-place.place-index c.loop-place.position _ _ (omega (arith, c.loop-place-test.false)) c.loop-place.invariant.segments
