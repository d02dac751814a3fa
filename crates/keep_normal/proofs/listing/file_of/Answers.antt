use Rattle.std.proofs.Common.{◌++◌, ◌∷◌, [], ◌∙◌, ap, sym, append-nil}
use Rattle.std.specs.Prelude.{fold}
use Rattle.std.specs.List.{flat_map}
use Rattle.std.proofs.lemmas.List.Concat.{flat_map-append}
use Rattle.keep_normal.specs.Files.{touch, both_parts, joined_parts}
use Rattle.keep_normal.specs.Joined.{joined_after}
use Rattle.keep_normal.proofs.JoinedNeighbours.{joined_along}
use Rattle.keep_normal.proofs.SoundParts.{part_joins}
use Rattle.keep_normal.proofs.listing.file_of.Goals as goal

pub loop-piece-preserved : goal.loop-piece-preserved
loop-piece-preserved c =
    let done = flat_map (λ ps. ps) c.loop-piece.yielded in
    let piece = c.in-Some.piece in
    record {
      sound = c.in_ok-join_parts.ensures.sound;
      joined = c.in_ok-join_parts.ensures.joined
          ∙ ap (λ ps. fold (joined_after touch both_parts) ps c.into_vec.result.items) c.loop-piece.invariant.joined
          ∙ ap (λ ps. fold (joined_after touch both_parts) (joined_parts done) ps) c.into_vec.ensures
          ∙ joined_along touch both_parts part_joins done piece
          ∙ ap (λ ps. joined_parts ps) (ap (λ ps. done ++ ps) (sym (append-nil piece)) ∙ sym (flat_map-append (λ ps. ps) c.loop-piece.yielded (piece ∷ [])));
    }
