use Rattle.std.proofs.Common.{◌∙◌, ◌++◌, ◌∷◌, [], ap}
use Rattle.keep_normal.proofs.Grouping.{put_after}
use Rattle.keep_files.proofs.places.put.Goals as goal

pub returns-clause-entries : goal.returns-clause-entries
returns-clause-entries c =
    put_after c.args.directories.now.entries c.taken-places.new.directories.entries c.insert.new.self.entries c.args.directory c.args.place c.of.result c.requires c.taken-places.ensures.entries
    (c.of.ensures ∙ c.in_ok-push.ensures.items ∙ ap (λ vs. vs ++ c.args.place ∷ []) c.taken-places.ensures.places) c.in_ok-insert.ensures.entries
