use Rattle.std.proofs.Common.{◌∙◌, ◌++◌, ◌∷◌, [], ap}
use Rattle.keep_normal.proofs.Grouping.{put_after}
use Rattle.keep_normal.proofs.groups.put.Goals as goal

pub returns-clause-entries : goal.returns-clause-entries
returns-clause-entries g c =
    put_after c.args.groups.now.entries c.taken-values.new.groups.entries c.insert.new.self.entries c.args.key c.args.value c.of.result c.requires c.taken-values.ensures.entries
    (c.of.ensures ∙ c.in_ok-push.ensures.items ∙ ap (λ vs. vs ++ c.args.value ∷ []) c.taken-values.ensures.values) c.in_ok-insert.ensures.entries
