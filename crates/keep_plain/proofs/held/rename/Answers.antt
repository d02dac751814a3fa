use Rattle.std.proofs.Common.{◌∙◌, ap, sym}
use Rattle.keep_event.specs.Store.{rename}
use Rattle.keep_plain.proofs.held.rename.Goals as goal

pub returns-in_default : goal.returns-in_default
returns-in_default c = c.remove.ensures.unchanged c.in_default.is ∙ ap (rename c.args.from.now c.args.to.now c.args.mtime c.args.held.now.items) (sym c.in_default.is ∙ c.remove.ensures.value)
