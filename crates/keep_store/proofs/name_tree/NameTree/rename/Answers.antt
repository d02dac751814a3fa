use Rattle.std.proofs.Common.{◌≡◌, None, sym, ap, ◌∙◌}
use Rattle.std.specs.Prelude.{option_map}
use Rattle.keep_event.specs.Store.{find, move, with_time}
use Rattle.keep_store.proofs.Cuts.{without-absent}
use Rattle.keep_store.proofs.name_tree.NameTree.rename.Goals as goal

pub returns-in_default-clause-after : goal.returns-in_default-clause-after
returns-in_default-clause-after c =
    let none : find c.args.from.now c.args.self.now ≡ None = ap (option_map (λ e. e.1)) (sym c.remove.ensures.value ∙ c.in_default.is) in
    c.remove.ensures.after ∙ without-absent c.args.from.now c.args.self.now none ∙ sym (ap (move (with_time c.args.mtime) c.args.from.now c.args.to.now c.args.self.now) none)
