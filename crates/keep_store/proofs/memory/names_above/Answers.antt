use Rattle.std.proofs.Common.{◌≡◌, ◌++◌, ◌∙◌, ap, sym, subst, take, map}
use Rattle.std.specs.Prelude.{option_copied}
use Rattle.keep_event.specs.Store.{held_of, above, AreAscending}
use Rattle.keep_store.proofs.Listing.{page-ascends}
use Rattle.keep_store.proofs.memory.names_above.Goals as goal

pub returns-clause-ascending : goal.returns-clause-ascending
returns-clause-ascending c =
    let whole : c.list.new.out.items ≡ take c.args.limit (map held_of (above c.args.after c.args.names.now)) =
    c.in_ok-list.ensures.listed
    ∙ ap (λ v. take c.args.limit (v ++ map held_of (above (option_copied c.as_ref.result) c.args.names.now))) c.new-out.ensures.items
    ∙ ap (λ v. take c.args.limit (map held_of (above v c.args.names.now))) c.as_ref.ensures.value in
    subst (λ v. AreAscending (map (λ h. h.name) v)) (sym whole) (page-ascends c.args.after c.args.limit c.args.names.now c.in_ok-list.ensures.ascending)
