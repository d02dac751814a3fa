use Rattle.std.proofs.Common.{◌≡◌, Some, None, sym, refl, ◌∙◌}
use Rattle.std.specs.List.{find}
use Rattle.std.proofs.lemmas.Bool.{cond-true, cond-false}
use Rattle.keep_table.specs.Maps.{is_at_version}
use Rattle.keep_table.proofs.Later.{version-read, version-absent}
use Rattle.keep_table.proofs.changes.readable_at.Goals as goal

pub returns-in_default : goal.returns-in_default
returns-in_default c =
    let absent : find (is_at_version c.args.number c.args.version) c.args.records.now ≡ None = rw (← c.version_at.ensures.found, c.in_default.is) refl in
    sym (version-absent c.args.number c.args.version c.args.records.now absent)

pub returns-then-is_readable : goal.returns-then-is_readable
returns-then-is_readable c =
    let there : find (is_at_version c.args.number c.args.version) c.args.records.now ≡ Some c.in-Some.row.now = rw (← c.version_at.ensures.found, c.in-Some.is) refl in
    sym (version-read c.args.number c.args.version c.args.records.now c.in-Some.row.now c.version_at.ensures.versioned there ∙ cond-true _ _ _ (sym c.is_readable.ensures ∙ c.if-is_readable.true))

pub returns-else-is_readable : goal.returns-else-is_readable
returns-else-is_readable c =
    let there : find (is_at_version c.args.number c.args.version) c.args.records.now ≡ Some c.in-Some.row.now = rw (← c.version_at.ensures.found, c.in-Some.is) refl in
    sym (version-read c.args.number c.args.version c.args.records.now c.in-Some.row.now c.version_at.ensures.versioned there ∙ cond-false _ _ _ (sym c.is_readable.ensures ∙ c.if-is_readable.false))
