use Rattle.std.proofs.Common.{◌≡◌, ◌+◌, Some, None, refl, subst, ℕ}
use Rattle.std.specs.List.{find}
use Rattle.keep_event.specs.Table.{is_current_of}
use Rattle.keep_table.specs.Maps.{AreBefore}
use Rattle.keep_table.proofs.Later.{current-before, version_now}
use Rattle.keep_table.proofs.changes.current_version.Goals as goal

pub returns-in-Some-clause-greatest : goal.returns-in-Some-clause-greatest
returns-in-Some-clause-greatest c =
    let there : find (is_current_of c.args.number) c.args.records.now ≡ Some c.in-Some.row.now = rw (← c.current_of.ensures.found, c.in-Some.is) refl in
    let same : version_now c.args.number c.args.records.now ≡ c.in-Some.row.now.version = rw there refl in
    subst (λ (u : ℕ). AreBefore c.args.number (u + 1) c.args.records.now) same (current-before c.args.number c.args.records.now c.current_of.ensures.versioned c.requires)

pub returns-in-None-clause-greatest : goal.returns-in-None-clause-greatest
returns-in-None-clause-greatest c =
    let absent : find (is_current_of c.args.number) c.args.records.now ≡ None = rw (← c.current_of.ensures.found, c.in-None.is) refl in
    let same : version_now c.args.number c.args.records.now ≡ 0 = rw absent refl in
    subst (λ (u : ℕ). AreBefore c.args.number (u + 1) c.args.records.now) same (current-before c.args.number c.args.records.now c.current_of.ensures.versioned c.requires)
