use Rattle.std.proofs.Common.{refl, false, arith, count_by, ◌≡◌, ◌≤◌, ◌<◌, ◌+◌, ◌++◌, ◌∷◌, [], ap, sym, ◌∙◌, not, is_ok, map, filter}
use Rattle.std.proofs.lemmas.Bool.{cond-true, cond-false}
use Rattle.keep_event.specs.Table as machine
use Rattle.keep_event.specs.Table.{is_current, is_current_of, is_held}
use Rattle.keep_table.proofs.Few.{few-updated}
use Rattle.keep_table.proofs.Held.{few-held}
use Rattle.keep_table.proofs.Renewals.{kept-later}
use Rattle.keep_table.proofs.Updates.{kept-not-current}
use Rattle.keep_table.proofs.Versions.{version-le, room-revisions}
use Rattle.keep_table.proofs.Orderly.{orderly-updated, update-keeps-current, updatable-drawn, held-updated, records-below}
use Rattle.keep_table.proofs.table.Table.update.Goals as goal

pub overflow_add-version : goal.overflow_add-version
overflow_add-version c =
    let found : c.current_version-version.result ≤ c.self.inside.revisions =
    rw c.current_version-version.ensures.version (version-le c.self.inside.numbers c.self.inside.revisions (is_current_of c.args.collection) c.self.inside.records c.self.invariant.0.drawn) in
    let room = room-revisions c.args.self.now.state c.requires.room in
    let revisions = ap (λ v. v.state.revisions) c.self.view_is in
    omega arith

pub renew-requires-clause-newest : goal.renew-requires-clause-newest
renew-requires-clause-newest c = rw c.new_record-row.ensures (records-below c.self.inside.numbers c.self.inside.revisions c.self.inside.records c.self.invariant.0.drawn)

pub renew-requires-clause-versions : goal.renew-requires-clause-versions
renew-requires-clause-versions c = rw c.new_record-row.ensures c.current_version-version.ensures.greatest

pub renew-requires-clause-later : goal.renew-requires-clause-later
renew-requires-clause-later c = rw c.kept_until-standing.ensures (kept-later c.self.inside.rules c.args.reading c.args.preserve)

pub invariant_of-self : goal.invariant_of-self
invariant_of-self c =
    let same : c.renew.new.records ≡ c.self.inside.records = c.renew.ensures ∙ cond-false (is_ok c.renew.result) _ _ (c.is_err.ensures.negation ∙ ap not c.if-is_err.true) in
    rw same c.self.invariant

pub invariant_of-self-2 : goal.invariant_of-self-2
invariant_of-self-2 c =
    let found : c.current_version-version.result ≤ c.self.inside.revisions =
    rw c.current_version-version.ensures.version (version-le c.self.inside.numbers c.self.inside.revisions (is_current_of c.args.collection) c.self.inside.records c.self.invariant.0.drawn) in
    let there : c.args.collection ≤ c.self.inside.numbers =
    updatable-drawn c.self.inside.numbers c.args.reading c.args.token c.args.collection c.args.self.now.state c.in_default.field-0 (rw (← c.self.view_is) c.self.invariant.1) (sym c.updatable.ensures ∙ c.in_default.is) in
    let few : count_by (is_held c.args.reading c.args.collection) c.self.inside.records < c.self.inside.rules.versions =
    few-held _ c.self.inside.rules.versions c.too_many.result (rw c.from-versions.ensures at c.too_many.ensures) c.in_default-too_many.is in
    let standing : is_current c.kept_until-standing.result ≡ false = rw c.kept_until-standing.ensures (kept-not-current c.self.inside.rules c.args.reading c.args.preserve) in
    let renewed = c.renew.ensures ∙ cond-true (is_ok c.renew.result) _ _ (c.is_err.ensures.negation ∙ ap not c.if-is_err.false) in
    let after : c.renew.new.records ≡ map (machine.superseded c.args.collection c.kept_until-standing.result) (filter (λ r. not (machine.is_due_of c.args.reading c.args.collection r)) c.self.inside.records) ++ machine.new_record c.args.collection (c.current_version-version.result + 1) (c.self.inside.revisions + 1) c.args.made ∷ [] =
    rw (renewed, c.new_record-row.ensures) refl in
    rw after (
      orderly-updated c.self.inside.numbers c.self.inside.revisions _ (λ r. not (machine.is_due_of c.args.reading c.args.collection r)) c.self.inside.records _ standing refl (update-keeps-current c.args.reading c.args.collection) there (omega arith) refl c.self.invariant.0,
      c.self.invariant.1,
      few-updated c.args.reading c.self.inside.rules.versions c.kept_until-standing.result c.self.inside.records (machine.new_record c.args.collection (c.current_version-version.result + 1) (c.self.inside.revisions + 1) c.args.made) refl c.self.invariant.0.superseded few c.self.invariant.2,
    )

-- fewer versions were held than the rules allow, and the one record that was current joins them
pub returns-clause-versions_bounded : goal.returns-clause-versions_bounded
returns-clause-versions_bounded c =
    let few : count_by (is_held c.args.reading c.args.collection) c.self.inside.records < c.self.inside.rules.versions =
    few-held _ c.self.inside.rules.versions c.too_many.result (rw c.from-versions.ensures at c.too_many.ensures) c.in_default-too_many.is in
    let renewed = c.renew.ensures ∙ cond-true (is_ok c.renew.result) _ _ (c.is_err.ensures.negation ∙ ap not c.if-is_err.false) in
    let after : c.renew.new.records ≡ map (machine.superseded c.args.collection c.kept_until-standing.result) (filter (λ r. not (machine.is_due_of c.args.reading c.args.collection r)) c.self.inside.records) ++ machine.new_record c.args.collection (c.current_version-version.result + 1) (c.self.inside.revisions + 1) c.args.made ∷ [] =
    rw (renewed, c.new_record-row.ensures) refl in
    rw after
    (held-updated c.self.inside.numbers c.self.inside.revisions c.args.reading c.args.collection c.self.inside.rules.versions c.kept_until-standing.result (λ r. not (machine.is_due_of c.args.reading c.args.collection r)) c.self.inside.records (machine.new_record c.args.collection (c.current_version-version.result + 1) (c.self.inside.revisions + 1) c.args.made) refl c.self.invariant.0 few)
