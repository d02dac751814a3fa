use Rattle.std.proofs.Common.{◌≡◌, ◌++◌, ◌∷◌, [], ◌∙◌, ap, not, is_ok, map}
use Rattle.std.proofs.lemmas.Bool.{cond-true, cond-false}
use Rattle.keep_table.specs.Maps.{marked}
use Rattle.keep_table.proofs.Newest.{one-current}
use Rattle.keep_table.proofs.Renewals.{renewed, renewal-undone, current-marked, marked-current, due-marked}
use Rattle.keep_table.proofs.changes.renew.Goals as goal

pub mark-requires : goal.mark-requires
mark-requires c =
    let added : c.add.new.self ≡ c.args.records.now ++ c.args.row ∷ [] = c.add.ensures ∙ cond-true (is_ok c.add.result) _ _ (c.is_err.ensures.negation ∙ ap not c.if-is_err.false) in
    rw (added, c.current_revision-before.ensures)
    (marked-current c.args.row.collection _ c.args.records.now c.args.row c.requires.current (current-marked c.args.row.collection 0 c.args.records.now c.requires.rising (one-current c.args.row.collection c.args.records.now c.requires.superseded)))

pub returns-then-is_err-2 : goal.returns-then-is_err-2
returns-then-is_err-2 c =
    let added : c.add.new.self ≡ c.args.records.now ++ c.args.row ∷ [] = c.add.ensures ∙ cond-true (is_ok c.add.result) _ _ (c.is_err.ensures.negation ∙ ap not c.if-is_err.false) in
    let same : c.mark.new.self ≡ c.add.new.self = c.mark.ensures ∙ cond-false (is_ok c.mark.result) _ _ (c.is_err-2.ensures.negation ∙ ap not c.if-is_err-2.true) in
    rw (c.drop_one.ensures, same, added) (renewal-undone c.args.records.now c.args.row c.requires.newest)

pub returns : goal.returns
returns c =
    let added : c.add.new.self ≡ c.args.records.now ++ c.args.row ∷ [] = c.add.ensures ∙ cond-true (is_ok c.add.result) _ _ (c.is_err.ensures.negation ∙ ap not c.if-is_err.false) in
    let changed : c.mark.new.self ≡ map (marked c.current_revision-before.result c.args.standing) c.add.new.self = c.mark.ensures ∙ cond-true (is_ok c.mark.result) _ _ (c.is_err-2.ensures.negation ∙ ap not c.if-is_err-2.false) in
    let one = one-current c.args.row.collection c.args.records.now c.requires.superseded in
    rw (c.drop_due.ensures, changed, added, c.current_revision-before.ensures)
    (due-marked c.args.reading c.args.row.collection _ c.args.standing (c.args.records.now ++ c.args.row ∷ []) c.requires.later (marked-current c.args.row.collection _ c.args.records.now c.args.row c.requires.current (current-marked c.args.row.collection 0 c.args.records.now c.requires.rising one))
    ∙ renewed c.args.reading c.args.standing c.args.records.now c.args.row c.requires.current c.requires.positive c.requires.newest c.requires.rising one)
