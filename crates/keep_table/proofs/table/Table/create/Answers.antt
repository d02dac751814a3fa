use Rattle.std.proofs.Common.{◌≡◌, ◌+◌, ◌++◌, ◌∷◌, [], refl, arith, ◌∙◌, ap, not, filter, is_ok, nat_eq}
use Rattle.std.proofs.lemmas.Bool.{cond-true, cond-false}
use Rattle.keep_event.specs.Table as machine
use Rattle.keep_table.proofs.Few.{few-pushed}
use Rattle.keep_table.proofs.Later.{none-before}
use Rattle.keep_table.proofs.Orderly.{none-of-next, orderly-created, collections-created, collection-undone}
use Rattle.keep_table.proofs.table.Table.create.Goals as goal

-- the collection is new
pub add-requires-2-clause-later : goal.add-requires-2-clause-later
add-requires-2-clause-later c = rw c.new_record-record.ensures (none-before (c.self.inside.numbers + 1) 1 c.self.inside.records (none-of-next c.self.inside.numbers c.self.inside.revisions (c.self.inside.numbers + 1) c.self.inside.records (omega arith) c.self.invariant.0.drawn))

pub invariant_of-self-then-is_err-2 : goal.invariant_of-self-then-is_err-2
invariant_of-self-then-is_err-2 c =
    let with_it : c.add.new.self ≡ c.self.inside.collections ++ machine.new_collection (c.self.inside.numbers + 1) c.args.owner ∷ [] = c.add.ensures ∙ cond-true (is_ok c.add.result) _ _ (c.is_err.ensures.negation ∙ ap not c.if-is_err.false) ∙ ap (λ x. c.self.inside.collections ++ x ∷ []) c.new_collection.ensures in
    let undone : c.drop_one.new.self ≡ c.self.inside.collections = c.drop_one.ensures ∙ ap (λ xs. filter (λ x. not (nat_eq x.number (c.self.inside.numbers + 1))) xs) with_it ∙ collection-undone c.self.inside.numbers c.self.inside.collections (machine.new_collection (c.self.inside.numbers + 1) c.args.owner) refl c.self.invariant.1 in
    let same : c.add-2.new.self ≡ c.self.inside.records = c.add-2.ensures ∙ cond-false (is_ok c.add-2.result) _ _ (c.is_err-2.ensures.negation ∙ ap not c.if-is_err-2.true) in
    rw (undone, same) c.self.invariant

pub returns-then-is_err-2 : goal.returns-then-is_err-2
returns-then-is_err-2 c =
    let with_it : c.add.new.self ≡ c.self.inside.collections ++ machine.new_collection (c.self.inside.numbers + 1) c.args.owner ∷ [] = c.add.ensures ∙ cond-true (is_ok c.add.result) _ _ (c.is_err.ensures.negation ∙ ap not c.if-is_err.false) ∙ ap (λ x. c.self.inside.collections ++ x ∷ []) c.new_collection.ensures in
    let undone : c.drop_one.new.self ≡ c.self.inside.collections = c.drop_one.ensures ∙ ap (λ xs. filter (λ x. not (nat_eq x.number (c.self.inside.numbers + 1))) xs) with_it ∙ collection-undone c.self.inside.numbers c.self.inside.collections (machine.new_collection (c.self.inside.numbers + 1) c.args.owner) refl c.self.invariant.1 in
    let same : c.add-2.new.self ≡ c.self.inside.records = c.add-2.ensures ∙ cond-false (is_ok c.add-2.result) _ _ (c.is_err-2.ensures.negation ∙ ap not c.if-is_err-2.true) in
    rw (← c.self.view_is, undone, same) refl

pub invariant_of-self-2 : goal.invariant_of-self-2
invariant_of-self-2 c =
    let collections : c.add.new.self ≡ c.self.inside.collections ++ machine.new_collection (c.self.inside.numbers + 1) c.args.owner ∷ [] = c.add.ensures ∙ cond-true (is_ok c.add.result) _ _ (c.is_err.ensures.negation ∙ ap not c.if-is_err.false) ∙ ap (λ x. c.self.inside.collections ++ x ∷ []) c.new_collection.ensures in
    let records : c.add-2.new.self ≡ c.self.inside.records ++ machine.new_record (c.self.inside.numbers + 1) 1 (c.self.inside.revisions + 1) c.args.made ∷ [] = c.add-2.ensures ∙ cond-true (is_ok c.add-2.result) _ _ (c.is_err-2.ensures.negation ∙ ap not c.if-is_err-2.false) ∙ ap (λ x. c.self.inside.records ++ x ∷ []) c.new_record-record.ensures in
    rw (collections, records) (
      orderly-created c.self.inside.numbers c.self.inside.revisions c.self.inside.records _ refl refl (omega arith) refl c.self.invariant.0,
      collections-created c.self.inside.numbers c.self.inside.collections _ refl c.self.invariant.1,
      few-pushed c.self.inside.rules.versions c.self.inside.records _ refl c.self.invariant.2,
    )
