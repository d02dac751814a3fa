-- What a read answers, case by case.
use Rattle.std.proofs.Common.{◌≡◌, ℕ, Option, Some, None, refl}
use Rattle.std.specs.Prelude.{Ok, Err}
use Rattle.std.specs.List.{find}
use Rattle.keep_event.specs.Table.{State, read, stays, owned, is_readable, row_answer}
use Rattle.keep_event.specs.declared.table.TableRules.{TableRules}
use Rattle.keep_event.specs.declared.table.Record.{Record}
use Rattle.keep_event.specs.declared.table.Collection.{Collection}
use Rattle.keep_event.specs.declared.table.TableAnswer.{TableAnswer}
use Rattle.keep_event.specs.declared.table.TableAnswer.TheVariants.{NoSuch}
use Rattle.keep_spec.specs.declared.token.TokenId.{TokenId}

pub read-absent : (rules : TableRules) (reading : ℕ) (token : TokenId) (number : ℕ) (version : Option ℕ) (s : State) →
    find (is_readable number version) s.records ≡ None → read rules reading token number version s ≡ stays NoSuch s
unfolding read
read-absent rules reading token number version s e = rw e refl

pub read-refused : (rules : TableRules) (reading : ℕ) (token : TokenId) (number : ℕ) (version : Option ℕ) (s : State) (r : Record) (refusal : TableAnswer) →
    find (is_readable number version) s.records ≡ Some r → owned token number s ≡ Err refusal → read rules reading token number version s ≡ stays refusal s
unfolding read
read-refused rules reading token number version s r refusal e o = rw (e, o) refl

pub read-found : (rules : TableRules) (reading : ℕ) (token : TokenId) (number : ℕ) (version : Option ℕ) (s : State) (r : Record) (x : Collection) →
    find (is_readable number version) s.records ≡ Some r → owned token number s ≡ Ok x → read rules reading token number version s ≡ stays (row_answer rules reading r x) s
unfolding read
read-found rules reading token number version s r x e o = rw (e, o) refl
