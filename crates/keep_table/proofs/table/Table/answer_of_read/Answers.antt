use Rattle.std.proofs.Common.{◌≡◌, Some, None, refl, sym, ◌∙◌, ap}
use Rattle.std.specs.Prelude.{IfOk}
use Rattle.std.specs.List.{find}
use Rattle.std.proofs.lemmas.Result.{IfOk-weaker}
use Rattle.keep_event.specs.Table.{is_readable, row_answer, stays}
use Rattle.keep_table.proofs.ReadCases.{read-absent, read-refused, read-found}
use Rattle.keep_table.proofs.table.Table.answer_of_read.Goals as goal

pub returns-in_default : goal.returns-in_default
returns-in_default c =
    let absent : find (is_readable c.args.collection c.args.version) c.args.self.now.state.records ≡ None =
    rw (← c.self.view_is, ← c.version_of.ensures, c.in_default.is) refl in
    read-absent _ c.args.reading c.args.token _ _ _ absent

pub returns-in-Err : goal.returns-in-Err
returns-in-Err c =
    let there : find (is_readable c.args.collection c.args.version) c.args.self.now.state.records ≡ Some c.in-Some.row.now =
    rw (← c.self.view_is, ← c.version_of.ensures, c.in-Some.is) refl in
    read-refused _ c.args.reading _ _ _ _ _ c.in-Err.refusal there (sym c.owned.ensures ∙ c.in-Err.is)

pub returns : goal.returns
returns c =
    let there : find (is_readable c.args.collection c.args.version) c.args.self.now.state.records ≡ Some c.in-Some.row.now =
    rw (← c.self.view_is, ← c.version_of.ensures, c.in-Some.is) refl in
    let whole = read-found c.args.self.now.rules c.args.reading c.args.token c.args.collection c.args.version c.args.self.now.state c.in-Some.row.now c.in-Ok.found there (sym c.owned.ensures ∙ c.in-Ok.is) in
    let answered : IfOk c.row_answer.result (λ a. a ≡ row_answer c.args.self.now.rules c.args.reading c.in-Some.row.now c.in-Ok.found) = rw (← c.self.view_is) c.row_answer.ensures in
    IfOk-weaker c.row_answer.result (λ a. a ≡ row_answer c.args.self.now.rules c.args.reading c.in-Some.row.now c.in-Ok.found) _
    (λ a e. whole ∙ ap (λ a. stays a c.args.self.now.state) (sym e)) answered
