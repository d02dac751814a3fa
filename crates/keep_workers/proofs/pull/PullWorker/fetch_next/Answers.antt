use Rattle.std.proofs.Common.{◌≡◌, ◌∙◌, [], sym}
use Rattle.std.proofs.lemmas.Bool.{eqb-true}
use Rattle.std.proofs.lemmas.List.{nil_from_length}
use Rattle.keep_workers.proofs.pull.PullWorker.fetch_next.Goals as goal

pub returns-then-is_empty-clause-moved : goal.returns-then-is_empty-clause-moved
returns-then-is_empty-clause-moved c =
    let none : c.args.self.now.sources.items ≡ [] = nil_from_length c.args.self.now.sources.items (sym c.args.self.now.sources.ok.0 ∙ eqb-true c.args.self.now.sources.len 0 (sym c.if-is_empty.ensures)) in
    rw none c.item_failed.ensures.moved
