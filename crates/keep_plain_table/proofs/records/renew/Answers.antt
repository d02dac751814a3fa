use Rattle.std.proofs.Common.{◌≡◌, ◌++◌, ◌∷◌, [], ◌∙◌, map, filter, not, ap, sym, length, take, drop, rules}
use Rattle.std.proofs.Math.Seq.{take-append_seam}
use Rattle.keep_event.specs.Table.{superseded, is_due_of}
use Rattle.keep_plain_table.proofs.Renewals.{renewed}
use Rattle.keep_plain_table.proofs.records.renew.Goals as goal

pub returns-clause-ok : goal.returns-clause-ok
returns-clause-ok c =
    let n = c.args.row.collection in
    let changed : c.supersede.new.records ≡ map (superseded n c.args.standing) c.args.records.now.items = search rules in
    let long : length c.supersede.new.records ≡ c.reserve.new.self.len = search rules in
    let pushed : c.push.new.self.items ≡ take c.reserve.new.self.len (c.supersede.new.records ++ drop (length c.supersede.new.records) c.reserve.new.self.items) ++ c.args.row ∷ [] = c.in-Ok.ensures.items in
    let seam : take c.reserve.new.self.len (c.supersede.new.records ++ drop (length c.supersede.new.records) c.reserve.new.self.items) ≡ c.supersede.new.records = ap (λ m. take m (c.supersede.new.records ++ drop (length c.supersede.new.records) c.reserve.new.self.items)) (sym long) ∙ take-append_seam c.supersede.new.records _ in
    c.drop_due.ensures ∙ ap (filter (λ r. not (is_due_of c.args.reading n r))) (pushed ∙ ap (λ xs. xs ++ c.args.row ∷ []) (seam ∙ changed)) ∙ renewed c.args.reading c.args.standing c.args.row c.args.records.now.items c.requires.later c.requires.current
