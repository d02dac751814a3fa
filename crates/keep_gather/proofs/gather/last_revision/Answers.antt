use Rattle.std.proofs.Common.{◌≡◌, ◌-◌, ℕ, suc, List, [], ◌∷◌, map, length, Option, Some, None, ap, sym, subst, arith}
use Rattle.std.specs.Prelude.{slice_get, unwrap_or}
use Rattle.std.specs.List.{last_or}
use Rattle.keep_event.specs.declared.table.ScanRow.{ScanRow}
use Rattle.keep_gather.proofs.gather.last_revision.Goals as goal

-- the last of a list, by its place
last-at : (o : Option ℕ) (rows : List ScanRow) (r : ScanRow) → slice_get rows (length rows - 1) ≡ Some r → last_or o (map (λ (x : ScanRow). x.revision) rows) ≡ Some r.revision
last-at o [] r e = cc e
last-at o (x ∷ []) r e = let s : x ≡ r = cc e in ap (λ (y : ScanRow). Some y.revision) s
last-at o (x ∷ y ∷ ys) r e = last-at (Some x.revision) (y ∷ ys) r (subst (λ n. slice_get (x ∷ y ∷ ys) n ≡ Some r) (let s : length (x ∷ y ∷ ys) - 1 ≡ suc (length (y ∷ ys) - 1) = omega arith in s) e)

pub returns-in-Some : goal.returns-in-Some
returns-in-Some c =
    let is = last-at None c.args.rows.now c.in-Some.row.now (sym c.in-Some.ensures.value) in
    sym (ap (λ o. unwrap_or o c.args.after) is)
