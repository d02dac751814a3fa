-- A walk over records in the order of their revisions.
use Rattle.std.proofs.Common.{◌≡◌, ◌<◌, ◌+◌, ℕ, List, [], ◌∷◌, Bool, true, false, map, filter, length, Some, None, refl, ap, sym, ◌∙◌, ◌++◌, append_assoc, append-nil, length-append, arith}
use Rattle.std.specs.Prelude.{count_by}
use Rattle.std.specs.List.{find}
use Rattle.std.proofs.lemmas.Bool.{cond-true, cond-false}
use Rattle.std.proofs.lemmas.List.Sums.{length-filter}
use Rattle.keep_event.specs.Table.{row_of, rows_above}
use Rattle.keep_event.specs.declared.table.Record.{Record}
use Rattle.keep_event.specs.declared.table.ScanRow.{ScanRow}
use Rattle.keep_table.specs.Contents.{RisesAbove}
use Rattle.keep_table.specs.Maps.{is_next, any_record, revisions_of}
use Rattle.keep_table.proofs.Steps.{next-more, next-none, later-all}

abbrev pub revision : Record → ℕ
revision r = r.revision

-- ---- the steps of a walk

-- one more is counted
pub counted : (b p : Record → Bool) (a n total : ℕ) (rs : List Record) (row : Record) → ((r : Record) → p r ≡ true → b r ≡ true) → RisesAbove 0 (revisions_of rs) → find (is_next b a) rs ≡ Some row → p row ≡ true →
    n + length (filter (is_next p a) rs) ≡ total → n + 1 + length (filter (is_next p row.revision) rs) ≡ total
counted b p a n total rs row wider h e pass sum = let more : filter (is_next p a) rs ≡ row ∷ filter (is_next p row.revision) rs = next-more revision b p a 0 rs row wider h e ∙ cond-true (p row) _ _ pass in let longer = ap length more in omega arith

-- one that doesn't pass isn't
pub skipped : (b p : Record → Bool) (a : ℕ) (rs : List Record) (row : Record) → ((r : Record) → p r ≡ true → b r ≡ true) → RisesAbove 0 (revisions_of rs) → find (is_next b a) rs ≡ Some row → p row ≡ false →
    filter (is_next p a) rs ≡ filter (is_next p row.revision) rs
skipped b p a rs row wider h e no_pass = next-more revision b p a 0 rs row wider h e ∙ cond-false (p row) _ _ no_pass

pub counted-all : (b p : Record → Bool) (a n : ℕ) (rs : List Record) → ((r : Record) → p r ≡ true → b r ≡ true) → RisesAbove 0 (revisions_of rs) → find (is_next b a) rs ≡ None →
    n + length (filter (is_next p a) rs) ≡ length (filter (is_next p 0) rs) → n ≡ count_by p rs
counted-all b p a n rs wider h e sum =
    let ended = ap length (next-none revision b p a rs wider e) in
    let started = ap length (later-all revision p 0 0 rs (omega arith) h) in
    let all = length-filter p rs in
    omega arith

-- ---- scans

-- the rows above a revision are that of the next record, and those above it
pub rows-next : (a : ℕ) (rs : List Record) (row : Record) → RisesAbove 0 (revisions_of rs) → find (is_next any_record a) rs ≡ Some row → rows_above a rs ≡ row_of row ∷ rows_above row.revision rs
rows-next a rs row h e = ap (λ xs. map row_of xs) (next-more revision any_record any_record a 0 rs row (λ r t. refl) h e)

pub rows-none : (a : ℕ) (rs : List Record) → find (is_next any_record a) rs ≡ None → rows_above a rs ≡ []
rows-none a rs e = ap (λ xs. map row_of xs) (next-none revision any_record any_record a rs (λ r t. refl) e)

pub rows-longer : (front back all : List ScanRow) (x : ScanRow) (rest : List ScanRow) → front ++ back ≡ all → back ≡ x ∷ rest → length front < length all
rows-longer front back all x rest whole e =
    let sum = length-append front back in
    let total = ap length whole in
    let more = ap length e in
    omega arith

pub rows-step : (front back all : List ScanRow) (x : ScanRow) (rest : List ScanRow) → front ++ back ≡ all → back ≡ x ∷ rest → (front ++ x ∷ []) ++ rest ≡ all
rows-step front back all x rest whole e = rw append_assoc (ap (λ ys. front ++ ys) (sym e) ∙ whole)

pub rows-all : (front back all : List ScanRow) → front ++ back ≡ all → back ≡ [] → front ≡ all
rows-all front back all whole e = sym (append-nil front) ∙ ap (λ ys. front ++ ys) (sym e) ∙ whole
