-- What an index remembers of names that come in their order.
use Rattle.std.proofs.Common.{◌≡◌, ℕ, zero, suc, ◌+◌, ◌<◌, List, [], ◌∷◌, ◌++◌, length, map, take, drop, get_or, sym, ◌∙◌, ap, subst, arith, zero-add}
use Rattle.std.proofs.lemmas.List.Sums.{sum_by-append}
use Rattle.keep_event.specs.Store.{put, IsAscending, AreAscending}
use Rattle.keep_event.specs.declared.names.Name.{Name}
use Rattle.keep_event.specs.declared.names.Metadata.{Metadata}
use Rattle.keep_event.specs.declared.names.Held.{Held}
use Rattle.keep_store.proofs.Cuts.{put-next}
use Rattle.keep_volume.specs.Index.{total, sized_held}
use Rattle.keep_volume.proofs.Passes.{held-ascends}

split : (names : List Held) (i : ℕ) (h : Held) → i < length names → h ≡ get_or names i h → map sized_held names ≡ map sized_held (take i names) ++ sized_held h ∷ map sized_held (drop (suc i) names)
split [] i h lt is = absurd (omega arith)
split (x ∷ xs) zero h lt is = ap (λ y. sized_held y ∷ map sized_held xs) (sym is)
split (x ∷ xs) (suc i) h lt is = ap (λ v. sized_held x ∷ v) (split xs i h (omega arith) is)

joined : (names : List Held) (i : ℕ) (h : Held) → i < length names → h ≡ get_or names i h → map sized_held (take i names) ++ sized_held h ∷ [] ≡ map sized_held (take (suc i) names)
joined [] i h lt is = absurd (omega arith)
joined (x ∷ xs) zero h lt is = ap (λ y. sized_held y ∷ []) is
joined (x ∷ xs) (suc i) h lt is = ap (λ v. sized_held x ∷ v) (joined xs i h (omega arith) is)

pub next-name : (names : List Held) (i : ℕ) (h : Held) → i < length names → h ≡ get_or names i h → AreAscending (map (λ h. h.name) names) → put h.name (sized_held h).1 (map sized_held (take i names)) ≡ map sized_held (take (suc i) names)
next-name names i h lt is s =
    put-next (map sized_held (take i names)) (map sized_held (drop (suc i) names)) h.name (sized_held h).1 (subst IsAscending (split names i h lt is) (held-ascends names s)) ∙ joined names i h lt is

pub next-total : (names : List Held) (i : ℕ) (h : Held) → i < length names → h ≡ get_or names i h → total (map sized_held (take (suc i) names)) ≡ total (map sized_held (take i names)) + h.size
next-total names i h lt is =
    ap total (sym (joined names i h lt is)) ∙ sum_by-append (λ (e : Name × Metadata). e.1.size) (map sized_held (take i names)) (sized_held h ∷ [])
    ∙ ap (λ v. total (map sized_held (take i names)) + v) (zero-add h.size)
