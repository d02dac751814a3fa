-- What a volume remembers of an ascending list.
use Rattle.std.proofs.Common.{◌≡◌, ℕ, ◌+◌, ◌<◌, List, [], ◌∷◌, ◌++◌, length, map, take, take_all, Option, None, Some, option_map, refl, sym, ◌∙◌, ap, arith, subst, Bool, true, false, cond, if◌then◌else◌}
use Rattle.std.specs.Prelude.{sum_by, unwrap_or, IfSome, ◌↔◌}
use Rattle.std.proofs.lemmas.List.{length-take}
use Rattle.std.specs.List.{find as list_find, last_or, filter}
use Rattle.std.specs.declared.cmp.Ordering.{Ordering}
use Rattle.std.specs.declared.cmp.Ordering.TheVariants.{Less, Equal, Greater}
use Rattle.std.specs.Ordering.{match_ordering}
use Rattle.keep_event.specs.Device as machine
use Rattle.keep_event.specs.Device.{State}
use Rattle.keep_event.specs.Store.{Cut, cut, onto, name_cmp, find, put, without, change, move, sizes, sized, size_of, touch, rename, with_time, with_mtime, held_of}
use Rattle.keep_event.specs.declared.names.Name.{Name}
use Rattle.keep_event.specs.declared.names.Stored.{Stored}
use Rattle.keep_event.specs.declared.names.Metadata.{Metadata}
use Rattle.keep_event.specs.declared.names.Held.{Held}
use Rattle.keep_event.specs.declared.lists.TrashItem.{TrashItem}
use Rattle.keep_event.specs.declared.lists.PullItem.{PullItem}
use Rattle.keep_volume.specs.Index.{Remembers, total, size_at, sized_held, due, sized_entry}
use Rattle.keep_volume.proofs.Sums.{sum-cons}

abbrev pub cut_sizes : Cut Stored → Cut Metadata
cut_sizes c = record { front = sizes c.front; at = option_map sized c.at; back = sizes c.back }

cut-sizes-step : (o : Ordering) (e : Name × Stored) (es : List (Name × Stored)) (c : Cut Stored) (d : Cut Metadata) → d ≡ cut_sizes c →
    match_ordering o (record { front = []; at = None; back = sized e ∷ sizes es }) (record { front = []; at = Some (sized e); back = sizes es }) (onto (sized e ∷ []) d)
    ≡ cut_sizes (match_ordering o (record { front = []; at = None; back = e ∷ es }) (record { front = []; at = Some e; back = es }) (onto (e ∷ []) c))
cut-sizes-step Less e es c d h = refl
cut-sizes-step Equal e es c d h = refl
cut-sizes-step Greater e es c d h = ap (onto (sized e ∷ [])) h

pub cut-sizes : (n : Name) (es : List (Name × Stored)) → cut n (sizes es) ≡ cut_sizes (cut n es)
cut-sizes n [] = refl
cut-sizes n (e ∷ es) = cut-sizes-step (name_cmp n e.0) e es (cut n es) (cut n (sizes es)) (cut-sizes n es)

find-sizes-at : (o : Option (Name × Stored)) → option_map (λ (e : Name × Metadata). e.1) (option_map sized o) ≡ option_map size_of (option_map (λ (e : Name × Stored). e.1) o)
find-sizes-at None = refl
find-sizes-at (Some e) = refl

pub find-sizes : (n : Name) (es : List (Name × Stored)) → find n (sizes es) ≡ option_map size_of (find n es)
find-sizes n es = ap (λ (c : Cut Metadata). option_map (λ (e : Name × Metadata). e.1) c.at) (cut-sizes n es) ∙ find-sizes-at (cut n es).at

sizes-append : (xs ys : List (Name × Stored)) → sizes (xs ++ ys) ≡ sizes xs ++ sizes ys
sizes-append [] ys = refl
sizes-append (x ∷ xs) ys = ap (λ v. sized x ∷ v) (sizes-append xs ys)

pub put-sizes : (n : Name) (x : Stored) (es : List (Name × Stored)) → put n (size_of x) (sizes es) ≡ sizes (put n x es)
put-sizes n x es = ap (λ (c : Cut Metadata). c.front ++ (n, size_of x) ∷ c.back) (cut-sizes n es) ∙ sym (sizes-append (cut n es).front ((n, x) ∷ (cut n es).back))

pub without-sizes : (n : Name) (es : List (Name × Stored)) → without n (sizes es) ≡ sizes (without n es)
without-sizes n es = ap (λ (c : Cut Metadata). c.front ++ c.back) (cut-sizes n es) ∙ sym (sizes-append (cut n es).front (cut n es).back)

-- ---- what is told and what is remembered
pub known-told : (n : Name) (held : Option (List (Name × Stored))) (index : List (Name × Metadata)) → Remembers held index → IfSome held (λ es. find n index ≡ option_map size_of (find n es))
known-told n None index h = tt
known-told n (Some es) index h = ap (find n) h ∙ find-sizes n es

-- what the store makes of its list and what the device makes of its own
pub both-change : (held held' : Option (List (Name × Stored))) (index index' : List (Name × Metadata)) (h : List (Name × Stored) → List (Name × Stored)) (k : List (Name × Metadata) → List (Name × Metadata)) → Remembers held index
    → held' ≡ option_map h held → index' ≡ k index → ((es : List (Name × Stored)) → k (sizes es) ≡ sizes (h es)) → Remembers held' index'
both-change held held' index index' h k r e i same = subst (λ v. Remembers v index') (sym e) (subst (λ v. Remembers (option_map h held) v) (sym i) (told held r))
  where
    told : (held : Option (List (Name × Stored))) → Remembers held index → Remembers (option_map h held) (k index)
    told None r = tt
    told (Some es) r = ap k r ∙ same es

change-sizes : (n : Name) (m : ℕ) (es : List (Name × Stored)) (o : Option Stored) → change (with_mtime m) n (sizes es) (option_map size_of o) ≡ sizes (touch n m es o)
change-sizes n m es None = refl
change-sizes n m es (Some r) = put-sizes n (with_time m r) es

pub touch-sizes : (n : Name) (m : ℕ) (es : List (Name × Stored)) → change (with_mtime m) n (sizes es) (find n (sizes es)) ≡ sizes (touch n m es (find n es))
touch-sizes n m es = ap (change (with_mtime m) n (sizes es)) (find-sizes n es) ∙ change-sizes n m es (find n es)

move-sizes : (from to : Name) (m : ℕ) (es : List (Name × Stored)) (o : Option Stored) → move (with_mtime m) from to (sizes es) (option_map size_of o) ≡ sizes (rename from to m es o)
move-sizes from to m es None = refl
move-sizes from to m es (Some r) = ap (put to (size_of (with_time m r))) (without-sizes from es) ∙ put-sizes to (with_time m r) (without from es)

pub rename-sizes : (from to : Name) (m : ℕ) (es : List (Name × Stored)) → move (with_mtime m) from to (sizes es) (find from (sizes es)) ≡ sizes (rename from to m es (find from es))
rename-sizes from to m es = ap (move (with_mtime m) from to (sizes es)) (find-sizes from es) ∙ move-sizes from to m es (find from es)

used-sizes : (es : List (Name × Stored)) → machine.used es ≡ sum_by (λ e. e.1.size) (sizes es)
used-sizes [] = refl
used-sizes (e ∷ es) = sum-cons (λ (s : Stored). length s.bytes) e es ∙ ap (λ v. length e.1.bytes + v) (used-sizes es) ∙ sym (sum-cons (λ (s : Metadata). s.size) (sized e) (sizes es))

taken-at : (o : Option Stored) → machine.taken_by o ≡ unwrap_or (option_map (λ (s : Metadata). s.size) (option_map size_of o)) 0
taken-at None = refl
taken-at (Some r) = refl

pub counts-told : (n : Name) (held : Option (List (Name × Stored))) (index : List (Name × Metadata)) → Remembers held index → IfSome held (λ es. (machine.used es ≡ total index) × (machine.taken_by (find n es) ≡ size_at n index))
counts-told n None index r = tt
counts-told n (Some es) index r = (
  used-sizes es ∙ ap total (sym r),
  taken-at (find n es) ∙ ap (λ (o : Option Metadata). unwrap_or (option_map (λ (s : Metadata). s.size) o) 0) (sym (find-sizes n es) ∙ ap (find n) (sym r)),
)

-- ---- what is remembered of the names that a store gives
take-short : {A : Type 0} (n : ℕ) (xs : List A) → length (take n xs) < n → take n xs ≡ xs
take-short n xs lt = take_all n xs (grind (arith, length-take n xs))

sizes-held : (es : List (Name × Stored)) → map sized_held (map held_of es) ≡ sizes es
sizes-held [] = refl
sizes-held (e ∷ es) = ap (λ v. sized e ∷ v) (sizes-held es)

pub opened-names : (held : Option (List (Name × Stored))) (names : List Held) (limit : ℕ) → length names < limit → IfSome held (λ es. names ≡ take limit (map held_of es)) → IfSome held (λ es. map sized_held names ≡ sizes es)
opened-names None names limit lt h = tt
opened-names (Some es) names limit lt h = ap (map sized_held) (h ∙ take-short limit (map held_of es) (subst (λ v. length v < limit) h lt)) ∙ sizes-held es

-- ---- the first that is due
first-step : (reading : ℕ) (b : Bool) (e : Name × Stored) (es : List (Name × Stored)) → option_map (λ (e : Name × Metadata). e.0) (list_find (due reading) (sizes es)) ≡ option_map (λ (e : Name × Stored). e.0) (list_find (machine.is_due reading) es)
    → option_map (λ (e : Name × Metadata). e.0) (if b then Some (sized e) else list_find (due reading) (sizes es)) ≡ option_map (λ (e : Name × Stored). e.0) (if b then Some e else list_find (machine.is_due reading) es)
first-step reading true e es h = refl
first-step reading false e es h = h

first-sizes : (reading : ℕ) (es : List (Name × Stored)) → option_map (λ (e : Name × Metadata). e.0) (list_find (due reading) (sizes es)) ≡ option_map (λ (e : Name × Stored). e.0) (list_find (machine.is_due reading) es)
first-sizes reading [] = refl
first-sizes reading (e ∷ es) = first-step reading (machine.is_due reading e) e es (first-sizes reading es)

pub first-told : (reading : ℕ) (held : Option (List (Name × Stored))) (index : List (Name × Metadata)) → IfSome held (λ es. index ≡ sizes es) → IfSome held (λ es. option_map (λ (e : Name × Metadata). e.0) (list_find (due reading) index) ≡ option_map (λ (e : Name × Stored). e.0) (list_find (machine.is_due reading) es))
first-told reading None index h = tt
first-told reading (Some es) index h = ap (λ v. option_map (λ (e : Name × Metadata). e.0) (list_find (due reading) v)) h ∙ first-sizes reading es

-- ---- the last copy
last-step : (digest : List ℕ) (b : Bool) (o : Option (Name × Stored)) (e : Name × Stored) (es : List (Name × Stored))
    → ((o : Option (Name × Stored)) → last_or (option_map sized o) (filter (λ e. machine.is_copy_of digest e.0) (sizes es)) ≡ option_map sized (last_or o (filter (λ e. machine.is_copy_of digest e.0) es)))
    → last_or (option_map sized o) (cond b (sized e ∷ filter (λ e. machine.is_copy_of digest e.0) (sizes es)) (filter (λ e. machine.is_copy_of digest e.0) (sizes es))) ≡ option_map sized (last_or o (cond b (e ∷ filter (λ e. machine.is_copy_of digest e.0) es) (filter (λ e. machine.is_copy_of digest e.0) es)))
last-step digest true o e es h = h (Some e)
last-step digest false o e es h = h o

last-sizes : (digest : List ℕ) (es : List (Name × Stored)) (o : Option (Name × Stored)) → last_or (option_map sized o) (filter (λ e. machine.is_copy_of digest e.0) (sizes es)) ≡ option_map sized (last_or o (filter (λ e. machine.is_copy_of digest e.0) es))
last-sizes digest [] o = refl
last-sizes digest (e ∷ es) o = last-step digest (machine.is_copy_of digest e.0) o e es (last-sizes digest es)

pub last-told : (digest : List ℕ) (held : Option (List (Name × Stored))) (index : List (Name × Metadata)) → IfSome held (λ es. index ≡ sizes es) → IfSome held (λ es. last_or None (filter (λ e. machine.is_copy_of digest e.0) index) ≡ option_map sized (machine.last_copy digest es))
last-told digest None index h = tt
last-told digest (Some es) index h = ap (λ v. last_or None (filter (λ e. machine.is_copy_of digest e.0) v)) h ∙ last-sizes digest es None

-- ---- a page
page-step : (prefix : List ℕ) (b : Bool) (e : Name × Stored) (xs : List (Name × Metadata)) (ys : List (Name × Stored)) → map sized_entry xs ≡ map machine.entry_of ys
    → map sized_entry (cond b (sized e ∷ xs) xs) ≡ map machine.entry_of (cond b (e ∷ ys) ys)
page-step prefix true e xs ys h = ap (λ v. machine.entry_of e ∷ v) h
page-step prefix false e xs ys h = h

page-sizes : (prefix : List ℕ) (es : List (Name × Stored)) → map sized_entry (filter (λ e. machine.is_paged prefix e.0) (sizes es)) ≡ map machine.entry_of (filter (λ e. machine.is_paged prefix e.0) es)
page-sizes prefix [] = refl
page-sizes prefix (e ∷ es) = page-step prefix (machine.is_paged prefix e.0) e _ _ (page-sizes prefix es)

pub page-told : (prefix : List ℕ) (held : Option (List (Name × Stored))) (index : List (Name × Metadata)) → IfSome held (λ es. index ≡ sizes es) → IfSome held (λ es. map sized_entry (filter (λ e. machine.is_paged prefix e.0) index) ≡ map machine.entry_of (filter (λ e. machine.is_paged prefix e.0) es))
page-told prefix None index h = tt
page-told prefix (Some es) index h = ap (λ v. map sized_entry (filter (λ e. machine.is_paged prefix e.0) v)) h ∙ page-sizes prefix es

-- ---- an empty device
no-sizes : (es : List (Name × Stored)) → sizes es ≡ [] → es ≡ []
no-sizes [] e = refl
no-sizes (e ∷ es) f = cc f

pub empty-told : (held : Option (List (Name × Stored))) (index : List (Name × Metadata)) (round : ℕ) (trash : List TrashItem) (pull : List PullItem) (b : Bool) → IfSome held (λ es. index ≡ sizes es)
    → (b ≡ true → (round ≡ 0) × (index ≡ []) × (trash ≡ []) × (pull ≡ [])) → (index ≡ [] → round ≡ 0 → trash ≡ [] → pull ≡ [] → b ≡ true)
    → IfSome (option_map (λ (es : List (Name × Stored)). let s : State = record { held = es; round = round; trash = trash; pull = pull } in s) held) (λ s. (b ≡ true) ↔ (s ≡ machine.initial))
empty-told None index round trash pull b h f t = tt
empty-told (Some es) index round trash pull b h f t = (
  (λ e. let p = f e in let q : es ≡ [] = no-sizes es (sym h ∙ p.1) in cc (p.0, p.2, p.3, q)),
  (λ e. t (h ∙ ap (λ (s : State). sizes s.held) e) (ap (λ (s : State). s.round) e) (ap (λ (s : State). s.trash) e) (ap (λ (s : State). s.pull) e)),
)
