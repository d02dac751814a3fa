-- The first fault of a list of files, and the map from paths to places.
-- Laws: `fault_name`, `fault_twice`, `fault_none`, `fault_end`, `no_fault`, `paths_good`, `has_path`, `entries_more`, `within_more`.
use Rattle.std.proofs.Common.{◌≡◌, ℕ, ◌+◌, ◌<◌, ◌≤◌, Bool, true, false, not, ◌||◌, cond, ltb, List, [], ◌∷◌, ◌++◌, length, take, drop, get_or, map, Option, Some, None, refl, ap, sym, ◌∙◌, arith}
use Rattle.std.specs.Prelude.{fold, is_some}
use Rattle.std.specs.Option.{option_map}
use Rattle.std.specs.Ordering.{match_ordering}
use Rattle.std.specs.declared.cmp.Ordering.{Ordering}
use Rattle.std.specs.declared.cmp.Ordering.TheVariants.{Less, Equal, Greater}
use Rattle.std.specs.List.{list_all, list_any}
use Rattle.std.specs.BTreeMap.{insert_entry}
use Rattle.std.specs.Str.{bytes_eq}
use Rattle.std.proofs.lemmas.Bool.{and_parts, and_from}
use Rattle.std.proofs.lemmas.List.{at_drop_more, at_drop_all, map_more, length-take, length-map}
use Rattle.std.proofs.lemmas.List.Sums.{fold_more}
use Rattle.std.proofs.lemmas.Map.Made.{lookup-map_values}
use Rattle.std.proofs.lemmas.Map.Text.{is_eq-slice_cmp}
use Rattle.keep_spec.specs.Names.{is_path}
use Rattle.keep_normal.specs.Grouped.{byte_order}
use Rattle.keep_normal.proofs.Grouping.{has_key, found}
use Rattle.keep_normal.proofs.OrderedEntries.{lookup-insert}
use Rattle.keep_files.specs.Layout.{by_path}
use Rattle.keep_files.specs.Packed.{fault_after, or_else, first_fault}
use Rattle.keep_files.specs.Places.{file_at, entry_at}
use Rattle.keep_files.specs.declared.file.FileIn.{FileIn}
use Rattle.keep_files.specs.declared.fault.PackError.{PackError}
use Rattle.keep_files.specs.declared.fault.PackError.TheVariants.{BadName, Twice}
use Rattle.keep_files.proofs.Regrouped.{insert-mapped}

abbrev pub paths : List FileIn → List (List ℕ)
paths fs = map (λ (f : FileIn). f.path) fs

-- Faults.

fault_here : (fs : List FileIn) (i : ℕ) (f : FileIn) → i < length fs → f ≡ get_or fs i f
    → first_fault (paths (take i fs)) (drop i fs) ≡ or_else (fault_after (paths (take i fs)) f.path) (first_fault (paths (take (i + 1) fs)) (drop (i + 1) fs))
unfolding first_fault
fault_here fs i f inside at =
    at_drop_more (first_fault (paths (take i fs))) fs i f inside
    ∙ ap (λ (g : FileIn). or_else (fault_after (paths (take i fs)) g.path) (first_fault (paths (take i fs) ++ g.path ∷ []) (drop (i + 1) fs))) (sym at)
    ∙ ap (λ (g : FileIn). or_else (fault_after (paths (take i fs)) f.path) (first_fault (paths (take i fs) ++ g.path ∷ []) (drop (i + 1) fs))) at
    ∙ ap (λ ps. or_else (fault_after (paths (take i fs)) f.path) (first_fault ps (drop (i + 1) fs))) (sym (map_more (λ (g : FileIn). g.path) fs i f inside))

earlier : (fs : List FileIn) (i : ℕ) → i < length fs → length (paths (take i fs)) ≡ i
earlier fs i inside = length-map (take i fs) (λ (f : FileIn). f.path) ∙ length-take i fs ∙ omega arith

pub fault_name : (fs : List FileIn) (i : ℕ) (f : FileIn) (all : Option PackError) → i < length fs → f ≡ get_or fs i f → all ≡ first_fault (paths (take i fs)) (drop i fs) → is_path f.path ≡ false → all ≡ Some (BadName i)
fault_name fs i f all inside at so_far bad =
    so_far ∙ fault_here fs i f inside at
    ∙ ap (λ b. or_else (cond (not b) (Some (BadName (length (paths (take i fs))))) (cond (list_any (bytes_eq f.path) (paths (take i fs))) (Some (Twice (length (paths (take i fs))))) None)) (first_fault (paths (take (i + 1) fs)) (drop (i + 1) fs))) bad
    ∙ ap (λ n. Some (BadName n)) (earlier fs i inside)

pub fault_twice : (fs : List FileIn) (i : ℕ) (f : FileIn) (all : Option PackError) → i < length fs → f ≡ get_or fs i f → all ≡ first_fault (paths (take i fs)) (drop i fs) → is_path f.path ≡ true
    → list_any (bytes_eq f.path) (paths (take i fs)) ≡ true → all ≡ Some (Twice i)
fault_twice fs i f all inside at so_far good twice =
    so_far ∙ fault_here fs i f inside at
    ∙ ap (λ b. or_else (cond (not b) (Some (BadName (length (paths (take i fs))))) (cond (list_any (bytes_eq f.path) (paths (take i fs))) (Some (Twice (length (paths (take i fs))))) None)) (first_fault (paths (take (i + 1) fs)) (drop (i + 1) fs))) good
    ∙ ap (λ b. or_else (cond b (Some (Twice (length (paths (take i fs))))) None) (first_fault (paths (take (i + 1) fs)) (drop (i + 1) fs))) twice
    ∙ ap (λ n. Some (Twice n)) (earlier fs i inside)

pub fault_none : (fs : List FileIn) (i : ℕ) (f : FileIn) (all : Option PackError) → i < length fs → f ≡ get_or fs i f → all ≡ first_fault (paths (take i fs)) (drop i fs) → is_path f.path ≡ true
    → list_any (bytes_eq f.path) (paths (take i fs)) ≡ false → all ≡ first_fault (paths (take (i + 1) fs)) (drop (i + 1) fs)
fault_none fs i f all inside at so_far good once =
    so_far ∙ fault_here fs i f inside at
    ∙ ap (λ b. or_else (cond (not b) (Some (BadName (length (paths (take i fs))))) (cond (list_any (bytes_eq f.path) (paths (take i fs))) (Some (Twice (length (paths (take i fs))))) None)) (first_fault (paths (take (i + 1) fs)) (drop (i + 1) fs))) good
    ∙ ap (λ b. or_else (cond b (Some (Twice (length (paths (take i fs))))) None) (first_fault (paths (take (i + 1) fs)) (drop (i + 1) fs))) once

pub fault_end : (fs : List FileIn) (i : ℕ) (all : Option PackError) → length fs ≤ i → all ≡ first_fault (paths (take i fs)) (drop i fs) → all ≡ None
unfolding first_fault
fault_end fs i all past so_far = so_far ∙ at_drop_all (first_fault (paths (take i fs))) fs i past

-- where there is no fault, a path is one and none of those before
no_fault_by : (n : ℕ) (later : Option PackError) (good twice : Bool) → or_else (cond (not good) (Some (BadName n)) (cond twice (Some (Twice n)) None)) later ≡ None → (good ≡ true) × (twice ≡ false) × (later ≡ None)
no_fault_by n later true true e = cc e
no_fault_by n later true false e = (refl, refl, e)
no_fault_by n later false twice e = cc e

pub no_fault : (before : List (List ℕ)) (path : List ℕ) (later : Option PackError) → or_else (fault_after before path) later ≡ None → (is_path path ≡ true) × (list_any (bytes_eq path) before ≡ false) × (later ≡ None)
no_fault before path later e = no_fault_by (length before) later (is_path path) (list_any (bytes_eq path) before) e

pub paths_good : (before : List (List ℕ)) (fs : List FileIn) → first_fault before fs ≡ None → list_all (λ (f : FileIn). is_path f.path) fs ≡ true
unfolding first_fault
paths_good before [] e = refl
paths_good before (f ∷ fs) e =
    let here = no_fault before f.path (first_fault (before ++ f.path ∷ []) fs) e in
    and_from (is_path f.path) (list_all (λ (f : FileIn). is_path f.path) fs) here.0 (paths_good (before ++ f.path ∷ []) fs here.2)

-- The map.

either : (b c : Bool) {X : Type 0} (x : X) (o : Option X) (rest : Bool) → b ≡ c → (is_some (cond b (Some x) o) || rest) ≡ (is_some o || (c || rest))
either true c x None rest e = ap (λ t. t || rest) e
either true c x (Some y) rest e = refl
either false c x None rest e = ap (λ t. t || rest) e
either false c x (Some y) rest e = refl

along_has : (fs : List FileIn) (m : List (List ℕ × FileIn)) (k : List ℕ) → is_some (found (fold (λ m f. insert_entry byte_order m f.path f) m fs) k) ≡ (is_some (found m k) || list_any (bytes_eq k) (paths fs))
along_has [] m k = or_nothing (is_some (found m k))
  where
    or_nothing : (b : Bool) → b ≡ (b || false)
    or_nothing true = refl
    or_nothing false = refl
along_has (f ∷ fs) m k =
    along_has fs (insert_entry byte_order m f.path f) k
    ∙ ap (λ o. is_some o || list_any (bytes_eq k) (paths fs)) (lookup-insert k f.path f m)
    ∙ either (has_key k f.path) (bytes_eq k f.path) f (found m k) (list_any (bytes_eq k) (paths fs)) (is_eq-slice_cmp k f.path)

some_mapped : {X Y : Type 0} (h : X → Y) (o : Option X) → is_some (option_map h o) ≡ is_some o
some_mapped h None = refl
some_mapped h (Some x) = refl

-- which paths the map has
pub has_path : (all fs : List FileIn) (entries : List (List ℕ × ℕ)) (k : List ℕ) → map (entry_at all) entries ≡ by_path fs → is_some (found entries k) ≡ list_any (bytes_eq k) (paths fs)
has_path all fs entries k is =
    sym (some_mapped (file_at all) (found entries k)) ∙ sym (ap is_some (lookup-map_values (file_at all) (has_key k) entries)) ∙ ap (λ m. is_some (found m k)) is ∙ along_has fs [] k

pub entries_more : (fs : List FileIn) (i : ℕ) (f : FileIn) (entries new : List (List ℕ × ℕ)) → i < length fs → f ≡ get_or fs i f → f ≡ file_at fs i → map (entry_at fs) entries ≡ by_path (take i fs)
    → new ≡ insert_entry byte_order entries f.path i → map (entry_at fs) new ≡ by_path (take (i + 1) fs)
entries_more fs i f entries new inside at is so_far set =
    ap (map (entry_at fs)) set ∙ insert-mapped (file_at fs) f.path i entries
    ∙ ap (λ m. insert_entry byte_order m f.path (file_at fs i)) so_far
    ∙ ap (λ (g : FileIn). insert_entry byte_order (by_path (take i fs)) f.path g) (sym is ∙ at)
    ∙ ap (λ (g : FileIn). insert_entry byte_order (by_path (take i fs)) g.path (get_or fs i f)) at
    ∙ sym (fold_more (λ (m : List (List ℕ × FileIn)) (g : FileIn). insert_entry byte_order m g.path g) [] fs i f inside)

inserted_all : (q : ℕ → Bool) (k : List ℕ) (v : ℕ) (m : List (List ℕ × ℕ)) → q v ≡ true → list_all (λ e. q e.1) m ≡ true → list_all (λ e. q e.1) (insert_entry byte_order m k v) ≡ true
inserted_all q k v [] here h = and_from (q v) true here refl
inserted_all q k v (e ∷ m) here h = let parts = and_parts (q e.1) (list_all (λ (e : List ℕ × ℕ). q e.1) m) h in by_order (byte_order k e.0) parts.0 parts.1 (inserted_all q k v m here parts.1)
  where
    by_order : (o : Ordering) → q e.1 ≡ true → list_all (λ (e : List ℕ × ℕ). q e.1) m ≡ true → list_all (λ (e : List ℕ × ℕ). q e.1) (insert_entry byte_order m k v) ≡ true
        → list_all (λ (e : List ℕ × ℕ). q e.1) (match_ordering o ((k, v) ∷ e ∷ m) ((e.0, v) ∷ m) (e ∷ insert_entry byte_order m k v)) ≡ true
    by_order Less first rest more = and_from (q v) (list_all (λ (e : List ℕ × ℕ). q e.1) (e ∷ m)) here h
    by_order Equal first rest more = and_from (q v) (list_all (λ (e : List ℕ × ℕ). q e.1) m) here rest
    by_order Greater first rest more = and_from (q e.1) (list_all (λ (e : List ℕ × ℕ). q e.1) (insert_entry byte_order m k v)) first more

pub within_more : (n i : ℕ) (k : List ℕ) (entries new : List (List ℕ × ℕ)) → ltb i n ≡ true → new ≡ insert_entry byte_order entries k i → list_all (λ e. ltb e.1 n) entries ≡ true → list_all (λ e. ltb e.1 n) new ≡ true
within_more n i k entries new inside set h = ap (list_all (λ (e : List ℕ × ℕ). ltb e.1 n)) set ∙ inserted_all (λ place. ltb place n) k i entries inside h
