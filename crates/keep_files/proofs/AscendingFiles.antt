-- The ascending files are the files, and blocks are found by their digests.
-- Laws: `ascending-same`, `found_there`.
use Rattle.std.proofs.Common.{◌≡◌, ℕ, zero, suc, ◌<◌, Bool, true, false, ◌||◌, cond, List, [], ◌∷◌, ◌++◌, length, get_or, map, Some, None, refl, ap, sym, ◌∙◌, arith}
use Rattle.std.specs.Prelude.{◌↔◌, All, Contains, fold}
use Rattle.std.specs.List.{list_any, AllByRecursion}
use Rattle.std.specs.BTreeMap.{insert_entry}
use Rattle.std.specs.Ordering.{match_ordering}
use Rattle.std.specs.declared.cmp.Ordering.{Ordering}
use Rattle.std.specs.declared.cmp.Ordering.TheVariants.{Less, Equal, Greater}
use Rattle.std.specs.Str.{bytes_eq}
use Rattle.std.proofs.lemmas.Bool.{or_left, or_right, false≢true, false_from_ne_true}
use Rattle.std.proofs.lemmas.List.Elements.{All-from_recursion, recursion_from_All, All-contains}
use Rattle.std.proofs.lemmas.List.{get_or_default}
use Rattle.std.proofs.lemmas.List.Folds.{list_any-append, list_any_at}
use Rattle.std.proofs.lemmas.Option.{same_Some, none-some}
use lib.Pointwise.{bytes_decides}
use Rattle.md5.specs.Md5.{md5}
use Rattle.keep_normal.specs.Grouped.{byte_order}
use Rattle.keep_normal.proofs.Grouping.{has_key, key-same, found}
use Rattle.keep_normal.proofs.OrderedEntries.{at-same, lookup-insert}
use Rattle.keep_files.specs.Layout.{by_path, ascending}
use Rattle.keep_files.specs.Packed.{first_fault}
use Rattle.keep_files.specs.Stored.{HaveOwnDigests, stored_in}
use Rattle.keep_files.specs.declared.file.FileIn.{FileIn}
use Rattle.keep_files.proofs.FilePlaces.{paths, no_fault}

abbrev Entries : Type 0
Entries = List (List ℕ × FileIn)

abbrev with_file : Entries → FileIn → Entries
with_file m f = insert_entry byte_order m f.path f

-- Each file of the map is one of the files.

-- what holds of files holds of those that are inserted
inserted_held : (P : FileIn → Type 0) (f : FileIn) (m : Entries) → P f → AllByRecursion (λ e. P e.1) m → AllByRecursion (λ e. P e.1) (with_file m f)
inserted_held P f [] here h = (here, tt)
inserted_held P f (e ∷ m) here h = by_order (byte_order f.path e.0) (inserted_held P f m here h.1)
  where
    by_order : (o : Ordering) → AllByRecursion (λ (e : List ℕ × FileIn). P e.1) (with_file m f) → AllByRecursion (λ (e : List ℕ × FileIn). P e.1) (match_ordering o ((f.path, f) ∷ e ∷ m) ((e.0, f) ∷ m) (e ∷ with_file m f))
    by_order Less rest = (here, h)
    by_order Equal rest = (here, h.1)
    by_order Greater rest = (h.0, rest)

along_held : (P : FileIn → Type 0) (fs : List FileIn) (m : Entries) → AllByRecursion P fs → AllByRecursion (λ e. P e.1) m → AllByRecursion (λ e. P e.1) (fold with_file m fs)
along_held P [] m hs h = h
along_held P (f ∷ fs) m hs h = along_held P fs (with_file m f) hs.1 (inserted_held P f m hs.0 h)

values_held : (P : FileIn → Type 0) (m : Entries) → AllByRecursion (λ e. P e.1) m → AllByRecursion P (map (λ e. e.1) m)
values_held P [] h = tt
values_held P (e ∷ m) h = (h.0, values_held P m h.1)

there_before : (f : FileIn) (fs : List FileIn) (x : FileIn) → Contains fs x → Contains (f ∷ fs) x
there_before f fs x c = (suc c.0, omega (arith, c.1), c.2)

weaker : (P Q : FileIn → Type 0) → ((x : FileIn) → P x → Q x) → (fs : List FileIn) → AllByRecursion P fs → AllByRecursion Q fs
weaker P Q so [] h = tt
weaker P Q so (f ∷ fs) h = (so f h.0, weaker P Q so fs h.1)

each_there : (fs : List FileIn) → AllByRecursion (Contains fs) fs
each_there [] = tt
each_there (f ∷ fs) = ((zero, omega arith, refl), weaker (Contains fs) (Contains (f ∷ fs)) (there_before f fs) fs (each_there fs))

ascending-there : (fs : List FileIn) (f : FileIn) → Contains (ascending fs) f → Contains fs f
ascending-there fs f c =
    All-contains (Contains fs) (ascending fs) f (All-from_recursion (Contains fs) (ascending fs) (values_held (Contains fs) (by_path fs) (along_held (Contains fs) fs [] (each_there fs) tt))) c

-- Each file is found at its path.

-- where no later file has the path
kept : (k : List ℕ) (fs : List FileIn) (m : Entries) → list_any (bytes_eq k) (paths fs) ≡ false → found (fold with_file m fs) k ≡ found m k
kept k [] m other = refl
kept k (f ∷ fs) m other = by_first (bytes_eq k f.path) refl other (kept k fs (with_file m f))
  where
    by_first : (b : Bool) → bytes_eq k f.path ≡ b → (b || list_any (bytes_eq k) (paths fs)) ≡ false
        → (list_any (bytes_eq k) (paths fs) ≡ false → found (fold with_file (with_file m f) fs) k ≡ found (with_file m f) k) → found (fold with_file (with_file m f) fs) k ≡ found m k
    by_first true e h rest = absurd (false≢true (sym h))
    by_first false e h rest =
        rest h ∙ lookup-insert k f.path f m
        ∙ ap (λ b. cond b (Some f) (found m k)) (false_from_ne_true (has_key k f.path) (λ t. false≢true (sym e ∙ (bytes_decides k f.path).1 (at-same k f.path t))))

-- a path that came before doesn't come again
later_other : (earlier : List (List ℕ)) (k : List ℕ) (fs : List FileIn) → first_fault earlier fs ≡ None → list_any (bytes_eq k) earlier ≡ true → list_any (bytes_eq k) (paths fs) ≡ false
unfolding first_fault
later_other earlier k [] none there = refl
later_other earlier k (f ∷ fs) none there =
    let parts = no_fault earlier f.path (first_fault (earlier ++ f.path ∷ []) fs) none in
    let other : bytes_eq k f.path ≡ false = false_from_ne_true (bytes_eq k f.path) (λ e. false≢true (sym parts.1 ∙ ap (λ p. list_any (bytes_eq p) earlier) (sym ((bytes_decides k f.path).0 e)) ∙ there)) in
    ap (λ b. b || list_any (bytes_eq k) (paths fs)) other
    ∙ later_other (earlier ++ f.path ∷ []) k fs parts.2 (list_any-append (bytes_eq k) earlier (f.path ∷ []) ∙ or_left (list_any (bytes_eq k) earlier) (list_any (bytes_eq k) (f.path ∷ [])) there)

here_first : (earlier : List (List ℕ)) (k : List ℕ) → list_any (bytes_eq k) (earlier ++ k ∷ []) ≡ true
here_first earlier k =
    list_any-append (bytes_eq k) earlier (k ∷ []) ∙ or_right (list_any (bytes_eq k) earlier) (bytes_eq k k || false) (or_left (bytes_eq k k) false ((bytes_decides k k).1 refl))

found_at : (earlier : List (List ℕ)) (fs : List FileIn) (m : Entries) → first_fault earlier fs ≡ None → AllByRecursion (λ f. found (fold with_file m fs) f.path ≡ Some f) fs
unfolding first_fault
found_at earlier [] m none = tt
found_at earlier (f ∷ fs) m none =
    let parts = no_fault earlier f.path (first_fault (earlier ++ f.path ∷ []) fs) none in
    let once = later_other (earlier ++ f.path ∷ []) f.path fs parts.2 (here_first earlier f.path) in (
      kept f.path fs (with_file m f) once ∙ lookup-insert f.path f.path f m ∙ ap (λ b. cond b (Some f) (found m f.path)) (key-same f.path),
      found_at (earlier ++ f.path ∷ []) fs (with_file m f) parts.2,
    )

value_there : (m : Entries) (k : List ℕ) (f : FileIn) → found m k ≡ Some f → Contains (map (λ e. e.1) m) f
value_there [] k f e = absurd (none-some f e)
value_there (g ∷ m) k f e = by_key (has_key k g.0) e (value_there m k f)
  where
    by_key : (b : Bool) → cond b (Some g.1) (found m k) ≡ Some f → (found m k ≡ Some f → Contains (map (λ (e : List ℕ × FileIn). e.1) m) f) → Contains (map (λ (e : List ℕ × FileIn). e.1) (g ∷ m)) f
    by_key true e rest = (zero, omega arith, same_Some g.1 f e)
    by_key false e rest = there_before g.1 (map (λ (e : List ℕ × FileIn). e.1) m) f (rest e)

there-ascending : (fs : List FileIn) (f : FileIn) → first_fault [] fs ≡ None → Contains fs f → Contains (ascending fs) f
there-ascending fs f none c =
    value_there (by_path fs) f.path f (All-contains (λ (f : FileIn). found (by_path fs) f.path ≡ Some f) fs f (All-from_recursion (λ (f : FileIn). found (by_path fs) f.path ≡ Some f) fs (found_at [] fs [] none)) c)

pub ascending-same : (fs : List FileIn) → first_fault [] fs ≡ None → (f : FileIn) → Contains (ascending fs) f ↔ Contains fs f
ascending-same fs none f = (ascending-there fs f, there-ascending fs f none)

-- Blocks by their digests.

-- a block that is there and isn't the first comes later
later : (a b : List ℕ) (bs : List (List ℕ)) (t : Bool) → bytes_eq a b ≡ t → bytes_eq (md5 b) (md5 a) ≡ false → (t || list_any (bytes_eq a) bs) ≡ true → list_any (bytes_eq a) bs ≡ true
later a b bs true same other h = absurd (false≢true (sym other ∙ (bytes_decides (md5 b) (md5 a)).1 (ap md5 (sym ((bytes_decides a b).0 same)))))
later a b bs false same other h = h

first_found : (a : List ℕ) (blocks : List (List ℕ)) → AllByRecursion (λ b. md5 b ≡ md5 a → b ≡ a) blocks → list_any (bytes_eq a) blocks ≡ true → stored_in blocks (md5 a) ≡ Some a
first_found a [] told there = absurd (false≢true there)
first_found a (b ∷ bs) told there = by_digest (bytes_eq (md5 b) (md5 a)) refl (first_found a bs told.1)
  where
    by_digest : (t : Bool) → bytes_eq (md5 b) (md5 a) ≡ t → (list_any (bytes_eq a) bs ≡ true → stored_in bs (md5 a) ≡ Some a) → cond t (Some b) (stored_in bs (md5 a)) ≡ Some a
    by_digest true e rest = ap (λ x. Some x) (told.0 ((bytes_decides (md5 b) (md5 a)).0 e))
    by_digest false e rest = rest (later a b bs (bytes_eq a b) refl e there)

at_place : (blocks : List (List ℕ)) (k : ℕ) (d : List ℕ) → k < length blocks → Contains blocks (get_or blocks k d)
at_place blocks k d inside = (k, inside, get_or_default blocks k (get_or blocks k d) d inside)

-- each is found by its digest where no two of them have one
pub found_there : (blocks : List (List ℕ)) → HaveOwnDigests blocks → All (λ b. stored_in blocks (md5 b) ≡ Some b) blocks
found_there blocks told k d inside =
    let a = get_or blocks k d in
    let here = at_place blocks k d inside in
    first_found a blocks (recursion_from_All (λ (b : List ℕ). md5 b ≡ md5 a → b ≡ a) blocks (λ j e within. λ same. told (get_or blocks j e) a (at_place blocks j e within) here same))
    (list_any_at (bytes_eq a) blocks k a inside ((bytes_decides a (get_or blocks k a)).1 (sym (get_or_default blocks k a d inside))))
