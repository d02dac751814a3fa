-- The path of a file has a `/`, and the name after the last one isn't `.`.
use Rattle.std.proofs.Common.{◌≡◌, ℕ, Bool, true, false, not, ◌&&◌, cond, eqb, List, [], ◌∷◌, ◌++◌, Option, Some, None, refl, ap, sym, subst, ◌∙◌, append_assoc}
use Rattle.std.specs.Prelude.{unwrap_or, codes}
use Rattle.std.specs.List.{list_all, slice_split, onto_first}
use Rattle.std.specs.Str.{bytes_eq}
use Rattle.std.proofs.lemmas.Bool.{and_parts, and_from, not_from_false, false_from_ne_true, false≢true, eqb-true}
use Rattle.std.proofs.lemmas.Option.{same_Some, none-some}
use lib.Pointwise.{bytes_decides}
use Rattle.keep_spec.specs.Names.{is_component, is_path}
use Rattle.keep_normal.specs.Files.{path_of}
use Rattle.keep_normal.specs.Normal.{cut_onto, cut_last, path_parts}
use Rattle.keep_normal.proofs.LastSlash.{cut_last-at}

-- a path that is its directory, `/` and its name, which isn't `.`
abbrev pub is_named_path : List ℕ → Bool
is_named_path path = bytes_eq path (path_of (path_parts path).0 (path_parts path).1) && not (bytes_eq (path_parts path).1 (codes "."))

-- where nothing is found there is no `/`
no_slash_by : (x : ℕ) (xs : List ℕ) (o : Option (List ℕ × List ℕ)) → cut_last xs ≡ o → cut_last (x ∷ xs) ≡ None → (eqb x 47 ≡ false) × (cut_last xs ≡ None)
no_slash_by x xs None e h = by_slash (eqb x 47) refl
  where
    by_slash : (b : Bool) → eqb x 47 ≡ b → (eqb x 47 ≡ false) × (cut_last xs ≡ None)
    by_slash true s = absurd (none-some ([], xs) (sym h ∙ ap (cut_onto x xs) e ∙ ap (λ b. cond b (Some ([], xs)) None) s))
    by_slash false s = (s, e)
no_slash_by x xs (Some p) e h = absurd (none-some (x ∷ p.0, p.1) (sym h ∙ ap (cut_onto x xs) e))

pub no_slash : (xs : List ℕ) → cut_last xs ≡ None → slice_split (λ b. eqb b 47) xs ≡ xs ∷ []
no_slash [] h = refl
no_slash (x ∷ xs) h =
    let parts = no_slash_by x xs (cut_last xs) refl h in
    ap (λ b. cond b ([] ∷ slice_split (λ b. eqb b 47) xs) (onto_first x (slice_split (λ b. eqb b 47) xs))) parts.0
    ∙ ap (onto_first x) (no_slash xs parts.1)

-- the parts after the first
abbrev later : List (List ℕ) → List (List ℕ)
later [] = []
later (x ∷ xs) = xs

later_onto : (x : ℕ) (parts : List (List ℕ)) → list_all is_component (later (onto_first x parts)) ≡ true → list_all is_component (later parts) ≡ true
later_onto x [] h = refl
later_onto x (p ∷ ps) h = h

later_all : (parts : List (List ℕ)) → list_all is_component parts ≡ true → list_all is_component (later parts) ≡ true
later_all [] h = refl
later_all (p ∷ ps) h = (and_parts (is_component p) (list_all is_component ps) h).1

last_by : (x : ℕ) (parts : List (List ℕ)) (P : Type 0) → (list_all is_component (later parts) ≡ true → P) → (b : Bool) → list_all is_component (later (cond b ([] ∷ parts) (onto_first x parts))) ≡ true → P
last_by x parts P more true h = more (later_all parts h)
last_by x parts P more false h = more (later_onto x parts h)

-- what stands after the last `/` is a component, where all after the first are
last_component : (front behind : List ℕ) → cut_last behind ≡ None → list_all is_component (later (slice_split (λ b. eqb b 47) (front ++ 47 ∷ behind))) ≡ true → is_component behind ≡ true
last_component [] behind none h = (and_parts (is_component behind) true (sym (ap (list_all is_component) (no_slash behind none)) ∙ h)).0
last_component (x ∷ xs) behind none h =
    last_by x (slice_split (λ b. eqb b 47) (xs ++ 47 ∷ behind)) (is_component behind ≡ true) (last_component xs behind none) (eqb x 47) h

-- where a path is cut
pub record IsCut (path : List ℕ) (p : List ℕ × List ℕ) : Type 0 where
  pub whole : path ≡ p.0 ++ 47 ∷ p.1
  pub none : cut_last p.1 ≡ None

cut_here : (x : ℕ) (xs : List ℕ) (p : List ℕ × List ℕ) (b : Bool) → eqb x 47 ≡ b → cut_last xs ≡ None → cond b (Some ([], xs)) None ≡ Some p → IsCut (x ∷ xs) p
cut_here x xs p true s h e = subst (IsCut (x ∷ xs)) (same_Some ([], xs) p e) (record { whole = ap (λ c. c ∷ xs) (eqb-true x 47 s); none = h })
cut_here x xs p false s h e = absurd (none-some p e)

cut_by : (x : ℕ) (xs : List ℕ) (p : List ℕ × List ℕ) (o : Option (List ℕ × List ℕ)) → cut_last xs ≡ o → cut_onto x xs o ≡ Some p → ((q : List ℕ × List ℕ) → cut_last xs ≡ Some q → IsCut xs q) → IsCut (x ∷ xs) p
cut_by x xs p None h e more = cut_here x xs p (eqb x 47) refl h e
cut_by x xs p (Some q) h e more =
    let rest = more q h in
    subst (IsCut (x ∷ xs)) (same_Some (x ∷ q.0, q.1) p e) (record { whole = ap (λ t. x ∷ t) rest.whole; none = rest.none })

pub cut_is : (path : List ℕ) (p : List ℕ × List ℕ) → cut_last path ≡ Some p → IsCut path p
cut_is [] p e = absurd (none-some p e)
cut_is (x ∷ xs) p e = cut_by x xs p (cut_last xs) refl e (cut_is xs)

-- a path with a name after its last `/` that is a component
named_by : (path : List ℕ) (p : List ℕ × List ℕ) → cut_last path ≡ Some p → path ≡ path_of p.0 p.1 → is_component p.1 ≡ true → is_named_path path ≡ true
named_by path p e whole component =
    let parts : path_parts path ≡ p = ap (λ o. unwrap_or o ([], path)) e in
    let dot : bytes_eq p.1 (codes ".") ≡ false = false_from_ne_true (bytes_eq p.1 (codes ".")) (λ h. false≢true (sym (ap is_component ((bytes_decides p.1 (codes ".")).0 h)) ∙ component)) in
    ap (λ (q : List ℕ × List ℕ). bytes_eq path (path_of q.0 q.1) && not (bytes_eq q.1 (codes "."))) parts
    ∙ and_from (bytes_eq path (path_of p.0 p.1)) (not (bytes_eq p.1 (codes "."))) ((bytes_decides path (path_of p.0 p.1)).1 whole) (not_from_false (bytes_eq p.1 (codes ".")) dot)

join_by : (directory name : List ℕ) (o : Option (List ℕ × List ℕ)) → cut_last name ≡ o → is_path name ≡ true → is_named_path (path_of directory name) ≡ true
unfolding is_path
join_by directory name None e h =
    named_by (path_of directory name) (directory, name) (cut_last-at directory name e) refl
    (and_parts (is_component name) true (sym (ap (list_all is_component) (no_slash name e)) ∙ h)).0
join_by directory name (Some p) e h =
    let cut = cut_is name p e in
    let whole : path_of directory name ≡ path_of (path_of directory p.0) p.1 = ap (λ t. directory ++ 47 ∷ t) cut.whole ∙ sym (append_assoc directory (47 ∷ p.0) (47 ∷ p.1)) in
    named_by (path_of directory name) (path_of directory p.0, p.1) (ap cut_last whole ∙ cut_last-at (path_of directory p.0) p.1 cut.none) whole
    (last_component p.0 p.1 cut.none (later_all (slice_split (λ b. eqb b 47) (p.0 ++ 47 ∷ p.1)) (sym (ap (λ t. list_all is_component (slice_split (λ b. eqb b 47) t)) cut.whole) ∙ h)))

-- the path of a file whose own name is one
pub path-named : (directory name : List ℕ) → is_path name ≡ true → is_named_path (path_of directory name) ≡ true
path-named directory name h = join_by directory name (cut_last name) refl h
