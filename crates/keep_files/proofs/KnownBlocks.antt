-- Blocks, each once, whose digests are known.
-- Laws: `none_there`, `all_known`, `one_known`, `inside_more`, `held-distinct`.
use Rattle.std.proofs.Common.{◌≡◌, ℕ, ◌<◌, Bool, true, false, ◌||◌, cond, List, [], ◌∷◌, ◌++◌, Option, Some, None, refl, ap, sym, subst, ◌∙◌, arith}
use Rattle.std.specs.Prelude.{fold, is_some}
use Rattle.std.specs.List.{list_all, list_any, AllByRecursion}
use Rattle.std.specs.Str.{bytes_eq}
use Rattle.std.proofs.lemmas.Bool.{and_parts, and_from, or_from, false_from_ne_true, false≢true}
use Rattle.std.proofs.lemmas.List.Folds.{list_all-append}
use Rattle.std.proofs.lemmas.Option.{same_Some}
use lib.Pointwise.{bytes_decides}
use Rattle.md5.specs.Md5.{md5}
use Rattle.keep_locator.proofs.Lists.{list_all-weaker}
use Rattle.keep_normal.proofs.Grouping.{has_key, key-same}
use Rattle.keep_files.specs.Layout.{with_block}

-- which place is known of a digest
abbrev Places : Type 0
Places = List ℕ → Option ℕ

abbrev pub knows : Places → List ℕ → Bool
knows known block = is_some (known (md5 block))

-- a block whose digest isn't known isn't there
pub none_there : (known : Places) (bs : List (List ℕ)) (x : List ℕ) → list_all (knows known) bs ≡ true → known (md5 x) ≡ None → list_any (bytes_eq x) bs ≡ false
none_there known [] x h none = refl
none_there known (b ∷ bs) x h none =
    let parts = and_parts (knows known b) (list_all (knows known) bs) h in
    or_from (bytes_eq x b) (list_any (bytes_eq x) bs)
    (false_from_ne_true (bytes_eq x b) (λ e. false≢true (sym (ap is_some none) ∙ ap (knows known) ((bytes_decides x b).0 e) ∙ parts.0)))
    (none_there known bs x parts.1 none)

some_more : (b : Bool) (n : ℕ) (o : Option ℕ) → is_some o ≡ true → is_some (cond b (Some n) o) ≡ true
some_more true n o h = refl
some_more false n o h = h

-- one more digest is known
pub all_known : (known more : Places) (d : List ℕ) (n : ℕ) (bs : List (List ℕ)) → ((q : List ℕ) → more q ≡ cond (has_key d q) (Some n) (known q)) → list_all (knows known) bs ≡ true → list_all (knows more) bs ≡ true
all_known known more d n bs updates h =
    list_all-weaker (knows known) (knows more) (λ b k. ap is_some (updates (md5 b)) ∙ some_more (has_key d (md5 b)) n (known (md5 b)) k) bs h

pub one_known : (known : Places) (bs new : List (List ℕ)) (x : List ℕ) → new ≡ bs ++ x ∷ [] → list_all (knows known) bs ≡ true → knows known x ≡ true → list_all (knows known) new ≡ true
one_known known bs new x is h here =
    ap (list_all (knows known)) is ∙ list_all-append (knows known) bs (x ∷ []) ∙ and_from (list_all (knows known) bs) (list_all (knows known) (x ∷ [])) h (and_from (knows known x) true here refl)

pub new_known : (known more : Places) (d : List ℕ) (n : ℕ) (x : List ℕ) → ((q : List ℕ) → more q ≡ cond (has_key d q) (Some n) (known q)) → d ≡ md5 x → knows more x ≡ true
new_known known more d n x updates is =
    ap is_some (updates (md5 x) ∙ ap (λ k. cond (has_key k (md5 x)) (Some n) (known (md5 x))) is ∙ ap (λ b. cond b (Some n) (known (md5 x))) (key-same (md5 x)))

-- the place of each known digest is one in the list
pub inside_more : (b : Bool) (n m place : ℕ) (o : Option ℕ) → cond b (Some n) o ≡ Some place → n < m → (o ≡ Some place → place < m) → place < m
inside_more true n m place o e here rest = let is = same_Some n place e in omega arith
inside_more false n m place o e here rest = rest e

-- Each once.

abbrev Held : (List ℕ → Type 0) → List (List ℕ) → Type 0
Held P bs = AllByRecursion P bs

held_split : (P : List ℕ → Type 0) (xs : List (List ℕ)) (y : List ℕ) → Held P (xs ++ y ∷ []) → Held P xs × P y
held_split P [] y h = (tt, h.0)
held_split P (x ∷ xs) y h = let rest = held_split P xs y h.1 in ((h.0, rest.0), rest.1)

held_there : (P : List ℕ → Type 0) (bs : List (List ℕ)) (x : List ℕ) → Held P bs → list_any (bytes_eq x) bs ≡ true → P x
held_there P [] x h e = absurd (false≢true e)
held_there P (b ∷ bs) x h e = by_first (bytes_eq x b) refl e (held_there P bs x h.1)
  where
    by_first : (t : Bool) → bytes_eq x b ≡ t → (t || list_any (bytes_eq x) bs) ≡ true → (list_any (bytes_eq x) bs ≡ true → P x) → P x
    by_first true same e rest = subst P (sym ((bytes_decides x b).0 same)) h.0
    by_first false other e rest = rest e

held_one : (P : List ℕ → Type 0) (bs : List (List ℕ)) (x : List ℕ) (t : Bool) → list_any (bytes_eq x) bs ≡ t → Held P (cond t bs (bs ++ x ∷ [])) → Held P bs × P x
held_one P bs x true e h = (h, held_there P bs x h e)
held_one P bs x false e h = held_split P bs x h

-- what holds of each block holds of each piece
pub held-distinct : (P : List ℕ → Type 0) (xs bs : List (List ℕ)) → Held P (fold with_block bs xs) → Held P bs × Held P xs
held-distinct P [] bs h = (h, tt)
held-distinct P (x ∷ xs) bs h =
    let rest = held-distinct P xs (with_block bs x) h in
    let here = held_one P bs x (list_any (bytes_eq x) bs) refl rest.0 in
    (here.0, (here.1, rest.1))
