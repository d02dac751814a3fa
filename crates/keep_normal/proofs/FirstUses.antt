-- The blocks of files stand in the order of their first use, each once: `blocks-by_first_use`, `line-lists`.
use Rattle.std.proofs.Common.{◌≡◌, ℕ, zero, suc, ◌+◌, ◌<◌, Bool, true, false, cond, List, [], ◌∷◌, ◌++◌, length, get_or, Option, Some, None, refl, ap, sym, subst, ◌∙◌, arith, inl, inr, append-nil, append_assoc}
use Rattle.std.specs.Prelude.{◌≢◌, Contains, AllPairs, fold, is_some}
use Rattle.std.specs.Str.{bytes_eq}
use Rattle.std.proofs.lemmas.Bool.{cases_lt, false≢true, ne_eqb, eq-eqb}
use Rattle.std.proofs.lemmas.List.Elements.{Contains-get_or, Contains-append_left, Contains-append_right, Contains-push, Contains-push_cases}
use Rattle.std.proofs.lemmas.List.Folds.{position_or_len_push}
use Rattle.std.proofs.lemmas.List.Quantifiers.{all_pairs_push}
use Rattle.std.proofs.lemmas.List.Sums.{fails_before_first, position_or_len_is}
use Rattle.std.proofs.lemmas.Option.{none-some}
use lib.Pointwise.{bytes_decides}
use Rattle.keep_spec.specs.Locator.{size}
use Rattle.keep_normal.specs.declared.part.FileParts.{FileParts}
use Rattle.keep_normal.specs.FirstUse.{first_use, IsByFirstUse, ListsBlocks}
use Rattle.keep_normal.specs.Normal.{start_at, with_block, blocks, uses, or_empty_block}
use Rattle.keep_normal.proofs.BlockStarts.{start_by, missing}

-- Whether a block is one of others.

known-contains : (bs : List (List ℕ)) (l : List ℕ) (n : ℕ) → start_at bs l ≡ Some n → Contains bs l
known-contains [] l n h = absurd (none-some n h)
known-contains (b ∷ bs) l n h = by_first (bytes_eq b l) refl (start_at bs l) refl (known-contains bs l)
  where
    by_first : (e : Bool) → bytes_eq b l ≡ e → (o : Option ℕ) → start_at bs l ≡ o → ((k : ℕ) → start_at bs l ≡ Some k → Contains bs l) → Contains (b ∷ bs) l
    by_first true e o h₂ rest = (0, omega arith, (bytes_decides b l).0 e)
    by_first false e None h₂ rest = absurd (none-some n (sym (ap (λ t. start_by (size b) t (start_at bs l)) e ∙ ap (start_by (size b) false) h₂) ∙ h))
    by_first false e (Some k) h₂ rest = Contains-append_right (b ∷ []) bs l (rest k h₂)

absent_at : (bs : List (List ℕ)) (l : List ℕ) (k : ℕ) → start_at bs l ≡ None → k < length bs → get_or bs k l ≡ l → ⊥
absent_at [] l k h within e = omega arith
absent_at (b ∷ bs) l zero h within e = false≢true (sym (missing b bs l h).0 ∙ (bytes_decides b l).1 e)
absent_at (b ∷ bs) l (suc k) h within e = absent_at bs l k (missing b bs l h).1 (omega arith) e

absent : (bs : List (List ℕ)) (l : List ℕ) → start_at bs l ≡ None → Contains bs l → ⊥
absent bs l h c = absent_at bs l c.0 h c.1 c.2

-- Where a block is used first, with one use more.

use-within : (us : List (List ℕ)) (b : List ℕ) → Contains us b → first_use us b < length us
use-within us b c =
    elim (cases_lt (first_use us b) (length us)) [
      | inl within ↦ within
      | inr past ↦
          let other : bytes_eq b (get_or us c.0 b) ≡ false = fails_before_first (bytes_eq b) us c.0 b (let k = c.1 in omega arith) in
          absurd (false≢true (sym other ∙ (bytes_decides b (get_or us c.0 b)).1 (sym c.2)))
    ]

use-kept : (us : List (List ℕ)) (l b : List ℕ) → Contains us b → first_use (us ++ l ∷ []) b ≡ first_use us b
use-kept us l b c =
    let within = use-within us b c in
    position_or_len_push (bytes_eq b) us l
    ∙ ap (λ t. cond t (length us + cond (bytes_eq b l) 0 1) (first_use us b)) (ne_eqb (first_use us b) (length us) (λ e. omega arith))

use-absent : (us : List (List ℕ)) (l : List ℕ) → (Contains us l → ⊥) → first_use us l ≡ length us
use-absent us l not =
    position_or_len_is (bytes_eq l) us (length us) l (omega arith) (λ k within. by_same k within (bytes_eq l (get_or us k l)) refl) (λ within. absurd (omega arith))
  where
    by_same : (k : ℕ) → k < length us → (b : Bool) → bytes_eq l (get_or us k l) ≡ b → bytes_eq l (get_or us k l) ≡ false
    by_same k within true e = absurd (not (k, within, sym ((bytes_decides l (get_or us k l)).0 e)))
    by_same k within false e = e

use-new : (us : List (List ℕ)) (l : List ℕ) → (Contains us l → ⊥) → first_use (us ++ l ∷ []) l ≡ length us
use-new us l not =
    let last = use-absent us l not in
    position_or_len_push (bytes_eq l) us l
    ∙ ap (λ t. cond t (length us + cond (bytes_eq l l) 0 1) (first_use us l)) (eq-eqb (first_use us l) (length us) last)
    ∙ ap (λ t. length us + cond t 0 1) ((bytes_decides l l).1 refl) ∙ omega arith

-- One use more.

module _ (us bs : List (List ℕ)) (l : List ℕ) (is : IsByFirstUse us bs) where
  kept_order : AllPairs (λ a b. first_use (us ++ l ∷ []) a < first_use (us ++ l ∷ []) b) bs
  kept_order i j d lt within =
      let a = get_or bs i d in
      let b = get_or bs j d in
      let ea : first_use (us ++ l ∷ []) a ≡ first_use us a = use-kept us l a ((is.used a).0 (Contains-get_or bs i d (omega arith))) in
      let eb : first_use (us ++ l ∷ []) b ≡ first_use us b = use-kept us l b ((is.used b).0 (Contains-get_or bs j d within)) in
      let old : first_use us a < first_use us b = is.ordered i j d lt within in
      subst (λ n. n < first_use (us ++ l ∷ []) b) (sym ea) (subst (λ n. first_use us a < n) (sym eb) old)

  -- of a block that is listed
  used_again : Contains bs l → IsByFirstUse (us ++ l ∷ []) bs
  used_again c = record {
    used = λ b. (
      λ h. Contains-append_left us (l ∷ []) b ((is.used b).0 h),
      λ h.
          elim (Contains-push_cases us l b h) [
            | inl old ↦ (is.used b).1 old
            | inr same ↦ subst (Contains bs) same c
          ],
    );
    once = is.once;
    ordered = kept_order;
  }

  -- of a new one
  used_first : (Contains bs l → ⊥) → IsByFirstUse (us ++ l ∷ []) (bs ++ l ∷ [])
  used_first new =
      let new_use : first_use (us ++ l ∷ []) l ≡ length us = use-new us l (λ c. new ((is.used l).1 c)) in
      record {
        used = λ b. (
          λ h.
              elim (Contains-push_cases bs l b h) [
                | inl old ↦ Contains-append_left us (l ∷ []) b ((is.used b).0 old)
                | inr same ↦ subst (Contains (us ++ l ∷ [])) same (Contains-push us l)
              ],
          λ h.
              elim (Contains-push_cases us l b h) [
                | inl old ↦ Contains-append_left bs (l ∷ []) b ((is.used b).1 old)
                | inr same ↦ subst (Contains (bs ++ l ∷ [])) same (Contains-push bs l)
              ],
        );
        once = all_pairs_push (λ a b. a ≢ b) bs l is.once (λ k d lt e. new (subst (Contains bs) e (Contains-get_or bs k d lt)));
        ordered = all_pairs_push (λ a b. first_use (us ++ l ∷ []) a < first_use (us ++ l ∷ []) b) bs l kept_order (λ k d lt.
            let a = get_or bs k d in
            let used = (is.used a).0 (Contains-get_or bs k d lt) in
            subst (λ n. n < first_use (us ++ l ∷ []) l) (sym (use-kept us l a used)) (subst (λ n. first_use us a < n) (sym new_use) (use-within us a used)));
      }

  use_more : (o : Option ℕ) → start_at bs l ≡ o → IsByFirstUse (us ++ l ∷ []) (cond (is_some o) bs (bs ++ l ∷ []))
  use_more (Some n) e = used_again (known-contains bs l n e)
  use_more None e = used_first (absent bs l e)

along_uses : (ls us bs : List (List ℕ)) → IsByFirstUse us bs → IsByFirstUse (us ++ ls) (fold with_block bs ls)
along_uses [] us bs is = subst (λ vs. IsByFirstUse vs bs) (sym (append-nil us)) is
along_uses (l ∷ ls) us bs is =
    subst (λ vs. IsByFirstUse vs (fold with_block (with_block bs l) ls)) (append_assoc us (l ∷ []) ls)
    (along_uses ls (us ++ l ∷ []) (with_block bs l) (use_more us bs l is (start_at bs l) refl))

no_uses : IsByFirstUse [] []
no_uses = record { used = λ b. (λ h. h, λ h. h); once = λ i j d lt within. absurd (omega arith); ordered = λ i j d lt within. absurd (omega arith) }

pub blocks-by_first_use : (fs : List FileParts) → IsByFirstUse (uses fs) (blocks fs)
blocks-by_first_use fs = along_uses (uses fs) [] [] no_uses

-- with the empty block where there is no other
lists_by : (us bs : List (List ℕ)) → IsByFirstUse us bs → ListsBlocks us (or_empty_block bs)
lists_by [] [] is = record { some = λ h. absurd (h refl); none = λ h. refl }
lists_by [] (b ∷ bs) is = let c = (is.used b).0 (0, omega arith, refl) in let within = c.1 in absurd (omega arith)
lists_by (u ∷ us) [] is = let c = (is.used u).1 (0, omega arith, refl) in let within = c.1 in absurd (omega arith)
lists_by (u ∷ us) (b ∷ bs) is = record { some = λ h. is; none = λ h. let long = ap length h in absurd (omega (arith, long)) }

pub line-lists : (fs : List FileParts) → ListsBlocks (uses fs) (or_empty_block (blocks fs))
line-lists fs = lists_by (uses fs) (blocks fs) (blocks-by_first_use fs)
