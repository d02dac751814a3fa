-- The pieces of an input: `first-parts` for the bytes of the first, `read-start`, `read-more` and `read-out` for the lines that were read whole.
use Rattle.std.proofs.Common.{◌≡◌, ℕ, suc, ◌+◌, Bool, true, false, List, [], ◌∷◌, ◌++◌, length, ◌⊎◌, inl, inr, refl, sym, ◌∙◌, ap, subst, arith, append_assoc}
use Rattle.std.specs.Prelude.{◌==◌, if◌then◌else◌, ⊤}
use Rattle.std.specs.List.{onto_first, concat}
use Rattle.keep_spec.specs.Lines.{cut, newlines}
use Rattle.keep_history.specs.Ended.{AreRead}

concat-onto : (x : ℕ) (pieces : List (List ℕ)) → concat (onto_first x pieces) ≡ x ∷ concat pieces
concat-onto x [] = refl
concat-onto x (p ∷ ps) = refl

-- the pieces joined are the input
concat-cut : (xs : List ℕ) → concat (cut xs) ≡ xs
unfolding cut
concat-cut [] = refl
concat-cut (x ∷ xs) = by (x == 10) (concat-cut xs)
  where
    by : (b : Bool) → concat (cut xs) ≡ xs → concat (if b then (x ∷ []) ∷ cut xs else onto_first x (cut xs)) ≡ x ∷ xs
    by true e = ap (λ v. x ∷ v) e
    by false e = concat-onto x (cut xs) ∙ ap (λ v. x ∷ v) e

pub first-parts : (xs piece rest : List ℕ) → cut xs ≡ piece ∷ cut rest → xs ≡ piece ++ rest
first-parts xs piece rest e = sym (concat-cut xs) ∙ ap concat e ∙ ap (λ v. piece ++ v) (concat-cut rest)

no-pieces : (xs : List ℕ) → cut xs ≡ [] → xs ≡ []
no-pieces xs e = sym (concat-cut xs) ∙ ap concat e

pub newlines-append : (a b : List ℕ) → newlines (a ++ b) ≡ newlines a + newlines b
unfolding newlines
newlines-append [] b = omega arith
newlines-append (x ∷ xs) b = by (x == 10) (newlines-append xs b)
  where
    by : (c : Bool) → newlines (xs ++ b) ≡ newlines xs + newlines b → (if c then newlines (xs ++ b) + 1 else newlines (xs ++ b)) ≡ (if c then newlines xs + 1 else newlines xs) + newlines b
    by true e = omega (arith, e)
    by false e = e

-- the first piece has its newline, or is the last
abbrev FirstWhole : List (List ℕ) → Type 0
FirstWhole [] = ⊤
FirstWhole (p ∷ ps) = (newlines p ≡ 1) ⊎ (ps ≡ [])

whole-onto : (x : ℕ) (pieces : List (List ℕ)) → (x == 10) ≡ false → FirstWhole pieces → FirstWhole (onto_first x pieces)
unfolding newlines
whole-onto x [] e h = inr refl
whole-onto x (p ∷ ps) e (inl one) = inl (ap (λ b. if b then newlines p + 1 else newlines p) e ∙ one)
whole-onto x (p ∷ ps) e (inr last) = inr last

first-whole : (xs : List ℕ) → FirstWhole (cut xs)
unfolding cut newlines
first-whole [] = tt
first-whole (x ∷ xs) = by (x == 10) refl (first-whole xs)
  where
    by : (b : Bool) → (x == 10) ≡ b → FirstWhole (cut xs) → FirstWhole (if b then (x ∷ []) ∷ cut xs else onto_first x (cut xs))
    by true e h = inl (ap (λ c. if c then 0 + 1 else 0) e)
    by false e h = whole-onto x (cut xs) e h

-- ---- lines that were read

-- nothing was read yet
pub read-start : (bytes : List ℕ) → AreRead bytes bytes 0
unfolding newlines
read-start bytes = record { read = []; parts = refl; whole = inl refl }

more-by : (bytes rest rest' piece read : List ℕ) (lines : ℕ) → bytes ≡ read ++ rest → rest ≡ piece ++ rest' → length (cut bytes) ≡ lines + length (piece ∷ cut rest') → lines ≡ newlines read → FirstWhole (piece ∷ cut rest') → AreRead bytes rest' (suc lines)
more-by bytes rest rest' piece read lines parts split pieces count (inl one) = record {
  read = read ++ piece;
  parts = parts ∙ ap (λ v. read ++ v) split ∙ sym (append_assoc read piece rest');
  whole = inl (omega (arith, newlines-append read piece, count, one));
}
more-by bytes rest rest' piece read lines parts split pieces count (inr last) = record {
  read = read ++ piece;
  parts = parts ∙ ap (λ v. read ++ v) split ∙ sym (append_assoc read piece rest');
  whole = inr (no-pieces rest' last, omega (arith, pieces, ap length last));
}

none-left : (rest piece : List ℕ) (ps : List (List ℕ)) → rest ≡ [] → cut rest ≡ piece ∷ ps → ⊥
unfolding cut
none-left rest piece ps e f = no-cons (ap cut (sym e) ∙ f)
  where
    no-cons : [] ≡ piece ∷ ps → ⊥
    no-cons g = cc

-- one line more
pub read-more : (bytes rest rest' piece : List ℕ) (lines : ℕ) → AreRead bytes rest lines → cut rest ≡ piece ∷ cut rest' → length (cut bytes) ≡ lines + length (cut rest) → AreRead bytes rest' (suc lines)
read-more bytes rest rest' piece lines r first pieces = by r.whole
  where
    by : (lines ≡ newlines r.read) ⊎ ((rest ≡ []) × (lines ≡ length (cut bytes))) → AreRead bytes rest' (suc lines)
    by (inl count) = more-by bytes rest rest' piece r.read lines r.parts (first-parts rest piece rest' first) (pieces ∙ ap (λ ps. lines + length ps) first) count (subst FirstWhole first (first-whole rest))
    by (inr (nil, all)) = absurd (none-left rest piece (cut rest') nil first)

nothing-left : (a b : List ℕ) → a ++ b ≡ [] → b ≡ []
nothing-left [] b e = e
nothing-left (x ∷ xs) b e = absurd (no-cons e)
  where
    no-cons : x ∷ (xs ++ b) ≡ [] → ⊥
    no-cons g = cc

-- some more was read, and no newline
pub read-out : (bytes rest ahead left : List ℕ) (lines : ℕ) → AreRead bytes rest lines → rest ≡ ahead ++ left → newlines ahead ≡ 0 → AreRead bytes left lines
read-out bytes rest ahead left lines r split none = record {
  read = r.read ++ ahead;
  parts = r.parts ∙ ap (λ v. r.read ++ v) split ∙ sym (append_assoc r.read ahead left);
  whole = by r.whole;
}
  where
    by : (lines ≡ newlines r.read) ⊎ ((rest ≡ []) × (lines ≡ length (cut bytes))) → (lines ≡ newlines (r.read ++ ahead)) ⊎ ((left ≡ []) × (lines ≡ length (cut bytes)))
    by (inl count) = inl (omega (arith, newlines-append r.read ahead, count, none))
    by (inr (nil, all)) = inr (nothing-left ahead left (sym split ∙ nil), all)
