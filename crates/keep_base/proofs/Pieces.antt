-- Pieces of a list that is read or written from its front.
use Rattle.std.proofs.Common.{◌≡◌, ℕ, ◌+◌, ◌≤◌, List, [], ◌++◌, Option, Some, None, length, take, drop, refl, sym, ◌∙◌, ap, subst, arith, append_assoc, length-drop}
use Rattle.std.specs.Io.KnownBytes.{Appends}
use Rattle.std.proofs.lemmas.List.{take_at, take_all, append-nil, take-append-drop, drop-drop, length-take-le}
use Rattle.std.proofs.Math.Seq.{take-add}

-- a read of n bytes at `at` takes them from the front of what is left
pub read_front : (bytes buf copied : List ℕ) (at n : ℕ) → copied ≡ take n (drop at bytes) → n ≤ length (drop at bytes) → drop at bytes ≡ take n (copied ++ buf) ++ drop (at + n) bytes
read_front bytes buf copied at n e le =
    let full : length copied ≡ n = ap length e ∙ length-take-le n (drop at bytes) le in
    rw (take_at copied buf n full, e, ← drop-drop n at bytes) (sym (take-append-drop n (drop at bytes)))

-- of some bytes, `rest` is left, and what came before was taken
pub record Written (old new : Option (List ℕ)) (bytes rest : List ℕ) : Type 0 where
  pub count : ℕ
  pub within : count ≤ length bytes
  pub left : rest ≡ drop count bytes
  pub appended : Appends old new (take count bytes)

pub Written-start : (old : Option (List ℕ)) (bytes : List ℕ) → Written old old bytes bytes
Written-start None bytes = record { count = 0; within = omega arith; left = refl; appended = tt }
Written-start (Some xs) bytes = record { count = 0; within = omega arith; left = refl; appended = sym (append-nil xs) }

Appends-more : (old mid new : Option (List ℕ)) (bytes : List ℕ) (k n : ℕ) → Appends old mid (take k bytes) → Appends mid new (take n (drop k bytes)) → Appends old new (take (k + n) bytes)
Appends-more None mid new bytes k n p q = tt
Appends-more (Some xs) None new bytes k n p q = absurd p
Appends-more (Some xs) (Some ys) None bytes k n p q = absurd q
Appends-more (Some xs) (Some ys) (Some zs) bytes k n p q = q ∙ ap (λ v. v ++ take n (drop k bytes)) p ∙ append_assoc xs (take k bytes) (take n (drop k bytes)) ∙ ap (λ v. xs ++ v) (sym (take-add k n bytes))

pub Written-more : (old mid new : Option (List ℕ)) (bytes rest : List ℕ) (n : ℕ) → Written old mid bytes rest → n ≤ length rest → Appends mid new (take n rest) → Written old new bytes (drop n rest)
Written-more old mid new bytes rest n w le q =
    let in_rest : n ≤ length (drop w.count bytes) = subst (λ (v : List ℕ). n ≤ length v) w.left le in
    let there : Appends mid new (take n (drop w.count bytes)) = subst (λ (v : List ℕ). Appends mid new (take n v)) w.left q in
    record {
      count = w.count + n;
      within = let a = w.within in omega (arith, length-drop w.count bytes);
      left = ap (drop n) w.left ∙ drop-drop n w.count bytes;
      appended = Appends-more old mid new bytes w.count n w.appended there;
    }

pub Written-all : (old new : Option (List ℕ)) (bytes rest : List ℕ) → Written old new bytes rest → rest ≡ [] → Appends old new bytes
Written-all old new bytes rest w e =
    let empty : length (drop w.count bytes) ≡ 0 = ap length (sym w.left ∙ e) in
    let le : length bytes ≤ w.count = let a = w.within in omega (arith, length-drop w.count bytes) in
    subst (λ (v : List ℕ). Appends old new v) (take_all w.count bytes le) w.appended
