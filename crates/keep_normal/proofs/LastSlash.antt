-- A path and its last `/`.
use Rattle.std.proofs.Common.{◌≡◌, ℕ, ◌==◌, ◌+◌, ◌<◌, false, cond, List, [], ◌∷◌, ◌++◌, Some, None, ap, sym, ◌∙◌, take, drop, get_or, length, add-one}
use Rattle.std.proofs.Math.Seq.{drop-cons}
use Rattle.std.proofs.lemmas.List.{take-append-drop}
use Rattle.keep_normal.specs.Normal.{cut_onto, cut_last}

-- a `/` with none after it
pub cut_last-at : (front behind : List ℕ) → cut_last behind ≡ None → cut_last (front ++ 47 ∷ behind) ≡ Some (front, behind)
cut_last-at [] behind none = ap (cut_onto 47 behind) none
cut_last-at (x ∷ xs) behind none = ap (cut_onto x (xs ++ 47 ∷ behind)) (cut_last-at xs behind none)

pub cut_last-found : (i : ℕ) (path behind : List ℕ) → i < length path → get_or path i 0 ≡ 47 → behind ≡ drop (i + 1) path → cut_last (drop (i + 1) path) ≡ None
    → Some (take i path, behind) ≡ cut_last path
cut_last-found i path behind inside slash e none =
    let whole : path ≡ take i path ++ 47 ∷ drop (i + 1) path =
    sym (take-append-drop i path) ∙ ap (λ ys. take i path ++ ys) (drop-cons path i 0 inside ∙ ap (λ n. get_or path i 0 ∷ drop n path) (sym (add-one i)) ∙ ap (λ b. b ∷ drop (i + 1) path) slash) in
    sym (ap cut_last whole ∙ cut_last-at (take i path) (drop (i + 1) path) none ∙ ap (λ b. Some (take i path, b)) (sym e))

-- another byte
pub cut_last-other : (x : ℕ) (xs : List ℕ) → (x == 47) ≡ false → cut_last xs ≡ None → cut_last (x ∷ xs) ≡ None
cut_last-other x xs other none = ap (cut_onto x xs) none ∙ ap (λ b. cond b (Some ([], xs)) None) other
