-- What is left when the digests of device after device are taken away (`lacks-next`), its first (`first-left`), and what that says of a past (`judged`, `never-unheld`).
use Rattle.std.proofs.Common.{◌≡◌, ◌+◌, ℕ, suc, List, [], ◌∷◌, filter, not, ◌||◌, ◌&&◌, Bool, true, false, cond, Result, Ok, Err, Some, refl, sym, ◌∙◌, ap, slice_get, arith}
use Rattle.std.specs.List.{find, list_any}
use Rattle.std.proofs.lemmas.List.Folds.{list_any-append}
use Rattle.keep_spec.specs.Config.{Configuration}
use Rattle.keep_spec.specs.Members.{numbers_from}
use Rattle.keep_safety.specs.Allowed.{IsAllowed}
use Rattle.keep_safety.specs.Holds.{holds}
use Rattle.keep_core.specs.Judged.{IsJudged, is_first, lacks}
use Rattle.keep_safety.specs.Past.{Past}
use Rattle.keep_safety.specs.Safe.{IsSafe, IsSafeThroughout}
use Rattle.keep_safety.specs.Signatures.{IsUnforged}
use Rattle.keep_safety.specs.Times.{IsSteady}
use Rattle.keep_core.specs.Unheld.{unheld}
use Rattle.keep_core.specs.declared.judging.Unsafe.{Unsafe}
use Rattle.keep_core.specs.declared.judging.Unsafe.TheVariants.{Unheld, NoMemory}
use Rattle.keep_core.proofs.Numbers.{numbers-next}
use Rattle.keep_safety.proofs.Theorem.{theorem}
use Rattle.keep_core.proofs.Unheld.{none-safe, safe-none, some-least}

-- ---- what is left
again-by : {X : Type 0} (p : X → Bool) (x : X) (ys zs : List X) (a b : Bool) → p x ≡ a → filter p ys ≡ zs → filter p (cond b (x ∷ ys) ys) ≡ cond (a && b) (x ∷ zs) zs
again-by p x ys zs true true e h = ap (λ b. cond b (x ∷ filter p ys) (filter p ys)) e ∙ ap (λ v. x ∷ v) h
again-by p x ys zs false true e h = ap (λ b. cond b (x ∷ filter p ys) (filter p ys)) e ∙ h
again-by p x ys zs true false e h = h
again-by p x ys zs false false e h = h

filter-again : {X : Type 0} (p q r : X → Bool) (xs : List X) → ((x : X) → r x ≡ (p x && q x)) → filter p (filter q xs) ≡ filter r xs
filter-again p q r [] f = refl
filter-again p q r (x ∷ xs) f = again-by p x (filter q xs) (filter r xs) (p x) (q x) refl (filter-again p q r xs f) ∙ ap (λ b. cond b (x ∷ filter r xs) (filter r xs)) (sym (f x))

neither : (a b : Bool) → not (a || (b || false)) ≡ (not b && not a)
neither true true = refl
neither true false = refl
neither false true = refl
neither false false = refl

pub lacks-next : (past : Past) (n : ℕ) (has : List ℕ → Bool) (hs : List (List ℕ)) → ((h : List ℕ) → has h ≡ holds n h past) → filter (λ h. not (has h)) (filter (lacks past n) hs) ≡ filter (lacks past (n + 1)) hs
lacks-next past n has hs same = filter-again (λ h. not (has h)) (lacks past n) (lacks past (n + 1)) hs (λ h.
    (let one : n + 1 ≡ suc n = omega arith in ap (λ m. lacks past m h) one)
    ∙ ap (λ ns. not (list_any (λ d. holds d h past) ns)) (numbers-next 0 n n (omega arith))
    ∙ ap not (list_any-append (λ d. holds d h past) (numbers_from 0 n) (n ∷ []))
    ∙ neither (list_any (λ d. holds d h past) (numbers_from 0 n)) (holds n h past)
    ∙ ap (λ b. not b && lacks past n h) (sym (same h)))

pub lacks-none : (past : Past) (hs : List (List ℕ)) → filter (lacks past 0) hs ≡ hs
lacks-none past [] = refl
lacks-none past (h ∷ hs) = ap (λ v. h ∷ v) (lacks-none past hs)

-- ---- the first of it
first-by : {X : Type 0} (p : X → Bool) (x : X) (xs : List X) (b : Bool) → find p xs ≡ slice_get (filter p xs) 0 → cond b (Some x) (find p xs) ≡ slice_get (cond b (x ∷ filter p xs) (filter p xs)) 0
first-by p x xs true h = refl
first-by p x xs false h = h

pub first-left : {X : Type 0} (p : X → Bool) (xs : List X) → find p xs ≡ slice_get (filter p xs) 0
first-left p [] = refl
first-left p (x ∷ xs) = first-by p x xs (p x) (first-left p xs)

-- ---- what it says
not-both : (c : Configuration) (past : Past) (h : List ℕ) → unheld c past ≡ Some h → IsSafe c past → ⊥
not-both c past h e safe = cc (sym e ∙ safe-none c past safe)

pub judged : {X : Type 0} (c : Configuration) (past : Past) (result : Result X Unsafe) → is_first (unheld c past) result → IsJudged c past result
judged c past (Ok x) e = none-safe c past e
judged c past (Err (Unheld digest)) e = (not-both c past digest e, some-least c past digest e)
judged c past (Err NoMemory) e = tt

last-safe : (c : Configuration) (past : Past) → IsSafeThroughout c past → IsSafe c past
last-safe c [] safe = safe
last-safe c (e ∷ past) safe = safe.0

pub never-unheld : {X : Type 0} (c : Configuration) (past : Past) (result : Result X Unsafe) → IsJudged c past result → IsAllowed c past → IsSteady c past → IsUnforged c past → (digest : List ℕ) → result ≡ Err (Unheld digest) → ⊥
never-unheld c past (Ok x) j allowed steady unforged digest e = cc e
never-unheld c past (Err (Unheld h)) j allowed steady unforged digest e = j.0 (last-safe c past ((theorem c past allowed).1 steady unforged))
never-unheld c past (Err NoMemory) j allowed steady unforged digest e = cc e
