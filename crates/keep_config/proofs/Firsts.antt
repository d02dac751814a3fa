-- The devices of a server, one mount after another.
use Rattle.std.proofs.Common.{◌≡◌, ◌≢◌, ◌+◌, ◌<◌, length, get_or, drop, add-one, drop-cons, ℕ, ◌==◌, ◌&&◌, ◌||◌, List, [], ◌∷◌, ◌++◌, map, filter, Bool, true, false, cond, not, refl, sym, ◌∙◌, ap, append_assoc, inl, inr}
use Rattle.std.specs.List.{list_any}
use Rattle.std.proofs.lemmas.Bool.{cases_Bool, eqb-true, eq-eqb, ne_eqb}
use Rattle.std.proofs.lemmas.List.{append-nil}
use Rattle.std.proofs.lemmas.List.Folds.{list_any-append}
use Rattle.keep_spec.specs.Config.{firsts}
use Rattle.keep_spec.specs.declared.config.Mount.{Mount}

filter-cond : {X : Type 0} (p : X → Bool) (a b c : Bool) (x : X) (ys zs : List X) → c ≡ (a && b) → filter p ys ≡ zs → p x ≡ b → filter p (cond a (x ∷ ys) ys) ≡ cond c (x ∷ zs) zs
filter-cond p true b c x ys zs e h k = rw (k, e, h) refl
filter-cond p false b c x ys zs e h k = rw (e, h) refl

-- what passes one test and then another
filter-filter : {X : Type 0} (p q r : X → Bool) → ((x : X) → r x ≡ (q x && p x)) → (xs : List X) → filter p (filter q xs) ≡ filter r xs
filter-filter p q r h [] = refl
filter-filter p q r h (x ∷ xs) = filter-cond p (q x) (p x) (r x) x (filter q xs) (filter r xs) (h x) (filter-filter p q r h xs) refl

abbrev pub is_seen : List ℕ → ℕ → Bool
is_seen seen x = list_any (λ y. y == x) seen

-- the firsts of a list that weren't seen before
abbrev pub unseen : List ℕ → List ℕ → List ℕ
unseen seen xs = filter (λ x. not (is_seen seen x)) (firsts xs)

unseen-again : (seen : List ℕ) (x : ℕ) (xs : List ℕ) → is_seen seen x ≡ true → unseen seen (x ∷ xs) ≡ unseen seen xs
unseen-again seen x xs e =
    ap (λ b. cond (not b) (x ∷ filter (λ y. not (is_seen seen y)) (filter (λ y. not (x == y)) (firsts xs))) (filter (λ y. not (is_seen seen y)) (filter (λ y. not (x == y)) (firsts xs)))) e
    ∙ filter-filter (λ y. not (is_seen seen y)) (λ y. not (x == y)) (λ y. not (is_seen seen y)) same (firsts xs)
  where
    same : (y : ℕ) → not (is_seen seen y) ≡ (not (x == y) && not (is_seen seen y))
    same y = elim (cases_Bool (x == y)) as (λ _. not (is_seen seen y) ≡ (not (x == y) && not (is_seen seen y))) [ inl k ↦ rw (k, ← eqb-true x y k, e) refl | inr k ↦ rw k refl ]

unseen-new : (seen : List ℕ) (x : ℕ) (xs : List ℕ) → is_seen seen x ≡ false → unseen seen (x ∷ xs) ≡ x ∷ unseen (seen ++ x ∷ []) xs
unseen-new seen x xs e =
    ap (λ b. cond (not b) (x ∷ filter (λ y. not (is_seen seen y)) (filter (λ y. not (x == y)) (firsts xs))) (filter (λ y. not (is_seen seen y)) (filter (λ y. not (x == y)) (firsts xs)))) e
    ∙ ap (λ ys. x ∷ ys) (filter-filter (λ y. not (is_seen seen y)) (λ y. not (x == y)) (λ y. not (is_seen (seen ++ x ∷ []) y)) same (firsts xs))
  where
    both : (a b : Bool) → not (a || (b || false)) ≡ (not b && not a)
    both true true = refl
    both true false = refl
    both false true = refl
    both false false = refl

    same : (y : ℕ) → not (is_seen (seen ++ x ∷ []) y) ≡ (not (x == y) && not (is_seen seen y))
    same y = rw (list_any-append (λ z. z == y) seen (x ∷ [])) (both (is_seen seen y) (x == y))

-- the devices of the mounts on a server
abbrev pub on_server : ℕ → List Mount → List ℕ
on_server server ms = map (λ m. m.device) (filter (λ m. m.server == server) ms)

-- the devices so far, and then those of the mounts that are left
abbrev pub devices_with : List ℕ → ℕ → List Mount → List ℕ
devices_with seen server ms = seen ++ unseen seen (on_server server ms)

devices_with-cond : (seen : List ℕ) (server : ℕ) (m : Mount) (ms : List Mount) (b : Bool) → (m.server == server) ≡ b → devices_with seen server (m ∷ ms) ≡ seen ++ unseen seen (map (λ m. m.device) (cond b (m ∷ filter (λ m. m.server == server) ms) (filter (λ m. m.server == server) ms)))
devices_with-cond seen server m ms b e = ap (λ b. seen ++ unseen seen (map (λ m. m.device) (cond b (m ∷ filter (λ m. m.server == server) ms) (filter (λ m. m.server == server) ms)))) e

-- the list begins with a mount on another server
pub skips-other : (seen : List ℕ) (server : ℕ) (m : Mount) (rest ms : List Mount) (all : List ℕ) → ms ≡ m ∷ rest → m.server ≢ server → devices_with seen server ms ≡ all → devices_with seen server rest ≡ all
skips-other seen server m rest ms all at e h =
    sym (devices_with-cond seen server m rest false (ne_eqb m.server server e)) ∙ sym (ap (devices_with seen server) at) ∙ h

-- with one whose device was there already
pub skips-seen : (seen : List ℕ) (server : ℕ) (m : Mount) (rest ms : List Mount) (all : List ℕ) → ms ≡ m ∷ rest → m.server ≡ server → is_seen seen m.device ≡ true → devices_with seen server ms ≡ all → devices_with seen server rest ≡ all
skips-seen seen server m rest ms all at e k h =
    sym (devices_with-cond seen server m rest true (eq-eqb m.server server e) ∙ ap (λ xs. seen ++ xs) (unseen-again seen m.device (on_server server rest) k))
    ∙ sym (ap (devices_with seen server) at) ∙ h

-- with one that adds its device
pub takes-new : (seen : List ℕ) (server : ℕ) (m : Mount) (rest ms : List Mount) (all : List ℕ) → ms ≡ m ∷ rest → m.server ≡ server → is_seen seen m.device ≡ false → devices_with seen server ms ≡ all → devices_with (seen ++ m.device ∷ []) server rest ≡ all
takes-new seen server m rest ms all at e k h =
    append_assoc seen (m.device ∷ []) (unseen (seen ++ m.device ∷ []) (on_server server rest))
    ∙ sym (devices_with-cond seen server m rest true (eq-eqb m.server server e) ∙ ap (λ xs. seen ++ xs) (unseen-new seen m.device (on_server server rest) k))
    ∙ sym (ap (devices_with seen server) at) ∙ h

filter-all : (xs : List ℕ) → filter (λ x. true) xs ≡ xs
filter-all [] = refl
filter-all (x ∷ xs) = ap (λ ys. x ∷ ys) (filter-all xs)

-- nothing was seen before the first mount, and nothing is left after the last
pub devices_with-none : (server : ℕ) (ms : List Mount) → devices_with [] server ms ≡ firsts (on_server server ms)
devices_with-none server ms = filter-all (firsts (on_server server ms))

pub devices_with-end : (seen : List ℕ) (server : ℕ) (rest ms : List Mount) → rest ≡ [] → devices_with seen server rest ≡ devices_with [] server ms → seen ≡ firsts (on_server server ms)
devices_with-end seen server rest ms e h =
    sym (append-nil seen) ∙ sym (ap (devices_with seen server) e) ∙ h ∙ devices_with-none server ms

pub drop-item : (ms : List Mount) (i : ℕ) (m : Mount) → i < length ms → m ≡ get_or ms i m → drop i ms ≡ m ∷ drop (i + 1) ms
drop-item ms i m lt is = rw (add-one, drop-cons ms i m, ← is) refl
