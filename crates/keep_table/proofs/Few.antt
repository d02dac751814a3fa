-- No collection has more versions than the rules allow, and changes keep it so.
use Rattle.std.proofs.Common.{◌≡◌, ◌<◌, ◌≤◌, ◌+◌, ◌++◌, ◌&&◌, ℕ, List, [], ◌∷◌, Bool, true, false, cond, not, map, filter, count_by, nat_eq, refl, ap, subst, ◌∙◌, arith}
use Rattle.std.proofs.lemmas.Bool.{and_right, and_parts, eqb-true}
use Rattle.keep_event.specs.Table.{is_current, is_current_of, is_due, is_due_of, is_held, is_of, superseded}
use Rattle.keep_event.specs.declared.table.Standing.{Standing}
use Rattle.keep_event.specs.declared.table.Record.{Record}
use Rattle.keep_table.specs.Contents.{AreFew, AreSuperseded, is_version_of}
use Rattle.keep_table.specs.Maps.{standing_as}
use Rattle.keep_table.proofs.Counts.{count-cons, count-push, count-filter, count-map, bit, bit-le-1}
use Rattle.keep_table.proofs.Newest.{one-current}

current-no-version : (n : ℕ) (r : Record) → is_current r.standing ≡ true → is_version_of n r ≡ false
current-no-version n r e = rw e (and_right (is_of n r) false refl)

pub few-pushed : (versions : ℕ) (rs : List Record) (row : Record) → is_current row.standing ≡ true → AreFew versions rs → AreFew versions (rs ++ row ∷ [])
few-pushed versions rs row e h = λ n. let few = h n in rw (count-push (is_version_of n) rs row, current-no-version n row e) (omega arith)

pub few-filter : (versions : ℕ) (q : Record → Bool) (rs : List Record) → AreFew versions rs → AreFew versions (filter q rs)
few-filter versions q rs h = λ n. let few = h n in let less = count-filter (is_version_of n) q rs in omega arith

-- what a filter leaves of those that pass p passes r
count-left : (p q r : Record → Bool) (xs : List Record) → ((x : Record) → q x ≡ true → bit (p x) ≤ bit (r x)) → count_by p (filter q xs) ≤ count_by r xs
count-left p q r [] h = omega arith
count-left p q r (x ∷ xs) h = here (q x) refl (count-left p q r xs h)
  where
    here : (b : Bool) → q x ≡ b → count_by p (filter q xs) ≤ count_by r xs → count_by p (cond b (x ∷ filter q xs) (filter q xs)) ≤ count_by r (x ∷ xs)
    here true is rest = let one = h x is in rw (count-cons p x (filter q xs), count-cons r x xs) (omega arith)
    here false is rest = rw (count-cons r x xs) (omega arith)

-- of the collection itself, what isn't due is held
left-held : (reading n : ℕ) (r : Record) → not (is_due_of reading n r) ≡ true → bit (is_version_of n r) ≤ bit (is_held reading n r)
left-held reading n r e = here (is_of n r) (is_current r.standing) (is_due reading r.standing) e
  where
    here : (b t d : Bool) → not (b && d) ≡ true → bit (b && not t) ≤ bit (b && not t && not d)
    here true true d e = omega arith
    here true false true e = absurd (cc)
    here true false false e = omega arith
    here false t d e = omega arith

superseded-same : (n : ℕ) (standing : Standing) (r : Record) (b : Bool) → is_current_of n r ≡ b →
    bit (is_version_of n (cond b (standing_as standing r) r)) ≤ bit (is_version_of n r) + bit (is_current_of n r)
superseded-same n standing r true is = let most = bit-le-1 (is_version_of n (standing_as standing r)) in rw is (omega arith)
superseded-same n standing r false is = omega arith

superseded-other : (n number : ℕ) (standing : Standing) (r : Record) (b : Bool) → nat_eq number n ≡ false → is_current_of number r ≡ b →
    bit (is_version_of n (cond b (standing_as standing r) r)) ≤ bit (is_version_of n r) + bit false
superseded-other n number standing r true other is =
    let number_is : r.collection ≡ number = eqb-true r.collection number (and_parts (is_of number r) (is_current r.standing) is).0 in
    let apart : is_of n r ≡ false = ap (λ k. nat_eq k n) number_is ∙ other in
    rw apart (omega arith)
superseded-other n number standing r false other is = omega arith

none-false : (rs : List Record) → count_by (λ r. false) rs ≡ 0
none-false [] = refl
none-false (r ∷ rs) = rw (count-cons (λ r. false) r rs, none-false rs) refl

-- fewer than so many were held, and what was current joins them
pub few-updated : (reading versions : ℕ) (standing : Standing) (rs : List Record) (row : Record) → is_current row.standing ≡ true → AreSuperseded rs → count_by (is_held reading row.collection) rs < versions → AreFew versions rs →
    AreFew versions (map (superseded row.collection standing) (filter (λ r. not (is_due_of reading row.collection r)) rs) ++ row ∷ [])
few-updated reading versions standing rs row e h held few = λ n.
    rw (count-push (is_version_of n) (map (superseded row.collection standing) (filter (λ r. not (is_due_of reading row.collection r)) rs)) row, current-no-version n row e) (here n (nat_eq row.collection n) refl)
  where
    left : List Record
    left = filter (λ r. not (is_due_of reading row.collection r)) rs

    own : count_by (is_version_of row.collection) (map (superseded row.collection standing) left) + 0 ≤ versions
    own =
        let changed = count-map (is_version_of row.collection) (is_version_of row.collection) (is_current_of row.collection) (superseded row.collection standing) left (λ x. superseded-same row.collection standing x (is_current_of row.collection x) refl) in
        let stays = count-left (is_version_of row.collection) (λ r. not (is_due_of reading row.collection r)) (is_held reading row.collection) rs (λ x kept. left-held reading row.collection x kept) in
        let current = count-filter (is_current_of row.collection) (λ r. not (is_due_of reading row.collection r)) rs in
        let one = one-current row.collection rs h in
        omega arith

    here : (n : ℕ) (b : Bool) → nat_eq row.collection n ≡ b → count_by (is_version_of n) (map (superseded row.collection standing) left) + 0 ≤ versions
    here n true is = subst (λ (k : ℕ). count_by (is_version_of k) (map (superseded row.collection standing) left) + 0 ≤ versions) (eqb-true row.collection n is) own
    here n false is =
        let changed = count-map (is_version_of n) (is_version_of n) (λ r. false) (superseded row.collection standing) left (λ x. superseded-other n row.collection standing x (is_current_of row.collection x) is refl) in
        let none = none-false left in
        let less = count-filter (is_version_of n) (λ r. not (is_due_of reading row.collection r)) rs in
        let most = few n in
        omega arith
