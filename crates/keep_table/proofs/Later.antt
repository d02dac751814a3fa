-- The versions of a collection rise with its revisions: changes keep it so, the current version is the greatest, and a version is the only one with its number.
use Rattle.std.proofs.Common.{◌≡◌, ◌<◌, ◌+◌, ◌++◌, ◌&&◌, ◌||◌, ℕ, List, [], ◌∷◌, Bool, true, false, cond, not, map, filter, nat_eq, Option, Some, None, refl, ap, sym, subst, ◌∙◌, arith}
use Rattle.std.specs.List.{find, list_any}
use Rattle.std.specs.Option.{option_map_or}
use Rattle.std.proofs.lemmas.Bool.{eq-eqb, eqb-true, and_parts, and_left, or_parts, false_from_ne_true, both_ways}
use Rattle.keep_event.specs.Table.{is_current, is_preserved, is_current_of, is_of, is_readable}
use Rattle.keep_event.specs.declared.table.Standing.{Standing}
use Rattle.keep_event.specs.declared.table.Record.{Record}
use Rattle.keep_table.specs.Contents.{AreSuperseded}
use Rattle.keep_table.specs.Maps.{AreAfter, AreBefore, AreVersioned, is_at_version, marked, standing_as}
use Rattle.keep_table.proofs.Orderly.{all-push, all-filter}

-- ---- changes

pub versioned-push : (rs : List Record) (row : Record) → AreVersioned rs → AreBefore row.collection row.version rs → AreVersioned (rs ++ row ∷ [])
versioned-push [] row h before = (tt, tt)
versioned-push (r ∷ rs) row h before =
    (all-push (λ x. is_of r.collection x ≡ true → r.version < x.version) rs row h.0 (λ of. before.0 (eq-eqb r.collection row.collection (sym (eqb-true row.collection r.collection of)))), versioned-push rs row h.1 before.1)

versioned-cond : (b : Bool) (r : Record) (rs : List Record) → AreAfter r.collection r.version rs → AreVersioned rs → AreVersioned (cond b (r ∷ rs) rs)
versioned-cond true r rs after h = (after, h)
versioned-cond false r rs after h = h

pub versioned-filter : (q : Record → Bool) (rs : List Record) → AreVersioned rs → AreVersioned (filter q rs)
versioned-filter q [] h = tt
versioned-filter q (r ∷ rs) h = versioned-cond (q r) r (filter q rs) (all-filter (λ x. is_of r.collection x ≡ true → r.version < x.version) q rs h.0) (versioned-filter q rs h.1)

-- another standing leaves a record its collection and its version
after-standing : (n u : ℕ) (standing : Standing) (b : Bool) (r : Record) → (is_of n r ≡ true → u < r.version) → is_of n (cond b (standing_as standing r) r) ≡ true → u < (cond b (standing_as standing r) r).version
after-standing n u standing true r h = h
after-standing n u standing false r h = h

after-marked : (n u k : ℕ) (standing : Standing) (rs : List Record) → AreAfter n u rs → AreAfter n u (map (marked k standing) rs)
after-marked n u k standing [] h = tt
after-marked n u k standing (r ∷ rs) h = (after-standing n u standing (nat_eq r.revision k) r h.0, after-marked n u k standing rs h.1)

standing-after : (standing : Standing) (b : Bool) (r : Record) (rs : List Record) → AreAfter r.collection r.version rs → AreAfter (cond b (standing_as standing r) r).collection (cond b (standing_as standing r) r).version rs
standing-after standing true r rs h = h
standing-after standing false r rs h = h

pub versioned-marked : (k : ℕ) (standing : Standing) (rs : List Record) → AreVersioned rs → AreVersioned (map (marked k standing) rs)
versioned-marked k standing [] h = tt
versioned-marked k standing (r ∷ rs) h =
    (standing-after standing (nat_eq r.revision k) r (map (marked k standing) rs) (after-marked r.collection r.version k standing rs h.0), versioned-marked k standing rs h.1)

-- ---- the current version

-- the version of a collection's current record, or 0
abbrev pub version_now : ℕ → List Record → ℕ
version_now n rs = option_map_or (λ r. r.version) (find (is_current_of n) rs) 0

-- a collection without records has no version
pub none-before : (n u : ℕ) (rs : List Record) → list_any (is_of n) rs ≡ false → AreBefore n u rs
none-before n u [] none = tt
none-before n u (r ∷ rs) none =
    let parts = or_parts (is_of n r) (list_any (is_of n) rs) none in
    ((λ of. absurd (both_ways (is_of n r) parts.0 of)), none-before n u rs parts.1)

-- of records of a collection after a version, the current one is after it
after-current : (n u : ℕ) (rs : List Record) → AreAfter n u rs → AreSuperseded rs → list_any (is_of n) rs ≡ true → u < version_now n rs
after-current n u [] after s some = absurd (cc)
after-current n u (r ∷ rs) after s some = here (is_of n r) refl some (λ some. after-current n u rs after.1 s.1 some)
  where
    there : (any : Bool) → list_any (is_of n) rs ≡ any → is_of n r ≡ true → is_current r.standing ≡ not any → (list_any (is_of n) rs ≡ true → u < version_now n rs) →
        u < option_map_or (λ r. r.version) (cond (is_current r.standing) (Some r) (find (is_current_of n) rs)) 0
    there true has is e rest = rw e (rest has)
    there false has is e rest = rw e (after.0 is)

    here : (b : Bool) → is_of n r ≡ b → (b || list_any (is_of n) rs) ≡ true → (list_any (is_of n) rs ≡ true → u < version_now n rs) →
        u < option_map_or (λ r. r.version) (cond (b && is_current r.standing) (Some r) (find (is_current_of n) rs)) 0
    here true is some rest = there (list_any (is_of n) rs) refl is (s.0 ∙ ap (λ k. not (list_any (is_of k) rs)) (eqb-true r.collection n is)) rest
    here false is some rest = rest some

-- the current version is the greatest of its collection
pub current-before : (n : ℕ) (rs : List Record) → AreVersioned rs → AreSuperseded rs → AreBefore n (version_now n rs + 1) rs
current-before n [] h s = tt
current-before n (r ∷ rs) h s = here (is_of n r) refl (current-before n rs h.1 s.1)
  where
    there : (any : Bool) → list_any (is_of n) rs ≡ any → r.collection ≡ n → is_current r.standing ≡ not any → AreBefore n (version_now n rs + 1) rs →
        AreBefore n (option_map_or (λ r. r.version) (cond (is_current r.standing) (Some r) (find (is_current_of n) rs)) 0 + 1) (r ∷ rs)
    there true has same e rest =
        let more = after-current n r.version rs (subst (λ (k : ℕ). AreAfter k r.version rs) same h.0) s.1 has in
        let found : cond (is_current r.standing) (Some r) (find (is_current_of n) rs) ≡ find (is_current_of n) rs = ap (λ b. cond b (Some r) (find (is_current_of n) rs)) e in
        subst (λ (o : Option Record). AreBefore n (option_map_or (λ (r : Record). r.version) o 0 + 1) (r ∷ rs)) (sym found) ((λ of. omega arith), rest)
    there false has same e rest =
        let found : cond (is_current r.standing) (Some r) (find (is_current_of n) rs) ≡ Some r = ap (λ b. cond b (Some r) (find (is_current_of n) rs)) e in
        subst (λ (o : Option Record). AreBefore n (option_map_or (λ (r : Record). r.version) o 0 + 1) (r ∷ rs)) (sym found) ((λ of. omega arith), none-before n (r.version + 1) rs has)

    here : (b : Bool) → is_of n r ≡ b → AreBefore n (version_now n rs + 1) rs → AreBefore n (option_map_or (λ r. r.version) (cond (b && is_current r.standing) (Some r) (find (is_current_of n) rs)) 0 + 1) (r ∷ rs)
    here true is rest =
        let same : r.collection ≡ n = eqb-true r.collection n is in
        there (list_any (is_of n) rs) refl same (s.0 ∙ ap (λ k. not (list_any (is_of k) rs)) same) rest
    here false is rest = ((λ of. absurd (both_ways (is_of n r) is of)), rest)

-- ---- a version that can be read

-- none after a version has its number
pub after-other : (n u : ℕ) (rs : List Record) → AreAfter n u rs → find (is_readable n (Some u)) rs ≡ None
after-other n u [] h = refl
after-other n u (r ∷ rs) h =
    let other : is_at_version n u r ≡ false = false_from_ne_true (is_at_version n u r) (λ at.
    let parts = and_parts (is_of n r) (nat_eq r.version u) at in
    let more = h.0 parts.0 in
    let same : r.version ≡ u = eqb-true r.version u parts.1 in
    omega arith) in
    rw (and_left (is_at_version n u r) (is_current r.standing || is_preserved r.standing) other) (after-other n u rs h.1)

read-cond : (n u : ℕ) (b : Bool) (r row : Record) (rs : List Record) → is_at_version n u r ≡ b → AreAfter r.collection r.version rs → cond b (Some r) (find (is_at_version n u) rs) ≡ Some row →
    (find (is_at_version n u) rs ≡ Some row → find (is_readable n (Some u)) rs ≡ cond (is_current row.standing || is_preserved row.standing) (Some row) None) →
    cond (b && (is_current r.standing || is_preserved r.standing)) (Some r) (find (is_readable n (Some u)) rs) ≡ cond (is_current row.standing || is_preserved row.standing) (Some row) None
read-cond n u true r row rs is after e rest =
    let same : r ≡ row = cc in
    let parts = and_parts (is_of n r) (nat_eq r.version u) is in
    let none = after-other n u rs (subst (λ (k : ℕ). AreAfter n k rs) (eqb-true r.version u parts.1) (subst (λ (k : ℕ). AreAfter k r.version rs) (eqb-true r.collection n parts.0) after)) in
    rw (none, same) refl
read-cond n u false r row rs is after e rest = rest e

-- the version that has the number, where it can be read
pub version-read : (n u : ℕ) (rs : List Record) (row : Record) → AreVersioned rs → find (is_at_version n u) rs ≡ Some row → find (is_readable n (Some u)) rs ≡ cond (is_current row.standing || is_preserved row.standing) (Some row) None
version-read n u [] row h e = absurd (cc)
version-read n u (r ∷ rs) row h e = read-cond n u (is_at_version n u r) r row rs refl h.0 e (λ e. version-read n u rs row h.1 e)

absent-cond : (n u : ℕ) (b : Bool) (r : Record) (rs : List Record) → cond b (Some r) (find (is_at_version n u) rs) ≡ None → (find (is_at_version n u) rs ≡ None → find (is_readable n (Some u)) rs ≡ None) →
    cond (b && (is_current r.standing || is_preserved r.standing)) (Some r) (find (is_readable n (Some u)) rs) ≡ None
absent-cond n u true r rs e rest = absurd (cc)
absent-cond n u false r rs e rest = rest e

pub version-absent : (n u : ℕ) (rs : List Record) → find (is_at_version n u) rs ≡ None → find (is_readable n (Some u)) rs ≡ None
version-absent n u [] e = refl
version-absent n u (r ∷ rs) e = absent-cond n u (is_at_version n u r) r rs e (λ e. version-absent n u rs e)
