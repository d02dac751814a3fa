-- Where the bytes of a request line end, and the grammar.
use Rattle.std.specs.Prelude.{IsTrue}
use Rattle.std.proofs.Common.{◌≡◌, ℕ, Bool, true, false, cond, eqb, List, [], ◌∷◌, ◌++◌, refl, sym, ap, ◌∙◌, subst, arith, inl, inr, append_assoc}
use Rattle.std.proofs.lemmas.Bool.{cases_Bool}
use Rattle.std.proofs.lemmas.Bool.Decides.{nat_tests}
use Rattle.std.proofs.lemmas.List.Elements.{All-nil, All-cons, All-head, All-tail}
use Rattle.httparse.specs.Grammar.{is_token_byte, AllPass, IsToken, LineEnd, crlf, lf, print_end, print_blank}
use Rattle.httparse.specs.Pieces.{is_newline}
use Rattle.httparse.proofs.PieceLemmas.{token_is_no_newline, space_ends_token}
use Rattle.keep_wire.specs.declared.target.Place.{Place}
use Rattle.keep_wire.specs.declared.target.Place.TheVariants.{Empty, AfterReturn, Method, Target, Past}
use Rattle.keep_wire.specs.Requests.{is_target_byte, EndsWithinTarget}
use Rattle.keep_wire.specs.Target.{place_next, place_after}

past-stays : (bs : List ℕ) → place_after Past bs ≡ Past
past-stays [] = refl
past-stays (b ∷ bs) = past-stays bs

no_past : (bs : List ℕ) → place_after Past bs ≡ Target → ⊥
no_past bs e = let p = past-stays bs in cc

-- a choice that was made
taken : (b c : Bool) (p q : Place) (bs : List ℕ) → b ≡ c → place_after (cond b p q) bs ≡ Target → place_after (cond c p q) bs ≡ Target
taken b c p q bs e h = subst (λ (v : Bool). place_after (cond v p q) bs ≡ Target) e h

target-all : (bs : List ℕ) → place_after Target bs ≡ Target → AllPass is_target_byte bs
target-all [] e = All-nil (λ (x : ℕ). IsTrue (is_target_byte x))
target-all (b ∷ bs) e =
    elim (cases_Bool (is_target_byte b)) as (λ _. AllPass is_target_byte (b ∷ bs)) [
      | inl is_yes ↦ All-cons (λ (x : ℕ). IsTrue (is_target_byte x)) b bs is_yes (target-all bs (taken (is_target_byte b) true Target Past bs is_yes e))
      | inr is_no ↦ absurd (no_past bs (taken (is_target_byte b) false Target Past bs is_no e))
    ]

pub record MethodParts (bs : List ℕ) : Type 0 where
  pub method : List ℕ
  pub target : List ℕ
  pub token : AllPass is_token_byte method
  pub plain : AllPass is_target_byte target
  pub whole : bs ≡ method ++ 32 ∷ target

method-parts : (bs : List ℕ) → place_after Method bs ≡ Target → MethodParts bs
method-parts [] e = absurd (cc)
method-parts (b ∷ bs) e =
    elim (cases_Bool (is_token_byte b)) as (λ _. MethodParts (b ∷ bs)) [
      | inl is_yes ↦
          let m = method-parts bs (taken (is_token_byte b) true Method (cond (eqb b 32) Target Past) bs is_yes e) in
          record { method = b ∷ m.method; target = m.target; token = All-cons (λ (x : ℕ). IsTrue (is_token_byte x)) b m.method is_yes m.token; plain = m.plain; whole = ap (λ (v : List ℕ). b ∷ v) m.whole }
      | inr is_no ↦
          let e2 = taken (is_token_byte b) false Method (cond (eqb b 32) Target Past) bs is_no e in
          elim (cases_Bool (eqb b 32)) as (λ _. MethodParts (b ∷ bs)) [
            | inl is ↦
                let b32 : b ≡ 32 = grind (arith, nat_tests) in
                record { method = []; target = bs; token = All-nil (λ (x : ℕ). IsTrue (is_token_byte x)); plain = target-all bs (taken (eqb b 32) true Target Past bs is e2); whole = ap (λ (v : ℕ). v ∷ bs) b32 }
            | inr not_is ↦ absurd (no_past bs (taken (eqb b 32) false Target Past bs not_is e2))
          ]
    ]

more_blank : (x : LineEnd) (bs : List ℕ) → EndsWithinTarget bs → EndsWithinTarget (print_end x ++ bs)
more_blank x bs (blank, method, target, m, t, w) =
    (x ∷ blank, method, target, m, t, ap (λ (v : List ℕ). print_end x ++ v) w ∙ sym (append_assoc (print_end x) (print_blank blank) (method ++ 32 ∷ target)))

both : (bs : List ℕ) → (place_after Empty bs ≡ Target → EndsWithinTarget bs) × (place_after AfterReturn bs ≡ Target → EndsWithinTarget (13 ∷ bs))
both [] = (λ e. absurd (cc), λ e. absurd (cc))
both (b ∷ bs) =
    let ih = both bs in
    (λ e. empty_case b bs ih.0 ih.1 e, λ e. return_case b bs ih.0 e)
  where
    return_case : (b : ℕ) (bs : List ℕ) → (place_after Empty bs ≡ Target → EndsWithinTarget bs) → place_after AfterReturn (b ∷ bs) ≡ Target → EndsWithinTarget (13 ∷ b ∷ bs)
    return_case b bs on_empty e =
        elim (cases_Bool (eqb b 10)) as (λ _. EndsWithinTarget (13 ∷ b ∷ bs)) [
          | inl is ↦
              let b10 : b ≡ 10 = grind (arith, nat_tests) in
              subst (λ (v : ℕ). EndsWithinTarget (13 ∷ v ∷ bs)) (sym b10) (more_blank crlf bs (on_empty (taken (eqb b 10) true Empty Past bs is e)))
          | inr is_no ↦ absurd (no_past bs (taken (eqb b 10) false Empty Past bs is_no e))
        ]

    token_case : (b : ℕ) (bs : List ℕ) → place_after (cond (is_token_byte b) Method Past) bs ≡ Target → EndsWithinTarget (b ∷ bs)
    token_case b bs e =
        elim (cases_Bool (is_token_byte b)) as (λ _. EndsWithinTarget (b ∷ bs)) [
          | inl is_yes ↦
              let m = method-parts bs (taken (is_token_byte b) true Method Past bs is_yes e) in
              ([], b ∷ m.method, m.target, (omega arith, All-cons (λ (x : ℕ). IsTrue (is_token_byte x)) b m.method is_yes m.token), m.plain, ap (λ (v : List ℕ). b ∷ v) m.whole)
          | inr is_no ↦ absurd (no_past bs (taken (is_token_byte b) false Method Past bs is_no e))
        ]

    empty_case : (b : ℕ) (bs : List ℕ) → (place_after Empty bs ≡ Target → EndsWithinTarget bs) → (place_after AfterReturn bs ≡ Target → EndsWithinTarget (13 ∷ bs)) → place_after Empty (b ∷ bs) ≡ Target → EndsWithinTarget (b ∷ bs)
    empty_case b bs on_empty on_return e =
        elim (cases_Bool (eqb b 10)) as (λ _. EndsWithinTarget (b ∷ bs)) [
          | inl is ↦
              let b10 : b ≡ 10 = grind (arith, nat_tests) in
              subst (λ (v : ℕ). EndsWithinTarget (v ∷ bs)) (sym b10) (more_blank lf bs (on_empty (taken (eqb b 10) true Empty (cond (eqb b 13) AfterReturn (cond (is_token_byte b) Method Past)) bs is e)))
          | inr is_no ↦
              let e2 = taken (eqb b 10) false Empty (cond (eqb b 13) AfterReturn (cond (is_token_byte b) Method Past)) bs is_no e in
              elim (cases_Bool (eqb b 13)) as (λ _. EndsWithinTarget (b ∷ bs)) [
                | inl is ↦
                    let b13 : b ≡ 13 = grind (arith, nat_tests) in
                    subst (λ (v : ℕ). EndsWithinTarget (v ∷ bs)) (sym b13) (on_return (taken (eqb b 13) true AfterReturn (cond (is_token_byte b) Method Past) bs is e2))
                | inr is_no2 ↦ token_case b bs (taken (eqb b 13) false AfterReturn (cond (is_token_byte b) Method Past) bs is_no2 e2)
              ]
        ]

pub within_target-from_place : (bs : List ℕ) → place_after Empty bs ≡ Target → EndsWithinTarget bs
within_target-from_place bs e = (both bs).0 e

blank-stays : (blank : List LineEnd) (r : List ℕ) → place_after Empty (print_blank blank ++ r) ≡ place_after Empty r
blank-stays [] r = refl
blank-stays (crlf ∷ blank) r = blank-stays blank r
blank-stays (lf ∷ blank) r = blank-stays blank r

target-stays : (t : List ℕ) → AllPass is_target_byte t → place_after Target t ≡ Target
target-stays [] all = refl
target-stays (b ∷ t) all =
    let h : is_target_byte b ≡ true = All-head (λ (x : ℕ). IsTrue (is_target_byte x)) b t all in
    ap (λ (v : Bool). place_after (cond v Target Past) t) h ∙ target-stays t (All-tail (λ (x : ℕ). IsTrue (is_target_byte x)) b t all)

method-stays : (m t : List ℕ) → AllPass is_token_byte m → AllPass is_target_byte t → place_after Method (m ++ 32 ∷ t) ≡ Target
method-stays [] t all plain = ap (λ (v : Bool). place_after (cond v Method Target) t) space_ends_token ∙ target-stays t plain
method-stays (b ∷ m) t all plain =
    let h : is_token_byte b ≡ true = All-head (λ (x : ℕ). IsTrue (is_token_byte x)) b m all in
    ap (λ (v : Bool). place_after (cond v Method (cond (eqb b 32) Target Past)) (m ++ 32 ∷ t)) h ∙ method-stays m t (All-tail (λ (x : ℕ). IsTrue (is_token_byte x)) b m all) plain

token_first : (b : ℕ) → is_token_byte b ≡ true → place_next Empty b ≡ Method
token_first b token =
    let n : is_newline b ≡ false = token_is_no_newline b token in
    let a : eqb b 10 ≡ false = grind (arith, nat_tests) in
    let c : eqb b 13 ≡ false = grind (arith, nat_tests) in
    ap (λ (v : Bool). cond v Empty (cond (eqb b 13) AfterReturn (cond (is_token_byte b) Method Past))) a
    ∙ ap (λ (v : Bool). cond v AfterReturn (cond (is_token_byte b) Method Past)) c
    ∙ ap (λ (v : Bool). cond v Method Past) token

line-place : (m t : List ℕ) → IsToken m → AllPass is_target_byte t → place_after Empty (m ++ 32 ∷ t) ≡ Target
line-place [] t (some, all) plain = absurd (omega arith)
line-place (b ∷ m) t (some, all) plain =
    ap (λ (p : Place). place_after p (m ++ 32 ∷ t)) (token_first b (All-head (λ (x : ℕ). IsTrue (is_token_byte x)) b m all)) ∙ method-stays m t (All-tail (λ (x : ℕ). IsTrue (is_token_byte x)) b m all) plain

pub place-from_within_target : (bs : List ℕ) → EndsWithinTarget bs → place_after Empty bs ≡ Target
place-from_within_target bs (blank, method, target, m, t, w) =
    ap (place_after Empty) w ∙ blank-stays blank (method ++ 32 ∷ target) ∙ line-place method target m t
