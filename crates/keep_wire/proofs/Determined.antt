-- Of known bytes at most one answer comes next, and they have at most one list of requests.
use Rattle.std.specs.Prelude.{IsTrue, IsSome, unwrap_or, IfOk, IfSome, Result}
use Rattle.std.proofs.Common.{◌≡◌, ℕ, ◌<◌, ◌≤◌, List, [], ◌++◌, length, take, drop, Option, Some, None, Ok, Err, refl, sym, ap, ◌∙◌, subst, arith, inl, inr, ◌⊎◌, length-append}
use Rattle.std.proofs.lemmas.Bool.{false≢true}
use Rattle.std.proofs.lemmas.List.{take_at, drop_at}
use Rattle.keep_wire.specs.declared.message.WireError.{WireError}
use Rattle.keep_wire.specs.declared.message.WireError.TheVariants.{ReadFault, BadHead, LengthRequired, BodyTooLong, CutBody, NoMemory}
use Rattle.keep_wire.specs.Fields.{length_of}
use Rattle.keep_wire.specs.Messages.{Grammar, pairs_of, IsBadHead, IsCutHead, HasHead, HasLength, body_length, IsMessage, IsNext, IsDecided, AreDetermined}
use Rattle.keep_wire.proofs.HeadLines.{Lined}
use Rattle.keep_wire.proofs.Apart.{one_head, head_not_bad, head_not_cut, bad_not_cut, nothing_not_head, nothing_not_bad, nothing_not_cut}

-- ---- after one head

-- what follows from a head and the bytes after it
abbrev IsHeaded : {H M : Type 0} → Grammar H → (H → List ℕ → M) → H → List ℕ → Result (Option M) WireError → Option (List ℕ) → Type 0
IsHeaded g make h rest (Ok None) a = ⊥
IsHeaded g make h rest (Ok (Some m)) None = ⊥
IsHeaded g make h rest (Ok (Some m)) (Some left) = HasLength g h × (body_length g h ≤ 67108864) × (body_length g h ≤ length rest) × (left ≡ drop (body_length g h) rest) × (m ≡ make h (take (body_length g h) rest))
IsHeaded g make h rest (Err LengthRequired) a = IsTrue (g.needs_length h) × (length_of (pairs_of g h) ≡ None)
IsHeaded g make h rest (Err (BodyTooLong n)) a = (length_of (pairs_of g h) ≡ Some n) × (67108864 < n)
IsHeaded g make h rest (Err CutBody) a = HasLength g h × (body_length g h ≤ 67108864) × (length rest < body_length g h)
IsHeaded g make h rest (Err BadHead) a = ⊥
IsHeaded g make h rest (Err ReadFault) a = ⊥
IsHeaded g make h rest (Err NoMemory) a = ⊥

abbrev IsSame : {M : Type 0} → Result (Option M) WireError → Result (Option M) WireError → Option (List ℕ) → Option (List ℕ) → Type 0
IsSame r s a b = (r ≡ s) × IfOk r (λ o. IfSome o (λ _. a ≡ b))

no_length : {H : Type 0} (g : Grammar H) (h : H) → HasLength g h → IsTrue (g.needs_length h) → length_of (pairs_of g h) ≡ None → ⊥
no_length g h there needed none = false≢true (subst (λ (o : Option ℕ). IsSome o) none (there needed))

too_long : {H : Type 0} (g : Grammar H) (h : H) (n : ℕ) → length_of (pairs_of g h) ≡ Some n → 67108864 < n → body_length g h ≤ 67108864 → ⊥
too_long g h n is long short =
    let size : body_length g h ≡ n = ap (λ (o : Option ℕ). unwrap_or o 0) is in
    omega (arith, size, long, short)

headed_same : {H M : Type 0} (g : Grammar H) (make : H → List ℕ → M) (h : H) (rest : List ℕ) (r s : Result (Option M) WireError) (a b : Option (List ℕ)) → IsHeaded g make h rest r a → IsHeaded g make h rest s b → IsSame r s a b
headed_same g make h rest (Ok None) s a b x y = absurd x
headed_same g make h rest (Ok (Some m)) s None b x y = absurd x
headed_same g make h rest (Ok (Some m)) (Ok None) (Some left) b x y = absurd y
headed_same g make h rest (Ok (Some m)) (Ok (Some n)) (Some left) None x y = absurd y
headed_same g make h rest (Ok (Some m)) (Ok (Some n)) (Some left) (Some right) (there, short, fits, left_is, m_is) (there2, short2, fits2, right_is, n_is) =
    (ap (λ v. Ok (Some v)) (m_is ∙ sym n_is), ap (λ (v : List ℕ). Some v) (left_is ∙ sym right_is))
headed_same g make h rest (Ok (Some m)) (Err LengthRequired) (Some left) b (there, short, fits, left_is, m_is) (needed, none) = absurd (no_length g h there needed none)
headed_same g make h rest (Ok (Some m)) (Err (BodyTooLong n)) (Some left) b (there, short, fits, left_is, m_is) (is, long) = absurd (too_long g h n is long short)
headed_same g make h rest (Ok (Some m)) (Err CutBody) (Some left) b (there, short, fits, left_is, m_is) (there2, short2, cut) = absurd (omega (arith, fits, cut))
headed_same g make h rest (Ok (Some m)) (Err BadHead) (Some left) b x y = absurd y
headed_same g make h rest (Ok (Some m)) (Err ReadFault) (Some left) b x y = absurd y
headed_same g make h rest (Ok (Some m)) (Err NoMemory) (Some left) b x y = absurd y
headed_same g make h rest (Err LengthRequired) (Ok None) a b x y = absurd y
headed_same g make h rest (Err LengthRequired) (Ok (Some m)) a None x y = absurd y
headed_same g make h rest (Err LengthRequired) (Ok (Some m)) a (Some left) (needed, none) (there, short, fits, left_is, m_is) = absurd (no_length g h there needed none)
headed_same g make h rest (Err LengthRequired) (Err LengthRequired) a b x y = (refl, tt)
headed_same g make h rest (Err LengthRequired) (Err (BodyTooLong n)) a b (needed, none) (is, long) = absurd (differ n (sym none ∙ is))
  where
    differ : (n : ℕ) → None ≡ Some n → ⊥
    differ n e = cc
headed_same g make h rest (Err LengthRequired) (Err CutBody) a b (needed, none) (there, short, cut) = absurd (no_length g h there needed none)
headed_same g make h rest (Err LengthRequired) (Err BadHead) a b x y = absurd y
headed_same g make h rest (Err LengthRequired) (Err ReadFault) a b x y = absurd y
headed_same g make h rest (Err LengthRequired) (Err NoMemory) a b x y = absurd y
headed_same g make h rest (Err (BodyTooLong n)) (Ok None) a b x y = absurd y
headed_same g make h rest (Err (BodyTooLong n)) (Ok (Some m)) a None x y = absurd y
headed_same g make h rest (Err (BodyTooLong n)) (Ok (Some m)) a (Some left) (is, long) (there, short, fits, left_is, m_is) = absurd (too_long g h n is long short)
headed_same g make h rest (Err (BodyTooLong n)) (Err LengthRequired) a b (is, long) (needed, none) = absurd (differ n (sym none ∙ is))
  where
    differ : (n : ℕ) → None ≡ Some n → ⊥
    differ n e = cc
headed_same g make h rest (Err (BodyTooLong n)) (Err (BodyTooLong k)) a b (is, long) (is2, long2) = (ap (λ (v : ℕ). Err (BodyTooLong v)) (unwrapped n k (sym is ∙ is2)), tt)
  where
    unwrapped : (n k : ℕ) → Some n ≡ Some k → n ≡ k
    unwrapped n k e = ap (λ (o : Option ℕ). unwrap_or o 0) e
headed_same g make h rest (Err (BodyTooLong n)) (Err CutBody) a b (is, long) (there, short, cut) = absurd (too_long g h n is long short)
headed_same g make h rest (Err (BodyTooLong n)) (Err BadHead) a b x y = absurd y
headed_same g make h rest (Err (BodyTooLong n)) (Err ReadFault) a b x y = absurd y
headed_same g make h rest (Err (BodyTooLong n)) (Err NoMemory) a b x y = absurd y
headed_same g make h rest (Err CutBody) (Ok None) a b x y = absurd y
headed_same g make h rest (Err CutBody) (Ok (Some m)) a None x y = absurd y
headed_same g make h rest (Err CutBody) (Ok (Some m)) a (Some left) (there2, short2, cut) (there, short, fits, left_is, m_is) = absurd (omega (arith, fits, cut))
headed_same g make h rest (Err CutBody) (Err LengthRequired) a b (there, short, cut) (needed, none) = absurd (no_length g h there needed none)
headed_same g make h rest (Err CutBody) (Err (BodyTooLong n)) a b (there, short, cut) (is, long) = absurd (too_long g h n is long short)
headed_same g make h rest (Err CutBody) (Err CutBody) a b x y = (refl, tt)
headed_same g make h rest (Err CutBody) (Err BadHead) a b x y = absurd y
headed_same g make h rest (Err CutBody) (Err ReadFault) a b x y = absurd y
headed_same g make h rest (Err CutBody) (Err NoMemory) a b x y = absurd y
headed_same g make h rest (Err BadHead) s a b x y = absurd x
headed_same g make h rest (Err ReadFault) s a b x y = absurd x
headed_same g make h rest (Err NoMemory) s a b x y = absurd x

-- ---- the four cases of an answer

abbrev View : {H M : Type 0} → Grammar H → (H → List ℕ → M) → List ℕ → Result (Option M) WireError → Option (List ℕ) → Type 0
View {H} g make bytes r a =
    ((bytes ≡ []) × (r ≡ Ok None)) ⊎ (IsBadHead g bytes × (r ≡ Err BadHead)) ⊎ (IsCutHead g bytes × (r ≡ Err CutBody))
    ⊎ ((h : H) × (rest : List ℕ) × HasHead g bytes h rest × IsHeaded g make h rest r a)

message_headed : {H M : Type 0} (g : Grammar H) (make : H → List ℕ → M) (bytes left : List ℕ) (m : M) (x : IsMessage g make bytes m left) → IsHeaded g make x.head (x.body ++ left) (Ok (Some m)) (Some left)
message_headed g make bytes left m x =
    let size = x.length_is in
    let short = x.short in (
      x.length_there,
      omega (arith, size, short),
      omega (arith, size, length-append x.body left),
      sym (drop_at x.body left (body_length g x.head) x.length_is),
      x.made ∙ ap (make x.head) (sym (take_at x.body left (body_length g x.head) x.length_is)),
    )

view_of : {H M : Type 0} (g : Grammar H) (make : H → List ℕ → M) (bytes : List ℕ) (r : Result (Option M) WireError) (a : Option (List ℕ)) → IsDecided r → IsNext g make (Some bytes) r a → View g make bytes r a
view_of g make bytes (Ok None) a d x = inl (x.0, refl)
view_of g make bytes (Ok (Some m)) None d x = absurd x
view_of g make bytes (Ok (Some m)) (Some left) d x = inr (inr (inr (x.head, x.body ++ left, x.has, message_headed g make bytes left m x)))
view_of g make bytes (Err ReadFault) a d x = absurd d
view_of g make bytes (Err BadHead) a d x = inr (inl (x, refl))
view_of g make bytes (Err LengthRequired) a d (h, rest, has, needed, none) = inr (inr (inr (h, rest, has, (needed, none))))
view_of g make bytes (Err (BodyTooLong n)) a d (h, rest, has, is, long) = inr (inr (inr (h, rest, has, (is, long))))
view_of g make bytes (Err CutBody) a d x =
    elim x as (λ _. View g make bytes (Err CutBody) a) [
      | inl cut ↦ inr (inr (inl (cut, refl)))
      | inr y ↦ inr (inr (inr (y.0, y.1, y.2, (y.3, y.4, y.5))))
    ]
view_of g make bytes (Err NoMemory) a d x = absurd d

same_end : {M : Type 0} (r s : Result (Option M) WireError) (a b : Option (List ℕ)) → r ≡ Ok None → s ≡ Ok None → IsSame r s a b
same_end r s a b e f = subst (λ v. IsSame v s a b) (sym e) (sym f, tt)

same_error : {M : Type 0} (r s : Result (Option M) WireError) (a b : Option (List ℕ)) (e : WireError) → r ≡ Err e → s ≡ Err e → IsSame r s a b
same_error r s a b e x y = subst (λ v. IsSame v s a b) (sym x) (sym y, tt)

views_same : {H M : Type 0} (g : Grammar H) (l : Lined g) (make : H → List ℕ → M) (some : H) → g.valid some → (bytes : List ℕ) (r s : Result (Option M) WireError) (a b : Option (List ℕ)) → View g make bytes r a → View g make bytes s b → IsSame r s a b
views_same {H} {M} g l make some valid bytes r s a b x y =
    elim x as (λ _. IsSame r s a b) [
      | inl (none, r_is) ↦ elim y as (λ _. IsSame r s a b) [
        | inl (_, s_is) ↦ same_end r s a b r_is s_is
        | inr y2 ↦ elim y2 as (λ _. IsSame r s a b) [
          | inl (bad, _) ↦ absurd (nothing_not_bad g l some valid (subst (IsBadHead g) none bad))
          | inr y3 ↦ elim y3 as (λ _. IsSame r s a b) [
            | inl (cut, _) ↦ absurd (nothing_not_cut g (subst (IsCutHead g) none cut))
            | inr (h, rest, has, _) ↦ absurd (nothing_not_head g l h rest (subst (λ (v : List ℕ). HasHead g v h rest) none has))
          ]
        ]
      ]
      | inr x2 ↦ elim x2 as (λ _. IsSame r s a b) [
        | inl (bad, r_is) ↦ elim y as (λ _. IsSame r s a b) [
          | inl (none, _) ↦ absurd (nothing_not_bad g l some valid (subst (IsBadHead g) none bad))
          | inr y2 ↦ elim y2 as (λ _. IsSame r s a b) [
            | inl (_, s_is) ↦ same_error r s a b BadHead r_is s_is
            | inr y3 ↦ elim y3 as (λ _. IsSame r s a b) [
              | inl (cut, _) ↦ absurd (bad_not_cut g bytes bad cut)
              | inr (h, rest, has, _) ↦ absurd (head_not_bad g l bytes rest h has bad)
            ]
          ]
        ]
        | inr x3 ↦ elim x3 as (λ _. IsSame r s a b) [
          | inl (cut, r_is) ↦ elim y as (λ _. IsSame r s a b) [
            | inl (none, _) ↦ absurd (nothing_not_cut g (subst (IsCutHead g) none cut))
            | inr y2 ↦ elim y2 as (λ _. IsSame r s a b) [
              | inl (bad, _) ↦ absurd (bad_not_cut g bytes bad cut)
              | inr y3 ↦ elim y3 as (λ _. IsSame r s a b) [
                | inl (_, s_is) ↦ same_error r s a b CutBody r_is s_is
                | inr (h, rest, has, _) ↦ absurd (head_not_cut g bytes rest h has cut)
              ]
            ]
          ]
          | inr (h, rest, has, headed) ↦ elim y as (λ _. IsSame r s a b) [
            | inl (none, _) ↦ absurd (nothing_not_head g l h rest (subst (λ (v : List ℕ). HasHead g v h rest) none has))
            | inr y2 ↦ elim y2 as (λ _. IsSame r s a b) [
              | inl (bad, _) ↦ absurd (head_not_bad g l bytes rest h has bad)
              | inr y3 ↦ elim y3 as (λ _. IsSame r s a b) [
                | inl (cut, _) ↦ absurd (head_not_cut g bytes rest h has cut)
                | inr (k, more, has2, headed2) ↦
                    let same = one_head g l bytes k h more rest has2 has in
                    headed_same g make h rest r s a b headed (subst (λ (v : List ℕ). IsHeaded g make h v s b) same.1 (subst (λ (v : H). IsHeaded g make v more s b) same.0 headed2))
              ]
            ]
          ]
        ]
      ]
    ]

pub determined : {H M : Type 0} (g : Grammar H) (l : Lined g) (make : H → List ℕ → M) (some : H) → g.valid some → AreDetermined g make
determined g l make some valid bytes r s a b dr ds x y =
    views_same g l make some valid bytes r s a b (view_of g make bytes r a dr x) (view_of g make bytes s b ds y)
