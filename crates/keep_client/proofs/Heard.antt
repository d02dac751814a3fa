-- What the bytes of an answer say: when they are settled and when not, which of them were needed, and a head and a body that were read one after the other.
use Rattle.std.proofs.Common.{◌≡◌, ◌⊎◌, inl, inr, ℕ, ◌+◌, ◌-◌, ◌<◌, ◌≤◌, List, [], ◌++◌, length, length-append, take, drop, Option, None, Some, Result, Ok, Err, refl, sym, ap, subst, ◌∙◌, arith, append-nil}
use Rattle.std.proofs.lemmas.List.{length-drop, length-take, take_all, take-append-le, take-append-drop}
use Rattle.std.proofs.lemmas.Bool.{cases_lt}
use Rattle.std.proofs.Math.Seq.{drop-length, take-append_seam, take-append-add}
use Rattle.std.specs.List.{flat_map}
use Rattle.httparse.specs.Grammar.{print_field, print_end}
use Rattle.keep_wire.specs.Looks.{lines_in}
use Rattle.keep_wire.specs.Messages.{HasNone, HasHead, IsCutHead, IsCutBody, IsDecided}
use Rattle.keep_wire.specs.Replies.{response_grammar, IsNext, IsBroken, IsHeadOf}
use Rattle.keep_wire.specs.declared.message.Response.{Response}
use Rattle.keep_wire.specs.declared.message.WireError.{WireError}
use Rattle.keep_wire.specs.declared.message.WireError.TheVariants.{BadHead, LengthRequired, BodyTooLong, CutBody}
use Rattle.keep_wire.specs.declared.message.TheConstants.{HEAD_MAX}
use Rattle.keep_wire.proofs.ResponseLines.{head-apart, lines-start}
use Rattle.keep_wire.proofs.Whole.{next_response_determined}
use Rattle.keep_client.specs.Saying.{BeginsWith, HasNoResponse, IsSettled, AreNeeded}

-- ---- settled

abbrev Next : Type 0
Next = Result (Option Response) WireError

-- what the bytes say is one thing alone
one : (bytes : List ℕ) (r s : Next) (a b : Option (List ℕ)) → IsDecided r → IsDecided s → IsNext (Some bytes) r a → IsNext (Some bytes) s b → r ≡ s
one bytes r s a b dr ds x y = (next_response_determined bytes r s a b dr ds x y).0

abbrev is_open : Next → Type 0
is_open r = (r ≡ Ok None) ⊎ (r ≡ Err CutBody)

no_message : (r : Next) (m : Response) → is_open r → r ≡ Ok (Some m) → ⊥
no_message r m awaited e = elim awaited [ inl o ↦ cc (o, e) | inr o ↦ cc (o, e) ]

no_bad : (r : Next) → is_open r → r ≡ Err BadHead → ⊥
no_bad r awaited e = elim awaited [ inl o ↦ cc (o, e) | inr o ↦ cc (o, e) ]

no_length : (r : Next) → is_open r → r ≡ Err LengthRequired → ⊥
no_length r awaited e = elim awaited [ inl o ↦ cc (o, e) | inr o ↦ cc (o, e) ]

no_long : (r : Next) (n : ℕ) → is_open r → r ≡ Err (BodyTooLong n) → ⊥
no_long r n awaited e = elim awaited [ inl o ↦ cc (o, e) | inr o ↦ cc (o, e) ]

-- bytes of which more are awaited aren't settled
unsettled : (bytes : List ℕ) (r : Next) (left : Option (List ℕ)) → is_open r → IsDecided r → IsNext (Some bytes) r left → ¬ (IsSettled bytes)
unsettled bytes r left awaited decided next settled =
    elim settled [
      | inl begins ↦ no_message r begins.0 awaited (one bytes r (Ok (Some begins.0)) left (Some begins.1.0) decided tt next begins.1.1)
      | inr broken ↦ elim broken [
        | inl bad ↦ no_bad r awaited (one bytes r (Err BadHead) left None decided tt next bad)
        | inr more ↦ elim more [
          | inl missing ↦ no_length r awaited (one bytes r (Err LengthRequired) left None decided tt next missing)
          | inr long ↦ no_long r long.0 awaited (one bytes r (Err (BodyTooLong long.0)) left None decided tt next long.1)
        ]
      ]
    ]

pub unsettled-none : ¬ (IsSettled [])
unsettled-none = unsettled [] (Ok None) (Some []) (inl refl) tt (refl, refl)

pub unsettled-head : (bytes : List ℕ) → IsCutHead response_grammar bytes → ¬ (IsSettled bytes)
unsettled-head bytes cut = unsettled bytes (Err CutBody) None (inr refl) tt (inl cut)

pub unsettled-body : (bytes : List ℕ) → IsCutBody response_grammar bytes → ¬ (IsSettled bytes)
unsettled-body bytes cut = unsettled bytes (Err CutBody) None (inr refl) tt (inr cut)

pub no_response-unsettled : (bytes : List ℕ) → ¬ (IsSettled bytes) → HasNoResponse bytes
no_response-unsettled bytes awaited m begins = awaited (inl (m, begins))

bad_none : (m : Response) (r : Next) → (r ≡ Err BadHead) ⊎ (r ≡ Err LengthRequired) ⊎ ((n : ℕ) × (r ≡ Err (BodyTooLong n))) → r ≡ Ok (Some m) → ⊥
bad_none m r broken e = elim broken [ inl b ↦ cc (b, e) | inr c ↦ elim c [ inl b ↦ cc (b, e) | inr b ↦ cc (b.1, e) ] ]

pub no_response-broken : (bytes : List ℕ) → IsBroken bytes → HasNoResponse bytes
no_response-broken bytes broken m begins =
    elim broken [
      | inl bad ↦ bad_none m (Err BadHead) (inl refl) (one bytes (Err BadHead) (Ok (Some m)) None (Some begins.0) tt tt bad begins.1)
      | inr more ↦ elim more [
        | inl missing ↦ bad_none m (Err LengthRequired) (inr (inl refl)) (one bytes (Err LengthRequired) (Ok (Some m)) None (Some begins.0) tt tt missing begins.1)
        | inr long ↦ bad_none m (Err (BodyTooLong long.0)) (inr (inr (long.0, refl))) (one bytes (Err (BodyTooLong long.0)) (Ok (Some m)) None (Some begins.0) tt tt long.1 begins.1)
      ]
    ]

-- ---- a head, byte by byte

-- no head, or the beginning of one
abbrev pub IsBefore : List ℕ → Type 0
IsBefore bytes = (bytes ≡ []) ⊎ IsCutHead response_grammar bytes

pub before-unsettled : (bytes : List ℕ) → IsBefore bytes → ¬ (IsSettled bytes)
before-unsettled bytes awaited settled =
    elim awaited [
      | inl none ↦ unsettled-none (subst IsSettled none settled)
      | inr cut ↦ unsettled-head bytes cut settled
    ]

pub before-short : (bytes : List ℕ) → IsBefore bytes → length bytes ≤ HEAD_MAX
before-short bytes awaited = elim awaited [ inl none ↦ omega (arith, ap length none) | inr cut ↦ cut.short ]

none_empty : HasNone response_grammar []
none_empty h rest reads =
    let whole = reads.1 ∙ head-apart h rest in
    absurd (omega (arith, ap lines_in whole, lines-start h (flat_map print_field h.fields ++ (print_end h.last ++ rest)) reads.0))

before-none : (bytes : List ℕ) → IsBefore bytes → HasNone response_grammar bytes
before-none bytes awaited = elim awaited [ inl none ↦ subst (HasNone response_grammar) (sym none) none_empty | inr cut ↦ cut.none ]

pub needed-none : AreNeeded []
needed-none k within = absurd (omega (arith, within))

needed-at : (bytes more : List ℕ) (k : ℕ) → AreNeeded bytes → ¬ (IsSettled bytes) → k ≤ length bytes → ¬ (IsSettled (take k bytes))
needed-at bytes more k needed awaited within settled =
    elim (cases_lt k (length bytes)) [
      | inl lt ↦ needed k lt settled
      | inr ge ↦ awaited (subst IsSettled (take_all k bytes ge) settled)
    ]

-- one byte more
pub needed-more : (bytes more : List ℕ) → length more ≤ 1 → AreNeeded bytes → ¬ (IsSettled bytes) → AreNeeded (bytes ++ more)
needed-more bytes more few needed awaited k within settled =
    let le : k ≤ length bytes = omega (arith, length-append bytes more, within, few) in
    needed-at bytes more k needed awaited le (subst IsSettled (take-append-le k bytes more le) settled)

-- a head that wasn't whole before its last byte ends with that
head_before : (bytes more : List ℕ) (status size body : ℕ) → size ≤ length bytes → IsBefore bytes → ¬ (IsHeadOf (bytes ++ more) status size body)
head_before bytes more status size body within awaited h =
    let print = response_grammar.print h.head in
    let printed : length print ≡ size = omega (arith, h.within, ap length h.has.reads.1, length-append print (drop size (bytes ++ more)), length-drop size (bytes ++ more)) in
    let front : take size (bytes ++ more) ≡ print =
    ap (take size) h.has.reads.1 ∙ ap (λ n. take n (print ++ drop size (bytes ++ more))) (sym printed) ∙ take-append_seam print (drop size (bytes ++ more)) in
    let same : take size bytes ≡ print = sym (take-append-le size bytes more within) ∙ front in
    before-none bytes awaited h.head (drop size bytes) (h.has.reads.0, sym (take-append-drop size bytes) ∙ ap (λ v. v ++ drop size bytes) same)

pub whole-head : (bytes more : List ℕ) (status size body : ℕ) → length more ≤ 1 → IsBefore bytes → IsHeadOf (bytes ++ more) status size body
    → IsHeadOf (bytes ++ more) status (length (bytes ++ more)) body
whole-head bytes more status size body few awaited h =
    elim (cases_lt (length bytes) size) [
      | inl over ↦
          let all : size ≡ length (bytes ++ more) = omega (arith, h.within, length-append bytes more, few, over) in
          subst (λ n. IsHeadOf (bytes ++ more) status n body) all h
      | inr within ↦ absurd (head_before bytes more status size body within awaited h)
    ]

-- ---- a head, and then the body

-- what follows a whole head is the beginning of its body
has-body : (head more : List ℕ) (status size : ℕ) (h : IsHeadOf head status (length head) size) → HasHead response_grammar (head ++ more) h.head more
has-body head more status size h =
    let whole : head ≡ response_grammar.print h.head = h.has.reads.1 ∙ ap (λ v. response_grammar.print h.head ++ v) (drop-length head) ∙ append-nil (response_grammar.print h.head) in
    record { reads = (h.has.reads.0, ap (λ v. v ++ more) whole); short = h.has.short; few = h.has.few; framed = h.has.framed }

pub body-unsettled : (head more : List ℕ) (status size : ℕ) → IsHeadOf head status (length head) size → length more < size → ¬ (IsSettled (head ++ more))
body-unsettled head more status size h few =
    unsettled-body (head ++ more) (h.head, more, has-body head more status size h, h.length_there, omega (arith, h.short, h.length_is), omega (arith, h.length_is, few))

pub body-whole : (head more : List ℕ) (status size : ℕ) → IsHeadOf head status (length head) size → length more ≡ size → BeginsWith (head ++ more) (record { status = status; body = more })
body-whole head more status size h all = (
  [],
  record {
    head = h.head;
    body = more;
    has = subst (HasHead response_grammar (head ++ more) h.head) (sym (append-nil more)) (has-body head more status size h);
    length_there = h.length_there;
    length_is = all ∙ h.length_is;
    short = omega (arith, all, h.short);
    made = ap (λ n. record { status = n; body = more }) h.status_is;
  },
)

-- no byte of the body was read too many
pub body-needed : (head more : List ℕ) (status size : ℕ) → IsHeadOf head status (length head) size → AreNeeded head → length more ≤ size → AreNeeded (head ++ more)
body-needed head more status size h needed few k within settled =
    elim (cases_lt k (length head)) [
      | inl lt ↦ needed k lt (subst IsSettled (take-append-le k head more (omega (arith, lt))) settled)
      | inr ge ↦
          let n : length head + (k - length head) ≡ k = omega (arith, ge) in
          let front : take k (head ++ more) ≡ head ++ take (k - length head) more = ap (λ v. take v (head ++ more)) (sym n) ∙ take-append-add head more (k - length head) in
          let short : length (take (k - length head) more) < size = omega (arith, length-take (k - length head) more, length-append head more, within, few, ge) in
          body-unsettled head (take (k - length head) more) status size h short (subst IsSettled front settled)
    ]
