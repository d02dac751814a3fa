-- What was found of the bytes that were read is what comes next of the known bytes.
use Rattle.std.proofs.Common.{◌≡◌, ℕ, List, [], ◌∷◌, ◌++◌, length, drop, Option, Some, None, Ok, Err, refl, sym, ap, ◌∙◌, subst, arith, inl, inr, append-nil}
use Rattle.std.specs.Io.KnownBytes.{Keeps, prepend_known, IsAtEnd}
use Rattle.keep_wire.specs.declared.head.Begun.{Begun}
use Rattle.keep_wire.specs.declared.message.WireError.{WireError}
use Rattle.keep_wire.specs.declared.message.WireError.TheVariants.{ReadFault, BadHead, LengthRequired, BodyTooLong, CutBody, NoMemory}
use Rattle.keep_wire.specs.Messages.{Grammar, IsBadHead, HasHead, IsCutHead, IsLengthRequired, IsBodyTooLong, IsNext}
use Rattle.keep_wire.specs.Looks.{IsBegun, IsFound, SameBytes, IsBegunNext, IsBodyNext, NeverWaitsAgain}
use Rattle.keep_wire.proofs.Longer.{refused-longer, begun-longer}

-- ---- no head

refused : {H M : Type 0} (g : Grammar H) → NeverWaitsAgain g → (make : H → List ℕ → M) (bytes p ys : List ℕ) (after : Option (List ℕ)) (e : WireError) → p ++ ys ≡ bytes → IsFound g make p (Some ys) (Err e) → IsBegunNext g make (Some bytes) (Err e) after
refused g law make bytes p ys after ReadFault k x = tt
refused g law make bytes p ys after BadHead k x = subst (IsBadHead g) k (refused-longer g law make p ys BadHead x)
refused g law make bytes p ys after LengthRequired k x = subst (IsLengthRequired g) k (refused-longer g law make p ys LengthRequired x)
refused g law make bytes p ys after (BodyTooLong n) k x = subst (λ (v : List ℕ). IsBodyTooLong g v n) k (refused-longer g law make p ys (BodyTooLong n) x)
refused g law make bytes p ys after CutBody k (cut, end) = subst (IsCutHead g) (sym (append-nil p) ∙ ap (λ (v : List ℕ). p ++ v) (sym end) ∙ k) cut
refused g law make bytes p ys after NoMemory k x = tt

begun-refused : {H M : Type 0} (g : Grammar H) → NeverWaitsAgain g → (make : H → List ℕ → M) (known left after : Option (List ℕ)) (p : List ℕ) (e : WireError) → Keeps known (prepend_known p left) → IsFound g make p left (Err e) → IsBegunNext g make known (Err e) after
begun-refused g law make None left after p e k x = tt
begun-refused g law make (Some bytes) None after p e k x = absurd k
begun-refused g law make (Some bytes) (Some ys) after p e k x = refused g law make bytes p ys after e k x

begun-memory : {H M : Type 0} (g : Grammar H) (make : H → List ℕ → M) (known after : Option (List ℕ)) → IsBegunNext g make known (Err NoMemory) after
begun-memory g make None after = tt
begun-memory g make (Some bytes) after = tt

pub begun-from_found_err : {H M : Type 0} (T : Type 0) (g : Grammar H) → NeverWaitsAgain g → (make : H → List ℕ → M) (old p : List ℕ) (a left after : Option (List ℕ)) (e : WireError) → SameBytes {T = T} (Err e) old a p left → IsFound g make p left (Err e) → IsBegunNext g make (prepend_known old a) (Err e) after
begun-from_found_err T g law make old p a left after ReadFault k f = begun-refused g law make (prepend_known old a) left after p ReadFault k f
begun-from_found_err T g law make old p a left after BadHead k f = begun-refused g law make (prepend_known old a) left after p BadHead k f
begun-from_found_err T g law make old p a left after LengthRequired k f = begun-refused g law make (prepend_known old a) left after p LengthRequired k f
begun-from_found_err T g law make old p a left after (BodyTooLong n) k f = begun-refused g law make (prepend_known old a) left after p (BodyTooLong n) k f
begun-from_found_err T g law make old p a left after CutBody k f = begun-refused g law make (prepend_known old a) left after p CutBody k f
begun-from_found_err T g law make old p a left after NoMemory k f = begun-memory g make (prepend_known old a) after

nothing : (p : List ℕ) → length p ≡ 0 → p ≡ []
nothing [] e = refl
nothing (x ∷ p) e = absurd (omega (arith, e))

pub begun_at_end : {H M : Type 0} (g : Grammar H) (make : H → List ℕ → M) (known left : Option (List ℕ)) (p : List ℕ) → Keeps known (prepend_known p left) → length p ≡ 0 → IsAtEnd left → IsBegunNext g make known (Ok None) (prepend_known p left)
begun_at_end g make None left p k none end = tt
begun_at_end g make (Some bytes) None p k none end = absurd k
begun_at_end g make (Some bytes) (Some ys) p k none end =
    let empty : p ++ ys ≡ [] = ap (λ (v : List ℕ). v ++ ys) (nothing p none) ∙ end in
    (sym k ∙ empty, ap (λ (v : List ℕ). Some v) empty)

-- ---- a head

pub begun-given : {H M : Type 0} (g : Grammar H) (make : H → List ℕ → M) (known left : Option (List ℕ)) (p : List ℕ) (b : Begun M) → Keeps known (prepend_known p left) → IsBegun g make p b (drop b.head p) → IsBegunNext g make known (Ok (Some b)) (prepend_known (drop b.head p) left)
begun-given g make None left p b k x = tt
begun-given g make (Some bytes) None p b k x = absurd k
begun-given g make (Some bytes) (Some ys) p b k x = subst (λ (v : List ℕ). IsBegun g make v b (drop b.head p ++ ys)) k (begun-longer g make p ys (drop b.head p) b x)

-- ---- a body

pub next-from_begun_err : {H M : Type 0} (g : Grammar H) (make : H → List ℕ → M) (known left after : Option (List ℕ)) (e : WireError) → IsBegunNext g make known (Err e) left → IsNext g make known (Err e) after
next-from_begun_err g make None left after e s = tt
next-from_begun_err g make (Some bytes) left after ReadFault s = tt
next-from_begun_err g make (Some bytes) left after BadHead s = s
next-from_begun_err g make (Some bytes) left after LengthRequired s = s
next-from_begun_err g make (Some bytes) left after (BodyTooLong n) s = s
next-from_begun_err g make (Some bytes) left after CutBody s = inl s
next-from_begun_err g make (Some bytes) left after NoMemory s = tt

pub next_from_begun_end : {H M : Type 0} (g : Grammar H) (make : H → List ℕ → M) (known left : Option (List ℕ)) → IsBegunNext g make known (Ok None) left → IsNext g make known (Ok None) left
next_from_begun_end g make None left s = tt
next_from_begun_end g make (Some bytes) left s = s

pub next-from_body : {H M : Type 0} (g : Grammar H) (make : H → List ℕ → M) (known mid after : Option (List ℕ)) (b : Begun M) (body : List ℕ) (message : M) → IsBegunNext g make known (Ok (Some b)) mid → IsBodyNext b.body mid (Ok body) after → ((h : H) → b.message ≡ make h [] → message ≡ make h body) → IsNext g make known (Ok (Some message)) after
next-from_body g make None mid after b body message st bo made = tt
next-from_body g make (Some bytes) None after b body message st bo made = absurd st
next-from_body g make (Some bytes) (Some rest) None b body message st bo made = absurd bo
next-from_body g make (Some bytes) (Some rest) (Some left) b body message st bo made = record {
  head = st.head;
  body = body;
  has = subst (λ (v : List ℕ). HasHead g bytes st.head v) bo.0 st.has;
  length_there = st.length_there;
  length_is = bo.1 ∙ st.length_is;
  short = (let short = st.short in omega (arith, bo.1, short));
  made = made st.head st.made;
}

pub next-from_body_err : {H M : Type 0} (g : Grammar H) (make : H → List ℕ → M) (known mid after : Option (List ℕ)) (b : Begun M) (e : WireError) → IsBegunNext g make known (Ok (Some b)) mid → IsBodyNext b.body mid (Err e) after → IsNext g make known (Err e) after
next-from_body_err g make None mid after b e st bo = tt
next-from_body_err g make (Some bytes) None after b e st bo = absurd st
next-from_body_err g make (Some bytes) (Some rest) after b ReadFault st bo = tt
next-from_body_err g make (Some bytes) (Some rest) after b BadHead st bo = absurd bo
next-from_body_err g make (Some bytes) (Some rest) after b LengthRequired st bo = absurd bo
next-from_body_err g make (Some bytes) (Some rest) after b (BodyTooLong n) st bo = absurd bo
next-from_body_err g make (Some bytes) (Some rest) after b CutBody st bo =
    let short = st.short in
    let is = st.length_is in
    inr (st.head, rest, st.has, st.length_there, omega (arith, is, short), omega (arith, is, bo))
next-from_body_err g make (Some bytes) (Some rest) after b NoMemory st bo = tt
