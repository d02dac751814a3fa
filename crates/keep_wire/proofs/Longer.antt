-- What is seen of some bytes holds of all bytes that begin with them.
use Rattle.std.proofs.Common.{◌≡◌, ℕ, ◌≤◌, ◌<◌, List, [], ◌++◌, length, drop, Some, Ok, Err, sym, ap, ◌∙◌, subst, arith, inl, inr, append_assoc, append-nil, length-append}
use Rattle.std.proofs.lemmas.List.{take-append-drop, take-append-le, drop-append-le, length-take, take_all}
use Rattle.keep_wire.specs.declared.head.Begun.{Begun}
use Rattle.keep_wire.specs.declared.message.WireError.{WireError}
use Rattle.keep_wire.specs.declared.message.WireError.TheVariants.{ReadFault, BadHead, LengthRequired, BodyTooLong, CutBody, NoMemory}
use Rattle.keep_wire.specs.Messages.{Grammar, Reads, HasNone, NeverHas, HasManyFields, IsLongHead, IsBadHead, HasHead}
use Rattle.keep_wire.specs.Looks.{front_of, IsOpen, IsBegun, IsLooked, NeverWaitsAgain}

pub reads-longer : {H : Type 0} (g : Grammar H) (p m : List ℕ) (h : H) (rest : List ℕ) → Reads g p h rest → Reads g (p ++ m) h (rest ++ m)
reads-longer g p m h rest x = (x.0, ap (λ (v : List ℕ). v ++ m) x.1 ∙ append_assoc (g.print h) rest m)

pub never-longer : {H : Type 0} (g : Grammar H) (p m : List ℕ) → NeverHas g p → NeverHas g (p ++ m)
never-longer g p m never more h rest x = never (m ++ more) h rest (x.0, sym (append_assoc p m more) ∙ x.1)

pub never-none : {H : Type 0} (g : Grammar H) (p : List ℕ) → NeverHas g p → HasNone g p
never-none g p never h rest x = never [] h rest (x.0, append-nil p ∙ x.1)

many-longer : {H : Type 0} (g : Grammar H) (p m : List ℕ) → HasManyFields g p → HasManyFields g (p ++ m)
many-longer g p m (front, rest, whole, h, reads, many) =
    (front, rest ++ m, ap (λ (t : List ℕ). t ++ m) whole ∙ append_assoc front rest m, h, reads, many)

long-longer : {H : Type 0} (g : Grammar H) (p m : List ℕ) → IsLongHead g p → IsLongHead g (p ++ m)
long-longer g p m (long, none) = (omega (arith, length-append p m, long), subst (HasNone g) (sym (take-append-le 65536 p m (omega (arith, long)))) none)

pub bad-longer : {H : Type 0} (g : Grammar H) → NeverWaitsAgain g → (p m : List ℕ) → IsBadHead g p → IsBadHead g (p ++ m)
bad-longer g law p m bad =
    elim bad as (λ _. IsBadHead g (p ++ m)) [
      | inl a ↦ inl (law p m a.0 a.1, never-longer g p m a.1)
      | inr b ↦ elim b as (λ _. IsBadHead g (p ++ m)) [
        | inl c ↦ inr (inl (many-longer g p m c))
        | inr d ↦ elim d as (λ _. IsBadHead g (p ++ m)) [
          | inl e ↦ inr (inr (inl (long-longer g p m e)))
          | inr f ↦ inr (inr (inr (f.0, f.1 ++ m, reads-longer g p m f.0 f.1 f.2, f.3)))
        ]
      ]
    ]

pub head-longer : {H : Type 0} (g : Grammar H) (p m : List ℕ) (h : H) (rest : List ℕ) → HasHead g p h rest → HasHead g (p ++ m) h (rest ++ m)
head-longer g p m h rest has = record { reads = reads-longer g p m h rest has.reads; short = has.short; few = has.few; framed = has.framed }

pub begun-longer : {H M : Type 0} (g : Grammar H) (make : H → List ℕ → M) (p m rest : List ℕ) (b : Begun M) → IsBegun g make p b rest → IsBegun g make (p ++ m) b (rest ++ m)
begun-longer g make p m rest b x = record { head = x.head; has = head-longer g p m x.head rest x.has; length_there = x.length_there; length_is = x.length_is; short = x.short; made = x.made }

-- ---- what a look says

pub refused-longer : {H M : Type 0} (g : Grammar H) → NeverWaitsAgain g → (make : H → List ℕ → M) (p m : List ℕ) (e : WireError) → IsLooked g make p (Err e) → IsLooked g make (p ++ m) (Err e)
refused-longer g law make p m ReadFault x = absurd x
refused-longer g law make p m BadHead x = bad-longer g law p m x
refused-longer g law make p m LengthRequired (h, rest, has, needed, none) = (h, rest ++ m, head-longer g p m h rest has, needed, none)
refused-longer g law make p m (BodyTooLong n) (h, rest, has, is, long) = (h, rest ++ m, head-longer g p m h rest has, is, long)
refused-longer g law make p m CutBody x = absurd x
refused-longer g law make p m NoMemory x = tt

pub refused-from_front : {H M : Type 0} (g : Grammar H) → NeverWaitsAgain g → (make : H → List ℕ → M) (bytes : List ℕ) (e : WireError) → IsLooked g make (front_of bytes) (Err e) → IsLooked g make bytes (Err e)
refused-from_front g law make bytes e x =
    subst (λ (v : List ℕ). IsLooked g make v (Err e)) (take-append-drop 65536 bytes) (refused-longer g law make (front_of bytes) (drop 65536 bytes) e x)

pub begun-from_front : {H M : Type 0} (g : Grammar H) (make : H → List ℕ → M) (bytes : List ℕ) (b : Begun M) → IsLooked g make (front_of bytes) (Ok (Some b)) → IsLooked g make bytes (Ok (Some b))
begun-from_front g make bytes b (fits, x) =
    let all : front_of bytes ++ drop 65536 bytes ≡ bytes = take-append-drop 65536 bytes in
    let rest : drop b.head (front_of bytes) ++ drop 65536 bytes ≡ drop b.head bytes = sym (drop-append-le b.head (front_of bytes) (drop 65536 bytes) fits) ∙ ap (drop b.head) all in
    let longer = begun-longer g make (front_of bytes) (drop 65536 bytes) (drop b.head (front_of bytes)) b x in
    (omega (arith, fits, length-take 65536 bytes), subst (λ (v : List ℕ). IsBegun g make bytes b v) rest (subst (λ (v : List ℕ). IsBegun g make v b (drop b.head (front_of bytes) ++ drop 65536 bytes)) all longer))

pub long-from_front : {H : Type 0} (g : Grammar H) (bytes : List ℕ) → 65536 < length bytes → IsOpen g (front_of bytes) → IsBadHead g bytes
long-from_front g bytes long open_so_far = inr (inr (inl (long, open_so_far.none)))

pub open-from_front : {H : Type 0} (g : Grammar H) (bytes : List ℕ) → length bytes ≤ 65536 → IsOpen g (front_of bytes) → IsOpen g bytes
open-from_front g bytes short x = subst (IsOpen g) (take_all 65536 bytes short) x
