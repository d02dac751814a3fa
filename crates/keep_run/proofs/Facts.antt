-- Facts on results and on what may be there: `on_err`, `none_when`, `if-all` and `if-map`.
use Rattle.std.proofs.Common.{◌≡◌, Option, None, Some, Result, Ok, Err, IfOk, OnErr, refl, sym, subst}

pub on_err : {T E P : Type 0} (r : Result T E) → P → OnErr r P
on_err (Ok x) p = tt
on_err (Err e) p = p

pub none_when : {X : Type 0} (o : Option X) → ((x : X) → o ≡ Some x → ⊥) → o ≡ None
none_when None never = refl
none_when (Some x) never = absurd (never x refl)

-- what follows from two facts holds of the value that a result has
pub if-all : {T E A B : Type 0} (P : T → Type 0) (r : Result T E) (x : T) → (A → B → P x) → IfOk r (λ _. A) → IfOk r (λ _. B) → IfOk r (λ d. d ≡ x) → IfOk r P
if-all P (Ok y) x f a b e = subst P (sym e) (f a b)
if-all P (Err e) x f a b same = tt

pub if-map : {T E A B : Type 0} (r : Result T E) → (A → B) → IfOk r (λ _. A) → IfOk r (λ _. B)
if-map (Ok y) f a = f a
if-map (Err e) f a = tt
