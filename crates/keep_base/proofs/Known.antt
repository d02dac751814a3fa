-- Known bytes that stay, with some read already.
use Rattle.std.proofs.Common.{List, [], ℕ, ◌++◌, Option, Some, None, refl, sym, ◌∙◌, ap, append_assoc}
use Rattle.std.specs.Io.KnownBytes.{Keeps, Consumes, prepend_known}

pub Keeps-refl : (a : Option (List ℕ)) → Keeps a a
Keeps-refl None = tt
Keeps-refl (Some xs) = refl

pub Keeps-trans : (a b c : Option (List ℕ)) → Keeps a b → Keeps b c → Keeps a c
Keeps-trans None b c p q = tt
Keeps-trans (Some xs) None c p q = absurd p
Keeps-trans (Some xs) (Some ys) None p q = absurd q
Keeps-trans (Some xs) (Some ys) (Some zs) p q = q ∙ p

pub Keeps-prepend : (front : List ℕ) (a b : Option (List ℕ)) → Keeps a b → Keeps (prepend_known front a) (prepend_known front b)
Keeps-prepend front None b p = tt
Keeps-prepend front (Some xs) None p = absurd p
Keeps-prepend front (Some xs) (Some ys) p = ap (λ v. front ++ v) p

-- what was read goes behind what was there
pub Keeps-consumed : (front bs : List ℕ) (a b : Option (List ℕ)) → Consumes a b bs → Keeps (prepend_known front a) (prepend_known (front ++ bs) b)
Keeps-consumed front bs None b p = tt
Keeps-consumed front bs (Some xs) None p = absurd p
Keeps-consumed front bs (Some xs) (Some ys) p = append_assoc front bs ys ∙ ap (λ v. front ++ v) (sym p)

pub Keeps-after_read : (start : Option (List ℕ)) (front : List ℕ) (a b : Option (List ℕ)) → Keeps start (prepend_known front a) → Keeps a b → Keeps start (prepend_known front b)
Keeps-after_read start front a b p q = Keeps-trans start (prepend_known front a) (prepend_known front b) p (Keeps-prepend front a b q)

pub Keeps-after_bytes : (start : Option (List ℕ)) (front bs : List ℕ) (a b : Option (List ℕ)) → Keeps start (prepend_known front a) → Consumes a b bs → Keeps start (prepend_known (front ++ bs) b)
Keeps-after_bytes start front bs a b p q = Keeps-trans start (prepend_known front a) (prepend_known (front ++ bs) b) p (Keeps-consumed front bs a b q)

none_taken : (a b : Option (List ℕ)) → Consumes a b [] → Keeps a b
none_taken None b q = tt
none_taken (Some xs) None q = absurd q
none_taken (Some xs) (Some ys) q = sym q

pub Keeps-after_none : (start : Option (List ℕ)) (front : List ℕ) (a b : Option (List ℕ)) → Keeps start (prepend_known front a) → Consumes a b [] → Keeps start (prepend_known front b)
Keeps-after_none start front a b p q = Keeps-after_read start front a b p (none_taken a b q)
