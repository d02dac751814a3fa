-- What is known after bytes were read onto the end of what is pending.
use Rattle.std.proofs.Common.{◌≡◌, ◌≤◌, ◌+◌, ℕ, List, Option, Result, Ok, Err, length, refl}
use Rattle.std.proofs.lemmas.List.{length-append}
use Rattle.std.specs.Io.KnownBytes.{Keeps, prepend_known}
use Rattle.keep_base.proofs.Known.{Keeps-after_read, Keeps-after_bytes}
use Rattle.keep_base.proofs.Plain.{IsPlain-longer}
use Rattle.keep_base.specs.Ends.{IsPlain, IsReadOnto}
use Rattle.keep_base.specs.declared.lines.Stop.{Stop}
use Rattle.keep_base.specs.declared.lines.Stop.TheVariants.{ReadFault, LineTooLong, InputTooLong, NoMemory}

pub onto-keeps : (start : Option (List ℕ)) (old new : List ℕ) (a b : Option (List ℕ)) (r : Result ℕ Stop) → Keeps start (prepend_known old a) → IsReadOnto old new a b r → Keeps start (prepend_known new b)
onto-keeps start old new a b (Ok n) p (bytes, (e, (l, (q, z)))) = rw e (Keeps-after_bytes start old bytes a b p q)
onto-keeps start old new a b (Err ReadFault) p (e, k) = rw e (Keeps-after_read start old a b p k)
onto-keeps start old new a b (Err NoMemory) p (e, k) = rw e (Keeps-after_read start old a b p k)
onto-keeps start old new a b (Err LineTooLong) p q = absurd q
onto-keeps start old new a b (Err InputTooLong) p q = absurd q

pub onto-plain : (old new : List ℕ) (a b : Option (List ℕ)) (n k : ℕ) → IsReadOnto old new a b (Ok n) → k ≤ length old → IsPlain old 0 k → IsPlain new 0 k
onto-plain old new a b n k (bytes, (e, rest)) le plain = rw e (IsPlain-longer old bytes k le plain)

pub onto-length : (old new : List ℕ) (a b : Option (List ℕ)) (n : ℕ) → IsReadOnto old new a b (Ok n) → length new ≡ length old + n
onto-length old new a b n (bytes, (e, (l, rest))) = rw (e, length-append old bytes, l) refl
