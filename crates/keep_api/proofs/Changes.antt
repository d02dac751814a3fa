-- What changed, put together: `changes-none`, `changes-more`; and what exchanges come to with one more.
use Rattle.std.proofs.Common.{◌≡◌, ℕ, ◌+◌, List, [], ◌∷◌, ◌++◌, length, Option, None, Some, refl, sym, ap, ◌∙◌, subst, arith, append_assoc, true, false, inl, inr}
use Rattle.std.specs.Prelude.{IfSome}
use Rattle.std.specs.Io.KnownBytes.{Appends}
use Rattle.std.proofs.KnownBytes.{Appends-nil, Appends-trans}
use Rattle.std.proofs.lemmas.List.{append-nil}
use Rattle.keep_clock.specs.Readings.{Readings}
use Rattle.keep_api.specs.Sessions.{AreClosed, AreOpen, AreReadFrom, Change, Changes, Exchange, IsReadOften, Made, Told, bytes_of, change, events_of, no_change, text_of, together, whole}
use Rattle.keep_api.proofs.Made.{made-none, made-more}

often-none : (r : Option Readings) → IsReadOften 0 r r
often-none None = refl
often-none (Some f) = λ t k. ap (f t) (plus k)
  where
    plus : (k : ℕ) → k ≡ k + 0
    plus k = omega arith

often-more : (m n : ℕ) (a b c : Option Readings) → IsReadOften m a b → IsReadOften n b c → IsReadOften (m + n) a c
often-more m n None b c p q = subst (λ x. IsReadOften n x c) p q
often-more m n (Some f) None c p q = absurd p
often-more m n (Some f) (Some g) None p q = absurd q
often-more m n (Some f) (Some g) (Some h) p q = λ t k. q t k ∙ p t (k + n) ∙ ap (f t) (plus k)
  where
    plus : (k : ℕ) → (k + n) + m ≡ k + (m + n)
    plus k = omega arith

pub changes-none : (t : Told) → Changes t t no_change
changes-none t = record { made = made-none t.port; taken_is = Appends-nil t.taken; readings_are = often-none t.readings }

pub changes-more : (a b c : Told) (d e : Change) → Changes a b d → Changes b c e → Changes a c (together d e)
changes-more a b c d e p q = record {
  made = made-more a.port b.port c.port d.events e.events p.made q.made;
  taken_is = Appends-trans a.taken b.taken c.taken d.text e.text p.taken_is q.taken_is;
  readings_are = often-more d.reads e.reads a.readings b.readings c.readings p.readings_are q.readings_are;
}

pub changes-at : (a b : Told) (d e : Change) → Changes a b d → d.events ≡ e.events → d.text ≡ e.text → d.reads ≡ e.reads → Changes a b e
changes-at a b d e h events text reads = record {
  made = subst (Made a.port b.port) events h.made;
  taken_is = subst (Appends a.taken b.taken) text h.taken_is;
  readings_are = subst (λ n. IsReadOften n a.readings b.readings) reads h.readings_are;
}

-- ---- exchanges, with one more

events-more : (xs : List Exchange) (x : Exchange) → events_of xs ++ x.events ≡ events_of (xs ++ x ∷ [])
events-more [] x = sym (append-nil x.events)
events-more (y ∷ xs) x = append_assoc y.events (events_of xs) x.events ∙ ap (λ es. y.events ++ es) (events-more xs x)

text-more : (xs : List Exchange) (x : Exchange) → text_of xs ++ bytes_of x.response ≡ text_of (xs ++ x ∷ [])
text-more [] x = sym (append-nil (bytes_of x.response))
text-more (y ∷ xs) x = append_assoc (bytes_of y.response) (text_of xs) (bytes_of x.response) ∙ ap (λ t. bytes_of y.response ++ t) (text-more xs x)

pub count-more : (xs : List Exchange) (x : Exchange) → length xs + 1 ≡ length (xs ++ x ∷ [])
count-more [] x = refl
count-more (y ∷ xs) x = omega (arith, count-more xs x)

pub whole-more : (a b c : Told) (xs : List Exchange) (x : Exchange) → Changes a b (whole xs) → Changes b c (change x.events (bytes_of x.response) 1) → Changes a c (whole (xs ++ x ∷ []))
whole-more a b c xs x p q =
    changes-at a c _ (whole (xs ++ x ∷ [])) (changes-more a b c (whole xs) (change x.events (bytes_of x.response) 1) p q) (events-more xs x) (text-more xs x) (count-more xs x)

pub read-more : (f : Readings) (i : ℕ) (xs : List Exchange) (x : Exchange) → AreReadFrom f i xs → x.reading ≡ f (i + length xs) (i + length xs) → AreReadFrom f i (xs ++ x ∷ [])
read-more f i [] x all is = (is ∙ ap (λ n. f n n) (plus i), tt)
  where
    plus : (n : ℕ) → n + 0 ≡ n
    plus n = omega arith
read-more f i (y ∷ xs) x all is = (all.0, read-more f (i + 1) xs x all.1 (is ∙ ap (λ n. f n n) shift))
  where
    shift : i + length (y ∷ xs) ≡ (i + 1) + length xs
    shift = omega arith

pub open-more : (xs : List Exchange) (x : Exchange) → AreOpen xs → x.request.close ≡ false → AreOpen (xs ++ x ∷ [])
open-more [] x all is = (is, tt)
open-more (y ∷ xs) x all is = (all.0, open-more xs x all.1 is)

pub closed-more : (xs : List Exchange) (x : Exchange) → AreOpen xs → x.request.close ≡ true → AreClosed (xs ++ x ∷ [])
closed-more [] x all is = inl (is, refl)
closed-more (y ∷ xs) x all is = inr (all.0, closed-more xs x all.1 is)

-- the reading at a step, by the readings at the beginning
pub reading-at : (n reading : ℕ) (old now : Option Readings) → IsReadOften n old now → IfSome now (λ f. reading ≡ f n 0) → IfSome old (λ f. reading ≡ f n n)
reading-at n reading None now often is = tt
reading-at n reading (Some f) None often is = absurd often
reading-at n reading (Some f) (Some g) often is = is ∙ often n 0 ∙ ap (f n) (plus n)
  where
    plus : (n : ℕ) → 0 + n ≡ n
    plus n = omega arith
