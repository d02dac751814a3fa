-- The exchanges of a session, one after another: `going-start`, `going-more`.
use Rattle.std.proofs.Common.{◌≡◌, ℕ, ◌+◌, List, [], ◌∷◌, ◌++◌, length, Option, None, Some, Ok, refl, sym, ap, ◌∙◌, subst, arith, All, false}
use Rattle.std.specs.Prelude.{IfSome}
use Rattle.std.proofs.lemmas.List.Elements.{All-append, All-nil, All-cons}
use Rattle.keep_clock.specs.Readings.{Readings}
use Rattle.keep_wire.specs.Requests.{IsNext, IsRequest}
use Rattle.keep_wire.specs.declared.message.Request.{Request}
use Rattle.keep_api.specs.Sessions.{AreFirst, AreReadFrom, Changes, Exchange, IsAnswered, IsGoing, IsReadOften, Serving, Told, bytes_of, change, whole}
use Rattle.keep_api.proofs.Options.{if-some, some-then}
use Rattle.keep_api.proofs.Changes.{changes-none, whole-more, count-more, read-more, open-more, reading-at}
use Rattle.keep_api.proofs.Firsts.{first-more}

pub going-start : (s : Serving) (bytes : Option (List ℕ)) (old : Told) → IsGoing s 0 bytes bytes old old
going-start s bytes old = record {
  exchanges = [];
  count = refl;
  answered = All-nil (IsAnswered s);
  read_at = if-some old.readings (λ f. tt);
  changed = changes-none old;
  are_open = tt;
  first = known bytes;
}
  where
    known : (o : Option (List ℕ)) → IfSome o (λ b. (rest : List ℕ) × ((o ≡ Some rest) × AreFirst b [] rest))
    known None = tt
    known (Some b) = (b, (refl, refl))

-- the request that comes next of known bytes
pub next-request : (left after : Option (List ℕ)) (q : Request) (rest : List ℕ) → left ≡ Some rest → IsNext left (Ok (Some q)) after → (more : List ℕ) × ((after ≡ Some more) × IsRequest rest q more)
next-request left after q rest is next = known after (subst (λ l. IsNext l (Ok (Some q)) after) is next)
  where
    known : (o : Option (List ℕ)) → IsNext (Some rest) (Ok (Some q)) o → (more : List ℕ) × ((o ≡ Some more) × IsRequest rest q more)
    known None h = absurd h
    known (Some more) h = (more, (refl, h))

module _ (s : Serving) (n : ℕ) (bytes left after : Option (List ℕ)) (old now new : Told) (g : IsGoing s n bytes left old now) (x : Exchange) (answered : IsAnswered s x) (at : IfSome now.readings (λ f. x.reading ≡ f n 0)) (changed : Changes now new (change x.events (bytes_of x.response) 1)) (next : IsNext left (Ok (Some x.request)) after) where
  pub all-more : All (IsAnswered s) (g.exchanges ++ x ∷ [])
  all-more = All-append (IsAnswered s) g.exchanges (x ∷ []) g.answered (All-cons (IsAnswered s) x [] answered (All-nil (IsAnswered s)))

  pub counted : length (g.exchanges ++ x ∷ []) ≡ n + 1
  counted = sym (count-more g.exchanges x) ∙ ap (λ m. m + 1) g.count

  pub changed-more : Changes old new (whole (g.exchanges ++ x ∷ []))
  changed-more = whole-more old now new g.exchanges x g.changed changed

  pub read-at-more : IfSome old.readings (λ f. AreReadFrom f 0 (g.exchanges ++ x ∷ []))
  read-at-more = known old.readings g.read_at (reading-at n x.reading old.readings now.readings (subst (λ m. Often m) g.count g.changed.readings_are) at)
    where
      Often : ℕ → Type 0
      Often m = IsReadOften m old.readings now.readings

      plus : (m : ℕ) → m ≡ 0 + m
      plus m = omega arith

      known : (o : Option Readings) → IfSome o (λ f. AreReadFrom f 0 g.exchanges) → IfSome o (λ f. x.reading ≡ f n n) → IfSome o (λ f. AreReadFrom f 0 (g.exchanges ++ x ∷ []))
      known None all is = tt
      known (Some f) all is = read-more f 0 g.exchanges x all (is ∙ ap (λ m. f m m) (sym g.count ∙ plus (length g.exchanges)))

  pub going-more : x.request.close ≡ false → IsGoing s (n + 1) bytes after old new
  going-more goes = record {
    exchanges = g.exchanges ++ x ∷ [];
    count = counted;
    answered = all-more;
    read_at = read-at-more;
    changed = changed-more;
    are_open = open-more g.exchanges x g.are_open goes;
    first = some-then bytes g.first (λ b h.
        let r = next-request left after x.request h.0 h.1.0 next in
        (r.0, (r.1.0, first-more b g.exchanges h.0 x r.0 h.1.1 r.1.1 goes)));
  }
