-- How a session ends: `end-clean`, `end-closed`, `end-budget`, `end-stopped`, `end-refused`.
use Rattle.std.proofs.Common.{◌≡◌, ◌≤◌, ◌<◌, ℕ, List, [], ◌∷◌, ◌++◌, length, Option, None, Some, Ok, Err, refl, sym, ap, ◌∙◌, subst, arith, inl, inr, true, take}
use Rattle.std.specs.Prelude.{IfSome, IsSome}
use Rattle.std.proofs.lemmas.Bool.{false≢true}
use Rattle.std.specs.Io.KnownBytes.{Appends}
use Rattle.keep_base.specs.Sources.{AppendsPrefix}
use Rattle.keep_clock.specs.Readings.{Readings}
use Rattle.keep_routes.specs.Responses.{error_response}
use Rattle.keep_wire.specs.Ends.{end_of}
use Rattle.keep_wire.specs.Requests.{IsNext}
use Rattle.keep_wire.specs.Sessions.{AreRequests, broken, clean}
use Rattle.keep_wire.specs.declared.message.Request.{Request}
use Rattle.keep_wire.specs.declared.message.WireError.{WireError}
use Rattle.keep_wire.specs.declared.message.WireError.TheVariants as W
use Rattle.keep_wire.specs.declared.session_end.SessionEnd.{SessionEnd}
use Rattle.keep_wire.specs.declared.session_end.SessionEnd.TheVariants as E
use Rattle.keep_api.specs.Sessions.{AreSomeFirst, Change, Changes, Exchange, HasStopped, IsAnswered, IsBefore, IsCutOff, IsEnd, IsExchanged, IsGoing, IsReadOften, IsRefused, IsSession, IsStopped, Serving, Told, bytes_of, change, error_bytes, no_change, requests_of, whole}
use Rattle.keep_api.proofs.Options.{some-then}
use Rattle.keep_api.proofs.Changes.{changes-none, changes-more, closed-more, reading-at}
use Rattle.keep_api.proofs.Firsts.{first-ends, first-closes}
use Rattle.keep_api.proofs.Going.{next-request, all-more, counted, changed-more, read-at-more}

-- a session that stopped with a step, which read the clock so
stop-by : (s : Serving) (Is Are : ℕ → Type 0) (q : Request) (end : SessionEnd) (d : Change) → ((reading : ℕ) → Is reading → Are reading) → IsStopped s Is q end d → IsStopped s Are q end d
stop-by s Is Are q E.ClockFault d by h = h
stop-by s Is Are q E.PortFault d by h = (h.0, (by h.0 h.1.0, h.1.1))
stop-by s Is Are q (E.Spent drawn) d by h = (h.0, (by h.0 h.1.0, h.1.1))
stop-by s Is Are q E.NoMemory d by h = (h.0, (by h.0 h.1.0, h.1.1))
stop-by s Is Are q E.WriteFault d by h = (h.0, (by h.0 h.1.0, h.1.1))
stop-by s Is Are q E.Done d by h = absurd h
stop-by s Is Are q (E.Budget requests) d by h = absurd h
stop-by s Is Are q E.ReadFault d by h = absurd h
stop-by s Is Are q E.BadHead d by h = absurd h
stop-by s Is Are q E.LengthRequired d by h = absurd h
stop-by s Is Are q (E.BodyTooLong n) d by h = absurd h
stop-by s Is Are q E.CutBody d by h = absurd h

pub stopped-read : (s : Serving) (Is : ℕ → Type 0) (q : Request) (end : SessionEnd) (d : Change) → end ≡ E.ReadFault → IsStopped s Is q end d → ⊥
stopped-read s Is q end d is h = subst (λ e. IsStopped s Is q e d) is h

stop-ends : (s : Serving) (budget : ℕ) (bytes : Option (List ℕ)) (readings : Option Readings) (xs : List Exchange) (Is : ℕ → Type 0) (q : Request) (end : SessionEnd) (d : Change) → IsStopped s Is q end d → HasStopped s budget bytes readings xs end d → IsEnd s budget bytes readings xs end d
stop-ends s budget bytes readings xs Is q E.ClockFault d h has = has
stop-ends s budget bytes readings xs Is q E.PortFault d h has = has
stop-ends s budget bytes readings xs Is q (E.Spent drawn) d h has = has
stop-ends s budget bytes readings xs Is q E.NoMemory d h has = inl has
stop-ends s budget bytes readings xs Is q E.WriteFault d h has = inl has
stop-ends s budget bytes readings xs Is q E.Done d h has = absurd h
stop-ends s budget bytes readings xs Is q (E.Budget requests) d h has = absurd h
stop-ends s budget bytes readings xs Is q E.ReadFault d h has = absurd h
stop-ends s budget bytes readings xs Is q E.BadHead d h has = absurd h
stop-ends s budget bytes readings xs Is q E.LengthRequired d h has = absurd h
stop-ends s budget bytes readings xs Is q (E.BodyTooLong n) d h has = absurd h
stop-ends s budget bytes readings xs Is q E.CutBody d h has = absurd h

-- an error of the bytes, which is answered, ends their requests
broken-by : (rest : List ℕ) (e : WireError) (after : Option (List ℕ)) → IsSome (error_response e) → IsNext (Some rest) (Err e) after → AreRequests rest [] (broken e)
broken-by rest W.BadHead after some next = (tt, next)
broken-by rest W.LengthRequired after some next = (tt, next)
broken-by rest (W.BodyTooLong n) after some next = (tt, next)
broken-by rest W.CutBody after some next = (tt, next)
broken-by rest W.ReadFault after some next = absurd (false≢true some)
broken-by rest W.NoMemory after some next = absurd (false≢true some)

module _ (s : Serving) (budget n : ℕ) (bytes left : Option (List ℕ)) (old now : Told) (g : IsGoing s n bytes left old now) where
  few : n < budget → length g.exchanges < budget
  few lt = subst (λ m. m < budget) (sym g.count) lt

  some-first : IfSome bytes (λ b. AreSomeFirst b (requests_of g.exchanges))
  some-first = some-then bytes g.first (λ b h. (h.0, h.1.1))

  ended : (new : Told) (d : Change) (end : SessionEnd) → Changes now new d → IsEnd s budget bytes old.readings g.exchanges end d → IsSession s budget bytes old new end
  ended new d end changed is = record {
    exchanges = g.exchanges;
    rest = d;
    answered = g.answered;
    read_at = g.read_at;
    changed = changes-more old now new (whole g.exchanges) d g.changed changed;
    ended = is;
  }

  pub end-budget : n ≡ budget → IsSession s budget bytes old now (E.Budget budget)
  end-budget all = ended now no_change (E.Budget budget) (changes-none now) (refl, (refl, (g.count ∙ all, (g.are_open, some-first))))

  pub end-clean : (after : Option (List ℕ)) → n < budget → IsNext left (Ok None) after → IsSession s budget bytes old now E.Done
  end-clean after lt next =
      ended now no_change E.Done (changes-none now)
      (refl, inl (few lt, (g.are_open, some-then bytes g.first (λ b h. first-ends b (requests_of g.exchanges) h.0 clean h.1.1 (subst (λ l. IsNext l (Ok None) after) h.1.0 next).0))))

  pub end-stopped : (new : Told) (after : Option (List ℕ)) (q : Request) (end : SessionEnd) → n < budget → IsNext left (Ok (Some q)) after → IsExchanged s n q now new (Err end) → IsSession s budget bytes old new end
  end-stopped new after q end lt next stopped =
      let d = stopped.0 in
      ended new d end stopped.1.1
      (stop-ends s budget bytes old.readings g.exchanges _ q end d stopped.1.0 (
        q,
        (
          (few lt, (g.are_open, some-then bytes g.first (λ b h. (h.0, (h.1.1, (let r = next-request left after q h.0 h.1.0 next in (r.0, r.1.1))))))),
          stop-by s _ _ q end d (λ reading is. (is.0, at reading (reading-at n reading old.readings now.readings (subst (λ m. IsReadOften m old.readings now.readings) g.count g.changed.readings_are) is.1))) stopped.1.0,
        ),
      ))
    where
      at : (reading : ℕ) → IfSome old.readings (λ f. reading ≡ f n n) → IfSome old.readings (λ f. reading ≡ f (length g.exchanges) (length g.exchanges))
      at reading is = some-then old.readings is (λ f e. e ∙ ap (λ m. f m m) (sym g.count))

  module _ (after : Option (List ℕ)) (e : WireError) (lt : n < budget) (next : IsNext left (Err e) after) where
    was-broken : IsSome (error_response e) → IsBefore budget bytes g.exchanges (λ b. AreRequests b (requests_of g.exchanges) (broken e))
    was-broken some =
        (few lt, (g.are_open, some-then bytes g.first (λ b h. first-ends b (requests_of g.exchanges) h.0 (broken e) h.1.1 (broken-by h.0 e after some (subst (λ l. IsNext l (Err e) after) h.1.0 next)))))

    was-cut : IsCutOff budget bytes g.exchanges no_change
    was-cut = ((few lt, (g.are_open, some-first)), refl)

  -- the response to an error was written
  pub end-refused : (after : Option (List ℕ)) (e : WireError) (end : SessionEnd) (taken : Option (List ℕ)) → n < budget → IsNext left (Err e) after → IsRefused e now.taken taken end → IsSession s budget bytes old (record now { taken = taken }) end
  end-refused after e end taken lt next refused =
      elim refused as (λ _. IsSession s budget bytes old new end) [
        | inl h ↦ subst (IsSession s budget bytes old new) (sym h.0) (whole-text e next h.1)
        | inr h ↦ elim h as (λ _. IsSession s budget bytes old new end) [
          | inl f ↦ subst (IsSession s budget bytes old new) (sym f.0) (part f.1.1 f.1.0)
          | inr m ↦ subst (IsSession s budget bytes old new) (sym m.0)
              (ended new no_change E.NoMemory (by [] m.1) (inr (was-cut after e lt next)))
        ]
      ]
    where
      new : Told
      new = record now { taken = taken }

      by : (text : List ℕ) → Appends now.taken taken text → Changes now new (change [] text 0)
      by text h = record { made = (changes-none now).made; taken_is = h; readings_are = (changes-none now).readings_are }

      whole-text : (e : WireError) → IsNext left (Err e) after → Appends now.taken taken (error_bytes e) → IsSession s budget bytes old new (end_of e)
      whole-text W.BadHead next h = ended new (change [] (error_bytes W.BadHead) 0) E.BadHead (by _ h) (was-broken after W.BadHead lt next refl, refl)
      whole-text W.LengthRequired next h = ended new (change [] (error_bytes W.LengthRequired) 0) E.LengthRequired (by _ h) (was-broken after W.LengthRequired lt next refl, refl)
      whole-text (W.BodyTooLong m) next h = ended new (change [] (error_bytes (W.BodyTooLong m)) 0) (E.BodyTooLong m) (by _ h) (was-broken after (W.BodyTooLong m) lt next refl, refl)
      whole-text W.CutBody next h = ended new (change [] (error_bytes W.CutBody) 0) E.CutBody (by _ h) (was-broken after W.CutBody lt next refl, refl)
      whole-text W.ReadFault next h = ended new no_change E.ReadFault (by _ h) (was-cut after W.ReadFault lt next)
      whole-text W.NoMemory next h = ended new no_change E.NoMemory (by _ h) (inr (was-cut after W.NoMemory lt next))

      part : IsSome (error_response e) → AppendsPrefix now.taken taken (error_bytes e) → IsSession s budget bytes old new E.WriteFault
      part some h =
          ended new (change [] (take h.0 (error_bytes e)) 0) E.WriteFault (by _ h.2)
          (inr (e, (was-broken after e lt next some, (refl, ((h.0, (h.1, refl)), refl)))))

-- the request that was answered last closes
pub end-closed : (s : Serving) (budget n : ℕ) (bytes left after : Option (List ℕ)) (old now new : Told) (g : IsGoing s n bytes left old now) (x : Exchange) → IsAnswered s x → IfSome now.readings (λ f. x.reading ≡ f n 0) → Changes now new (change x.events (bytes_of x.response) 1) → IsNext left (Ok (Some x.request)) after → n < budget → x.request.close ≡ true → IsSession s budget bytes old new E.Done
end-closed s budget n bytes left after old now new g x answered at changed next lt closes = record {
  exchanges = g.exchanges ++ x ∷ [];
  rest = no_change;
  answered = all-more s n bytes left after old now new g x answered at changed next;
  read_at = read-at-more s n bytes left after old now new g x answered at changed next;
  changed = changes-more old new new (whole (g.exchanges ++ x ∷ [])) no_change (changed-more s n bytes left after old now new g x answered at changed next) (changes-none new);
  ended = (
    refl,
    inr (
      few,
      (
        closed-more g.exchanges x g.are_open closes,
        some-then bytes g.first (λ b h.
            let r = next-request left after x.request h.0 h.1.0 next in
            first-closes b g.exchanges h.0 x r.0 h.1.1 r.1.1 closes),
      ),
    ),
  );
}
  where
    few : length (g.exchanges ++ x ∷ []) ≤ budget
    few = subst (λ m. m ≤ budget) (sym (counted s n bytes left after old now new g x answered at changed next)) (omega (arith, lt))
