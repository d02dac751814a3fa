-- How a session ends at an error of its bytes.
use Rattle.std.proofs.Common.{◌≡◌, ℕ, List, [], Option, None, Some, Err, refl, sym, ap, ◌∙◌, subst, inl, inr}
use Rattle.std.specs.Prelude.{IsSome, ⊤}
use Rattle.keep_base.specs.Sources.{AppendsPrefix}
use Rattle.std.specs.Io.KnownBytes.{Appends}
use Rattle.keep_routes.specs.Responses.{error_response}
use Rattle.keep_wire.specs.Ends.{end_of}
use Rattle.keep_wire.specs.declared.message.Response.{Response}
use Rattle.keep_wire.specs.declared.message.WireError.{WireError}
use Rattle.keep_wire.specs.declared.message.WireError.TheVariants as W
use Rattle.keep_wire.specs.declared.session_end.SessionEnd.{SessionEnd}
use Rattle.keep_wire.specs.declared.session_end.SessionEnd.TheVariants as E
use Rattle.keep_api.specs.Sessions.{IsRefused, IsSent, bytes_if, bytes_of, error_bytes}

module _ (e : WireError) (old new : Option (List ℕ)) where
  -- there is no response
  pub refused-none : error_response e ≡ None → Appends old new [] → IsRefused e old new (end_of e)
  refused-none none h = inl (refl, subst (Appends old new) (sym (ap bytes_if none)) h)

  pub refused-memory : Appends old new [] → IsRefused e old new E.NoMemory
  refused-memory h = inr (inr (refl, h))

  module _ (response : Response) (some : Some response ≡ error_response e) where
    whole : bytes_of response ≡ error_bytes e
    whole = ap bytes_if some

    is-some : IsSome (error_response e)
    is-some = subst IsSome some refl

    pub refused-whole : Appends old new (bytes_of response) → IsRefused e old new (end_of e)
    refused-whole h = inl (refl, subst (Appends old new) whole h)

    pub refused-part : (end : SessionEnd) → IsSent (bytes_of response) old new (Err end) → IsRefused e old new end
    refused-part E.WriteFault h = inr (inl (refl, (subst (AppendsPrefix old new) whole h, is-some)))
    refused-part E.NoMemory h = inr (inr (refl, h))
    refused-part E.Done h = absurd h
    refused-part (E.Budget requests) h = absurd h
    refused-part E.ReadFault h = absurd h
    refused-part E.BadHead h = absurd h
    refused-part E.LengthRequired h = absurd h
    refused-part (E.BodyTooLong m) h = absurd h
    refused-part E.CutBody h = absurd h
    refused-part E.ClockFault h = absurd h
    refused-part E.PortFault h = absurd h
    refused-part (E.Spent drawn) h = absurd h

-- ---- which ends these are

end-of-read : (e : WireError) → end_of e ≡ E.ReadFault → e ≡ W.ReadFault
end-of-read W.ReadFault h = refl
end-of-read W.BadHead h = absurd (cc)
end-of-read W.LengthRequired h = absurd (cc)
end-of-read (W.BodyTooLong n) h = absurd (cc)
end-of-read W.CutBody h = absurd (cc)
end-of-read W.NoMemory h = absurd (cc)

-- an end that no error of the bytes makes
abbrev pub IsOther : SessionEnd → Type 0
IsOther E.ClockFault = ⊤
IsOther E.PortFault = ⊤
IsOther (E.Spent drawn) = ⊤
IsOther end = ⊥

end-of-other : (e : WireError) → IsOther (end_of e) → ⊥
end-of-other W.ReadFault h = h
end-of-other W.BadHead h = h
end-of-other W.LengthRequired h = h
end-of-other (W.BodyTooLong n) h = h
end-of-other W.CutBody h = h
end-of-other W.NoMemory h = h

module _ (e : WireError) (old new : Option (List ℕ)) (end : SessionEnd) (refused : IsRefused e old new end) where
  pub refused-read : end ≡ E.ReadFault → e ≡ W.ReadFault
  refused-read is =
      elim refused as (λ _. e ≡ W.ReadFault) [
        | inl h ↦ end-of-read e (sym h.0 ∙ is)
        | inr h ↦ elim h as (λ _. e ≡ W.ReadFault) [
          | inl w ↦ absurd (let wrong : E.WriteFault ≡ E.ReadFault = sym w.0 ∙ is in cc)
          | inr m ↦ absurd (let wrong : E.NoMemory ≡ E.ReadFault = sym m.0 ∙ is in cc)
        ]
      ]

  pub refused-other : IsOther end → ⊥
  refused-other other =
      elim refused as (λ _. ⊥) [
        | inl h ↦ end-of-other e (subst IsOther h.0 other)
        | inr h ↦ elim h as (λ _. ⊥) [
          | inl w ↦ subst IsOther w.0 other
          | inr m ↦ subst IsOther m.0 other
        ]
      ]
