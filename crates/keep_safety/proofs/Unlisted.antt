-- A digest without an item in a round's lists stays on each device that held it when the round's scans ended, while no round above has trashed: `unlisted-held`.
use Rattle.std.proofs.Common.{◌≡◌, ◌≤◌, ◌<◌, ℕ, List, [], ◌∷◌, length, Bool, true, false, refl, sym, ◌∙◌, ap, subst, Option, None, Some, is_some, arith, inl, inr}
use Rattle.std.specs.Prelude.{◌⊎◌}
use Rattle.keep_spec.specs.Config.{Configuration}
use Rattle.keep_event.specs.Device.{replica_of}
use Rattle.keep_event.specs.declared.lists.TrashItem.{TrashItem}
use Rattle.keep_event.specs.declared.device.DeviceQuery.{DeviceQuery}
use Rattle.keep_event.specs.declared.event.Event.{Event}
use Rattle.keep_event.specs.declared.event.Query.{Query}
use Rattle.keep_event.specs.declared.event.Query.TheVariants as Q
use Rattle.keep_event.specs.declared.event.Answer.{Answer}
use Rattle.keep_event.specs.declared.event.Answer.TheVariants as A
use Rattle.keep_safety.specs.Allowed.{IsAllowed, MayFollow}
use Rattle.keep_safety.specs.Holds.{holds}
use Rattle.keep_spec.specs.Members.{IsIn}
use Rattle.keep_event.specs.World.{device_rules}
use Rattle.keep_safety.specs.Past.{Past, left_by, device_after, IsAnswered}
use Rattle.keep_safety.specs.Rounds.{round_in}
use Rattle.keep_safety.specs.Rows.{scanned, first_of_two, is_last_scan}
use Rattle.keep_safety.proofs.AfterScan.{NoneAbove}
use Rattle.keep_safety.proofs.Begun.{same-start, ended-stage}
use Rattle.keep_safety.proofs.Devices.{device-facts, Trashes, HasTrashed, IsListed}
use Rattle.keep_safety.proofs.Lines.{Does, step-does}
use Rattle.keep_safety.proofs.Places.{line_at, left-line, left-fault, left-away, by-place}

module _ (c : Configuration) (d : ℕ) (h : List ℕ) (r : ℕ) (configured : d < length c.devices) where
  -- held, or trashed for a round that isn't lower
  abbrev Still : Past → Type 0
  Still past = (is_some (replica_of h (device_after c d past)) ≡ true) ⊎ ((m : ℕ) × (r ≤ m) × HasTrashed d h m past)

  module _ (past : Past) (e : Event) (allowed : IsAllowed c past) (answered : IsAnswered c past e.reading e.query e.answer) (low : r ≤ (device_after c d past).round) (held : is_some (replica_of h (device_after c d past)) ≡ true) where
    abbrev StillAt : Query → Answer → Type 0
    StillAt q a = (is_some (replica_of h (left_by c d e.reading q a (device_after c d past))) ≡ true) ⊎ ((m : ℕ) × (r ≤ m) × (Trashes d h m q a ⊎ HasTrashed d h m past))

    line-still : (x : DeviceQuery) → StillAt (Q.Device d x) (A.Device (line_at c d past e.reading x).answer)
    line-still x = by (step-does (device_rules c d) e.reading (device_after c d past) (device-facts c d past allowed).sound.ascends h x)
      where
        here : is_some (replica_of h (line_at c d past e.reading x).state) ≡ true → StillAt (Q.Device d x) (A.Device (line_at c d past e.reading x).answer)
        here s = inl (ap (λ s. is_some (replica_of h s)) (left-line c d past e.reading x) ∙ s)

        by : Does (device_rules c d) e.reading (device_after c d past) (device-facts c d past allowed).sound.ascends h x (line_at c d past e.reading x) → StillAt (Q.Device d x) (A.Device (line_at c d past e.reading x).answer)
        by (inl k) = here (ap is_some k.same ∙ held)
        by (inr (inl k)) = here (ap is_some k.there)
        by (inr (inr k)) = inr ((device_after c d past).round, low, inl (subst (λ a. Trashes d h (device_after c d past).round (Q.Device d x) (A.Device a)) (sym k.answered) (refl, refl, refl)))

    event-still : StillAt e.query e.answer
    event-still = by-place c d past e.reading StillAt
        (λ x lt. line-still x)
        (λ x. inl (ap (λ s. is_some (replica_of h s)) (left-fault c d past e.reading x) ∙ held))
        (λ n x a other. inl (ap (λ s. is_some (replica_of h s)) (left-away c d past e.reading n x a other) ∙ held))
        (λ x a is. inl held)
        e.query e.answer answered

  still-more : (past : Past) (e : Event) → IsAllowed c past → MayFollow c past e → IsIn d (round_in r past).cleared → Still past → Still (e ∷ past)
  still-more past e allowed m cleared (inl held) = event-still past e allowed m.answered ((device-facts c d past allowed).cleared r cleared) held
  still-more past e allowed m cleared (inr t) = inr (t.0, t.1, inr t.2)

  some-past : (p q : Past) → Some p ≡ Some q → p ≡ q
  some-past p q e = cc e

  still-by : (past p : Past) (e : Event) (o : Option Past) → scanned r past ≡ o → (b : Bool) → first_of_two o b (e ∷ past) ≡ Some p → is_some (replica_of h (device_after c d p)) ≡ true → (scanned r past ≡ Some p → Still (e ∷ past)) → Still (e ∷ past)
  still-by past p e (Some q) was b is held later = later (was ∙ is)
  still-by past p e None was true is held later = inl (subst (λ v. is_some (replica_of h (device_after c d v)) ≡ true) (sym (some-past (e ∷ past) p is)) held)
  still-by past p e None was false is held later = cc is

  still-since : (past p : Past) → IsAllowed c past → scanned r past ≡ Some p → IsIn d (round_in r past).cleared → is_some (replica_of h (device_after c d p)) ≡ true → Still past
  still-since [] p a is cleared held = cc is
  still-since (e ∷ past) p a is cleared held = still-by past p e (scanned r past) refl (is_last_scan r e.query e.answer) is held
      (λ was. (let before : IsIn d (round_in r past).cleared = subst (λ v. IsIn d v) (same-start r past e.query e.answer (ended-stage r past p was) a.0.in_order).cleared cleared in
      still-more past e a.1 a.0 before (still-since past p a.1 was before held)))

  -- so a digest without an item is held still
  pub unlisted-held : (past p : Past) → IsAllowed c past → IsAllowed c p → scanned r past ≡ Some p → IsIn d (round_in r past).cleared → NoneAbove r past → ((x : TrashItem) → IsListed c (round_in r past) d x → x.digest ≡ h → ⊥) → holds d h p ≡ true → holds d h past ≡ true
  unlisted-held past p a ap' is cleared above unlisted held = by (still-since past p a is cleared (sym ((device-facts c d p ap').holds_is h) ∙ held))
    where
      by : Still past → holds d h past ≡ true
      by (inl some) = (device-facts c d past a).holds_is h ∙ some
      by (inr t) =
          let low = above d h t.0 t.2 in
          let same : t.0 ≡ r = omega (arith, t.1) in
          let was = ((device-facts c d past a).trashed h r (subst (λ m. HasTrashed d h m past) same t.2)).1 in
          absurd (unlisted was.item was.is was.digest)
