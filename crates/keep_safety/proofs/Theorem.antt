-- The theorem whole: `theorem`, `histories-are-safe`; that what some device holds can be read: `held-readable`, `readable-held`.
use Rattle.std.proofs.Common.{◌≡◌, ◌<◌, ℕ, List, [], ◌∷◌, ◌++◌, length, reverse, take, drop, true, sym, ap, subst, ◌∙◌}
use Rattle.std.proofs.lemmas.List.{reverse-append, take-append-drop}
use Rattle.keep_spec.specs.Config.{Configuration}
use Rattle.keep_event.specs.declared.event.Event.{Event}
use Rattle.keep_safety.specs.History.{HistoriesAreSafe}
use Rattle.keep_safety.specs.Holds.{holds}
use Rattle.keep_safety.specs.Past.{Past}
use Rattle.keep_safety.specs.Safe.{IsReadable, IsSafe, IsSafeThroughout, SignatureLifetime}
use Rattle.keep_safety.proofs.Devices.{device-facts}
use Rattle.keep_safety.proofs.Safety.{signature-lifetime, gives}
use Rattle.keep_safety.proofs.Texts.{same-digests}

pub theorem : (c : Configuration) → SignatureLifetime c
theorem c = signature-lifetime same-digests c

-- Whatever the past is: where it isn't allowed, nothing may follow it.
pub held-readable : (c : Configuration) (past : Past) (h : List ℕ) (d : ℕ) → d < length c.devices → holds d h past ≡ true → IsReadable c past h
held-readable c past h d lt held = record {
  device = d;
  configured = lt;
  held = held;
  fetched = λ e is next. gives c past h next.1 d (sym ((device-facts c d past next.1).holds_is h) ∙ held) e is next;
}

pub readable-held : (c : Configuration) (past : Past) (h : List ℕ) → IsReadable c past h → (d : ℕ) × (d < length c.devices) × (holds d h past ≡ true)
readable-held c past h r = (r.device, r.configured, r.held)

-- ---- histories in their order
safe-first : (c : Configuration) (past : Past) → IsSafeThroughout c past → IsSafe c past
safe-first c [] h = h
safe-first c (e ∷ past) h = h.0

safe-behind : (c : Configuration) (later past : Past) → IsSafeThroughout c (later ++ past) → IsSafeThroughout c past
safe-behind c [] past h = h
safe-behind c (e ∷ later) past h = safe-behind c later past h.1

in-order : (n : ℕ) (events : List Event) → reverse events ≡ reverse (drop n events) ++ reverse (take n events)
in-order n events = ap reverse (sym (take-append-drop n events)) ∙ reverse-append (take n events) (drop n events)

pub histories-are-safe : (c : Configuration) → HistoriesAreSafe c
histories-are-safe c events a =
    let t = theorem c (reverse events) a in
    record {
      kept = t.0;
      safe = λ s u n. safe-first c (reverse (take n events)) (safe-behind c (reverse (drop n events)) (reverse (take n events)) (subst (IsSafeThroughout c) (in-order n events) (t.1 s u)));
    }
