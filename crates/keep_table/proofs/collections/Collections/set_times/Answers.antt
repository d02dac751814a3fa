use Rattle.std.proofs.Common.{◌≡◌, ◌∙◌, sym, refl, Some, None}
use Rattle.std.specs.Map.{values_of}
use Rattle.std.specs.Option.{option_copied_mut}
use Rattle.keep_event.specs.declared.table.Collection.{Collection}
use Rattle.keep_table.proofs.Keyed.{rewritten, keyed-again, values-are, keys-changed, change-absent, found}
use Rattle.keep_table.proofs.collections.Collections.set_times.Goals as goal
use Rattle.keep_table.proofs.collections.Collections.set_times.Goals.{in-Some, in_default}

pub invariant_of-self : goal.invariant_of-self
invariant_of-self c =
    elim c.match-get_mut.branch [
      | in-Some w ↦
          (let read : option_copied_mut c.get_mut.result ≡ Some w.in-Some.collection.now = rw w.in-Some.is refl in
          let e = rewritten (λ (x : Collection). x.number) c.args.number (λ x. record { number = x.number; owner = x.owner; trash_at = c.args.trash_at; delete_at = c.args.delete_at }) w.in-Some.collection.now c.self.inside.held.entries _ (λ x. refl) c.self.invariant.by_number c.self.invariant.rising (sym c.get_mut.ensures.value ∙ read) (c.get_mut.follows.holds _).0 in
          let vs = values-are (λ (x : Collection). x.number) _ _ e in
          rw w.self-inside-is (record {
            by_number = keyed-again (λ (x : Collection). x.number) _ _ e;
            rising = rw (vs, keys-changed (λ (x : Collection). x.number) c.args.number (λ x. record { number = x.number; owner = x.owner; trash_at = c.args.trash_at; delete_at = c.args.delete_at }) (values_of c.self.inside.held.entries) (λ x. refl)) c.self.invariant.rising;
          }))
      | in_default w ↦ rw (w.self-inside-is, c.get_mut.follows.holds-at-none) c.self.invariant
    ]

pub returns : goal.returns
returns c =
    elim c.match-get_mut.branch [
      | in-Some w ↦
          (let read : option_copied_mut c.get_mut.result ≡ Some w.in-Some.collection.now = rw w.in-Some.is refl in
          let e = rewritten (λ (x : Collection). x.number) c.args.number (λ x. record { number = x.number; owner = x.owner; trash_at = c.args.trash_at; delete_at = c.args.delete_at }) w.in-Some.collection.now c.self.inside.held.entries _ (λ x. refl) c.self.invariant.by_number c.self.invariant.rising (sym c.get_mut.ensures.value ∙ read) (c.get_mut.follows.holds _).0 in
          rw (w.self-inside-is, ← c.self.view_is) (values-are (λ (x : Collection). x.number) _ _ e))
      | in_default w ↦
          (let read : option_copied_mut c.get_mut.result ≡ None = rw w.in_default.is refl in
          rw (w.self-inside-is, c.get_mut.follows.holds-at-none, ← c.self.view_is)
          (sym (change-absent (λ (x : Collection). x.number) c.args.number (λ x. record { number = x.number; owner = x.owner; trash_at = c.args.trash_at; delete_at = c.args.delete_at }) (values_of c.self.inside.held.entries) (sym (found (λ (x : Collection). x.number) c.args.number c.self.inside.held.entries c.self.invariant.by_number) ∙ sym c.get_mut.ensures.value ∙ read))))
    ]
