use Rattle.std.proofs.Common.{◌≡◌, ◌∙◌, ap, not, is_ok, sym, refl, Some, None}
use Rattle.std.specs.Map.{values_of}
use Rattle.std.specs.Option.{option_copied_mut}
use Rattle.keep_event.specs.declared.table.Record.{Record}
use Rattle.keep_table.specs.Maps.{standing_as}
use Rattle.keep_table.proofs.Due.{kept-marked, kept-more, kept-same}
use Rattle.keep_table.proofs.Held.{size-marked}
use Rattle.keep_table.proofs.Keyed.{rewritten, put-back, keyed-again, values-are, keys-changed, change-absent, found}
use Rattle.keep_table.proofs.Later.{versioned-marked}
use Rattle.keep_table.proofs.Triples.{place-marked, small-marked}
use Rattle.keep_table.proofs.Mentions.{mentioned-marked}
use Rattle.keep_table.proofs.records.Records.mark.Goals as goal

pub returns-in_default : goal.returns-in_default
returns-in_default c =
    let read : option_copied_mut c.get_mut.result ≡ None = rw c.in_default.is refl in
    rw (c.get_mut.follows.holds-at-none, ← c.self.view_is)
    (sym (change-absent (λ (r : Record). r.revision) c.args.revision (standing_as c.args.standing) (values_of c.self.inside.rows.entries) (sym (found (λ (r : Record). r.revision) c.args.revision c.self.inside.rows.entries c.self.invariant.by_revision) ∙ sym c.get_mut.ensures.value ∙ read)))

pub invariant_of-self-then-is_err : goal.invariant_of-self-then-is_err
invariant_of-self-then-is_err c =
    let read : option_copied_mut c.get_mut.result ≡ Some c.in-Some.row.now = rw c.in-Some.is refl in
    let same = put-back (λ (r : Record). r.revision) c.args.revision c.in-Some.row.now c.self.inside.rows.entries _ c.self.invariant.by_revision c.self.invariant.rising (sym c.get_mut.ensures.value ∙ read) (c.get_mut.follows.holds c.in-Some.row.now).0 in
    rw same (record {
      by_revision = c.self.invariant.by_revision;
      rising = c.self.invariant.rising;
      versioned = c.self.invariant.versioned;
      small = c.self.invariant.small;
      of_each = c.self.invariant.of_each;
      of_sizes = c.self.invariant.of_sizes;
      of_kept = λ n t v. kept-same _ _ (is_ok c.add.result) _ _ (c.add.ensures n t v) (c.is_err.ensures.negation ∙ ap not c.if-is_err.true) (c.self.invariant.of_kept n t v);
      of_wants = c.self.invariant.of_wants;
    })

pub returns-then-is_err : goal.returns-then-is_err
returns-then-is_err c =
    let read : option_copied_mut c.get_mut.result ≡ Some c.in-Some.row.now = rw c.in-Some.is refl in
    let same = put-back (λ (r : Record). r.revision) c.args.revision c.in-Some.row.now c.self.inside.rows.entries _ c.self.invariant.by_revision c.self.invariant.rising (sym c.get_mut.ensures.value ∙ read) (c.get_mut.follows.holds c.in-Some.row.now).0 in
    rw (← c.self.view_is) (ap values_of same)

pub invariant_of-self-2 : goal.invariant_of-self-2
invariant_of-self-2 c =
    let read : option_copied_mut c.get_mut.result ≡ Some c.in-Some.row.now = rw c.in-Some.is refl in
    let current = rw (← c.self.view_is) at c.requires in
    let there = sym (found (λ (r : Record). r.revision) c.args.revision c.self.inside.rows.entries c.self.invariant.by_revision) ∙ sym c.get_mut.ensures.value ∙ read in
    let e = rewritten (λ (r : Record). r.revision) c.args.revision (standing_as c.args.standing) c.in-Some.row.now c.self.inside.rows.entries _ (λ x. refl) c.self.invariant.by_revision c.self.invariant.rising (sym c.get_mut.ensures.value ∙ read) (c.get_mut.follows.holds _).0 in
    let vs = values-are (λ (r : Record). r.revision) _ _ e in
    record {
      by_revision = keyed-again (λ (r : Record). r.revision) _ _ e;
      rising = rw (vs, keys-changed (λ (r : Record). r.revision) c.args.revision (standing_as c.args.standing) (values_of c.self.inside.rows.entries) (λ x. refl)) c.self.invariant.rising;
      versioned = rw vs (versioned-marked c.args.revision c.args.standing (values_of c.self.inside.rows.entries) c.self.invariant.versioned);
      small = rw vs (small-marked c.args.revision c.args.standing (values_of c.self.inside.rows.entries) c.self.invariant.small);
      of_each = λ n u v. rw (vs, place-marked n u v c.args.revision c.args.standing (values_of c.self.inside.rows.entries)) (c.self.invariant.of_each n u v);
      of_sizes = λ n. rw (vs, size-marked n c.args.revision c.args.standing (values_of c.self.inside.rows.entries)) (c.self.invariant.of_sizes n);
      of_kept = λ n t v. rw (vs, kept-marked n t v c.args.revision 0 c.args.standing (values_of c.self.inside.rows.entries) c.in-Some.row.now c.self.invariant.rising current there)
          (kept-more _ _ (is_ok c.add.result) _ _ (c.add.ensures n t v) (c.is_err.ensures.negation ∙ ap not c.if-is_err.false) (c.self.invariant.of_kept n t v));
      of_wants = λ h n. rw (vs, mentioned-marked h n c.args.revision c.args.standing (values_of c.self.inside.rows.entries)) (c.self.invariant.of_wants h n);
    }

pub returns : goal.returns
returns c =
    let read : option_copied_mut c.get_mut.result ≡ Some c.in-Some.row.now = rw c.in-Some.is refl in
    let e = rewritten (λ (r : Record). r.revision) c.args.revision (standing_as c.args.standing) c.in-Some.row.now c.self.inside.rows.entries _ (λ x. refl) c.self.invariant.by_revision c.self.invariant.rising (sym c.get_mut.ensures.value ∙ read) (c.get_mut.follows.holds _).0 in
    rw (← c.self.view_is) (values-are (λ (r : Record). r.revision) _ _ e)
