use Rattle.std.proofs.Common.{◌<◌, ◌^◌, ◌&&◌, not, ap, sym, ◌∙◌, arith}
use Rattle.std.specs.Map.{values_of}
use Rattle.keep_event.specs.Table.{is_of}
use Rattle.keep_event.specs.declared.table.Record.{Record}
use Rattle.keep_table.specs.Maps.{is_kept_as, is_place}
use Rattle.keep_table.proofs.Due.{kept-without}
use Rattle.keep_table.proofs.Held.{count-without, some-size}
use Rattle.keep_table.proofs.Keyed.{dropped, keyed-again, values-are, rises-without, found}
use Rattle.keep_table.proofs.Later.{versioned-filter}
use Rattle.keep_table.proofs.Orderly.{all-filter}
use Rattle.keep_table.proofs.Triples.{place-without}
use Rattle.keep_table.proofs.Mentions.{mentioned-without, taken}
use Rattle.keep_table.proofs.records.Records.drop_one.Goals as goal

pub returns-in_default : goal.returns-in_default
returns-in_default c = rw (← c.self.view_is) (values-are (λ (r : Record). r.revision) _ _ (dropped (λ (r : Record). r.revision) c.args.revision c.self.inside.rows.entries c.remove.new.self.entries c.self.invariant.by_revision c.self.invariant.rising c.remove.ensures.entries))

pub lower-requires : goal.lower-requires
lower-requires c =
    let there = sym (found (λ (r : Record). r.revision) c.args.revision c.self.inside.rows.entries c.self.invariant.by_revision) ∙ sym c.remove.ensures.value ∙ c.in-Some.is in
    let some = some-size c.args.revision (values_of c.self.inside.rows.entries) c.in-Some.row c.self.invariant.rising there in
    let size = c.self.invariant.of_sizes c.in-Some.row.collection in
    omega arith

pub take-requires : goal.take-requires
take-requires c = λ h n.
    let there = sym (found (λ (r : Record). r.revision) c.args.revision c.self.inside.rows.entries c.self.invariant.by_revision) ∙ sym c.remove.ensures.value ∙ c.in-Some.is in
    let less = mentioned-without h n c.args.revision 0 (values_of c.self.inside.rows.entries) c.in-Some.row c.self.invariant.rising there in
    let before = c.self.invariant.of_wants h n in
    rw c.as_slice.ensures (omega arith)

pub invariant_of-self-2 : goal.invariant_of-self-2
invariant_of-self-2 c =
    let e = dropped (λ (r : Record). r.revision) c.args.revision c.self.inside.rows.entries c.remove.new.self.entries c.self.invariant.by_revision c.self.invariant.rising c.remove.ensures.entries in
    let vs = values-are (λ (r : Record). r.revision) _ _ e in
    let there = sym (found (λ (r : Record). r.revision) c.args.revision c.self.inside.rows.entries c.self.invariant.by_revision) ∙ sym c.remove.ensures.value ∙ c.in-Some.is in
    record {
      by_revision = keyed-again (λ (r : Record). r.revision) _ _ e;
      rising = rw vs (rises-without (λ (r : Record). r.revision) 0 _ (values_of c.self.inside.rows.entries) c.self.invariant.rising);
      versioned = rw vs (versioned-filter _ (values_of c.self.inside.rows.entries) c.self.invariant.versioned);
      small = rw vs (all-filter (λ (r : Record). (r.version < 2 ^ 64) × (r.revision < 2 ^ 64)) _ (values_of c.self.inside.rows.entries) c.self.invariant.small);
      of_sizes = λ n. rw vs (taken _ _ _ _ _ (count-without (is_of n) c.args.revision 0 (values_of c.self.inside.rows.entries) c.in-Some.row c.self.invariant.rising there) (c.self.invariant.of_sizes n) (c.lower.ensures n));
      of_kept = λ n t v. rw vs (c.remove-3.ensures n t v ∙ ap (λ b. b && not (is_kept_as c.in-Some.row.collection c.args.revision c.in-Some.row.standing n t v)) (c.self.invariant.of_kept n t v)
          ∙ sym (kept-without n t v c.args.revision 0 (values_of c.self.inside.rows.entries) c.in-Some.row c.self.invariant.rising there));
      of_wants = λ h n. rw vs (taken _ _ _ _ _ (mentioned-without h n c.args.revision 0 (values_of c.self.inside.rows.entries) c.in-Some.row c.self.invariant.rising there) (c.self.invariant.of_wants h n) (rw c.as_slice.ensures at (c.take.ensures h n)));
      of_each = λ n u v. rw vs (c.remove-2.ensures n u v ∙ ap (λ b. b && not (is_place c.in-Some.row.collection c.in-Some.row.version c.args.revision n u v)) (c.self.invariant.of_each n u v)
          ∙ sym (place-without n u v c.args.revision 0 (values_of c.self.inside.rows.entries) c.in-Some.row c.self.invariant.rising there));
    }

pub returns : goal.returns
returns c = rw (← c.self.view_is) (values-are (λ (r : Record). r.revision) _ _ (dropped (λ (r : Record). r.revision) c.args.revision c.self.inside.rows.entries c.remove.new.self.entries c.self.invariant.by_revision c.self.invariant.rising c.remove.ensures.entries))
