use Rattle.std.proofs.Common.{◌≡◌, ◌<◌, ◌^◌, ◌∙◌, ap, not, is_ok}
use Rattle.std.specs.Map.{values_of}
use Rattle.keep_event.specs.Table.{is_of}
use Rattle.keep_event.specs.declared.table.Record.{Record}
use Rattle.keep_table.proofs.Counts.{count-push}
use Rattle.keep_table.proofs.Due.{kept-pushed, kept-same, kept-more}
use Rattle.keep_table.proofs.Keyed.{added, keyed-again, values-are, rises-with}
use Rattle.keep_table.proofs.Later.{versioned-push}
use Rattle.keep_table.proofs.Orderly.{all-push}
use Rattle.keep_table.proofs.Triples.{place-pushed, place-undone}
use Rattle.keep_table.proofs.Mentions.{mentioned-push, counted-more, counted-same, counted-back}
use Rattle.keep_table.proofs.records.Records.add.Goals as goal

pub invariant_of-self : goal.invariant_of-self
invariant_of-self c =
    record {
      by_revision = c.self.invariant.by_revision;
      rising = c.self.invariant.rising;
      versioned = c.self.invariant.versioned;
      small = c.self.invariant.small;
      of_each = λ n u v. kept-same _ _ (is_ok c.add.result) _ _ (c.add.ensures.added n u v) (c.is_err.ensures.negation ∙ ap not c.if-is_err.true) (c.self.invariant.of_each n u v);
      of_sizes = c.self.invariant.of_sizes;
      of_kept = c.self.invariant.of_kept;
      of_wants = c.self.invariant.of_wants;
    }

pub invariant_of-self-then-is_err-2 : goal.invariant_of-self-then-is_err-2
invariant_of-self-then-is_err-2 c =
    let newest = rw (← c.self.view_is) at c.requires.newest in
    record {
      by_revision = c.self.invariant.by_revision;
      rising = c.self.invariant.rising;
      versioned = c.self.invariant.versioned;
      small = c.self.invariant.small;
      of_each = λ n u v. place-undone n u v c.args.row.collection c.args.row.version c.args.row.revision _ _ _ (is_ok c.add.result) (values_of c.self.inside.rows.entries) newest (c.add.ensures.added n u v) (c.remove.ensures n u v) (c.self.invariant.of_each n u v);
      of_sizes = λ n. counted-same _ _ _ (is_ok c.raise.result) _ (c.raise.ensures n) (c.is_err-2.ensures.negation ∙ ap not c.if-is_err-2.true) (c.self.invariant.of_sizes n);
      of_kept = c.self.invariant.of_kept;
      of_wants = c.self.invariant.of_wants;
    }

pub invariant_of-self-then-is_err-3 : goal.invariant_of-self-then-is_err-3
invariant_of-self-then-is_err-3 c =
    let newest = rw (← c.self.view_is) at c.requires.newest in
    record {
      by_revision = c.self.invariant.by_revision;
      rising = c.self.invariant.rising;
      versioned = c.self.invariant.versioned;
      small = c.self.invariant.small;
      of_each = λ n u v. place-undone n u v c.args.row.collection c.args.row.version c.args.row.revision _ _ _ (is_ok c.add.result) (values_of c.self.inside.rows.entries) newest (c.add.ensures.added n u v) (c.remove-then-is_err-3.ensures n u v) (c.self.invariant.of_each n u v);
      of_sizes = λ n. counted-back _ _ _ _ (is_ok c.raise.result) _ (c.raise.ensures n) (c.is_err-2.ensures.negation ∙ ap not c.if-is_err-2.false) (c.lower.ensures n) (c.self.invariant.of_sizes n);
      of_kept = c.self.invariant.of_kept;
      of_wants = λ h n. counted-same _ _ _ (is_ok c.add-2.result) _ (c.add-2.ensures h n) (c.is_err-3.ensures.negation ∙ ap not c.if-is_err-3.true) (c.self.invariant.of_wants h n);
    }

pub invariant_of-self-in_default : goal.invariant_of-self-in_default
invariant_of-self-in_default c =
    let newest = rw (← c.self.view_is) at c.requires.newest in
    let later = rw (← c.self.view_is) at c.requires.later in
    let e = added (λ (r : Record). r.revision) c.args.row c.self.inside.rows.entries c.insert.new.self.entries c.self.invariant.by_revision newest c.in_default.ensures.entries in
    let vs = values-are (λ (r : Record). r.revision) _ _ e in
    record {
      by_revision = keyed-again (λ (r : Record). r.revision) _ _ e;
      rising = rw vs (rises-with (λ (r : Record). r.revision) 0 c.args.row (values_of c.self.inside.rows.entries) c.requires.positive newest c.self.invariant.rising);
      versioned = rw vs (versioned-push (values_of c.self.inside.rows.entries) c.args.row c.self.invariant.versioned later);
      small = rw vs (all-push (λ (r : Record). (r.version < 2 ^ 64) × (r.revision < 2 ^ 64)) (values_of c.self.inside.rows.entries) c.args.row c.self.invariant.small c.add.ensures.bounds);
      of_each = λ n u v. rw (vs, place-pushed n u v (values_of c.self.inside.rows.entries) c.args.row) (kept-more _ _ (is_ok c.add.result) _ _ (c.add.ensures.added n u v) (c.is_err.ensures.negation ∙ ap not c.if-is_err.false) (c.self.invariant.of_each n u v));
      of_sizes = λ n. rw (vs, count-push (is_of n) (values_of c.self.inside.rows.entries) c.args.row)
          (counted-more _ _ _ (is_ok c.raise.result) _ (c.raise.ensures n) (c.is_err-2.ensures.negation ∙ ap not c.if-is_err-2.false) (c.self.invariant.of_sizes n));
      of_kept = λ n t v. rw (vs, kept-pushed n t v (values_of c.self.inside.rows.entries) c.args.row c.requires.current) (c.self.invariant.of_kept n t v);
      of_wants = λ h n. rw (vs, mentioned-push h n (values_of c.self.inside.rows.entries) c.args.row)
          (counted-more _ _ _ (is_ok c.add-2.result) _ (rw c.as_slice.ensures at (c.add-2.ensures h n)) (c.is_err-3.ensures.negation ∙ ap not c.if-is_err-3.false) (c.self.invariant.of_wants h n));
    }

pub returns-in_default : goal.returns-in_default
returns-in_default c =
    let newest = rw (← c.self.view_is) at c.requires.newest in
    rw (← c.self.view_is) (values-are (λ (r : Record). r.revision) _ _ (added (λ (r : Record). r.revision) c.args.row c.self.inside.rows.entries c.insert.new.self.entries c.self.invariant.by_revision newest c.in_default.ensures.entries))

pub invariant_of-self-2 : goal.invariant_of-self-2
invariant_of-self-2 c =
    let newest = rw (← c.self.view_is) at c.requires.newest in
    let same = c.in-Err.ensures.err in
    let row : c.in-Err.refused.value.1 ≡ c.args.row = ap (λ p. p.1) c.in-Err.ensures.value_returned in
    record {
      by_revision = rw same c.self.invariant.by_revision;
      rising = rw same c.self.invariant.rising;
      versioned = rw same c.self.invariant.versioned;
      small = rw same c.self.invariant.small;
      of_each = λ n u v. rw same (place-undone n u v c.args.row.collection c.args.row.version c.args.row.revision _ _ _ (is_ok c.add.result) (values_of c.self.inside.rows.entries) newest (c.add.ensures.added n u v) (c.remove-2.ensures n u v) (c.self.invariant.of_each n u v));
      of_sizes = λ n. rw same (counted-back _ _ _ _ (is_ok c.raise.result) _ (c.raise.ensures n) (c.is_err-2.ensures.negation ∙ ap not c.if-is_err-2.false) (c.lower-2.ensures n) (c.self.invariant.of_sizes n));
      of_kept = λ n t v. rw same (c.self.invariant.of_kept n t v);
      of_wants = λ h n. rw same (counted-back _ _ _ _ (is_ok c.add-2.result) _ (rw c.as_slice.ensures at (c.add-2.ensures h n)) (c.is_err-3.ensures.negation ∙ ap not c.if-is_err-3.false) (rw (c.as_slice-2.ensures, row) at (c.take.ensures h n)) (c.self.invariant.of_wants h n));
    }
