use Rattle.std.proofs.Common.{◌≡◌, ◌<◌, not, sym, ap, ◌∙◌, true, false, count_by, arith, refl}
use Rattle.std.specs.List.{list_any}
use Rattle.std.proofs.lemmas.Bool.{both_ways}
use Rattle.keep_event.specs.Table.{is_due_of}
use Rattle.keep_table.specs.Contents.{is_version_of}
use Rattle.keep_table.proofs.Held.{all-held, held-fewer, too-many, not-too-many}
use Rattle.keep_table.proofs.changes.too_many.Goals as goal
use Rattle.keep_table.proofs.changes.too_many.Goals.{else-held-versions-via-then-held-versions+else-is_none, else-held-versions-via-else-held-versions}

pub returns-then-is_none : goal.returns-then-is_none
returns-then-is_none c =
    let none : list_any (is_due_of c.args.reading c.args.number) c.args.records.now ≡ false = sym c.first_due.ensures.some ∙ c.is_none.ensures ∙ ap not c.if-is_none.true in
    too-many _ c.args.versions c.versions_of-held.result (c.versions_of-held.ensures ∙ all-held c.args.reading c.args.number c.args.records.now none) c.if-held-versions.true

pub returns-else-held-versions : goal.returns-else-held-versions
returns-else-held-versions c =
    let most = c.requires.few c.args.number in
    elim c.else-held-versions.branch [
      | else-held-versions-via-then-held-versions+else-is_none w ↦
          (let some : list_any (is_due_of c.args.reading c.args.number) c.args.records.now ≡ true = sym w.first_due.ensures.some ∙ w.is_none.ensures ∙ ap not w.if-is_none.false in
          not-too-many _ c.args.versions (held-fewer c.args.reading c.args.number c.args.versions c.args.records.now true some most (λ e. absurd (both_ways true e refl))))
      | else-held-versions-via-else-held-versions w ↦
          (let fewer : count_by (is_version_of c.args.number) c.args.records.now < c.args.versions = rw (← c.versions_of-held.ensures) (omega (arith, w.if-held-versions.false)) in
          not-too-many _ c.args.versions (held-fewer c.args.reading c.args.number c.args.versions c.args.records.now _ refl most (λ e. fewer)))
    ]
