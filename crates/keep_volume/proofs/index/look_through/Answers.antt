use Rattle.std.proofs.Common.{◌≡◌, ap, sym, ◌∙◌, ◌+◌, drop, None}
use Rattle.std.specs.Prelude.{is_some}
use Rattle.keep_event.specs.Store.{above}
use Rattle.keep_volume.specs.Buckets.{entries_above}
use Rattle.keep_volume.proofs.Buckets.{above-step, none-above}
use Rattle.keep_volume.specs.declared.index.Looked.{Looked}
use Rattle.keep_volume.specs.Looks.{look}
use Rattle.keep_volume.proofs.Looks.{look-stops, look-goes, whole-found, whole-passed}
use Rattle.keep_volume.proofs.index.look_through.Goals as goal

pub loop-bucket-init : goal.loop-bucket-init
loop-bucket-init c = ap (look c.args.reading c.args.passed) (ap (λ v. entries_above v c.above-bucket-items.result.now) (sym c.as_ref.ensures.value) ∙ c.above-bucket-items.ensures.rest ∙ ap (λ v. above v c.args.names.now.entries) c.as_ref.ensures.value)

pub loop-bucket-preserved : goal.loop-bucket-preserved
loop-bucket-preserved c =
    let reading = c.args.reading in
    let after = c.args.passed.up_to in
    let came = c.loop-bucket.came in
    let bs = c.above-bucket-items.result.now in
    let i = c.loop-bucket.bucket-index in
    let l = c.bucket-item.result in
    let rest = entries_above after (drop (i + 1) bs) in
    let is : c.look_in-looked.result ≡ look reading came (above after l.entries) = c.look_in-looked.ensures ∙ ap (λ v. look reading came (above v l.entries)) c.as_ref-in-loop-bucket.ensures.value in
    ap (λ (k : Looked). look reading k.passed rest) is
    ∙ sym (look-goes reading came (above after l.entries) rest (ap (λ (k : Looked). is_some k.found) (sym is) ∙ sym c.if-is_some.ensures))
    ∙ ap (look reading came) (sym (above-step after bs i l c.loop-bucket-test.true c.bucket-item.is)) ∙ c.loop-bucket.invariant

-- the look stopped in this bucket
stopped : (c : goal.Then-is_some) → c.look_in-looked.result ≡ look c.args.reading c.args.passed (above c.args.passed.up_to c.args.names.now.entries)
stopped c =
    let reading = c.args.reading in
    let after = c.args.passed.up_to in
    let came = c.loop-bucket.came in
    let bs = c.above-bucket-items.result.now in
    let i = c.loop-bucket.bucket-index in
    let l = c.bucket-item.result in
    let rest = entries_above after (drop (i + 1) bs) in
    let is : c.look_in-looked.result ≡ look reading came (above after l.entries) = c.look_in-looked.ensures ∙ ap (λ v. look reading came (above v l.entries)) c.as_ref-in-loop-bucket.ensures.value in
    is ∙ sym (look-stops reading came (above after l.entries) rest (ap (λ (k : Looked). is_some k.found) (sym is) ∙ sym c.if-is_some.ensures))
    ∙ ap (look reading came) (sym (above-step after bs i l c.loop-bucket-test.true c.bucket-item.is)) ∙ c.loop-bucket.invariant

pub returns-then-is_some-clause-found : goal.returns-then-is_some-clause-found
returns-then-is_some-clause-found c = whole-found c.args.reading c.args.passed c.args.names.now.entries c.requires.waiting c.requires.passed c.look_in-looked.result (stopped c)

pub returns-then-is_some-clause-passed : goal.returns-then-is_some-clause-passed
returns-then-is_some-clause-passed c = whole-passed c.args.reading c.args.passed c.args.names.now.entries c.requires.waiting c.requires.passed c.look_in-looked.result (stopped c) c.above-bucket-items.ensures.ascending

-- the look came to the end
nothing : goal.After-loop-bucket → Looked
nothing c = record { found = None; passed = c.loop-bucket.came }

ended : (c : goal.After-loop-bucket) → nothing c ≡ look c.args.reading c.args.passed (above c.args.passed.up_to c.args.names.now.entries)
unfolding nothing
ended c = ap (look c.args.reading c.loop-bucket.came) (sym (none-above c.args.passed.up_to c.above-bucket-items.result.now c.loop-bucket.bucket-index c.loop-bucket-test.false)) ∙ c.loop-bucket.invariant

pub returns-clause-found : goal.returns-clause-found
unfolding nothing
returns-clause-found c = whole-found c.args.reading c.args.passed c.args.names.now.entries c.requires.waiting c.requires.passed (nothing c) (ended c)

pub returns-clause-passed : goal.returns-clause-passed
unfolding nothing
returns-clause-passed c = whole-passed c.args.reading c.args.passed c.args.names.now.entries c.requires.waiting c.requires.passed (nothing c) (ended c) c.above-bucket-items.ensures.ascending
