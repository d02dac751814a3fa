use Rattle.std.proofs.Common.{◌≡◌, ◌+◌, ◌-◌, ◌++◌, ◌∷◌, [], suc, List, length, take, drop, Some, None, Result, Ok, Err, sym, ◌∙◌, ap, arith, true, not, if◌then◌else◌, ◌==◌}
use Rattle.std.specs.List.{position}
use Rattle.std.specs.Option.{option_copied}
use Rattle.std.specs.Result.{is_ok}
use Rattle.std.proofs.lemmas.List.{append-nil, drop-drop, length-drop}
use Rattle.keep_spec.specs.Json.{option_filter}
use Rattle.keep_spec.specs.Lines.{cut}
use Rattle.keep_event.specs.Index.{index_of, is_above, entry_of_line, Fault}
use Rattle.keep_event.specs.declared.lists.Entry.{Entry}
use Rattle.keep_lists.specs.Answers.{IsEndRead, IsIndexRead, ended_at}
use Rattle.keep_lists.specs.declared.error.IndexError.{IndexError}
use Rattle.keep_lists.specs.declared.error.IndexError.TheVariants.{BadIndex, CutIndex, NoMemory}
use Rattle.keep_lists.proofs.Bad.{start, turn, result_from, last_entry, with_entries, no-line, bad-first, empty-first}
use Rattle.keep_lists.proofs.index.read_index.Goals as goal

err-read : (s t : Result (List Entry) Fault) (e : IndexError) → ((f : Fault) → s ≡ Err f → t ≡ Err f) → IsEndRead s (Err e) → IsIndexRead t (Err e)
err-read s t (BadIndex at) h is = h _ is
err-read s t CutIndex h is = h _ is
err-read s t NoMemory h is = absurd is

pub loop-end-init : goal.loop-end-init
loop-end-init c = record { within = omega arith; said = start c.args.text.now c.new-entries.result.items c.new-entries.ensures.items }

pub returns-in-Ok : goal.returns-in-Ok
returns-in-Ok c =
    let rest = c.loop-end.rest.now in
    let es = c.loop-end.entries.items in
    let at = length c.args.text.now - length rest in
    let first : position (λ b. b == 10) rest ≡ Some 0 = sym c.in-Some.ensures ∙ ap Some c.if-end-eq0.true in
    let left : c.after_first-following.result.now ≡ drop 1 rest = c.after_first-following.ensures ∙ ap (drop 1) (c.split_at.ensures.back ∙ ap (λ k. drop k rest) c.if-end-eq0.true) in
    sym c.loop-end.invariant.said
    ∙ ap (with_entries es) (empty-first rest at (last_entry es) first ∙ ap (λ v. ended_at (at + 1) (cut v)) (sym left) ∙ c.in-Ok.ensures)
    ∙ ap Ok (append-nil es)

pub returns-in-Err : goal.returns-in-Err
returns-in-Err c =
    let rest = c.loop-end.rest.now in
    let es = c.loop-end.entries.items in
    let at = length c.args.text.now - length rest in
    let first : position (λ b. b == 10) rest ≡ Some 0 = sym c.in-Some.ensures ∙ ap Some c.if-end-eq0.true in
    let left : c.after_first-following.result.now ≡ drop 1 rest = c.after_first-following.ensures ∙ ap (drop 1) (c.split_at.ensures.back ∙ ap (λ k. drop k rest) c.if-end-eq0.true) in
    err-read (ended_at (at + 1) (cut c.after_first-following.result.now)) (index_of c.args.text.now) c.in-Err.error
    (λ f q. sym c.loop-end.invariant.said ∙ ap (with_entries es) (empty-first rest at (last_entry es) first ∙ ap (λ v. ended_at (at + 1) (cut v)) (sym left) ∙ q))
    c.in-Err.ensures

pub returns-in-None : goal.returns-in-None
returns-in-None c =
    let rest = c.loop-end.rest.now in
    let es = c.loop-end.entries.items in
    let at = length c.args.text.now - length rest in
    let n = c.in-Some.end in
    let before : option_copied c.last.result ≡ last_entry es = c.last.ensures.value ∙ ap last_entry c.deref.ensures.value in
    let none : option_filter (is_above (last_entry es)) (entry_of_line (take n rest)) ≡ None =
    sym (c.in-None.ensures ∙ ap (λ o. option_filter (is_above o) (entry_of_line c.split_at.result.0.now)) before ∙ ap (λ v. option_filter (is_above (last_entry es)) (entry_of_line v)) c.split_at.ensures.front) in
    sym c.loop-end.invariant.said ∙ ap (with_entries es) (bad-first rest n at (last_entry es) (sym c.in-Some.ensures) c.if-end-eq0.false none)

pub loop-end-preserved : goal.loop-end-preserved
loop-end-preserved c =
    let text = c.args.text.now in
    let rest = c.loop-end.rest.now in
    let es = c.loop-end.entries.items in
    let n = c.in-Some.end in
    let y = c.in-Some-entry_above.entry in
    let before : option_copied c.last.result ≡ last_entry es = c.last.ensures.value ∙ ap last_entry c.deref.ensures.value in
    let is : option_filter (is_above (last_entry es)) (entry_of_line (take n rest)) ≡ Some y =
    sym (c.in-Some-entry_above.ensures ∙ ap (λ o. option_filter (is_above o) (entry_of_line c.split_at.result.0.now)) before ∙ ap (λ v. option_filter (is_above (last_entry es)) (entry_of_line v)) c.split_at.ensures.front) in
    let ok : is_ok c.push.result ≡ true = c.is_err.ensures.negation ∙ ap not c.if-is_err.false in
    let pushed : c.push.new.self.items ≡ es ++ y ∷ [] = c.push.ensures.items ∙ ap (λ b. if b then es ++ y ∷ [] else es) ok in
    let next : n + 1 ≡ suc n = omega arith in
    let left : c.after_first-following.result.now ≡ drop (suc n) rest = c.after_first-following.ensures ∙ ap (drop 1) c.split_at.ensures.back ∙ drop-drop 1 n rest ∙ ap (λ k. drop k rest) next in
    let within = c.loop-end.invariant.within in
    record {
      within = omega (arith, within, ap length left, length-drop (suc n) rest);
      said =
          ap (λ v. with_entries v (result_from (length text - length c.after_first-following.result.now) (last_entry v) (cut c.after_first-following.result.now))) pushed
          ∙ ap (λ v. with_entries (es ++ y ∷ []) (result_from (length text - length v) (last_entry (es ++ y ∷ [])) (cut v))) left
          ∙ turn text rest es n y within (sym c.in-Some.ensures) c.if-end-eq0.false is c.loop-end.invariant.said;
    }

pub returns : goal.returns
returns c =
    let rest = c.loop-end.rest.now in
    let es = c.loop-end.entries.items in
    sym c.loop-end.invariant.said ∙ ap (with_entries es) (no-line rest (length c.args.text.now - length rest) (last_entry es) (sym c.in_default.ensures))
