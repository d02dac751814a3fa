use Rattle.std.proofs.Common.{◌≡◌, ◌∙◌, ◌≤◌, ap, sym, subst, ℕ, false, Some, Vec, Global, string_bytes}
use Rattle.std.proofs.lemmas.Str.{IsUtf8-string_bytes}
use Rattle.serde_json.specs.Data.{depth}
use Rattle.serde_json.specs.Read.{max_depth}
use Rattle.serde_json.specs.View.{view}
use Rattle.serde_json.specs.Written.{has_float, compact_text}
use Rattle.keep_event.specs.Lists.{lists_text, lists_of}
use Rattle.keep_lists.proofs.Again.{lists-shallow, text-again}
use Rattle.keep_lists.proofs.Floats.{no-floats}
use Rattle.keep_lists.proofs.writing.write_lists.Goals as goal

pub returns : goal.returns
unfolding lists_text
returns c =
    let config = c.args.config.now in
    let device = c.args.device in
    let lists = c.args.lists.now in
    let none : has_float (view c.in_ok-value.value) ≡ false = ap has_float c.in_ok-value.ensures ∙ no-floats config device lists in
    let bytes : c.into_bytes.result.items ≡ string_bytes c.in_ok-text.text = ap (λ (v : Vec ℕ Global). v.items) c.into_bytes.ensures.value in
    let shallow : depth (view c.in_ok-value.value) ≤ max_depth = subst (λ v. depth v ≤ max_depth) (sym c.in_ok-value.ensures) (lists-shallow config device lists) in
    let read = c.in_ok-text.ensures.reads_back shallow ∙ ap Some c.in_ok-value.ensures in
    record {
      text = c.of.ensures ∙ bytes ∙ c.in_ok-text.ensures.text none ∙ ap compact_text c.in_ok-value.ensures;
      read_again = λ w. ap (lists_of config device) (c.of.ensures ∙ bytes) ∙ text-again config device lists (string_bytes c.in_ok-text.text) w (IsUtf8-string_bytes c.in_ok-text.text) read;
    }
