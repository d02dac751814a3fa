use Rattle.std.proofs.Common.{subst, sym, ◌∙◌, List, ℕ}
use Rattle.std.specs.Str.{IsUtf8}
use Rattle.keep_lists.proofs.Uuids.{uuid-text, ok-where}
use Rattle.keep_lists.proofs.writing.uuid_text.Goals as goal

pub unwrap-requires : goal.unwrap-requires
unwrap-requires c =
    let is = c.as_slice.ensures ∙ c.as_bytes.ensures.text in
    let text = subst (λ (v : List ℕ). IsUtf8 v) (sym is) (uuid-text c.args.uuid.now c.as_bytes.ensures.form) in
    ok-where c.from_utf8.result _ _ _ c.from_utf8.ensures.cases text
