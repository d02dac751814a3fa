use Rattle.std.proofs.Common.{[], List, ℕ, sym, ◌∙◌, subst}
use Rattle.std.proofs.lemmas.List.{append-nil}
use Rattle.sha1.specs.Sha1.{Holds}
use Rattle.keep_spec.specs.Sign.{padded_key}
use Rattle.keep_sign.proofs.mac.MacState.of_short.Goals as goal

pub returns : goal.returns
returns c =
    let key = c.args.key.now in
    let inner : List ℕ → Type 0 = λ m. Holds c.update.new.self m in
    let outer : List ℕ → Type 0 = λ m. Holds c.update-2.new.self m in
    record {
      inner = subst inner (c.padded.ensures ∙ sym (append-nil (padded_key key 0x36))) (c.update.ensures [] c.new-inner.ensures);
      outer = subst outer c.padded-2.ensures (c.update-2.ensures [] c.new-outer.ensures);
    }
