use Rattle.std.proofs.Common.{◌≡◌, ◌+◌, not, drop}
use Rattle.std.specs.List.{prefix_len}
use Rattle.keep_spec.specs.SignedText.{ends_token}
use Rattle.keep_manifest.proofs.cut.token_len.Given as goal

abbrev pub invariant-loop-at : goal.invariant-loop-at
invariant-loop-at l = l.at + prefix_len (λ c. not (ends_token c)) (drop l.at l.text) ≡ prefix_len (λ c. not (ends_token c)) l.text
