use Rattle.std.proofs.Common.{◌≡◌, ◌≤◌, ◌+◌, drop}
use Rattle.std.specs.List.{prefix_len}
use Rattle.keep_spec.specs.Digest.{is_lower_digit}
use Rattle.keep_spec.proofs.digest.digest_prefix_len.Given as goal

abbrev pub invariant-loop-count : goal.invariant-loop-count
invariant-loop-count l = record {
  short : l.count ≤ 32;
  rest : l.count + prefix_len is_lower_digit (drop l.count l.text) ≡ prefix_len is_lower_digit l.text;
}
