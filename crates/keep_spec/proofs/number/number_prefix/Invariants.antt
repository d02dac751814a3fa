use Rattle.std.proofs.Common.{◌≡◌, ◌≤◌, ◌<◌, ◌+◌, ◌^◌, drop, take}
use Rattle.std.specs.Char.{is_ascii_digit}
use Rattle.std.specs.List.{prefix_len}
use Rattle.keep_spec.specs.Locator.{number}
use Rattle.keep_spec.proofs.number.number_prefix.Given as goal

abbrev pub invariant-loop-digits : goal.invariant-loop-digits
invariant-loop-digits l = record {
  short : l.digits ≤ 19;
  rest : l.digits + prefix_len is_ascii_digit (drop l.digits l.text) ≡ prefix_len is_ascii_digit l.text;
  value : l.value ≡ number (take l.digits l.text);
  bound : l.value < 10 ^ l.digits;
}
