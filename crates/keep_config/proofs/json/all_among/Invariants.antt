use Rattle.std.proofs.Common.{◌≡◌, map}
use Rattle.serde_json.specs.View.{members_view}
use Rattle.keep_spec.specs.Json.{all_among}
use Rattle.keep_config.proofs.json.all_among.Given as goal

-- the members that are left decide
abbrev pub invariant-loop-name : goal.invariant-loop-name
invariant-loop-name l = all_among (map (λ n. n.now) l.names) (members_view l.name-iterator) ≡ all_among (map (λ n. n.now) l.names) (members_view l.members.entries)
