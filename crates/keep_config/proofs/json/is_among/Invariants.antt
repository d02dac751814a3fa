use Rattle.std.proofs.Common.{◌≡◌, map, drop, bytes_eq}
use Rattle.std.specs.List.{list_any}
use Rattle.keep_config.proofs.json.is_among.Given as goal

-- the names that are left decide
abbrev pub invariant-loop-name : goal.invariant-loop-name
invariant-loop-name l = list_any (bytes_eq l.text) (map (λ n. n.now) (drop l.name-index l.names)) ≡ list_any (bytes_eq l.text) (map (λ n. n.now) l.names)
