use Rattle.keep_config.proofs.Passing.{field-passes}
use Rattle.keep_config.proofs.fields.parse_fields.Goals as goal

pub invariant_of-result : goal.invariant_of-result
invariant_of-result c = record {
  cluster = field-passes _ _ _ _ c.in_ok-cluster.ensures;
  ttl = field-passes _ _ _ _ c.in_ok-ttl.ensures;
  skew = field-passes _ _ _ _ c.in_ok-skew.ensures;
  secret = field-passes _ _ _ _ c.in_ok-secret.ensures;
  system_token = field-passes _ _ _ _ c.in_ok-system_token.ensures;
  tokens = field-passes _ _ _ _ c.in_ok-tokens.ensures;
  devices = field-passes _ _ _ _ c.in_ok-devices.ensures;
  servers = field-passes _ _ _ _ c.in_ok-servers.ensures;
  mounts = field-passes _ _ _ _ c.in_ok-mounts.ensures;
  versions = field-passes _ _ _ _ c.in_ok-versions.ensures;
  trash_life = field-passes _ _ _ _ c.in_ok-trash_life.ensures;
  index_digits = field-passes _ _ _ _ c.in_ok-index_digits.ensures;
  scan_limit = field-passes _ _ _ _ c.in_ok-scan_limit.ensures;
}
