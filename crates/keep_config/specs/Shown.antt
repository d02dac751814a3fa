-- A configuration as contracts see it.
use Rattle.keep_spec.specs.Config.{Configuration}
use Rattle.keep_config.specs.declared.config.Config.TheInside.{Inside}

abbrev pub shown : Inside → Configuration
shown c = record {
  cluster = c.cluster;
  ttl = c.ttl;
  skew = c.skew;
  secret = c.secret;
  system_token = c.system_token;
  tokens = c.tokens;
  devices = c.devices;
  servers = c.servers;
  mounts = c.mounts;
  versions = c.versions;
  trash_life = c.trash_life;
  index_digits = c.index_digits;
  scan_limit = c.scan_limit;
}

abbrev pub inside : Configuration → Inside
inside c = record {
  cluster = c.cluster;
  ttl = c.ttl;
  skew = c.skew;
  secret = c.secret;
  system_token = c.system_token;
  tokens = c.tokens;
  devices = c.devices;
  servers = c.servers;
  mounts = c.mounts;
  versions = c.versions;
  trash_life = c.trash_life;
  index_digits = c.index_digits;
  scan_limit = c.scan_limit;
}
