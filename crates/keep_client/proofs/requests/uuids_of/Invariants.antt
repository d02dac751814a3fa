use Rattle.std.proofs.Common.{◌≡◌, take}
use Rattle.std.specs.Prelude.{map}
use Rattle.keep_client.proofs.requests.uuids_of.Given as goal

abbrev pub invariant-loop-server : goal.invariant-loop-server
invariant-loop-server l = l.uuids.items ≡ map (λ s. s.uuid) (take l.server-index l.servers)
