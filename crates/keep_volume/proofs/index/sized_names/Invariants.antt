use Rattle.std.proofs.Common.{◌≡◌, ◌≤◌, ◌*◌, ◌^◌, take, map}
use Rattle.keep_volume.specs.Index.{sized_held, total}
use Rattle.keep_volume.proofs.index.sized_names.Given as goal

abbrev pub invariant-loop-held : goal.invariant-loop-held
invariant-loop-held l = record {
  entries : l.index.entries ≡ map sized_held (take l.held-index l.names);
  used : l.used ≡ total l.index.entries;
  few : l.used ≤ l.held-index * 2 ^ 64;
}
