use Rattle.std.proofs.Common.{◌≡◌, ◌≤◌, take, count_by}
use Rattle.keep_event.specs.Table.{is_gone}
use Rattle.keep_plain_table.proofs.collections.count_gone.Given as goal

abbrev pub invariant-loop-collection : goal.invariant-loop-collection
invariant-loop-collection l = record {
  count : l.gone ≡ count_by (is_gone l.reading) (take l.collection-index l.collections);
  few : l.gone ≤ l.collection-index;
}
