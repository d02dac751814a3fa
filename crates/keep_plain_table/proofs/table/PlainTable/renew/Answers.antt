use Rattle.std.proofs.Common.{◌≡◌, ◌≤◌, ◌+◌, ◌++◌, ◌∷◌, [], ap, arith, rules, map, filter, not}
use Rattle.keep_event.specs.Table as machine
use Rattle.keep_event.specs.Table.{is_current_of, is_due_of, superseded}
use Rattle.keep_plain_table.proofs.Versions.{room-revisions, version-found, versions-pushed, versions-filtered, versions-superseded}
use Rattle.keep_plain_table.proofs.table.PlainTable.renew.Goals as goal

pub overflow_add-version : goal.overflow_add-version
overflow_add-version c =
    let here : c.deref.result.now ≡ c.self.inside.records.items = search rules in
    let found : c.current_version-version.result ≤ c.self.inside.revisions =
    rw (c.current_version-version.ensures, here) (version-found c.self.inside.revisions (is_current_of c.args.collection) c.self.inside.records.items c.self.invariant) in
    let room = room-revisions c.args.self.now c.requires.room in
    let revisions = ap (λ v. v.revisions) c.self.view_is in
    omega arith

pub invariant_of-self-2 : goal.invariant_of-self-2
invariant_of-self-2 c =
    let n = c.self.inside.revisions in
    let here : c.deref.result.now ≡ c.self.inside.records.items = search rules in
    let found : c.current_version-version.result ≤ n =
    rw (c.current_version-version.ensures, here) (version-found n (is_current_of c.args.collection) c.self.inside.records.items c.self.invariant) in
    let after : c.renew.new.records.items ≡ map (superseded c.args.collection c.kept_until-standing.result) (filter (λ r. not (is_due_of c.args.reading c.args.collection r)) c.self.inside.records.items) ++ machine.new_record c.args.collection (c.current_version-version.result + 1) (n + 1) c.args.made ∷ [] = search rules in
    rw after
    (versions-pushed n _ _ (omega arith) (versions-superseded n c.args.collection _ _ (versions-filtered n (λ r. not (is_due_of c.args.reading c.args.collection r)) c.self.inside.records.items c.self.invariant)))
