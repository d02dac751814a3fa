use Rattle.std.proofs.Common.{◌≡◌, Some, ap, ◌∙◌, arith}
use Rattle.std.specs.Prelude.{unwrap_or}
use Rattle.keep_table.specs.Wants.{counted}
use Rattle.keep_table.proofs.Mentions.{raised, still-counts, some-more}
use Rattle.keep_table.proofs.wants.Wants.raise.Goals as goal

pub invariant_of-self-2 : goal.invariant_of-self-2
invariant_of-self-2 c =
    let more = c.in-Some.ensures.1 in
    still-counts c.to_md5.result c.args.want c.self.inside.counts.entries c.insert.new.self.entries (Some c.in-Some.count) (omega arith) (some-more c.in-Some.count (omega arith)) c.in-Ok.ensures.updates.0 c.self.invariant

pub returns : goal.returns
returns c = λ h n.
    let more = c.in-Some.ensures.1 in
    let before : c.unwrap_or-before.result ≡ counted c.self.inside.counts.entries c.to_md5.result c.args.want = c.unwrap_or-before.ensures ∙ ap (λ o. unwrap_or o 0) (c.copied.ensures ∙ c.get.ensures.value) in
    rw (← c.to_md5.ensures, ← c.self.view_is) (raised h n c.to_md5.result c.args.want c.self.inside.counts.entries c.insert.new.self.entries c.in-Some.count (omega arith) c.in-Ok.ensures.updates.0)
