use Rattle.std.proofs.Common.{◌≡◌, ◌-◌, Some, None, sym, ap, ◌∙◌, arith, refl}
use Rattle.std.specs.Prelude.{unwrap_or}
use Rattle.std.specs.Map.{lookup}
use Rattle.std.specs.BTreeMap.{is_at}
use Rattle.std.specs.Option.{option_copied_mut}
use Rattle.keep_table.specs.Wants.{counted, want_cmp}
use Rattle.keep_table.proofs.Mentions.{lowered, still-counts, not-zero, some-more, emptied, is-some}
use Rattle.keep_table.proofs.wants.Wants.lower.Goals as goal

pub overflow_sub-count : goal.overflow_sub-count
overflow_sub-count c =
    let read : option_copied_mut c.get_mut.result ≡ Some c.in-Some.count.now = rw c.in-Some.is refl in
    not-zero c.in-Some.count.now (lookup (is_at (want_cmp (c.to_md5.result, c.args.want))) c.self.inside.counts.entries) (sym c.get_mut.ensures.value ∙ read) (c.self.invariant.positive c.to_md5.result c.args.want)

pub invariant_of-self-then-count-eq0 : goal.invariant_of-self-then-count-eq0
invariant_of-self-then-count-eq0 c =
    let read : option_copied_mut c.get_mut.result ≡ Some c.in-Some.count.now = rw c.in-Some.is refl in
    let written = (c.get_mut.follows.holds (c.in-Some.count.now - 1)).3 (is-some _ _ (sym c.get_mut.ensures.value ∙ read)) in
    still-counts c.to_md5.result c.args.want c.self.inside.counts.entries c.remove.new.self.entries None (omega arith) (λ e. absurd (cc)) (emptied c.to_md5.result c.args.want c.self.inside.counts.entries (c.get_mut.follows.lender (c.in-Some.count.now - 1)).entries c.remove.new.self.entries (Some (c.in-Some.count.now - 1)) c.remove.ensures.updates.0 written.0) c.self.invariant

pub invariant_of-self-else-count-eq0 : goal.invariant_of-self-else-count-eq0
invariant_of-self-else-count-eq0 c =
    let read : option_copied_mut c.get_mut.result ≡ Some c.in-Some.count.now = rw c.in-Some.is refl in
    let written = (c.get_mut.follows.holds (c.in-Some.count.now - 1)).3 (is-some _ _ (sym c.get_mut.ensures.value ∙ read)) in
    still-counts c.to_md5.result c.args.want c.self.inside.counts.entries (c.get_mut.follows.lender (c.in-Some.count.now - 1)).entries (Some (c.in-Some.count.now - 1)) (omega arith) (some-more (c.in-Some.count.now - 1) (omega (arith, c.if-count-eq0.false))) written.0 c.self.invariant

pub returns-then-count-eq0 : goal.returns-then-count-eq0
returns-then-count-eq0 c = λ h n.
    let read : option_copied_mut c.get_mut.result ≡ Some c.in-Some.count.now = rw c.in-Some.is refl in
    let there : lookup (is_at (want_cmp (c.to_md5.result, c.args.want))) c.self.inside.counts.entries ≡ Some c.in-Some.count.now = sym c.get_mut.ensures.value ∙ read in
    let written = (c.get_mut.follows.holds (c.in-Some.count.now - 1)).3 (is-some _ _ there) in
    let count : counted c.self.inside.counts.entries c.to_md5.result c.args.want ≡ c.in-Some.count.now = ap (λ o. unwrap_or o 0) there in
    let least = not-zero c.in-Some.count.now _ there (c.self.invariant.positive c.to_md5.result c.args.want) in
    rw (← c.to_md5.ensures, ← c.self.view_is) (lowered h n c.to_md5.result c.args.want c.self.inside.counts.entries c.remove.new.self.entries None (omega arith) (emptied c.to_md5.result c.args.want c.self.inside.counts.entries (c.get_mut.follows.lender (c.in-Some.count.now - 1)).entries c.remove.new.self.entries (Some (c.in-Some.count.now - 1)) c.remove.ensures.updates.0 written.0))

pub returns-else-count-eq0 : goal.returns-else-count-eq0
returns-else-count-eq0 c = λ h n.
    let read : option_copied_mut c.get_mut.result ≡ Some c.in-Some.count.now = rw c.in-Some.is refl in
    let there : lookup (is_at (want_cmp (c.to_md5.result, c.args.want))) c.self.inside.counts.entries ≡ Some c.in-Some.count.now = sym c.get_mut.ensures.value ∙ read in
    let written = (c.get_mut.follows.holds (c.in-Some.count.now - 1)).3 (is-some _ _ there) in
    let count : counted c.self.inside.counts.entries c.to_md5.result c.args.want ≡ c.in-Some.count.now = ap (λ o. unwrap_or o 0) there in
    let least = not-zero c.in-Some.count.now _ there (c.self.invariant.positive c.to_md5.result c.args.want) in
    rw (← c.to_md5.ensures, ← c.self.view_is) (lowered h n c.to_md5.result c.args.want c.self.inside.counts.entries (c.get_mut.follows.lender (c.in-Some.count.now - 1)).entries (Some (c.in-Some.count.now - 1)) (omega arith) written.0)
