use Rattle.std.proofs.Common.{◌≡◌, ◌||◌, ℕ, List, [], map, filter, is_some, take, refl, sym, ap, ◌∙◌, subst, if◌then◌else◌, nat_lt}
use Rattle.keep_spec.specs.Members.{numbers_from}
use Rattle.keep_event.specs.Plan.{holders, is_writable}
use Rattle.keep_plan.specs.Decided.{entry_or, first_size, size_of_first}
use Rattle.keep_plan.specs.Mentions.{holding_by, last_entry}
use Rattle.keep_plan.proofs.Decided.{holders-are, targets-are, size-is, some-wanted}
use Rattle.keep_plan.proofs.decide.decide.Goals as goal

pub returns-clause-decided : goal.returns-clause-decided
returns-clause-decided c =
    let cfg = c.args.config.now in
    let h = c.args.digest in
    let ms = c.args.mentions.now in
    let held = holding_by cfg h ms in
    let entries = c.note-want.new.entries in
    let are = c.note-want.ensures.entries ∙ ap (λ n. map (λ d. last_entry d ms) (numbers_from 0 n)) c.requires in
    let all : (l : List ℕ) → (if nat_lt 0 held.want then l else []) ≡ l = λ l. subst (λ n. (if nat_lt 0 n then l else []) ≡ l) c.note-want.ensures.want (some-wanted c.note-want.result l c.if-want-eq0.false) in
    let order = c.deref.ensures.value ∙ c.in_ok-order.ensures in
    let order_too = c.deref-2.ensures.value ∙ c.in_ok-order.ensures in
    let sources : c.in_ok-sources.sources.items ≡ holders held = c.in_ok-sources.ensures ∙ ap (filter (λ d. is_some (entry_or entries d))) order ∙ holders-are cfg h ms entries are in
    record {
      digest = refl;
      want = c.note-want.ensures.want;
      sources = sources ∙ sym (all (holders held));
      targets = c.truncate.ensures.items ∙ ap (take c.note-want.result) (c.in_ok-targets.ensures ∙ ap (filter (λ d. is_writable cfg d || is_some (entry_or entries d))) order_too) ∙ targets-are cfg h ms entries are c.note-want.result c.note-want.ensures.want;
      size = c.size_of_first.ensures ∙ ap (size_of_first entries) (c.deref-3.ensures.value ∙ sources) ∙ size-is cfg h ms entries are ∙ ap (first_size held) (sym (all (holders held)));
    }
