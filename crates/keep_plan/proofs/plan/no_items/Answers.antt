use Rattle.std.proofs.Common.{◌≡◌, ◌+◌, ℕ, ◌++◌, ◌∷◌, [], map, ap, sym, ◌∙◌, true, not, if◌then◌else◌}
use Rattle.std.specs.Result.{is_ok}
use Rattle.std.proofs.lemmas.List.{map-append}
use Rattle.keep_spec.specs.Members.{numbers_from}
use Rattle.keep_event.specs.declared.lists.Lists.{Lists}
use Rattle.keep_plan.proofs.Numbers.{one-more}
use Rattle.keep_plan.proofs.plan.no_items.Goals as goal

empty : ℕ → Lists
empty d = record { trash = []; pull = [] }

pub loop-device-preserved : goal.loop-device-preserved
unfolding empty
loop-device-preserved c =
    let d = c.loop-device._device in
    let ok : is_ok c.push.result ≡ true = c.is_err.ensures.negation ∙ ap not c.if-is_err.false in
    c.push.ensures.items
    ∙ ap (λ b. if b then c.loop-device.drafts.items ++ c.new.result ∷ [] else c.loop-device.drafts.items) ok
    ∙ ap (λ l. l ++ c.new.result ∷ []) c.loop-device.invariant
    ∙ ap (λ v. map empty (numbers_from 0 d) ++ v ∷ []) c.new.ensures
    ∙ sym (ap (map empty) (one-more 0 d) ∙ map-append empty (numbers_from 0 d) ((0 + d) ∷ []))
