use Rattle.std.proofs.Common.{arith, ◌≡◌, [], length, drop, ap}
use Rattle.std.proofs.lemmas.Bool.Decides.{nat_tests}
use Rattle.std.proofs.lemmas.Grind.{common_steps}
use Rattle.std.proofs.lemmas.List.{length-drop}
use Rattle.keep_volume.proofs.Sizes.{empty-told}
use Rattle.keep_volume.proofs.Machine.{no-items}
use Rattle.keep_volume.proofs.volume.Volume.is_empty.Goals as goal

pub returns-clause-initial : goal.returns-clause-initial
returns-clause-initial g c =
    let index : c.self.inside.index.entries ≡ [] = no-items _ (grind (arith, nat_tests, common_steps)) in
    let trash : drop c.self.inside.trash_done c.self.inside.trash.items ≡ [] = no-items _ (grind (arith, nat_tests, common_steps, length-drop c.self.inside.trash_done c.self.inside.trash.items)) in
    rw (← c.self.view_is) (empty-told (g.S.Store.held c.self.inside.store) c.self.inside.index.entries c.self.inside.round _ _ _ c.self.invariant.remembers
    (λ e. (omega arith, index, trash, no-items _ (grind (arith, nat_tests, common_steps))))
    (λ i r t p. grind (arith, nat_tests, common_steps, ap length p)))

pub returns-then-self-len-clause-initial : goal.returns-then-self-len-clause-initial
returns-then-self-len-clause-initial g c = rw (← c.self.view_is) (empty-told (g.S.Store.held c.self.inside.store) c.self.inside.index.entries c.self.inside.round _ _ _ c.self.invariant.remembers
    (λ e. cc e)
    (λ i r t p. absurd (omega (arith, ap length t, length-drop c.self.inside.trash_done c.self.inside.trash.items))))
