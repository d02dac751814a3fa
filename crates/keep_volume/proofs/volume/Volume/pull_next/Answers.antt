use Rattle.std.proofs.Common.{refl, arith, ◌≡◌, []}
use Rattle.keep_event.specs.declared.device.DeviceAnswer.TheVariants.{Idle, Pull}
use Rattle.keep_volume.proofs.Lines.{stays-line, becomes-line, exactly, told-all, option_map-same}
use Rattle.keep_volume.proofs.Machine.{pull-idle, pull-done, none-first}
use Rattle.keep_volume.proofs.volume.Volume.pull_next.Goals as goal

pub returns-in_default-clause-line : goal.returns-in_default-clause-line
returns-in_default-clause-line g c =
    let none : c.self.inside.pull.items ≡ [] = none-first _ _ c.in_default.ensures.items c.in_default.ensures.rest in
    rw (← c.self.view_is, ← c.in_default.ensures.items) (stays-line _ _ Idle (told-all (g.S.Store.held c.self.inside.store) (λ es. pull-idle _ none)) (λ e. cc e))

pub returns-in_default-clause-exact : goal.returns-in_default-clause-exact
returns-in_default-clause-exact g c =
    let none : c.self.inside.pull.items ≡ [] = none-first _ _ c.in_default.ensures.items c.in_default.ensures.rest in
    rw (← c.self.view_is, ← c.in_default.ensures.items) (exactly _ _ _ Idle (λ es. pull-idle _ none) refl refl refl refl)

pub returns-clause-line : goal.returns-clause-line
returns-clause-line g c = rw (← c.self.view_is)
    (becomes-line _ _ _ (omega arith) refl refl (Pull c.in-Some.item) (λ es. es) (option_map-same _) (told-all (g.S.Store.held c.self.inside.store) (λ es. pull-done _ c.in-Some.item c.pop_front.new.self.items c.in-Some.ensures.items)) (λ e. cc e))

pub returns-clause-exact : goal.returns-clause-exact
returns-clause-exact g c = rw (← c.self.view_is) (exactly _ _ _ (Pull c.in-Some.item) (λ es. pull-done _ c.in-Some.item c.pop_front.new.self.items c.in-Some.ensures.items) refl refl refl refl)
