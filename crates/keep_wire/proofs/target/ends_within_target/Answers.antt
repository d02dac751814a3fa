use Rattle.std.proofs.Common.{refl, sym, ◌∙◌}
use Rattle.keep_wire.proofs.Place.{within_target-from_place, place-from_within_target}
use Rattle.keep_wire.proofs.target.ends_within_target.Goals as goal

pub returns-in-Target : goal.returns-in-Target
returns-in-Target c = (λ _. within_target-from_place c.args.bytes.now (sym c.place_of.ensures ∙ c.in-Target.is), λ _. refl)

pub returns-in_default : goal.returns-in_default
returns-in_default c = (λ h. absurd (cc), λ t. absurd (c.in_default.not-Target (c.place_of.ensures ∙ place-from_within_target c.args.bytes.now t)))
