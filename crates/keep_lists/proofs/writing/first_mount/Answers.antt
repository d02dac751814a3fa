use Rattle.std.proofs.Common.{◌≡◌, ℕ, List, [], ◌∙◌, ap, refl, Option, Some, None, ◌==◌}
use Rattle.std.specs.Prelude.{option_map, find}
use Rattle.std.specs.Option.{option_map_or}
use Rattle.keep_spec.specs.declared.config.Mount.{Mount}
use Rattle.keep_lists.proofs.writing.first_mount.Goals as goal

name-is : (o : Option Mount) → option_map_or (λ (u : List ℕ). u) (option_map (λ (m : Mount). m.uuid) o) [] ≡ option_map_or (λ (m : Mount). m.uuid) o []
name-is None = refl
name-is (Some m) = refl

pub returns : goal.returns
returns c = ap (λ (o : Option (List ℕ)). option_map_or (λ u. u) o []) c.mount_of.ensures ∙ name-is (find (λ (m : Mount). m.device == c.args.device) c.args.config.now.mounts)
