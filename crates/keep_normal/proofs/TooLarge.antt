-- One number that is too large, among others.
-- Laws: `fails_with`, `list_all-flat_map`.
use Rattle.std.proofs.Common.{◌≡◌, Bool, false, ◌&&◌, List, [], ◌∷◌, refl, ap, ◌∙◌}
use Rattle.std.specs.List.{list_all, flat_map}
use Rattle.std.proofs.lemmas.List.Folds.{list_all-append}
use Rattle.keep_normal.specs.declared.fault.NormalError.{NormalError}
use Rattle.keep_normal.specs.declared.fault.NormalError.TheVariants.{NoMemory, TooLarge}
use Rattle.keep_normal.specs.Outcomes.{Fails}

pub fails_with : (e : NormalError) (part whole : Bool) → Fails e part → (part ≡ false → whole ≡ false) → Fails e whole
fails_with TooLarge part whole h more = more h
fails_with NoMemory part whole h more = tt

pub list_all-flat_map : {X Y : Type 0} (p : Y → Bool) (f : X → List Y) (xs : List X) → list_all p (flat_map f xs) ≡ list_all (λ x. list_all p (f x)) xs
list_all-flat_map p f [] = refl
list_all-flat_map p f (x ∷ xs) = list_all-append p (f x) (flat_map f xs) ∙ ap (λ b. list_all p (f x) && b) (list_all-flat_map p f xs)
