-- What holds of a value that may be absent.
use Rattle.std.proofs.Common.{◌≡◌, List, [], ◌++◌, Option, None, Some, refl, sym, ap, append_assoc}
use Rattle.std.specs.Prelude.{IfSome, option_map}
use Rattle.std.proofs.lemmas.List.{append-nil}

pub if-some : {X : Type 0} {P : X → Type 0} (o : Option X) → ((x : X) → P x) → IfSome o P
if-some None all = tt
if-some (Some x) all = all x

pub some-then : {X : Type 0} {P Q : X → Type 0} (o : Option X) → IfSome o P → ((x : X) → P x → Q x) → IfSome o Q
some-then None p all = tt
some-then (Some x) p all = all x p

pub grown-none : {X : Type 0} (o : Option (List X)) → o ≡ option_map (λ es. es ++ []) o
grown-none None = refl
grown-none (Some es) = ap Some (sym (append-nil es))

pub grown-more : {X : Type 0} (o : Option (List X)) (a b : List X) → option_map (λ es. es ++ b) (option_map (λ es. es ++ a) o) ≡ option_map (λ es. es ++ (a ++ b)) o
grown-more None a b = refl
grown-more (Some es) a b = ap Some (append_assoc es a b)
