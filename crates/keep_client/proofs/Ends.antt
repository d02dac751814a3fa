-- Exchanges of a link in memory: lists that end with one exchange, and what changing the last of them tells.
use Rattle.std.proofs.Common.{◌≡◌, ◌⊎◌, inl, inr, ℕ, List, [], ◌∷◌, ◌++◌, length, length-append, Option, None, Some, Result, Ok, Err, Bool, true, false, refl, sym, ap, subst, ◌∙◌, arith}
use Rattle.std.specs.Prelude.{IfOk, if◌then◌else◌}
use Rattle.std.proofs.Math.Seq.{take-length}
use Rattle.keep_spec.specs.declared.failed.Failed.{Failed}
use Rattle.keep_spec.specs.declared.memory.NoMemory.{NoMemory}
use Rattle.keep_client.specs.declared.link.Exchange.{Exchange}
use Rattle.keep_client.specs.declared.scripted.ScriptedLink.{ScriptedLink}
use Rattle.keep_client.specs.Exchanges.{IsTold, after_write}
use Rattle.keep_client.specs.Scripted.{scripted_told, Notes, Changes}

pub same_end : (a : List Exchange) (x : Exchange) (b : List Exchange) (y : Exchange) → a ++ x ∷ [] ≡ b ++ y ∷ [] → (a ≡ b) × (x ≡ y)
same_end [] x [] y h = (refl, cc)
same_end [] x (z ∷ b) y h = absurd (omega (arith, ap length h, length-append b (y ∷ [])))
same_end (z ∷ a) x [] y h = absurd (omega (arith, ap length h, length-append a (x ∷ [])))
same_end (z ∷ a) x (w ∷ b) y h =
    let head : z ≡ w = cc in
    let tail : a ++ x ∷ [] ≡ b ++ y ∷ [] = cc in
    let rest = same_end a x b y tail in
    (cc (head, rest.0), rest.1)

-- what is told after every list is nothing
told_always : (e : Exchange) (told : Option (List Exchange)) → ((before : List Exchange) → IsTold (before ++ e ∷ []) told) → told ≡ None
told_always e None h = refl
told_always e (Some es) h = absurd (omega (arith, ap length (h []), ap length (h (e ∷ []))))

-- the last of these, and those before it
shorter : (lost : Bool) (all rest before : List Exchange) (last x : Exchange) → all ≡ rest ++ last ∷ [] → IsTold (before ++ x ∷ []) (if lost then None else Some all)
    → (lost ≡ true) ⊎ ((rest ≡ before) × (last ≡ x))
shorter true all rest before last x e h = inl refl
shorter false all rest before last x e h = inr (same_end rest last before x (sym e ∙ h))

changed_ok : (change : Exchange → Exchange) (old mid new : ScriptedLink) (last e : Exchange) → old.exchanges.items ≡ mid.exchanges.items ++ last ∷ [] → mid.is_lost ≡ old.is_lost
    → e ≡ change last → Notes {E = NoMemory} (Ok e) mid new → Changes change old new
changed_ok change old mid new last e cut lost is notes before x h =
    elim (shorter old.is_lost old.exchanges.items mid.exchanges.items before last x cut h) [
      | inl gone ↦
          let none : scripted_told mid ≡ None = ap (λ b. if b then None else Some mid.exchanges.items) (lost ∙ gone) in
          let after : scripted_told new ≡ None = told_always e (scripted_told new) (λ b. notes b (subst (IsTold b) (sym none) tt)) in
          subst (IsTold (before ++ change x ∷ [])) (sym after) tt
      | inr same ↦
          let told : IsTold before (scripted_told mid) = told_here mid.is_lost same.0 in
          subst (λ v. IsTold (before ++ v ∷ []) (scripted_told new)) (is ∙ ap change same.1) (notes before told)
    ]
  where
    told_here : (b : Bool) → mid.exchanges.items ≡ before → IsTold before (if b then None else Some mid.exchanges.items)
    told_here true e = tt
    told_here false e = e

pub changed : (change : Exchange → Exchange) (old mid new : ScriptedLink) (last : Exchange) (result : Result Exchange NoMemory) → old.exchanges.items ≡ mid.exchanges.items ++ last ∷ []
    → mid.is_lost ≡ old.is_lost → IfOk result (λ e. e ≡ change last) → Notes result mid new → Changes change old new
changed change old mid new last (Ok e) cut lost is notes = changed_ok change old mid new last e cut lost is notes
changed change old mid new last (Err error) cut lost is notes = λ before x h. subst (IsTold (before ++ change x ∷ [])) (sym notes) tt

-- all bytes were written
pub written_all : (bytes : List ℕ) (e : Exchange) → after_write {E = Failed} (Ok (length bytes)) bytes e ≡ record e { written = e.written ++ bytes }
written_all bytes e = ap (λ v. record e { written = e.written ++ v }) (take-length bytes)

pub written_ok : (bytes : List ℕ) (last : Exchange) (result : Result Exchange NoMemory) → IfOk result (λ e. e ≡ record last { written = last.written ++ bytes })
    → IfOk result (λ e. e ≡ after_write {E = Failed} (Ok (length bytes)) bytes last)
written_ok bytes last (Ok e) h = h ∙ sym (written_all bytes last)
written_ok bytes last (Err error) h = tt
