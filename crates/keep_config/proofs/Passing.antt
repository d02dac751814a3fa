-- What was read as a field passes the field's test.
use Rattle.std.proofs.Common.{◌≡◌, Bool, true, Option, None, Some, Ok, inl, inr}
use Rattle.std.proofs.lemmas.Bool.{cases_Bool}
use Rattle.keep_spec.specs.Config.{field}
use Rattle.keep_spec.specs.declared.config.Field.{Field}

pub field-passes : {X : Type 0} (name : Field) (test : X → Bool) (found : Option X) (x : X) → field name test found ≡ Ok x → test x ≡ true
unfolding field
field-passes name test None x e = cc
field-passes name test (Some y) x e =
    elim (cases_Bool (test y)) as (λ _. test x ≡ true) [ inl k ↦ let read = rw k at e in cc | inr k ↦ let read = rw k at e in cc ]
