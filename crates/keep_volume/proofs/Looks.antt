-- A look through the buckets of an index is a look through all its names.
use Rattle.std.proofs.Common.{◌≡◌, ℕ, List, [], ◌∷◌, ◌++◌, Bool, true, false, Some, option_map, refl, ◌∙◌, ap, sym, subst, ◌≤◌}
use Rattle.std.specs.Prelude.{is_some, if◌then◌else◌}
use Rattle.std.specs.List.{find as list_find}
use Rattle.keep_event.specs.Store.{above, IsAscending}
use Rattle.keep_event.specs.declared.names.Name.{Name}
use Rattle.keep_event.specs.declared.names.Metadata.{Metadata}
use Rattle.keep_volume.specs.declared.index.Looked.{Looked}
use Rattle.keep_volume.specs.declared.index.Passed.{Passed}
use Rattle.keep_volume.specs.Index.{due, ArePassed}
use Rattle.keep_volume.specs.Looks.{look, past}
use Rattle.keep_volume.proofs.Passes.{further, find-above}

module _ (reading : ℕ) where
  -- ---- a look in two parts
  stops-step : (b : Bool) (p : Passed) (e : Name × Metadata) (xs ys : List (Name × Metadata)) → (is_some (look reading (past p e) xs).found ≡ true → look reading (past p e) (xs ++ ys) ≡ look reading (past p e) xs)
      → (let first : Looked = record { found = Some e.0; passed = p } in is_some (if b then first else look reading (past p e) xs).found ≡ true → (if b then first else look reading (past p e) (xs ++ ys)) ≡ (if b then first else look reading (past p e) xs))
  stops-step true p e xs ys h k = refl
  stops-step false p e xs ys h k = h k

  pub look-stops : (p : Passed) (xs ys : List (Name × Metadata)) → is_some (look reading p xs).found ≡ true → look reading p (xs ++ ys) ≡ look reading p xs
  look-stops p [] ys k = cc k
  look-stops p (e ∷ xs) ys k = stops-step (due reading e) p e xs ys (look-stops (past p e) xs ys) k

  goes-step : (b : Bool) (p : Passed) (e : Name × Metadata) (xs ys : List (Name × Metadata)) → (is_some (look reading (past p e) xs).found ≡ false → look reading (past p e) (xs ++ ys) ≡ look reading (look reading (past p e) xs).passed ys)
      → (let first : Looked = record { found = Some e.0; passed = p } in is_some (if b then first else look reading (past p e) xs).found ≡ false → (if b then first else look reading (past p e) (xs ++ ys)) ≡ look reading (if b then first else look reading (past p e) xs).passed ys)
  goes-step true p e xs ys h k = cc k
  goes-step false p e xs ys h k = h k

  pub look-goes : (p : Passed) (xs ys : List (Name × Metadata)) → is_some (look reading p xs).found ≡ false → look reading p (xs ++ ys) ≡ look reading (look reading p xs).passed ys
  look-goes p [] ys k = refl
  look-goes p (e ∷ xs) ys k = goes-step (due reading e) p e xs ys (look-goes (past p e) xs ys) k

  -- ---- what a look finds, and how far it comes
  found-step : (b : Bool) (p : Passed) (e : Name × Metadata) (es : List (Name × Metadata)) → (look reading (past p e) es).found ≡ option_map (λ (e : Name × Metadata). e.0) (list_find (due reading) es)
      → (let first : Looked = record { found = Some e.0; passed = p } in (if b then first else look reading (past p e) es).found ≡ option_map (λ (e : Name × Metadata). e.0) (if b then Some e else list_find (due reading) es))
  found-step true p e es h = refl
  found-step false p e es h = h

  look-found : (p : Passed) (es : List (Name × Metadata)) → (look reading p es).found ≡ option_map (λ (e : Name × Metadata). e.0) (list_find (due reading) es)
  look-found p [] = refl
  look-found p (e ∷ es) = found-step (due reading e) p e es (look-found (past p e) es)

  passed-step : (b : Bool) (p : Passed) (e : Name × Metadata) (es ys : List (Name × Metadata)) → ArePassed p.up_to p.earliest es → ArePassed (look reading (past p e) ys).passed.up_to (look reading (past p e) ys).passed.earliest es
      → (let looked : Looked = if b then record { found = Some e.0; passed = p } else look reading (past p e) ys in ArePassed looked.passed.up_to looked.passed.earliest es)
  passed-step true p e es ys h k = h
  passed-step false p e es ys h k = k

  look-passed : (p : Passed) (es ys : List (Name × Metadata)) → IsAscending es → ArePassed p.up_to p.earliest es → above p.up_to es ≡ ys → ArePassed (look reading p ys).passed.up_to (look reading p ys).passed.earliest es
  look-passed p es [] s h k = h
  look-passed p es (e ∷ ys) s h k = let f = further p.up_to p.earliest es ys e s h k in passed-step (due reading e) p e es ys h (look-passed (past p e) es ys s f.1 f.0)

  module _ (p : Passed) (es : List (Name × Metadata)) (waiting : reading ≤ p.earliest) (passed : ArePassed p.up_to p.earliest es) (looked : Looked) (is : looked ≡ look reading p (above p.up_to es)) where
    pub whole-found : looked.found ≡ option_map (λ (e : Name × Metadata). e.0) (list_find (due reading) es)
    whole-found = ap (λ (l : Looked). l.found) is ∙ look-found p (above p.up_to es) ∙ ap (option_map (λ (e : Name × Metadata). e.0)) (find-above reading p.earliest p.up_to es waiting passed)

    pub whole-passed : IsAscending es → ArePassed looked.passed.up_to looked.passed.earliest es
    whole-passed s = subst (λ (l : Looked). ArePassed l.passed.up_to l.passed.earliest es) (sym is) (look-passed p es (above p.up_to es) s passed refl)
