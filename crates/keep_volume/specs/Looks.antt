-- A look through entries for the first that is due.
use Rattle.std.specs.Prelude.{ℕ, List, [], ◌∷◌, Some, None, if◌then◌else◌}
use Rattle.keep_event.specs.declared.names.Name.{Name}
use Rattle.keep_event.specs.declared.names.Metadata.{Metadata}
use Rattle.keep_volume.specs.declared.index.Looked.{Looked}
use Rattle.keep_volume.specs.declared.index.Passed.{Passed}
use Rattle.keep_volume.specs.Index.{due, earlier_of}

-- one entry further
abbrev pub past : Passed → Name × Metadata → Passed
past p e = record { up_to = Some e.0; earliest = earlier_of p.earliest e.0.deadline }

-- past all that are not due, up to the first that is
abbrev pub look : ℕ → Passed → List (Name × Metadata) → Looked
look reading p [] = record { found = None; passed = p }
look reading p (e ∷ es) = if due reading e then record { found = Some e.0; passed = p } else look reading (past p e) es
