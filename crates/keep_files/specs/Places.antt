-- Files named by their places in a list.
use Rattle.std.specs.Prelude.{ℕ, nat_lt, Bool, true, List, [], map, length, slice_index_or, None, Result, Ok, Err, ◌≡◌}
use Rattle.std.specs.List.{list_all}
use Rattle.std.specs.BTreeMap.{BTreeMap}
use Rattle.keep_normal.specs.Grouped.{grouped}
use Rattle.keep_files.specs.Layout.{directory_of, by_path}
use Rattle.keep_files.specs.Packed.{Fails, first_fault}
use Rattle.keep_files.specs.declared.fault.PackError.{PackError}
use Rattle.keep_files.specs.declared.file.FileIn.{FileIn}

-- the file at a place; one without path and bytes past the end
abbrev pub file_at : List FileIn → ℕ → FileIn
file_at fs place = slice_index_or fs place (record { path = []; bytes = [] })

-- an entry of a map with the file at its place
abbrev pub entry_at : List FileIn → List ℕ × ℕ → List ℕ × FileIn
entry_at fs e = (e.0, file_at fs e.1)

-- a directory with the files at its places
abbrev pub group_at : List FileIn → List ℕ × List ℕ → List ℕ × List FileIn
group_at fs g = (g.0, map (file_at fs) g.1)

-- the places all lie in a list of n
abbrev pub are_within : ℕ → List ℕ → Bool
are_within n places = list_all (λ place. nat_lt place n) places

-- the places of paths, by directory
abbrev pub places_by_directory : List (List ℕ × ℕ) → List (List ℕ × List ℕ)
places_by_directory entries = grouped (map (λ e. (directory_of e.0, e.1)) entries)

-- the places of all files by path where there is no fault, else the first one
abbrev pub FindsPlaces : Result (BTreeMap (List ℕ) ℕ) PackError → List FileIn → Type 0
FindsPlaces (Ok m) fs = (first_fault [] fs ≡ None) × (map (entry_at fs) m.entries ≡ by_path fs) × (list_all (λ e. nat_lt e.1 (length fs)) m.entries ≡ true)
FindsPlaces (Err e) fs = Fails e (first_fault [] fs)
