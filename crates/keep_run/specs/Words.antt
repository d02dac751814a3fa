use Rattle.std.specs.Prelude.{List, [], ◌∷◌, Bool, false, String, string_bytes, codes}
use Rattle.std.specs.Str.{bytes_eq}
use Rattle.std.specs.declared.alloc.Global.{Global}

-- the words are `run` alone
abbrev pub is_run : List (String Global) → Bool
is_run [] = false
is_run (w ∷ []) = bytes_eq (string_bytes w) (codes "run")
is_run (w ∷ x ∷ ws) = false
