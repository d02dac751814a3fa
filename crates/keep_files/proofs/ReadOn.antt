-- Parts and files read one after another: what is known after some of them.
-- Laws: `bytes-more`, `bytes-fail`, `bytes-done`, `files-more`, `files-fail`, `files-done`, `passed_on`.
use Rattle.std.proofs.Common.{◌≡◌, ℕ, ◌+◌, ◌<◌, ◌≤◌, List, [], ◌∷◌, ◌++◌, length, drop, get_or, Option, Ok, Err, refl, ap, sym, ◌∙◌, append-nil, append_assoc}
use Rattle.std.specs.Prelude.{Result}
use Rattle.std.proofs.lemmas.List.{at_drop_more, at_drop_all}
use Rattle.keep_spec.specs.Results.{◌>>=◌}
use Rattle.keep_normal.specs.declared.part.Part.{Part}
use Rattle.keep_normal.specs.declared.part.FileParts.{FileParts}
use Rattle.keep_files.specs.Stored.{Fails, part_bytes, bytes_of, file_of, files_of}
use Rattle.keep_files.specs.declared.file.FileIn.{FileIn}
use Rattle.keep_files.specs.declared.fault.UnpackError.{UnpackError}
use Rattle.keep_files.specs.declared.fault.UnpackError.TheVariants.{NoMemory, Missing, Short}

abbrev Store : Type 0
Store = List ℕ → Option (List ℕ)

-- these bytes, and then those that are still to come
abbrev pub after_bytes : List ℕ → Result (List ℕ) UnpackError → Result (List ℕ) UnpackError
after_bytes done r = r >>= λ t. Ok (done ++ t)

after_both : (done b : List ℕ) (r : Result (List ℕ) UnpackError) → after_bytes done (r >>= λ t. Ok (b ++ t)) ≡ after_bytes (done ++ b) r
after_both done b (Ok t) = ap (λ x. Ok x) (sym (append_assoc done b t))
after_both done b (Err e) = refl

part_here : (stored : Store) (ps : List Part) (i : ℕ) (p : Part) → i < length ps → p ≡ get_or ps i p
    → bytes_of stored (drop i ps) ≡ (part_bytes stored p >>= λ x. (bytes_of stored (drop (i + 1) ps) >>= λ y. Ok (x ++ y)))
unfolding bytes_of
part_here stored ps i p inside at =
    at_drop_more (bytes_of stored) ps i p inside
    ∙ ap (λ q. part_bytes stored q >>= λ x. (bytes_of stored (drop (i + 1) ps) >>= λ y. Ok (x ++ y))) (sym at)

pub bytes-more : (stored : Store) (ps : List Part) (i : ℕ) (p : Part) (all : Result (List ℕ) UnpackError) (done b new : List ℕ) → i < length ps → p ≡ get_or ps i p
    → all ≡ after_bytes done (bytes_of stored (drop i ps)) → part_bytes stored p ≡ Ok b → new ≡ done ++ b → all ≡ after_bytes new (bytes_of stored (drop (i + 1) ps))
bytes-more stored ps i p all done b new inside at so_far read is =
    let rest = bytes_of stored (drop (i + 1) ps) in
    so_far ∙ ap (after_bytes done) (part_here stored ps i p inside at
    ∙ ap (λ (r : Result (List ℕ) UnpackError). r >>= λ x. (rest >>= λ y. Ok (x ++ y))) read)
    ∙ after_both done b rest ∙ ap (λ d. after_bytes d rest) (sym is)

pub bytes-fail : (stored : Store) (ps : List Part) (i : ℕ) (p : Part) (all : Result (List ℕ) UnpackError) (done : List ℕ) (e : UnpackError) → i < length ps → p ≡ get_or ps i p
    → all ≡ after_bytes done (bytes_of stored (drop i ps)) → part_bytes stored p ≡ Err e → all ≡ Err e
bytes-fail stored ps i p all done e inside at so_far fails =
    so_far ∙ ap (after_bytes done) (part_here stored ps i p inside at
    ∙ ap (λ (r : Result (List ℕ) UnpackError). r >>= λ x. (bytes_of stored (drop (i + 1) ps) >>= λ y. Ok (x ++ y))) fails)

pub bytes-done : (stored : Store) (ps : List Part) (i : ℕ) (all : Result (List ℕ) UnpackError) (done : List ℕ) → length ps ≤ i → all ≡ after_bytes done (bytes_of stored (drop i ps)) → all ≡ Ok done
unfolding bytes_of
bytes-done stored ps i all done past so_far = so_far ∙ ap (after_bytes done) (at_drop_all (bytes_of stored) ps i past) ∙ ap (λ t. Ok t) (append-nil done)

pub bytes-begin : (r : Result (List ℕ) UnpackError) → r ≡ after_bytes [] r
bytes-begin (Ok t) = refl
bytes-begin (Err e) = refl

-- the same of files
abbrev pub after_files : List FileIn → Result (List FileIn) UnpackError → Result (List FileIn) UnpackError
after_files done r = r >>= λ t. Ok (done ++ t)

after_next : (done : List FileIn) (f : FileIn) (r : Result (List FileIn) UnpackError) → after_files done (r >>= λ t. Ok (f ∷ t)) ≡ after_files (done ++ f ∷ []) r
after_next done f (Ok t) = ap (λ x. Ok x) (sym (append_assoc done (f ∷ []) t))
after_next done f (Err e) = refl

file_here : (stored : Store) (fs : List FileParts) (i : ℕ) (f : FileParts) → i < length fs → f ≡ get_or fs i f
    → files_of stored (drop i fs) ≡ (file_of stored f >>= λ x. (files_of stored (drop (i + 1) fs) >>= λ y. Ok (x ∷ y)))
unfolding files_of
file_here stored fs i f inside at =
    at_drop_more (files_of stored) fs i f inside
    ∙ ap (λ g. file_of stored g >>= λ x. (files_of stored (drop (i + 1) fs) >>= λ y. Ok (x ∷ y))) (sym at)

pub files-more : (stored : Store) (fs : List FileParts) (i : ℕ) (f : FileParts) (all : Result (List FileIn) UnpackError) (done : List FileIn) (x : FileIn) (new : List FileIn) → i < length fs → f ≡ get_or fs i f
    → all ≡ after_files done (files_of stored (drop i fs)) → file_of stored f ≡ Ok x → new ≡ done ++ x ∷ [] → all ≡ after_files new (files_of stored (drop (i + 1) fs))
files-more stored fs i f all done x new inside at so_far read is =
    let rest = files_of stored (drop (i + 1) fs) in
    so_far ∙ ap (after_files done) (file_here stored fs i f inside at
    ∙ ap (λ (r : Result FileIn UnpackError). r >>= λ y. (rest >>= λ z. Ok (y ∷ z))) read)
    ∙ after_next done x rest ∙ ap (λ d. after_files d rest) (sym is)

pub files-fail : (stored : Store) (fs : List FileParts) (i : ℕ) (f : FileParts) (all : Result (List FileIn) UnpackError) (done : List FileIn) (e : UnpackError) → i < length fs → f ≡ get_or fs i f
    → all ≡ after_files done (files_of stored (drop i fs)) → file_of stored f ≡ Err e → all ≡ Err e
files-fail stored fs i f all done e inside at so_far fails =
    so_far ∙ ap (after_files done) (file_here stored fs i f inside at
    ∙ ap (λ (r : Result FileIn UnpackError). r >>= λ y. (files_of stored (drop (i + 1) fs) >>= λ z. Ok (y ∷ z))) fails)

pub files-done : (stored : Store) (fs : List FileParts) (i : ℕ) (all : Result (List FileIn) UnpackError) (done : List FileIn) → length fs ≤ i → all ≡ after_files done (files_of stored (drop i fs)) → all ≡ Ok done
unfolding files_of
files-done stored fs i all done past so_far = so_far ∙ ap (after_files done) (at_drop_all (files_of stored) fs i past) ∙ ap (λ t. Ok t) (append-nil done)

pub files-begin : (r : Result (List FileIn) UnpackError) → r ≡ after_files [] r
files-begin (Ok t) = refl
files-begin (Err e) = refl

-- an error that is passed on
pub passed_on : {X Y : Type 0} (e : UnpackError) (read : Result X UnpackError) (all : Result Y UnpackError) → Fails e read → ((f : UnpackError) → read ≡ Err f → all ≡ Err f) → Fails e all
passed_on NoMemory read all h so = tt
passed_on (Missing d) read all h so = so (Missing d) h
passed_on (Short d) read all h so = so (Short d) h
