-- The bytes of parts: joined, stripped, and of all blocks of a line that lie in a span.
-- Laws: `digest-stripped`, `bytes_of-joined`, `files_of-stripped`, `parts_read`, `size_empty`, `line_read`.
use Rattle.std.proofs.Common.{◌≡◌, ℕ, ◌+◌, ◌-◌, ◌<◌, ◌≤◌, ◌^◌, min, max, Bool, true, false, cond, leb, ltb, inl, inr, List, [], ◌∷◌, ◌++◌, length, take, drop, map, Option, Some, None, Ok, Err, refl, ap, sym, ◌∙◌, arith, append-nil, append_assoc}
use Rattle.std.specs.Prelude.{codes, Result}
use Rattle.std.specs.List.{list_all, flat_map, AllByRecursion}
use Rattle.std.proofs.Math.Seq.{take-append-add, drop-append-add}
use Rattle.std.proofs.lemmas.Bool.{and_parts, cases_lt, leb-true, le-leb, ltb-true}
use Rattle.std.proofs.lemmas.List.{take-append-drop, take-take, drop-take, take-append-le, drop-append-le, take_all, drop_all, take_min, drop-drop, length-drop}
use Rattle.std.proofs.lemmas.Option.{same_Some}
use Rattle.md5.specs.Md5.{md5}
use Rattle.keep_spec.specs.Locator.{digest, size, size_digits, stripped}
use Rattle.keep_spec.specs.Digest.{bytes_of_digits}
use Rattle.keep_spec.specs.Results.{◌>>=◌}
use Rattle.keep_normal.specs.declared.part.Part.{Part}
use Rattle.keep_normal.specs.declared.part.FileParts.{FileParts}
use Rattle.keep_normal.specs.declared.span.Span.{Span}
use Rattle.keep_normal.specs.Files.{part_in as part_of_block, kept, parts_in, touch, both_parts, joined_parts, stripped_part, stripped_file}
use Rattle.keep_normal.specs.Joined.{joined_before}
use Rattle.keep_normal.specs.Normal.{or_empty_block}
use Rattle.keep_normal.proofs.JoinedNeighbours.{one_or_two}
use Rattle.keep_normal.proofs.SoundParts.{touch_is}
use Rattle.keep_normal.proofs.SpanParts.{kept_none, kept_some}
use Rattle.keep_normal.proofs.StrippedLocators.{digits_at, stripped-is}
use Rattle.keep_files.specs.Layout.{locator_of}
use Rattle.keep_files.specs.Stored.{part_in, part_bytes, bytes_of, file_of, file_with, files_of}
use Rattle.keep_files.specs.declared.file.FileIn.{FileIn}
use Rattle.keep_files.specs.declared.fault.UnpackError.{UnpackError}
use Rattle.keep_files.specs.declared.fault.UnpackError.TheVariants.{Missing, Short}
use Rattle.keep_files.proofs.BlockLocators.{digest-of, size-of}

abbrev Store : Type 0
Store = List ℕ → Option (List ℕ)

-- Lists.

take_add : (a b : ℕ) (xs : List ℕ) → take (a + b) xs ≡ take a xs ++ take b (drop a xs)
take_add a b xs =
    sym (take-append-drop a (take (a + b) xs))
    ∙ ap (λ t. t ++ drop a (take (a + b) xs)) (take-take a (a + b) xs (omega arith))
    ∙ ap (λ t. take a xs ++ t) (drop-take a b xs)

take_seam : (k : ℕ) (xs ys : List ℕ) → take k (xs ++ ys) ≡ take k xs ++ take (k - length xs) ys
take_seam k xs ys =
    elim (cases_lt k (length xs)) [
      | inl less ↦
          let none : k - length xs ≡ 0 = omega arith in
          take-append-le k xs ys (omega arith) ∙ sym (append-nil (take k xs)) ∙ ap (λ n. take k xs ++ take n ys) (sym none)
      | inr more ↦
          let whole : k ≡ length xs + (k - length xs) = omega arith in
          ap (λ n. take n (xs ++ ys)) whole ∙ take-append-add xs ys (k - length xs) ∙ ap (λ t. t ++ take (k - length xs) ys) (sym (take_all k xs more))
    ]

drop_seam : (j : ℕ) (xs ys : List ℕ) → drop j (xs ++ ys) ≡ drop j xs ++ drop (j - length xs) ys
drop_seam j xs ys =
    elim (cases_lt j (length xs)) [
      | inl less ↦
          let none : j - length xs ≡ 0 = omega arith in
          drop-append-le j xs ys (omega arith) ∙ ap (λ n. drop j xs ++ drop n ys) (sym none)
      | inr more ↦
          let whole : j ≡ length xs + (j - length xs) = omega arith in
          ap (λ n. drop n (xs ++ ys)) whole ∙ drop-append-add xs ys (j - length xs) ∙ ap (λ t. t ++ drop (j - length xs) ys) (sym (drop_all j xs more))
    ]

-- a range over two lists
range_seam : (j k : ℕ) (xs ys : List ℕ) → take k (drop j (xs ++ ys)) ≡ take k (drop j xs) ++ take (k - (length xs - j)) (drop (j - length xs) ys)
range_seam j k xs ys =
    ap (take k) (drop_seam j xs ys) ∙ take_seam k (drop j xs) (drop (j - length xs) ys)
    ∙ ap (λ n. take k (drop j xs) ++ take (k - n) (drop (j - length xs) ys)) (length-drop j xs)

-- One part.

record IsRead (stored : Store) (p : Part) (bytes : List ℕ) : Type 0 where
  block : List ℕ
  found : stored (digest p.locator) ≡ Some block
  within : p.offset + p.length ≤ length block
  are : bytes ≡ take p.length (drop p.offset block)

part_read : (stored : Store) (p : Part) (block : List ℕ) → stored (digest p.locator) ≡ Some block → p.offset + p.length ≤ length block → part_bytes stored p ≡ Ok (take p.length (drop p.offset block))
part_read stored p block found within =
    ap (part_in p) found ∙ ap (λ b. cond b (Ok (take p.length (drop p.offset block))) (Err (Short (digest p.locator)))) (le-leb (p.offset + p.length) (length block) within)

read_by : (stored : Store) (p : Part) (bytes block : List ℕ) (b : Bool) → stored (digest p.locator) ≡ Some block → leb (p.offset + p.length) (length block) ≡ b
    → cond b (Ok (take p.length (drop p.offset block))) (Err (Short (digest p.locator))) ≡ Ok bytes → IsRead stored p bytes
read_by stored p bytes block true found within e = record { block = block; found = found; within = leb-true (p.offset + p.length) (length block) within; are = cc e }
read_by stored p bytes block false found within e = cc e

read_in : (stored : Store) (p : Part) (bytes : List ℕ) (o : Option (List ℕ)) → stored (digest p.locator) ≡ o → part_in p o ≡ Ok bytes → IsRead stored p bytes
read_in stored p bytes None found e = cc e
read_in stored p bytes (Some block) found e = read_by stored p bytes block (leb (p.offset + p.length) (length block)) found refl e

read_is : (stored : Store) (p : Part) (bytes : List ℕ) → part_bytes stored p ≡ Ok bytes → IsRead stored p bytes
read_is stored p bytes e = read_in stored p bytes (stored (digest p.locator)) refl e

-- Parts, one after another.

one_more : (stored : Store) (p : Part) (ps : List Part) (b bs : List ℕ) → part_bytes stored p ≡ Ok b → bytes_of stored ps ≡ Ok bs → bytes_of stored (p ∷ ps) ≡ Ok (b ++ bs)
unfolding bytes_of
one_more stored p ps b bs first rest =
    ap (λ (r : Result (List ℕ) UnpackError). r >>= λ x. (bytes_of stored ps >>= λ y. Ok (x ++ y))) first
    ∙ ap (λ (r : Result (List ℕ) UnpackError). r >>= λ y. Ok (b ++ y)) rest

bound_is : {A B : Type 0} (r : Result A UnpackError) (f : A → Result B UnpackError) (y : B) → (r >>= f) ≡ Ok y → (x : A) × (r ≡ Ok x) × (f x ≡ Ok y)
bound_is (Ok x) f y e = (x, refl, e)
bound_is (Err f) g y e = cc e

record AreRead (stored : Store) (p : Part) (ps : List Part) (bytes : List ℕ) : Type 0 where
  first : List ℕ
  rest : List ℕ
  is_first : part_bytes stored p ≡ Ok first
  is_rest : bytes_of stored ps ≡ Ok rest
  are : first ++ rest ≡ bytes

are_read : (stored : Store) (p : Part) (ps : List Part) (bytes : List ℕ) → bytes_of stored (p ∷ ps) ≡ Ok bytes → AreRead stored p ps bytes
unfolding bytes_of
are_read stored p ps bytes e =
    let a = bound_is (part_bytes stored p) (λ x. bytes_of stored ps >>= λ y. Ok (x ++ y)) bytes e in
    let b = bound_is (bytes_of stored ps) (λ y. Ok (a.0 ++ y)) bytes a.2 in
    record { first = a.0; rest = b.0; is_first = a.1; is_rest = b.1; are = cc (b.2) }

-- Parts that touch, joined.

pub digest-stripped : (l : List ℕ) → digest (stripped l) ≡ digest l
unfolding digest
digest-stripped l = ap (λ t. bytes_of_digits (take 32 t)) (stripped-is l) ∙ ap bytes_of_digits (take-take 32 (33 + digits_at l) l (omega arith))

both_read : (stored : Store) (p q : Part) (b c : List ℕ) → touch p q ≡ true → part_bytes stored p ≡ Ok b → part_bytes stored q ≡ Ok c → part_bytes stored (both_parts p q) ≡ Ok (b ++ c)
both_read stored p q b c t hp hq =
    let touching = touch_is p q t in
    let rp = read_is stored p b hp in
    let rq = read_is stored q c hq in
    let same : digest p.locator ≡ digest q.locator = sym (digest-stripped p.locator) ∙ ap digest touching.one_block ∙ digest-stripped q.locator in
    let block : rq.block ≡ rp.block = same_Some rq.block rp.block (sym rq.found ∙ ap stored (sym same) ∙ rp.found) in
    let long = ap length block in
    let next = touching.next in
    part_read stored (both_parts p q) rp.block rp.found (omega (arith, rq.within, long, next))
    ∙ ap (λ t. Ok t) (take_add p.length q.length (drop p.offset rp.block)
    ∙ ap (λ t. take p.length (drop p.offset rp.block) ++ take q.length t) (drop-drop p.length p.offset rp.block)
    ∙ ap (λ n. take p.length (drop p.offset rp.block) ++ take q.length (drop n rp.block)) next
    ∙ ap (λ t. take p.length (drop p.offset rp.block) ++ take q.length (drop q.offset t)) (sym block)
    ∙ ap (λ t. t ++ take q.length (drop q.offset rq.block)) (sym rp.are)
    ∙ ap (λ t. b ++ t) (sym rq.are))

before_read : (stored : Store) (p : Part) (qs : List Part) (b bs : List ℕ) → part_bytes stored p ≡ Ok b → bytes_of stored qs ≡ Ok bs → bytes_of stored (joined_before touch both_parts p qs) ≡ Ok (b ++ bs)
before_read stored p [] b bs hp hq = one_more stored p [] b bs hp hq
before_read stored p (q ∷ qs) b bs hp hq = by_touch (touch p q) refl
  where
    by_touch : (t : Bool) → touch p q ≡ t → bytes_of stored (one_or_two both_parts t p q qs) ≡ Ok (b ++ bs)
    by_touch true t =
        let r = are_read stored q qs bs hq in
        one_more stored (both_parts p q) qs (b ++ r.first) r.rest (both_read stored p q b r.first t hp r.is_first) r.is_rest
        ∙ ap (λ t. Ok t) (append_assoc b r.first r.rest ∙ ap (λ t. b ++ t) r.are)
    by_touch false t = one_more stored p (q ∷ qs) b bs hp hq

pub bytes_of-joined : (stored : Store) (ps : List Part) (bs : List ℕ) → bytes_of stored ps ≡ Ok bs → bytes_of stored (joined_parts ps) ≡ Ok bs
bytes_of-joined stored [] bs h = h
bytes_of-joined stored (p ∷ ps) bs h =
    let r = are_read stored p ps bs h in
    before_read stored p (joined_parts ps) r.first r.rest r.is_first (bytes_of-joined stored ps r.rest r.is_rest) ∙ ap (λ t. Ok t) r.are

-- Hints don't matter.

part_in-stripped : (p : Part) (o : Option (List ℕ)) → part_in (stripped_part p) o ≡ part_in p o
part_in-stripped p None = ap (λ d. Err (Missing d)) (digest-stripped p.locator)
part_in-stripped p (Some block) = ap (λ d. cond (leb (p.offset + p.length) (length block)) (Ok (take p.length (drop p.offset block))) (Err (Short d))) (digest-stripped p.locator)

part_bytes-stripped : (stored : Store) (p : Part) → part_bytes stored (stripped_part p) ≡ part_bytes stored p
part_bytes-stripped stored p = ap (λ d. part_in (stripped_part p) (stored d)) (digest-stripped p.locator) ∙ part_in-stripped p (stored (digest p.locator))

bytes_of-stripped : (stored : Store) (ps : List Part) → bytes_of stored (map stripped_part ps) ≡ bytes_of stored ps
unfolding bytes_of
bytes_of-stripped stored [] = refl
bytes_of-stripped stored (p ∷ ps) =
    ap (λ (r : Result (List ℕ) UnpackError). r >>= λ x. (bytes_of stored (map stripped_part ps) >>= λ y. Ok (x ++ y))) (part_bytes-stripped stored p)
    ∙ ap (λ (r : Result (List ℕ) UnpackError). part_bytes stored p >>= λ x. (r >>= λ y. Ok (x ++ y))) (bytes_of-stripped stored ps)

pub files_of-stripped : (stored : Store) (fs : List FileParts) → files_of stored (map stripped_file fs) ≡ files_of stored fs
unfolding files_of
files_of-stripped stored [] = refl
files_of-stripped stored (f ∷ fs) =
    ap (λ (r : Result (List ℕ) UnpackError). (r >>= λ bytes. Ok (file_with f.path bytes)) >>= λ x. (files_of stored (map stripped_file fs) >>= λ y. Ok (x ∷ y))) (bytes_of-stripped stored f.parts)
    ∙ ap (λ (r : Result (List FileIn) UnpackError). file_of stored f >>= λ x. (r >>= λ y. Ok (x ∷ y))) (files_of-stripped stored fs)

-- All parts of blocks in a span.

kept_read : (stored : Store) (p : Part) (ps : List Part) (block bs : List ℕ) → stored (digest p.locator) ≡ Some block → (0 < p.length → p.offset + p.length ≤ length block) → bytes_of stored ps ≡ Ok bs
    → bytes_of stored (kept p ++ ps) ≡ Ok (take p.length (drop p.offset block) ++ bs)
kept_read stored p ps block bs found within rest =
    elim (cases_lt 0 p.length) [
      | inl some ↦ ap (λ qs. bytes_of stored (qs ++ ps)) (kept_some p some) ∙ one_more stored p ps (take p.length (drop p.offset block)) bs (part_read stored p block found (within some)) rest
      | inr none ↦
          let zero : p.length ≡ 0 = omega arith in
          ap (λ qs. bytes_of stored (qs ++ ps)) (kept_none p zero) ∙ rest ∙ ap (λ n. Ok (take n (drop p.offset block) ++ bs)) (sym zero)
    ]

none_in : (j k : ℕ) → take {A = ℕ} k (drop j []) ≡ []
none_in j k = ap (take k) (drop_all j [] (omega arith)) ∙ take_all k [] (omega arith)

pub parts_read : (stored : Store) (start : ℕ) (s : Span) (bs : List (List ℕ)) → AllByRecursion (λ b. stored (md5 b) ≡ Some b) bs → list_all (λ b. ltb (length b) (10 ^ 19)) bs ≡ true
    → bytes_of stored (parts_in start s (map locator_of bs)) ≡ Ok (take (s.to - max start s.from) (drop (s.from - start) (flat_map (λ b. b) bs)))
unfolding bytes_of
parts_read stored start s [] held small = ap (λ t. Ok t) (sym (none_in (s.from - start) (s.to - max start s.from)))
parts_read stored start s (b ∷ bs) held small =
    let parts = and_parts (ltb (length b) (10 ^ 19)) (list_all (λ b. ltb (length b) (10 ^ 19)) bs) small in
    let fits = ltb-true (length b) (10 ^ 19) parts.0 in
    let l = locator_of b in
    let n = length b in
    let sized : size l ≡ n = size-of b fits in
    let p = part_of_block start s l in
    let rest = flat_map (λ b. b) bs in
    let j = s.from - start in
    let k = s.to - max start s.from in
    let found : stored (digest l) ≡ Some b = ap stored (digest-of b fits) ∙ held.0 in
    let offset : p.offset ≡ j = omega arith in
    let front = length-drop j b in
    let long : p.length ≡ min k (length (drop j b)) = omega (arith, sized, front) in
    let k2 : s.to - max (start + size l) s.from ≡ k - (n - j) = omega (arith, sized) in
    let j2 : s.from - (start + size l) ≡ j - n = omega (arith, sized) in
    kept_read stored p (parts_in (start + size l) s (map locator_of bs)) b (take (s.to - max (start + size l) s.from) (drop (s.from - (start + size l)) rest)) found (λ some. omega (arith, sized))
    (parts_read stored (start + size l) s bs held.1 parts.1)
    ∙ ap (λ t. Ok t) (ap (λ m. take p.length (drop m b) ++ take (s.to - max (start + size l) s.from) (drop (s.from - (start + size l)) rest)) offset
    ∙ ap (λ m. take m (drop j b) ++ take (s.to - max (start + size l) s.from) (drop (s.from - (start + size l)) rest)) long
    ∙ ap (λ t. t ++ take (s.to - max (start + size l) s.from) (drop (s.from - (start + size l)) rest)) (take_min k (drop j b))
    ∙ ap (λ m. take k (drop j b) ++ take m (drop (s.from - (start + size l)) rest)) k2
    ∙ ap (λ m. take k (drop j b) ++ take (k - (n - j)) (drop m rest)) j2
    ∙ sym (range_seam j k b rest))

-- the empty block has no bytes
pub size_empty : size (codes "d41d8cd98f00b204e9800998ecf8427e+0") ≡ 0
unfolding size size_digits
size_empty = refl

-- the blocks of a line, of which the empty block may be the only one
pub line_read : (stored : Store) (s : Span) (bs : List (List ℕ)) → AllByRecursion (λ b. stored (md5 b) ≡ Some b) bs → list_all (λ b. ltb (length b) (10 ^ 19)) bs ≡ true
    → bytes_of stored (parts_in 0 s (or_empty_block (map locator_of bs))) ≡ Ok (take (s.to - s.from) (drop s.from (flat_map (λ b. b) bs)))
unfolding bytes_of
line_read stored s [] held small =
    let empty = codes "d41d8cd98f00b204e9800998ecf8427e+0" in
    let none = size_empty in
    let p = part_of_block 0 s empty in
    ap (λ ps. bytes_of stored (ps ++ [])) (kept_none p (omega (arith, none))) ∙ ap (λ t. Ok t) (sym (none_in s.from (s.to - s.from)))
line_read stored s (b ∷ bs) held small =
    let begins : max 0 s.from ≡ s.from = omega arith in
    let all : s.from - 0 ≡ s.from = omega arith in
    parts_read stored 0 s (b ∷ bs) held small
    ∙ ap (λ n. Ok (take (s.to - n) (drop (s.from - 0) (flat_map (λ b. b) (b ∷ bs))))) begins
    ∙ ap (λ n. Ok (take (s.to - s.from) (drop n (flat_map (λ b. b) (b ∷ bs))))) all
