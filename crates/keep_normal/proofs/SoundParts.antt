-- Sound parts stay sound.
-- Laws: `sound_is`, `sound_from`, `touch_is`, `both_sound`, `after_sound`, `part_joins`, `span_joins`, `span_read`.
use Rattle.std.proofs.Common.{◌≡◌, ℕ, ◌+◌, ◌<◌, ◌≤◌, ltb, leb, eqb, Bool, true, false, cond, ◌&&◌, List, [], ◌∷◌, refl, ap, sym, ◌∙◌, arith, ◌^◌, add_assoc}
use Rattle.std.specs.Str.{bytes_eq}
use Rattle.std.proofs.lemmas.Bool.{and_parts, and_from, lt-ltb, le-leb, ltb-true, leb-true, eqb-true}
use lib.Pointwise.{bytes_decides}
use Rattle.keep_spec.specs.Locator.{is_locator, size, stripped}
use Rattle.keep_spec.proofs.LocatorText.{size-lt}
use Rattle.keep_normal.specs.declared.part.Part.{Part}
use Rattle.keep_normal.specs.Files.{touch, both_parts}
use Rattle.keep_normal.specs.Normal.{meet, both_spans, span_in, start_at}
use Rattle.keep_normal.specs.declared.span.Span.{Span}
use Rattle.std.specs.Prelude.{unwrap_or}
use Rattle.keep_normal.specs.Joined.{joined_after}
use Rattle.keep_normal.specs.Sound.{is_sound, are_sound}
use Rattle.keep_normal.proofs.JoinedNeighbours.{IsJoining}
use Rattle.keep_normal.proofs.StrippedLocators.{size_same}

abbrev part_of : List ℕ → ℕ → ℕ → Part
part_of locator offset length = record { locator = locator; offset = offset; length = length }

pub record IsWithin (p : Part) : Type 0 where
  pub locator : is_locator p.locator ≡ true
  pub some : 0 < p.length
  pub ends : p.offset + p.length ≤ size p.locator
  pub short : size p.locator < 10 ^ 19

pub sound_is : (p : Part) → is_sound p ≡ true → IsWithin p
sound_is p h =
    let a = and_parts (is_locator p.locator && ltb 0 p.length) (leb (p.offset + p.length) (size p.locator)) h in
    let b = and_parts (is_locator p.locator) (ltb 0 p.length) a.0 in
    record { locator = b.0; some = ltb-true 0 p.length b.1; ends = leb-true (p.offset + p.length) (size p.locator) a.1; short = size-lt p.locator b.0 }

pub sound_from : (p : Part) → is_locator p.locator ≡ true → 0 < p.length → p.offset + p.length ≤ size p.locator → is_sound p ≡ true
sound_from p l s e = and_from (is_locator p.locator && ltb 0 p.length) (leb (p.offset + p.length) (size p.locator)) (and_from (is_locator p.locator) (ltb 0 p.length) l (lt-ltb 0 p.length s)) (le-leb (p.offset + p.length) (size p.locator) e)

-- what touching means
pub record IsTouching (p q : Part) : Type 0 where
  pub one_block : stripped p.locator ≡ stripped q.locator
  pub next : p.offset + p.length ≡ q.offset

pub touch_is : (p q : Part) → touch p q ≡ true → IsTouching p q
touch_is p q h =
    let a = and_parts (bytes_eq (stripped p.locator) (stripped q.locator)) (eqb (p.offset + p.length) q.offset) h in
    record { one_block = (bytes_decides (stripped p.locator) (stripped q.locator)).0 a.0; next = eqb-true (p.offset + p.length) q.offset a.1 }

pub both_sound : (p q : Part) → touch p q ≡ true → is_sound p ≡ true → is_sound q ≡ true → is_sound (both_parts p q) ≡ true
both_sound p q t hp hq =
    let touching = touch_is p q t in
    let a = sound_is p hp in
    let b = sound_is q hq in
    let same = size_same p.locator q.locator touching.one_block in
    let next = touching.next in
    sound_from (both_parts p q) a.locator (omega (arith, a.some)) (omega (arith, a.some, b.ends, same, next))

-- joined after others
pub after_sound : (ps : List Part) (q : Part) → are_sound ps ≡ true → is_sound q ≡ true → are_sound (joined_after touch both_parts ps q) ≡ true
after_sound [] q h hq = and_from (is_sound q) true hq refl
after_sound (p ∷ []) q h hq = by_touch (touch p q) refl
  where
    hp : is_sound p ≡ true
    hp = (and_parts (is_sound p) true h).0

    by_touch : (t : Bool) → touch p q ≡ t → are_sound (cond t (both_parts p q ∷ []) (p ∷ q ∷ [])) ≡ true
    by_touch true t = and_from (is_sound (both_parts p q)) true (both_sound p q t hp hq) refl
    by_touch false t = and_from (is_sound p) (are_sound (q ∷ [])) hp (and_from (is_sound q) true hq refl)
after_sound (p ∷ r ∷ rs) q h hq =
    let parts = and_parts (is_sound p) (are_sound (r ∷ rs)) h in
    and_from (is_sound p) (are_sound (joined_after touch both_parts (r ∷ rs) q)) parts.0 (after_sound (r ∷ rs) q parts.1 hq)

pub part_joins : IsJoining touch both_parts
part_joins = record {
  first = λ x y z t. refl;
  last = λ x y z t.
      let is = touch_is x y t in
      let end : x.offset + (x.length + y.length) ≡ y.offset + y.length = omega (arith, is.next) in
      ap (λ s. bytes_eq s (stripped z.locator) && eqb (x.offset + (x.length + y.length)) z.offset) is.one_block
      ∙ ap (λ n. bytes_eq (stripped y.locator) (stripped z.locator) && eqb n z.offset) end;
  order = λ x y z. ap (λ n. part_of x.locator x.offset n) (sym (add_assoc x.length y.length z.length));
}

pub span_joins : IsJoining meet both_spans
span_joins = record { first = λ x y z t. refl; last = λ x y z t. refl; order = λ x y z. refl }

abbrev pub span_from : ℕ → ℕ → Span
span_from from length = record { from = from; to = from + length }

pub span_read : (bs : List (List ℕ)) (p : Part) (start offset length : ℕ) → start ≡ unwrap_or (start_at bs p.locator) 0 → offset ≡ p.offset → length ≡ p.length → span_from (start + offset) length ≡ span_in bs p
span_read bs p start offset length e₁ e₂ e₃ = ap (λ n. span_from (n + offset) length) e₁ ∙ ap (λ n. span_from (unwrap_or (start_at bs p.locator) 0 + n) length) e₂ ∙ ap (span_from (unwrap_or (start_at bs p.locator) 0 + p.offset)) e₃
