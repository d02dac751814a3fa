-- A device's first mount names the device.
use Rattle.std.proofs.Common.{◌≡◌, ◌==◌, ◌<◌, ◌≤◌, ◌&&◌, ◌||◌, ℕ, zero, suc, List, [], ◌∷◌, length, map, Bool, true, false, not, cond, Some, bytes_eq, refl, ◌∙◌, ap, subst, arith, inl, inr}
use Rattle.std.specs.Prelude.{◌⊎◌, find, option_map}
use Rattle.std.specs.List.{list_any}
use Rattle.std.specs.Option.{option_map_or}
use Rattle.std.proofs.lemmas.Bool.{and_parts, or_parts, not-true, eqb-true, cases_lt}
use Rattle.std.proofs.lemmas.Slice.Eq.{bytes_eq-Decides}
use Rattle.keep_spec.specs.Config.{Configuration, all_distinct, all_mounted}
use Rattle.keep_spec.specs.declared.config.Mount.{Mount}
use Rattle.keep_event.specs.Lists.{first_mount, device_of_mount, is_mount_of}

abbrev uuids : List Mount → List (List ℕ)
uuids mounts = map (λ m. m.uuid) mounts

abbrev is_mounted : ℕ → List Mount → Bool
is_mounted d mounts = list_any (λ m. m.device == d) mounts

abbrev name_in : ℕ → List Mount → List ℕ
name_in d mounts = option_map_or (λ m. m.uuid) (find (λ m. m.device == d) mounts) []

same-bytes : (xs : List ℕ) → bytes_eq xs xs ≡ true
same-bytes xs = (bytes_eq-Decides xs xs).1 refl

-- a UUID that none of the mounts has isn't the device's name
other-name : (x : List ℕ) (d : ℕ) (ms : List Mount) → list_any (bytes_eq x) (uuids ms) ≡ false → is_mounted d ms ≡ true → bytes_eq x (name_in d ms) ≡ false
other-name x d [] none some = cc some
other-name x d (m ∷ ms) none some = (let p = or_parts (bytes_eq x m.uuid) (list_any (bytes_eq x) (uuids ms)) none in by p.0 (other-name x d ms p.1) (m.device == d) some)
  where
    by : bytes_eq x m.uuid ≡ false → (is_mounted d ms ≡ true → bytes_eq x (name_in d ms) ≡ false) → (b : Bool) → (b || is_mounted d ms) ≡ true
        → bytes_eq x (option_map_or (λ m. m.uuid) (cond b (Some m) (find (λ m. m.device == d) ms)) []) ≡ false
    by here later true some = here
    by here later false some = later some

device-named : (d : ℕ) (ms : List Mount) → all_distinct (uuids ms) ≡ true → is_mounted d ms ≡ true → option_map (λ m. m.device) (find (λ m. bytes_eq m.uuid (name_in d ms)) ms) ≡ Some d
device-named d [] distinct some = cc some
device-named d (m ∷ ms) distinct some =
    let p = and_parts (not (list_any (bytes_eq m.uuid) (uuids ms))) (all_distinct (uuids ms)) distinct in
    by (other-name m.uuid d ms (not-true (list_any (bytes_eq m.uuid) (uuids ms)) p.0)) (device-named d ms p.1) (m.device == d) refl some
  where
    by : (is_mounted d ms ≡ true → bytes_eq m.uuid (name_in d ms) ≡ false)
        → (is_mounted d ms ≡ true → option_map (λ m. m.device) (find (λ m. bytes_eq m.uuid (name_in d ms)) ms) ≡ Some d) → (b : Bool) → (m.device == d) ≡ b → (b || is_mounted d ms) ≡ true
        → option_map (λ m. m.device) (find (λ n. bytes_eq n.uuid (option_map_or (λ m. m.uuid) (cond b (Some m) (find (λ m. m.device == d) ms)) [])) (m ∷ ms)) ≡ Some d
    by other later true e some =
        ap (λ b. option_map (λ m. m.device) (cond b (Some m) (find (λ n. bytes_eq n.uuid m.uuid) ms))) (same-bytes m.uuid) ∙ ap Some (eqb-true m.device d e)
    by other later false e some =
        ap (λ b. option_map (λ m. m.device) (cond b (Some m) (find (λ n. bytes_eq n.uuid (name_in d ms)) ms))) (other some)
        ∙ later some

mount-named : (d : ℕ) (ms : List Mount) → is_mounted d ms ≡ true → list_any (λ m. (m.device == d) && bytes_eq m.uuid (name_in d ms)) ms ≡ true
mount-named d [] some = cc some
mount-named d (m ∷ ms) some = by (mount-named d ms) (m.device == d) refl some
  where
    by : (is_mounted d ms ≡ true → list_any (λ m. (m.device == d) && bytes_eq m.uuid (name_in d ms)) ms ≡ true) → (b : Bool) → (m.device == d) ≡ b → (b || is_mounted d ms) ≡ true
        → list_any (λ n. (n.device == d) && bytes_eq n.uuid (option_map_or (λ m. m.uuid) (cond b (Some m) (find (λ m. m.device == d) ms)) [])) (m ∷ ms) ≡ true
    by later true e some =
        ap (λ b. (b && bytes_eq m.uuid m.uuid) || list_any (λ n. (n.device == d) && bytes_eq n.uuid m.uuid) ms) e
        ∙ ap (λ b. b || list_any (λ n. (n.device == d) && bytes_eq n.uuid m.uuid) ms) (same-bytes m.uuid)
    by later false e some =
        ap (λ b. (b && bytes_eq m.uuid (name_in d ms)) || list_any (λ n. (n.device == d) && bytes_eq n.uuid (name_in d ms)) ms) e
        ∙ later some

mounted-below : (n d : ℕ) (ms : List Mount) → d < n → all_mounted n ms ≡ true → is_mounted d ms ≡ true
mounted-below zero d ms lt all = absurd (omega arith)
mounted-below (suc n) d ms lt all = (let p = and_parts (is_mounted n ms) (all_mounted n ms) all in by p.0 (λ less. mounted-below n d ms less p.1) (cases_lt d n))
  where
    by : is_mounted n ms ≡ true → (d < n → is_mounted d ms ≡ true) → (d < n) ⊎ (n ≤ d) → is_mounted d ms ≡ true
    by last below (inl less) = below less
    by last below (inr more) = let e : n ≡ d = omega arith in subst (λ k. is_mounted k ms ≡ true) e last

module _ (c : Configuration) (mounted : all_mounted (length c.devices) c.mounts ≡ true) (d : ℕ) (configured : d < length c.devices) where
  pub device-again : all_distinct (map (λ m. m.uuid) c.mounts) ≡ true → device_of_mount c (first_mount c d) ≡ Some d
  device-again distinct = device-named d c.mounts distinct (mounted-below (length c.devices) d c.mounts configured mounted)

  pub mount-again : is_mount_of c d (first_mount c d) ≡ true
  mount-again = mount-named d c.mounts (mounted-below (length c.devices) d c.mounts configured mounted)
