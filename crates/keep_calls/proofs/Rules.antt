-- The rules of devices that are opened one after another: those of the first by `rules-next`, of all by `rules-all`.
use Rattle.std.proofs.Common.{◌≡◌, ◌+◌, ◌<◌, ℕ, zero, suc, List, [], ◌∷◌, ◌++◌, Option, None, Some, length, map, take, refl, sym, ◌∙◌, ap, arith}
use Rattle.std.proofs.lemmas.List.{length-map}
use Rattle.std.proofs.Math.Seq.{take-length}
use Rattle.std.specs.Prelude.{slice_get}
use Rattle.keep_spec.specs.Config.{Configuration}
use Rattle.keep_spec.specs.declared.config.Device.{Device}
use Rattle.keep_event.specs.declared.device.DeviceRules.{DeviceRules}
use Rattle.keep_event.specs.World.{device_rules, rules_of}
use Rattle.keep_volume.specs.Calls.{VolumeView}
use Rattle.keep_cluster.specs.Cluster.{HasDevices}

-- the rules of all devices of a configuration
abbrev pub all_rules : Configuration → List DeviceRules
all_rules c = map (λ (d : Device). rules_of c (Some d)) c.devices

abbrev pub HasFirst : Configuration → ℕ → List VolumeView → Type 0
HasFirst c number ds = map (λ (d : VolumeView). d.rules) ds ≡ take number (all_rules c)

map-last : {A B : Type 0} (f : A → B) (xs : List A) (x : A) → map f (xs ++ x ∷ []) ≡ map f xs ++ f x ∷ []
map-last f [] x = refl
map-last f (y ∷ xs) x = ap (λ z. f y ∷ z) (map-last f xs x)

take-next : {A B : Type 0} (f : A → B) (xs : List A) (k : ℕ) (x : A) → slice_get xs k ≡ Some x → take (k + 1) (map f xs) ≡ take k (map f xs) ++ f x ∷ []
take-next f [] k x e = absurd (no e)
  where
    no : None ≡ Some x → ⊥
    no e = cc
take-next f (y ∷ xs) zero x e = ap (λ z. f z ∷ []) (same e)
  where
    same : Some y ≡ Some x → y ≡ x
    same e = cc
take-next f (y ∷ xs) (suc k) x e = let n : suc k + 1 ≡ suc (k + 1) = omega arith in rw n (ap (λ z. f y ∷ z) (take-next f xs k x e))

none-past : {A : Type 0} (xs : List A) (k : ℕ) → k < length xs → slice_get xs k ≡ None → ⊥
none-past [] k lt e = absurd (omega (arith, lt))
none-past (x ∷ xs) zero lt e = no e
  where
    no : Some x ≡ None → ⊥
    no e = cc
none-past (x ∷ xs) (suc k) lt e = none-past xs k (omega (arith, lt)) e

pub rules-next : (c : Configuration) (number : ℕ) (ds : List VolumeView) (d : VolumeView) → number < length c.devices → HasFirst c number ds → d.rules ≡ device_rules c number → HasFirst c (number + 1) (ds ++ d ∷ [])
rules-next c number ds d lt has is = by (slice_get c.devices number) refl
  where
    by : (o : Option Device) → slice_get c.devices number ≡ o → HasFirst c (number + 1) (ds ++ d ∷ [])
    by None e = absurd (none-past c.devices number lt e)
    by (Some x) e = map-last (λ (d : VolumeView). d.rules) ds d ∙ (ap (λ rs. rs ++ d.rules ∷ []) has ∙ (ap (λ r. take number (all_rules c) ++ r ∷ []) (is ∙ ap (rules_of c) e) ∙ sym (take-next (λ (d : Device). rules_of c (Some d)) c.devices number x e)))

pub rules-all : (c : Configuration) (number : ℕ) (ds : List VolumeView) → number ≡ length c.devices → HasFirst c number ds → HasDevices c ds
rules-all c number ds e has = has ∙ whole (all_rules c) number (e ∙ sym (length-map c.devices (λ (d : Device). rules_of c (Some d))))
  where
    whole : (xs : List DeviceRules) (k : ℕ) → k ≡ length xs → take k xs ≡ xs
    whole xs k e = rw e (take-length xs)
