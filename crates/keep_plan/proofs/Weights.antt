-- The weight of a device.
use Rattle.std.proofs.Common.{◌≡◌, ◌<◌, ℕ, zero, suc, List, [], ◌∷◌, length, map, filter, true, refl, ap, ◌∙◌, arith, Option, None, Some, slice_index_or, inl, inr}
use Rattle.std.specs.Prelude.{unwrap_or, ◌⊎◌, ◌==◌, ◌&&◌, is_some, nat_lt, slice_get, bytes_eq, codes}
use Rattle.std.specs.List.{list_any, list_all}
use Rattle.std.specs.Option.{option_map_or}
use Rattle.std.proofs.Math.Path.{fun_ext}
use Rattle.std.proofs.lemmas.Bool.{and_parts, ltb-true, cases_eq}
use Rattle.keep_spec.specs.Uuid.{uuid_kind}
use Rattle.keep_spec.specs.Config.{Configuration, is_mount, all_mounted, are_mounts, all_distinct, is_within}
use Rattle.keep_spec.specs.Order.{weight, greater_of, greatest_of, server_weight, device_weight}
use Rattle.keep_spec.specs.declared.config.Mount.{Mount}
use Rattle.keep_spec.specs.declared.config.Server.{Server}

pub above-none : (x : List ℕ) → x ≡ greater_of x []
above-none [] = refl
above-none (x ∷ xs) = refl

at-mapped : {X : Type 0} (f : X → List ℕ) (xs : List X) (n : ℕ) → slice_index_or (map f xs) n [] ≡ option_map_or f (slice_get xs n) []
at-mapped f [] n = refl
at-mapped f (x ∷ xs) zero = refl
at-mapped f (x ∷ xs) (suc n) = at-mapped f xs n

-- what a good configuration says of its mounts
server-within : (n s : ℕ) (ms : List Mount) → list_all (is_mount n s) ms ≡ true → (k : ℕ) (d : Mount) → k < length ms → (slice_index_or ms k d).server < s
server-within n s [] e k d lt = absurd (omega arith)
server-within n s (m ∷ ms) e zero d lt =
    let first = and_parts (is_mount n s m) (list_all (is_mount n s) ms) e in
    let parts = and_parts (bytes_eq (uuid_kind m.uuid) (codes "nyw5e") && nat_lt m.device n) (nat_lt m.server s) first.0 in
    let below = ltb-true m.server s parts.1 in
    omega arith
server-within n s (m ∷ ms) e (suc k) d lt =
    let first = and_parts (is_mount n s m) (list_all (is_mount n s) ms) e in
    server-within n s ms first.1 k d (omega arith)

pub good-servers : (n s : ℕ) (ms : List Mount) → are_mounts n s ms ≡ true → (k : ℕ) (d : Mount) → k < length ms → (slice_index_or ms k d).server < s
good-servers n s ms good =
    let a = and_parts (is_within 1 256 (length ms) && list_all (is_mount n s) ms && all_distinct (map (λ m. m.uuid) ms)) (all_mounted n ms) good in
    let b = and_parts (is_within 1 256 (length ms) && list_all (is_mount n s) ms) (all_distinct (map (λ m. m.uuid) ms)) a.0 in
    let e = and_parts (is_within 1 256 (length ms)) (list_all (is_mount n s) ms) b.0 in
    server-within n s ms e.1

mounted-by : (n d : ℕ) (ms : List Mount) → (d ≡ n) ⊎ (d ≡ n → ⊥) → list_any (λ m. m.device == n) ms ≡ true → ((d ≡ n → ⊥) → list_any (λ m. m.device == d) ms ≡ true) → list_any (λ m. m.device == d) ms ≡ true
mounted-by n d ms (inl e) is rest = ap (λ v. list_any (λ (m : Mount). m.device == v) ms) e ∙ is
mounted-by n d ms (inr ne) is rest = rest ne

mounted : (n d : ℕ) (ms : List Mount) → all_mounted n ms ≡ true → d < n → list_any (λ m. m.device == d) ms ≡ true
mounted zero d ms e lt = absurd (omega arith)
mounted (suc n) d ms e lt =
    let parts = and_parts (list_any (λ m. m.device == n) ms) (all_mounted n ms) e in
    mounted-by n d ms (cases_eq d n) parts.0 (λ ne. mounted n d ms parts.1 (omega arith))

pub all-good : (n s d : ℕ) (ms : List Mount) → are_mounts n s ms ≡ true → d < n → list_any (λ m. m.device == d) ms ≡ true
all-good n s d ms good lt =
    let a = and_parts (is_within 1 256 (length ms) && list_all (is_mount n s) ms && all_distinct (map (λ m. m.uuid) ms)) (all_mounted n ms) good in
    mounted n d ms a.1 lt

some-given : (o : Option (List ℕ)) (z : List ℕ) → is_some o ≡ true → unwrap_or o z ≡ unwrap_or o []
some-given None z e = cc e
some-given (Some x) z e = refl

pub weight-is : (c : Configuration) (h : List ℕ) (d : ℕ) (ws : List (List ℕ)) (o : Option (List ℕ)) (z : List ℕ) → ws ≡ map (λ s. weight h s.uuid) c.servers →
    unwrap_or o [] ≡ greatest_of (map (λ m. slice_index_or ws m.server []) (filter (λ m. m.device == d) c.mounts)) →
    is_some o ≡ list_any (λ m. m.device == d) c.mounts → list_any (λ m. m.device == d) c.mounts ≡ true →
    unwrap_or o z ≡ device_weight c h d
weight-is c h d ws o z are is some here =
    let each : (λ (m : Mount). slice_index_or ws m.server []) ≡ (λ (m : Mount). server_weight c h m.server) =
    fun_ext (λ (m : Mount). ap (λ (l : List (List ℕ)). slice_index_or l m.server []) are ∙ at-mapped (λ (s : Server). weight h s.uuid) c.servers m.server) in
    some-given o z (some ∙ here) ∙ is ∙ ap (λ (f : Mount → List ℕ). greatest_of (map f (filter (λ m. m.device == d) c.mounts))) each
