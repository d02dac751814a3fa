-- The devices of a server are devices of the configuration.
use Rattle.std.proofs.Common.{◌≡◌, ℕ, ◌==◌, ◌<◌, List, [], ◌∷◌, length, map, filter, Bool, true, false, cond, not, All}
use Rattle.std.specs.List.{list_all, AllByRecursion}
use Rattle.std.proofs.lemmas.Bool.{and_parts, ltb-true}
use Rattle.std.proofs.lemmas.List.Elements.{All-from_recursion, recursion_from_All, All-filter}
use Rattle.keep_spec.specs.Config.{Configuration, IsGood, firsts, devices_of, is_mount}
use Rattle.keep_spec.specs.declared.config.Mount.{Mount}

-- what holds of each of a list holds of each of its firsts
AllByRecursion-firsts : (P : ℕ → Type 0) (xs : List ℕ) → AllByRecursion P xs → AllByRecursion P (firsts xs)
AllByRecursion-firsts P [] h = tt
AllByRecursion-firsts P (x ∷ xs) h =
    (h.0, recursion_from_All P (filter (λ y. not (x == y)) (firsts xs)) (All-filter (λ y. not (x == y)) P (firsts xs) (All-from_recursion P (firsts xs) (AllByRecursion-firsts P xs h.1))))

AllByRecursion-cond : (P : ℕ → Type 0) (b : Bool) (m : Mount) (ms : List Mount) → P m.device → AllByRecursion P (map (λ m. m.device) ms) → AllByRecursion P (map (λ m. m.device) (cond b (m ∷ ms) ms))
AllByRecursion-cond P true m ms h hs = (h, hs)
AllByRecursion-cond P false m ms h hs = hs

AllByRecursion-on_server : (devices servers server : ℕ) (ms : List Mount) → list_all (is_mount devices servers) ms ≡ true → AllByRecursion (λ d. d < devices) (map (λ m. m.device) (filter (λ m. m.server == server) ms))
AllByRecursion-on_server devices servers server [] h = tt
AllByRecursion-on_server devices servers server (m ∷ ms) h =
    let each = and_parts _ _ h in
    let parts = and_parts _ _ (and_parts _ _ each.0).0 in
    AllByRecursion-cond (λ d. d < devices) (m.server == server) m (filter (λ m. m.server == server) ms) (ltb-true m.device devices parts.1) (AllByRecursion-on_server devices servers server ms each.1)

pub devices_of-within : (c : Configuration) (server : ℕ) → IsGood c → All (λ d. d < length c.devices) (devices_of c server)
devices_of-within c server good =
    let mounts = and_parts _ _ (and_parts _ _ (and_parts _ _ good.mounts).0).0 in
    let on = AllByRecursion-on_server (length c.devices) (length c.servers) server c.mounts mounts.1 in
    All-from_recursion (λ d. d < length c.devices) (devices_of c server) (AllByRecursion-firsts (λ d. d < length c.devices) _ on)
