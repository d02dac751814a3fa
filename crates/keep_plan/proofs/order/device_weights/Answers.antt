use Rattle.std.proofs.Common.{◌≡◌, ◌+◌, ◌<◌, ◌==◌, ℕ, map, filter, length, ap, sym, ◌∙◌, subst, arith, ◌++◌, ◌∷◌, [], List, true, not, if◌then◌else◌, unwrap_or, slice_index_or}
use Rattle.std.specs.Result.{is_ok}
use Rattle.std.specs.List.{list_any}
use Rattle.std.proofs.lemmas.List.{length-map, map-append}
use Rattle.keep_spec.specs.Config.{Configuration, are_mounts}
use Rattle.keep_spec.specs.Members.{numbers_from}
use Rattle.keep_spec.specs.Order.{weight, greatest_of, device_weight}
use Rattle.keep_spec.specs.declared.config.Mount.{Mount}
use Rattle.keep_spec.specs.declared.config.Server.{Server}
use Rattle.keep_plan.proofs.Numbers.{one-more}
use Rattle.keep_plan.proofs.Weights.{good-servers, all-good, weight-is}
use Rattle.keep_plan.proofs.order.device_weights.Goals as goal

pub heaviest-heaviest-requires : goal.heaviest-heaviest-requires
heaviest-heaviest-requires c = λ k d lt.
    let cfg = c.args.config.now in
    let mounts : c.as_slice-mounts.result.now ≡ c.config.inside.mounts = c.as_slice-mounts.ensures in
    let servers : length c.deref.result.now ≡ length cfg.servers = ap length (c.deref.ensures.value ∙ c.in_ok-servers.ensures) ∙ length-map cfg.servers (λ (s : Server). weight c.args.digest s.uuid) in
    let same : length c.config.inside.servers ≡ length cfg.servers = ap (λ (v : Configuration). length v.servers) c.config.view_is in
    let good = good-servers (length c.config.inside.devices) (length c.config.inside.servers) c.config.inside.mounts c.config.invariant.mounts in
    let below : (slice_index_or c.as_slice-mounts.result.now k d).server < length c.config.inside.servers = subst (λ (ms : List Mount). k < length ms → (slice_index_or ms k d).server < length c.config.inside.servers) (sym mounts) (good k d) lt in
    omega arith

pub loop-device-preserved : goal.loop-device-preserved
loop-device-preserved c =
    let cfg = c.args.config.now in
    let h = c.args.digest in
    let d = c.loop-device.device in
    let zeros = c.unwrap_or.result in
    let mounts : c.as_slice-mounts.result.now ≡ cfg.mounts = c.as_slice-mounts.ensures ∙ ap (λ (v : Configuration). v.mounts) c.config.view_is in
    let servers : c.deref.result.now ≡ map (λ (s : Server). weight h s.uuid) cfg.servers = c.deref.ensures.value ∙ c.in_ok-servers.ensures in
    let devices : length c.config.inside.devices ≡ length cfg.devices = ap (λ (v : Configuration). length v.devices) c.config.view_is in
    let good : are_mounts (length cfg.devices) (length cfg.servers) cfg.mounts ≡ true =
    subst (λ (v : Configuration). are_mounts (length v.devices) (length v.servers) v.mounts ≡ true) c.config.view_is c.config.invariant.mounts in
    let end : c.len-device-end.result ≡ length c.config.inside.devices = c.len-device-end.ensures in
    let lt : d < length cfg.devices = omega arith in
    let here = all-good (length cfg.devices) (length cfg.servers) d cfg.mounts good lt in
    let heavy = subst (λ (ms : List Mount). unwrap_or c.heaviest-heaviest.result [] ≡ greatest_of (map (λ m. slice_index_or c.deref.result.now m.server []) (filter (λ m. m.device == d) ms))) mounts c.heaviest-heaviest.ensures.weight in
    let some = c.heaviest-heaviest.ensures.mounted ∙ ap (list_any (λ (m : Mount). m.device == d)) mounts in
    let is : c.unwrap_or.result ≡ device_weight cfg h d = c.unwrap_or.ensures ∙ weight-is cfg h d c.deref.result.now c.heaviest-heaviest.result _ servers heavy some here in
    let ok : is_ok c.push.result ≡ true = c.is_err.ensures.negation ∙ ap not c.if-is_err.false in
    let next : 0 + d ≡ d = omega arith in
    c.push.ensures.items
    ∙ ap (λ b. if b then c.loop-device.weights.items ++ c.unwrap_or.result ∷ [] else c.loop-device.weights.items) ok
    ∙ ap (λ (l : List (List ℕ)). l ++ c.unwrap_or.result ∷ []) c.loop-device.invariant
    ∙ ap (λ (v : List ℕ). map (device_weight cfg h) (numbers_from 0 d) ++ v ∷ []) (is ∙ ap (device_weight cfg h) (sym next))
    ∙ sym (ap (map (device_weight cfg h)) (one-more 0 d) ∙ map-append (device_weight cfg h) (numbers_from 0 d) ((0 + d) ∷ []))
