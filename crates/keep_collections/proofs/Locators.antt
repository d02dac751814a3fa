-- The locators of a manifest that some text reads to are locators.
use Rattle.std.proofs.Common.{◌≡◌, List, [], ◌∷◌, ℕ, true, refl, ◌∙◌, ap}
use Rattle.std.specs.Prelude.{Some}
use Rattle.std.specs.List.{list_all, flat_map}
use Rattle.std.proofs.lemmas.Bool.{and_parts, and_from}
use Rattle.std.proofs.lemmas.List.Folds.{list_all-append}
use Rattle.std.proofs.lemmas.List.Concat.{flat_map-cons}
use Rattle.keep_spec.specs.Locator.{is_locator}
use Rattle.keep_spec.specs.Manifest.{manifest_of}
use Rattle.keep_spec.specs.declared.manifest.Manifest.{Manifest}
use Rattle.keep_spec.specs.declared.manifest.Stream.{Stream}
use Rattle.keep_event.specs.Requests.{locators_in}
use Rattle.keep_manifest.specs.Good.{is_good_stream}
use Rattle.keep_manifest.proofs.GoodManifests.{good_is}

stream-locators : (s : Stream) → is_good_stream s ≡ true → list_all is_locator s.locators ≡ true
stream-locators s e = (and_parts _ _ (and_parts _ _ e).0).1

streams-locators : (ss : List Stream) → list_all is_good_stream ss ≡ true → list_all is_locator (flat_map (λ s. s.locators) ss) ≡ true
streams-locators [] e = refl
streams-locators (s ∷ ss) e =
    let parts = and_parts (is_good_stream s) (list_all is_good_stream ss) e in
    ap (list_all is_locator) (flat_map-cons (λ s. s.locators) s ss) ∙ list_all-append is_locator s.locators (flat_map (λ s. s.locators) ss)
    ∙ and_from (list_all is_locator s.locators) (list_all is_locator (flat_map (λ s. s.locators) ss)) (stream-locators s parts.0) (streams-locators ss parts.1)

pub all-locators : (text : List ℕ) (m : Manifest) → manifest_of text ≡ Some m → list_all is_locator (locators_in m) ≡ true
all-locators text m e = streams-locators m.streams (good_is m (text, e))
