-- How a collection is named in texts, and the text of a row as its reader gets it. The form of the UUID is that of Arvados; the rest is this project's own rule.
use Rattle.std.specs.Prelude.{ℕ, ◌-◌, ◌==◌, ◌&&◌, Bool, List, ◌++◌, length, slice_range, replicate, is_some, Option, None, Some, unwrap_or, if◌then◌else◌, codes}
use Rattle.std.specs.Str.{bytes_eq}
use Rattle.std.specs.Fmt.{decimal}
use Rattle.keep_spec.specs.Config.{Configuration}
use Rattle.keep_spec.specs.Manifest.{manifest_of, number_of}
use Rattle.keep_spec.specs.SignedText.{signed, with_locators}

-- ---- UUIDs

-- a number in decimal, with zeros before it up to 15 digits
abbrev pub padded : ℕ → List ℕ
padded n = replicate (15 - length (decimal n)) 48 ++ decimal n

-- the middle part of a collection's UUID, between its hyphens
abbrev pub kind_of_collections : List ℕ
kind_of_collections = codes "-4zz18-"

-- the UUID of a collection: the cluster's name, the kind, and the number
unfoldable pub collection_uuid : Configuration → ℕ → List ℕ
collection_uuid c n = c.cluster ++ kind_of_collections ++ padded n

-- 27 bytes, of which the first 12 are those of each UUID of the cluster's collections
abbrev pub has_collection_form : Configuration → List ℕ → Bool
has_collection_form c text =
    (length text == 27) && bytes_eq (slice_range text 0 5) c.cluster && bytes_eq (slice_range text 5 12) kind_of_collections

-- the number in the UUID of a collection, 15 decimal digits; any other text has the number 0, which no collection has
unfoldable pub collection_number : Configuration → List ℕ → ℕ
collection_number c text = if has_collection_form c text then unwrap_or (number_of (slice_range text 12 27)) 0 else 0

-- ---- rows

-- a row's text as its reader gets it: with an expiry, each locator is signed for the token until then; a text that isn't a manifest, which the table never gives, stays
unfoldable pub signed_row : Configuration → List ℕ → Option ℕ → List ℕ → List ℕ
signed_row c token None text = text
signed_row c token (Some expiry) text = if is_some (manifest_of text) then with_locators (signed token expiry c.ttl c.secret) text else text
