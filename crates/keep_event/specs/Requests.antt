-- The table machine's reply to each query as it is asked: by a token's text, and a save or an update with all that is tested of its request. This is the project's own rule.
use Rattle.std.specs.Prelude.{ℕ, ⊤, ◌+◌, ◌<◌, ◌&&◌, nat_le, Bool, List, [], ◌∷◌, length, Option, None, Some, option_map, Result, Ok, Err, if◌then◌else◌}
use Rattle.std.specs.List.{flat_map}
use Rattle.std.specs.Option.{option_or, option_map_or}
use Rattle.std.specs.Ordering.{nat_cmp, match_ordering}
use Rattle.std.specs.Cmp.Lexicographic.{slice_cmp}
use Rattle.std.specs.Str.{bytes_eq}
use Rattle.keep_spec.specs.Config.{Configuration, token_of}
use Rattle.keep_spec.specs.Locator.{is_empty_block}
use Rattle.keep_spec.specs.Manifest.{manifest_of, named}
use Rattle.keep_spec.specs.Portable.{portable_text}
use Rattle.keep_spec.specs.Refusals.{bad}
use Rattle.keep_spec.specs.Sign.{verdict}
use Rattle.keep_spec.specs.SignedText.{unsigned, with_locators}
use Rattle.keep_spec.specs.Stripped.{portable_hash}
use Rattle.keep_spec.specs.Times.{IsReading}
use Rattle.keep_spec.specs.declared.manifest.Manifest.{Manifest}
use Rattle.keep_spec.specs.declared.manifest.Refusal.{Refusal}
use Rattle.keep_spec.specs.declared.portable.Portable.{Portable}
use Rattle.keep_spec.specs.declared.token.TokenId.{TokenId}
use Rattle.keep_spec.specs.declared.unverified.Verified.{Verified}
use Rattle.keep_spec.specs.declared.unverified.Unverified.{Unverified}
use Rattle.keep_event.specs.Table.{State, Reply, stays, begin_round, create, updatable, refusal_of, update, read, set_trash, restore, sweep, scan}
use Rattle.keep_event.specs.declared.table.TableRules.{TableRules}
use Rattle.keep_event.specs.declared.table.NewRecord.{NewRecord}
use Rattle.keep_event.specs.declared.table.SaveRequest.{SaveRequest}
use Rattle.keep_event.specs.declared.table.TableAnswer.{TableAnswer}
use Rattle.keep_event.specs.declared.table.TableAnswer.TheVariants.{UnknownToken, BadManifest, Unsigned, WrongHash, BadWant}
use Rattle.keep_event.specs.declared.table.TableQuery.{TableQuery}
use Rattle.keep_event.specs.declared.table.TableQuery.TheVariants as queries

-- what the table has of a configuration
abbrev pub rules_of : Configuration → TableRules
rules_of c = record { tokens = length c.tokens; versions = c.versions; ttl = c.ttl; skew = c.skew }

-- what may be asked: a time that is set is a reading, and a page of a scan has room for a row
abbrev pub MayAskTable : TableQuery → Type 0
MayAskTable queries.BeginRound = ⊤
MayAskTable (queries.Save request) = ⊤
MayAskTable (queries.Update collection preserve request) = ⊤
MayAskTable (queries.Read token collection version) = ⊤
MayAskTable (queries.SetTrash token collection trash_at delete_at) = IsReading trash_at
MayAskTable (queries.Restore token collection) = ⊤
MayAskTable queries.Sweep = ⊤
MayAskTable (queries.Scan round after limit) = 0 < limit

-- ---- what is tested of a request, in this order

abbrev pub refused_at : Refusal → TableAnswer
refused_at refusal = BadManifest refusal.at refusal.kind

-- the text is a manifest
abbrev pub bad_manifest : List ℕ → Option TableAnswer
bad_manifest text = option_map refused_at (bad text)

-- the locators of a manifest, those of empty blocks included
abbrev pub locators_in : Manifest → List (List ℕ)
locators_in m = flat_map (λ s. s.locators) m.streams

abbrev pub locators_of : List ℕ → List (List ℕ)
locators_of text = option_map_or locators_in (manifest_of text) []

abbrev pub cause_of : Result Verified Unverified → Option Unverified
cause_of (Ok triple) = None
cause_of (Err why) = Some why

-- why a locator isn't signed for a token at a reading; an empty block needs no signature
abbrev pub unsigned_because : Configuration → List ℕ → ℕ → List ℕ → Option Unverified
unsigned_because c token reading locator =
    if is_empty_block locator then None else cause_of (verdict locator token c.ttl c.secret reading)

-- the refusal of the first locator for which there is a cause; `index` is the number of the list's first locator in the text
abbrev pub first_unsigned : (List ℕ → Option Unverified) → ℕ → List (List ℕ) → Option TableAnswer
first_unsigned why index [] = None
first_unsigned why index (locator ∷ locators) = option_or (option_map (Unsigned index) (why locator)) (first_unsigned why (index + 1) locators)

-- each locator is signed for the token
abbrev pub bad_signature : Configuration → ℕ → SaveRequest → Option TableAnswer
bad_signature c reading request = first_unsigned (unsigned_because c request.token reading) 0 (locators_of request.text)

-- a claimed hash is the text of the computed one
abbrev pub wrong_hash : Portable → Option (List ℕ) → Option TableAnswer
wrong_hash computed None = None
wrong_hash computed (Some claimed) = if bytes_eq claimed (portable_text computed) then None else Some (WrongHash computed)

-- from 1 to 255 copies are wanted
abbrev pub bad_want : ℕ → Option TableAnswer
bad_want want = if nat_le 1 want && nat_le want 255 then None else Some BadWant

abbrev pub refusal_of_request : Configuration → ℕ → SaveRequest → Option TableAnswer
refusal_of_request c reading request =
    option_or (bad_manifest request.text)
    (option_or (bad_signature c reading request)
    (option_or (wrong_hash (portable_hash request.text) request.portable) (bad_want request.want)))

-- ---- what is stored of a good request

-- an ascending list with a digest inserted, unless it has it
abbrev pub inserted : List ℕ → List (List ℕ) → List (List ℕ)
inserted x [] = x ∷ []
inserted x (y ∷ ys) = match_ordering (slice_cmp nat_cmp x y) (x ∷ y ∷ ys) (y ∷ ys) (y ∷ inserted x ys)

-- the members of a list, ascending, each once
abbrev pub ascending : List (List ℕ) → List (List ℕ)
ascending [] = []
ascending (x ∷ xs) = inserted x (ascending xs)

-- the digests of a text but the empty block's
abbrev pub digests_of : List ℕ → List (List ℕ)
digests_of text = option_map_or (λ m. ascending (named m)) (manifest_of text) []

-- the record of a good request; its text is stored without permission hints
abbrev pub made_of : SaveRequest → NewRecord
made_of request = record {
  text = with_locators unsigned request.text;
  named = digests_of request.text;
  portable = portable_hash request.text;
  want = request.want;
}

-- ---- the lines

-- where there is a refusal, nothing changes
abbrev pub if_allowed : Option TableAnswer → State → Reply → Reply
if_allowed None s reply = reply
if_allowed (Some refusal) s reply = stays refusal s

abbrev pub by_token : Option TokenId → State → (TokenId → Reply) → Reply
by_token None s next = stays UnknownToken s
by_token (Some token) s next = next token

-- the configuration's token of a text
abbrev pub known : Configuration → List ℕ → State → (TokenId → Reply) → Reply
known c text s next = by_token (token_of c text) s next

unfoldable pub save : Configuration → ℕ → SaveRequest → State → Reply
save c reading request s =
    known c request.token s (λ token. if_allowed (refusal_of_request c reading request) s (create token (made_of request) s))

-- the collection is tested before the request
unfoldable pub update_line : Configuration → ℕ → ℕ → Bool → SaveRequest → State → Reply
update_line c reading collection preserve request s =
    known c request.token s (λ token.
    if_allowed (option_or (refusal_of (updatable reading token collection s)) (refusal_of_request c reading request)) s
    (update (rules_of c) reading token collection (made_of request) preserve s))

-- the line of a query
abbrev pub table_line : Configuration → ℕ → TableQuery → State → Reply
table_line c reading queries.BeginRound s = begin_round reading s
table_line c reading (queries.Save request) s = save c reading request s
table_line c reading (queries.Update collection preserve request) s = update_line c reading collection preserve request s
table_line c reading (queries.Read token collection version) s = known c token s (λ t. read (rules_of c) reading t collection version s)
table_line c reading (queries.SetTrash token collection trash_at delete_at) s =
    known c token s (λ t. set_trash (rules_of c) reading t collection trash_at delete_at s)
table_line c reading (queries.Restore token collection) s = known c token s (λ t. restore t collection s)
table_line c reading queries.Sweep s = sweep reading s
table_line c reading (queries.Scan round after limit) s = scan after limit s
