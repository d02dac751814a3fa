-- When a request is good, in the words of its user, and kinds of queries.
use Rattle.std.specs.Prelude.{◌≡◌, ◌<◌, ◌≤◌, ◌⊎◌, ⊤, ℕ, Bool, true, false, List, Option, None, Some, IsTrue, IsSome, IsOk}
use Rattle.std.specs.List.{AllByRecursion}
use Rattle.keep_spec.specs.Config.{Configuration, token_of}
use Rattle.keep_spec.specs.Locator.{is_empty_block}
use Rattle.keep_spec.specs.Portable.{portable_text}
use Rattle.keep_spec.specs.Refusals.{bad}
use Rattle.keep_spec.specs.Sign.{verdict}
use Rattle.keep_spec.specs.Stripped.{portable_hash}
use Rattle.keep_spec.specs.declared.portable.Portable.{Portable}
use Rattle.keep_spec.specs.declared.token.TokenId.{TokenId}
use Rattle.keep_event.specs.Table.{State, collection_of, is_owner, is_in_trash, versions_held}
use Rattle.keep_event.specs.Requests.{locators_of}
use Rattle.keep_event.specs.declared.table.Collection.{Collection}
use Rattle.keep_event.specs.declared.table.SaveRequest.{SaveRequest}
use Rattle.keep_event.specs.declared.table.TableAnswer.TheVariants.{Saved}
use Rattle.keep_event.specs.declared.table.NewRecord.{NewRecord}
use Rattle.keep_event.specs.declared.table.TableAnswer.{TableAnswer}
use Rattle.keep_event.specs.declared.table.TableQuery.{TableQuery}
use Rattle.keep_event.specs.declared.table.TableQuery.TheVariants as queries
use Rattle.keep_collections.specs.declared.request.Verdict.{Verdict}
use Rattle.keep_collections.specs.declared.request.Verdict.TheVariants.{Good, Refused}

-- a request is good where nothing is said against it; else it meets the first refusal
abbrev pub IsVerdict : Option TableAnswer → NewRecord → Verdict → Type 0
IsVerdict refusal made (Good record_made) = (refusal ≡ None) × (record_made ≡ made)
IsVerdict refusal made (Refused answer) = refusal ≡ Some answer

abbrev pub begins_round : TableQuery → Bool
begins_round queries.BeginRound = true
begins_round other = false

-- a query that names a collection and stores no record
abbrev pub IsAboutCollection : TableQuery → Type 0
IsAboutCollection (queries.Read token collection version) = ⊤
IsAboutCollection (queries.SetTrash token collection trash_at delete_at) = ⊤
IsAboutCollection (queries.Restore token collection) = ⊤
IsAboutCollection other = ⊥

-- a locator needs no signature, or has a valid one for a token at a reading
abbrev pub IsSigned : Configuration → List ℕ → ℕ → List ℕ → Type 0
IsSigned c token reading locator = IsTrue (is_empty_block locator) ⊎ IsOk (verdict locator token c.ttl c.secret reading)

-- no hash is claimed, or that of the text
abbrev pub IsClaimed : Option (List ℕ) → Portable → Type 0
IsClaimed None computed = ⊤
IsClaimed (Some claimed) computed = claimed ≡ portable_text computed

-- a request is good where its token is known, its text is a manifest, each locator is signed at the reading, no hash is claimed but the right one, and 1 to 255 copies are wanted
pub record IsGood (c : Configuration) (reading : ℕ) (request : SaveRequest) : Type 0 where
  pub token : IsSome (token_of c request.token)
  pub manifest : bad request.text ≡ None
  pub signed : AllByRecursion (IsSigned c request.token reading) (locators_of request.text)
  pub hash : IsClaimed request.portable (portable_hash request.text)
  pub want : (1 ≤ request.want) × (request.want ≤ 255)

abbrev pub is_saved : TableAnswer → Bool
is_saved (Saved number version portable) = true
is_saved other = false

-- the collection exists, is the token's or the token is the system's, isn't in the trash, and has room for a version
pub record IsUpdatable (c : Configuration) (reading collection : ℕ) (token : TokenId) (s : State) : Type 0 where
  pub found : Collection
  pub there : collection_of collection s ≡ Some found
  pub owner : IsTrue (is_owner token found)
  pub outside : is_in_trash reading found ≡ false
  pub room : versions_held reading collection s < c.versions

-- a request is good for a collection where it is good and its token may update the collection
pub record IsGoodUpdate (c : Configuration) (reading collection : ℕ) (request : SaveRequest) (s : State) : Type 0 where
  pub good : IsGood c reading request
  pub token : TokenId
  pub known : token_of c request.token ≡ Some token
  pub updatable : IsUpdatable c reading collection token s
