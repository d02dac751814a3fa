-- The signatures that answers issue, and those that a reading still to come may accept.
use Rattle.std.specs.Prelude.{◌≡◌, ℕ, ◌+◌, nat_le, List, [], ◌∷◌, ◌++◌, map, filter, Bool, false, Option, None, Some, IfSome, ⊤}
use Rattle.std.specs.List.{AllByRecursion}
use Rattle.md5.specs.Md5.{md5}
use Rattle.keep_spec.specs.Config.{Configuration, token_of}
use Rattle.keep_spec.specs.Times.{expiry_at, nanos}
use Rattle.keep_spec.specs.Locator.{is_empty_block, permission, digest}
use Rattle.keep_spec.specs.declared.token.TokenId.{TokenId}
use Rattle.keep_event.specs.Requests.{digests_of, locators_of}
use Rattle.keep_event.specs.declared.device.DeviceQuery.{DeviceQuery}
use Rattle.keep_event.specs.declared.device.DeviceQuery.TheVariants.{CompareTouch, Write, Fetch, Touch, Untrash}
use Rattle.keep_event.specs.declared.device.DeviceAnswer.{DeviceAnswer}
use Rattle.keep_event.specs.declared.device.DeviceAnswer.TheVariants.{Touched, Written}
use Rattle.keep_event.specs.declared.table.SaveRequest.{SaveRequest}
use Rattle.keep_event.specs.declared.table.TableQuery.{TableQuery}
use Rattle.keep_event.specs.declared.table.TableQuery.TheVariants.{Read, Save, Update}
use Rattle.keep_event.specs.declared.table.TableAnswer.{TableAnswer}
use Rattle.keep_event.specs.declared.table.TableAnswer.TheVariants.{Row, Saved, Updated}
use Rattle.keep_event.specs.declared.event.Query.{Query}
use Rattle.keep_event.specs.declared.event.Query.TheVariants as Q
use Rattle.keep_event.specs.declared.event.Answer.{Answer}
use Rattle.keep_event.specs.declared.event.Answer.TheVariants as A
use Rattle.keep_safety.specs.Past.{Past}
use Rattle.keep_safety.specs.Times.{now, skew}
use Rattle.keep_spec.specs.Members.{IsIn}

-- a signature of a digest for a token, good up to its expiry in seconds
pub record Signature : Type 0 where
  pub digest : List ℕ
  pub token : TokenId
  pub expiry : ℕ

-- the digest that a query to a device names, and the token that it carries
abbrev pub digest_named : DeviceQuery → Option (List ℕ)
digest_named (CompareTouch block token) = Some (md5 block)
digest_named (Write block token) = Some (md5 block)
digest_named (Fetch h) = Some h
digest_named (Touch h token) = Some h
digest_named (Untrash h) = Some h
digest_named _ = None

abbrev pub token_carried : DeviceQuery → Option TokenId
token_carried (CompareTouch block token) = token
token_carried (Write block token) = token
token_carried (Touch h token) = token
token_carried _ = None

-- the time that an answer Touched or Written tells
abbrev pub time_told : DeviceAnswer → Option ℕ
time_told (Touched mtime) = Some mtime
time_told (Written mtime) = Some mtime
time_told _ = None

abbrev pub put_signature : Configuration → Option (List ℕ) → Option TokenId → Option ℕ → List Signature
put_signature c (Some h) (Some token) (Some mtime) = record { digest = h; token = token; expiry = expiry_at c.ttl mtime } ∷ []
put_signature c (Some h) (Some token) None = []
put_signature c (Some h) None mtime = []
put_signature c None token mtime = []

abbrev pub signatures_on : Option TokenId → ℕ → List (List ℕ) → List Signature
signatures_on None expiry digests = []
signatures_on (Some token) expiry digests = map (λ h. record { digest = h; token = token; expiry = expiry }) digests

-- a read that tells an expiry signs each digest of its text
abbrev pub read_signatures : Configuration → TableQuery → TableAnswer → List Signature
read_signatures c (Read token collection version) (Row number v (Some expiry) want trash_at text) = signatures_on (token_of c token) expiry (digests_of text)
read_signatures c _ _ = []

abbrev pub signatures_of : Configuration → Query → Answer → List Signature
signatures_of c (Q.Device n q) (A.Device a) = put_signature c (digest_named q) (token_carried q) (time_told a)
signatures_of c (Q.Table q) (A.Table a) = read_signatures c q a
signatures_of c (Q.Device n q) (A.Table a) = []
signatures_of c (Q.Table q) (A.Device a) = []

abbrev pub issued : Configuration → Past → List Signature
issued c [] = []
issued c (e ∷ past) = signatures_of c e.query e.answer ++ issued c past

-- a reading still to come may accept it
abbrev pub is_live : Configuration → Past → Signature → Bool
is_live c past s = nat_le (now past) (nanos s.expiry + skew c)

abbrev pub live : Configuration → Past → List Signature
live c past = filter (is_live c past) (issued c past)

-- ---- no forged signature was accepted

-- a locator's signature was issued before to the token
abbrev pub WasIssued : Configuration → Past → Option TokenId → List ℕ → Type 0
WasIssued c past token locator =
    is_empty_block locator ≡ false → IfSome token (λ t. IfSome (permission locator) (λ p. IsIn (record { digest = digest locator; token = t; expiry = p.expiry }) (issued c past)))

abbrev pub WereIssued : Configuration → Past → SaveRequest → Type 0
WereIssued c past request = AllByRecursion (WasIssued c past (token_of c request.token)) (locators_of request.text)

abbrev pub AcceptsIssued : Configuration → Past → TableQuery → TableAnswer → Type 0
AcceptsIssued c past (Save request) (Saved number version portable) = WereIssued c past request
AcceptsIssued c past (Update collection preserve request) (Updated number version portable) = WereIssued c past request
AcceptsIssued c past _ _ = ⊤

abbrev pub EventAcceptsIssued : Configuration → Past → Query → Answer → Type 0
EventAcceptsIssued c past (Q.Table q) (A.Table a) = AcceptsIssued c past q a
EventAcceptsIssued c past _ _ = ⊤

-- each locator of a text that was saved has a signature that was issued before
abbrev pub IsUnforged : Configuration → Past → Type 0
IsUnforged c [] = ⊤
IsUnforged c (e ∷ past) = EventAcceptsIssued c past e.query e.answer × IsUnforged c past
