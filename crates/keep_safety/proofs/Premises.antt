-- What the premises say of small pasts: a put with a token, and a save by the signature that it gave, at a reading that lies back by just the skew. One nanosecond further back clocks don't agree; for another token, or with an expiry that no answer gave, the signature was never issued.
use Rattle.std.proofs.Common.{◌≡◌, ◌≤◌, ◌++◌, ◌⊎◌, ℕ, List, [], ◌∷◌, false, refl, None, Some, arith, inl, inr, sym, ap, codes}
use Rattle.md5.proofs.StandardFacts.{digest_of_abc}
use Rattle.md5.specs.Md5.{md5}
use Rattle.keep_spec.specs.Config.{Configuration, token_of}
use Rattle.keep_spec.specs.Digest.{bytes_of_digits}
use Rattle.keep_spec.specs.Locator.{cut_before_plus, digest, hints, is_empty_block, is_permission_hint, permission, permission_of, size, size_digits}
use Rattle.keep_spec.specs.declared.portable.Portable.{Portable}
use Rattle.keep_spec.specs.declared.token.TokenId.{TokenId}
use Rattle.keep_event.specs.declared.device.DeviceQuery.TheVariants as DQ
use Rattle.keep_event.specs.declared.device.DeviceAnswer.TheVariants as D
use Rattle.keep_event.specs.declared.table.SaveRequest.{SaveRequest}
use Rattle.keep_event.specs.declared.table.TableQuery.TheVariants as TQ
use Rattle.keep_event.specs.declared.table.TableAnswer.TheVariants as T
use Rattle.keep_event.specs.declared.event.Event.{Event}
use Rattle.keep_event.specs.declared.event.Query.{Query}
use Rattle.keep_event.specs.declared.event.Query.TheVariants as Q
use Rattle.keep_event.specs.declared.event.Answer.{Answer}
use Rattle.keep_event.specs.declared.event.Answer.TheVariants as A
use Rattle.keep_safety.specs.Past.{Past}
use Rattle.keep_safety.specs.Signatures.{Signature, issued, WasIssued}
use Rattle.keep_safety.specs.Times.{IsSteady}
use Rattle.keep_safety.proofs.Example.{h}

-- one device, signatures of a second, clocks that agree up to a second
abbrev c : Configuration
c = record {
  cluster = codes "zzzzz";
  ttl = 1;
  skew = 1;
  secret = codes "s";
  system_token = codes "t";
  tokens = codes "alice" ∷ codes "bob" ∷ [];
  devices = record { capacity = 1000; read_only = false } ∷ [];
  servers = [];
  mounts = [];
  versions = 1;
  trash_life = 1;
  index_digits = 0;
  scan_limit = 1000;
}

abbrev event : ℕ → ℕ → Query → Answer → Event
event tick reading q a = record { tick = tick; reading = reading; actor = 0; query = q; answer = a }

abbrev token : ℕ → TokenId
token n = record { number = n }

-- alice puts `abc` two seconds after 1970
abbrev put : Event
put = event 0 2000000000 (Q.Device 0 (DQ.Write (codes "abc") (Some (token 1)))) (A.Device (D.Written 2000000000))

-- so what was issued to her is good up to the third second
abbrev hers : Signature
hers = record { digest = md5 (codes "abc"); token = token 1; expiry = 3 }

given : issued c (put ∷ []) ≡ hers ∷ []
given = refl

-- ---- clocks that agree

abbrev request : SaveRequest
request = record { token = codes "alice"; text = []; want = 1; portable = None }

abbrev portable : Portable
portable = record { digest = []; size = 0 }

abbrev saved_at : ℕ → Past
saved_at reading = event 1 reading (Q.Table (TQ.Save request)) (A.Table (T.Saved 1 1 portable)) ∷ put ∷ []

back_by_the_skew : IsSteady c (saved_at 1000000000)
back_by_the_skew = ((omega arith, tt), (tt, tt))

further_back : IsSteady c (saved_at 999999999) → ⊥
further_back steady = below steady.0.0
  where
    below : 2000000000 ≤ 1999999999 → ⊥
    below le = omega arith

-- ---- signatures that were issued

-- the locator of `abc` with a permission hint, whose signature has any digits
abbrev locator : List ℕ → List ℕ
locator expiry = codes "900150983cd24fb0d6963f7d28e17f72+3+A0000000000000000000000000000000000000000@" ++ expiry

abbrev signed : TokenId → ℕ → Signature
signed t expiry = record { digest = h; token = t; expiry = expiry }

issued_to_her : WasIssued c (put ∷ []) (token_of c (codes "alice")) (locator (codes "00000003"))
unfolding permission permission_of is_permission_hint hints cut_before_plus size_digits digest bytes_of_digits
issued_to_her e = inl (ap (λ v. record { digest = v; token = token 1; expiry = 3 }) (sym digest_of_abc))

not_to_bob : WasIssued c (put ∷ []) (token_of c (codes "bob")) (locator (codes "00000003")) → ⊥
unfolding permission permission_of is_permission_hint hints cut_before_plus size_digits digest bytes_of_digits is_empty_block size
not_to_bob was = other (was refl)
  where
    apart : ◌≡◌ {A = ℕ} 2 1 → ⊥
    apart e = omega arith

    other : (signed (token 2) 3 ≡ hers) ⊎ ⊥ → ⊥
    other (inl e) = apart (ap (λ (s : Signature). s.token.number) e)
    other (inr never) = never

not_for_longer : WasIssued c (put ∷ []) (token_of c (codes "alice")) (locator (codes "00000004")) → ⊥
unfolding permission permission_of is_permission_hint hints cut_before_plus size_digits digest bytes_of_digits is_empty_block size
not_for_longer was = later (was refl)
  where
    apart : ◌≡◌ {A = ℕ} 4 3 → ⊥
    apart e = omega arith

    later : (signed (token 1) 4 ≡ hers) ⊎ ⊥ → ⊥
    later (inl e) = apart (ap (λ (s : Signature). s.expiry) e)
    later (inr never) = never
