-- The digests of held versions (`named_as`) and of live signatures (`live-as`), event by event; that the protected digests are theirs, in any order (`to-protected`, `from-protected`); members of two kinds (`in-contains`, `contains-in`).
use Rattle.std.proofs.Common.{◌≡◌, ◌≤◌, ℕ, zero, suc, List, [], ◌∷◌, ◌++◌, map, filter, length, reverse, take, Bool, true, false, cond, ◌&&◌, refl, sym, ◌∙◌, ap, subst, arith, inl, inr, Option, None, Some, is_some}
use Rattle.std.specs.Prelude.{◌⊎◌, ◌↔◌}
use Rattle.std.specs.List.{flat_map, Contains}
use Rattle.std.proofs.lemmas.List.{reverse-append, reverse-reverse, map-append}
use Rattle.std.proofs.lemmas.List.Elements.{filter-append, Contains-append_left, Contains-append_right, Contains-append_cases, Contains-push_cases, Contains-push}
use Rattle.keep_spec.specs.Config.{Configuration, token_of}
use Rattle.keep_spec.specs.Members.{IsIn}
use Rattle.keep_spec.specs.Times.{expiry_at}
use Rattle.keep_spec.specs.declared.token.TokenId.{TokenId}
use Rattle.keep_event.specs.Requests.{digests_of}
use Rattle.keep_event.specs.declared.device.DeviceAnswer.{DeviceAnswer}
use Rattle.keep_event.specs.declared.table.TableQuery.{TableQuery}
use Rattle.keep_event.specs.declared.table.TableQuery.TheVariants as TQ
use Rattle.keep_event.specs.declared.table.TableAnswer.{TableAnswer}
use Rattle.keep_event.specs.declared.table.TableAnswer.TheVariants as T
use Rattle.keep_event.specs.declared.event.Event.{Event}
use Rattle.keep_event.specs.declared.event.Query.{Query}
use Rattle.keep_event.specs.declared.event.Query.TheVariants as Q
use Rattle.keep_event.specs.declared.event.Answer.{Answer}
use Rattle.keep_event.specs.declared.event.Answer.TheVariants as A
use Rattle.keep_order.proofs.Lists.{Joins, in-left, in-right, in-either, in-joined, joined-in}
use Rattle.keep_safety.specs.Past.{Past}
use Rattle.keep_safety.specs.Rows.{Row, refs}
use Rattle.keep_safety.specs.Safe.{protected}
use Rattle.keep_core.specs.Seen.{version_of, named_by, is_live_at, with_token, put_digest, if_live, live_at, live_put, live_read, live_by, live_of}
use Rattle.keep_safety.specs.Signatures.{Signature, digest_named, token_carried, time_told, put_signature, signatures_on, read_signatures, signatures_of, issued, live}
use Rattle.keep_safety.specs.Times.{now}

-- ---- versions
pub named_as : (rs : List Row) → named_by (map version_of rs) ≡ flat_map (λ r. r.made.named) rs
named_as [] = refl
named_as (r ∷ rs) = ap (λ v. r.made.named ++ v) (named_as rs)

pub whole : {X : Type 0} (n : ℕ) (xs : List X) → length xs ≤ n → take n xs ≡ xs
whole zero [] le = refl
whole zero (x ∷ xs) le = absurd (omega arith)
whole (suc n) [] le = refl
whole (suc n) (x ∷ xs) le = ap (λ v. x ∷ v) (whole n xs (omega arith))

-- ---- what an event signs
module _ (c : Configuration) (latest : ℕ) where
  abbrev is_live : Signature → Bool
  is_live s = is_live_at c latest s.expiry

  abbrev digests : List Signature → List (List ℕ)
  digests ss = map (λ s. s.digest) (filter is_live ss)

  one-by : (h : List ℕ) (s : Signature) (b : Bool) → s.digest ≡ h → map (λ (s : Signature). s.digest) (cond b (s ∷ []) []) ≡ if_live b (h ∷ [])
  one-by h s true e = ap (λ v. v ∷ []) e
  one-by h s false e = refl

  told-by : (h : List ℕ) (t : TokenId) (m : Option ℕ) → digests (put_signature c (Some h) (Some t) m) ≡ live_at c latest h m
  told-by h t None = refl
  told-by h t (Some mtime) = one-by h (record { digest = h; token = t; expiry = expiry_at c.ttl mtime }) (is_live_at c latest (expiry_at c.ttl mtime)) refl

  put-as : (h : Option (List ℕ)) (t : Option TokenId) (a : DeviceAnswer) → digests (put_signature c h t (time_told a)) ≡ live_put c latest (with_token h t) (A.Device a)
  put-as (Some h) (Some t) a = told-by h t (time_told a)
  put-as (Some h) None a = refl
  put-as None (Some t) a = refl
  put-as None None a = refl

  put-none : (h : Option (List ℕ)) (a : TableAnswer) → [] ≡ live_put c latest h (A.Table a)
  put-none None a = refl
  put-none (Some h) a = refl

  signed-by : (t : TokenId) (expiry : ℕ) (b : Bool) → is_live_at c latest expiry ≡ b → (hs : List (List ℕ)) → digests (map (λ h. record { digest = h; token = t; expiry = expiry }) hs) ≡ if_live b hs
  signed-by t expiry true e [] = refl
  signed-by t expiry false e [] = refl
  signed-by t expiry true e (h ∷ hs) = ap (λ b. map (λ (s : Signature). s.digest) (cond b (record { digest = h; token = t; expiry = expiry } ∷ filter is_live (map (λ h. record { digest = h; token = t; expiry = expiry }) hs)) (filter is_live (map (λ h. record { digest = h; token = t; expiry = expiry }) hs)))) e ∙ ap (λ v. h ∷ v) (signed-by t expiry true e hs)
  signed-by t expiry false e (h ∷ hs) = ap (λ b. map (λ (s : Signature). s.digest) (cond b (record { digest = h; token = t; expiry = expiry } ∷ filter is_live (map (λ h. record { digest = h; token = t; expiry = expiry }) hs)) (filter is_live (map (λ h. record { digest = h; token = t; expiry = expiry }) hs)))) e ∙ signed-by t expiry false e hs

  signed-as : (t : Option TokenId) (expiry : ℕ) (hs : List (List ℕ)) → digests (signatures_on t expiry hs) ≡ if_live (is_some t && is_live_at c latest expiry) hs
  signed-as None expiry hs = refl
  signed-as (Some t) expiry hs = signed-by t expiry (is_live_at c latest expiry) refl hs

  row-as : (token : List ℕ) (collection number v want : ℕ) (version trash_at expiry : Option ℕ) (text : List ℕ) → digests (read_signatures c (TQ.Read token collection version) (T.Row number v expiry want trash_at text)) ≡ live_read c latest (TQ.Read token collection version) (A.Table (T.Row number v expiry want trash_at text))
  row-as token collection number v want version trash_at None text = refl
  row-as token collection number v want version trash_at (Some expiry) text = signed-as (token_of c token) expiry (digests_of text)

  read-as : (q : TableQuery) (a : TableAnswer) → digests (read_signatures c q a) ≡ live_read c latest q (A.Table a)
  read-as (TQ.Read token collection version) (T.Row number v expiry want trash_at text) = row-as token collection number v want version trash_at expiry text
  read-as (TQ.Read token collection version) (T.Round x0 x1) = refl
  read-as (TQ.Read token collection version) (T.Saved x0 x1 x2) = refl
  read-as (TQ.Read token collection version) (T.Updated x0 x1 x2) = refl
  read-as (TQ.Read token collection version) (T.TrashSet x0 x1) = refl
  read-as (TQ.Read token collection version) T.Restored = refl
  read-as (TQ.Read token collection version) (T.Swept x0 x1) = refl
  read-as (TQ.Read token collection version) (T.Rows x0 x1) = refl
  read-as (TQ.Read token collection version) T.UnknownToken = refl
  read-as (TQ.Read token collection version) T.NoSuch = refl
  read-as (TQ.Read token collection version) T.NotOwner = refl
  read-as (TQ.Read token collection version) (T.InTrash x0) = refl
  read-as (TQ.Read token collection version) (T.BadManifest x0 x1) = refl
  read-as (TQ.Read token collection version) (T.Unsigned x0 x1) = refl
  read-as (TQ.Read token collection version) (T.WrongHash x0) = refl
  read-as (TQ.Read token collection version) T.BadWant = refl
  read-as (TQ.Read token collection version) (T.TooManyVersions x0) = refl
  read-as TQ.BeginRound a = refl
  read-as (TQ.Save request) a = refl
  read-as (TQ.Update collection preserve request) a = refl
  read-as (TQ.SetTrash token collection trash_at delete) a = refl
  read-as (TQ.Restore token collection) a = refl
  read-as TQ.Sweep a = refl
  read-as (TQ.Scan round after limit) a = refl

  read-none : (q : TableQuery) (a : DeviceAnswer) → [] ≡ live_read c latest q (A.Device a)
  read-none TQ.BeginRound a = refl
  read-none (TQ.Save request) a = refl
  read-none (TQ.Update collection preserve request) a = refl
  read-none (TQ.SetTrash token collection trash_at delete) a = refl
  read-none (TQ.Restore token collection) a = refl
  read-none TQ.Sweep a = refl
  read-none (TQ.Scan round after limit) a = refl
  read-none (TQ.Read token collection version) a = refl

  event-as : (q : Query) (a : Answer) → digests (signatures_of c q a) ≡ live_by c latest q a
  event-as (Q.Device n q) (A.Device a) = put-as (digest_named q) (token_carried q) a
  event-as (Q.Device n q) (A.Table a) = put-none (put_digest q) a
  event-as (Q.Table q) (A.Table a) = read-as q a
  event-as (Q.Table q) (A.Device a) = read-none q a

  pub live-as : (past : Past) → digests (issued c past) ≡ flat_map (live_of c latest) past
  live-as [] = refl
  live-as (e ∷ past) =
      ap (map (λ (s : Signature). s.digest)) (filter-append is_live (signatures_of c e.query e.answer) (issued c past))
      ∙ map-append (λ (s : Signature). s.digest) (filter is_live (signatures_of c e.query e.answer)) (filter is_live (issued c past))
      ∙ ap (λ v. v ++ digests (issued c past)) (event-as e.query e.answer)
      ∙ ap (λ v. live_of c latest e ++ v) (live-as past)

-- ---- members
reversed-in : {X : Type 0} (x : X) (xs : List X) → IsIn x xs → IsIn x (reverse xs)
reversed-in x [] i = absurd i
reversed-in x (y ∷ ys) (inl e) = subst (λ v. IsIn x v) (sym (reverse-append (y ∷ []) ys)) (in-right x (reverse ys) (y ∷ []) (inl e))
reversed-in x (y ∷ ys) (inr i) = subst (λ v. IsIn x v) (sym (reverse-append (y ∷ []) ys)) (in-left x (reverse ys) (y ∷ []) (reversed-in x ys i))

pub in-reversed : {X : Type 0} (x : X) (xs : List X) → IsIn x (reverse xs) → IsIn x xs
in-reversed x xs i = subst (λ v. IsIn x v) (reverse-reverse xs) (reversed-in x (reverse xs) i)

pub in-reverse : {X : Type 0} (x : X) (xs : List X) → IsIn x xs → IsIn x (reverse xs)
in-reverse x xs i = reversed-in x xs i

member-cases : (x h : List ℕ) (xs : List (List ℕ)) → Contains (x ∷ xs) h → (h ≡ x) ⊎ Contains xs h
member-cases x h xs m = elim (Contains-append_cases (x ∷ []) xs h m) [ inl one ↦ inl (only one) | inr more ↦ inr more ]
  where
    nowhere : Contains {X = List ℕ} [] h → h ≡ x
    nowhere m = absurd (omega (arith, m.1))

    only : Contains (x ∷ []) h → h ≡ x
    only one = elim (Contains-push_cases [] x h one) [ inl none ↦ nowhere none | inr same ↦ sym same ]

pub contains-in : (h : List ℕ) (xs : List (List ℕ)) → Contains xs h → IsIn h xs
contains-in h [] m = absurd (omega (arith, m.1))
contains-in h (x ∷ xs) m = elim (member-cases x h xs m) [ inl e ↦ inl e | inr more ↦ inr (contains-in h xs more) ]

pub in-contains : (h : List ℕ) (xs : List (List ℕ)) → IsIn h xs → Contains xs h
in-contains h [] i = absurd i
in-contains h (x ∷ xs) (inl e) = subst (λ v. Contains (x ∷ xs) v) (sym e) (Contains-append_left (x ∷ []) xs x (Contains-push [] x))
in-contains h (x ∷ xs) (inr i) = Contains-append_right (x ∷ []) xs h (in-contains h xs i)

-- ---- what is protected, in the order of the events, with the digests that held versions name in any order
module _ (c : Configuration) (events : List Event) (held : List (List ℕ)) (named : (h : List ℕ) → IsIn h held ↔ IsIn h (refs c (reverse events))) (h : List ℕ) where
  abbrev past : Past
  past = reverse events

  abbrev here : List (List ℕ)
  here = held ++ flat_map (live_of c (now past)) events

  signed-to : Joins (live_of c (now past)) h events → IsIn h (protected c past)
  signed-to j = in-right h (refs c past) (map (λ (s : Signature). s.digest) (live c past)) (subst (λ (v : List (List ℕ)). IsIn h v) (sym (live-as c (now past) past)) (joined-in (live_of c (now past)) j.from h past (in-reverse j.from events j.member) j.has))

  pub to-protected : IsIn h here → IsIn h (protected c past)
  to-protected i = elim (in-either h held (flat_map (live_of c (now past)) events) i) [
    | inl r ↦ in-left h (refs c past) (map (λ (s : Signature). s.digest) (live c past)) ((named h).0 r)
    | inr s ↦ signed-to (in-joined (live_of c (now past)) h events s)
  ]

  signed-from : Joins (live_of c (now past)) h past → IsIn h here
  signed-from j = in-right h held (flat_map (live_of c (now past)) events) (joined-in (live_of c (now past)) j.from h events (in-reversed j.from events j.member) j.has)

  pub from-protected : IsIn h (protected c past) → IsIn h here
  from-protected i = elim (in-either h (refs c past) (map (λ (s : Signature). s.digest) (live c past)) i) [
    | inl r ↦ in-left h held (flat_map (live_of c (now past)) events) ((named h).1 r)
    | inr s ↦ signed-from (in-joined (live_of c (now past)) h past (subst (λ (v : List (List ℕ)). IsIn h v) (live-as c (now past) past) s))
  ]
