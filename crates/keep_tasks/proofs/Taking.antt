-- What an answer makes of a put: `compared-ends`, `compared-moves` and `compared-over`, `written-ends`, `written-moves` and `written-over`; how tasks begin: `put-begins`, `get-begins`, `touch-begins` and `untrash-begins`; `stored-is` on a put's locator.
use Rattle.std.proofs.Common.{◌≡◌, ℕ, true, false, List, [], ◌∷◌, ◌++◌, Option, None, Some, is_some, refl, sym, ◌∙◌, ap, subst}
use Rattle.std.proofs.lemmas.List.{append-nil}
use Rattle.md5.specs.Md5.{md5}
use Rattle.keep_spec.specs.Config.{Configuration}
use Rattle.keep_spec.specs.SignedText.{permission_hint}
use Rattle.keep_spec.specs.Times.{expiry_at}
use Rattle.keep_spec.specs.declared.token.TokenId.{TokenId}
use Rattle.keep_event.specs.declared.event.Answer.{Answer}
use Rattle.keep_event.specs.declared.event.Answer.TheVariants as An
use Rattle.keep_event.specs.declared.device.DeviceQuery.{DeviceQuery}
use Rattle.keep_event.specs.declared.device.DeviceQuery.TheVariants as Q
use Rattle.keep_history.specs.declared.task.Outcome.{Outcome}
use Rattle.keep_history.specs.declared.task.Outcome.TheVariants as O
use Rattle.keep_history.specs.declared.task.Task.TheVariants as T
use Rattle.keep_history.specs.Next.{Answered, Next, asks, ends}
use Rattle.keep_history.specs.Tasks.{next, walk, on_device, by_all, compare_end, write_end, writes, fetch_end, touch_end, no_end, not_written, not_fetched, not_touched, untrashed, signed_locator}
use Rattle.keep_tasks.specs.Kinds.{IsPut, IsPutting, IsGet, IsTouch, IsUntrash, block_unsigned, block_text, as_write, BeginsWrites, WriteBegins}
use Rattle.keep_steps.specs.Steps.{IsTaken}
use Rattle.keep_tasks.specs.Unsigned.{Beginning, unsigned}
use Rattle.keep_tasks.specs.Walks.{IsAt, IsOver, IsWalking, seen_of}
use Rattle.keep_tasks.specs.declared.walk.Walk.{Walk}
use Rattle.keep_tasks.proofs.Walking.{begins, walk-asks, walk-ends, walk-moves, walk-over, walk-last}

pub none_when : {X : Type 0} (o : Option X) → ((x : X) → o ≡ Some x → ⊥) → o ≡ None
none_when None never = refl
none_when (Some x) never = absurd (never x refl)

pub some_when : {X : Type 0} (o : Option X) → is_some o ≡ true → (x : X) × (o ≡ Some x)
some_when None e = absurd cc
some_when (Some x) e = (x, refl)

pub none_by : {X : Type 0} (o : Option X) → is_some o ≡ false → o ≡ None
none_by None e = refl
none_by (Some x) e = absurd cc

-- no answer ends an untrash
pub goes-on : (a : Answer) → on_device no_end a ≡ None
goes-on (An.Device a) = refl
goes-on (An.Table a) = refl

-- ---- puts

module _ (w : Walk) (locator : Option Beginning) (left : Option (List ℕ)) (next : List Answered → Next) (answers : List Answered) (h : IsPut w locator left next answers) where
  abbrev compare_query : DeviceQuery
  compare_query = Q.CompareTouch h.bytes (Some h.id)

  abbrev write_query : DeviceQuery
  write_query = Q.Write h.bytes (Some h.id)

  abbrev compared : Answer → Option Outcome
  compared a = on_device (compare_end h.config h.token h.bytes) a

  abbrev written : Answer → Option Outcome
  written a = on_device (write_end h.config h.token h.bytes) a

  comparing : (devices : List ℕ) → left ≡ Some devices → IsWalking compare_query compared (writes h.config h.id h.token h.bytes devices) w next answers
  comparing devices e = subst (λ v. IsPutting h.config h.id h.token h.bytes w v next answers) e h.walks

  writing : left ≡ None → IsWalking write_query written (by_all not_written) w next answers
  writing e = subst (λ v. IsPutting h.config h.id h.token h.bytes w v next answers) e h.walks

  pub put-asks : next answers ≡ asks w.query
  put-asks = by left refl
    where
      by : (o : Option (List ℕ)) → left ≡ o → next answers ≡ asks w.query
      by (Some devices) e = walk-asks compare_query compared (writes h.config h.id h.token h.bytes devices) w next answers (comparing devices e)
      by None e = walk-asks write_query written (by_all not_written) w next answers (writing e)

  module _ (a : Answered) where
    abbrev Moves : Walk → Type 0
    Moves new = (query : DeviceQuery) → (seen : List Answer) → (devices : List ℕ) → IsAt w query seen devices → IsAt new query (seen ++ a.answer ∷ []) w.left.items

    abbrev Ends : Walk → Type 0
    Ends new = (query : DeviceQuery) → (seen : List Answer) → (devices : List ℕ) → IsAt w query seen devices → (w.left.items ≡ []) × IsOver new query (seen ++ a.answer ∷ [])

    pub compared-ends : (devices : List ℕ) (o : Outcome) → left ≡ Some devices → compared a.answer ≡ Some o → next (answers ++ a ∷ []) ≡ ends o
    compared-ends devices o e end = walk-ends compare_query compared (writes h.config h.id h.token h.bytes devices) w next answers a o end (comparing devices e)

    pub compared-moves : (devices : List ℕ) (new : Walk) (locator' : Option Beginning) → left ≡ Some devices → locator' ≡ locator → compared a.answer ≡ None → Moves new → IsPut new locator' left next (answers ++ a ∷ [])
    compared-moves devices new locator' e same goes moves =
        let here = comparing devices e in
        record {
          config = h.config;
          id = h.id;
          token = h.token;
          bytes = h.bytes;
          locator_is = same ∙ h.locator_is;
          walks = subst (λ v. IsPutting h.config h.id h.token h.bytes new v next (answers ++ a ∷ [])) (sym e)
              (walk-moves compare_query compared (writes h.config h.id h.token h.bytes devices) w new next answers a goes here (moves compare_query here.seen here.devices here.at));
        }

    -- after all comparisons
    all-compared : (devices : List ℕ) (mid : Walk) → left ≡ Some devices → compared a.answer ≡ None → Ends mid → (as_write mid.query ≡ write_query) × ((more : List Answered) → next ((answers ++ a ∷ []) ++ more) ≡ walk write_query written (by_all not_written) [] devices more)
    all-compared devices mid e goes over =
        let here = comparing devices e in
        let o = over compare_query here.seen here.devices here.at in (
          ap as_write o.1.query_is,
          λ more. walk-over compare_query compared (writes h.config h.id h.token h.bytes devices) w next answers a goes o.0 here more,
        )

    nowhere : (devices : List ℕ) → devices ≡ [] → walk write_query written (by_all not_written) [] devices [] ≡ ends O.NoRoom
    unfolding walk
    nowhere devices e = rw e refl

    pub compared-over : (devices : List ℕ) (mid new : Walk) (locator' : Option Beginning) (left' : Option (List ℕ)) (outcome : Option Outcome) → left ≡ Some devices → locator' ≡ locator → compared a.answer ≡ None → Ends mid → BeginsWrites mid left new left' outcome → IsTaken next (answers ++ a ∷ []) outcome (IsPut new locator' left' next)
    compared-over devices mid new locator' left' outcome e same goes over begun =
        by outcome (all-compared devices mid e goes over) (subst (λ v. BeginsWrites mid v new left' outcome) e begun)
      where
        by : (outcome : Option Outcome) → (as_write mid.query ≡ write_query) × ((more : List Answered) → next ((answers ++ a ∷ []) ++ more) ≡ walk write_query written (by_all not_written) [] devices more) → WriteBegins (as_write mid.query) devices new left' outcome → IsTaken next (answers ++ a ∷ []) outcome (IsPut new locator' left' next)
        by None all (at, none) =
            let walking : IsWalking write_query written (by_all not_written) new next (answers ++ a ∷ []) =
            begins write_query written (by_all not_written) new next (answers ++ a ∷ []) devices (subst (λ q. IsAt new q [] devices) all.0 at) all.1 in
            record {
              config = h.config;
              id = h.id;
              token = h.token;
              bytes = h.bytes;
              locator_is = same ∙ h.locator_is;
              walks = subst (λ v. IsPutting h.config h.id h.token h.bytes new v next (answers ++ a ∷ [])) (sym none) walking;
            }
        by (Some o) all (empty, is) =
            ap next (sym (append-nil (answers ++ a ∷ []))) ∙ all.1 [] ∙ nowhere devices empty ∙ ap ends (sym is)

    pub written-ends : (o : Outcome) → left ≡ None → written a.answer ≡ Some o → next (answers ++ a ∷ []) ≡ ends o
    written-ends o e end = walk-ends write_query written (by_all not_written) w next answers a o end (writing e)

    pub written-moves : (new : Walk) (locator' : Option Beginning) → left ≡ None → locator' ≡ locator → written a.answer ≡ None → Moves new → IsPut new locator' left next (answers ++ a ∷ [])
    written-moves new locator' e same goes moves =
        let here = writing e in
        record {
          config = h.config;
          id = h.id;
          token = h.token;
          bytes = h.bytes;
          locator_is = same ∙ h.locator_is;
          walks = subst (λ v. IsPutting h.config h.id h.token h.bytes new v next (answers ++ a ∷ [])) (sym e)
              (walk-moves write_query written (by_all not_written) w new next answers a goes here (moves write_query here.seen here.devices here.at));
        }

    pub written-over : (new : Walk) (o : Outcome) → left ≡ None → written a.answer ≡ None → Ends new → ((seen : List Answer) → new.seen ≡ seen_of seen → o ≡ not_written seen) → next (answers ++ a ∷ []) ≡ ends o
    written-over new o e goes over all =
        let here = writing e in
        let last = over write_query here.seen here.devices here.at in
        walk-last write_query written (by_all not_written) w next answers a goes last.0 here ∙ ap ends (sym (all (here.seen ++ a.answer ∷ []) last.1.seen_is))

signed-is : (c : Configuration) (token bytes : List ℕ) (mtime : ℕ) → block_text bytes ++ permission_hint (md5 bytes) token (expiry_at c.ttl mtime) c.ttl c.secret ≡ signed_locator c token bytes mtime
unfolding signed_locator
signed-is c token bytes mtime = refl

-- the locator of a put, signed
pub stored-is : (c : Configuration) (token bytes : List ℕ) (mtime : ℕ) (u : Beginning) → u ≡ block_unsigned c token bytes → u.text ++ permission_hint u.digest u.token (expiry_at u.ttl mtime) u.ttl u.secret ≡ signed_locator c token bytes mtime
stored-is c token bytes mtime u e =
    ap (λ (v : Beginning). v.text ++ permission_hint v.digest v.token (expiry_at v.ttl mtime) v.ttl v.secret) e ∙ signed-is c token bytes mtime

-- ---- how tasks begin

pub put-begins : (c : Configuration) (id : TokenId) (devices token bytes : List ℕ) (w : Walk) → IsAt w (Q.CompareTouch bytes (Some id)) [] devices → IsPutting c id token bytes w (Some devices) (next c (T.Put devices token id bytes)) []
unfolding next
put-begins c id devices token bytes w at = begins (Q.CompareTouch bytes (Some id)) (on_device (compare_end c token bytes)) (writes c id token bytes devices) w _ [] devices at (λ more. refl)

pub get-begins : (c : Configuration) (devices hash : List ℕ) (w : Walk) → IsAt w (Q.Fetch hash) [] devices → IsGet w (next c (T.Get devices hash)) []
unfolding next
get-begins c devices hash w at = record { digest = hash; walks = begins (Q.Fetch hash) (on_device fetch_end) (by_all not_fetched) w _ [] devices at (λ more. refl) }

pub touch-begins : (c : Configuration) (id : TokenId) (devices token hash text : List ℕ) (w : Walk) (locator : Option Beginning) → locator ≡ Some (unsigned c token hash text) → IsAt w (Q.Touch hash (Some id)) [] devices → IsTouch w locator (next c (T.Touch devices token id hash text)) []
unfolding next
touch-begins c id devices token hash text w locator is at = record {
  config = c;
  id = id;
  token = token;
  digest = hash;
  text = text;
  locator_is = is;
  walks = begins (Q.Touch hash (Some id)) (on_device (touch_end c token hash text)) (by_all not_touched) w _ [] devices at (λ more. refl);
}

pub untrash-begins : (c : Configuration) (devices hash : List ℕ) (w : Walk) → IsAt w (Q.Untrash hash) [] devices → IsUntrash w (next c (T.Untrash devices hash)) []
unfolding next
untrash-begins c devices hash w at = record { digest = hash; walks = begins (Q.Untrash hash) (on_device no_end) (by_all untrashed) w _ [] devices at (λ more. refl) }
