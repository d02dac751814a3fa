-- What a pull worker asks, `pull-query` and `pull-asks`; where an answer takes it, `pull-taken`; how it begins, `pull-opens` and `pull-begins`.
use Rattle.std.proofs.Common.{◌≡◌, ◌<◌, ◌+◌, ℕ, Bool, true, false, nat_lt, if◌then◌else◌, List, [], ◌∷◌, ◌++◌, length, Option, None, Some, Ok, refl, sym, ◌∙◌, ap, subst, arith}
use Rattle.keep_spec.specs.Config.{Configuration}
use Rattle.keep_spec.specs.declared.token.TokenId.{TokenId}
use Rattle.keep_event.specs.declared.device.DeviceAnswer.{DeviceAnswer}
use Rattle.keep_event.specs.declared.device.DeviceAnswer.TheVariants as A
use Rattle.keep_event.specs.declared.device.DeviceQuery.TheVariants as Q
use Rattle.keep_event.specs.declared.event.Query.TheVariants as Query
use Rattle.keep_history.specs.declared.task.Opening.TheVariants as Open
use Rattle.keep_history.specs.declared.task.Outcome.{Outcome}
use Rattle.keep_history.specs.declared.task.Outcome.TheVariants as O
use Rattle.keep_history.specs.declared.task.Task.TheVariants as T
use Rattle.keep_history.specs.Next.{Answered, GoesFrom, Next, asks}
use Rattle.keep_history.specs.Tasks.{next, opened}
use Rattle.keep_history.specs.Workers.{Phase, Pulling, by_device, fetch_from, fetching, fetching_answered, in_phase, pull_after, item_failed, pull_answered, pull_next, taking, writing, writing_answered}
use Rattle.keep_history.proofs.Going.{goes-asks}
use Rattle.keep_steps.specs.Steps.{IsTaken}
use Rattle.keep_workers.specs.Pulls.{IsInPhase, IsPulling, IsPullingFew, PullMayAsk, PullMoves, SamePlace, block_in, pulling}
use Rattle.keep_workers.specs.declared.pull.PullWorker.{PullWorker}
use Rattle.keep_workers.proofs.Moving.{asks-below, ends-there, stands-there}

pull-query : (w : PullWorker) (phase : Phase) → IsInPhase w phase → IsPullingFew w → pull_next w.device (pulling phase w) ≡ asks w.query
pull-query w taking at few = asks-below (w.done + w.failed) (Query.Device w.device Q.PullNext) (O.Pulled w.done w.failed) few ∙ ap asks (sym at)
pull-query w (fetching hash source sources) at few = ap asks (sym at.0)
pull-query w (writing bytes) at few = ap asks (sym at)

pub pull-asks : (w : PullWorker) (by : List Answered → Next) (answers : List Answered) → IsPulling w by answers → by answers ≡ asks w.query
pull-asks w by answers h =
    goes-asks (pull_next w.device) (pull_after h.config) (pulling h.phase w) by answers h.goes ∙ pull-query w h.phase h.in_phase h.few

pub pull-taken : (w new : PullWorker) (a : Answered) (end : Option Outcome) → SamePlace w new
    → ((c : Configuration) → (phase : Phase) → IsPullingFew w → IsInPhase w phase → w.devices ≡ length c.devices → PullMoves (by_device (pull_answered c phase) a.answer (pulling phase w)) new end)
    → (by : List Answered → Next) (answers : List Answered) → IsPulling w by answers → IsTaken by (answers ++ a ∷ []) end (IsPulling new by)
pull-taken w new a (Some outcome) same moves by answers h =
    ends-there (pull_next w.device) (pull_after h.config) (pulling h.phase w) by answers h.goes w.query (pull-query w h.phase h.in_phase h.few) a outcome
    (moves h.config h.phase h.few h.in_phase h.devices_are w.device)
pull-taken w new a None same moves by answers h =
    let s : Pulling = by_device (pull_answered h.config h.phase) a.answer (pulling h.phase w) in
    let moved : PullMoves s new None = moves h.config h.phase h.few h.in_phase h.devices_are in
    record {
      config = h.config;
      phase = s.phase;
      devices_are = same.1 ∙ h.devices_are;
      in_phase = moved.0;
      few = moved.2;
      goes = subst (λ d. GoesFrom (pull_next d) (pull_after h.config) (pulling s.phase new) by (answers ++ a ∷ [])) (sym same.0)
          (stands-there (pull_next w.device) (pull_after h.config) (pulling h.phase w) by answers h.goes w.query (pull-query w h.phase h.in_phase h.few) a (pulling s.phase new) moved.1);
    }

-- whatever comes in place of Written, the item has failed
pub not-written : (answer : DeviceAnswer) (s : Pulling) → ((mtime : ℕ) → answer ≡ A.Written mtime → ⊥) → writing_answered answer s ≡ item_failed s
not-written (A.Written mtime) s never = absurd (never mtime refl)
not-written _ s never = refl

-- the next source is asked where no block came
pub not-a-block : (answer : DeviceAnswer) (hash sources : List ℕ) (s : Pulling) → block_in answer ≡ None → fetching_answered hash sources answer s ≡ fetch_from hash sources s
not-a-block (A.Block bytes) hash sources s none = by (nat_lt 67108864 (length bytes)) none
  where
    by : (long : Bool) → (if long then None else Some bytes) ≡ None → (if long then fetch_from hash sources s else in_phase (writing bytes) s) ≡ fetch_from hash sources s
    by true e = refl
    by false e = absurd (cc e)
not-a-block _ hash sources s none = refl

-- what is asked says the phase
pub is-writing : (w : PullWorker) (phase : Phase) (d : ℕ) (bytes : List ℕ) (token : Option TokenId) → w.query ≡ Query.Device d (Q.Write bytes token) → IsInPhase w phase → (c : Configuration) (answer : DeviceAnswer) (s : Pulling) → pull_answered c phase answer s ≡ writing_answered answer s
is-writing w taking d bytes token is at c answer s = absurd (by (sym is ∙ at))
  where
    by : Query.Device d (Q.Write bytes token) ≡ Query.Device w.device Q.PullNext → ⊥
    by e = cc e
is-writing w (fetching hash source sources) d bytes token is at c answer s = absurd (by (sym is ∙ at.0))
  where
    by : Query.Device d (Q.Write bytes token) ≡ Query.Device source (Q.Fetch hash) → ⊥
    by e = cc e
is-writing w (writing block) d bytes token is at c answer s = refl

pub pull-may-ask : (c : Configuration) (device : ℕ) (w : PullWorker) → device < length c.devices → w.device ≡ device → w.devices ≡ length c.devices → w.query ≡ Query.Device device Q.PullNext → w.sources.items ≡ [] → PullMayAsk w (length c.devices)
pull-may-ask c device w within own known asked none = record {
  query = rw asked within;
  sources = rw none (λ k d h. absurd (omega (arith, h)));
  own = rw own within;
  known = rw known (omega arith);
}

pub pull-opens : (c : Configuration) (device reading : ℕ) → opened c (Open.PullWorker device) reading ≡ Ok (T.PullWorker device)
unfolding opened
pull-opens c device reading = refl

pub pull-begins : (c : Configuration) (device : ℕ) (w : PullWorker) → w.device ≡ device → w.devices ≡ length c.devices → w.query ≡ Query.Device device Q.PullNext → w.done ≡ 0 → w.failed ≡ 0 → IsPulling w (next c (T.PullWorker device)) []
unfolding next
pull-begins c device w own known asked none none' = record {
  config = c;
  phase = taking;
  devices_are = known;
  in_phase = rw own asked;
  few = rw (none, none') (omega arith);
  goes = rw (own, none, none') (λ more. refl);
}
