-- The counters of a table: a query raises each by one at most (`line-few`, `same-few`, `few-to`).
use Rattle.std.proofs.Common.{◌≡◌, ◌≤◌, ◌+◌, ℕ, Bool, true, false, Option, None, Some, Result, Ok, Err, arith, if◌then◌else◌}
use Rattle.std.specs.Prelude.{nat_le}
use Rattle.keep_spec.specs.Config.{Configuration, token_of}
use Rattle.keep_spec.specs.declared.token.TokenId.{TokenId}
use Rattle.keep_event.specs.Table as machine
use Rattle.keep_event.specs.Table.{State, Reply, stays, unless_refused}
use Rattle.keep_event.specs.Requests.{table_line, by_token, if_allowed, save, update_line, rules_of, refusal_of_request, made_of}
use Rattle.keep_event.specs.declared.table.TableAnswer.{TableAnswer}
use Rattle.keep_event.specs.declared.table.TableAnswer.TheVariants.{TooManyVersions}
use Rattle.keep_event.specs.declared.table.TableQuery.{TableQuery}
use Rattle.keep_event.specs.declared.table.TableQuery.TheVariants as TQ
use Rattle.keep_event.specs.Counters.{CountersUpTo, RisesByOne}

module _ (s : State) where
  abbrev Rises : Reply → Type 0
  Rises r = RisesByOne s r.state

  rises-to : (t : State) → t.numbers ≤ s.numbers + 1 → t.revisions ≤ s.revisions + 1 → t.rounds ≤ s.rounds + 1 → RisesByOne s t
  rises-to t a b c = λ most h. record { numbers = omega (arith, a, h.numbers); revisions = omega (arith, b, h.revisions); rounds = omega (arith, c, h.rounds) }

  pub same-few : RisesByOne s s
  same-few = λ most h. record { numbers = omega (arith, h.numbers); revisions = omega (arith, h.revisions); rounds = omega (arith, h.rounds) }

  unless-few : {X : Type 0} (r : Result X TableAnswer) (next : X → Reply) → ((x : X) → Rises (next x)) → Rises (unless_refused s r next)
  unless-few (Err refusal) next h = same-few
  unless-few (Ok x) next h = h x

  if-few : (b : Bool) (x y : Reply) → Rises x → Rises y → Rises (if b then x else y)
  if-few true x y h k = h
  if-few false x y h k = k

  by-few : (o : Option TokenId) (next : TokenId → Reply) → ((t : TokenId) → Rises (next t)) → Rises (by_token o s next)
  by-few None next h = same-few
  by-few (Some t) next h = h t

  allowed-few : (o : Option TableAnswer) (r : Reply) → Rises r → Rises (if_allowed o s r)
  allowed-few None r h = h
  allowed-few (Some refusal) r h = same-few

  pub line-few : (c : Configuration) (reading : ℕ) (q : TableQuery) → Rises (table_line c reading q s)
  unfolding save update_line machine.begin_round machine.create machine.update machine.read machine.set_trash machine.restore machine.sweep machine.scan
  line-few c reading TQ.BeginRound = rises-to _ (omega arith) (omega arith) (omega arith)
  line-few c reading (TQ.Save request) =
      by-few (token_of c request.token) _ (λ t. allowed-few (refusal_of_request c reading request) (machine.create t (made_of request) s)
      (rises-to _ (omega arith) (omega arith) (omega arith)))
  line-few c reading (TQ.Update collection preserve request) =
      by-few (token_of c request.token) _ (λ t. allowed-few _ (machine.update (rules_of c) reading t collection (made_of request) preserve s)
      (unless-few (machine.updatable reading t collection s) _ (λ x.
      if-few (nat_le (rules_of c).versions (machine.versions_held reading collection s))
      (stays (TooManyVersions (machine.versions_held reading collection s)) s) (machine.with_update (rules_of c) reading collection (made_of request) preserve s)
      same-few (rises-to _ (omega arith) (omega arith) (omega arith)))))
  line-few c reading (TQ.Read token collection version) =
      by-few (token_of c token) _ (λ t. unless-few (machine.row_of_version (rules_of c) reading t collection version s) _ (λ answer. same-few))
  line-few c reading (TQ.SetTrash token collection trash_at delete_at) =
      by-few (token_of c token) _ (λ t. unless-few (machine.owned t collection s) _ (λ x. rises-to _ (omega arith) (omega arith) (omega arith)))
  line-few c reading (TQ.Restore token collection) =
      by-few (token_of c token) _ (λ t. unless-few (machine.owned t collection s) _ (λ x. rises-to _ (omega arith) (omega arith) (omega arith)))
  line-few c reading TQ.Sweep = rises-to _ (omega arith) (omega arith) (omega arith)
  line-few c reading (TQ.Scan round after limit) = same-few

-- no more than a greater number
pub few-to : (most more : ℕ) (s : State) → more ≡ most + 1 → CountersUpTo (most + 1) s → CountersUpTo more s
few-to most more s e h = record { numbers = omega (arith, e, h.numbers); revisions = omega (arith, e, h.revisions); rounds = omega (arith, e, h.rounds) }
