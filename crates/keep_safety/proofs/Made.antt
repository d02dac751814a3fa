-- Each row that is held was made of a request that nothing refused: `rows-made`.
use Rattle.std.proofs.Common.{◌≡◌, ◌≤◌, ◌+◌, ℕ, [], ◌∷◌, map, filter, Bool, true, false, ◌&&◌, refl, sym, ◌∙◌, ap, subst, Option, None, Some, is_none, option_map, inl, inr, nat_eq, if◌then◌else◌}
use Rattle.std.specs.Prelude.{◌⊎◌, nat_le}
use Rattle.std.specs.Option.{option_or}
use Rattle.std.proofs.lemmas.Bool.{leb-true, and_parts}
use Rattle.keep_spec.specs.Config.{Configuration}
use Rattle.keep_spec.specs.Refusals.{bad}
use Rattle.keep_spec.specs.Stripped.{portable_hash}
use Rattle.keep_event.specs.Requests.{made_of, refusal_of_request, refused_at, bad_manifest, bad_signature, wrong_hash, bad_want, table_line}
use Rattle.keep_event.specs.Table as tables
use Rattle.keep_event.specs.Table.{State, Reply, stays}
use Rattle.keep_event.specs.declared.table.NewRecord.{NewRecord}
use Rattle.keep_event.specs.declared.table.SaveRequest.{SaveRequest}
use Rattle.keep_event.specs.declared.table.TableQuery.{TableQuery}
use Rattle.keep_event.specs.declared.table.TableQuery.TheVariants as TQ
use Rattle.keep_event.specs.declared.table.TableAnswer.{TableAnswer}
use Rattle.keep_event.specs.declared.table.TableAnswer.TheVariants as T
use Rattle.keep_event.specs.declared.event.Query.{Query}
use Rattle.keep_event.specs.declared.event.Query.TheVariants as Q
use Rattle.keep_event.specs.declared.event.Answer.{Answer}
use Rattle.keep_event.specs.declared.event.Answer.TheVariants as A
use Rattle.keep_safety.specs.Allowed.{IsAllowed}
use Rattle.keep_spec.specs.Members.{IsIn}
use Rattle.keep_safety.specs.Past.{Past, table_after, IsAnswered}
use Rattle.keep_safety.specs.Rows.{Row, rows, rows_after, rows_made, stays_at_update, stays_at_sweep, superseded_by, new_row}
use Rattle.keep_order.proofs.Lists.{in-map, in-filter, in-either}
use Rattle.keep_safety.proofs.TableLines.{is_refusal, save-cases, update-cases}
use Rattle.keep_safety.proofs.Tables.{refused-rows, row_if}

pub record IsMade (made : NewRecord) : Type 0 where
  pub request : SaveRequest
  pub is : made ≡ made_of request
  pub good : bad request.text ≡ None
  pub wants : 1 ≤ request.want

-- ---- a request that nothing refuses
first-none : {X : Type 0} (x y : Option X) → option_or x y ≡ None → x ≡ None
first-none None y e = refl
first-none (Some a) y e = cc e

second-none : {X : Type 0} (x y : Option X) → option_or x y ≡ None → y ≡ None
second-none None y e = e
second-none (Some a) y e = cc e

unmapped : {X Y : Type 0} (f : X → Y) (o : Option X) → option_map f o ≡ None → o ≡ None
unmapped f None e = refl
unmapped f (Some x) e = cc e

wants-some : (want : ℕ) → bad_want want ≡ None → 1 ≤ want
wants-some want = by (nat_le 1 want && nat_le want 255) refl
  where
    by : (b : Bool) → (nat_le 1 want && nat_le want 255) ≡ b → (if b then None else Some T.BadWant) ≡ None → 1 ≤ want
    by true e is = leb-true 1 want (and_parts (nat_le 1 want) (nat_le want 255) e).0
    by false e is = cc is

module _ (c : Configuration) (reading : ℕ) (request : SaveRequest) (none : refusal_of_request c reading request ≡ None) where
  pub good-text : bad request.text ≡ None
  good-text = unmapped refused_at (bad request.text) (first-none (bad_manifest request.text) _ none)

  rest-none : option_or (bad_signature c reading request) (option_or (wrong_hash (portable_hash request.text) request.portable) (bad_want request.want)) ≡ None
  rest-none = second-none (bad_manifest request.text) _ none

  pub good-signatures : bad_signature c reading request ≡ None
  good-signatures = first-none (bad_signature c reading request) _ rest-none

  pub good-want : 1 ≤ request.want
  good-want = wants-some request.want (second-none (wrong_hash (portable_hash request.text) request.portable) (bad_want request.want) (second-none (bad_signature c reading request) _ rest-none))

  made-of : IsMade (made_of request)
  made-of = record { request = request; is = refl; good = good-text; wants = good-want }

superseded-made-by : (b : Bool) (x r : Row) → x.made ≡ r.made → (row_if b x r).made ≡ r.made
superseded-made-by true x r e = e
superseded-made-by false x r e = refl

pub superseded-made : (number reading : ℕ) (preserve : Bool) (r : Row) → (superseded_by number reading preserve r).made ≡ r.made
superseded-made number reading preserve r = superseded-made-by (nat_eq r.number number && is_none r.superseded) (record { number = r.number; version = r.version; revision = r.revision; made = r.made; superseded = Some (record { at = reading; preserved = preserve }) }) r refl

-- ---- one event more
module _ (c : Configuration) (past : Past) (reading : ℕ) (f : (r : Row) → IsIn r (rows c past) → IsMade r.made) where
  abbrev AllMade : TableQuery → Reply → Type 0
  AllMade q r = (x : Row) → IsIn x (rows_after c past reading (Q.Table q) (A.Table r.answer) (rows c past)) → IsMade x.made

  quiet : (q : TableQuery) (a : TableAnswer) → is_refusal a ≡ true → AllMade q (stays a (table_after c past))
  quiet q a e x i = f x (subst (λ v. IsIn x v) (refused-rows c past reading q a (rows c past) e) i)

  this-made : (request : SaveRequest) (number version revision : ℕ) (x : Row) → refusal_of_request c reading request ≡ None → x ≡ new_row number version revision (made_of request) → IsMade x.made
  this-made request number version revision x none e = subst (λ (v : Row). IsMade v.made) (sym e) (made-of c reading request none)

  made-line : (q : TableQuery) → AllMade q (table_line c reading q (table_after c past))
  unfolding tables.begin_round tables.scan tables.create tables.sweep
  made-line (TQ.Save request) = save-cases c reading (table_after c past) (AllMade (TQ.Save request)) (quiet (TQ.Save request)) request (λ token e none x i.
      by x none (in-either x (rows c past) (new_row ((table_after c past).numbers + 1) 1 (rows_made past + 1) (made_of request) ∷ []) i))
    where
      by : (x : Row) → refusal_of_request c reading request ≡ None → IsIn x (rows c past) ⊎ IsIn x (new_row ((table_after c past).numbers + 1) 1 (rows_made past + 1) (made_of request) ∷ []) → IsMade x.made
      by x none (inl i) = f x i
      by x none (inr (inl e)) = this-made request _ _ _ x none e
      by x none (inr (inr i)) = absurd i
  made-line (TQ.Update number preserve request) = update-cases c reading (table_after c past) (AllMade (TQ.Update number preserve request)) (quiet (TQ.Update number preserve request)) number preserve request (λ token y e found none x i.
      by x none (in-either x (map (superseded_by number reading preserve) (filter (stays_at_update c reading number) (rows c past))) (new_row number (tables.current_version number (table_after c past) + 1) (rows_made past + 1) (made_of request) ∷ []) i))
    where
      by : (x : Row) → refusal_of_request c reading request ≡ None → IsIn x (map (superseded_by number reading preserve) (filter (stays_at_update c reading number) (rows c past))) ⊎ IsIn x (new_row number (tables.current_version number (table_after c past) + 1) (rows_made past + 1) (made_of request) ∷ []) → IsMade x.made
      by x none (inl i) =
          let m = in-map (superseded_by number reading preserve) x (filter (stays_at_update c reading number) (rows c past)) i in
          subst IsMade (sym (ap (λ (v : Row). v.made) m.is ∙ superseded-made number reading preserve m.from)) (f m.from (in-filter (stays_at_update c reading number) m.from (rows c past) m.member).0)
      by x none (inr (inl e)) = this-made request _ _ _ x none e
      by x none (inr (inr i)) = absurd i
  made-line TQ.Sweep = λ x i. f x (in-filter (stays_at_sweep c past reading) x (rows c past) i).0
  made-line _ = λ x i. f x i

  pub made-next : (q : Query) (a : Answer) → IsAnswered c past reading q a → (x : Row) → IsIn x (rows_after c past reading q a (rows c past)) → IsMade x.made
  made-next (Q.Table q) (A.Table a) is = subst (λ a. (x : Row) → IsIn x (rows_after c past reading (Q.Table q) (A.Table a) (rows c past)) → IsMade x.made) (sym is) (made-line q)
  made-next (Q.Table q) (A.Device a) is = absurd is
  made-next (Q.Device n q) (A.Table a) is = absurd is
  made-next (Q.Device n q) (A.Device a) is = f

pub rows-made : (c : Configuration) (past : Past) → IsAllowed c past → (r : Row) → IsIn r (rows c past) → IsMade r.made
rows-made c [] a = λ r i. absurd i
rows-made c (e ∷ past) a = made-next c past e.reading (rows-made c past a.1) e.query e.answer a.0.answered
