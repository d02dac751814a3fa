-- What is known of the table after any past that may happen, its records are the rows that are held and its collections have the times that were set: `table-facts`.
use Rattle.std.proofs.Common.{◌≡◌, ◌≤◌, ◌<◌, ◌+◌, ℕ, List, [], ◌∷◌, ◌++◌, map, filter, Bool, true, false, cond, not, ◌&&◌, refl, sym, ◌∙◌, ap, subst, Option, None, Some, is_none, arith, inl, inr, nat_eq, if◌then◌else◌}
use Rattle.std.specs.Prelude.{◌⊎◌, nat_lt}
use Rattle.std.specs.List.{find}
use Rattle.std.specs.Option.{option_map_or}
use Rattle.std.proofs.lemmas.Bool.{eqb-true, eqb-false, eq-eqb, ne_eqb, and_parts}
use Rattle.keep_spec.specs.Config.{Configuration}
use Rattle.keep_spec.specs.Times.{grace, guard}
use Rattle.keep_spec.specs.declared.token.TokenId.{TokenId}
use Rattle.keep_event.specs.Requests.{rules_of, made_of, table_line}
use Rattle.keep_event.specs.Table as tables
use Rattle.keep_event.specs.Table.{State, Reply, stays, collection_of, create, new_record, new_collection, with_update, superseded, kept_until, current_version, is_current, is_current_of, is_of, is_due, is_due_of, is_gone, goes, outlasts, with_times, with_collections, deleted_at}
use Rattle.keep_event.specs.declared.table.Standing.{Standing}
use Rattle.keep_event.specs.declared.table.Standing.TheVariants.{Current, Kept, Preserved}
use Rattle.keep_event.specs.declared.table.Record.{Record}
use Rattle.keep_event.specs.declared.table.Collection.{Collection}
use Rattle.keep_event.specs.declared.table.SaveRequest.{SaveRequest}
use Rattle.keep_event.specs.declared.table.TableQuery.{TableQuery}
use Rattle.keep_event.specs.declared.table.TableQuery.TheVariants as TQ
use Rattle.keep_event.specs.declared.table.TableAnswer.{TableAnswer}
use Rattle.keep_event.specs.declared.table.TableAnswer.TheVariants as T
use Rattle.keep_event.specs.declared.event.Query.{Query}
use Rattle.keep_event.specs.declared.event.Query.TheVariants as Q
use Rattle.keep_event.specs.declared.event.Answer.{Answer}
use Rattle.keep_event.specs.declared.event.Answer.TheVariants as A
use Rattle.keep_table.specs.Contents.{AreOrderly, AreDrawn}
use Rattle.keep_table.proofs.Orderly.{orderly-created, orderly-filter, orderly-updated, outlasts-together, update-keeps-current, collections-created, collections-filter, collections-map}
use Rattle.keep_table.proofs.Updates.{kept-not-current}
use Rattle.keep_table.proofs.Versions.{version-le}
use Rattle.keep_safety.specs.Allowed.{IsAllowed}
use Rattle.keep_spec.specs.Members.{IsIn}
use Rattle.keep_safety.specs.Past.{Past, table_after, table_left_by, IsAnswered}
use Rattle.keep_safety.specs.declared.superseded.Superseded.{Superseded}
use Rattle.keep_safety.specs.Rows.{Row, rows, rows_after, rows_made, makes, delete_at, deleted_by, is_over, is_past, stays_at_update, stays_at_sweep, superseded_by, new_row}
use Rattle.keep_order.proofs.Lists.{in-map, map-in, in-filter, filter-in, in-either, in-left, in-right, find-in, all-at}
use Rattle.keep_safety.proofs.TableLines.{is_refusal, save-cases, update-cases, trash-cases, restore-cases, read-cases}

-- ---- lists
pub map-push : {X Y : Type 0} (f : X → Y) (xs : List X) (x : X) → map f (xs ++ x ∷ []) ≡ map f xs ++ f x ∷ []
map-push f [] x = refl
map-push f (y ∷ ys) x = ap (λ v. f y ∷ v) (map-push f ys x)

filter-map-by : {X Y : Type 0} (f : X → Y) (x : X) (b c : Bool) (ys : List Y) (xs : List X) → b ≡ c → ys ≡ map f xs → cond b (f x ∷ ys) ys ≡ map f (cond c (x ∷ xs) xs)
filter-map-by f x true true ys xs e h = ap (λ v. f x ∷ v) h
filter-map-by f x true false ys xs e h = cc e
filter-map-by f x false true ys xs e h = cc e
filter-map-by f x false false ys xs e h = h

pub filter-map-on : {X Y : Type 0} (f : X → Y) (p : Y → Bool) (q : X → Bool) (xs : List X) → ((x : X) → IsIn x xs → p (f x) ≡ q x) → filter p (map f xs) ≡ map f (filter q xs)
filter-map-on f p q [] h = refl
filter-map-on f p q (x ∷ xs) h = filter-map-by f x (p (f x)) (q x) (filter p (map f xs)) (filter q xs) (h x (inl refl)) (filter-map-on f p q xs (λ y i. h y (inr i)))

pub map-map-on : {X Y : Type 0} (f : X → Y) (g : Y → Y) (k : X → X) (xs : List X) → ((x : X) → g (f x) ≡ f (k x)) → map g (map f xs) ≡ map f (map k xs)
map-map-on f g k [] h = refl
map-map-on f g k (x ∷ xs) h = ap (λ v. v ∷ map g (map f xs)) (h x) ∙ ap (λ v. f (k x) ∷ v) (map-map-on f g k xs h)

-- ---- rows and records
abbrev pub standing_of : Configuration → Option Superseded → Standing
standing_of c None = Current
standing_of c (Some s) = if s.preserved then Preserved else Kept (s.at + grace c.ttl c.skew)

abbrev pub record_of : Configuration → Row → Record
record_of c r = record { collection = r.number; version = r.version; revision = r.revision; made = r.made; standing = standing_of c r.superseded }

due-over : (c : Configuration) (reading : ℕ) (o : Option Superseded) → is_due reading (standing_of c o) ≡ is_over c reading o
due-over c reading None = refl
due-over c reading (Some s) = by s.preserved
  where
    by : (b : Bool) → is_due reading (if b then Preserved else Kept (s.at + grace c.ttl c.skew)) ≡ (not b && nat_lt (s.at + grace c.ttl c.skew) reading)
    by true = refl
    by false = refl

current-none : (c : Configuration) (o : Option Superseded) → is_current (standing_of c o) ≡ is_none o
current-none c None = refl
current-none c (Some s) = by s.preserved
  where
    by : (b : Bool) → is_current (if b then Preserved else Kept (s.at + grace c.ttl c.skew)) ≡ false
    by true = refl
    by false = refl

stays-same : (c : Configuration) (reading number : ℕ) (r : Row) → not (is_due_of reading number (record_of c r)) ≡ stays_at_update c reading number r
stays-same c reading number r = ap (λ b. not (nat_eq r.number number && b)) (due-over c reading r.superseded)

abbrev standing_as : Standing → Row → Record
standing_as standing r = record { collection = r.number; version = r.version; revision = r.revision; made = r.made; standing = standing }

superseded-if : (c : Configuration) (reading : ℕ) (preserve : Bool) (r : Row) (b : Bool) → (if b then standing_as (kept_until (rules_of c) reading preserve) r else record_of c r)
    ≡ record_of c (if b then record { number = r.number; version = r.version; revision = r.revision; made = r.made; superseded = Some (record { at = reading; preserved = preserve }) } else r)
superseded-if c reading preserve r true = refl
superseded-if c reading preserve r false = refl

superseded-same : (c : Configuration) (reading number : ℕ) (preserve : Bool) (r : Row) → superseded number (kept_until (rules_of c) reading preserve) (record_of c r) ≡ record_of c (superseded_by number reading preserve r)
superseded-same c reading number preserve r = ap (λ b. if nat_eq r.number number && b then standing_as (kept_until (rules_of c) reading preserve) r else record_of c r) (current-none c r.superseded) ∙ superseded-if c reading preserve r (nat_eq r.number number && is_none r.superseded)

abbrev pub row_if : Bool → Row → Row → Row
row_if b x y = if b then x else y

superseded-number-by : (b : Bool) (x r : Row) → x.number ≡ r.number → (row_if b x r).number ≡ r.number
superseded-number-by true x r e = e
superseded-number-by false x r e = refl

pub superseded-number : (number reading : ℕ) (preserve : Bool) (r : Row) → (superseded_by number reading preserve r).number ≡ r.number
superseded-number number reading preserve r = superseded-number-by (nat_eq r.number number && is_none r.superseded) (record { number = r.number; version = r.version; revision = r.revision; made = r.made; superseded = Some (record { at = reading; preserved = preserve }) }) r refl

-- ---- what is known of a collection, and of the table
pub record CollectionFacts (c : Configuration) (numbers : ℕ) (del : ℕ → Option ℕ) (x : Collection) : Type 0 where
  pub deletes : x.delete_at ≡ del x.number
  pub later : (at : ℕ) → x.trash_at ≡ Some at → (t : ℕ) × (x.delete_at ≡ Some t) × (at + guard c.skew ≤ t)
  pub never : x.trash_at ≡ None → x.delete_at ≡ None

pub record Facts (c : Configuration) (t : State) (rs : List Row) (made : ℕ) (del : ℕ → Option ℕ) : Type 0 where
  pub records : t.records ≡ map (record_of c) rs
  pub revisions : t.revisions ≡ made
  pub orderly : AreOrderly t.numbers t.revisions t.records
  pub drawn : AreDrawn t.numbers t.collections
  pub owned : (r : Row) → IsIn r rs → (x : Collection) × IsIn x t.collections × (x.number ≡ r.number)
  pub times : (x : Collection) → IsIn x t.collections → CollectionFacts c t.numbers del x
  pub fresh : (n : ℕ) → t.numbers < n → del n ≡ None

abbrev pub TableFacts : Configuration → Past → Type 0
TableFacts c past = Facts c (table_after c past) (rows c past) (rows_made past) (λ n. delete_at n past)

facts-same : (c : Configuration) (t : State) (rs rs' : List Row) (made made' : ℕ) (del del' : ℕ → Option ℕ) → rs' ≡ rs → made' ≡ made → ((n : ℕ) → del' n ≡ del n) → Facts c t rs made del → Facts c t rs' made' del'
facts-same c t rs rs' made made' del del' e g h f = record {
  records = f.records ∙ ap (map (record_of c)) (sym e);
  revisions = f.revisions ∙ sym g;
  orderly = f.orderly;
  drawn = f.drawn;
  owned = λ r i. f.owned r (subst (λ v. IsIn r v) e i);
  times = λ x i. (let k = f.times x i in record { deletes = k.deletes ∙ sym (h x.number); later = k.later; never = k.never });
  fresh = λ n lt. h n ∙ f.fresh n lt;
}

plus-zero : (n : ℕ) → n + 0 ≡ n
plus-zero n = omega arith

abbrev collection_if : Bool → Collection → Collection → Collection
collection_if b x y = if b then x else y

found-not-by : {X : Type 0} (p : X → Bool) (y x : X) (xs : List X) (b : Bool) → p x ≡ b → (y ≡ x) ⊎ IsIn y xs → p y ≡ true → cond b (Some x) (find p xs) ≡ None → (IsIn y xs → find p xs ≡ None → ⊥) → ⊥
found-not-by p y x xs true e i t is rest = cc is
found-not-by p y x xs false e (inl same) t is rest = cc (sym t ∙ ap p same ∙ e)
found-not-by p y x xs false e (inr i) t is rest = rest i is

found-not : {X : Type 0} (p : X → Bool) (y : X) (xs : List X) → IsIn y xs → p y ≡ true → find p xs ≡ None → ⊥
found-not p y [] i t is = i
found-not p y (x ∷ xs) i t is = found-not-by p y x xs (p x) refl i t is (λ j. found-not p y xs j t)

-- a refusal makes no row and sets no time
module _ (c : Configuration) (past : Past) (reading : ℕ) where
  pub refused-rows : (q : TableQuery) (a : TableAnswer) (rs : List Row) → is_refusal a ≡ true → rows_after c past reading (Q.Table q) (A.Table a) rs ≡ rs
  refused-rows (TQ.Save request) a rs = by a
    where
      by : (a : TableAnswer) → is_refusal a ≡ true → rows_after c past reading (Q.Table (TQ.Save request)) (A.Table a) rs ≡ rs
      by (T.Saved number version portable) e = cc e
      by _ e = refl
  refused-rows (TQ.Update number preserve request) a rs = by a
    where
      by : (a : TableAnswer) → is_refusal a ≡ true → rows_after c past reading (Q.Table (TQ.Update number preserve request)) (A.Table a) rs ≡ rs
      by (T.Updated n version portable) e = cc e
      by _ e = refl
  refused-rows TQ.Sweep a rs = by a
    where
      by : (a : TableAnswer) → is_refusal a ≡ true → rows_after c past reading (Q.Table TQ.Sweep) (A.Table a) rs ≡ rs
      by (T.Swept versions collections) e = cc e
      by _ e = refl
  refused-rows _ a rs = λ e. refl

  refused-made : (q : TableQuery) (a : TableAnswer) → is_refusal a ≡ true → makes (Q.Table q) (A.Table a) ≡ 0
  refused-made (TQ.Save request) a = by a
    where
      by : (a : TableAnswer) → is_refusal a ≡ true → makes (Q.Table (TQ.Save request)) (A.Table a) ≡ 0
      by (T.Saved number version portable) e = cc e
      by _ e = refl
  refused-made (TQ.Update number preserve request) a = by a
    where
      by : (a : TableAnswer) → is_refusal a ≡ true → makes (Q.Table (TQ.Update number preserve request)) (A.Table a) ≡ 0
      by (T.Updated n version portable) e = cc e
      by _ e = refl
  refused-made _ a = λ e. refl

  pub refused-times : (q : TableQuery) (a : TableAnswer) (n : ℕ) (o : Option ℕ) → is_refusal a ≡ true → deleted_by n (Q.Table q) (A.Table a) o ≡ o
  refused-times (TQ.SetTrash token number t d) a n o = by a
    where
      by : (a : TableAnswer) → is_refusal a ≡ true → deleted_by n (Q.Table (TQ.SetTrash token number t d)) (A.Table a) o ≡ o
      by (T.TrashSet trash_at at) e = cc e
      by _ e = refl
  refused-times (TQ.Restore token number) a n o = by a
    where
      by : (a : TableAnswer) → is_refusal a ≡ true → deleted_by n (Q.Table (TQ.Restore token number)) (A.Table a) o ≡ o
      by T.Restored e = cc e
      by _ e = refl
  refused-times _ a n o = λ e. refl

  module _ (f : TableFacts c past) where
    abbrev t : State
    t = table_after c past

    abbrev rs : List Row
    rs = rows c past

    abbrev Then : TableQuery → Reply → Type 0
    Then q r = Facts c r.state (rows_after c past reading (Q.Table q) (A.Table r.answer) rs) (rows_made past + makes (Q.Table q) (A.Table r.answer)) (λ n. deleted_by n (Q.Table q) (A.Table r.answer) (delete_at n past))

    quiet : (q : TableQuery) (a : TableAnswer) → is_refusal a ≡ true → Then q (stays a t)
    quiet q a e = facts-same c t rs _ (rows_made past) _ (λ n. delete_at n past) _ (refused-rows q a rs e) (ap (λ k. rows_made past + k) (refused-made q a e) ∙ plus-zero (rows_made past)) (λ n. refused-times q a n (delete_at n past) e) f

    -- an answer that changes nothing of records and collections
    as-before : (s : State) (rs' : List Row) (made' : ℕ) (del' : ℕ → Option ℕ) → s.records ≡ t.records → s.revisions ≡ t.revisions → s.numbers ≡ t.numbers → s.collections ≡ t.collections → rs' ≡ rs → made' ≡ rows_made past → ((n : ℕ) → del' n ≡ delete_at n past) → Facts c s rs' made' del'
    as-before s rs' made' del' a b d e g h k = record {
      records = a ∙ f.records ∙ ap (map (record_of c)) (sym g);
      revisions = b ∙ f.revisions ∙ sym h;
      orderly = rw (a, b, d) f.orderly;
      drawn = rw (d, e) f.drawn;
      owned = λ r i. (let o = f.owned r (subst (λ v. IsIn r v) g i) in (o.0, subst (λ v. IsIn o.0 v) (sym e) o.1, o.2));
      times = λ x i. (let o = f.times x (subst (λ v. IsIn x v) e i) in record { deletes = o.deletes ∙ sym (k x.number); later = o.later; never = o.never });
      fresh = λ n lt. k n ∙ f.fresh n (omega (arith, d));
    }

    created : (request : SaveRequest) (token : TokenId) → Then (TQ.Save request) (create token (made_of request) t)
    unfolding create
    created request token = record {
      records = ap (λ v. v ++ new_record (t.numbers + 1) 1 (t.revisions + 1) (made_of request) ∷ []) f.records
          ∙ ap (λ n. map (record_of c) rs ++ new_record (t.numbers + 1) 1 (n + 1) (made_of request) ∷ []) f.revisions
          ∙ sym (map-push (record_of c) rs (new_row (t.numbers + 1) 1 (rows_made past + 1) (made_of request)));
      revisions = ap (λ n. n + 1) f.revisions;
      orderly = orderly-created t.numbers t.revisions t.records (new_record (t.numbers + 1) 1 (t.revisions + 1) (made_of request)) refl refl (omega arith) refl f.orderly;
      drawn = collections-created t.numbers t.collections (new_collection (t.numbers + 1) token) refl f.drawn;
      owned = λ r i. own r (in-either r rs (new_row (t.numbers + 1) 1 (rows_made past + 1) (made_of request) ∷ []) i);
      times = λ x i. time x (in-either x t.collections (new_collection (t.numbers + 1) token ∷ []) i);
      fresh = λ n lt. f.fresh n (omega (arith, lt));
    }
      where
        own : (r : Row) → IsIn r rs ⊎ IsIn r (new_row (t.numbers + 1) 1 (rows_made past + 1) (made_of request) ∷ []) → (x : Collection) × IsIn x (t.collections ++ new_collection (t.numbers + 1) token ∷ []) × (x.number ≡ r.number)
        own r (inl i) = let o = f.owned r i in (o.0, in-left o.0 t.collections (new_collection (t.numbers + 1) token ∷ []) o.1, o.2)
        own r (inr (inl e)) = (new_collection (t.numbers + 1) token, in-right (new_collection (t.numbers + 1) token) t.collections (new_collection (t.numbers + 1) token ∷ []) (inl refl), ap (λ (v : Row). v.number) (sym e))
        own r (inr (inr i)) = absurd i

        new-time : CollectionFacts c (t.numbers + 1) (λ n. delete_at n past) (new_collection (t.numbers + 1) token)
        new-time = record { deletes = sym (f.fresh (t.numbers + 1) (omega arith)); later = λ at e. cc e; never = λ e. refl }

        time : (x : Collection) → IsIn x t.collections ⊎ IsIn x (new_collection (t.numbers + 1) token ∷ []) → CollectionFacts c (t.numbers + 1) (λ n. delete_at n past) x
        time x (inl i) = let o = f.times x i in record { deletes = o.deletes; later = o.later; never = o.never }
        time x (inr (inl e)) = subst (λ v. CollectionFacts c (t.numbers + 1) (λ n. delete_at n past) v) (sym e) new-time
        time x (inr (inr i)) = absurd i

    member-of : (number : ℕ) (x : Collection) → collection_of number t ≡ Some x → IsIn x t.collections × (x.number ≡ number)
    member-of number x e = let i = find-in (λ (x : Collection). nat_eq x.number number) x t.collections e in (i.0, eqb-true x.number number i.1)

    member-drawn : (number : ℕ) (x : Collection) → collection_of number t ≡ Some x → number ≤ t.numbers
    member-drawn number x e = let i = member-of number x e in let d = all-at (λ (x : Collection). x.number ≤ t.numbers) x t.collections f.drawn i.0 in omega (arith, i.1)

    updated : (number : ℕ) (preserve : Bool) (request : SaveRequest) (x : Collection) → collection_of number t ≡ Some x → Then (TQ.Update number preserve request) (with_update (rules_of c) reading number (made_of request) preserve t)
    updated number preserve request x found = record {
      records = ap (λ v. map (superseded number (kept_until (rules_of c) reading preserve)) (filter (λ r. not (is_due_of reading number r)) v) ++ new_record number (current_version number t + 1) (t.revisions + 1) (made_of request) ∷ []) f.records
          ∙ ap (λ v. map (superseded number (kept_until (rules_of c) reading preserve)) v ++ new_record number (current_version number t + 1) (t.revisions + 1) (made_of request) ∷ []) (filter-map-on (record_of c) (λ r. not (is_due_of reading number r)) (stays_at_update c reading number) rs (λ r i. stays-same c reading number r))
          ∙ ap (λ v. v ++ new_record number (current_version number t + 1) (t.revisions + 1) (made_of request) ∷ []) (map-map-on (record_of c) (superseded number (kept_until (rules_of c) reading preserve)) (superseded_by number reading preserve) (filter (stays_at_update c reading number) rs) (superseded-same c reading number preserve))
          ∙ ap (λ n. map (record_of c) (map (superseded_by number reading preserve) (filter (stays_at_update c reading number) rs)) ++ new_record number (current_version number t + 1) (n + 1) (made_of request) ∷ []) f.revisions
          ∙ sym (map-push (record_of c) (map (superseded_by number reading preserve) (filter (stays_at_update c reading number) rs)) (new_row number (current_version number t + 1) (rows_made past + 1) (made_of request)));
      revisions = ap (λ n. n + 1) f.revisions;
      orderly = (let le = version-le t.numbers t.revisions (is_current_of number) t.records f.orderly.drawn in
          orderly-updated t.numbers t.revisions (kept_until (rules_of c) reading preserve) (λ r. not (is_due_of reading number r)) t.records (new_record number (current_version number t + 1) (t.revisions + 1) (made_of request))
          (kept-not-current (rules_of c) reading preserve) refl (update-keeps-current reading number) (member-drawn number x found) (omega (arith, le)) refl f.orderly);
      drawn = f.drawn;
      owned = λ r i. own r (in-either r (map (superseded_by number reading preserve) (filter (stays_at_update c reading number) rs)) (new_row number (current_version number t + 1) (rows_made past + 1) (made_of request) ∷ []) i);
      times = f.times;
      fresh = f.fresh;
    }
      where
        own : (r : Row) → IsIn r (map (superseded_by number reading preserve) (filter (stays_at_update c reading number) rs)) ⊎ IsIn r (new_row number (current_version number t + 1) (rows_made past + 1) (made_of request) ∷ []) → (x : Collection) × IsIn x t.collections × (x.number ≡ r.number)
        own r (inl i) =
            let m = in-map (superseded_by number reading preserve) r (filter (stays_at_update c reading number) rs) i in
            let o = f.owned m.from (in-filter (stays_at_update c reading number) m.from rs m.member).0 in
            (o.0, o.1, o.2 ∙ sym (ap (λ (v : Row). v.number) m.is ∙ superseded-number number reading preserve m.from))
        own r (inr (inl e)) = let i = member-of number x found in (x, i.0, i.1 ∙ ap (λ (v : Row). v.number) (sym e))
        own r (inr (inr i)) = absurd i

    -- ---- times
    time-set : (number trash_at asked : ℕ) (x : Collection) → CollectionFacts c t.numbers (λ n. delete_at n past) x → (b : Bool) → nat_eq x.number number ≡ b → (m : Bool) → nat_eq number x.number ≡ m →
        CollectionFacts c t.numbers (λ n. if nat_eq number n then Some (deleted_at (rules_of c) reading trash_at asked) else delete_at n past)
        (if b then record { number = x.number; owner = x.owner; trash_at = Some trash_at; delete_at = Some (deleted_at (rules_of c) reading trash_at asked) } else x)
    time-set number trash_at asked x k true e true m = record {
      deletes = sym (ap (λ b. if b then Some (deleted_at (rules_of c) reading trash_at asked) else delete_at x.number past) m);
      later = λ at is. (deleted_at (rules_of c) reading trash_at asked, refl, (let same : trash_at ≡ at = cc is in omega arith));
      never = λ e. cc e;
    }
    time-set number trash_at asked x k true e false m = absurd (eqb-false number x.number m (sym (eqb-true x.number number e)))
    time-set number trash_at asked x k false e true m = absurd (eqb-false x.number number e (sym (eqb-true number x.number m)))
    time-set number trash_at asked x k false e false m = record {
      deletes = k.deletes ∙ sym (ap (λ b. if b then Some (deleted_at (rules_of c) reading trash_at asked) else delete_at x.number past) m);
      later = k.later;
      never = k.never;
    }

    number-kept : (number : ℕ) (a d : Option ℕ) (x : Collection) → (with_times number a d x).number ≡ x.number
    number-kept number a d x = by (nat_eq x.number number)
      where
        by : (b : Bool) → (collection_if b (record { number = x.number; owner = x.owner; trash_at = a; delete_at = d }) x).number ≡ x.number
        by true = refl
        by false = refl

    owned-times : (number : ℕ) (a d : Option ℕ) (r : Row) → IsIn r rs → (x : Collection) × IsIn x (map (with_times number a d) t.collections) × (x.number ≡ r.number)
    owned-times number a d r i = let o = f.owned r i in (with_times number a d o.0, map-in (with_times number a d) o.0 t.collections o.1, number-kept number a d o.0 ∙ o.2)

    fresh-other : (number n : ℕ) (x : Collection) (o : Option ℕ) → collection_of number t ≡ Some x → t.numbers < n → (if nat_eq number n then o else delete_at n past) ≡ None
    fresh-other number n x o found lt = ap (λ b. if b then o else delete_at n past) (ne_eqb number n (λ e. (let le = member-drawn number x found in omega arith))) ∙ f.fresh n lt

    trash-set : (token : List ℕ) (number trash_at asked : ℕ) (x : Collection) → collection_of number t ≡ Some x → Then (TQ.SetTrash token number trash_at asked) (record {
      answer = T.TrashSet trash_at (deleted_at (rules_of c) reading trash_at asked);
      state = with_collections (map (with_times number (Some trash_at) (Some (deleted_at (rules_of c) reading trash_at asked))) t.collections) t;
    })
    trash-set token number trash_at asked x found = record {
      records = f.records;
      revisions = f.revisions ∙ sym (plus-zero (rows_made past));
      orderly = f.orderly;
      drawn = collections-map t.numbers number (Some trash_at) (Some (deleted_at (rules_of c) reading trash_at asked)) t.collections f.drawn;
      owned = owned-times number (Some trash_at) (Some (deleted_at (rules_of c) reading trash_at asked));
      times = λ y i. (let m = in-map (with_times number (Some trash_at) (Some (deleted_at (rules_of c) reading trash_at asked))) y t.collections i in
          subst (λ v. CollectionFacts c t.numbers (λ n. if nat_eq number n then Some (deleted_at (rules_of c) reading trash_at asked) else delete_at n past) v) (sym m.is)
          (time-set number trash_at asked m.from (f.times m.from m.member) (nat_eq m.from.number number) refl (nat_eq number m.from.number) refl));
      fresh = λ n lt. fresh-other number n x (Some (deleted_at (rules_of c) reading trash_at asked)) found lt;
    }

    time-taken : (number : ℕ) (x : Collection) → CollectionFacts c t.numbers (λ n. delete_at n past) x → (b : Bool) → nat_eq x.number number ≡ b → (m : Bool) → nat_eq number x.number ≡ m →
        CollectionFacts c t.numbers (λ n. if nat_eq number n then None else delete_at n past) (if b then record { number = x.number; owner = x.owner; trash_at = None; delete_at = None } else x)
    time-taken number x k true e true m = record { deletes = sym (ap (λ b. if b then None else delete_at x.number past) m); later = λ at is. cc is; never = λ e. refl }
    time-taken number x k true e false m = absurd (eqb-false number x.number m (sym (eqb-true x.number number e)))
    time-taken number x k false e true m = absurd (eqb-false x.number number e (sym (eqb-true number x.number m)))
    time-taken number x k false e false m = record { deletes = k.deletes ∙ sym (ap (λ b. if b then None else delete_at x.number past) m); later = k.later; never = k.never }

    restored : (token : List ℕ) (number : ℕ) (x : Collection) → collection_of number t ≡ Some x → Then (TQ.Restore token number) (record { answer = T.Restored; state = with_collections (map (with_times number None None) t.collections) t })
    restored token number x found = record {
      records = f.records;
      revisions = f.revisions ∙ sym (plus-zero (rows_made past));
      orderly = f.orderly;
      drawn = collections-map t.numbers number None None t.collections f.drawn;
      owned = owned-times number None None;
      times = λ y i. (let m = in-map (with_times number None None) y t.collections i in
          subst (λ v. CollectionFacts c t.numbers (λ n. if nat_eq number n then None else delete_at n past) v) (sym m.is)
          (time-taken number m.from (f.times m.from m.member) (nat_eq m.from.number number) refl (nat_eq number m.from.number) refl));
      fresh = λ n lt. fresh-other number n x None found lt;
    }

    -- ---- sweeps
    gone-past : (x : Collection) (o : Option ℕ) → x.delete_at ≡ o → is_gone reading x ≡ is_past reading o
    gone-past x o e = ap (λ o. option_map_or (λ at. nat_lt at reading) o false) e

    found-number : (number : ℕ) (xs : List Collection) (y : Collection) → IsIn y xs → y.number ≡ number → (x : Collection) × (find (λ x. nat_eq x.number number) xs ≡ Some x) × IsIn x xs × (x.number ≡ number)
    found-number number xs y i e = by (find (λ x. nat_eq x.number number) xs) refl
      where
        by : (o : Option Collection) → find (λ x. nat_eq x.number number) xs ≡ o → (x : Collection) × (find (λ x. nat_eq x.number number) xs ≡ Some x) × IsIn x xs × (x.number ≡ number)
        by None is = absurd (found-not (λ (x : Collection). nat_eq x.number number) y xs i (eq-eqb y.number number e) is)
        by (Some x) is = let m = find-in (λ (x : Collection). nat_eq x.number number) x xs is in (x, is, m.0, eqb-true x.number number m.1)

    goes-past : (r : Row) → IsIn r rs → goes reading t.collections (record_of c r) ≡ is_past reading (delete_at r.number past)
    goes-past r i =
        let o = f.owned r i in
        let x = found-number r.number t.collections o.0 o.1 o.2 in
        ap (λ v. option_map_or (is_gone reading) v false) x.1 ∙ gone-past x.0 (delete_at r.number past) ((f.times x.0 x.2).deletes ∙ ap (λ n. delete_at n past) x.3)

    swept-same : (r : Row) → IsIn r rs → outlasts reading t.collections (record_of c r) ≡ stays_at_sweep c past reading r
    swept-same r i = ap (λ b. not b && not (is_due reading (standing_of c r.superseded))) (goes-past r i) ∙ ap (λ b. not (is_past reading (delete_at r.number past)) && not b) (due-over c reading r.superseded)

    not-true : (b : Bool) → not b ≡ true → b ≡ false
    not-true true e = cc e
    not-true false e = refl

    owned-swept : (r : Row) → IsIn r (filter (stays_at_sweep c past reading) rs) → (x : Collection) × IsIn x (filter (λ x. not (is_gone reading x)) t.collections) × (x.number ≡ r.number)
    owned-swept r i =
        let m = in-filter (stays_at_sweep c past reading) r rs i in
        let o = f.owned r m.0 in
        let p = and_parts (not (is_past reading (delete_at r.number past))) (not (is_over c reading r.superseded)) m.1 in (
          o.0,
          filter-in (λ (x : Collection). not (is_gone reading x)) o.0 t.collections o.1
              (ap not (gone-past o.0 (delete_at r.number past) ((f.times o.0 o.1).deletes ∙ ap (λ n. delete_at n past) o.2)) ∙ p.0),
          o.2,
        )

    swept : Then TQ.Sweep (tables.sweep reading t)
    unfolding tables.sweep
    swept = record {
      records = ap (filter (outlasts reading t.collections)) f.records ∙ filter-map-on (record_of c) (outlasts reading t.collections) (stays_at_sweep c past reading) rs swept-same;
      revisions = f.revisions ∙ sym (plus-zero (rows_made past));
      orderly = orderly-filter t.numbers t.revisions (outlasts reading t.collections) t.records (outlasts-together reading t.collections) f.orderly;
      drawn = collections-filter t.numbers (λ x. not (is_gone reading x)) t.collections f.drawn;
      owned = owned-swept;
      times = λ x i. f.times x (in-filter (λ (x : Collection). not (is_gone reading x)) x t.collections i).0;
      fresh = f.fresh;
    }

    -- ---- any line
    pub table-next : (q : TableQuery) → Then q (table_line c reading q t)
    unfolding tables.begin_round tables.scan
    table-next TQ.BeginRound = as-before _ _ _ _ refl refl refl refl refl (plus-zero (rows_made past)) (λ n. refl)
    table-next (TQ.Save request) = save-cases c reading t (Then (TQ.Save request)) (quiet (TQ.Save request)) request (λ token e none. created request token)
    table-next (TQ.Update number preserve request) = update-cases c reading t (Then (TQ.Update number preserve request)) (quiet (TQ.Update number preserve request)) number preserve request (λ token x e found none. updated number preserve request x found)
    table-next (TQ.Read token number version) = read-cases c reading t (Then (TQ.Read token number version)) (quiet (TQ.Read token number version)) token number version (λ id r x e found there. as-before _ _ _ _ refl refl refl refl refl (plus-zero (rows_made past)) (λ n. refl))
    table-next (TQ.SetTrash token number trash_at asked) = trash-cases c reading t (Then (TQ.SetTrash token number trash_at asked)) (quiet (TQ.SetTrash token number trash_at asked)) token number trash_at asked (λ x found. trash-set token number trash_at asked x found)
    table-next (TQ.Restore token number) = restore-cases c reading t (Then (TQ.Restore token number)) (quiet (TQ.Restore token number)) token number (λ x found. restored token number x found)
    table-next TQ.Sweep = swept
    table-next (TQ.Scan round after limit) = as-before _ _ _ _ refl refl refl refl refl (plus-zero (rows_made past)) (λ n. refl)

pub facts-next : (c : Configuration) (past : Past) (reading : ℕ) (q : Query) (a : Answer) → TableFacts c past → IsAnswered c past reading q a →
    Facts c (table_left_by c reading q (table_after c past)) (rows_after c past reading q a (rows c past)) (rows_made past + makes q a) (λ n. deleted_by n q a (delete_at n past))
facts-next c past reading (Q.Table q) (A.Table a) f is =
    subst (λ a. Facts c (table_line c reading q (table_after c past)).state (rows_after c past reading (Q.Table q) (A.Table a) (rows c past)) (rows_made past + makes (Q.Table q) (A.Table a)) (λ n. deleted_by n (Q.Table q) (A.Table a) (delete_at n past))) (sym is)
    (table-next c past reading f q)
facts-next c past reading (Q.Table q) (A.Device a) f is = absurd is
facts-next c past reading (Q.Device n q) (A.Table a) f is = absurd is
facts-next c past reading (Q.Device n q) (A.Device a) f is = as-before c past reading f _ _ _ _ refl refl refl refl refl (plus-nothing (rows_made past)) (λ n. refl)
  where
    plus-nothing : (n : ℕ) → n + 0 ≡ n
    plus-nothing n = omega arith

nothing-orderly : AreOrderly 0 0 []
nothing-orderly = record { rising = tt; drawn = tt; superseded = tt }

pub table-facts : (c : Configuration) (past : Past) → IsAllowed c past → TableFacts c past
table-facts c [] a = record { records = refl; revisions = refl; orderly = nothing-orderly; drawn = tt; owned = λ r i. absurd i; times = λ x i. absurd i; fresh = λ n lt. refl }
table-facts c (e ∷ past) a = facts-next c past e.reading e.query e.answer (table-facts c past a.1) a.0.answered
