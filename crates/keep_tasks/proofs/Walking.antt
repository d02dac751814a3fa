-- A walk, query after query: `walk-asks`, `walk-ends`, `walk-moves` and `walk-over`; `begins` at its start.
use Rattle.std.proofs.Common.{◌≡◌, ℕ, List, [], ◌∷◌, ◌++◌, Option, None, Some, refl, sym, ◌∙◌, ap, append_assoc}
use Rattle.std.proofs.lemmas.List.{append-nil}
use Rattle.keep_event.specs.declared.event.Answer.{Answer}
use Rattle.keep_event.specs.declared.event.Query.TheVariants as Q
use Rattle.keep_event.specs.declared.device.DeviceQuery.{DeviceQuery}
use Rattle.keep_history.specs.declared.task.Outcome.{Outcome}
use Rattle.keep_history.specs.Next.{Answered, Next, asks, ends, ends_or}
use Rattle.keep_history.specs.Tasks.{walk}
use Rattle.keep_tasks.specs.Walks.{IsAt, IsWalking}
use Rattle.keep_tasks.specs.declared.walk.Walk.{Walk}

module _ (query : DeviceQuery) (end : Answer → Option Outcome) (after : List Answer → List Answered → Next) where
  abbrev Walking : Walk → (List Answered → Next) → List Answered → Type 0
  Walking w next answers = IsWalking query end after w next answers

  walk-at : (seen : List Answer) (devices : List ℕ) (d : ℕ) (ds : List ℕ) → devices ≡ d ∷ ds → walk query end after seen devices [] ≡ asks (Q.Device d query)
  unfolding walk
  walk-at seen devices d ds e = rw e refl

  walk-more : (seen : List Answer) (devices : List ℕ) (d : ℕ) (ds : List ℕ) (a : Answered) (more : List Answered) → devices ≡ d ∷ ds → walk query end after seen devices (a ∷ more) ≡ ends_or (end a.answer) (walk query end after (seen ++ a.answer ∷ []) ds more)
  unfolding walk
  walk-more seen devices d ds a more e = rw e refl

  walk-none : (seen : List Answer) (devices : List ℕ) (more : List Answered) → devices ≡ [] → walk query end after seen devices more ≡ after seen more
  unfolding walk
  walk-none seen devices more e = rw e refl

  pub walk-asks : (w : Walk) (next : List Answered → Next) (answers : List Answered) → Walking w next answers → next answers ≡ asks w.query
  walk-asks w next answers h =
      ap next (sym (append-nil answers)) ∙ h.goes [] ∙ walk-at h.seen h.devices h.at.first w.left.items h.at.devices_are ∙ ap asks (sym h.at.query_is)

  -- one answer more
  takes : (w : Walk) (next : List Answered → Next) (answers : List Answered) (a : Answered) (more : List Answered) → (h : Walking w next answers) → next ((answers ++ a ∷ []) ++ more) ≡ ends_or (end a.answer) (walk query end after (h.seen ++ a.answer ∷ []) w.left.items more)
  takes w next answers a more h =
      ap next (append_assoc answers (a ∷ []) more) ∙ h.goes (a ∷ more) ∙ walk-more h.seen h.devices h.at.first w.left.items a more h.at.devices_are

  pub walk-ends : (w : Walk) (next : List Answered → Next) (answers : List Answered) (a : Answered) (o : Outcome) → end a.answer ≡ Some o → Walking w next answers → next (answers ++ a ∷ []) ≡ ends o
  walk-ends w next answers a o e h =
      ap next (sym (append-nil (answers ++ a ∷ []))) ∙ takes w next answers a [] h ∙ ap (λ v. ends_or v (walk query end after (h.seen ++ a.answer ∷ []) w.left.items [])) e

  pub walk-moves : (w new : Walk) (next : List Answered → Next) (answers : List Answered) (a : Answered) → end a.answer ≡ None → (h : Walking w next answers) → IsAt new query (h.seen ++ a.answer ∷ []) w.left.items → Walking new next (answers ++ a ∷ [])
  walk-moves w new next answers a e h at = record {
    seen = h.seen ++ a.answer ∷ [];
    devices = w.left.items;
    at = at;
    goes = λ more. takes w next answers a more h ∙ ap (λ v. ends_or v (walk query end after (h.seen ++ a.answer ∷ []) w.left.items more)) e;
  }

  -- after the last device
  pub walk-over : (w : Walk) (next : List Answered → Next) (answers : List Answered) (a : Answered) → end a.answer ≡ None → w.left.items ≡ [] → (h : Walking w next answers) → (more : List Answered) → next ((answers ++ a ∷ []) ++ more) ≡ after (h.seen ++ a.answer ∷ []) more
  walk-over w next answers a e none h more =
      takes w next answers a more h ∙ ap (λ v. ends_or v (walk query end after (h.seen ++ a.answer ∷ []) w.left.items more)) e
      ∙ walk-none (h.seen ++ a.answer ∷ []) w.left.items more none

  pub walk-last : (w : Walk) (next : List Answered → Next) (answers : List Answered) (a : Answered) → end a.answer ≡ None → w.left.items ≡ [] → (h : Walking w next answers) → next (answers ++ a ∷ []) ≡ after (h.seen ++ a.answer ∷ []) []
  walk-last w next answers a e none h = ap next (sym (append-nil (answers ++ a ∷ []))) ∙ walk-over w next answers a e none h []

  pub begins : (w : Walk) (next : List Answered → Next) (answers : List Answered) (devices : List ℕ) → IsAt w query [] devices → ((more : List Answered) → next (answers ++ more) ≡ walk query end after [] devices more) → Walking w next answers
  begins w next answers devices at goes = record { seen = []; devices = devices; at = at; goes = goes }
