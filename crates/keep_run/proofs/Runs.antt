-- A run, one line after another: `going-start` and `going-more` for the lines so far; `ran-done`, `ran-error` and `ran-line` for its ends.
use Rattle.std.proofs.Common.{◌≡◌, ◌≤◌, ℕ, suc, ◌+◌, true, false, List, [], ◌∷◌, ◌++◌, length, take, Option, None, Some, Ok, Err, inl, inr, refl, sym, ◌∙◌, ap, subst, arith, length-append}
use Rattle.std.proofs.lemmas.List.{append-nil}
use Rattle.std.proofs.KnownBytes.{Appends-kept, Appends-nil, Appends-trans}
use Rattle.std.specs.Io.KnownBytes.{Appends, Keeps, IsAtEnd, prepend_known}
use Rattle.keep_base.specs.Sources.{AppendsPrefix}
use Rattle.keep_base.specs.Lines.{IsNext, IsGiven, IsNextJudged}
use Rattle.keep_base.specs.declared.lines.LineError.{LineError}
use Rattle.keep_base.specs.declared.lines.LineError.TheVariants as E
use Rattle.keep_spec.specs.Lines.{cut, text_of, newlines, Verdict, fits, line_too_long, input_too_long, verdict_of}
use Rattle.keep_spec.specs.Config.{Configuration}
use Rattle.keep_spec.specs.declared.status.Status.{Status}
use Rattle.keep_spec.specs.declared.status.Status.TheVariants as St
use Rattle.keep_event.specs.World.{new_world}
use Rattle.keep_cluster.specs.Cluster.{world_of, faults_at}
use Rattle.keep_history.specs.Effects.{Effect, Made, effect_of_line}
use Rattle.keep_history.specs.Ended.{place_at, left_after, faulty}
use Rattle.keep_history.specs.Run.{Progress, ended_by, at_start, and_then, line_max, input_max, verdict_on, run_lines}
use Rattle.keep_run.specs.Commands.{HasEffect, IsRefused, PartDone, IsStopped, IsLineDone, line_done_by}
use Rattle.keep_run.specs.Faults.{Agrees, AreNumbered, Rise}
use Rattle.keep_run.specs.Going.{Going, status_of_line}
use Rattle.keep_run.specs.Runs.{did_by, Beginning, beginning, lines_run, lines_place, IsRunOut, AreDone, LineMore, HowLinesEnded, LinesRan}
use Rattle.keep_run.specs.Scenes.{IsFresh}
use Rattle.keep_run.specs.Standing.{AreStates}
use Rattle.keep_run.specs.declared.stage.Stage.{Stage}
use Rattle.keep_run.proofs.Faults.{Agrees-left, Agrees-right, agrees-faulty, numbered-append, rise-none, rise-append}
use Rattle.keep_run.proofs.Pieces.{read-start, read-more, read-out}
use Rattle.keep_run.proofs.Places.{run-end, run-step, run-spent, run-bad, run-long, run-large, place-start, place-more, piece-effect}

same-some : {X : Type 0} (x y : X) → Some x ≡ Some y → x ≡ y
same-some x y e = cc

no-some : {X : Type 0} (x : X) → None ≡ Some x → ⊥
no-some x e = cc

plus-none : (n : ℕ) → n ≡ n + 0
plus-none n = omega arith

pub going-start : {S : Type 0} (config : Configuration) (taken number : ℕ) (bytes : List ℕ) (left : Option (List ℕ)) (stage : Stage S) (out : Option (List ℕ)) → IsFresh config stage → left ≡ Some bytes → world_of stage.cluster ≡ Some (new_world config) → Going config (beginning taken number bytes) taken number left stage stage out out
going-start config taken number bytes left stage out fresh l told = record {
  lines = 0;
  rest = bytes;
  sofar = at_start config;
  left_is = l;
  scene_is = record { count = sym fresh.made; world = told; names = subst (λ names. AreStates config names []) (sym fresh.names) tt };
  written_is = Appends-nil out;
  numbered = tt;
  count_is = refl;
  rise = rise-none _ _ (λ device. omega arith);
  are_read = read-start bytes;
  pieces = none-plus (length (cut bytes));
  goes = λ others agree. refl;
  comes = λ others agree. place-start config others taken (at_start config) (cut bytes);
}
  where
    none-plus : (n : ℕ) → n ≡ 0 + n
    none-plus n = omega arith

-- the line that comes next was given
pub record Given (taken taken' : ℕ) (rest : List ℕ) (text : List ℕ) (left' : Option (List ℕ)) : Type 0 where
  pub rest' : List ℕ
  pub left_is : left' ≡ Some rest'
  pub given : IsGiven taken taken' rest rest' text

given_of : (taken number taken' : ℕ) (rest : List ℕ) (line : ℕ) (text : List ℕ) (left' : Option (List ℕ)) → IsNext taken number (Some rest) (Ok (Some line)) text taken' left' → Given taken taken' rest text left'
given_of taken number taken' rest line text None h = absurd h
given_of taken number taken' rest line text (Some rest') h = record { rest' = rest'; left_is = refl; given = h }

module _ {S : Type 0} (config : Configuration) (b : Beginning) (old mid : Stage S) (before : Option (List ℕ)) (taken number : ℕ) (left : Option (List ℕ)) (out : Option (List ℕ)) (g : Going config b taken number left old mid before out) where
  abbrev sofar : Progress
  sofar = g.sofar

  -- ---- one line

  module _ (taken' : ℕ) (left' : Option (List ℕ)) (line : ℕ) (text : List ℕ) (gv : Given taken taken' g.rest text left') where
    abbrev piece : List ℕ
    piece = gv.given.piece

    fits-piece : verdict_on taken piece ≡ fits
    fits-piece = ap (λ x. verdict_of line_max input_max taken (length x) (length piece)) (sym gv.given.text_is) ∙ gv.given.fits_in

    first : cut g.rest ≡ piece ∷ cut gv.rest'
    first = gv.given.first

    effect-here : (others : List ℕ) (o : Option Effect) → effect_of_line config others sofar.scene text ≡ o → effect_of_line config others sofar.scene (text_of piece) ≡ o
    effect-here others o e = ap (effect_of_line config others sofar.scene) (sym gv.given.text_is) ∙ e

    comes-here : (others : List ℕ) → Agrees others sofar.made → lines_place config b others g.lines ≡ Some (place_at taken sofar (piece ∷ cut gv.rest'))
    comes-here others agree = g.comes others agree ∙ ap (λ pieces. Some (place_at taken sofar pieces)) first

    goes-here : (others : List ℕ) → Agrees others sofar.made → lines_run config b others ≡ run_lines config others taken number sofar (piece ∷ cut gv.rest')
    goes-here others agree = g.goes others agree ∙ ap (run_lines config others taken number sofar) first

    module _ (new : Stage S) (never_fall : (device : ℕ) → faults_at mid.cluster.devices device ≤ faults_at new.cluster.devices device) where
      numbered-here : (made : List Made) → AreNumbered sofar.scene.count made → AreNumbered 0 (sofar.made ++ made)
      numbered-here made h = numbered-append 0 sofar.made made g.numbered (subst (λ n. AreNumbered n made) (g.count_is ∙ none-plus (length sofar.made)) h)
        where
          none-plus : (n : ℕ) → n ≡ 0 + n
          none-plus n = omega arith

      rise-here : (made : List Made) → Rise made (faults_at mid.cluster.devices) (faults_at new.cluster.devices) → Rise (sofar.made ++ made) (faults_at old.cluster.devices) (faults_at new.cluster.devices)
      rise-here made h = rise-append sofar.made made (faults_at old.cluster.devices) (faults_at mid.cluster.devices) (faults_at new.cluster.devices) g.rise h never_fall

      joined-out : (o : List ℕ) (out' : Option (List ℕ)) → Appends out out' o → Appends before out' (sofar.text ++ o)
      joined-out o out' a = Appends-trans before out out' sofar.text o g.written_is a

      same-out : (out' : Option (List ℕ)) → Keeps out out' → Appends before out' sofar.text
      same-out out' k = Appends-kept before out out' sofar.text g.written_is k

      -- the line was done, and the next is to come
      pub more-by : (number' : ℕ) (out' : Option (List ℕ)) (d : HasEffect config sofar.scene mid new (λ failed. effect_of_line config failed sofar.scene text)) → number' ≡ number + 1 → d.effect.spent ≡ false → Appends out out' d.effect.text → Going config b taken' number' left' old new before out'
      more-by number' out' d num not_spent o =
          let e = d.effect in
          let does : (others : List ℕ) → Agrees others (sofar.made ++ e.made) → effect_of_line config others sofar.scene (text_of piece) ≡ Some e =
          λ others agree. effect-here others (Some e) (d.is others (Agrees-right others sofar.made e.made agree)) in
          record {
            lines = suc g.lines;
            rest = gv.rest';
            sofar = and_then sofar e;
            left_is = gv.left_is;
            scene_is = d.scene_is;
            written_is = joined-out e.text out' o;
            numbered = numbered-here e.made d.numbered;
            count_is = d.count_is ∙ ap (λ n. n + length e.made) g.count_is ∙ sym (length-append sofar.made e.made);
            rise = rise-here e.made d.rise;
            are_read = read-more b.bytes g.rest gv.rest' piece g.lines g.are_read first g.pieces;
            pieces = g.pieces ∙ ap (λ ps. g.lines + length ps) first ∙ one-more g.lines (length (cut gv.rest'));
            goes = λ others agree.
                goes-here others (Agrees-left others sofar.made e.made agree)
                ∙ run-step config others taken number sofar piece (cut gv.rest') e fits-piece (does others agree) not_spent
                ∙ ap (λ n. run_lines config others n (number + 1) (and_then sofar e) (cut gv.rest')) (sym gv.given.taken_is)
                ∙ ap (λ n. run_lines config others taken' n (and_then sofar e) (cut gv.rest')) (sym num);
            comes = λ others agree.
                place-more config others taken sofar piece (cut gv.rest') e (piece-effect config others taken sofar piece (Some e) fits-piece (does others agree)) not_spent g.lines b.taken (at_start config) (cut b.bytes)
                (comes-here others (Agrees-left others sofar.made e.made agree))
                ∙ ap (λ n. Some (place_at n (and_then sofar e) (cut gv.rest'))) (sym gv.given.taken_is);
          }
        where
          one-more : (n k : ℕ) → n + suc k ≡ suc n + k
          one-more n k = omega arith

      abbrev RanNow : Status → Option (List ℕ) → Option (List ℕ) → Type 0
      RanNow status unread out' = LinesRan config b status unread (faults_at old.cluster.devices) (faults_at new.cluster.devices) (world_of new.cluster) before out'

      -- ---- a line that ended the run

      abbrev does_here : List ℕ → Option Effect
      does_here failed = effect_of_line config failed sofar.scene text

      ran-bad : (n : ℕ) (unread out' : Option (List ℕ)) → n ≡ number + 1 → IsRefused sofar.scene new.cluster does_here → Keeps out out' → RanNow (St.BadLine n) unread out'
      ran-bad n unread out' num r o =
          let agree = agrees-faulty 0 sofar.made g.numbered in
          let F = faulty sofar.made in
          record {
            did = did_by sofar;
            world_is = r.stays;
            written_is = same-out out' o;
            rise = subst (λ ms. Rise ms (faults_at old.cluster.devices) (faults_at new.cluster.devices)) (append-nil sofar.made) (rise-here [] (rise-none _ _ never_fall));
            how = record {
              progress = sofar;
              ends = goes-here F agree ∙ run-bad config F taken number sofar piece (cut gv.rest') fits-piece (effect-here F None (r.none F)) ∙ ap (λ k. ended_by (St.BadLine k) sofar) (sym num);
              did_is = refl;
            };
          }

      more-of : (failed : List ℕ) (e : Effect) → Agrees failed sofar.made → effect_of_line config failed sofar.scene text ≡ Some e → LineMore config b failed
      more-of failed e agree f = record {
        lines = g.lines;
        place = place_at taken sofar (piece ∷ cut gv.rest');
        piece = piece;
        rest = cut gv.rest';
        effect = e;
        comes_to = comes-here failed agree;
        next_piece = refl;
        does = piece-effect config failed taken sofar piece (Some e) fits-piece (effect-here failed (Some e) f);
      }

      module _ (d : HasEffect config sofar.scene mid new does_here) where
        abbrev e : Effect
        e = d.effect

        abbrev all : List Made
        all = sofar.made ++ e.made

        agrees-all : Agrees (faulty all) all
        agrees-all = agrees-faulty 0 all (numbered-here e.made d.numbered)

        agrees-sofar : Agrees (faulty all) sofar.made
        agrees-sofar = Agrees-left (faulty all) sofar.made e.made agrees-all

        does-all : does_here (faulty all) ≡ Some e
        does-all = d.is (faulty all) (Agrees-right (faulty all) sofar.made e.made agrees-all)

        ran-spent : (unread out' : Option (List ℕ)) → e.spent ≡ true → Appends out out' e.text → RanNow St.PortFault unread out'
        ran-spent unread out' spent o = record {
          did = did_by (and_then sofar e);
          world_is = d.scene_is.world;
          written_is = joined-out e.text out' o;
          rise = rise-here e.made d.rise;
          how = record {
            progress = and_then sofar e;
            ends = goes-here (faulty all) agrees-sofar ∙ run-spent config (faulty all) taken number sofar piece (cut gv.rest') e fits-piece (effect-here (faulty all) (Some e) does-all) spent;
            did_is = refl;
          };
        }

        ran-unwritten : (unread out' : Option (List ℕ)) → AppendsPrefix out out' e.text → RanNow St.WriteFault unread out'
        unfolding more-of
        ran-unwritten unread out' (k, within, o) = record {
          did = record { made = all; world = e.scene.world; text = sofar.text ++ take k e.text };
          world_is = d.scene_is.world;
          written_is = joined-out (take k e.text) out' o;
          rise = rise-here e.made d.rise;
          how = record { more = more-of (faulty all) e agrees-sofar does-all; count = k; did_is = refl };
        }

      ran-between : (unread out' : Option (List ℕ)) → world_of new.cluster ≡ Some sofar.scene.world → Keeps out out' → RanNow St.NoMemory unread out'
      ran-between unread out' same o = record {
        did = did_by sofar;
        world_is = same;
        written_is = same-out out' o;
        rise = subst (λ ms. Rise ms (faults_at old.cluster.devices) (faults_at new.cluster.devices)) (append-nil sofar.made) (rise-here [] (rise-none _ _ never_fall));
        how = inl (g.lines, record { place = place_at taken sofar (cut g.rest); comes_to = g.comes (faulty sofar.made) (agrees-faulty 0 sofar.made g.numbered); did_is = refl });
      }

      ran-part : (unread out' : Option (List ℕ)) → PartDone sofar.scene mid.cluster new.cluster does_here → Keeps out out' → RanNow St.NoMemory unread out'
      unfolding more-of
      ran-part unread out' p o =
          let all = sofar.made ++ p.made in
          let F = faulty all in
          let agree : Agrees F all = agrees-faulty 0 all (numbered-here p.made p.numbered) in
          let q = p.is F (Agrees-right F sofar.made p.made agree) in
          record {
            did = record { made = all; world = left_after sofar.scene.world p.made; text = sofar.text };
            world_is = p.world_is;
            written_is = same-out out' o;
            rise = rise-here p.made p.rise;
            how = inr (record {
              more = more-of F q.0 (Agrees-left F sofar.made p.made agree) q.1.0;
              count = length p.made;
              did_is = ap (λ ms. record { made = sofar.made ++ ms; world = left_after sofar.scene.world ms; text = sofar.text }) (sym q.1.1);
            });
          }

      ran-stopped : (unread out' : Option (List ℕ)) → IsStopped sofar.scene mid.cluster new.cluster does_here → Keeps out out' → RanNow St.NoMemory unread out'
      ran-stopped unread out' (inl same) o = ran-between unread out' same o
      ran-stopped unread out' (inr p) o = ran-part unread out' p o

      ran-by : (status : Status) (unread out' : Option (List ℕ)) → line ≡ number + 1 → line_done_by config line sofar.scene mid new out out' (Err status) does_here → RanNow status unread out'
      ran-by (St.BadLine n) unread out' num (is, (r, o)) = ran-bad n unread out' (is ∙ num) r o
      ran-by St.PortFault unread out' num (d, (spent, o)) = ran-spent d unread out' spent o
      ran-by St.WriteFault unread out' num (d, o) = ran-unwritten d unread out' o
      ran-by St.NoMemory unread out' num (stopped, o) = ran-stopped unread out' stopped o
      ran-by _ unread out' num h = absurd h

  next-of : (taken' : ℕ) (left' : Option (List ℕ)) (line : ℕ) (text : List ℕ) → IsNext taken number left (Ok (Some line)) text taken' left' → Given taken taken' g.rest text left'
  next-of taken' left' line text next = given_of taken number taken' g.rest line text left' (subst (λ o. IsNext taken number o (Ok (Some line)) text taken' left') g.left_is next)

  -- one line more
  pub going-more : (taken' number' : ℕ) (left' out' : Option (List ℕ)) (new : Stage S) (line : ℕ) (text : List ℕ) → IsNext taken number left (Ok (Some line)) text taken' left' → number' ≡ number + 1 → ((device : ℕ) → faults_at mid.cluster.devices device ≤ faults_at new.cluster.devices device) → IsLineDone config line text mid new out out' (Ok tt) → Going config b taken' number' left' old new before out'
  going-more taken' number' left' out' new line text next num never_fall done =
      let d = done sofar.scene g.scene_is in
      more-by taken' left' line text (next-of taken' left' line text next) new never_fall number' out' d.0 num d.1.0 d.1.1

  -- the line ended the run
  pub ran-line : (taken' : ℕ) (left' out' unread : Option (List ℕ)) (new : Stage S) (line : ℕ) (text : List ℕ) (status : Status) → IsNext taken number left (Ok (Some line)) text taken' left' → line ≡ number + 1 → ((device : ℕ) → faults_at mid.cluster.devices device ≤ faults_at new.cluster.devices device) → IsLineDone config line text mid new out out' (Err status) → LinesRan config b status unread (faults_at old.cluster.devices) (faults_at new.cluster.devices) (world_of new.cluster) before out'
  ran-line taken' left' out' unread new line text status next num never_fall done =
      ran-by taken' left' line text (next-of taken' left' line text next) new never_fall status unread out' num (done sofar.scene g.scene_is)

  -- ---- between lines

  abbrev Ran : Status → Option (List ℕ) → Type 0
  Ran status unread = LinesRan config b status unread (faults_at old.cluster.devices) (faults_at mid.cluster.devices) (world_of mid.cluster) before out

  ran-so : (status : Status) (unread : Option (List ℕ)) → HowLinesEnded status config b (faulty sofar.made) unread (did_by sofar) → Ran status unread
  ran-so status unread h = record { did = did_by sofar; world_is = g.scene_is.world; written_is = g.written_is; rise = g.rise; how = h }

  agrees-sofar-made : Agrees (faulty sofar.made) sofar.made
  agrees-sofar-made = agrees-faulty 0 sofar.made g.numbered

  nothing-unread : (ahead : List ℕ) (unread : Option (List ℕ)) → Keeps (Some g.rest) (prepend_known ahead unread) → IsAtEnd unread → unread ≡ Some []
  nothing-unread ahead None k e = absurd k
  nothing-unread ahead (Some xs) k e = ap Some e

  -- the input has ended
  pub ran-done : (text : List ℕ) (taken' : ℕ) (left' : Option (List ℕ)) (ahead : List ℕ) (unread : Option (List ℕ)) → IsNext taken number left (Ok None) text taken' left' → Keeps left (prepend_known ahead unread) → IsAtEnd unread → Ran St.Done unread
  unfolding cut
  ran-done text taken' left' ahead unread next keeps e =
      let nil : g.rest ≡ [] = subst (λ o. IsNext taken number o (Ok None) text taken' left') g.left_is next in
      ran-so St.Done unread (
        record {
          progress = sofar;
          ends = g.goes (faulty sofar.made) agrees-sofar-made ∙ ap (λ v. run_lines config (faulty sofar.made) taken number sofar (cut v)) nil ∙ run-end config (faulty sofar.made) taken number sofar;
          did_is = refl;
        },
        nothing-unread ahead unread (subst (λ o. Keeps o (prepend_known ahead unread)) g.left_is keeps) e,
      )

  unread-parts : (ahead : List ℕ) (unread : Option (List ℕ)) → Keeps (Some g.rest) (prepend_known ahead unread) → (xs : List ℕ) × ((unread ≡ Some xs) × (g.rest ≡ ahead ++ xs))
  unread-parts ahead None k = absurd k
  unread-parts ahead (Some xs) k = (xs, (refl, sym k))

  are-done : AreDone config b (faulty sofar.made) g.lines (did_by sofar)
  are-done = record { place = place_at taken sofar (cut g.rest); comes_to = g.comes (faulty sofar.made) agrees-sofar-made; did_is = refl }

  judged : (v : Verdict) (status : Status) → IsNextJudged taken g.rest v → ((piece : List ℕ) (rest : List (List ℕ)) → verdict_on taken piece ≡ v → run_lines config (faulty sofar.made) taken number sofar (piece ∷ rest) ≡ ended_by status sofar) → IsRunOut config b (faulty sofar.made) status (did_by sofar)
  judged v status (next_one, (others, (begins, is))) ends = record {
    progress = sofar;
    ends = g.goes (faulty sofar.made) agrees-sofar-made ∙ ap (run_lines config (faulty sofar.made) taken number sofar) begins ∙ ends next_one others is;
    did_is = refl;
  }

  error-by : (error : LineError) (text : List ℕ) (taken' : ℕ) (left' : Option (List ℕ)) (ahead : List ℕ) (unread : Option (List ℕ)) → IsNext taken number (Some g.rest) (Err error) text taken' left' → (error ≡ E.ReadFault → Keeps (Some g.rest) (prepend_known ahead unread) × (newlines ahead ≡ 0)) → Ran (status_of_line error) unread
  unfolding are-done
  error-by E.ReadFault text taken' left' ahead unread next interrupted =
      let k = interrupted refl in
      let p = unread-parts ahead unread k.0 in
      ran-so St.ReadFault unread (record {
        left = p.0;
        unread_is = p.1.0;
        lines = g.lines;
        are_read = read-out b.bytes g.rest ahead p.0 g.lines g.are_read p.1.1 k.1;
        are_done = are-done;
      })
  error-by (E.LineTooLong n) text taken' left' ahead unread next interrupted =
      ran-so (St.LineTooLong n) unread (judged line_too_long (St.LineTooLong n) next.1 (λ piece rest v.
      run-long config (faulty sofar.made) taken number sofar piece rest v ∙ ap (λ k. ended_by (St.LineTooLong k) sofar) (sym next.0)))
  error-by E.InputTooLong text taken' left' ahead unread next interrupted =
      ran-so St.InputTooLong unread (judged input_too_long St.InputTooLong next (λ piece rest v. run-large config (faulty sofar.made) taken number sofar piece rest v))
  error-by E.NoMemory text taken' left' ahead unread next interrupted = ran-so St.NoMemory unread (inl (g.lines, are-done))

  -- the next line can't be read
  pub ran-error : (error : LineError) (text : List ℕ) (taken' : ℕ) (left' : Option (List ℕ)) (ahead : List ℕ) (unread : Option (List ℕ)) → IsNext taken number left (Err error) text taken' left' → (error ≡ E.ReadFault → Keeps left (prepend_known ahead unread) × (newlines ahead ≡ 0)) → Ran (status_of_line error) unread
  ran-error error text taken' left' ahead unread next interrupted =
      error-by error text taken' left' ahead unread (subst (λ o. IsNext taken number o (Err error) text taken' left') g.left_is next)
      (λ is. subst (λ o. Keeps o (prepend_known ahead unread) × (newlines ahead ≡ 0)) g.left_is (interrupted is))
