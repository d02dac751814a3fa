use Rattle.std.proofs.Common.{◌≡◌, ◌+◌, ◌∷◌, ◌++◌, [], map, take, length, ap, refl, sym, ◌∙◌, arith, None, rules}
use Rattle.std.specs.Prelude.{max}
use Rattle.std.proofs.lemmas.List.{take_more}
use Rattle.keep_spec.specs.Members.{numbers_from}
use Rattle.keep_plan.specs.Mentions.{last_entry, want_at, greatest_want, put}
use Rattle.keep_plan.proofs.Numbers.{alike}
use Rattle.keep_plan.proofs.Noted.{put-more, greatest-more}
use Rattle.keep_plan.proofs.decide.note.Goals as goal

pub loop-mention-init : goal.loop-mention-init
loop-mention-init c = record {
  entries = c.fill.ensures.after (λ y k. search rules) ∙ alike None 0 (length c.args.entries.now);
  want = refl;
}

pub loop-mention-preserved : goal.loop-mention-preserved
loop-mention-preserved c =
    let i = c.loop-mention.mention-index in
    let ms = c.args.mentions.now in
    let m = c.mention-item.result in
    let n = length c.args.entries.now in
    let more : take (i + 1) ms ≡ take i ms ++ m ∷ [] = take_more ms i m (omega arith) ∙ ap (λ v. take i ms ++ v ∷ []) (sym c.mention-item.is) in
    record {
      entries = c.put.ensures ∙ ap (put m.digest m.place) c.loop-mention.invariant.entries ∙ put-more n (take i ms) m ∙ ap (λ l. map (λ d. last_entry d l) (numbers_from 0 n)) (sym more);
      want = c.max-greatest.ensures ∙ ap (λ v. max v c.loop-mention.greatest) c.want_of.ensures ∙ ap (max (want_at m.place)) c.loop-mention.invariant.want ∙ greatest-more (take i ms) m ∙ ap greatest_want (sym more);
    }
