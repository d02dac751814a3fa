use Rattle.std.proofs.Common.{◌≡◌, ◌∙◌, ◌++◌, ◌∷◌, [], ℕ, List, Option, cond, None, sym, ap, arith, length}
use Rattle.std.specs.BTreeMap.{get}
use Rattle.std.proofs.lemmas.List.{length_push}
use Rattle.md5.specs.Md5.{md5}
use Rattle.keep_normal.specs.Grouped.{byte_order}
use Rattle.keep_normal.proofs.Grouping.{has_key}
use Rattle.keep_files.proofs.KnownBlocks.{none_there, all_known, one_known, new_known, inside_more}
use Rattle.keep_files.proofs.blocks.Blocks.add.Goals as goal

pub returns-in_ok-push-in-None-clause-known : goal.returns-in_ok-push-in-None-clause-known
returns-in_ok-push-in-None-clause-known c =
    let known : List ℕ → Option ℕ = λ d. get byte_order c.args.self.now.known d in
    let more : List ℕ → Option ℕ = λ d. get byte_order c.insert.new.self d in
    let bs = c.args.self.now.blocks.items in
    let digest = c.digest-digest.result in
    let n = c.len.result in
    let updates = c.in_ok-insert-in-None.ensures.updates.0 in
    let long = ap length c.in_ok-push-in-None.ensures.items in
    record {
      all = one_known more bs c.push-in-None.new.self.items c.args.block c.in_ok-push-in-None.ensures.items (all_known known more digest n bs updates c.requires.all)
          (new_known known more digest n c.args.block updates c.digest-digest.ensures);
      inside = λ d place e.
          inside_more (has_key digest d) n (length c.push-in-None.new.self.items) place (known d) (sym (updates d) ∙ e) (omega (arith, long, length_push bs c.args.block, c.len.ensures))
          (λ old. omega (arith, long, length_push bs c.args.block, c.requires.inside d place old));
    }

pub returns-in_ok-push-in-None-clause-added : goal.returns-in_ok-push-in-None-clause-added
returns-in_ok-push-in-None-clause-added c =
    let known : List ℕ → Option ℕ = λ d. get byte_order c.args.self.now.known d in
    let bs = c.args.self.now.blocks.items in
    let none : known (md5 c.args.block) ≡ None = ap known (sym c.digest-digest.ensures) ∙ sym c.in-None.ensures in
    c.in_ok-push-in-None.ensures.items ∙ sym (ap (λ b. cond b bs (bs ++ c.args.block ∷ [])) (none_there known bs c.args.block c.requires.all none))
