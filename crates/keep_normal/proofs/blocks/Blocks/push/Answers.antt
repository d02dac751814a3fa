use Rattle.std.proofs.Common.{cond, Some, ◌≡◌, ◌∷◌, [], ◌++◌, ◌∙◌, sym, ap, arith, length, length-append}
use Rattle.std.specs.BTreeMap.{get, is_at}
use Rattle.std.specs.Str.{bytes_eq}
use Rattle.std.proofs.lemmas.Map.Text.{is_eq-slice_cmp}
use Rattle.keep_spec.specs.Locator.{size}
use Rattle.keep_spec.specs.Manifest.{total_size}
use Rattle.keep_normal.specs.Grouped.{byte_order}
use Rattle.keep_normal.specs.Normal.{start_at}
use Rattle.keep_normal.proofs.BlockStarts.{start-push, total-push}
use Rattle.keep_normal.proofs.blocks.Blocks.push.Goals as goal

pub returns-clause-known : goal.returns-clause-known
returns-clause-known c =
    let bs = c.args.self.now.locators.items in
    let l = c.args.locator.now in
    let total = c.args.self.now.total in
    let old = c.args.self.now.known in
    let key : c.of-key.result ≡ l = c.of-key.ensures ∙ c.in_ok-from_slice.ensures.items ∙ c.as_slice-2.ensures in
    let copy : c.of-copy.result ≡ l = c.of-copy.ensures ∙ c.in_ok-from_slice-2.ensures.items ∙ c.as_slice-3.ensures in
    let items : c.push.new.self.items ≡ bs ++ l ∷ [] = c.in_ok-push.ensures.items ∙ ap (λ x. bs ++ x ∷ []) copy in
    let bytes : c.from.result ≡ size l = c.from.ensures ∙ c.block_size-size.ensures.value ∙ ap size c.as_slice.ensures in
    let sum = ap total_size items ∙ total-push bs l in
    let long = ap length items ∙ length-append bs (l ∷ []) in
    record {
      starts = λ q. c.in_ok-insert.ensures.updates.0 q
          ∙ ap (λ k. cond (is_at (byte_order k) q) (Some total) (get byte_order old q)) key
          ∙ ap (λ b. cond b (Some total) (get byte_order old q)) (is_eq-slice_cmp l q)
          ∙ ap (λ n. cond (bytes_eq l q) (Some n) (get byte_order old q)) c.requires.known.summed
          ∙ ap (λ o. cond (bytes_eq l q) (Some (total_size bs)) o) (c.requires.known.starts q)
          ∙ sym (ap (λ xs. start_at xs q) items ∙ start-push bs l q c.requires.new);
      summed = omega (arith, bytes, sum, c.requires.known.summed);
      bounded = omega (arith, long, c.from.ensures, c.block_size-size.ensures.bound, c.requires.known.bounded);
    }
