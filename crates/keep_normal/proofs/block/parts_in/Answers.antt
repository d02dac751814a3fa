use Rattle.std.proofs.Common.{◌++◌, ◌+◌, [], ◌∙◌, sym, ap, take, drop, length, arith, append-nil}
use Rattle.std.proofs.lemmas.List.{drop_all}
use Rattle.keep_spec.specs.Locator.{is_locator, size}
use Rattle.keep_spec.specs.Manifest.{total_size}
use Rattle.keep_normal.specs.declared.block.Block.{Block}
use Rattle.keep_normal.specs.Files.{parts_in}
use Rattle.keep_normal.proofs.BlockPlaces.{length-placed, block_at, at_any, all_read}
use Rattle.keep_normal.proofs.SpanParts.{parts_skip, parts_turn, parts_done}
use Rattle.keep_normal.proofs.block.parts_in.Goals as goal

abbrev no_block : Block
no_block = record { start = 0; end = 0 }

pub find_block-index-requires-clause-not_empty : goal.find_block-index-requires-clause-not_empty
find_block-index-requires-clause-not_empty c =
    let long = ap length c.requires.placed ∙ length-placed 0 c.args.locators.now in
    omega (arith, long, c.requires.not_empty)

pub find_block-index-requires-clause-first : goal.find_block-index-requires-clause-first
find_block-index-requires-clause-first c = λ d.
    let long = ap length c.requires.placed ∙ length-placed 0 c.args.locators.now in
    let zero = ap (λ (b : Block). b.start) (block_at c.args.blocks.now c.args.locators.now 0 d c.requires.placed (omega (arith, long, c.requires.not_empty))).1 in
    omega (arith, zero)

pub loop-index-init : goal.loop-index-init
loop-index-init c =
    let i = c.find_block-index.result in
    let start = ap (λ (b : Block). b.start) (block_at c.args.blocks.now c.args.locators.now i no_block c.requires.placed c.find_block-index.ensures.within).1 in
    ap (λ ps. ps ++ parts_in (total_size (take i c.args.locators.now)) c.args.span (drop i c.args.locators.now)) c.new-parts.ensures.items
    ∙ parts_skip i c.args.span c.args.locators.now (omega (arith, start, c.find_block-index.ensures.before no_block))

pub bounds-locators-index : goal.bounds-locators-index
bounds-locators-index c = (block_at c.args.blocks.now c.args.locators.now c.loop-index.index no_block c.requires.placed c.loop-index-test.true).0

pub loop-index-preserved : goal.loop-index-preserved
loop-index-preserved c =
    let at = block_at c.args.blocks.now c.args.locators.now c.loop-index.index no_block c.requires.placed c.loop-index-test.true in
    parts_turn c.loop-index.parts.items c.push_part.new.parts.items (parts_in 0 c.args.span c.args.locators.now) c.loop-index.index _ c.args.span c.args.locators.now c.index-locators-index.result
    at.0 (ap (λ (b : Block). b.start) at.1) c.index-locators-index.is c.in_ok-push_part.ensures c.loop-index.invariant

pub returns-then-block-span : goal.returns-then-block-span
returns-then-block-span c =
    let at = block_at c.args.blocks.now c.args.locators.now c.loop-index.index no_block c.requires.placed c.loop-index-test.true in
    let start = ap (λ (b : Block). b.start) at.1 in
    c.of.ensures ∙ parts_done c.loop-index.parts.items (parts_in 0 c.args.span c.args.locators.now) (total_size (take c.loop-index.index c.args.locators.now)) c.args.span (drop c.loop-index.index c.args.locators.now) (omega (arith, start, c.if-block-span.true)) c.loop-index.invariant

pub push_part-requires-clause-ends : goal.push_part-requires-clause-ends
push_part-requires-clause-ends c =
    let at = block_at c.args.blocks.now c.args.locators.now c.loop-index.index no_block c.requires.placed c.loop-index-test.true in
    let same = c.index-locators-index.is ∙ at_any c.args.locators.now c.loop-index.index c.index-locators-index.result [] at.0 in
    let end = ap (λ (b : Block). b.end) at.1 in
    let start = ap (λ (b : Block). b.start) at.1 in
    end ∙ sym (ap (λ n. n + size c.index-locators-index.result) start ∙ ap (λ l. total_size (take c.loop-index.index c.args.locators.now) + size l) same)

pub push_part-requires-clause-locator : goal.push_part-requires-clause-locator
push_part-requires-clause-locator c =
    let at = block_at c.args.blocks.now c.args.locators.now c.loop-index.index no_block c.requires.placed c.loop-index-test.true in
    all_read is_locator c.args.locators.now c.loop-index.index c.index-locators-index.result c.requires.locators at.0 c.index-locators-index.is

pub returns : goal.returns
returns c =
    let long = ap length c.requires.placed ∙ length-placed 0 c.args.locators.now in
    let i = c.loop-index.index in
    let none = drop_all i c.args.locators.now (omega (arith, long, c.loop-index-test.false)) in
    c.of-2.ensures ∙ sym (append-nil c.loop-index.parts.items)
    ∙ ap (λ ls. c.loop-index.parts.items ++ parts_in (total_size (take i c.args.locators.now)) c.args.span ls) (sym none) ∙ c.loop-index.invariant
