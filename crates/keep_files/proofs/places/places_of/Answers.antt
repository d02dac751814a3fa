use Rattle.std.proofs.Common.{◌≡◌, ◌<◌, ◌≤◌, ◌∙◌, true, false, sym, ap, arith, length, take}
use Rattle.std.specs.List.{list_any}
use Rattle.std.specs.Str.{bytes_eq}
use Rattle.std.proofs.lemmas.Bool.{lt-ltb}
use Rattle.std.proofs.lemmas.List.{take_all, get_or_read}
use Rattle.keep_spec.specs.Names.{is_path}
use Rattle.keep_files.specs.Layout.{by_path}
use Rattle.keep_files.specs.Places.{file_at}
use Rattle.keep_files.proofs.FilePlaces.{paths, fault_name, fault_twice, fault_none, fault_end, has_path, entries_more, within_more}
use Rattle.keep_files.proofs.places.places_of.Goals as goal

pub returns-then-not-is_path : goal.returns-then-not-is_path
returns-then-not-is_path c =
    let f = c.index-files-index.result in
    let bad : is_path f.path ≡ false = sym (c.is_path.ensures ∙ ap is_path c.as_slice.ensures) ∙ c.if-not-is_path.true in
    fault_name c.args.files.now c.loop-index.index f _ (omega (arith, c.loop-index-test.true)) c.index-files-index.is c.loop-index.invariant.fault bad

pub returns-then-contains_key : goal.returns-then-contains_key
returns-then-contains_key c =
    let fs = c.args.files.now in
    let f = c.index-files-index.result in
    let i = c.loop-index.index in
    let good : is_path f.path ≡ true = sym (c.is_path.ensures ∙ ap is_path c.as_slice.ensures) ∙ c.if-not-is_path.false in
    let twice : list_any (bytes_eq f.path) (paths (take i fs)) ≡ true =
    sym (has_path fs (take i fs) c.loop-index.places.entries f.path c.loop-index.invariant.entries) ∙ sym c.contains_key.ensures ∙ c.if-contains_key.true in
    fault_twice fs i f _ (omega (arith, c.loop-index-test.true)) c.index-files-index.is c.loop-index.invariant.fault good twice

pub loop-index-preserved : goal.loop-index-preserved
loop-index-preserved c =
    let fs = c.args.files.now in
    let f = c.index-files-index.result in
    let i = c.loop-index.index in
    let inside : i < length fs = omega (arith, c.loop-index-test.true) in
    let good : is_path f.path ≡ true = sym (c.is_path.ensures ∙ ap is_path c.as_slice.ensures) ∙ c.if-not-is_path.false in
    let once : list_any (bytes_eq f.path) (paths (take i fs)) ≡ false =
    sym (has_path fs (take i fs) c.loop-index.places.entries f.path c.loop-index.invariant.entries) ∙ sym c.contains_key.ensures ∙ c.if-contains_key.false in
    let here : f ≡ file_at fs i = get_or_read fs i f inside c.index-files-index.is _ in
    record {
      fault = fault_none fs i f _ inside c.index-files-index.is c.loop-index.invariant.fault good once;
      entries = entries_more fs i f c.loop-index.places.entries c.add_place.new.places.entries inside c.index-files-index.is here c.loop-index.invariant.entries c.in_ok-add_place.ensures;
      within = within_more (length fs) i f.path c.loop-index.places.entries c.add_place.new.places.entries (lt-ltb i (length fs) inside) c.in_ok-add_place.ensures c.loop-index.invariant.within;
    }

pub returns : goal.returns
returns c =
    let fs = c.args.files.now in
    let i = c.loop-index.index in
    let past : length fs ≤ i = omega (arith, c.loop-index-test.false) in
    (fault_end fs i _ past c.loop-index.invariant.fault, c.loop-index.invariant.entries ∙ ap by_path (take_all i fs past), c.loop-index.invariant.within)
