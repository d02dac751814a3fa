use Rattle.std.proofs.Common.{◌≡◌, ◌==◌, length, map, sym, ◌∙◌, ap, subst}
use Rattle.std.specs.BTreeSet.{IsFromIterResult}
use Rattle.std.specs.Ordering.{eq_by_cmp}
use Rattle.std.specs.Set.{distinct_count}
use Rattle.std.specs.Cmp.{on_total}
use Rattle.std.specs.Cmp.Lexicographic.{nat_list_cmp_total}
use Rattle.std.proofs.lemmas.List.{length-map}
use Rattle.std.proofs.lemmas.Map.Views.{btree_set_len-from_list}
use Rattle.std.proofs.lemmas.Map.Text.{is_eq-slice_cmp}
use Rattle.keep_spec.specs.Config.{all_distinct}
use Rattle.keep_config.specs.Texts.{text_cmp}
use Rattle.keep_config.proofs.Counts.{distinct_count-all_distinct}
use Rattle.keep_config.proofs.distinct.all_distinct.Goals as goal

pub returns : goal.returns
returns g c =
    let names = c.in_ok-names.names.items in
    let same : map (λ t. t.now) names ≡ map g.N.Named.name c.args.items.now = c.in_ok-names.ensures in
    let few : length names ≡ length c.args.items.now = sym (length-map names (λ t. t.now)) ∙ ap length same ∙ length-map c.args.items.now g.N.Named.name in
    let made : IsFromIterResult text_cmp names c.in_ok-set.set = subst (λ ns. IsFromIterResult text_cmp ns c.in_ok-set.set) c.deref.ensures.value c.in_ok-set.ensures in
    let counted : c.len.result ≡ distinct_count (eq_by_cmp text_cmp) names = c.len.ensures.len ∙ btree_set_len-from_list (on_total (λ t. t.now) nat_list_cmp_total) names c.in_ok-set.set made in
    ap (λ n. n == length c.args.items.now) counted ∙ ap (λ n. distinct_count (eq_by_cmp text_cmp) names == n) (sym few)
    ∙ distinct_count-all_distinct (eq_by_cmp text_cmp) (λ a b. is_eq-slice_cmp a.now b.now) names ∙ ap all_distinct same
