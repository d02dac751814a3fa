use Rattle.std.proofs.Common.{◌≡◌, length, take, drop, min, arith, ap, sym, ◌∙◌}
use Rattle.std.proofs.lemmas.List.{take_min, drop_min, length-take}
use Rattle.keep_spec.proofs.TokenText.{first-token}
use Rattle.keep_manifest.proofs.cut.cut_token.Goals as goal

pub returns-clause-parts : goal.returns-clause-parts
returns-clause-parts c =
    let text = c.args.text.now in
    let ended = c.split_at.result.1.now in
    let one : c.min.result ≡ min 1 (length ended) = omega arith in
    let rest = c.split_at.ensures.back ∙ ap (λ n. drop n text) c.token_len.ensures.place in
    λ f.
    first-token f text c.split_at.result.0.now c.split_at-2.result.0.now c.split_at-2.result.1.now (omega arith)
    (c.split_at.ensures.front ∙ ap (λ n. take n text) c.token_len.ensures.place)
    (c.split_at-2.ensures.front ∙ ap (λ n. take n ended) one ∙ take_min 1 ended ∙ ap (take 1) rest)
    (c.split_at-2.ensures.back ∙ ap (λ n. drop n ended) one ∙ drop_min 1 ended ∙ ap (drop 1) rest)

pub returns-clause-token : goal.returns-clause-token
returns-clause-token c = c.split_at.ensures.front ∙ ap (λ n. take n c.args.text.now) c.token_len.ensures.place

pub returns-clause-end : goal.returns-clause-end
returns-clause-end c =
    let text = c.args.text.now in
    let ended = c.split_at.result.1.now in
    let one : c.min.result ≡ min 1 (length ended) = omega arith in
    let long : length c.split_at.result.0.now ≡ c.token_len.result = ap length c.split_at.ensures.front ∙ length-take c.token_len.result text ∙ omega arith in
    c.split_at-2.ensures.front ∙ ap (λ n. take n ended) one ∙ take_min 1 ended ∙ ap (take 1) (c.split_at.ensures.back ∙ ap (λ n. drop n text) (sym long))

pub returns-clause-rest : goal.returns-clause-rest
returns-clause-rest c =
    let text = c.args.text.now in
    let ended = c.split_at.result.1.now in
    let one : c.min.result ≡ min 1 (length ended) = omega arith in
    let long : length c.split_at.result.0.now ≡ c.token_len.result = ap length c.split_at.ensures.front ∙ length-take c.token_len.result text ∙ omega arith in
    c.split_at-2.ensures.back ∙ ap (λ n. drop n ended) one ∙ drop_min 1 ended ∙ ap (drop 1) (c.split_at.ensures.back ∙ ap (λ n. drop n text) (sym long))
