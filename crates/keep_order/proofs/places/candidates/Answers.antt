use Rattle.std.proofs.Common.{◌≡◌, ◌+◌, ◌<◌, ℕ, zero, suc, List, [], ◌∷◌, ◌++◌, map, take, length, get_or, ap, sym, ◌∙◌, arith, true, not, if◌then◌else◌}
use Rattle.std.specs.Result.{is_ok}
use Rattle.std.specs.List.{enumerate_from}
use Rattle.keep_order.specs.Candidates.{candidate}
use Rattle.keep_order.proofs.places.candidates.Goals as goal

candidates-more : (k : ℕ) (ws : List (List ℕ)) (i : ℕ) (d : List ℕ) → i < length ws → map candidate (enumerate_from k (take (suc i) ws)) ≡ map candidate (enumerate_from k (take i ws)) ++ candidate (k + i, get_or ws i d) ∷ []
candidates-more k [] i d lt = absurd (omega arith)
candidates-more k (w ∷ ws) zero d lt = let e : k ≡ k + 0 = omega arith in ap (λ v. candidate (v, w) ∷ []) e
candidates-more k (w ∷ ws) (suc i) d lt =
    let e : (k + 1) + i ≡ k + suc i = omega arith in
    ap (λ l. candidate (k, w) ∷ l) (candidates-more (k + 1) ws i d (omega arith) ∙ ap (λ v. map candidate (enumerate_from (k + 1) (take i ws)) ++ candidate (v, get_or ws i d) ∷ []) e)

pub loop-place-preserved : goal.loop-place-preserved
loop-place-preserved c =
    let place = c.loop-place.place in
    let ws = c.args.weights.now in
    let number : 0 + place ≡ c.in-Ok.number = omega (arith, c.in-Ok.ensures) in
    let next : suc place ≡ place + 1 = omega arith in
    let more : map candidate (enumerate_from 0 (take (place + 1) ws)) ≡ map candidate (enumerate_from 0 (take place ws)) ++ candidate (c.in-Ok.number, get_or ws place []) ∷ [] =
    ap (λ v. map candidate (enumerate_from 0 (take v ws))) (sym next) ∙ candidates-more 0 ws place [] (omega arith) ∙ ap (λ v. map candidate (enumerate_from 0 (take place ws)) ++ candidate (v, get_or ws place []) ∷ []) number in
    let v = candidate (c.in-Ok.number, get_or ws place []) in
    let ok : is_ok c.push.result ≡ true = c.is_err.ensures.negation ∙ ap not c.if-is_err.false in
    c.push.ensures.items
    ∙ ap (λ b. if b then c.loop-place.candidates.items ++ v ∷ [] else c.loop-place.candidates.items) ok
    ∙ ap (λ l. l ++ v ∷ []) c.loop-place.invariant
    ∙ sym more
