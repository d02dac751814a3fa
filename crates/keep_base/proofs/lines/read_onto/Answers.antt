use Rattle.std.proofs.Common.{◌≡◌, ◌≤◌, ◌<◌, ◌+◌, ◌++◌, ◌∙◌, ap, sym, ◌-◌, true, vec_len, ℕ, List, take, length, arith}
use Rattle.std.proofs.lemmas.List.{take-append-le, length-append, take_all}
use Rattle.std.proofs.Math.Seq.{take-append-add, take-append_seam, take-take}
use Rattle.std.specs.Result.{is_ok}
use Rattle.std.proofs.Math.ListN.{replicate}
use Rattle.keep_base.proofs.lines.read_onto.Goals as goal

taken : (front buf more rest : List ℕ) (l n m : ℕ) → length front ≡ l → n ≤ length buf → l + n ≤ m → take (l + n) (take m (front ++ (buf ++ more) ++ rest)) ≡ front ++ take n buf
taken front buf more rest l n m e b c =
    let long : l + n ≤ length (front ++ (buf ++ more)) = omega (arith, e, b, length-append buf more, length-append front (buf ++ more)) in
    take-take (l + n) m _ c ∙ (take-append-le (l + n) (front ++ (buf ++ more)) rest long ∙ rw (← e) (take-append-add front (buf ++ more) n ∙ ap (λ v. front ++ v) (take-append-le n buf more b)))

kept : (old more : List ℕ) (l n : ℕ) → l ≡ length old → take l (take (l + n) old ++ more) ≡ old
kept old more l n e =
    let all : take (l + n) old ≡ old = take_all (l + n) old (omega (arith, e)) in
    rw (all, e) (take-append_seam old more)

pub returns-in-Ok-clause-read : goal.returns-in-Ok-clause-read
returns-in-Ok-clause-read g c =
    let old = c.args.pending.now.items in
    let len : c.len-len.result ≡ length old = grind (arith, c.len-len.ensures) in
    let ok : is_ok c.resize.result ≡ true = grind (arith, c.is_err.ensures.negation, c.if-is_err.false) in
    let grown : c.deref_mut.result.now ≡ take (c.len-len.result + 16384) old ++ replicate (c.len-len.result + 16384 - vec_len c.args.pending.now) 0 = c.deref_mut.ensures.value ∙ rw ok at c.resize.ensures.items in
    let front : take c.len-len.result c.deref_mut.result.now ≡ old = ap (take c.len-len.result) grown ∙ kept old _ c.len-len.result 16384 len in
    let within : length (take c.len-len.result c.deref_mut.result.now) ≡ c.len-len.result = rw front (sym len) in
    let room : c.resize.new.self.len ≡ c.len-len.result + 16384 = rw ok at c.resize.ensures.len in
    let slice : length c.deref_mut.result.now ≡ c.resize.new.self.len = c.deref_mut.ensures.len in
    let piece : length c.read.new.buf ≡ 16384 = omega (arith, slice, room, c.read.auto.buf) in
    let fits : c.len-len.result + c.in-Ok.count ≤ c.resize.new.self.len = omega (arith, c.in-Ok.ensures.bound.0, piece, room) in
    let some : 0 < length c.read.new.buf = omega (arith, piece) in (
      take c.in-Ok.count c.read.new.buf,
      (
        rw c.truncate.ensures.items (taken _ _ _ _ _ _ _ within c.in-Ok.ensures.bound.0 fits ∙ ap (λ v. v ++ take c.in-Ok.count c.read.new.buf) front),
        (sym c.in-Ok.ensures.bound.1, (c.in-Ok.ensures.bytes.0, λ none. c.in-Ok.ensures.bytes.1 none some)),
      ),
    )
