use Rattle.std.proofs.Common.{◌≡◌, arith, length}
use Rattle.keep_base.proofs.Known.{Keeps-refl}
use Rattle.keep_base.proofs.Onto.{onto-keeps, onto-plain, onto-length}
use Rattle.keep_base.proofs.Plain.{IsPlain-join, IsPlain-from_none}
use Rattle.keep_base.specs.Ends.{IsPlain}
use Rattle.keep_base.proofs.lines.fill.Goals as goal

pub loop-text-init : goal.loop-text-init
loop-text-init g c = record { scanned = omega arith; plain = λ k p q. absurd (omega arith); bytes = Keeps-refl _; never_falls = omega arith }

pub returns-in_err-count-clause-bytes : goal.returns-in_err-count-clause-bytes
returns-in_err-count-clause-bytes g c = onto-keeps _ _ _ _ _ _ c.loop-text.invariant.bytes c.read_onto.ensures.read

pub returns-then-scanned-eq0-clause-bytes : goal.returns-then-scanned-eq0-clause-bytes
returns-then-scanned-eq0-clause-bytes g c = onto-keeps _ _ _ _ _ _ c.loop-text.invariant.bytes c.read_onto.ensures.read

pub returns-else-scanned-eq0-clause-bytes : goal.returns-else-scanned-eq0-clause-bytes
returns-else-scanned-eq0-clause-bytes g c = onto-keeps _ _ _ _ _ _ c.loop-text.invariant.bytes c.read_onto.ensures.read

pub loop-text-preserved : goal.loop-text-preserved
loop-text-preserved g c =
    let old = c.loop-text.pending.items in
    let grown = onto-length _ _ _ _ _ c.in_ok-count.ensures.read in
    let len : c.len-scanned.result ≡ length old = grind (arith, c.loop-text.pending.ok.0) in
    let rest : IsPlain old c.loop-text.scanned c.len-scanned.result =
    rw (len, ← c.deref.ensures.value) (IsPlain-from_none _ _ _ c.newline_from.ensures c.in_default.not-Some) in
    record {
      scanned = omega (arith, grown, len);
      plain = onto-plain _ _ _ _ _ _ c.in_ok-count.ensures.read (omega (arith, len)) (IsPlain-join old _ _ c.loop-text.invariant.plain rest);
      bytes = onto-keeps _ _ _ _ _ _ c.loop-text.invariant.bytes c.read_onto.ensures.read;
      never_falls = omega (arith, c.read_onto.ensures.never_falls);
    }
