-- What is pending where the source failed, or memory was refused.
use Rattle.std.proofs.Common.{◌≡◌, ℕ, suc, List, [], ◌∷◌, length, Option, Err, refl, arith}
use Rattle.std.proofs.lemmas.Bool.{ne_eqb}
use Rattle.keep_base.specs.declared.lines.Stop.{Stop}
use Rattle.keep_base.specs.declared.lines.Stop.TheVariants.{ReadFault, LineTooLong, InputTooLong, NoMemory}
use Rattle.keep_base.specs.declared.lines.LineError.TheVariants as E
use Rattle.keep_base.specs.Ends.{IsPlain, IsOpen, IsFound, error_of_stop}
use Rattle.keep_spec.specs.Lines.{newlines, fits, verdict_of}
use Rattle.keep_base.specs.declared.lines.TheConstants.{LINE_MAX, INPUT_MAX}

pub newlines-plain : (xs : List ℕ) → IsPlain xs 0 (length xs) → newlines xs ≡ 0
unfolding newlines
newlines-plain [] p = refl
newlines-plain (x ∷ xs) p =
    rw (ne_eqb x 10 (p 0 (omega arith) (omega arith))) (newlines-plain xs (λ k low high. p (suc k) (omega arith) (omega arith)))

-- what is pending has no newline, and isn't refused so far
pub record StaysOpen (taken : ℕ) (pending : List ℕ) : Type 0 where
  pub no_newline : newlines pending ≡ 0
  pub fits_so_far : verdict_of LINE_MAX INPUT_MAX taken (length pending) (length pending) ≡ fits

open_stays : (taken : ℕ) (pending : List ℕ) → IsOpen taken pending → StaysOpen taken pending
open_stays taken pending o = record { no_newline = newlines-plain pending o.0; fits_so_far = o.1 }

pub open_at_fault : (taken n : ℕ) (left : Option (List ℕ)) (pending : List ℕ) (stop : Stop) → error_of_stop stop n ≡ E.ReadFault → IsFound taken (Err stop) pending left → StaysOpen taken pending
open_at_fault taken n left pending ReadFault e f = open_stays taken pending f
open_at_fault taken n left pending LineTooLong e f = cc
open_at_fault taken n left pending InputTooLong e f = cc
open_at_fault taken n left pending NoMemory e f = cc

pub open_at_memory : (taken n : ℕ) (left : Option (List ℕ)) (pending : List ℕ) (stop : Stop) → error_of_stop stop n ≡ E.NoMemory → IsFound taken (Err stop) pending left → StaysOpen taken pending
open_at_memory taken n left pending ReadFault e f = cc
open_at_memory taken n left pending LineTooLong e f = cc
open_at_memory taken n left pending InputTooLong e f = cc
open_at_memory taken n left pending NoMemory e f = open_stays taken pending f

pub stop_of_memory : (n : ℕ) (stop : Stop) → error_of_stop stop n ≡ E.NoMemory → stop ≡ NoMemory
stop_of_memory n ReadFault e = cc
stop_of_memory n LineTooLong e = cc
stop_of_memory n InputTooLong e = cc
stop_of_memory n NoMemory e = refl
