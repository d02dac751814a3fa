-- What a run does, line after line, how it ends by itself, and what it leaves. This is the project's own rule.
use Rattle.std.specs.Prelude.{ℕ, suc, ◌+◌, ◌==◌, ◌&&◌, nat_lt, List, [], ◌∷◌, ◌++◌, length, map, take, drop, Bool, Option, None, Some, option_map, if◌then◌else◌, Result, Ok, Err}
use Rattle.keep_spec.specs.Lines.{cut, text_of, Verdict, fits, line_too_long, input_too_long, verdict_of}
use Rattle.keep_spec.specs.Config.{Configuration, config_of}
use Rattle.keep_spec.specs.declared.config.Field.{Field}
use Rattle.keep_spec.specs.declared.config.Field.TheVariants as F
use Rattle.keep_spec.specs.declared.status.Status.{Status}
use Rattle.keep_spec.specs.declared.status.Status.TheVariants.{Done, BadConfig, BadLine, LineTooLong, InputTooLong, NotEmpty, PortFault}
use Rattle.keep_event.specs.Device.{State}
use Rattle.keep_event.specs.World.{World, new_world}
use Rattle.keep_event.specs.declared.event.Event.{Event}
use Rattle.keep_event.specs.declared.names.Name.{Name}
use Rattle.keep_event.specs.declared.names.Stored.{Stored}
use Rattle.keep_history.specs.Effects.{Scene, Made, Effect, effect_of_line}

-- the most bytes of a line before its newline: 2^20
abbrev pub line_max : ℕ
line_max = 1048576

-- the most bytes of an input: 2^30
abbrev pub input_max : ℕ
input_max = 1073741824

abbrev pub verdict_on : ℕ → List ℕ → Verdict
verdict_on taken piece = verdict_of line_max input_max taken (length (text_of piece)) (length piece)

-- what a run has done by some line
pub record Progress : Type 0 where
  pub made : List Made
  pub scene : Scene
  pub text : List ℕ

-- nothing is done yet
abbrev pub at_start : Configuration → Progress
at_start c = record { made = []; scene = record { count = 0; world = new_world c; names = [] }; text = [] }

-- what was done so far, and one line more
abbrev pub and_then : Progress → Effect → Progress
and_then sofar e = record { made = sofar.made ++ e.made; scene = e.scene; text = sofar.text ++ e.text }

-- how a run ends by itself, and what it did; None where it did not come to its first script line
pub record End : Type 0 where
  pub status : Status
  pub did : Option Progress

abbrev pub ended_by : Status → Progress → End
ended_by status sofar = record { status = status; did = Some sofar }

abbrev pub not_begun : Status → End
not_begun status = record { status = status; did = None }

-- what comes after the line of a number: a line that is none ends the run, one that asks for an event too many ends it with what it did, and after any other it goes on
abbrev pub after_line : ℕ → Progress → Option Effect → (Progress → End) → End
after_line number sofar None go = ended_by (BadLine number) sofar
after_line number sofar (Some e) go = if e.spent then ended_by PortFault (and_then sofar e) else go (and_then sofar e)

abbrev pub by_verdict : Verdict → ℕ → Progress → Option Effect → (Progress → End) → End
by_verdict line_too_long number sofar effect go = ended_by (LineTooLong number) sofar
by_verdict input_too_long number sofar effect go = ended_by InputTooLong sofar
by_verdict fits number sofar effect go = after_line number sofar effect go

-- the lines from one on, where `taken` bytes and `number` lines came before
unfoldable pub run_lines : Configuration → List ℕ → ℕ → ℕ → Progress → List (List ℕ) → End
run_lines c failed taken number sofar [] = ended_by Done sofar
run_lines c failed taken number sofar (piece ∷ rest) =
    by_verdict (verdict_on taken piece) (number + 1) sofar (effect_of_line c failed sofar.scene (text_of piece)) (λ after. run_lines c failed (taken + length piece) (number + 1) after rest)

-- ---- the configuration and the stores

-- what a store keeps: the replicas and the trashed copies, and the round
pub record Kept : Type 0 where
  pub held : List (Name × Stored)
  pub round : ℕ

abbrev pub is_empty : Kept → Bool
is_empty k = (length k.held == 0) && (k.round == 0)

-- each device wants a store
abbrev pub fitted : ℕ → Result Configuration Field → Result Configuration Field
fitted stores (Err field) = Err field
fitted stores (Ok c) = if nat_lt stores (length c.devices) then Err F.Devices else Ok c

-- the configuration of a first line, for `stores` stores
abbrev pub config_for : ℕ → List ℕ → Result Configuration Field
config_for stores text = fitted stores (config_of text)

-- the number of the first store that keeps something
unfoldable pub first_filled : List Kept → Option ℕ
first_filled [] = None
first_filled (k ∷ ks) = if is_empty k then option_map suc (first_filled ks) else Some 0

-- devices are opened in order; the first that isn't empty is refused
abbrev pub run_opened : Configuration → List ℕ → ℕ → Option ℕ → List (List ℕ) → End
run_opened c failed taken (Some device) rest = not_begun (NotEmpty device)
run_opened c failed taken None rest = run_lines c failed taken 1 (at_start c) rest

abbrev pub run_configured : Result Configuration Field → List ℕ → ℕ → List Kept → List (List ℕ) → End
run_configured (Err field) failed taken starts rest = not_begun (BadConfig field)
run_configured (Ok c) failed taken starts rest = run_opened c failed taken (first_filled (take (length c.devices) starts)) rest

abbrev pub run_from : Verdict → Result Configuration Field → List ℕ → ℕ → List Kept → List (List ℕ) → End
run_from line_too_long c failed taken starts rest = not_begun (LineTooLong 1)
run_from input_too_long c failed taken starts rest = not_begun InputTooLong
run_from fits c failed taken starts rest = run_configured c failed taken starts rest

abbrev pub run_pieces : List ℕ → List Kept → List (List ℕ) → End
run_pieces failed starts [] = not_begun (BadConfig F.Line)
run_pieces failed starts (piece ∷ rest) =
    run_from (verdict_on 0 piece) (config_for (length starts) (text_of piece)) failed (length piece) starts rest

-- the run of an input over stores that keep this, where the events of these numbers failed
unfoldable pub run_of : List ℕ → List Kept → List ℕ → End
run_of failed starts bytes = run_pieces failed starts (cut bytes)

-- ---- what was done

-- the events of a run, and its text
abbrev pub history_of : Option Progress → List Event
history_of None = []
history_of (Some p) = map (λ m. m.event) p.made

abbrev pub text_by : Option Progress → List ℕ
text_by None = []
text_by (Some p) = p.text

abbrev pub kept_by : State → Kept
kept_by s = record { held = s.held; round = s.round }

-- what the stores keep after it: those of the devices what their device has, the others what they kept
abbrev pub left_in : World → List Kept → List Kept
left_in w starts = map kept_by w.devices ++ drop (length w.devices) starts

abbrev pub left_by : Option Progress → List Kept → List Kept
left_by None starts = starts
left_by (Some p) starts = left_in p.scene.world starts
