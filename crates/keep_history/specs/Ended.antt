-- How a run ended, with what it did by then: by itself, or stopped from outside. This is the project's own rule.
use Rattle.std.specs.Prelude.{◌≡◌, ◌≤◌, ◌<◌, ◌⊎◌, ◌+◌, ◌-◌, ◌^◌, ◌==◌, ◌&&◌, ℕ, zero, suc, List, [], ◌∷◌, ◌++◌, length, take, filter, Bool, false, Option, None, Some, option_map, option_and_then, if◌then◌else◌, Result, Ok, ⊤}
use Rattle.keep_spec.specs.Config.{Configuration}
use Rattle.keep_spec.specs.Lines.{cut, text_of, newlines, Verdict, fits, line_too_long, input_too_long}
use Rattle.keep_spec.specs.declared.config.Field.{Field}
use Rattle.keep_spec.specs.declared.status.Status.{Status}
use Rattle.keep_spec.specs.declared.status.Status.TheVariants.{Done, BadConfig, BadLine, WriteFault, ReadFault, NoMemory, LineTooLong, InputTooLong, NotEmpty, StoreFault, PortFault}
use Rattle.keep_event.specs.World.{World}
use Rattle.keep_event.specs.declared.event.Query.{Query}
use Rattle.keep_event.specs.declared.event.Query.TheVariants as Q
use Rattle.keep_history.specs.Effects.{Made, Effect, effect_of_line}
use Rattle.keep_history.specs.Tasks.{is_fault}
use Rattle.keep_history.specs.Run.{Progress, End, Kept, at_start, and_then, verdict_on, config_for, first_filled, run_of, text_by, left_in, left_by}

-- ---- what was done

-- events with what each left, what the stores keep after them, and the text that was written
pub record Work : Type 0 where
  pub made : List Made
  pub left : List Kept
  pub text : List ℕ

abbrev pub made_by : Option Progress → List Made
made_by None = []
made_by (Some p) = p.made

-- all that was done by a line, with its whole text
abbrev pub work_of : List Kept → Option Progress → Work
work_of starts did = record { made = made_by did; left = left_by did starts; text = text_by did }

-- what the last of some events left
unfoldable pub left_after : World → List Made → World
left_after w [] = w
left_after w (m ∷ ms) = left_after m.left ms

-- the first events of one line more, of whose text nothing is written yet
abbrev pub work_within : List Kept → Progress → Effect → ℕ → Work
work_within starts p e count = record {
  made = p.made ++ take count e.made;
  left = left_in (left_after p.scene.world (take count e.made)) starts;
  text = p.text;
}

-- one line more, of whose text the first bytes are written
abbrev pub work_with : List Kept → Progress → Effect → ℕ → Work
work_with starts p e count = record { made = p.made ++ e.made; left = left_in e.scene.world starts; text = p.text ++ take count e.text }

-- ---- lines that were done

-- the effect of a piece that is short enough, where it is a script line
abbrev pub effect_within : Verdict → Option Effect → Option Effect
effect_within fits effect = effect
effect_within line_too_long effect = None
effect_within input_too_long effect = None

abbrev pub effect_of_piece : Configuration → List ℕ → ℕ → Progress → List ℕ → Option Effect
effect_of_piece c failed taken sofar piece = effect_within (verdict_on taken piece) (effect_of_line c failed sofar.scene (text_of piece))

-- one line more, where it did not ask for an event too many
abbrev pub with_line : Progress → Effect → Option Progress
with_line sofar e = if e.spent then None else Some (and_then sofar e)

-- what stands before the lines that are left: how many bytes were taken, and what was done
pub record Place : Type 0 where
  pub taken : ℕ
  pub sofar : Progress
  pub rest : List (List ℕ)

abbrev pub place_at : ℕ → Progress → List (List ℕ) → Place
place_at taken sofar rest = record { taken = taken; sofar = sofar; rest = rest }

-- the place after so many lines more, where each of them is done
unfoldable pub place_after : Configuration → List ℕ → ℕ → ℕ → Progress → List (List ℕ) → Option Place
place_after c failed zero taken sofar rest = Some (place_at taken sofar rest)
place_after c failed (suc n) taken sofar [] = None
place_after c failed (suc n) taken sofar (piece ∷ rest) =
    option_and_then (λ after. place_after c failed n (taken + length piece) after rest)
    (option_and_then (with_line sofar) (effect_of_piece c failed taken sofar piece))

-- ---- the beginning of an input

-- the configuration of an input and the lines after it, where the first line is a configuration for so many stores
pub record Begun : Type 0 where
  pub config : Configuration
  pub taken : ℕ
  pub rest : List (List ℕ)

abbrev pub begun_by : ℕ → List (List ℕ) → Verdict → Result Configuration Field → Option Begun
begun_by taken rest fits (Ok c) = Some (record { config = c; taken = taken; rest = rest })
begun_by taken rest _ _ = None

abbrev pub begun_of : ℕ → List (List ℕ) → Option Begun
begun_of stores [] = None
begun_of stores (piece ∷ rest) = begun_by (length piece) rest (verdict_on 0 piece) (config_for stores (text_of piece))

-- the place after so many script lines, where every device is empty and each of them is done
abbrev pub place_in : List ℕ → ℕ → Option ℕ → Begun → Option Place
place_in failed n (Some device) b = None
place_in failed n None b = place_after b.config failed n b.taken (at_start b.config) b.rest

abbrev pub script_place : List ℕ → List Kept → List ℕ → ℕ → Option Place
script_place failed starts bytes n =
    option_and_then (λ (b : Begun). place_in failed n (first_filled (take (length b.config.devices) starts)) b) (begun_of (length starts) (cut bytes))

-- What was done after so many lines of an input, the configuration among them, where each of them is done. None stands within for no line: nothing is done then.
abbrev pub done_after : List ℕ → List Kept → List ℕ → ℕ → Option (Option Progress)
done_after failed starts bytes zero = Some None
done_after failed starts bytes (suc n) = option_map (λ (at : Place). Some at.sofar) (script_place failed starts bytes n)

-- the line after so many script lines, with what was done before it and what it does
pub record OneMore (failed : List ℕ) (starts : List Kept) (bytes : List ℕ) : Type 0 where
  pub begun : Begun
  pub lines : ℕ
  pub place : Place
  pub piece : List ℕ
  pub rest : List (List ℕ)
  pub effect : Effect
  pub begins : begun_of (length starts) (cut bytes) ≡ Some begun
  pub comes_to : script_place failed starts bytes lines ≡ Some place
  pub next_piece : place.rest ≡ piece ∷ rest
  pub does : effect_of_piece begun.config failed place.taken place.sofar piece ≡ Some effect

-- ---- how it was stopped

-- the run's own end, and all that it did
abbrev pub IsOwn : End → List Kept → Status → Work → Type 0
IsOwn end starts status work = (status ≡ end.status) × (work ≡ work_of starts end.did)

-- so many lines stand whole in what was read of an input, of which `unread` is left
pub record AreRead (bytes unread : List ℕ) (lines : ℕ) : Type 0 where
  pub read : List ℕ
  pub parts : bytes ≡ read ++ unread
  pub whole : (lines ≡ newlines read) ⊎ ((unread ≡ []) × (lines ≡ length (cut bytes)))

-- the source failed: each line that was read whole is done, with its whole text, and nothing else
pub record IsCutOff (failed : List ℕ) (starts : List Kept) (bytes unread : List ℕ) (work : Work) : Type 0 where
  pub lines : ℕ
  pub are_read : AreRead bytes unread lines
  pub did : Option Progress
  pub are_done : done_after failed starts bytes lines ≡ Some did
  pub work_is : work ≡ work_of starts did

-- the sink failed: a line is done, and a beginning of its text is written behind the whole text of the lines before
pub record IsUnwritten (failed : List ℕ) (starts : List Kept) (bytes : List ℕ) (work : Work) : Type 0 where
  pub more : OneMore failed starts bytes
  pub count : ℕ
  pub work_is : work ≡ work_with starts more.place.sofar more.effect count

-- lines are done, and nothing else
pub record IsBetween (failed : List ℕ) (starts : List Kept) (bytes : List ℕ) (work : Work) : Type 0 where
  pub lines : ℕ
  pub did : Option Progress
  pub are_done : done_after failed starts bytes lines ≡ Some did
  pub work_is : work ≡ work_of starts did

-- lines are done, and the first events of one more
pub record IsWithin (failed : List ℕ) (starts : List Kept) (bytes : List ℕ) (work : Work) : Type 0 where
  pub more : OneMore failed starts bytes
  pub count : ℕ
  pub work_is : work ≡ work_within starts more.place.sofar more.effect count

-- a device's store failed while the devices were opened: the first line is a configuration that has the device, those before it are empty, and nothing is done
pub record IsUnopened (starts : List Kept) (bytes : List ℕ) (device : ℕ) (work : Work) : Type 0 where
  pub begun : Begun
  pub begins : begun_of (length starts) (cut bytes) ≡ Some begun
  pub in_range : device < length begun.config.devices
  pub empty_before : first_filled (take device starts) ≡ None
  pub work_is : work ≡ work_of starts None

-- Each status: the run's own, at `Done` with the source read to its end; or how it was stopped; no other status comes.
abbrev pub HowEnded : Status → List ℕ → List Kept → List ℕ → Option (List ℕ) → Work → Type 0
HowEnded Done failed starts bytes unread work = IsOwn (run_of failed starts bytes) starts Done work × (unread ≡ Some [])
HowEnded (BadConfig field) failed starts bytes unread work = IsOwn (run_of failed starts bytes) starts (BadConfig field) work
HowEnded (BadLine n) failed starts bytes unread work = IsOwn (run_of failed starts bytes) starts (BadLine n) work
HowEnded (LineTooLong n) failed starts bytes unread work = IsOwn (run_of failed starts bytes) starts (LineTooLong n) work
HowEnded InputTooLong failed starts bytes unread work = IsOwn (run_of failed starts bytes) starts InputTooLong work
HowEnded (NotEmpty device) failed starts bytes unread work = IsOwn (run_of failed starts bytes) starts (NotEmpty device) work
HowEnded PortFault failed starts bytes unread work = IsOwn (run_of failed starts bytes) starts PortFault work
HowEnded (StoreFault device) failed starts bytes unread work = IsUnopened starts bytes device work
HowEnded ReadFault failed starts bytes unread work = (left : List ℕ) × ((unread ≡ Some left) × IsCutOff failed starts bytes left work)
HowEnded WriteFault failed starts bytes unread work = IsUnwritten failed starts bytes work
HowEnded NoMemory failed starts bytes unread work = IsBetween failed starts bytes work ⊎ IsWithin failed starts bytes work
HowEnded other failed starts bytes unread work = ⊥

-- ---- which events failed

-- the number of an event at which a store failed, if it is one
abbrev pub faulty : List Made → List ℕ
faulty [] = []
faulty (m ∷ ms) = if is_fault m.event.answer then m.event.tick ∷ faulty ms else faulty ms

abbrev pub is_on : ℕ → Query → Bool
is_on device (Q.Device d query) = d == device
is_on device (Q.Table query) = false

-- at how many events the store of a device failed
abbrev pub faults_on : ℕ → List Made → ℕ
faults_on device made = length (filter (λ (m : Made). is_fault m.event.answer && is_on device m.event.query) made)

-- a count rose by so many at least, where it can rise
abbrev pub RisesBy : ℕ → ℕ → ℕ → Type 0
RisesBy n before now = now < 2 ^ 64 - 1 → n + before ≤ now

-- the stores' counts, from the device of a number on, rose by the faults on their devices at least
abbrev pub RiseFrom : ℕ → List Made → List ℕ → List ℕ → Type 0
RiseFrom device made [] [] = ⊤
RiseFrom device made (before ∷ bs) (now ∷ ns) = RisesBy (faults_on device made) before now × RiseFrom (device + 1) made bs ns
RiseFrom device made _ _ = ⊥

-- A run of an input over stores that kept this: how it ended, with what it did by then. The events that failed are just those that were answered StoreFault, and each raised the count of its device's store.
pub record Ran (starts : List Kept) (bytes : List ℕ) (status : Status) (unread : Option (List ℕ)) (before now : List ℕ) (work : Work) : Type 0 where
  pub failed : List ℕ
  pub failed_are : failed ≡ faulty work.made
  pub rises : RiseFrom 0 work.made before now
  pub how : HowEnded status failed starts bytes unread work
