-- What lines did, one after another, where source and stores tell; of the text that was written, where the sink tells. For private clauses.
use Rattle.std.specs.Prelude.{◌≡◌, ◌⊎◌, ◌++◌, ℕ, List, [], ◌∷◌, take, Option, Some}
use Rattle.std.specs.Io.KnownBytes.{Appends}
use Rattle.keep_spec.specs.Lines.{cut}
use Rattle.keep_spec.specs.Config.{Configuration}
use Rattle.keep_spec.specs.declared.status.Status.{Status}
use Rattle.keep_spec.specs.declared.status.Status.TheVariants.{Done, BadLine, WriteFault, ReadFault, NoMemory, LineTooLong, InputTooLong, PortFault}
use Rattle.keep_event.specs.World.{World}
use Rattle.keep_history.specs.Effects.{Made, Effect}
use Rattle.keep_history.specs.Ended.{Place, place_after, effect_of_piece, left_after, faulty, AreRead}
use Rattle.keep_history.specs.Run.{Progress, End, ended_by, run_lines, at_start}
use Rattle.keep_run.specs.Faults.{Rise}

-- what lines did: their events, what the devices and the table have after them, and the text that was written
pub record Did : Type 0 where
  pub made : List Made
  pub world : World
  pub text : List ℕ

abbrev pub did_by : Progress → Did
did_by p = record { made = p.made; world = p.scene.world; text = p.text }

-- where lines begin to be done: how many bytes and lines were taken before, and the bytes that are left
pub record Beginning : Type 0 where
  pub taken : ℕ
  pub number : ℕ
  pub bytes : List ℕ

abbrev pub beginning : ℕ → ℕ → List ℕ → Beginning
beginning taken number bytes = record { taken = taken; number = number; bytes = bytes }

-- the run of all lines from a beginning on, where some events fail
abbrev pub lines_run : Configuration → Beginning → List ℕ → End
lines_run c b failed = run_lines c failed b.taken b.number (at_start c) (cut b.bytes)

-- the place after so many of the lines, where each of them is done
abbrev pub lines_place : Configuration → Beginning → List ℕ → ℕ → Option Place
lines_place c b failed lines = place_after c failed lines b.taken (at_start c) (cut b.bytes)

-- the run of the lines ended so by itself
pub record IsRunOut (c : Configuration) (b : Beginning) (failed : List ℕ) (status : Status) (did : Did) : Type 0 where
  pub progress : Progress
  pub ends : lines_run c b failed ≡ ended_by status progress
  pub did_is : did ≡ did_by progress

-- so many lines are done, and nothing else
pub record AreDone (c : Configuration) (b : Beginning) (failed : List ℕ) (lines : ℕ) (did : Did) : Type 0 where
  pub place : Place
  pub comes_to : lines_place c b failed lines ≡ Some place
  pub did_is : did ≡ did_by place.sofar

-- the line after so many, with what was done before it and what it does
pub record LineMore (c : Configuration) (b : Beginning) (failed : List ℕ) : Type 0 where
  pub lines : ℕ
  pub place : Place
  pub piece : List ℕ
  pub rest : List (List ℕ)
  pub effect : Effect
  pub comes_to : lines_place c b failed lines ≡ Some place
  pub next_piece : place.rest ≡ piece ∷ rest
  pub does : effect_of_piece c failed place.taken place.sofar piece ≡ Some effect

-- a line is done, and the first bytes of its text are written
pub record IsPartWritten (c : Configuration) (b : Beginning) (failed : List ℕ) (did : Did) : Type 0 where
  pub more : LineMore c b failed
  pub count : ℕ
  pub did_is : did ≡ record {
    made = more.place.sofar.made ++ more.effect.made;
    world = more.effect.scene.world;
    text = more.place.sofar.text ++ take count more.effect.text;
  }

-- the first events of a line are made
pub record IsPartMade (c : Configuration) (b : Beginning) (failed : List ℕ) (did : Did) : Type 0 where
  pub more : LineMore c b failed
  pub count : ℕ
  pub did_is : did ≡ record {
    made = more.place.sofar.made ++ take count more.effect.made;
    world = left_after more.place.sofar.scene.world (take count more.effect.made);
    text = more.place.sofar.text;
  }

-- the source failed: each line that was read whole is done
pub record IsReadOut (c : Configuration) (b : Beginning) (failed : List ℕ) (unread : Option (List ℕ)) (did : Did) : Type 0 where
  pub left : List ℕ
  pub unread_is : unread ≡ Some left
  pub lines : ℕ
  pub are_read : AreRead b.bytes left lines
  pub are_done : AreDone c b failed lines did

-- each status that lines end with
abbrev pub HowLinesEnded : Status → Configuration → Beginning → List ℕ → Option (List ℕ) → Did → Type 0
HowLinesEnded Done c b failed unread did = IsRunOut c b failed Done did × (unread ≡ Some [])
HowLinesEnded (BadLine n) c b failed unread did = IsRunOut c b failed (BadLine n) did
HowLinesEnded (LineTooLong n) c b failed unread did = IsRunOut c b failed (LineTooLong n) did
HowLinesEnded InputTooLong c b failed unread did = IsRunOut c b failed InputTooLong did
HowLinesEnded PortFault c b failed unread did = IsRunOut c b failed PortFault did
HowLinesEnded ReadFault c b failed unread did = IsReadOut c b failed unread did
HowLinesEnded WriteFault c b failed unread did = IsPartWritten c b failed did
HowLinesEnded NoMemory c b failed unread did = ((lines : ℕ) × AreDone c b failed lines did) ⊎ IsPartMade c b failed did
HowLinesEnded other c b failed unread did = ⊥

-- The lines from a beginning on ended with a status: what they did, where the events that failed are just those that were answered StoreFault. `unread` is what the source has left; the sink held `before` and now holds `written`, where it tells.
pub record LinesRan (c : Configuration) (b : Beginning) (status : Status) (unread : Option (List ℕ)) (faults_before faults_now : ℕ → ℕ) (world : Option World) (before written : Option (List ℕ)) : Type 0 where
  pub did : Did
  pub world_is : world ≡ Some did.world
  pub written_is : Appends before written did.text
  pub rise : Rise did.made faults_before faults_now
  pub how : HowLinesEnded status c b (faulty did.made) unread did
