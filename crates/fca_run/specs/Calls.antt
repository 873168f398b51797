-- What a call of the program does. It has two parts: its command comes to an output or a stop (`ComesTo`), and the call writes that
-- (`HasConcluded`). Nothing is said of what the outside does not tell.
use Rattle.std.specs.Prelude.{◌≡◌, ◌⊎◌, ⊤, ℕ, length, Bool, true, false, Option, None, Some, Result, Err, IfOk, IfErr, OnOk}
use Rattle.std.specs.Io.KnownBytes.{IsAtEnd}
use Rattle.fca_model.specs.Tables.{Text}
use Rattle.fca_io.specs.Faults.{Rose, RoseAtMost}
use Rattle.fca_io.specs.Links.{Ends, MayListenAt}
use Rattle.fca_io.specs.Shelves.{Told}
use Rattle.fca_command.specs.Commands.{report_file, files_of, reads_input, uses_link, may_end_open}
use Rattle.fca_command.specs.declared.command.Command.{Command}
use Rattle.fca_command.specs.declared.command.Command.TheVariants.{Scale, Replay, Explore, Serve}
use Rattle.command_io.specs.Readings.{Reading, then, MayRead, MayRefuse, Rises, SomeRose, SameCounts}
use Rattle.command_io.specs.Readings.Reading.{Untold, Missing, Refused, Read}
use Rattle.command_io.specs.Causes.{UnlessReadFault, UnlessListenerFault}
use Rattle.command_io.specs.Known.{start_read}
use Rattle.command_io.specs.Endings.{Output, IsRefusal, IsUnread, IsOfFile}
use Rattle.command_io.specs.Streams.{Moment, HasConcluded}
use Rattle.command_io.specs.declared.output.Ending.{Ending}
use Rattle.command_io.specs.declared.output.Ending.TheVariants.{Finished, Open, Spent}
use Rattle.command_io.specs.declared.stop.Stop.{Stop}
use Rattle.command_io.specs.declared.stop.Stop.TheVariants.{NoCommand, ReadFault, ListenerFault, Memory}
use Rattle.replay_command.specs.Replayed.{IsReplayStop}
use Rattle.explore_command.specs.Starts.{explore_read, IsExploreStop}
use Rattle.explore_command.specs.Explored.{MayExplore}
use Rattle.serve_command.specs.Served.{MayServe, IsServeStop, GaveAllBack}
use Rattle.fca_run.specs.Outputs.{command_output}
use Rattle.fca_run.specs.Courses.{HasCourse}
use Rattle.fca_run.specs.Causes.{IsScaleStop, IsReportStop, command_file_at_fault}

-- ---- the outside at one moment

-- a shelf of files: itself, what it tells of each name, its counts of faults, and how many files were fetched, if it counts that
pub record ShelfMoment (H : Type 0) : Type 0 where
  pub it : H
  pub tells : Text → Told
  pub faults : Text → ℕ
  pub fetches : Option ℕ

abbrev pub shelf_moment : {H : Type 0} → (H → Text → Told) → (H → Text → ℕ) → (H → Option ℕ) → H → ShelfMoment H
shelf_moment tells faults fetches shelf =
    record { it = shelf; tells = tells shelf; faults = faults shelf; fetches = fetches shelf }

-- a link: itself, whether it listens and at which address, its ends, and its counts of faults
pub record LinkMoment (L E : Type 0) : Type 0 where
  pub it : L
  pub listens : Bool
  pub listens_at : Option Text
  pub ends : Option (Ends E)
  pub open_faults : Text → ℕ
  pub accept_faults : ℕ

abbrev pub link_moment : {L E : Type 0} → (L → Bool) → (L → Option Text) → (L → Option (Ends E)) → (L → Text → ℕ) → (L → ℕ) → L
    → LinkMoment L E
link_moment listens listens_at ends open_faults accept_faults link =
    record {
      it = link;
      listens = listens link;
      listens_at = listens_at link;
      ends = ends link;
      open_faults = open_faults link;
      accept_faults = accept_faults link;
    }

-- no link
abbrev pub unlinked : LinkMoment (Unit {0}) (Unit {0})
unlinked = record { it = tt; listens = false; listens_at = None; ends = None; open_faults = λ _. 0; accept_faults = 0 }

-- no input
abbrev pub no_input : Moment (Unit {0})
no_input = record { it = tt; bytes = None; faults = 0 }

-- how an end shows what is left and what is held, how often it was read, if it counts that, and its counts of faults
pub record Sides (E : Type 0) : Type 0 where
  pub left : E → Option Text
  pub held : E → Option Text
  pub reads : E → Option ℕ
  pub read_faults : E → ℕ
  pub write_faults : E → ℕ

abbrev pub sides : {E : Type 0} → (E → Option Text) → (E → Option Text) → (E → Option ℕ) → (E → ℕ) → (E → ℕ) → Sides E
sides left held reads read_faults write_faults =
    record { left = left; held = held; reads = reads; read_faults = read_faults; write_faults = write_faults }

-- ends that nobody has
abbrev pub no_sides : Sides (Unit {0})
no_sides = record { left = λ _. None; held = λ _. None; reads = λ _. None; read_faults = λ _. 0; write_faults = λ _. 0 }

-- all that a command reads, or talks to
pub record Outside (H S L E : Type 0) : Type 0 where
  pub shelf : ShelfMoment H
  pub input : Moment S
  pub link : LinkMoment L E

abbrev pub outside : {H S L E : Type 0} → ShelfMoment H → Moment S → LinkMoment L E → Outside H S L E
outside shelf input link = record { shelf = shelf; input = input; link = link }

-- ---- how a text may end

-- a question may be open if the command takes answers of others, and turns may be spent if oracles answer
abbrev pub MayEndWith : Command → Ending → Type 0
MayEndWith command Finished = ⊤
MayEndWith command Open = may_end_open command ≡ true
MayEndWith (Explore file known names experts) Spent = ⊤
MayEndWith _ Spent = ⊥

-- ---- what is to be read, and why it is not

-- the outside tells what the command reads, and that has its form
abbrev pub IsGiven : {X : Type 0} → Reading X → Type 0
IsGiven Untold = ⊥
IsGiven Missing = ⊥
IsGiven Refused = ⊥
IsGiven (Read x) = ⊤

-- a fault of the shelf or the input comes only if the first count rose, and one of the link only if the second did
abbrev pub IsBlamed : Type 0 → Type 0 → Stop → Type 0
IsBlamed rose link_rose NoCommand = ⊥
IsBlamed rose link_rose (ReadFault origin) = rose
IsBlamed rose link_rose ListenerFault = link_rose
IsBlamed rose link_rose _ = ⊤

-- ---- experts at the ends of a link

module _ {L E : Type 0} where
  -- if the command listens, the link listens at its address
  abbrev pub MayListen : Command → LinkMoment L E → Type 0
  MayListen (Serve file known experts holders listen) link = (link.listens ≡ true) × MayListenAt link.listens_at listen
  MayListen _ link = ⊤

  -- if the command serves experts at ends, the accepted ends are given back; if the listener failed, they are fewer than the experts
  abbrev pub HasGivenBack : Sides E → Command → LinkMoment L E → LinkMoment L E → Result Output Stop → Type 0
  HasGivenBack end_sides (Serve file known experts holders listen) old new output =
      GaveAllBack end_sides.left end_sides.held end_sides.reads end_sides.read_faults end_sides.write_faults experts old.ends new.ends (output ≡ Err ListenerFault)
  HasGivenBack end_sides _ old new output = ⊤

module _ {H S L E : Type 0} where
  -- All that the command reads. Every row of a table that is explored has to respect what is known of it, and beside a known file the
  -- script may set nothing
  abbrev pub read_by : Command → Outside H S L E → Reading (Unit {0})
  read_by (Explore file known names experts) old = then (explore_read file known names experts old.shelf.tells) (λ _. Read tt)
  read_by (Serve file known experts holders listen) old = then (start_read file known old.shelf.tells) (λ _. Read tt)
  read_by command old = then (command_output command old.shelf.tells old.input.bytes) (λ _. Read tt)

  -- ---- counts of faults

  -- a count of faults rose for a file of the command, or for the input if the command reads it
  abbrev pub FaultRose : Command → Outside H S L E → Outside H S L E → Type 0
  FaultRose command old new =
      SomeRose old.shelf.faults new.shelf.faults (files_of command)
      ⊎ ((reads_input command ≡ true) × Rose old.input.faults new.input.faults)

  -- the command listens, and a count of faults rose for the address at which it does, or for the ends that it accepts
  abbrev pub LinkFaultRose : Command → Outside H S L E → Outside H S L E → Type 0
  LinkFaultRose (Serve file known experts holders listen) old new =
      Rises old.link.open_faults new.link.open_faults listen ⊎ Rose old.link.accept_faults new.link.accept_faults
  LinkFaultRose _ old new = ⊥

  -- No count of faults changes: not those of the files and of the input, unless one of these could not be read, and not those of the link,
  -- unless the listener failed
  pub record IsQuiet (output : Result Output Stop) (old new : Outside H S L E) : Type 0 where
    pub files : UnlessReadFault output (SameCounts old.shelf.faults new.shelf.faults)
    pub input : UnlessReadFault output (new.input.faults ≡ old.input.faults)
    pub addresses : UnlessListenerFault output (SameCounts old.link.open_faults new.link.open_faults)
    pub accepting : UnlessListenerFault output (new.link.accept_faults ≡ old.link.accept_faults)

  -- What comes of a command agrees with the counts of the outside. A fault is blamed only if its count rose, and no count of faults changes
  -- but by such a fault. No more files are fetched than the command names
  pub record AgreesWithCounts (command : Command) (output : Result Output Stop) (old new : Outside H S L E) : Type 0 where
    pub blamed : IfErr output (IsBlamed (FaultRose command old new) (LinkFaultRose command old new))
    pub quiet : IsQuiet output old new
    pub few_fetches : RoseAtMost old.shelf.fetches new.shelf.fetches (length (files_of command))

  -- ---- why a command stops

  -- the stop for a command that reports on no table
  abbrev pub IsOtherStop : Command → Outside H S L E → Outside H S L E → Stop → Type 0
  IsOtherStop (Scale values plan) old new stop = IsScaleStop values plan old.shelf.tells (Rises old.shelf.faults new.shelf.faults) stop
  IsOtherStop (Replay file known) old new stop =
      IsReplayStop file known old.shelf.tells old.input.bytes (Rises old.shelf.faults new.shelf.faults)
      (Rose old.input.faults new.input.faults) stop
  IsOtherStop (Explore file known names experts) old new stop =
      IsExploreStop file known experts old.shelf.tells (Rises old.shelf.faults new.shelf.faults) stop
  IsOtherStop (Serve file known experts holders listen) old new stop =
      IsServeStop file known old.shelf.tells (Rises old.shelf.faults new.shelf.faults)
      (Rises old.link.open_faults new.link.open_faults listen ⊎ Rose old.link.accept_faults new.link.accept_faults) stop
  IsOtherStop _ old new stop = stop ≡ Memory

  -- the stop for a command, by the file that it reports on, if there is one
  abbrev pub IsStopBy : Option Text → Command → Outside H S L E → Outside H S L E → Stop → Type 0
  IsStopBy (Some file) command old new stop = IsReportStop command file (old.shelf.tells file)
      (Rises old.shelf.faults new.shelf.faults file) stop
  IsStopBy None command old new stop = IsOtherStop command old new stop

  -- the stop for the command, in the order of causes: what is read later is at fault only if all before it was read
  abbrev pub IsCommandStop : Command → Outside H S L E → Outside H S L E → Stop → Type 0
  IsCommandStop command old new stop = IsStopBy (report_file command) command old new stop

  -- an output of the command, by what the shelf, the input and the ends of the link tell
  abbrev pub MayOutput : Sides E → Command → Outside H S L E → Outside H S L E → Output → Type 0
  MayOutput end_sides (Explore file known names experts) old new output =
      MayExplore (explore_read file known names experts old.shelf.tells) output
  MayOutput end_sides (Serve file known experts holders listen) old new output =
      MayServe end_sides.left end_sides.held end_sides.reads end_sides.read_faults end_sides.write_faults
      (start_read file known old.shelf.tells) experts holders old.link.ends new.link.ends output
  MayOutput end_sides command old new output = MayRead (command_output command old.shelf.tells old.input.bytes) output

  -- ---- the first part of a call

  -- What a command comes to, and what it has touched by then
  pub record ComesTo (end_sides : Sides E) (command : Command) (old new : Outside H S L E) (output : Result Output Stop) : Type 0 where
    -- An output is one of the command, and ends as its outputs may. If the command explores, it tells of the exploration of its table
    pub allowed : IfOk output (MayOutput end_sides command old new)
    pub ending : IfOk output (λ output. MayEndWith command output.ending)
    pub course : IfOk output (λ output. HasCourse command old.shelf.tells old.input.bytes output.text)
    -- A stop has its cause, and refuses only what may be refused. The counts of the outside say so too, of faults and of fetches
    pub cause : IfErr output (IsCommandStop command old new)
    pub refused : IfErr output (λ stop. IsRefusal stop → MayRefuse (read_by command old))
    pub counts : AgreesWithCounts command output old new
    -- If all that the command reads is told and has its form, there is an output, or a count rose, or memory ran out
    pub complete : IsGiven (read_by command old) → IfErr output
        (λ stop. (stop ≡ Memory) ⊎ (FaultRose command old new ⊎ LinkFaultRose command old new))
    -- An input that is read is read to its end, and one that is not read is as it was
    pub read_to_end : reads_input command ≡ true → OnOk output (IsAtEnd new.input.bytes)
    pub input_kept : reads_input command ≡ false → new.input ≡ old.input
    -- A link that is not used is as it was, and so is one if something could not be read before. The input is as it was if a file could not
    -- be read. A link that is used listens, and has all its ends back
    pub link_kept : uses_link command ≡ false → new.link ≡ old.link
    pub unheard : IfErr output (λ stop. (IsUnread stop → new.link ≡ old.link) × (IsOfFile stop → new.input ≡ old.input))
    pub listens : OnOk output (MayListen command new.link)
    pub given_back : HasGivenBack end_sides command old.link new.link output

  -- what a call comes to; if its words are no command, all is as it was
  abbrev pub CallComesTo : Sides E → Option Command → Outside H S L E → Outside H S L E → Result Output Stop → Type 0
  CallComesTo end_sides (Some command) old new output = ComesTo end_sides command old new output
  CallComesTo end_sides None old new output = ((output ≡ Err NoCommand) ⊎ (output ≡ Err Memory)) × (new ≡ old)

  -- ---- a call

  -- What a call does, of this command or of none: it comes to an output or a stop, writes that to out or to err, and gives its status
  pub record HasRun {K F : Type 0} (end_sides : Sides E) (call : Option Command) (old new : Outside H S L E) (out out' : Moment K)
      (err err' : Moment F)
      (result : ℕ) : Type 0 where
    pub output : Result Output Stop
    pub comes : CallComesTo end_sides call old new output
    pub concluded : HasConcluded output (command_file_at_fault call) out out' err err' result
