-- What `serve` writes: the text of one legal history, which the experts at the ends of a link made, and how their sessions ended.
--
-- If the first of two experts quits at once and the second stops at the end of its input, the text ends with the lines `# sessions 2`, `# 1
-- quit` and `# 2 end of input`.
use Rattle.std.specs.Prelude.{◌≡◌, ◌⊎◌, ◌<◌, ◌≤◌, ℕ, Option, List, [], ◌++◌, map, length}
use Rattle.fca_model.specs.Tables.{Text, NamedContext}
use Rattle.fca_model.specs.Exploration.{SetEntry, own}
use Rattle.fca_model.specs.declared.TheConstants.{MAX_LINES, NO_MEMORY}
use Rattle.fca_io.specs.declared.outside.TheConstants.{READ_FAULT, WRITE_FAULT}
use Rattle.fca_io.specs.Links.{Ends}
use Rattle.expert_sessions.specs.Serving.{EachTalks}
use Rattle.expert_sessions.specs.declared.ended.Ended.{Ended}
use Rattle.expert_sessions.specs.declared.ended.Ended.TheVariants.{Quit, EndOfInput, ReadFault, WriteFault, LongLine, Limit, Spent, Memory}
use Rattle.explore_state.specs.History.{Opening}
use Rattle.basis_report.specs.Explorations.{explore_text, Spells}
use Rattle.basis_report.specs.Sessions.{sessions_text}
use Rattle.command_io.specs.Readings.{Reading, MayRead}
use Rattle.fca_io.specs.Shelves.{Told}
use Rattle.command_io.specs.Known.{Start, start_read, IsStartStop}
use Rattle.command_io.specs.declared.stop.Stop.{Stop}
use Rattle.command_io.specs.declared.stop.Stop.TheVariants.{ListenerFault}
use Rattle.command_io.specs.Endings.{Output, ending_of}
use Rattle.command_io.specs.declared.output.Ending.{Ending}
use Rattle.command_io.specs.Explorations.{Exploration, last_open, IsExplored}
use Rattle.serve_command.specs.Accepted.{TookAndGave, GaveBack, HasRoomFor}
use Rattle.serve_command.specs.Openings.{opening_by}
use Rattle.serve_command.specs.declared.ended_words.TheConstants.{QUIT, END_OF_INPUT, LONG_LINE, LIMIT, SPENT}

-- the words that say how a session ended
abbrev pub ended_words : Ended → Text
ended_words Quit = QUIT.now
ended_words EndOfInput = END_OF_INPUT.now
ended_words ReadFault = READ_FAULT.now
ended_words WriteFault = WRITE_FAULT.now
ended_words LongLine = LONG_LINE.now
ended_words Limit = LIMIT.now
ended_words Spent = SPENT.now
ended_words Memory = NO_MEMORY.now

-- the exploration that was opened so and has this history
abbrev pub exploration_of_opening : Opening → List SetEntry → Exploration
exploration_of_opening o H = record { opening = o; journal = H }

-- its text, and how the sessions ended
abbrev pub served_text : Opening → List SetEntry → List Ended → Text
served_text o H ended = explore_text o.table o.settings H ++ sessions_text (map ended_words ended)

-- over ends that show what is left and what is held, how often they were read, if they count that, and their counts of faults
module _ {E : Type 0} (left held : E → Option Text) (reads : E → Option ℕ) (read_faults write_faults : E → ℕ) where
  -- The text spells the settings of the exploration and one legal history, which has no entries but those of the experts at these ends.
  -- Expert k has talked over the k-th of them, which was read only after each whole line was answered, and the text says how that session
  -- ended. Its ending says whether a question is open after the last entry
  pub record IsServedText (o : Opening) (before after : List E) (written : Text) (end : Ending) : Type 0 where
    pub history : List SetEntry
    pub ended : List Ended
    pub text : written ≡ served_text o history ended
    pub spells : Spells o.table o.settings history written
    pub explored : IsExplored (exploration_of_opening o history)
    pub talks : EachTalks left held reads read_faults write_faults o.table MAX_LINES history 1 before after ended
    pub others : (e : ℕ) → (e ≡ 0) ⊎ (length before < e) → own history e ≡ []
    pub ending : end ≡ ending_of (last_open (exploration_of_opening o history))

  -- the ends are as they were, or their experts have talked over them
  abbrev pub MayHaveTalked : List E → List E → Type 0
  MayHaveTalked before after =
      (after ≡ before)
      ⊎ ((table : NamedContext) × (H : List SetEntry) × (ended : List Ended)
      × EachTalks left held reads read_faults write_faults table MAX_LINES H 1 before after ended)

  -- an output: the accepted ends, as many as there are experts, are given back, and the text is that of their sessions
  pub record IsOutput (o : Opening) (old new : Option (Ends E)) (output : Output) : Type 0 where
    pub before : List E
    pub after : List E
    pub count : length before ≡ o.experts
    pub ends : TookAndGave old new before after
    pub is : IsServedText o before after output.text output.ending

  -- an output for the start that may have been read, by these numbers of experts and of holders
  abbrev pub MayServe : Reading Start → ℕ → ℕ → Option (Ends E) → Option (Ends E) → Output → Type 0
  MayServe reading experts holders old new output = (start : Start) × MayRead reading start
      × IsOutput (opening_by experts holders start) old new output

  -- At most as many ends as there are experts were accepted, the first to come, and exactly these were given back in their order. If the
  -- listener failed, they are fewer, and as they were
  pub record GaveAllBack (experts : ℕ) (old new : Option (Ends E)) (failed : Type 0) : Type 0 where
    pub before : List E
    pub after : List E
    pub ends : TookAndGave old new before after
    pub talked : MayHaveTalked before after
    pub few : length before ≤ experts
    pub fewer : failed → (length before < experts) × (after ≡ before)

  -- ---- the steps of a call

  -- these ends went through their sessions and were given back if there was room, and the output is that of their sessions
  pub record HasServedAll (o : Opening) (before : List E) (old new : Option (Ends E)) (output : Output) : Type 0 where
    pub after : List E
    pub gave : HasRoomFor old (length after) → GaveBack old new after
    pub long : length after ≡ length before
    pub is : IsServedText o before after output.text output.ending

  -- these ends were given back if there was room, as they were or after their sessions
  pub record HasReturnedEnds (before : List E) (old new : Option (Ends E)) : Type 0 where
    pub after : List E
    pub gave : HasRoomFor old (length after) → GaveBack old new after
    pub long : length after ≡ length before
    pub talked : MayHaveTalked before after

-- the stop for the files, or, if these were read, for the link, whose count of faults rose
abbrev pub IsServeStop : Text → Option Text → (Text → Told) → (Text → Type 0) → Type 0 → Stop → Type 0
IsServeStop file known_file tells rises link_rose stop = IsStartStop file known_file tells rises stop
    ⊎ ((stop ≡ ListenerFault) × (start : Start) × MayRead (start_read file known_file tells) start × link_rose)
