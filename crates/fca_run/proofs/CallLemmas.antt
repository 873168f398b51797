-- What a command comes to is that of the crate that runs it, and what is touched besides is nothing; and a call writes what its command
-- came to.
use Rattle.std.proofs.Common.{◌≡◌, ◌⊎◌, ◌∙◌, ◌++◌, [], ℕ, List, ◌∷◌, Bool, true, false, map, Option, Some, None, Result, Ok, Err, inl, inr}
use Rattle.std.proofs.Common.{refl, sym, ap, subst, append-nil, arith}
use Rattle.std.specs.Prelude.{IfOk, IfErr, OnOk, length, option_to_list}
use Rattle.std.specs.Io.KnownBytes.{IsAtEnd}
use Rattle.std.proofs.lemmas.Result.{IfOk-weaker, IfErr-weaker}
use Rattle.fca_model.specs.Tables.{Text}
use Rattle.fca_model.specs.Implications.{Rule}
use Rattle.fca_model.proofs.ListLemmas.{IfErr-any}
use Rattle.fca_io.specs.Faults.{Rose, RoseAtMost}
use Rattle.fca_io.specs.Links.{Ends, MayListenAt}
use Rattle.fca_io.specs.Shelves.{Told}
use Rattle.fca_command.specs.Commands.{report_file, files_of, first_file_of, reads_input, may_end_open, waits_for_nobody}
use Rattle.fca_command.specs.declared.command.Command.{Command}
use Rattle.fca_command.specs.declared.command.Command.TheVariants.{Concepts, Lattice, Basis, Direct, Follows, Convert, Reduce, Arrows}
use Rattle.fca_command.specs.declared.command.Command.TheVariants.{Scale, Replay, Explore, Serve, Make, Survey}
use Rattle.context_table.specs.declared.recipe.Recipe.{Recipe}
use Rattle.command_io.specs.Readings.{Reading, then, MayRead, MayRefuse, Rises, SameCounts}
use Rattle.command_io.specs.Readings.Reading.{Read}
use Rattle.command_io.specs.Causes.{UnlessReadFault, UnlessListenerFault}
use Rattle.command_io.specs.Known.{Start, start_read}
use Rattle.command_io.specs.Endings.{Output, Outcome, finished, ending_of, IsRefusal, IsUnread, IsOfFile, MayBecome}
use Rattle.command_io.specs.Endings.Outcome.{Written, CutOff, Stopped}
use Rattle.command_io.specs.ErrLines.{stop_line, stop_origin, file_from, line_of}
use Rattle.command_io.specs.declared.stop.Origin.{Origin}
use Rattle.command_io.specs.declared.stop.Origin.TheVariants.{File, Known, Later, Input}
use Rattle.command_io.specs.Explorations.{Exploration, last_open}
use Rattle.command_io.specs.Streams.{Moment, GainsLine, HasConcluded}
use Rattle.command_io.specs.declared.output.Ending.{Ending}
use Rattle.command_io.specs.declared.output.Ending.TheVariants.{Finished, Open, Spent}
use Rattle.command_io.specs.declared.stop.Stop.{Stop}
use Rattle.command_io.specs.declared.stop.Stop.TheVariants.{ListenerFault, Memory}
use Rattle.command_io.proofs.ReadingLemmas.{refused_then}
use Rattle.command_io.proofs.QuietLemmas.{unless_fault, unless_listener}
use Rattle.command_io.proofs.FetchLemmas.{fetched_none}
use Rattle.replay_command.specs.Replayed.{replay_read, exploration_output, MayReplay}
use Rattle.explore_command.specs.Starts.{ExploreStart, explore_read, IsExploreStop}
use Rattle.explore_command.specs.Explored.{explored_ending, MayExplore}
use Rattle.serve_command.specs.Openings.{opening_by}
use Rattle.serve_command.specs.Served.{exploration_of_opening, MayServe, IsServeStop, GaveAllBack}
use Rattle.serve_command.proofs.AcceptedLemmas.{TookAndGave-none}
use Rattle.fca_run.specs.Causes.{command_file_at_fault}
use Rattle.fca_run.specs.Outputs.{command_output, survey_output}
use Rattle.fca_run.specs.Calls.{ShelfMoment, LinkMoment, Sides, Outside, outside, unlinked, no_input, no_sides, MayEndWith, read_by}
use Rattle.fca_run.specs.Calls.{IsGiven, IsBlamed, FaultRose, LinkFaultRose, IsQuiet, IsCommandStop, HasGivenBack, MayListen, ComesTo}
use Rattle.fca_run.specs.Calls.{CallComesTo}
use Rattle.fca_run.specs.Courses.{HasCourse}
use Rattle.fca_run.proofs.CourseLemmas.{explore-tells, serve-tells}
use Rattle.fca_run.proofs.BlameLemmas.{stop-blamed, given-comes}

-- ---- results

pub any-ok : {X F : Type 0} (r : Result X F) (P : Type 0) → P → OnOk r P
any-ok (Ok x) P p = p
any-ok (Err e) P p = tt

-- ---- counts of faults

module _ {H S L E : Type 0} (output : Result Output Stop) where
  quiet_with : (old new : Outside H S L E) → UnlessReadFault output (SameCounts old.shelf.faults new.shelf.faults)
      → UnlessReadFault output (new.input.faults ≡ old.input.faults)
      → UnlessListenerFault output (SameCounts old.link.open_faults new.link.open_faults)
      → UnlessListenerFault output (new.link.accept_faults ≡ old.link.accept_faults)
      → IsQuiet output old new
  quiet_with old new files input addresses accepting = record { files = files; input = input; addresses = addresses; accepting = accepting }

  quiet_same : (old : Outside H S L E) → IsQuiet output old old
  quiet_same old = quiet_with old old
      (unless_fault output (SameCounts old.shelf.faults old.shelf.faults) (λ _. refl))
      (unless_fault output (old.input.faults ≡ old.input.faults) refl)
      (unless_listener output (SameCounts old.link.open_faults old.link.open_faults) (λ _. refl))
      (unless_listener output (old.link.accept_faults ≡ old.link.accept_faults) refl)

-- ---- how texts end

explore-ends : (file : Text) (known : Option Text) (names : Bool) (experts : List Text) (spent : Bool)
    → MayEndWith (Explore file known names experts) (explored_ending spent)
explore-ends file known names experts true = tt
explore-ends file known names experts false = tt

questions-end : (command : Command) (questions : List Rule) → may_end_open command ≡ true → MayEndWith command (ending_of questions)
questions-end command [] may = tt
questions-end command (question ∷ later) may = may

pub finished-ends : (command : Command) (ending : Ending) → ending ≡ Finished → MayEndWith command ending
finished-ends command ending e = subst (MayEndWith command) (sym e) tt

pub replay-ends : (file : Text) (known : Option Text) (reading : Reading Exploration) (output : Output) → MayReplay reading output
    → MayEndWith (Replay file known) output.ending
replay-ends file known reading output replay =
    subst (MayEndWith (Replay file known)) (sym (ap (λ (o : Output). o.ending) replay.whole))
    (questions-end (Replay file known) (last_open replay.made) refl)

-- ---- explorations by oracles

module _ {H S D E : Type 0} (end_sides : Sides E) (s s' : ShelfMoment H) (input : Moment S) (link : LinkMoment D E) where
  pub explore-comes : (file : Text) (known : Option Text) (names : Bool) (experts : List Text) (output : Result Output Stop)
      → IfOk output (MayExplore (explore_read file known names experts s.tells))
      → IfErr output (λ stop. (IsRefusal stop → MayRefuse (explore_read file known names experts s.tells)))
      → IfErr output (IsExploreStop file known experts s.tells (Rises s.faults s'.faults))
      → UnlessReadFault output (SameCounts s.faults s'.faults)
      → RoseAtMost s.fetches s'.fetches (length (file ∷ option_to_list known ++ experts))
      → ComesTo end_sides (Explore file known names experts) (outside s input link) (outside s' input link) output
  explore-comes file known names experts output answers refuses causes quiet few =
      let command : Command = Explore file known names experts in
      let old : Outside H S D E = outside s input link in
      let new : Outside H S D E = outside s' input link in
      let reading : Reading ExploreStart = explore_read file known names experts s.tells in
      let Refuses : Stop → Type 0 = λ stop. (IsRefusal stop → MayRefuse (read_by command old)) in
      let refusals : IfErr output Refuses =
      IfErr-weaker output (λ stop. (IsRefusal stop → MayRefuse reading)) Refuses
      (λ stop may. λ refusal. refused_then reading (λ _. Read tt) (may refusal)) refuses in
      let blames : IfErr output (IsBlamed (FaultRose command old new) (LinkFaultRose command old new)) =
      IfErr-weaker output (IsCommandStop command old new) (IsBlamed (FaultRose command old new) (LinkFaultRose command old new))
      (λ stop is. stop-blamed command old new stop is) causes in
      record {
        allowed = answers;
        ending = IfOk-weaker output (MayExplore reading) (λ output. MayEndWith command output.ending)
            (λ output explored. subst (MayEndWith command) (sym explored.ending) (explore-ends file known names experts explored.spent))
            answers;
        course = IfOk-weaker output (MayExplore reading) (λ output. HasCourse command s.tells input.bytes output.text)
            (λ output explored. explore-tells reading output explored) answers;
        cause = causes;
        refused = refusals;
        counts = record {
          blamed = blames;
          quiet = quiet_with output (outside s input link) (outside s' input link) quiet
              (unless_fault output (input.faults ≡ input.faults) refl)
              (unless_listener output (SameCounts link.open_faults link.open_faults) (λ _. refl))
              (unless_listener output (link.accept_faults ≡ link.accept_faults) refl);
          few_fetches = few;
        };
        complete = λ given. given-comes (read_by command old) (FaultRose command old new)
            (LinkFaultRose command old new) output blames refusals given;
        read_to_end = λ reads. cc;
        input_kept = λ _. refl;
        link_kept = λ _. refl;
        unheard = IfErr-any output (λ stop. (IsUnread stop → link ≡ link) × (IsOfFile stop → input ≡ input)) (λ stop. (λ _. refl, λ _. refl));
        listens = any-ok output (MayListen command link) tt;
        given_back = tt;
      }

-- ---- sessions of experts

module _ {E : Type 0} (end_sides : Sides E) where
  serve-ends : (file : Text) (known : Option Text) (listen : Text) (reading : Reading Start) (experts holders : ℕ)
      (old new : Option (Ends E)) (output : Output)
      → MayServe end_sides.left end_sides.held end_sides.reads end_sides.read_faults end_sides.write_faults reading experts holders old new output
      → MayEndWith (Serve file known experts holders listen) output.ending
  serve-ends file known listen reading experts holders old new output serve =
      let command : Command = Serve file known experts holders listen in
      let is = serve.2.is in
      subst (MayEndWith command) (sym is.ending) (questions-end command
      (last_open (exploration_of_opening (opening_by experts holders serve.0) is.history)) refl)

  serve-back : (reading : Reading Start) (experts holders : ℕ) (old new : Option (Ends E)) (output : Result Output Stop)
      → IfOk output (MayServe end_sides.left end_sides.held end_sides.reads end_sides.read_faults end_sides.write_faults reading experts holders old new)
      → IfErr output (λ stop. GaveAllBack end_sides.left end_sides.held end_sides.reads end_sides.read_faults end_sides.write_faults experts old new
      (stop ≡ ListenerFault))
      → GaveAllBack end_sides.left end_sides.held end_sides.reads end_sides.read_faults end_sides.write_faults experts old new (output ≡ Err ListenerFault)
  serve-back reading experts holders old new (Ok output) serve back =
      let is = serve.2 in
      let many = is.count in
      record {
        before = is.before;
        after = is.after;
        ends = is.ends;
        talked = inr (serve.0.table, is.is.history, is.is.ended, is.is.talks);
        few = omega arith;
        fewer = λ failed. cc;
      }
  serve-back reading experts holders old new (Err stop) serve back = record {
    before = back.before;
    after = back.after;
    ends = back.ends;
    talked = back.talked;
    few = back.few;
    fewer = λ failed. (let listener : stop ≡ ListenerFault = cc in back.fewer listener);
  }

module _ {H S D E : Type 0} (end_sides : Sides E) (s s' : ShelfMoment H) (input : Moment S) (link link' : LinkMoment D E) where
  pub serve-comes : (file : Text) (known : Option Text) (experts holders : ℕ) (listen : Text) (output : Result Output Stop)
      → IfOk output (MayServe end_sides.left end_sides.held end_sides.reads end_sides.read_faults end_sides.write_faults
      (start_read file known s.tells) experts holders link.ends link'.ends)
      → OnOk output ((link'.listens ≡ true) × MayListenAt link'.listens_at listen)
      → IfErr output (λ stop. (IsRefusal stop → MayRefuse (start_read file known s.tells)))
      → IfErr output (IsServeStop file known s.tells (Rises s.faults s'.faults)
      (Rises link.open_faults link'.open_faults listen ⊎ Rose link.accept_faults link'.accept_faults))
      → IfErr output (λ stop. (IsUnread stop → link' ≡ link))
      → IfErr output (λ stop. GaveAllBack end_sides.left end_sides.held end_sides.reads end_sides.read_faults end_sides.write_faults experts link.ends link'.ends
      (stop ≡ ListenerFault))
      → UnlessReadFault output (SameCounts s.faults s'.faults)
      → RoseAtMost s.fetches s'.fetches (length (file ∷ option_to_list known))
      → UnlessListenerFault output (SameCounts link.open_faults link'.open_faults)
      → UnlessListenerFault output (link'.accept_faults ≡ link.accept_faults)
      → ComesTo end_sides (Serve file known experts holders listen) (outside s input link) (outside s' input link') output
  serve-comes file known experts holders listen output answers listening refuses causes unread back quiet few quiet_open quiet_accept =
      let command : Command = Serve file known experts holders listen in
      let old : Outside H S D E = outside s input link in
      let new : Outside H S D E = outside s' input link' in
      let reading : Reading Start = start_read file known s.tells in
      let Refuses : Stop → Type 0 = λ stop. (IsRefusal stop → MayRefuse (read_by command old)) in
      let refusals : IfErr output Refuses =
      IfErr-weaker output (λ stop. (IsRefusal stop → MayRefuse reading)) Refuses
      (λ stop may. λ refusal. refused_then reading (λ _. Read tt) (may refusal)) refuses in
      let blames : IfErr output (IsBlamed (FaultRose command old new) (LinkFaultRose command old new)) =
      IfErr-weaker output (IsCommandStop command old new) (IsBlamed (FaultRose command old new) (LinkFaultRose command old new))
      (λ stop is. stop-blamed command old new stop is) causes in
      let Serves : Output → Type 0 = MayServe end_sides.left end_sides.held end_sides.reads end_sides.read_faults end_sides.write_faults reading experts holders
      link.ends link'.ends in
      record {
        allowed = answers;
        ending = IfOk-weaker output Serves (λ output. MayEndWith command output.ending)
            (λ output serve. serve-ends end_sides file known listen reading experts holders link.ends link'.ends output serve) answers;
        course = IfOk-weaker output Serves (λ output. HasCourse command s.tells input.bytes output.text)
            (λ output serve. serve-tells end_sides reading experts holders link.ends link'.ends output serve) answers;
        cause = causes;
        refused = refusals;
        counts = record {
          blamed = blames;
          quiet = quiet_with output old new quiet (unless_fault output (input.faults ≡ input.faults) refl) quiet_open quiet_accept;
          few_fetches = few;
        };
        complete = λ given. given-comes (read_by command old) (FaultRose command old new)
            (LinkFaultRose command old new) output blames refusals given;
        read_to_end = λ reads. cc;
        input_kept = λ _. refl;
        link_kept = λ unused. cc;
        unheard = IfErr-weaker output (λ stop. (IsUnread stop → link' ≡ link))
            (λ stop. (IsUnread stop → link' ≡ link) × (IsOfFile stop → input ≡ input)) (λ stop same. (same, λ _. refl)) unread;
        listens = listening;
        given_back = serve-back end_sides reading experts holders link.ends link'.ends output answers back;
      }

-- ---- a survey

module _ {H S D E : Type 0} (end_sides : Sides E) (s : ShelfMoment H) (input : Moment S) (link : LinkMoment D E) where
  pub survey-comes : (r : Recipe) (experts : ℕ) (output : Result Output Stop) → IfOk output (λ output. output ≡ survey_output r)
      → IfErr output (λ stop. stop ≡ Memory)
      → ComesTo end_sides (Survey r.seed r.objects r.attributes r.density experts) (outside s input link) (outside s input link) output
  survey-comes r experts output answers causes =
      let command : Command = Survey r.seed r.objects r.attributes r.density experts in
      let old : Outside H S D E = outside s input link in
      let Refuses : Stop → Type 0 = λ stop. (IsRefusal stop → MayRefuse (read_by command old)) in
      let refusals : IfErr output Refuses = IfErr-weaker output (λ stop. stop ≡ Memory) Refuses
      (λ stop memory. λ refusal. absurd (subst IsRefusal memory refusal)) causes in
      let blames : IfErr output (IsBlamed (FaultRose command old old) (LinkFaultRose command old old)) =
      IfErr-weaker output (λ stop. stop ≡ Memory) (IsBlamed (FaultRose command old old) (LinkFaultRose command old old))
      (λ stop is. stop-blamed command old old stop is) causes in
      record {
        allowed = answers;
        ending = IfOk-weaker output (λ output. output ≡ survey_output r) (λ output. MayEndWith command output.ending)
            (λ output is. finished-ends command output.ending (ap (λ (o : Output). o.ending) is)) answers;
        course = any-ok output (Unit {0}) tt;
        cause = causes;
        refused = refusals;
        counts = record { blamed = blames; quiet = quiet_same output old; few_fetches = fetched_none s.fetches 0 };
        complete = λ given. given-comes (read_by command old) (FaultRose command old old)
            (LinkFaultRose command old old) output blames refusals given;
        read_to_end = λ reads. cc;
        input_kept = λ _. refl;
        link_kept = λ _. refl;
        unheard = IfErr-any output (λ stop. (IsUnread stop → link ≡ link) × (IsOfFile stop → input ≡ input)) (λ stop. (λ _. refl, λ _. refl));
        listens = any-ok output (Unit {0}) tt;
        given_back = tt;
      }

-- ---- an input that is not read

module _ {H S D E : Type 0} (end_sides : Sides E) (s s' : ShelfMoment H) (input : Moment S) (link link' : LinkMoment D E)
    (output : Result Output Stop) where
  -- a command that waits does not read it
  pub unread-input : (command : Command) → waits_for_nobody command ≡ false
      → ComesTo end_sides command (outside s no_input link) (outside s' no_input link') output
      → ComesTo end_sides command (outside s input link) (outside s' input link') output
  unread-input (Concepts file json) waits comes = cc
  unread-input (Lattice file) waits comes = cc
  unread-input (Basis file json) waits comes = cc
  unread-input (Direct file) waits comes = cc
  unread-input (Follows file premise conclusion) waits comes = cc
  unread-input (Convert file to) waits comes = cc
  unread-input (Reduce file) waits comes = cc
  unread-input (Arrows file) waits comes = cc
  unread-input (Scale values plan) waits comes = cc
  unread-input (Replay file known) waits comes = cc
  unread-input (Make seed objects attributes density) waits comes = cc
  unread-input command waits comes =
      let old : Outside H S D E = outside s input link in
      let new : Outside H S D E = outside s' input link' in
      let blames : IfErr output (IsBlamed (FaultRose command old new) (LinkFaultRose command old new)) =
      IfErr-weaker output (IsCommandStop command old new) (IsBlamed (FaultRose command old new) (LinkFaultRose command old new))
      (λ stop is. stop-blamed command old new stop is) comes.cause in
      record {
        allowed = comes.allowed;
        ending = comes.ending;
        course = comes.course;
        cause = comes.cause;
        refused = comes.refused;
        counts = record {
          blamed = blames;
          quiet = quiet_with output old new comes.counts.quiet.files (unless_fault output (input.faults ≡ input.faults) refl)
              comes.counts.quiet.addresses comes.counts.quiet.accepting;
          few_fetches = comes.counts.few_fetches;
        };
        complete = λ given. given-comes (read_by command old) (FaultRose command old new)
            (LinkFaultRose command old new) output blames comes.refused given;
        read_to_end = λ reads. cc;
        input_kept = λ _. refl;
        link_kept = comes.link_kept;
        unheard = IfErr-weaker output _ _ (λ stop same. (same.0, λ _. refl)) comes.unheard;
        listens = comes.listens;
        given_back = comes.given_back;
      }

-- ---- commands that wait for nobody

module _ {H S : Type 0} (s s' : ShelfMoment H) (input input' : Moment S) (output : Result Output Stop) where
  -- what there is without a link
  abbrev before : Outside H S (Unit {0}) (Unit {0})
  before = outside s input unlinked

  abbrev behind : Outside H S (Unit {0}) (Unit {0})
  behind = outside s' input' unlinked

  -- the same of each of them
  plainly : (command : Command) → waits_for_nobody command ≡ true
      → IfOk output (MayRead (command_output command s.tells input.bytes))
      → IfOk output (λ output. MayEndWith command output.ending)
      → IfOk output (λ output. HasCourse command s.tells input.bytes output.text)
      → IfErr output (IsCommandStop command before behind)
      → IfErr output (λ stop. (IsRefusal stop → MayRefuse (then {Y = Unit {0}} (command_output command s.tells input.bytes) (λ _. Read tt))))
      → IfErr output (IsBlamed (FaultRose command before behind) ⊥)
      → (IsGiven (then {Y = Unit {0}} (command_output command s.tells input.bytes) (λ _. Read tt))
      → IfErr output (λ stop. (stop ≡ Memory) ⊎ (FaultRose command before behind ⊎ ⊥)))
      → (reads_input command ≡ true → OnOk output (IsAtEnd input'.bytes))
      → (reads_input command ≡ false → input' ≡ input)
      → IfErr output (λ stop. (IsOfFile stop → input' ≡ input))
      → IsQuiet output before behind
      → RoseAtMost s.fetches s'.fetches (length (files_of command))
      → ComesTo no_sides command before behind output
  plainly (Explore file known names experts) plain answers ends courses causes refuses blames completes at_end kept unread quiet few = cc
  plainly (Serve file known experts holders listen) plain answers ends courses causes refuses blames completes at_end kept unread quiet few = cc
  plainly (Survey seed objects attributes density experts) plain answers ends courses causes refuses blames completes at_end kept unread
      quiet few = cc
  plainly _ plain answers ends courses causes refuses blames completes at_end kept unread quiet few = record {
    allowed = answers;
    ending = ends;
    course = courses;
    cause = causes;
    refused = refuses;
    counts = record { blamed = blames; quiet = quiet; few_fetches = few };
    complete = completes;
    read_to_end = at_end;
    input_kept = kept;
    link_kept = λ _. refl;
    unheard = IfErr-weaker output (λ stop. (IsOfFile stop → input' ≡ input)) _ (λ stop same. (λ _. refl, same)) unread;
    listens = any-ok output (Unit {0}) tt;
    given_back = tt;
  }

  plain-unlinked : (command : Command) (R : Type 0) (stop : Stop) → waits_for_nobody command ≡ true
      → IsBlamed R (LinkFaultRose command before behind) stop → IsBlamed R ⊥ stop
  plain-unlinked (Explore file known names experts) R stop plain blamed = cc
  plain-unlinked (Serve file known experts holders listen) R stop plain blamed = cc
  plain-unlinked (Survey seed objects attributes density experts) R stop plain blamed = cc
  plain-unlinked _ R stop plain blamed = blamed

  pub plain-comes : (command : Command) → waits_for_nobody command ≡ true
      → IfOk output (MayRead (command_output command s.tells input.bytes))
      → IfOk output (λ output. MayEndWith command output.ending)
      → IfOk output (λ output. HasCourse command s.tells input.bytes output.text)
      → IfErr output (IsCommandStop command before behind)
      → IfErr output (λ stop. (IsRefusal stop → MayRefuse (command_output command s.tells input.bytes)))
      → (reads_input command ≡ true → OnOk output (IsAtEnd input'.bytes))
      → (reads_input command ≡ false → input' ≡ input)
      → IfErr output (λ stop. (IsOfFile stop → input' ≡ input))
      → UnlessReadFault output (SameCounts s.faults s'.faults)
      → UnlessReadFault output (input'.faults ≡ input.faults)
      → RoseAtMost s.fetches s'.fetches (length (files_of command))
      → ComesTo no_sides command before behind output
  plain-comes command plain answers ends courses causes refuses at_end kept unread quiet quiet_input few =
      let R : Type 0 = FaultRose command before behind in
      let reading : Reading (Unit {0}) = then (command_output command s.tells input.bytes) (λ _. Read tt) in
      let Refuses : Stop → Type 0 = λ stop. (IsRefusal stop → MayRefuse reading) in
      let refusals : IfErr output Refuses =
      IfErr-weaker output (λ stop. (IsRefusal stop → MayRefuse (command_output command s.tells input.bytes))) Refuses
      (λ stop may. λ refusal. refused_then (command_output command s.tells input.bytes) (λ _. Read tt) (may refusal)) refuses in
      let blames : IfErr output (IsBlamed R ⊥) =
      IfErr-weaker output (IsCommandStop command before behind) (IsBlamed R ⊥)
      (λ stop is. plain-unlinked command R stop plain (stop-blamed command before behind stop is)) causes in
      plainly command plain answers ends courses causes refusals blames
      (λ given. given-comes reading R ⊥ output blames refusals given) at_end kept unread
      (quiet_with output before behind quiet quiet_input
      (unless_listener output (SameCounts before.link.open_faults behind.link.open_faults) (λ _. refl))
      (unless_listener output (behind.link.accept_faults ≡ before.link.accept_faults) refl))
      few

  -- a link that is there is left as it was
  module _ {D E : Type 0} (end_sides : Sides E) (link : LinkMoment D E) where
    pub plain-linked : (command : Command) → waits_for_nobody command ≡ true → ComesTo no_sides command before behind output
        → ComesTo end_sides command (outside s input link) (outside s' input' link) output
    plain-linked (Explore file known names experts) plain comes = cc
    plain-linked (Serve file known experts holders listen) plain comes = cc
    plain-linked (Survey seed objects attributes density experts) plain comes = cc
    plain-linked _ plain comes = record {
      allowed = comes.allowed;
      ending = comes.ending;
      course = comes.course;
      cause = comes.cause;
      refused = comes.refused;
      counts = record {
        blamed = comes.counts.blamed;
        quiet = quiet_with output (outside s input link) (outside s' input' link) comes.counts.quiet.files comes.counts.quiet.input
            (unless_listener output (SameCounts link.open_faults link.open_faults) (λ _. refl))
            (unless_listener output (link.accept_faults ≡ link.accept_faults) refl);
        few_fetches = comes.counts.few_fetches;
      };
      complete = comes.complete;
      read_to_end = comes.read_to_end;
      input_kept = comes.input_kept;
      link_kept = λ _. refl;
      unheard = IfErr-weaker output _ _ (λ stop same. (λ _. refl, same.1)) comes.unheard;
      listens = any-ok output (Unit {0}) tt;
      given_back = tt;
    }

-- ---- want of memory for the words

module _ {H S D E : Type 0} (end_sides : Sides E) (old : Outside H S D E) where
  memory-causes : (command : Command) → IsCommandStop command old old Memory
  memory-causes (Scale values plan) = inl tt
  memory-causes (Replay file known) = inl (inl tt)
  memory-causes (Explore file known names experts) = inl (inl tt)
  memory-causes (Serve file known experts holders listen) = inl (inl tt)
  memory-causes (Make seed objects attributes density) = refl
  memory-causes (Survey seed objects attributes density experts) = refl
  memory-causes _ = inl tt

  -- no end was accepted and none given back
  memory-back : (command : Command) → HasGivenBack end_sides command old.link old.link (Err Memory)
  memory-back (Serve file known experts holders listen) = record {
    before = [];
    after = [];
    ends = TookAndGave-none old.link.ends;
    talked = inl refl;
    few = omega arith;
    fewer = λ failed. cc;
  }
  memory-back _ = tt

  memory-comes : (command : Command) → ComesTo end_sides command old old (Err Memory)
  memory-comes command = record {
    allowed = tt;
    ending = tt;
    course = tt;
    cause = memory-causes command;
    refused = λ refusal. absurd refusal;
    counts = record {
      blamed = tt;
      quiet = quiet_same (Err Memory) old;
      few_fetches = fetched_none old.shelf.fetches (length (files_of command));
    };
    complete = λ given. inl refl;
    read_to_end = λ reads. tt;
    input_kept = λ _. refl;
    link_kept = λ _. refl;
    unheard = (λ _. refl, λ _. refl);
    listens = tt;
    given_back = memory-back command;
  }

  pub call-memory : (call : Option Command) → CallComesTo end_sides call old old (Err Memory)
  call-memory None = (inr refl, refl)
  call-memory (Some command) = memory-comes command

-- ---- what is done with it

-- two streams, of which the second got the line of what became of this
module _ {K F : Type 0} (output : Result Output Stop) (out out' : Moment K) (err err' : Moment F) (result : ℕ) where
  -- names that agree on what came
  relined : (f g : Stop → Text) → ((outcome : Outcome) → MayBecome output outcome → line_of f outcome ≡ line_of g outcome)
      → HasConcluded output f out out' err err' result → HasConcluded output g out out' err err' result
  relined f g same concluded = record {
    outcome = concluded.outcome;
    became = concluded.became;
    status = concluded.status;
    text = concluded.text;
    line = (let Gains : Option Text → Type 0 = λ line. GainsLine line err err' in
        subst Gains (same concluded.outcome concluded.became) concluded.line);
  }

line-named : (name : Text) (file : Stop → Text) (output : Result Output Stop) (outcome : Outcome) → IfErr output (λ stop. name ≡ file stop)
    → MayBecome output outcome
    → line_of (λ _. name) outcome ≡ line_of file outcome
line-named name file output (Written written) named became = refl
line-named name file output (CutOff written) named became = refl
line-named name file (Ok output) (Stopped stop) named (inl became) = cc
line-named name file (Ok output) (Stopped stop) named (inr became) = cc
line-named name file (Err other) (Stopped stop) named became =
    let same : other ≡ stop = cc in
    let P : Stop → Type 0 = λ t. name ≡ file t in
    ap (λ f. Some (stop_line f stop)) (subst P same named)

line-memory : (f g : Stop → Text) (outcome : Outcome) → outcome ≡ Stopped Memory → line_of f outcome ≡ line_of g outcome
line-memory f g outcome e = ap (line_of f) e ∙ sym (ap (line_of g) e)

module _ {K F : Type 0} (out out' : Moment K) (err err' : Moment F) (result : ℕ) where
  -- the name of the file at fault, if one is
  pub concluded-named : (name : Text) (file : Stop → Text) (output : Result Output Stop) → IfErr output (λ stop. name ≡ file stop)
      → HasConcluded output (λ _. name) out out' err err' result → HasConcluded output file out out' err err' result
  concluded-named name file output named concluded =
      relined output out out' err err' result (λ _. name) file
      (λ outcome became. line-named name file output outcome named became) concluded

  -- the line of want of memory has no name
  pub concluded-memory : (f g : Stop → Text) → HasConcluded (Err Memory) f out out' err err' result
      → HasConcluded (Err Memory) g out out' err err' result
  concluded-memory f g concluded = relined (Err Memory) out out' err err' result f g
      (λ outcome became. line-memory f g outcome became) concluded

-- ---- commands that report on the table in a file do not explore, and do not read the input

pub course-report_file : (command : Command) (files : Text → Told) (input : Option Text) (file text : Text)
    → report_file command ≡ Some file → HasCourse command files input text
course-report_file (Replay f known) files input file text e = cc
course-report_file (Explore f known names experts) files input file text e = cc
course-report_file (Serve f known experts holders listen) files input file text e = cc
course-report_file _ files input file text e = tt

pub reads_input-report_file : (command : Command) (file : Text) → report_file command ≡ Some file → reads_input command ≡ false
reads_input-report_file (Replay f known) file e = cc
reads_input-report_file _ file e = refl

-- ---- the file at fault

one_file : (file : Text) (origin : Origin) → file_from file None [] origin ≡ file
one_file file File = refl
one_file file Known = refl
one_file file (Later place) = refl
one_file file Input = refl

-- whether the command may read a file behind its first
abbrev pub reads_more : Command → Bool
reads_more (Scale values plan) = true
reads_more (Replay file known) = true
reads_more (Explore file known names experts) = true
reads_more (Serve file known experts holders listen) = true
reads_more _ = false

-- where it reads no other, the file at fault is its first
pub command_file_at_fault-one : (command : Command) → reads_more command ≡ false → (stop : Stop)
    → command_file_at_fault (Some command) stop ≡ first_file_of (files_of command)
command_file_at_fault-one (Scale values plan) one stop = cc
command_file_at_fault-one (Replay file known) one stop = cc
command_file_at_fault-one (Explore file known names experts) one stop = cc
command_file_at_fault-one (Serve file known experts holders listen) one stop = cc
command_file_at_fault-one _ one stop = one_file _ (stop_origin stop)
