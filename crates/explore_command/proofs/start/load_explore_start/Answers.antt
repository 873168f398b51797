use Rattle.std.proofs.Common.{◌≡◌, ◌≤◌, ◌+◌, ◌++◌, ◌∷◌, ℕ, List, length, length-append, inr, refl, sym, ap, ◌∙◌, subst, arith}
use Rattle.std.specs.Prelude.{option_copied, option_to_list}
use Rattle.fca_model.specs.Exploration.{RowName}
use Rattle.fca_model.specs.Tables.{Text}
use Rattle.fca_model.specs.declared.TheConstants.{MAX_EXPERTS}
use Rattle.fca_io.specs.Faults.{RoseAtMost}
use Rattle.command_io.specs.Endings.{IsRefusal}
use Rattle.command_io.specs.Readings.{MayRead, MayRefuse, Rises, SameCounts}
use Rattle.command_io.specs.declared.stop.Stop.{Stop}
use Rattle.command_io.proofs.ErrLemmas.{err-passed}
use Rattle.command_io.proofs.FetchLemmas.{fetched_none, fetched_within, fetched_then}
use Rattle.command_io.proofs.KnownLemmas.{Rises-before}
use Rattle.command_io.proofs.QuietLemmas.{unless_fault, fault-later, fault-passed, SameCounts-then}
use Rattle.command_io.specs.Known.{start_of}
use Rattle.explore_command.specs.Starts.{ExploreStart, MayOpen, explore_read, IsExploreStop}
use Rattle.explore_command.proofs.NameLemmas.{may_open}
use Rattle.explore_command.proofs.StartLemmas.{explore-read, refused-explore, IsExpertsStop-same}
use Rattle.explore_command.proofs.start.load_explore_start.Goals as goal

pub returns-in_err-tables-clause-refused : goal.returns-in_err-tables-clause-refused
returns-in_err-tables-clause-refused g c =
    let known = option_copied c.args.known_file in
    let tells = g.H.Shelf.tells c.args.shelf.now in
    err-passed c.from_residual-in_err-tables.result c.in_err-tables.field-0.0
    (λ (s : Stop). (IsRefusal s → MayRefuse (explore_read c.args.file.now known c.args.wants_names c.args.files.now tells)))
    c.from_residual-in_err-tables.ensures.1
    (λ refusal. refused-explore c.args.file.now known c.args.wants_names c.args.files.now tells (g.H.Shelf.tells c.load_start.new.shelf)
    (start_of c.in_ok-start.start)
    c.in_ok-start.ensures.start c.in_ok-start.ensures.kept (c.in_err-tables.ensures.refused refusal))

pub returns-in_err-tables-clause-cause : goal.returns-in_err-tables-clause-cause
returns-in_err-tables-clause-cause g c =
    let known = option_copied c.args.known_file in
    let tells = g.H.Shelf.tells c.args.shelf.now in
    let now = g.H.Shelf.tells c.load_start.new.shelf in
    let counts = g.H.Shelf.faults c.args.shelf.now in
    let between = g.H.Shelf.faults c.load_start.new.shelf in
    let after = g.H.Shelf.faults c.load_expert_tables.new.shelf in
    let start = start_of c.in_ok-start.start in
    let stop = c.in_err-tables.field-0.0 in
    err-passed c.from_residual-in_err-tables.result stop
    (IsExploreStop c.args.file.now known c.args.files.now tells (Rises counts after)) c.from_residual-in_err-tables.ensures.1
    (inr (
      start,
      c.in_ok-start.ensures.start,
      IsExpertsStop-same start.table 0 c.args.files.now tells now (Rises between after)
          (Rises counts after) stop c.in_ok-start.ensures.kept
          (λ other. Rises-before counts between after other c.in_ok-start.ensures.only_rise) c.in_err-tables.ensures.cause,
    ))

pub explore_start_of-requires-clause-may : goal.explore_start_of-requires-clause-may
explore_start_of-requires-clause-may g c =
    let table = c.in_ok-start.start.table in
    let S = c.in_ok-start.start.known.members in
    let May : List (ℕ × RowName) → Type 0 = λ l. MayOpen table (record { known = S; holders = MAX_EXPERTS; expert_names = l }) in
    subst May (sym c.in_ok-names.ensures) (may_open table S c.args.wants_names c.args.files.now c.requires c.in_ok-start.ensures.even
    c.in_ok-start.ensures.respected)

pub returns-clause-start : goal.returns-clause-start
returns-clause-start g c =
    let table = c.in_ok-start.start.table in
    let S = c.in_ok-start.start.known.members in
    let made : List (ℕ × RowName) → ExploreStart = λ l. record {
      table = table;
      settings = record { known = S; holders = MAX_EXPERTS; expert_names = l };
      expert_tables = c.in_ok-tables.tables.items;
    } in
    let Read : ExploreStart → Type 0 = MayRead (explore_read c.args.file.now (option_copied c.args.known_file) c.args.wants_names
    c.args.files.now (g.H.Shelf.tells c.args.shelf.now)) in
    subst Read (sym (c.explore_start_of.ensures ∙ ap made c.in_ok-names.ensures))
    (explore-read c.args.file.now (option_copied c.args.known_file) c.args.wants_names c.args.files.now (g.H.Shelf.tells c.args.shelf.now)
    (g.H.Shelf.tells c.load_start.new.shelf) (start_of c.in_ok-start.start)
    c.in_ok-tables.tables.items c.in_ok-start.ensures.start c.in_ok-start.ensures.kept c.in_ok-tables.ensures.tables)

pub returns-in_err-names-clause-quiet : goal.returns-in_err-names-clause-quiet
returns-in_err-names-clause-quiet g c =
    unless_fault c.from_residual.result (SameCounts (g.H.Shelf.faults c.args.shelf.now) (g.H.Shelf.faults c.args.shelf.now)) (λ _. refl)

pub returns-in_err-start-clause-quiet : goal.returns-in_err-start-clause-quiet
returns-in_err-start-clause-quiet g c =
    fault-passed c.from_residual-in_err-start.result c.in_err-start.field-0.0
    (SameCounts (g.H.Shelf.faults c.args.shelf.now) (g.H.Shelf.faults c.load_start.new.shelf))
    c.from_residual-in_err-start.ensures.1 c.in_err-start.ensures.quiet

pub returns-in_err-tables-clause-quiet : goal.returns-in_err-tables-clause-quiet
returns-in_err-tables-clause-quiet g c =
    let counts = g.H.Shelf.faults c.args.shelf.now in
    let between = g.H.Shelf.faults c.load_start.new.shelf in
    let after = g.H.Shelf.faults c.load_expert_tables.new.shelf in
    fault-passed c.from_residual-in_err-tables.result c.in_err-tables.field-0.0
    (SameCounts counts after) c.from_residual-in_err-tables.ensures.1
    (fault-later c.in_err-tables.field-0.0 (SameCounts between after) (SameCounts counts after)
    (SameCounts-then counts between after c.in_ok-start.ensures.quiet) c.in_err-tables.ensures.quiet)

pub returns-clause-quiet : goal.returns-clause-quiet
returns-clause-quiet g c =
    SameCounts-then (g.H.Shelf.faults c.args.shelf.now) (g.H.Shelf.faults c.load_start.new.shelf)
    (g.H.Shelf.faults c.load_expert_tables.new.shelf) c.in_ok-start.ensures.quiet c.in_ok-tables.ensures.quiet

-- ---- counts of fetches

pub returns-in_err-names-clause-few : goal.returns-in_err-names-clause-few
returns-in_err-names-clause-few g c =
    fetched_none (g.H.Shelf.fetches c.args.shelf.now)
    (length (c.args.file.now ∷ option_to_list (option_copied c.args.known_file) ++ c.args.files.now))

pub returns-in_err-start-clause-few : goal.returns-in_err-start-clause-few
returns-in_err-start-clause-few g c =
    let files : List Text = c.args.file.now ∷ option_to_list (option_copied c.args.known_file) in
    let all = length-append files c.args.files.now in
    fetched_within (g.H.Shelf.fetches c.args.shelf.now) (g.H.Shelf.fetches c.load_start.new.shelf) (length files)
    (length (files ++ c.args.files.now)) (omega (arith, all)) c.in_err-start.ensures.few

pub returns-in_err-tables-clause-few : goal.returns-in_err-tables-clause-few
returns-in_err-tables-clause-few g c =
    let files : List Text = c.args.file.now ∷ option_to_list (option_copied c.args.known_file) in
    subst (RoseAtMost (g.H.Shelf.fetches c.args.shelf.now) (g.H.Shelf.fetches c.load_expert_tables.new.shelf))
    (sym (length-append files c.args.files.now))
    (fetched_then (g.H.Shelf.fetches c.args.shelf.now) (g.H.Shelf.fetches c.load_start.new.shelf)
    (g.H.Shelf.fetches c.load_expert_tables.new.shelf) (length files) (length c.args.files.now) c.in_ok-start.ensures.few
    c.in_err-tables.ensures.few)

pub returns-clause-few : goal.returns-clause-few
returns-clause-few g c =
    let files : List Text = c.args.file.now ∷ option_to_list (option_copied c.args.known_file) in
    subst (RoseAtMost (g.H.Shelf.fetches c.args.shelf.now) (g.H.Shelf.fetches c.load_expert_tables.new.shelf))
    (sym (length-append files c.args.files.now))
    (fetched_then (g.H.Shelf.fetches c.args.shelf.now) (g.H.Shelf.fetches c.load_start.new.shelf)
    (g.H.Shelf.fetches c.load_expert_tables.new.shelf) (length files) (length c.args.files.now) c.in_ok-start.ensures.few
    c.in_ok-tables.ensures.few)
