use Rattle.std.proofs.Common.{inl, inr, suc, arith}
use Rattle.std.specs.Prelude.{length, option_copied, option_to_list}
use Rattle.command_io.specs.Endings.{IsRefusal}
use Rattle.command_io.specs.Forms.{table_read}
use Rattle.command_io.specs.Known.{known_read, start_read, IsStartStop}
use Rattle.command_io.specs.Readings.{then, MayRefuse, Rises, SameCounts}
use Rattle.command_io.specs.Readings.Reading.{Read}
use Rattle.command_io.specs.declared.stop.Stop.{Stop}
use Rattle.command_io.proofs.ErrLemmas.{err-passed}
use Rattle.command_io.proofs.ReadingLemmas.{refused_then}
use Rattle.command_io.proofs.KnownLemmas.{Rises-before, IsKnownStop-same, start-read, refused-start}
use Rattle.command_io.proofs.QuietLemmas.{fault-later, fault-passed, SameCounts-then}
use Rattle.command_io.proofs.FetchLemmas.{fetched_one, fetched_within, fetched_next}
use Rattle.command_io.proofs.known.load_start.Goals as goal

pub returns-in_err-table-clause-refused : goal.returns-in_err-table-clause-refused
returns-in_err-table-clause-refused g c =
    let known = option_copied c.args.known_file in
    let tells = g.H.Shelf.tells c.args.shelf.now in
    err-passed c.from_residual.result c.in_err-table.field-0.0
    (λ (s : Stop). (IsRefusal s → MayRefuse (start_read c.args.file.now known tells))) c.from_residual.ensures.1
    (λ refusal. refused_then (table_read c.args.file.now (tells c.args.file.now))
    (λ table. then (known_read known table tells) (λ S. Read (record { table = table; known = S })))
    (c.in_err-table.ensures.refused refusal))

pub returns-in_err-table-clause-cause : goal.returns-in_err-table-clause-cause
returns-in_err-table-clause-cause g c =
    err-passed c.from_residual.result c.in_err-table.field-0.0
    (IsStartStop c.args.file.now (option_copied c.args.known_file) (g.H.Shelf.tells c.args.shelf.now)
    (Rises (g.H.Shelf.faults c.args.shelf.now) (g.H.Shelf.faults c.load_table.new.shelf)))
    c.from_residual.ensures.1 (inl c.in_err-table.ensures.cause)

pub returns-in_err-known-clause-refused : goal.returns-in_err-known-clause-refused
returns-in_err-known-clause-refused g c =
    let known = option_copied c.args.known_file in
    let tells = g.H.Shelf.tells c.args.shelf.now in
    err-passed c.from_residual-in_err-known.result c.in_err-known.field-0.0
    (λ (s : Stop). (IsRefusal s → MayRefuse (start_read c.args.file.now known tells))) c.from_residual-in_err-known.ensures.1
    (λ refusal. refused-start c.args.file.now known tells
    (g.H.Shelf.tells c.load_table.new.shelf) c.in_ok-table.table c.in_ok-table.ensures.table c.in_ok-table.ensures.kept
    (c.in_err-known.ensures.refused refusal))

pub returns-in_err-known-clause-cause : goal.returns-in_err-known-clause-cause
returns-in_err-known-clause-cause g c =
    let known = option_copied c.args.known_file in
    let stop = c.in_err-known.field-0.0 in
    let tells = g.H.Shelf.tells c.args.shelf.now in
    let counts = g.H.Shelf.faults c.args.shelf.now in
    let between = g.H.Shelf.faults c.load_table.new.shelf in
    let after = g.H.Shelf.faults c.load_known.new.shelf in
    err-passed c.from_residual-in_err-known.result stop
    (IsStartStop c.args.file.now known tells (Rises counts after)) c.from_residual-in_err-known.ensures.1
    (inr (
      c.in_ok-table.table,
      c.in_ok-table.ensures.table,
      IsKnownStop-same known c.in_ok-table.table tells (g.H.Shelf.tells c.load_table.new.shelf) (Rises between after)
          (Rises counts after) stop c.in_ok-table.ensures.kept
          (λ other. Rises-before counts between after other c.in_ok-table.ensures.only_rise) c.in_err-known.ensures.cause,
    ))

pub returns-clause-start : goal.returns-clause-start
returns-clause-start g c =
    start-read c.args.file.now (option_copied c.args.known_file) (g.H.Shelf.tells c.args.shelf.now)
    (g.H.Shelf.tells c.load_table.new.shelf) c.in_ok-table.table c.in_ok-known.known.members
    c.in_ok-table.ensures.table c.in_ok-table.ensures.kept c.in_ok-known.ensures.known

pub returns-in_err-table-clause-quiet : goal.returns-in_err-table-clause-quiet
returns-in_err-table-clause-quiet g c =
    fault-passed c.from_residual.result c.in_err-table.field-0.0
    (SameCounts (g.H.Shelf.faults c.args.shelf.now) (g.H.Shelf.faults c.load_table.new.shelf)) c.from_residual.ensures.1
    c.in_err-table.ensures.quiet

pub returns-in_err-known-clause-quiet : goal.returns-in_err-known-clause-quiet
returns-in_err-known-clause-quiet g c =
    let counts = g.H.Shelf.faults c.args.shelf.now in
    let between = g.H.Shelf.faults c.load_table.new.shelf in
    let after = g.H.Shelf.faults c.load_known.new.shelf in
    fault-passed c.from_residual-in_err-known.result c.in_err-known.field-0.0
    (SameCounts counts after) c.from_residual-in_err-known.ensures.1
    (fault-later c.in_err-known.field-0.0 (SameCounts between after) (SameCounts counts after)
    (SameCounts-then counts between after c.in_ok-table.ensures.quiet) c.in_err-known.ensures.quiet)

pub returns-clause-quiet : goal.returns-clause-quiet
returns-clause-quiet g c =
    SameCounts-then (g.H.Shelf.faults c.args.shelf.now) (g.H.Shelf.faults c.load_table.new.shelf)
    (g.H.Shelf.faults c.load_known.new.shelf) c.in_ok-table.ensures.quiet c.in_ok-known.ensures.quiet

-- ---- counts of fetches

pub returns-in_err-table-clause-few : goal.returns-in_err-table-clause-few
returns-in_err-table-clause-few g c =
    let later = length (option_to_list (option_copied c.args.known_file)) in
    fetched_within (g.H.Shelf.fetches c.args.shelf.now) (g.H.Shelf.fetches c.load_table.new.shelf) 1 (suc later) (omega arith)
    (fetched_one (g.H.Shelf.fetches c.args.shelf.now) (g.H.Shelf.fetches c.load_table.new.shelf) c.in_err-table.ensures.counted)

pub returns-in_err-known-clause-few : goal.returns-in_err-known-clause-few
returns-in_err-known-clause-few g c =
    fetched_next (g.H.Shelf.fetches c.args.shelf.now) (g.H.Shelf.fetches c.load_table.new.shelf) (g.H.Shelf.fetches c.load_known.new.shelf)
    (length (option_to_list (option_copied c.args.known_file))) c.in_ok-table.ensures.counted c.in_err-known.ensures.few

pub returns-clause-few : goal.returns-clause-few
returns-clause-few g c =
    fetched_next (g.H.Shelf.fetches c.args.shelf.now) (g.H.Shelf.fetches c.load_table.new.shelf) (g.H.Shelf.fetches c.load_known.new.shelf)
    (length (option_to_list (option_copied c.args.known_file))) c.in_ok-table.ensures.counted c.in_ok-known.ensures.few
