use Rattle.fca_io.specs.Faults.{Rose}
use Rattle.command_io.specs.Endings.{IsRefusal}
use Rattle.expert_scripts.specs.Known.{known_form}
use Rattle.command_io.specs.Known.{implications_read, IsImplicationsStop}
use Rattle.command_io.specs.Readings.{formed, MayRefuse, SameCounts}
use Rattle.command_io.specs.declared.stop.Origin.TheVariants.{Known}
use Rattle.command_io.specs.declared.stop.Stop.{Stop}
use Rattle.command_io.proofs.ErrLemmas.{err-passed}
use Rattle.command_io.proofs.CauseLemmas.{fetch-refused, fetch-known_said}
use Rattle.command_io.proofs.QuietLemmas.{unless_fault, fault-passed}
use Rattle.command_io.proofs.known.load_implications.Goals as goal

pub returns-in_err-bytes-clause-refused : goal.returns-in_err-bytes-clause-refused
returns-in_err-bytes-clause-refused g c =
    let told = g.H.Shelf.tells c.args.shelf.now c.args.file.now in
    let rose = Rose (g.H.Shelf.faults c.args.shelf.now c.args.file.now) (g.H.Shelf.faults c.fetch_file.new.shelf c.args.file.now) in
    let stop = c.in_err-bytes.field-0.0 in
    err-passed c.from_residual.result stop (λ (s : Stop). (IsRefusal s → MayRefuse (implications_read c.args.n told)))
    c.from_residual.ensures.1
    (fetch-refused (λ bytes. formed (known_form bytes c.args.n)) told rose Known stop c.in_err-bytes.ensures.cause)

pub returns-in_err-bytes-clause-cause : goal.returns-in_err-bytes-clause-cause
returns-in_err-bytes-clause-cause g c =
    let told = g.H.Shelf.tells c.args.shelf.now c.args.file.now in
    let rose = Rose (g.H.Shelf.faults c.args.shelf.now c.args.file.now) (g.H.Shelf.faults c.fetch_file.new.shelf c.args.file.now) in
    let stop = c.in_err-bytes.field-0.0 in
    err-passed c.from_residual.result stop (IsImplicationsStop c.args.n told rose) c.from_residual.ensures.1
    (fetch-known_said c.args.n told rose stop c.in_err-bytes.ensures.cause)

pub returns-in_err-bytes-clause-quiet : goal.returns-in_err-bytes-clause-quiet
returns-in_err-bytes-clause-quiet g c =
    fault-passed c.from_residual.result c.in_err-bytes.field-0.0
    (SameCounts (g.H.Shelf.faults c.args.shelf.now) (g.H.Shelf.faults c.fetch_file.new.shelf)) c.from_residual.ensures.1
    c.in_err-bytes.ensures.quiet

pub returns-clause-quiet : goal.returns-clause-quiet
returns-clause-quiet g c =
    unless_fault c.implications_of.result (SameCounts (g.H.Shelf.faults c.args.shelf.now) (g.H.Shelf.faults c.fetch_file.new.shelf))
    c.in_ok-bytes.ensures.quiet
