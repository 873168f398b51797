use Rattle.command_io.specs.Readings.{SameCounts}
use Rattle.command_io.proofs.QuietLemmas.{unless_fault, fault-taken}
use Rattle.command_io.proofs.fetch.fetch_file.Goals as goal

pub returns-in-Err-clause-quiet : goal.returns-in-Err-clause-quiet
returns-in-Err-clause-quiet g c =
    fault-taken c.in-Err.taken c.args.origin c.taken_stop.result
    (SameCounts (g.H.Shelf.faults c.args.shelf.now) (g.H.Shelf.faults c.fetch.new.self)) c.taken_stop.ensures c.in-Err.ensures.quiet

pub returns-in-Ok-clause-quiet : goal.returns-in-Ok-clause-quiet
returns-in-Ok-clause-quiet g c = c.in-Ok.ensures.quiet (λ e. cc)
