use Rattle.command_io.specs.Streams.{moment}
use Rattle.command_io.proofs.ErrLemmas.{writes-gain}
use Rattle.command_io.proofs.err_line.explain_stop.Goals as goal

pub returns : goal.returns
returns g c =
    writes-gain (moment g.E.Sink.held g.E.Sink.faults c.args.err.now)
    (moment g.E.Sink.held g.E.Sink.faults c.write_stop.new.err) c.write_stop.result c.write_stop.ensures
