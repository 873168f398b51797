use Rattle.command_io.specs.Streams.{moment}
use Rattle.command_io.proofs.ErrLemmas.{writes-gain}
use Rattle.command_io.proofs.err_line.explain_in_words.Goals as goal

pub returns : goal.returns
returns g c =
    writes-gain (moment g.E.Sink.held g.E.Sink.faults c.args.err.now)
    (moment g.E.Sink.held g.E.Sink.faults c.write_plain.new.err) c.write_plain.result c.write_plain.ensures
