use Rattle.std.proofs.Common.{Some}
use Rattle.command_io.specs.Streams.{moment}
use Rattle.fca_run.specs.Causes.{command_file_at_fault}
use Rattle.fca_run.proofs.CallLemmas.{concluded-named}
use Rattle.fca_run.proofs.call.conclude_command.Goals as goal

pub returns : goal.returns
returns g c =
    concluded-named (moment g.K.Sink.held g.K.Sink.faults c.args.out.now) (moment g.K.Sink.held g.K.Sink.faults c.conclude.new.out)
    (moment g.E.Sink.held g.E.Sink.faults c.args.err.now) (moment g.E.Sink.held g.E.Sink.faults c.conclude.new.err) c.conclude.result
    c.name_at_fault-file.result.now (command_file_at_fault (Some c.args.command.now))
    c.args.output c.name_at_fault-file.ensures c.conclude.ensures
