use Rattle.std.proofs.Common.{◌≡◌}
use Rattle.command_io.specs.declared.stop.Origin.TheVariants.{Input}
use Rattle.command_io.proofs.QuietLemmas.{unless_fault, fault-taken}
use Rattle.command_io.proofs.ScriptLemmas.{stop-no-script}
use Rattle.command_io.proofs.readings.load_script.Goals as goal

pub returns-in-Err-clause-quiet : goal.returns-in-Err-clause-quiet
returns-in-Err-clause-quiet g c =
    fault-taken c.in-Err.taken Input c.taken_stop.result
    (g.S.Source.faults c.read_all.new.source ≡ g.S.Source.faults c.args.input.now) c.taken_stop.ensures c.in-Err.ensures.quiet

pub returns-clause-quiet : goal.returns-clause-quiet
returns-clause-quiet g c =
    unless_fault c.script_of.result (g.S.Source.faults c.read_all.new.source ≡ g.S.Source.faults c.args.input.now)
    (c.in-Ok.ensures.quiet (λ e. cc))

pub returns-in-Err-clause-refused_whole : goal.returns-in-Err-clause-refused_whole
returns-in-Err-clause-refused_whole g c = λ fault refused.
    absurd (stop-no-script c.in-Err.taken Input c.taken_stop.result fault c.taken_stop.ensures refused)
