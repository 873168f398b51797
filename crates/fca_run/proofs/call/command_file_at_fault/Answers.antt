use Rattle.std.proofs.Common.{rules, ◌≡◌, ◌∙◌, false, sym}
use Rattle.fca_run.proofs.CallLemmas.{reads_more, command_file_at_fault-one}
use Rattle.fca_run.proofs.call.command_file_at_fault.Goals as goal

pub returns-in_default : goal.returns-in_default
returns-in_default c =
    let one : reads_more c.args.command.now ≡ false = search rules in
    c.first_file.ensures ∙ sym (command_file_at_fault-one c.args.command.now one c.args.stop.now)
