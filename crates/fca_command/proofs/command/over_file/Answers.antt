use Rattle.std.proofs.Common.{◌≡◌, Option, sym, subst}
use Rattle.std.specs.Prelude.{IfOk}
use Rattle.fca_command.specs.declared.command.Command.{Command}
use Rattle.fca_command.proofs.WordLemmas.{over_file-first}
use Rattle.fca_command.proofs.command.over_file.Goals as goal

pub returns-in-len1-up-clause-command : goal.returns-in-len1-up-clause-command
returns-in-len1-up-clause-command c =
    let P : Option Command → Type 0 = λ x. IfOk c.file_command.result (λ command. command ≡ x) in
    subst P (sym (over_file-first c.args.name.now c.args.words.now c.file-item.result c.in-len1-up.len_at_least c.file-item.is))
    c.file_command.ensures.command
