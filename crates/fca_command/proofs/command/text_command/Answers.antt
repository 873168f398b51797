use Rattle.std.proofs.Common.{◌≡◌, Option, sym, subst}
use Rattle.std.specs.Prelude.{IfOk}
use Rattle.fca_command.specs.declared.command.Command.{Command}
use Rattle.fca_command.proofs.WordLemmas.{text_command-first}
use Rattle.fca_command.proofs.command.text_command.Goals as goal

pub returns-in-len1-up-clause-command : goal.returns-in-len1-up-clause-command
returns-in-len1-up-clause-command c =
    let P : Option Command → Type 0 = λ x. IfOk c.named_command.result (λ command. command ≡ x) in
    subst P (sym (text_command-first c.args.words.now c.name-item.result c.in-len1-up.len_at_least c.name-item.is))
    (rw c.bytes.ensures at c.named_command.ensures.command)
