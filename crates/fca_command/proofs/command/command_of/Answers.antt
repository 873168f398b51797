use Rattle.std.proofs.Common.{◌≡◌, ◌∙◌, Option, sym, subst}
use Rattle.std.specs.Prelude.{IfOk}
use Rattle.fca_command.specs.declared.command.Command.{Command}
use Rattle.fca_command.proofs.WordLemmas.{command_form-text}
use Rattle.fca_command.proofs.command.command_of.Goals as goal

pub returns-clause-command : goal.returns-clause-command
returns-clause-command c =
    let P : Option Command → Type 0 = λ x. IfOk c.text_command.result (λ command. command ≡ x) in
    subst P (sym (command_form-text c.args.words.now (sym c.are_text.ensures ∙ c.if-not-are_text.false))) c.text_command.ensures.command
