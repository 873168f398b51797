use Rattle.std.proofs.Common.{ap, ◌∙◌}
use Rattle.std.specs.Str.{is_utf8}
use Rattle.fca_command.proofs.TextLemmas.{is_ok-from_utf8}
use Rattle.fca_command.proofs.command.is_text.Goals as goal

pub returns : goal.returns
returns c = c.is_ok.ensures.value ∙ is_ok-from_utf8 _ c.bytes.result.now c.from_utf8.result c.from_utf8.ensures.cases
    ∙ ap is_utf8 c.bytes.ensures
