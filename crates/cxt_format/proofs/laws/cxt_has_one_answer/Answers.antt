use Rattle.text_pieces.proofs.TellingLemmas.{one_answer}
use Rattle.cxt_format.specs.Form.{cxt_form}
use Rattle.cxt_format.specs.declared.CxtFault.TheVariants as fault
use Rattle.cxt_format.proofs.laws.cxt_has_one_answer.Goals as goal

pub returns : goal.returns
returns c = λ bytes. one_answer fault.Memory (cxt_form bytes)
