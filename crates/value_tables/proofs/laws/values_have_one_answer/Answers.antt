use Rattle.value_tables.specs.Form.{values_form}
use Rattle.value_tables.specs.declared.ValuesFault.TheVariants as fault
use Rattle.text_pieces.proofs.TellingLemmas.{one_answer}
use Rattle.value_tables.proofs.laws.values_have_one_answer.Goals as goal

pub returns : goal.returns
returns c = λ bytes. one_answer fault.Memory (values_form bytes)
