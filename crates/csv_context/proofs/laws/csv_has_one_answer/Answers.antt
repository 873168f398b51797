use Rattle.text_pieces.proofs.TellingLemmas.{one_answer}
use Rattle.csv_context.specs.Form.{csv_form}
use Rattle.csv_context.specs.declared.CsvFault.TheVariants as fault
use Rattle.csv_context.proofs.laws.csv_has_one_answer.Goals as goal

pub returns : goal.returns
returns c = λ bytes. one_answer fault.Memory (csv_form bytes)
