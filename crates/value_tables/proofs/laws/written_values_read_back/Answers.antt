use Rattle.value_tables.proofs.ReadBack.{values_form-values_text}
use Rattle.value_tables.proofs.laws.written_values_read_back.Goals as goal

pub returns : goal.returns
returns c = values_form-values_text
