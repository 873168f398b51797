use Rattle.json_reports.proofs.WrittenLemmas.{concepts_json-written, basis_json-written}
use Rattle.json_reports.proofs.laws.json_is_written_out.Goals as goal

pub returns : goal.returns
returns c = record { concepts = concepts_json-written; basis = basis_json-written }
