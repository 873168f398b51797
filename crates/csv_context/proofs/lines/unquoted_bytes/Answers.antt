use Rattle.csv_context.proofs.LineLemmas.{unquoted-text}
use Rattle.csv_context.proofs.lines.unquoted_bytes.Goals as goal

pub returns-in-None-clause-unquoted : goal.returns-in-None-clause-unquoted
returns-in-None-clause-unquoted c = unquoted-text c.as_bytes.result.now c.without_bom-bytes.result.now c.as_bytes.ensures.utf8
    c.without_bom-bytes.ensures c.in-None.ensures
