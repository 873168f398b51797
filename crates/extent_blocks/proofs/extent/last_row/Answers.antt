use Rattle.extent_blocks.proofs.RowLemmas.{meeting_full}
use Rattle.extent_blocks.proofs.extent.last_row.Goals as goal

pub returns-in-None : goal.returns-in-None
returns-in-None g c = meeting_full c.args.rows.now c.args.a.now c.full.result c.width.result c.full.ensures c.width.ensures.width
