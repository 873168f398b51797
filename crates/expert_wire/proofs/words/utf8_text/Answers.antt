use Rattle.expert_wire.proofs.WordLemmas.{utf8_ok}
use Rattle.expert_wire.proofs.words.utf8_text.Goals as goal

pub returns : goal.returns
returns c = rw c.ok.ensures.value (utf8_ok _ c.args.bytes.now c.from_utf8.result c.from_utf8.ensures.cases)
