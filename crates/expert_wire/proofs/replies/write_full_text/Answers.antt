use Rattle.expert_wire.proofs.WriteLemmas.{Writes-equal}
use Rattle.expert_wire.proofs.ListedLemmas.{full_text_parts}
use Rattle.expert_wire.proofs.replies.write_full_text.Goals as goal

pub returns : goal.returns
returns g c = Writes-equal (full_text_parts c.args.table.now.attributes c.args.words.now c.args.implication.now c.minus-gained.result
    c.minus-gained.ensures) c.write_parts.ensures
