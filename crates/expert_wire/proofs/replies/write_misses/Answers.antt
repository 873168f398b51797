use Rattle.std.proofs.Common.{append_assoc}
use Rattle.expert_wire.proofs.WriteLemmas.{Writes-equal}
use Rattle.expert_wire.proofs.replies.write_misses.Goals as goal

pub returns : goal.returns
returns g c = Writes-equal (rw c.attribute_text.ensures (simp append_assoc)) c.write_parts.ensures
