use Rattle.std.proofs.Common.{append_assoc}
use Rattle.expert_wire.proofs.WriteLemmas.{Writes-equal}
use Rattle.expert_wire.proofs.replies.write_row.Goals as goal

pub returns : goal.returns
returns g c = Writes-equal (simp append_assoc) c.write_parts.ensures
