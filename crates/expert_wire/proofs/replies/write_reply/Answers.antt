use Rattle.expert_wire.proofs.replies.write_reply.Goals as goal

pub returns-in-SupersededRow-clause-whole : goal.returns-in-SupersededRow-clause-whole
returns-in-SupersededRow-clause-whole g c = rw c.in-SupersededRow.is c.write_row-in-SupersededRow.ensures.whole
