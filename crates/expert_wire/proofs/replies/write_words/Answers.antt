use Rattle.expert_wire.proofs.replies.write_words.Goals as goal

pub returns : goal.returns
returns g c = c.write_parts.ensures
