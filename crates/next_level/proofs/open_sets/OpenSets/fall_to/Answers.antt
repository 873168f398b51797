use Rattle.std.proofs.Common.{ap, filter, leb, ◌∙◌}
use Rattle.fca_model.specs.Sets.{size}
use Rattle.next_level.proofs.NextLevelLemmas.{open_lower}
use Rattle.next_level.proofs.open_sets.OpenSets.fall_to.Goals as goal

pub returns-clause-listed : goal.returns-clause-listed
returns-clause-listed g c J K p h = c.in_ok-self.ensures ∙ ap (filter (λ i. leb (size i.premise) c.args.size)) c.deref.ensures.value
    ∙ open_lower J K c.args.self.now.bound c.args.size p c.args.self.now.members.items c.requires.small h
