use Rattle.next_level.proofs.search.SideBySideWalker.walk.Goals as goal

pub returns-then-pays-clause-listed : goal.returns-then-pays-clause-listed
returns-then-pays-clause-listed g t = t.in_ok-all.ensures.listed
