use Rattle.basis_report.proofs.VerdictLemmas.{sound_in_range}
use Rattle.basis_report.proofs.verdicts.derivation_of.Goals as goal

pub returns-clause-in_range : goal.returns-clause-in_range
returns-clause-in_range c = sound_in_range c.args.list.now.members c.args.c.now c.in-Some.derivation c.args.p.now
    (rw c.in-Some.is at c.in_ok-derivation.ensures.sound)
