use Rattle.expert_panel.proofs.AttendLemmas.{IsAttending}
use Rattle.expert_panel.proofs.attend.attend.Given as goal

abbrev pub invariant-loop : goal.invariant-loop
invariant-loop g l =
    (goal.iterator-loop g).can_next l.iterator' × (goal.iterator-loop g).is_finite l.iterator'
    × IsAttending g.X.Expert.width g.X.Expert.memory g.X.Expert.answers g.X.Expert.learns l.gate.base l.fn.pass l.fn.expert l.due l.pass
    l.expert
