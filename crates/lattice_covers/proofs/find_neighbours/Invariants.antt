use Rattle.std.proofs.Common.{◌≡◌, ◌≤◌}
use Rattle.lattice_covers.specs.Neighbours.{IsLink}
use Rattle.lattice_covers.proofs.CandidateLemmas.{IsReached}
use Rattle.lattice_covers.proofs.find_neighbours.Given as goal

abbrev pub invariant-loop-i : goal.invariant-loop-i
invariant-loop-i g l = record {
  inside : l.i ≤ l.rows.width;
  link : IsLink l.rows l.link;
  intent : l.link.intent ≡ l.initial.link.intent;
  allowed : l.allowed ≡ l.settled;
  reached : IsReached l.rows l.initial.link.intent l.i l.settled l.neighbours.items;
}
