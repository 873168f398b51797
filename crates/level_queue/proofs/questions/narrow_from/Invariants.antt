use Rattle.std.proofs.Common.{◌≡◌, ◌≤◌, ◌<◌, ◌-◌, true, get_or}
use Rattle.fca_model.specs.Sets.{within}
use Rattle.fca_model.specs.Implications.{Rule}
use Rattle.level_queue.proofs.PlaceLemmas.{IsNarrowing}
use Rattle.level_queue.proofs.questions.narrow_from.Given as goal

abbrev pub invariant-loop-place : goal.invariant-loop-place
invariant-loop-place l = record {
  from_on : l.fn.first ≤ l.place;
  narrowing : IsNarrowing l.row l.fn.list l.list l.kept l.end l.place;
  reached : (q : Rule) → l.fn.first < l.place → q ≡ get_or l.list (l.place - 1) q → within q.premise l.row ≡ true;
}

abbrev pub decreases-loop-place : goal.decreases-loop-place
decreases-loop-place l = l.place
