-- Those still to come have the concepts of the jobs at their places.
use Rattle.std.proofs.Common.{◌≡◌, All, length}
use Rattle.std.specs.Vec.Iter.{into_iter_items}
use Rattle.table_texts.specs.Tops.{EachGathered}
use Rattle.table_texts.specs.Teams.{IsDone}
use Rattle.table_texts.proofs.teams.put_all.Given as goal

abbrev pub invariant-loop-done : goal.invariant-loop-done
invariant-loop-done g l = record {
  to_come : All (λ done. All (IsDone l.crosses l.jobs) done.items) (into_iter_items l.done-iterator);
  even : length l.gatherings ≡ length l.jobs;
  gatherings : EachGathered l.crosses l.gatherings l.jobs;
}
