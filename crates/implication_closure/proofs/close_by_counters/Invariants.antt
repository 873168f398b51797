use Rattle.std.proofs.Common.{◌≡◌, ◌≤◌, ◌-◌, length, true}
use Rattle.fca_model.specs.Sets.{Set, size, within}
use Rattle.fca_model.specs.Implications.{respects_all}
use Rattle.implication_closure.specs.Closing.{Fired}
use Rattle.implication_closure.proofs.close_by_counters.Given as goal

abbrev pub invariant-loop-next : goal.invariant-loop-next
invariant-loop-next g l = record {
  wide : length l.closed ≡ length l.x;
  above : within l.x l.closed ≡ true;
  least : (T : Set) → within l.x T ≡ true → respects_all l.members T ≡ true → within l.closed T ≡ true;
  fired : Fired l.left l.members l.closed;
  room : length l.members ≤ length l.left;
}

abbrev pub decreases-loop-next : goal.decreases-loop-next
decreases-loop-next g l = length l.x - size l.closed
