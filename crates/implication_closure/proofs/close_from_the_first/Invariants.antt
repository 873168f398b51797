use Rattle.std.proofs.Common.{◌≡◌, ◌-◌, length, true}
use Rattle.fca_model.specs.Sets.{Set, size, within}
use Rattle.fca_model.specs.Implications.{respects_all}
use Rattle.implication_closure.proofs.close_from_the_first.Given as goal

abbrev pub invariant-loop-i : goal.invariant-loop-i
invariant-loop-i g l = record {
  wide : length l.closed ≡ length l.x;
  above : within l.x l.closed ≡ true;
  least : (T : Set) → within l.x T ≡ true → respects_all l.members T ≡ true → within l.closed T ≡ true;
}

abbrev pub decreases-loop-i : goal.decreases-loop-i
decreases-loop-i g l = length l.x - size l.closed
