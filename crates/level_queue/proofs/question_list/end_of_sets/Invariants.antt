use Rattle.std.proofs.Common.{◌≡◌, ◌≤◌, false}
use Rattle.std.specs.List.{AllWithin}
use Rattle.fca_model.specs.Sets.{within}
use Rattle.level_queue.proofs.question_list.end_of_sets.Given as goal

abbrev pub invariant-loop-place : goal.invariant-loop-place
invariant-loop-place l = record {
  from_on : l.fn.first ≤ l.place;
  up_to : l.place ≤ l.fn.end;
  passed : AllWithin (λ A. within A l.row ≡ false) l.sets l.place l.fn.end;
}
