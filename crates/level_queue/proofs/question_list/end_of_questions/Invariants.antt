use Rattle.std.proofs.Common.{◌≡◌, ◌≤◌, false}
use Rattle.std.specs.List.{AllWithin}
use Rattle.fca_model.specs.Sets.{within}
use Rattle.level_queue.proofs.question_list.end_of_questions.Given as goal

abbrev pub invariant-loop-place : goal.invariant-loop-place
invariant-loop-place l = record {
  from_on : l.fn.first ≤ l.place;
  up_to : l.place ≤ l.fn.end;
  passed : AllWithin (λ q. within q.premise l.row ≡ false) l.questions l.place l.fn.end;
}
