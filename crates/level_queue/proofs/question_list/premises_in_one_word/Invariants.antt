use Rattle.std.proofs.Common.{◌≡◌, take}
use Rattle.fca_model.specs.Implications.{premises}
use Rattle.level_queue.proofs.question_list.premises_in_one_word.Given as goal

abbrev pub invariant-loop-question : goal.invariant-loop-question
invariant-loop-question l = l.sets.items ≡ premises (take l.question-index l.questions)
