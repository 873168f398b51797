use Rattle.std.proofs.Common.{rules}
use Rattle.std.proofs.lemmas.List.Sorted.{IsPartitionPoint-from_clause}
use Rattle.level_queue.proofs.PlaceLemmas.{comes_before, partitioned_questions, place_for}
use Rattle.level_queue.proofs.question_list.first_question.Goals as goal

pub returns : goal.returns
returns c =
    let point = IsPartitionPoint-from_clause (comes_before c.args.premise.now) c.args.questions.now _ c.partition_point.ensures.partitioned
    (partitioned_questions c.args.premise.now c.args.questions.now c.requires) (λ a r f k. search rules) in
    place_for c.args.premise.now c.args.questions.now _ c.partition_point.ensures.bound point.0 point.1
