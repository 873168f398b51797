use Rattle.std.proofs.Common.{◌≡◌, ◌-◌, drop, ap, ◌∙◌, arith}
use Rattle.level_queue.proofs.PlaceLemmas.{not_moved}
use Rattle.level_queue.proofs.questions.move_up.Goals as goal

pub returns-else-place-first-clause-moved : goal.returns-else-place-first-clause-moved
returns-else-place-first-clause-moved c =
    let same : c.args.later - (c.args.end - c.args.first) ≡ c.args.first = omega arith in
    ap (λ m. drop m c.args.list.now) same ∙ not_moved c.args.list.now c.args.first c.args.end c.args.later c.requires.some c.requires.before
    same
