use Rattle.std.proofs.Common.{ap, ◌∙◌, ◌+◌, drop, length, arith}
use Rattle.std.specs.List.{remove}
use Rattle.level_queue.proofs.PlaceLemmas.{taken_out}
use Rattle.level_queue.proofs.questions.OpenQuestions.take_out.Goals as goal

pub returns : goal.returns
returns c =
    let a = c.self.inside in
    ap (drop (a.first + 1)) c.copy_within.ensures
    ∙ taken_out a.list a.first c.args.i c.self.invariant (omega (arith, c.requires, ap length c.self.view_is))
    ∙ ap (λ qs. remove qs c.args.i) c.self.view_is
