use Rattle.std.proofs.Common.{arith}
use Rattle.std.proofs.lemmas.Result.{on_ok_weaker}
use Rattle.lectic_basis.proofs.StepLemmas.{step_first}
use Rattle.lectic_basis.proofs.tree.visit_all.Goals as goal

pub visit_below-requires : goal.visit_below-requires
visit_below-requires g c =
    let first = c.in_ok-first-in-Some.ensures in
    let below = rw c.in-Some.is at c.in_ok-visit.ensures.below in (
      omega arith,
      (
        omega arith,
        (
          omega (arith, c.width-width.ensures.words),
          step_first c.in_ok-first-in-Some.first (rw (first.intent, first.from) below) first.end (rw first.intent first.extent)
              (rw first.intent first.forced),
        ),
      ),
    )

pub returns-in_ok-first-in-Some : goal.returns-in_ok-first-in-Some
returns-in_ok-first-in-Some g c =
    let first = c.in_ok-first-in-Some.ensures in
    on_ok_weaker c.visit_below.result (λ h. (rw c.in-Some.is at c.in_ok-visit.ensures.done) _ (rw (first.intent, first.from) at h))
    c.visit_below.ensures
