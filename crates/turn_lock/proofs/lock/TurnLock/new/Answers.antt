use Rattle.std.proofs.Common.{◌≡◌, map, All, arith}
use Rattle.turn_lock.specs.Passes.{badge, roll, Belongs}
use Rattle.turn_lock.proofs.ClosingLemmas.{if_ok_both, roll-belongs}
use Rattle.turn_lock.proofs.lock.TurnLock.new.Goals as goal

pub returns-clause-belong : goal.returns-clause-belong
returns-clause-belong g c =
    let some_passes = c.requires.count.0 in
    if_ok_both (λ r. (r.0.base ≡ g.V.Logged.base c.args.value) × (r.0.turns ≡ c.args.turns) × (r.0.passes ≡ c.args.passes))
    (λ r. map badge r.1.items ≡ roll r.0) (λ r. All (Belongs r.0) r.1.items) c.make.result
    (λ x lock passes. let is = lock.2 in roll-belongs x.0 x.1.items (omega arith) passes) c.make.ensures.lock c.make.ensures.passes
