use Rattle.std.proofs.Common.{◌∙◌, sym, arith}
use Rattle.explore_state.proofs.HolderLemmas.{holders_counted, holders_skipped}
use Rattle.explore_state.proofs.held.other_holders.Goals as goal
use Rattle.explore_state.proofs.held.other_holders.Goals.{then-is_other, else-is_other}

pub loop-hold-preserved : goal.loop-hold-preserved
loop-hold-preserved c =
    let before = c.loop-hold.invariant.0 in
    let few = c.loop-hold.invariant.1 in
    elim c.if-is_other.branch [
      | then-is_other w ↦
          let more = holders_counted c.args.expert c.loop-hold.hold-index c.args.premise.now c.args.held.now c.hold-item.result
          c.loop-hold-test.true c.hold-item.is (sym c.is_other.ensures ∙ w.if-is_other.true) in
          let next = w.count-is in
          (omega arith, omega arith)
      | else-is_other w ↦
          let more = holders_skipped c.args.expert c.loop-hold.hold-index c.args.premise.now c.args.held.now c.hold-item.result
          c.loop-hold-test.true c.hold-item.is (sym c.is_other.ensures ∙ w.if-is_other.false) in
          let next = w.count-is in
          (omega arith, omega arith)
    ]
