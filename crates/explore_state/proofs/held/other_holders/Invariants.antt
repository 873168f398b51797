use Rattle.std.proofs.Common.{◌≡◌, ◌≤◌, take}
use Rattle.fca_model.specs.Exploration.{holders_of, given_back}
use Rattle.explore_state.proofs.held.other_holders.Given as goal

abbrev pub invariant-loop-hold : goal.invariant-loop-hold
invariant-loop-hold l = (l.count ≡ holders_of l.premise (given_back l.expert (take l.hold-index l.held))) × (l.count ≤ l.hold-index)
