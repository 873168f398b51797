use Rattle.std.proofs.Common.{◌≡◌, ◌≤◌, get_or}
use Rattle.fca_model.specs.Implications.{Rule}
use Rattle.fca_model.specs.Exploration.{holders_of, given_back}
use Rattle.explore_state.specs.Fewest.{IsFewest}
use Rattle.explore_state.proofs.replies.place_of_fewest.Given as goal

abbrev pub invariant-loop-place : goal.invariant-loop-place
invariant-loop-place l = IsFewest (given_back l.expert l.held) l.questions l.place l.best
    × ((d : Rule) → l.fewest ≡ holders_of (get_or l.questions l.best d).premise (given_back l.expert l.held)) × (1 ≤ l.place)
