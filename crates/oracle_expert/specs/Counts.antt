-- What is counted of an exploration by oracles.
use Rattle.std.specs.Prelude.{ℕ, suc, Some, None, List, [], ◌∷◌, filter, length}
use Rattle.fca_model.specs.Exploration.{SetEntry}
use Rattle.exploration_terms.specs.Recorded.{is_recorded}
use Rattle.oracle_expert.specs.Oracles.{Conflicts}

-- how many answers were recorded in a history: rows that were taken and implications that were accepted
abbrev pub answers_recorded_in : List SetEntry → ℕ
answers_recorded_in H = length (filter (λ entry. is_recorded entry.reply) H)

-- how many rows were dropped
abbrev pub dropped_count : Conflicts → ℕ
dropped_count [] = 0
dropped_count (None ∷ conflicts) = dropped_count conflicts
dropped_count (Some k ∷ conflicts) = suc (dropped_count conflicts)
