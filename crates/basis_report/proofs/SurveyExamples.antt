-- A worked example of what a survey counts, checked by computing.
use Rattle.std.proofs.Common.{◌≡◌, refl, true, false, [], ◌∷◌}
use Rattle.basis_report.specs.Surveys.{crosses}

-- the rows XX and .X
pub three_crosses : crosses (record { width = 2; rows = (true ∷ true ∷ []) ∷ (false ∷ true ∷ []) ∷ [] }) ≡ 3
three_crosses = refl
