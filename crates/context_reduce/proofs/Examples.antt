-- Worked examples: a table of which one object and one attribute are reducible, and one of which nothing is.
use Rattle.std.proofs.Common.{◌≡◌, refl, [], ◌∷◌, None}
use Rattle.std.specs.Prelude.{codes}
use Rattle.std.specs.List.{flat_map}
use Rattle.fca_model.specs.Context.{Context}
use Rattle.fca_model.specs.Tables.{NamedContext}
use Rattle.fca_model.proofs.DrawnSets.{s}
use Rattle.context_reduce.specs.Reduce.{context_part, distinct_objects, distinct_attributes, irreducible_objects, irreducible_attributes}
use Rattle.context_reduce.specs.Arrows.{arrow_table}
use Rattle.context_reduce.specs.Texts.{object_line}

-- the rows {a, b}, {a, c}, {a} over a, b, c
abbrev three_rows : Context
three_rows = record { width = 3; rows = s (codes "XX.") ∷ s (codes "X.X") ∷ s (codes "X..") ∷ [] }

abbrev named : Context → NamedContext
named K = record {
  title = None;
  objects = codes "g" ∷ codes "h" ∷ codes "k" ∷ [];
  attributes = codes "a" ∷ codes "b" ∷ codes "c" ∷ [];
  context = K;
}

pub clarified_three : (distinct_objects three_rows ≡ 0 ∷ 1 ∷ 2 ∷ []) × (distinct_attributes three_rows ≡ 0 ∷ 1 ∷ 2 ∷ [])
unfolding distinct_objects
clarified_three = (refl, refl)

pub reduced_three : (irreducible_objects three_rows ≡ 0 ∷ 1 ∷ []) × (irreducible_attributes three_rows ≡ 1 ∷ 2 ∷ [])
unfolding irreducible_objects distinct_objects
reduced_three = (refl, refl)

pub part_of_three : context_part three_rows (0 ∷ 1 ∷ []) (1 ∷ 2 ∷ []) ≡ record { width = 2; rows = s (codes "X.") ∷ s (codes ".X") ∷ [] }
part_of_three = refl

pub arrows_of_three : flat_map (object_line (named three_rows) (arrow_table three_rows)) (0 ∷ 1 ∷ 2 ∷ []) ≡ codes "XXb g\nXbX h\nXuu k\n"
unfolding arrow_table
arrows_of_three = refl

-- three objects with one attribute each
abbrev nominal : Context
nominal = record { width = 3; rows = s (codes "X..") ∷ s (codes ".X.") ∷ s (codes "..X") ∷ [] }

pub nominal_stays : (irreducible_objects nominal ≡ 0 ∷ 1 ∷ 2 ∷ []) × (irreducible_attributes nominal ≡ 0 ∷ 1 ∷ 2 ∷ [])
unfolding irreducible_objects distinct_objects
nominal_stays = (refl, refl)

pub arrows_of_nominal : flat_map (object_line (named nominal) (arrow_table nominal)) (0 ∷ 1 ∷ 2 ∷ []) ≡ codes "Xbb g\nbXb h\nbbX k\n"
unfolding arrow_table
arrows_of_nominal = refl
