-- Worked examples: two people with their age and size, by two plans, and what the rows give back.
use Rattle.std.proofs.Common.{◌≡◌, [], ◌∷◌, Some, None, List, map, pos, refl, codes}
use Rattle.std.specs.Fmt.{digits}
use Rattle.fca_model.proofs.DrawnSets.{s}
use Rattle.value_tables.specs.Values.{ObjectValues}
use Rattle.context_scaling.specs.Scaling.{PlanRecord, made_names, object_row}
use Rattle.context_scaling.specs.Back.{back_at}
use Rattle.context_scaling.specs.declared.back.Back.TheVariants as back
use Rattle.context_scaling.specs.declared.scales.Kind.TheVariants as kind
use Rattle.context_scaling.specs.declared.scales.ScaleValue.TheVariants as value

abbrev people : List ObjectValues
people = record { name = codes "tim"; values = codes "21" ∷ codes "s" ∷ [] } ∷ record {
  name = codes "ann";
  values = codes "35" ∷ codes "l" ∷ [];
} ∷ []

abbrev bounds : List PlanRecord
bounds = record {
  kind = kind.Interordinal;
  attribute = codes "age";
  place = 0;
  values = value.Number (pos 21) ∷ value.Number (pos 30) ∷ [];
} ∷ []

abbrev sizes : List PlanRecord
sizes = record {
  kind = kind.Nominal;
  attribute = codes "size";
  place = 1;
  values = value.Text (codes "s") ∷ value.Text (codes "m") ∷ value.Text (codes "l") ∷ [];
} ∷ []

pub rows_by_bounds : map (object_row bounds) people ≡ s (codes "XXX.") ∷ s (codes "..XX") ∷ []
rows_by_bounds = refl

pub rows_by_sizes : map (object_row sizes) people ≡ s (codes "X..") ∷ s (codes "..X") ∷ []
rows_by_sizes = refl

pub names_of_bounds : made_names bounds ≡ codes "age <= 21" ∷ codes "age <= 30" ∷ codes "age >= 21" ∷ codes "age >= 30" ∷ []
unfolding digits
names_of_bounds = refl

pub bounds_back : map (back_at bounds 0) (map (object_row bounds) people) ≡ back.Between (Some (pos 21)) (Some (pos 21)) ∷ back.Between
    (Some (pos 30)) None ∷ []
bounds_back = refl

pub sizes_back : map (back_at sizes 0) (map (object_row sizes) people) ≡ back.Value 0 ∷ back.Value 2 ∷ []
sizes_back = refl
